-- Maps and rule 4. Each public function with what its contract hands to a caller. `proofs/Contracts` inhabits it. Assumes nothing.
use Rattle.std.specs.Prelude.{◌≡◌, take}
use Rattle.maps.specs.Good.{checked, checked_done, good_counts, good_field, good_rooms, good_status, is_done, is_reading}
use Rattle.maps.specs.Heads.{head_of, under}
use Rattle.maps.specs.Maps.{unmade}
use Rattle.maps.specs.Places.{Parted, in_block, in_store}
use Rattle.folds.specs.Asks.{Changes}
use Rattle.folds.specs.Rule.{ends_block, rule4}
use Rattle.library.specs.Says.{Says, first, second, third, fourth, fifth, sixth, seventh, eighth, ninth, tenth}

pub record Maps : Type 0 where
  -- maps
  -- new()
  pub new : Says Rattle.maps.proofs.HeaderMap.new.Reads.Learnt (λ κ a r e. r ≡ unmade)
  -- head(self)
  pub head : Says Rattle.maps.proofs.HeaderMap.head.Reads.Learnt (λ κ a r e. r ≡ head_of (first a))
  -- under(table, h)
  pub under_call : Says Rattle.maps.proofs.HeaderMap.under.Reads.Learnt (λ κ a r e. r ≡ under (first a) (second a))
  -- wide(x)
  pub wide : Says Rattle.maps.proofs.wide.Reads.Learnt (λ κ a r e. r ≡ (first a))
  -- in_block(from, to)
  pub in_block_call : Says Rattle.maps.proofs.in_block.Reads.Learnt (λ κ a r e. r ≡ in_block (first a) (second a))
  -- in_store(from, to)
  pub in_store_call : Says Rattle.maps.proofs.in_store.Reads.Learnt (λ κ a r e. r ≡ in_store (first a) (second a))
  -- part(block, store, p)
  pub part : Says Rattle.maps.proofs.part.Reads.Learnt (λ κ a r e. Parted (first a).now (second a).now (first a).ref_ptr (second a).ref_ptr (third a) r.now r.ref_ptr)
  -- good_status(s, count, mark)
  pub good_status_call : Says Rattle.maps.proofs.good_status.Reads.Learnt (λ κ a r e. r ≡ good_status (second a) (third a) (first a))
  -- good_field(f, count, mark)
  pub good_field_call : Says Rattle.maps.proofs.good_field.Reads.Learnt (λ κ a r e. r ≡ good_field (second a) (third a) (first a))
  -- good_rooms(limit, room)
  pub good_rooms_call : Says Rattle.maps.proofs.good_rooms.Reads.Learnt (λ κ a r e. r ≡ good_rooms (first a) (second a))
  -- good_counts(limit, room, count, mark, line, fields)
  pub good_counts_call : Says Rattle.maps.proofs.good_counts.Reads.Learnt (λ κ a r e. r ≡ good_counts (first a) (second a) (third a) (fourth a) (fifth a) (sixth a))
  -- check(m, ready, block, store)
  pub check : Says Rattle.maps.proofs.check.Reads.Learnt (λ κ a r e. r ≡ checked (second a) (first a) (third a) (fourth a))
  -- is_reading(p)
  pub is_reading_call : Says Rattle.maps.proofs.is_reading.Reads.Learnt (λ κ a r e. r ≡ is_reading (first a))
  -- is_done(p)
  pub is_done_call : Says Rattle.maps.proofs.is_done.Reads.Learnt (λ κ a r e. r ≡ is_done (first a))
  -- check_done(m, block, store)
  pub check_done : Says Rattle.maps.proofs.check_done.Reads.Learnt (λ κ a r e. r ≡ checked_done (first a) (second a).now (third a).now)
  -- folds
  -- ends_block(line, quirks)
  pub ends_block_call : Says Rattle.folds.proofs.ends_block.Reads.Learnt (λ κ a r e. r ≡ ends_block (second a) (first a).now)
  -- rule_four(block, store, start, count, awaits, last, fields, room, mark)
  pub rule_four : Says Rattle.folds.proofs.rule_four.Reads.Learnt (λ κ a r e. Changes (rule4 (eighth a) (take (fourth a) (first a).now) (third a) (fifth a) (seventh a) (sixth a) (ninth a) (take (ninth a) (second a).now)) (second a).now (ninth a) (second e).now r)
  -- line_change(c, block, store, start, count, awaits, last, fields, room, mark)
  pub line_change : Says Rattle.folds.proofs.line_change.Reads.Learnt (λ κ a r e. Changes (rule4 (ninth a) (take (fifth a) (second a).now) (fourth a) (sixth a) (eighth a) (seventh a) (tenth a) (take (tenth a) (third a).now)) (third a).now (tenth a) (third e).now r)
