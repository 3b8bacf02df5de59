-- A map and a walker's trail in numbers that a caller lends, and the calls over them. Each public function with what its contract hands to a caller. `proofs/Contracts` inhabits it. Assumes nothing.
use Rattle.std.specs.Prelude.{◌≡◌, List, ◌-◌}
use Rattle.maps.specs.Good.{checked, checked_done, good_fields}
use Rattle.maps.specs.Heads.{under, unmade_head}
use Rattle.maps.specs.Maps.{Is}
use Rattle.maps.specs.declared.Field.{Field}
use Rattle.reader.specs.Calls.{beginning, clearing, feeding, finishing}
use Rattle.lookups.specs.Lookups.{named, seeking}
use Rattle.edits.specs.Edits.{appending, removing, setting, statusing}
use Rattle.writes.specs.Written.{IsWritten, rebuilding, writing}
use Rattle.codes.specs.Codes.{coding, kind_of, length_of}
use Rattle.walker.specs.Walk.{ending, walking}
use Rattle.lent.specs.Numbers.{head_numbers, head_of, long_map, sound_head, sound_map}
use Rattle.lent.specs.Table.{field_at, field_put, fields_from, live_in, map_in, table_of}
use Rattle.lent_reader.specs.Lent.{fed_in, made_in}
use Rattle.lent_edits.specs.Lent.{edited_in}
use Rattle.lent_walker.specs.Lent.{Starts, walked_in, walker_in}
use Rattle.trails.specs.Trail.{sound_trail, trail_numbers, trail_of}
use Rattle.library.specs.Says.{Says, first, second, third, fourth, fifth, sixth, seventh}

pub record Lent : Type 0 where
  -- a map in lent numbers
  -- check(h, t, ready, block, store)
  pub check : Says Rattle.lent.proofs.check.Reads.Learnt (λ κ a r e. r ≡ checked (third a) (map_in (second a).now (first a)) (fourth a) (fifth a))
  -- check_done(h, t, block, store)
  pub check_done : Says Rattle.lent.proofs.check_done.Reads.Learnt (λ κ a r e. r ≡ checked_done (map_in (second a).now (first a)) (third a).now (fourth a).now)
  -- live_map(h, t)
  pub live_map : Says Rattle.lent.proofs.live_map.Reads.Learnt (λ κ a r e. r ≡ live_in (second a).now (first a))
  -- is_sound(n, t)
  pub is_sound : Says Rattle.lent.proofs.is_sound.Reads.Learnt (λ κ a r e. r ≡ sound_map (first a).now (second a).now)
  -- is_long(n, t)
  pub is_long : Says Rattle.lent.proofs.is_long.Reads.Learnt (λ κ a r e. r ≡ long_map (first a).now (second a).now)
  -- live_at(n, t)
  pub live_at : Says Rattle.lent.proofs.live_at.Reads.Learnt (λ κ a r e. r ≡ live_in (second a).now (head_of (first a).now))
  -- heads::is_sound(n)
  pub is_sound_head : Says Rattle.lent.proofs.heads.is_sound.Reads.Learnt (λ κ a r e. r ≡ sound_head (first a).now)
  -- heads::head_at(n)
  pub head_at : Says Rattle.lent.proofs.heads.head_at.Reads.Learnt (λ κ a r e. r ≡ head_of (first a).now)
  -- heads::put_head(n, h)
  pub put_head : Says Rattle.lent.proofs.heads.put_head.Reads.Learnt (λ κ a r e. (first e).now ≡ head_numbers (second a))
  -- heads::unmade()
  pub unmade : Says Rattle.lent.proofs.heads.unmade.Reads.Learnt (λ κ a r e. r ≡ unmade_head)
  -- tables::field_at(t, i)
  pub field_at_call : Says Rattle.lent.proofs.tables.field_at.Reads.Learnt (λ κ a r e. r ≡ field_at (first a).now (second a))
  -- tables::put_field(t, i, f)
  pub put_field_call : Says Rattle.lent.proofs.tables.put_field.Reads.Learnt (λ κ a r e. (first e).now ≡ field_put (first a).now (second a) (third a))
  -- tables::good_fields(t, n, count, mark)
  pub good_fields_call : Says Rattle.lent.proofs.tables.good_fields.Reads.Learnt (λ κ a r e. r ≡ good_fields (third a) (fourth a) (fields_from (first a).now 0 (second a)))
  -- tables::find(t, n, block, store, name, from)
  pub find : Says Rattle.lent.proofs.tables.find.Reads.Learnt (λ κ a r e. r ≡ seeking (named (third a).now (fourth a).now (fifth a).now) (sixth a) (fields_from (first a).now (sixth a) ((second a) - (sixth a))))
  -- the reader
  -- feed(h, t, block, store, piece)
  pub feed : Says Rattle.lent_reader.proofs.feed.Reads.Learnt (λ κ a r e. Is (feeding (map_in (second a).now (first a)) (third a).now (fourth a).now (fifth a).now) (fed_in (second e).now r) (third e).now (fourth e).now)
  -- finish(h, t, block, store)
  pub finish : Says Rattle.lent_reader.proofs.finish.Reads.Learnt (λ κ a r e. Is (finishing (map_in (second a).now (first a)) (third a).now (fourth a).now) (fed_in (second e).now r) (third a).now (fourth e).now)
  -- begin(h, limit, room, awaits, quirks, block, store)
  pub begin : Says Rattle.lent_reader.proofs.begin.Reads.Learnt (λ κ a r e. (T : List Field) → Is (beginning (under T (first a)) (second a) (third a) (fourth a) (fifth a) (sixth a).now (seventh a).now) (made_in T r) (sixth a).now (seventh a).now)
  -- clear(h, t, block, store)
  pub clear : Says Rattle.lent_reader.proofs.clear.Reads.Learnt (λ κ a r e. Is (clearing (map_in (second a).now (first a)) (third a).now (fourth a).now) (made_in (table_of (second a).now) r) (third a).now (fourth a).now)
  -- edits
  -- remove(h, t, block, store, key)
  pub remove : Says Rattle.lent_edits.proofs.remove.Reads.Learnt (λ κ a r e. Is (removing (map_in (second a).now (first a)) (third a).now (fourth a).now (fifth a).now) (edited_in (second e).now r) (third a).now (fourth a).now)
  -- set(h, t, block, store, key, value)
  pub set : Says Rattle.lent_edits.proofs.set.Reads.Learnt (λ κ a r e. Is (setting (map_in (second a).now (first a)) (third a).now (fourth a).now (fifth a).now (sixth a).now) (edited_in (second e).now r) (third a).now (fourth e).now)
  -- append(h, t, block, store, key, value)
  pub append : Says Rattle.lent_edits.proofs.append.Reads.Learnt (λ κ a r e. Is (appending (map_in (second a).now (first a)) (third a).now (fourth a).now (fifth a).now (sixth a).now) (edited_in (second e).now r) (third a).now (fourth e).now)
  -- set_status(h, t, block, store, text)
  pub set_status : Says Rattle.lent_edits.proofs.set_status.Reads.Learnt (λ κ a r e. Is (statusing (map_in (second a).now (first a)) (third a).now (fourth a).now (fifth a).now) (edited_in (second a).now r) (third a).now (fourth e).now)
  -- writing
  -- rebuild(h, t, block, store, out)
  pub rebuild : Says Rattle.lent_writes.proofs.rebuild.Reads.Learnt (λ κ a r e. IsWritten (rebuilding (map_in (second a).now (first a)) (third a).now (fourth a).now (fifth a).now) r (fifth e).now)
  -- write(h, t, block, store, out)
  pub write : Says Rattle.lent_writes.proofs.write.Reads.Learnt (λ κ a r e. IsWritten (writing (map_in (second a).now (first a)) (third a).now (fourth a).now (fifth a).now) r (fifth e).now)
  -- status code, content length, record type
  -- status_code(h, t, block, store)
  pub status_code_call : Says Rattle.lent_codes.proofs.status_code.Reads.Learnt (λ κ a r e. r ≡ coding (map_in (second a).now (first a)) (third a).now (fourth a).now)
  -- content_length(h, t, block, store)
  pub content_length_call : Says Rattle.lent_codes.proofs.content_length.Reads.Learnt (λ κ a r e. r ≡ length_of (map_in (second a).now (first a)) (third a).now (fourth a).now)
  -- record_type(h, t, block, store)
  pub record_type : Says Rattle.lent_codes.proofs.record_type.Reads.Learnt (λ κ a r e. r ≡ kind_of (map_in (second a).now (first a)) (third a).now (fourth a).now)
  -- a walker's trail in lent numbers
  -- is_sound(n)
  pub is_sound_trail : Says Rattle.trails.proofs.is_sound.Reads.Learnt (λ κ a r e. r ≡ sound_trail (first a).now)
  -- trail_at(n)
  pub trail_at : Says Rattle.trails.proofs.trail_at.Reads.Learnt (λ κ a r e. r ≡ trail_of (first a).now)
  -- put_trail(n, w)
  pub put_trail : Says Rattle.trails.proofs.put_trail.Reads.Learnt (λ κ a r e. (first e).now ≡ trail_numbers (second a))
  -- the walker
  -- start(h, room, position, block, store)
  pub start : Says Rattle.lent_walker.proofs.start.Reads.Learnt (λ κ a r e. Starts (first a) (second a) (third a) (fourth a).now (fifth a).now r)
  -- walk(trail, h, t, block, store, piece)
  pub walk : Says Rattle.lent_walker.proofs.walk.Reads.Learnt (λ κ a r e. Is (walking (walker_in (third a).now (second a) (first a)) (fourth a).now (fifth a).now (sixth a).now) (walked_in (third e).now r) (fourth e).now (fifth e).now)
  -- end(trail, h, t, block, store)
  pub end : Says Rattle.lent_walker.proofs.end.Reads.Learnt (λ κ a r e. Is (ending (walker_in (third a).now (second a) (first a)) (fourth a).now (fifth a).now) (walked_in (third a).now r) (fourth a).now (fifth a).now)
