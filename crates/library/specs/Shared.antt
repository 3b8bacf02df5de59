-- What a call over a map by value and the same over one in lent numbers are both made of. Each public function with what its contract hands to a caller. `proofs/Contracts` inhabits it. Assumes nothing.
use Rattle.std.specs.Prelude.{◌≡◌, true, false, ◌||◌, [], ◌∷◌, ◌++◌, ◌+◌, ◌-◌, ◌≤◌, ltb, length}
use Rattle.leaves.specs.Octets.{before}
use Rattle.leaves.specs.Paste.{pasted}
use Rattle.leaves.specs.Sanitise.{sanitised}
use Rattle.maps.specs.Heads.{empty_head}
use Rattle.maps.specs.Maps.{Is}
use Rattle.maps.specs.Said.{saying, status_at}
use Rattle.line_reader.specs.Handling.{next_handled, last_handled}
use Rattle.reader.specs.Calls.{checked_rooms}
use Rattle.reader.specs.Heads.{head_after}
use Rattle.lookups.specs.Lookups.{handed_out, status_in}
use Rattle.edits.specs.Edits.{planned}
use Rattle.writes.specs.Written.{IsWritten, Put, giving, pair_line, status_line, untouched}
use Rattle.openings.specs.Opening.{opened}
use Rattle.openings.specs.Sights.{noted, opened_at}
use Rattle.walker.specs.Trails.{Ends, Follows, Turns, headed_walked, kept_head}
use Rattle.walker.specs.Walk.{ready_at}
use Rattle.library.specs.Says.{Says, first, second, third, fourth, fifth, sixth}

pub record Shared : Type 0 where
  -- one line of a reading
  -- last_of(n)
  pub last_of : Says Rattle.line_reader.proofs.last_of.Reads.Learnt (λ κ a r e. r ≡ (first a) - 1)
  -- colon_of(piece, from, k, line, whole)
  pub colon_of : Says Rattle.line_reader.proofs.colon_of.Reads.Learnt (λ κ a r e. r ≡ before 58 (fourth a).now)
  -- handle_next(h, last, block, store, piece, at)
  pub handle_next : Says Rattle.line_reader.proofs.handle_next.Reads.Learnt (λ κ a r e. Is (next_handled (first a) (second a) (third a).now (fourth a).now (fifth a).now (sixth a)) r (third e).now (fourth e).now)
  -- handle_last(h, last, block, store)
  pub handle_last : Says Rattle.line_reader.proofs.handle_last.Reads.Learnt (λ κ a r e. Is (last_handled (first a) (second a) (third a).now (fourth a).now) r (third a).now (fourth e).now)
  -- the reader
  -- empty_head(limit, room, awaits, quirks, phase)
  pub empty_head_call : Says Rattle.reader.proofs.empty_head.Reads.Learnt (λ κ a r e. r ≡ empty_head (first a) (second a) (third a) (fourth a) (fifth a))
  -- head_after(answer, h)
  pub head_after_call : Says Rattle.reader.proofs.head_after.Reads.Learnt (λ κ a r e. r ≡ head_after (first a) (second a))
  -- check_rooms(limit, room, block, store)
  pub check_rooms : Says Rattle.reader.proofs.check_rooms.Reads.Learnt (λ κ a r e. r ≡ checked_rooms (first a) (second a) (third a) (fourth a))
  -- edits
  -- changed(e, k, n)
  pub changed : Says Rattle.edits.proofs.changed.Reads.Learnt (λ κ a r e. r ≡ ((first a) || ltb (second a) (third a)))
  -- plan_put(at, mark, room, key, value)
  pub plan_put : Says Rattle.edits.proofs.plan_put.Reads.Learnt (λ κ a r e. r ≡ planned (first a) (second a) (third a) (sanitised true (fourth a).now) (sanitised false (fifth a).now))
  -- write_both(store, mark, key, value)
  pub write_both : Says Rattle.edits.proofs.write_both.Reads.Learnt (λ κ a r e. (r ≡ (second a) + length (sanitised true (third a).now) + length (sanitised false (fourth a).now)) × ((first e).now ≡ pasted (first a).now (second a) (sanitised true (third a).now ++ sanitised false (fourth a).now)))
  -- writing
  -- put_two(out, at, x, y)
  pub put_two : Says Rattle.writes.proofs.put_two.Reads.Learnt (λ κ a r e. Put (first a).now (first e).now (second a) r ((third a) ∷ (fourth a) ∷ []))
  -- give(out, text)
  pub give : Says Rattle.writes.proofs.give.Reads.Learnt (λ κ a r e. IsWritten (giving (first a).now (second a).now) r (first e).now)
  -- put_pair(out, at, key, value)
  pub put_pair : Says Rattle.writes.proofs.put_pair.Reads.Learnt (λ κ a r e. Put (first a).now (first e).now (second a) r (pair_line (third a).now (fourth a).now))
  -- pair_length(key, value)
  pub pair_length : Says Rattle.writes.proofs.pair_length.Reads.Learnt (λ κ a r e. (r ≡ length (pair_line (first a).now (second a).now)) × (r ≤ 8589934594))
  -- status_length(s, block, store)
  pub status_length : Says Rattle.writes.proofs.status_length.Reads.Learnt (λ κ a r e. (r ≡ length (status_line (status_at (second a).now (third a).now (first a)))) × (r ≤ 4294967297))
  -- put_status(out, s, block, store)
  pub put_status : Says Rattle.writes.proofs.put_status.Reads.Learnt (λ κ a r e. Put (first a).now (first e).now 0 r (status_line (status_at (third a).now (fourth a).now (second a))))
  -- is_untouched(edited, count)
  pub is_untouched : Says Rattle.writes.proofs.is_untouched.Reads.Learnt (λ κ a r e. r ≡ untouched (first a) (second a))
  -- the status as a text
  -- status_text(status, block, store)
  pub status_text_call : Says Rattle.codes.proofs.status_text.Reads.Learnt (λ κ a r e. r.now ≡ handed_out (second a).now (third a).now (status_in (first a)))
  -- what a header opens
  -- note(z, key, i)
  pub note : Says Rattle.openings.proofs.note.Reads.Learnt (λ κ a r e. r ≡ noted (first a) (second a).now (third a))
  -- open_spots(status, z, block, store)
  pub open_spots : Says Rattle.openings.proofs.open_spots.Reads.Learnt (λ κ a r e. r ≡ opened_at (third a).now (fourth a).now (first a) (second a))
  -- open_good(m, block, store)
  pub open_good : Says Rattle.openings.proofs.open_good.Reads.Learnt (λ κ a r e. r ≡ opened (saying (first a) (second a).now (third a).now))
  -- the walker's turns
  -- turns::ready_at(stage, phase)
  pub ready_at_call : Says Rattle.walker.proofs.turns.ready_at.Reads.Learnt (λ κ a r e. r ≡ ready_at (first a) (second a))
  -- turns::kept_head(h, kept)
  pub kept_head_call : Says Rattle.walker.proofs.turns.kept_head.Reads.Learnt (λ κ a r e. r ≡ kept_head (second a) (first a))
  -- turns::turn(t, c, piece)
  pub turn : Says Rattle.walker.proofs.turns.turn.Reads.Learnt (λ κ a r e. Turns (first a) (second a) (third a).now r)
  -- turns::behind_header(h, t, taken, k, n)
  pub behind_header : Says Rattle.walker.proofs.turns.behind_header.Reads.Learnt (λ κ a r e. Follows (second a) r (λ w. headed_walked (first a) w.map w.position w.rest w.start (third a) (fourth a) (fifth a)))
  -- turns::end_trail(t, c)
  pub end_trail : Says Rattle.walker.proofs.turns.end_trail.Reads.Learnt (λ κ a r e. Ends (first a) (second a) r)
