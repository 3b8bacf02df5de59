-- The calls that a user makes on a map, a walker or octets. Each public function with what its contract hands to a caller. `proofs/Contracts` inhabits it. Assumes nothing.
use Rattle.std.specs.Prelude.{◌≡◌}
use Rattle.leaves.specs.Octets.{same_list}
use Rattle.maps.specs.Maps.{Is}
use Rattle.reader.specs.Calls.{beginning, clearing, feeding, finishing}
use Rattle.lookups.specs.Lookups.{Handed, finding, key_place, sighting, status_place, value_place}
use Rattle.edits.specs.Edits.{appending, removing, setting, statusing}
use Rattle.writes.specs.Written.{IsWritten, rebuilding, writing}
use Rattle.equals.specs.Equal.{comparing}
use Rattle.codes.specs.Codes.{Phrased, coding, kind_of, length_of, reasoning}
use Rattle.codes.specs.Line.{reason_start, status_code}
use Rattle.tidy.specs.Calls.{cleaning, tidying}
use Rattle.grammar.specs.Walk.{grammatical}
use Rattle.singles.specs.Single.{single}
use Rattle.openings.specs.Opening.{opening}
use Rattle.walker.specs.Walk.{ending, starting, walking}
use Rattle.resume.specs.Resume.{resuming}
use Rattle.library.specs.Says.{Says, first, second, third, fourth, fifth, sixth, seventh}

pub record Calls : Type 0 where
  -- the reader
  -- feed(m, block, store, piece)
  pub feed : Says Rattle.reader.proofs.feed.Reads.Learnt (λ κ a r e. Is (feeding (first a) (second a).now (third a).now (fourth a).now) r (second e).now (third e).now)
  -- finish(m, block, store)
  pub finish : Says Rattle.reader.proofs.finish.Reads.Learnt (λ κ a r e. Is (finishing (first a) (second a).now (third a).now) r (second a).now (third e).now)
  -- clear(m, block, store)
  pub clear : Says Rattle.reader.proofs.clear.Reads.Learnt (λ κ a r e. Is (clearing (first a) (second a).now (third a).now) r (second a).now (third a).now)
  -- begin(m, limit, room, awaits, quirks, block, store)
  pub begin : Says Rattle.reader.proofs.begin.Reads.Learnt (λ κ a r e. Is (beginning (first a) (second a) (third a) (fourth a) (fifth a) (sixth a).now (seventh a).now) r (sixth a).now (seventh a).now)
  -- lookups
  -- find(m, block, store, name, from)
  pub find : Says Rattle.lookups.proofs.find.Reads.Learnt (λ κ a r e. r ≡ finding (first a) (second a).now (third a).now (fourth a).now (fifth a))
  -- sight(m, block, store, name, from)
  pub sight : Says Rattle.lookups.proofs.sight.Reads.Learnt (λ κ a r e. r ≡ sighting (first a) (second a).now (third a).now (fourth a).now (fifth a))
  -- value(m, block, store, i)
  pub value : Says Rattle.lookups.proofs.value.Reads.Learnt (λ κ a r e. Handed (second a).now (third a).now (second a).ref_ptr (third a).ref_ptr (value_place (first a) (second a).now (third a).now (fourth a)) r.now r.ref_ptr)
  -- key(m, block, store, i)
  pub key : Says Rattle.lookups.proofs.key.Reads.Learnt (λ κ a r e. Handed (second a).now (third a).now (second a).ref_ptr (third a).ref_ptr (key_place (first a) (second a).now (third a).now (fourth a)) r.now r.ref_ptr)
  -- status(m, block, store)
  pub status : Says Rattle.lookups.proofs.status.Reads.Learnt (λ κ a r e. Handed (second a).now (third a).now (second a).ref_ptr (third a).ref_ptr (status_place (first a) (second a).now (third a).now) r.now r.ref_ptr)
  -- edits
  -- remove(m, block, store, key)
  pub remove : Says Rattle.edits.proofs.remove.Reads.Learnt (λ κ a r e. Is (removing (first a) (second a).now (third a).now (fourth a).now) r (second a).now (third a).now)
  -- set(m, block, store, key, value)
  pub set : Says Rattle.edits.proofs.set.Reads.Learnt (λ κ a r e. Is (setting (first a) (second a).now (third a).now (fourth a).now (fifth a).now) r (second a).now (third e).now)
  -- append(m, block, store, key, value)
  pub append : Says Rattle.edits.proofs.append.Reads.Learnt (λ κ a r e. Is (appending (first a) (second a).now (third a).now (fourth a).now (fifth a).now) r (second a).now (third e).now)
  -- set_status(m, block, store, text)
  pub set_status : Says Rattle.edits.proofs.set_status.Reads.Learnt (λ κ a r e. Is (statusing (first a) (second a).now (third a).now (fourth a).now) r (second a).now (third e).now)
  -- writing
  -- rebuild(m, block, store, out)
  pub rebuild : Says Rattle.writes.proofs.rebuild.Reads.Learnt (λ κ a r e. IsWritten (rebuilding (first a) (second a).now (third a).now (fourth a).now) r (fourth e).now)
  -- write(m, block, store, out)
  pub write : Says Rattle.writes.proofs.write.Reads.Learnt (λ κ a r e. IsWritten (writing (first a) (second a).now (third a).now (fourth a).now) r (fourth e).now)
  -- equality
  -- same_octets(a, b)
  pub same_octets : Says Rattle.equals.proofs.same_octets.Reads.Learnt (λ κ a r e. r ≡ same_list (first a).now (second a).now)
  -- compare(m, b, s, k, c, z)
  pub compare : Says Rattle.equals.proofs.compare.Reads.Learnt (λ κ a r e. r ≡ comparing (first a) (second a).now (third a).now (fourth a) (fifth a).now (sixth a).now)
  -- status code, reason, content length, record type
  -- status_code(m, block, store)
  pub status_code_call : Says Rattle.codes.proofs.status_code.Reads.Learnt (λ κ a r e. r ≡ coding (first a) (second a).now (third a).now)
  -- has_reason(m, block, store)
  pub has_reason : Says Rattle.codes.proofs.has_reason.Reads.Learnt (λ κ a r e. r ≡ reasoning (first a) (second a).now (third a).now)
  -- reason(m, block, store)
  pub reason : Says Rattle.codes.proofs.reason.Reads.Learnt (λ κ a r e. Phrased (first a) (second a).now (third a).now (second a).ref_ptr (third a).ref_ptr r.now r.ref_ptr)
  -- content_length(m, block, store)
  pub content_length_call : Says Rattle.codes.proofs.content_length.Reads.Learnt (λ κ a r e. r ≡ length_of (first a) (second a).now (third a).now)
  -- record_type(m, block, store)
  pub record_type : Says Rattle.codes.proofs.record_type.Reads.Learnt (λ κ a r e. r ≡ kind_of (first a) (second a).now (third a).now)
  -- line::code_of(text)
  pub code_of : Says Rattle.codes.proofs.line.code_of.Reads.Learnt (λ κ a r e. r ≡ status_code (first a).now)
  -- line::reason_start(text)
  pub reason_start_call : Says Rattle.codes.proofs.line.reason_start.Reads.Learnt (λ κ a r e. r ≡ reason_start (first a).now)
  -- the clean and the tidy test
  -- clean(m, block, store)
  pub clean : Says Rattle.tidy.proofs.clean.Reads.Learnt (λ κ a r e. r ≡ cleaning (first a) (second a).now (third a).now)
  -- tidy(octets, status, quirks, limit)
  pub tidy : Says Rattle.tidy.proofs.tidy.Reads.Learnt (λ κ a r e. r ≡ tidying (first a).now (second a) (third a) (fourth a))
  -- the grammar test
  -- grammatical(octets)
  pub grammatical : Says Rattle.grammar.proofs.grammatical.Reads.Learnt (λ κ a r e. r ≡ grammatical (first a).now)
  -- the value of a name that one field has
  -- only_value(m, block, store, name)
  pub only_value_call : Says Rattle.singles.proofs.only_value.Reads.Learnt (λ κ a r e. r.now ≡ single (first a) (second a).now (third a).now (fourth a).now)
  -- what a header opens
  -- open_record(m, block, store)
  pub open_record : Says Rattle.openings.proofs.open_record.Reads.Learnt (λ κ a r e. r ≡ opening (first a) (second a).now (third a).now)
  -- the walker
  -- start(m, room, position, block, store)
  pub start : Says Rattle.walker.proofs.start.Reads.Learnt (λ κ a r e. Is (starting (first a) (second a) (third a) (fourth a).now (fifth a).now) r (fourth a).now (fifth a).now)
  -- walk(w, block, store, piece)
  pub walk : Says Rattle.walker.proofs.walk.Reads.Learnt (λ κ a r e. Is (walking (first a) (second a).now (third a).now (fourth a).now) r (second e).now (third e).now)
  -- end(w, block, store)
  pub end : Says Rattle.walker.proofs.end.Reads.Learnt (λ κ a r e. Is (ending (first a) (second a).now (third a).now) r (second a).now (third a).now)
  -- the resume check
  -- resume(m, b, s, k, c, z)
  pub resume : Says Rattle.resume.proofs.resume.Reads.Learnt (λ κ a r e. r ≡ resuming (first a) (second a).now (third a).now (fourth a) (fifth a).now (sixth a).now)
