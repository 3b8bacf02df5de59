-- What a turn makes of a table by value, and what a reading that stopped gives as the map and the loans of a call. Assumes nothing.
use Rattle.leaves.specs.declared.refusals.Refusal.{Refusal}
use Rattle.std.specs.Prelude.{Err, Ok, Result}
use mathlib.Core.Path.{◌≡◌, refl, sym, ap, subst, ◌∙◌}
use mathlib.Core.Bool.{Bool, true, false}
use mathlib.Core.List.{List, []}
use Prim.Native.Nat.{ℕ, ◌+◌, ◌-◌, ◌≤◌, ◌<◌}
use native.Mathlib.Omega.{arith}
use lib.ListN.{length, take, drop, get_or, set}
use lib.Seq.{length-take-le, set-get_or}
use Rattle.maps.specs.Heads.{under, head_of}
use Rattle.maps.specs.Good.{Ready}
use Rattle.maps.specs.Maps.{Is}
use Rattle.maps.specs.Places.{no_field}
use Rattle.maps.specs.declared.Field.{Field}
use Rattle.maps.specs.declared.Head.{Head}
use Rattle.maps.specs.declared.HeaderMap.{HeaderMap}
use Rattle.folds.specs.declared.Change.{Change}
use Rattle.folds.specs.declared.Change.TheVariants.{Nothing, Status as Headed, Put}
use Rattle.folds.proofs.ListLaws.{laid}
use Rattle.line_reader.specs.Standing.{rules_of, answering}
use Rattle.line_reader.specs.Handling.{Puts, slot_of, put_in, next_handled}
use Rattle.line_reader.specs.declared.Answer.{Answer}
use Rattle.line_reader.specs.declared.Answer.TheVariants.{More, Blank, Input}
use Rattle.line_reader.specs.declared.Handled.{Handled}
use Rattle.line_reader.proofs.HeldLaws.{Frame, frame_of, Held, held_start, go_on, Feeding, feeding_on, later, one, handled_less}
use Rattle.line_reader.proofs.LineSteps.{Seated, seated, Handles, handled_is, Ended}
use Rattle.reader.specs.Calls.{gives, fed_from, finished_from}
use Rattle.reader.specs.Heads.{head_after}
use Rattle.reader.specs.declared.Fed.{Fed}

-- a field, and the slot that it goes to
pub record Spot : Type 0 where
  pub slot : ℕ
  pub field : Field

-- the field that a change puts; else the last one, where it is
abbrev pub spot_of : Result Change Refusal → ℕ → Field → Spot
spot_of (Ok Nothing) slot last = record { slot = slot; field = last }
spot_of (Ok (Headed p)) slot last = record { slot = slot; field = last }
spot_of (Ok (Put to x mark)) slot last = record { slot = to; field = x }
spot_of (Err e) slot last = record { slot = slot; field = last }

-- a field that a change puts, or the last field put again, is what the change makes of the table
put_spot : (t : List Field) (c : Result Change Refusal) (i : ℕ) → set t (spot_of c i (get_or t i no_field)).slot (spot_of c i (get_or t i no_field)).field ≡ put_in t c
put_spot t (Ok Nothing) i = set-get_or t i no_field
put_spot t (Ok (Headed p)) i = set-get_or t i no_field
put_spot t (Ok (Put slot x to)) i = refl
put_spot t (Err e) i = set-get_or t i no_field

spot_few : (c : Result Change Refusal) (i : ℕ) (x : Field) → slot_of c < 256 → i < 256 → (spot_of c i x).slot < 256
spot_few (Ok Nothing) i x h k = k
spot_few (Ok (Headed p)) i x h k = k
spot_few (Ok (Put slot y to)) i x h k = h
spot_few (Err e) i x h k = k

module _ (t : List Field) (c : Result Change Refusal) {i n : ℕ} (place : i ≡ n - 1) (few : n ≤ 256) (w : Puts c) {k : Spot} (e : k ≡ spot_of c i (get_or t i no_field)) where
  pub spot_in : k.slot < 256
  spot_in = rw e (spot_few c i (get_or t i no_field) w.slot (omega (arith, place, few)))

  pub spot_put : set t k.slot k.field ≡ put_in t c
  spot_put = rw e (put_spot t c i)

-- a turn of the loop, by the change that it made
module _ {p b₀ s₀ b s : List ℕ} {m : HeaderMap} {at : ℕ} {a : Result Answer Refusal} {going : Bool} (t : List Field) (h : Head) (inv : Feeding p m b₀ s₀ 0 (under t h) b s at a going)
    (go : going ≡ true) {i : ℕ} (place : i ≡ h.fields - 1) {r : Handled} {b' s' : List ℕ} (w : Is (next_handled h (get_or t i no_field) b s p at) r b' s') where
  handled_took : Handles p t h b s at r b' s'
  handled_took = handled_is (seated t h inv.held place) p at inv.held.read w

  pub handled_nears : (length p - r.taken) + one r.going < (length p - at) + one going
  handled_nears = handled_less (length p) at r.taken going r.going go (later handled_took.feeds.held) handled_took.feeds.held.read handled_took.further

  pub handled_on : {c : Result Change Refusal} → r.change ≡ c → Feeding p m b₀ s₀ 0 (under (put_in t c) r.head) b' s' r.taken r.answer r.going
  handled_on e = subst (λ (c : Result Change Refusal). Feeding p m b₀ s₀ 0 (under (put_in t c) r.head) b' s' r.taken r.answer r.going) e (feeding_on inv go handled_took.feeds)

  pub handled_puts : {c : Result Change Refusal} → r.change ≡ c → Puts c
  handled_puts e = subst Puts e handled_took.puts

abbrev framed : Frame → Head → Head
framed f h =
    record {
      limit = f.limit;
      room = f.room;
      count = h.count;
      line = h.line;
      mark = h.mark;
      fields = h.fields;
      status = h.status;
      awaits = h.awaits;
      quirks = f.quirks;
      edited = f.edited;
      phase = f.phase;
    }

abbrev ends_as : List Field → Head → ℕ → Result Answer Refusal → Fed
ends_as t h at a = record { map = under t (head_after a h); taken = at; answer = a }

-- what head_after leaves of a head, with the table, is the map of the answer
module _ {p : List ℕ} {m : HeaderMap} {b₀ s₀ b s : List ℕ} {at : ℕ} (t : List Field) (h : Head) (held : Held p m b₀ s₀ 0 (under t h) b s at) where
  count_is : length (take h.count b) ≡ h.count
  count_is = length-take-le h.count b (omega (arith, held.facts.count, held.block))

  mark_is : length (take h.mark s) ≡ h.mark
  mark_is = length-take-le h.mark s (omega (arith, held.facts.mark, held.store))

  fields_is : length (take h.fields t) ≡ h.fields
  fields_is = length-take-le h.fields t (omega (arith, held.wide, held.facts.few))

  taken_is : h.count - m.count ≡ at
  taken_is = omega (arith, held.taken)

  given : (a : Result Answer Refusal) → ends_as t (framed (frame_of m) h) at a ≡ (gives m b₀ s₀ (answering (under t h) b s a)).result
  given (Ok More) = rw (count_is, mark_is, fields_is, taken_is, laid t m.table h.fields held.kept_t)
  given (Ok Blank) = rw (count_is, mark_is, fields_is, taken_is, laid t m.table h.fields held.kept_t)
  given (Ok Input) = rw (count_is, mark_is, fields_is, taken_is, laid t m.table h.fields held.kept_t)
  given (Err e) = rw (count_is, fields_is, taken_is, laid t m.table h.fields held.kept_t)

  pub is_after : (a : Result Answer Refusal) → Is (gives m b₀ s₀ (answering (under t h) b s a)) (ends_as t h at a) b s
  is_after a =
      record {
        result = ap (λ (f : Frame). ends_as t (framed f h) at a) held.frame ∙ given a;
        block = sym (rw count_is (laid b b₀ h.count held.kept_b));
        store = sym (rw mark_is (laid s s₀ h.mark held.kept_s));
      }

-- the end of the loop
pub feed_end : {p : List ℕ} {m : HeaderMap} {b₀ s₀ b s : List ℕ} {at : ℕ} {a : Result Answer Refusal} {going : Bool} (t : List Field) (h : Head)
    → Feeding p m b₀ s₀ 0 (under t h) b s at a going → going ≡ false → Is (fed_from m b₀ s₀ p) (ends_as t h at a) b s
unfolding fed_from
feed_end {p} {m} {b₀} {s₀} {b} {s} {at} {a} {going} t h inv stop =
    rw (inv.rest ∙ ap (λ (g : Bool). go_on (rules_of m) g (answering (under t h) b s a) (drop at p)) stop) (is_after t h inv.held a)

-- the end of the input
module _ (m : HeaderMap) {h : Head} (e : h ≡ head_of m) {b s : List ℕ} where
  pub finish_seated : Ready m b s → length m.table ≡ 256 → {i : ℕ} → i ≡ h.fields - 1 → Seated m.table h (get_or m.table i no_field) b s
  finish_seated r w place = rw e (seated m.table (head_of m) (held_start [] r w) (rw e at place))

  pub finish_end : {s' : List ℕ} {r : Handled} → Ended m.table h b s r b s'
      → Is (finished_from m b s) (ends_as (put_in m.table r.change) r.head 0 r.answer) b s'
  unfolding finished_from
  finish_end {s'} {r} w = let v = rw e at w in rw v.says (is_after _ r.head v.held r.answer)
