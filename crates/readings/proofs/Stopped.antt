-- What a reading leaves in the map and in the loans, whatever its answer. Assumes nothing.
use Rattle.std.specs.Prelude.{Err, Ok, Result}
use mathlib.Core.Path.{◌≡◌, refl, sym, ◌∙◌, ap}
use mathlib.Core.Bool.{false, false≢true}
use mathlib.Core.List.{List, [], ◌++◌, append_assoc, append-nil}
use Prim.Native.Nat.{ℕ, ◌+◌, ◌-◌, ◌≤◌}
use native.Mathlib.Omega.{arith}
use lib.ListN.{length, take, drop, length-append}
use lib.Seq.{length-take-le, take-nil, drop-append_seam}
use Rattle.leaves.proofs.ChoiceLaws.{by_if}
use Rattle.leaves.specs.Paste.{lay, pasted}
use Rattle.leaves.specs.declared.refusals.Refusal.{Refusal}
use Rattle.maps.specs.Good.{Ready, checked_reading}
use Rattle.maps.specs.Maps.{empty}
use Rattle.maps.specs.declared.Phase.TheVariants.{Done}
use Rattle.maps.specs.declared.HeaderMap.{HeaderMap}
use Rattle.maps.proofs.GoodLaws.{ready_of}
use Rattle.folds.specs.declared.Change.{Change}
use Rattle.folds.specs.declared.Change.TheVariants.{Nothing, Status as Headed, Put}
use Rattle.line_reader.specs.Reading.{Rules, Reading, lined, ruled, fed, finished}
use Rattle.reader.specs.Calls.{map_of, gives, feeding, finishing}
use Rattle.line_reader.specs.Standing.{rules_of, reading_of}
use Rattle.line_reader.specs.declared.Answer.{Answer}
use Rattle.line_reader.specs.declared.Answer.TheVariants.{More, Blank, Input}
use Rattle.line_reader.proofs.Steps.{unrefused, lined_block, Keeps, fed_keeps, finished_keeps}
use Rattle.readings.specs.Hears.{Leaves}
use Rattle.readings.proofs.Cut.{fed_goes, finish_goes}
use Rattle.readings.proofs.ListeningLaws.{fed_octets}

module _ (R : Rules) (r : Reading) where
  -- the store of q is that of r with what folds wrote behind it
  record Wrote (q : Reading) : Type 0 where
    new : List ℕ
    is : q.found.store ≡ r.found.store ++ new

  lined_wrote : (q : Reading) (a : Result Answer Refusal) (new : List ℕ) (c : Result Change Refusal) → Wrote q → Wrote (lined q a new c)
  lined_wrote q a new (Ok Nothing) w = record { new = w.new; is = w.is }
  lined_wrote q a new (Ok (Headed p)) w = record { new = w.new; is = w.is }
  lined_wrote q a new (Err e) w = record { new = w.new; is = w.is }
  lined_wrote q a new (Ok (Put slot x to)) w =
      record { new = w.new ++ new; is = ap (λ (l : List ℕ). l ++ new) w.is ∙ append_assoc r.found.store w.new new }

  wrote_keeps : Keeps R Wrote
  wrote_keeps =
      record {
        full = λ q w. record { new = w.new; is = w.is };
        octet = λ q o h w. record { new = w.new; is = w.is };
        blank = λ q w. record { new = w.new; is = w.is };
        line = λ q a u w. lined_wrote q a (ruled R q).new (ruled R q).change w;
        input = λ q w. record { new = w.new; is = w.is };
      }

  wrote_nothing : Wrote r
  wrote_nothing = record { new = []; is = sym (append-nil r.found.store) }

  fed_wrote : (os : List ℕ) → Wrote (fed R r os)
  fed_wrote os = fed_keeps R Wrote wrote_keeps r os wrote_nothing

  finished_wrote : Wrote (finished R r)
  finished_wrote = finished_keeps R Wrote wrote_keeps r wrote_nothing

-- a finish takes no octet
finished_block : (R : Rules) (r : Reading) → (finished R r).block ≡ r.block
unfolding finished
finished_block R r =
    by_if (λ (q : Reading). q.block ≡ r.block) _ _ _ (λ e. refl)
    (λ e. by_if (λ (q : Reading). q.block ≡ r.block) _ _ _ (λ e. lined_block r (Ok Input) (ruled R r).new (ruled R r).change) (λ e. refl))

-- a text of n octets, and what stands behind it in y, over the list l
over : (l y : List ℕ) (n : ℕ) (new : List ℕ) → n ≤ length l → y ≡ take n l ++ new → lay l y ≡ pasted l n new
unfolding pasted
over l y n new h e =
    let k : length (take n l) ≡ n = length-take-le n l h in
    let m : length y ≡ n + length new = ap length e ∙ length-append (take n l) new ∙ ap (λ (i : ℕ). i + length new) k in
    ap (λ (z : List ℕ). z ++ drop (length y) l) e ∙ append_assoc (take n l) new (drop (length y) l) ∙
    ap (λ (i : ℕ). take n l ++ (new ++ drop i l)) m

behind : (l y : List ℕ) (n : ℕ) (new : List ℕ) → n ≤ length l → y ≡ take n l ++ new → drop n y ≡ new
behind l y n new h e =
    let k : length (take n l) ≡ n = length-take-le n l h in
    ap (drop n) e ∙ ap (λ (i : ℕ). drop i (take n l ++ new)) (sym k) ∙ drop-append_seam (take n l) new

-- a number empties the map
emptied : (m : HeaderMap) (q : Reading) (a : Result Answer Refusal) (e : Refusal) → a ≡ Err e
    → map_of m q a ≡ empty (map_of m q a).table m.limit m.room false false Done
emptied m q (Ok More) e f = absurd (false≢true (sym (ap unrefused f)))
emptied m q (Ok Blank) e f = absurd (false≢true (sym (ap unrefused f)))
emptied m q (Ok Input) e f = absurd (false≢true (sym (ap unrefused f)))
emptied m q (Err x) e f = refl

module _ (m : HeaderMap) (b s : List ℕ) (fine : Ok tt ≡ checked_reading m b s) where
  ready : Ready m b s
  ready = ready_of _ m b s fine

  abbrev R : Rules
  R = rules_of m

  abbrev r : Reading
  r = reading_of m b s

  counted : m.count ≤ length b
  counted = omega (arith, ready.count, ready.block)

  marked : m.mark ≤ length s
  marked = omega (arith, ready.mark, ready.store)

  -- the reading q took the first octets of p
  leaves : (p : List ℕ) (q : Reading) → q.block ≡ r.block ++ take (length q.block - length r.block) p → Wrote R r q → Leaves m b s p q (gives m b s q)
  leaves p q e w =
      let long : length r.block ≡ m.count = length-take-le m.count b counted in
      let f : q.block ≡ take m.count b ++ take (length q.block - m.count) p = e ∙ ap (λ (n : ℕ). take m.count b ++ take (length q.block - n) p) long in
      record {
        block = over b q.block m.count (take (length q.block - m.count) p) counted f;
        store = over s q.found.store m.mark w.new marked w.is ∙ ap (pasted s m.mark) (sym (behind s q.found.store m.mark w.new marked w.is));
        stopped = λ x h. emptied m q q.answer x h;
      }

  pub feed_leaves : (p : List ℕ) → Leaves m b s p (fed R r p) (feeding m b s p)
  feed_leaves p = rw (fed_goes m b s p fine) (leaves p (fed R r p) (fed_octets R r p) (fed_wrote R r p))

  pub finish_leaves : Leaves m b s [] (finished R r) (finishing m b s)
  finish_leaves =
      let q = finished R r in
      let e : q.block ≡ r.block = finished_block R r in
      rw (finish_goes m b s fine)
      (leaves [] q (e ∙ sym (append-nil r.block) ∙ ap (λ (l : List ℕ). r.block ++ l) (sym (take-nil (length q.block - length r.block)))) (finished_wrote R r))
