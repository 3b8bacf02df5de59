-- What the page says of a walk by a walker that goes on, by what the walk does. Assumes nothing.
use Rattle.std.specs.Prelude.{Err, Ok, Result}
use mathlib.Core.Path.{◌≡◌, refl, sym, ap, ◌∙◌, subst}
use mathlib.Core.Bool.{true, false, false≢true}
use mathlib.Core.List.{List, ◌∷◌}
use Prim.Native.Nat.{ℕ, ◌+◌, ◌-◌, ◌≤◌, ◌<◌, min, max}
use native.Mathlib.Omega.{arith}
use lib.ListN.{length, take, drop, length-drop}
use lib.Seq.{take-take, get_or-take}
use Rattle.leaves.specs.Refusals.{number, refusal}
use Rattle.leaves.specs.declared.refusals.Refusal.{Refusal}
use Rattle.maps.specs.Maps.{Given}
use Rattle.maps.specs.Good.{good, checked_reading}
use Rattle.maps.proofs.GoodLaws.{checked_passes}
use Rattle.reader.specs.Calls.{feeding}
use Rattle.reader.specs.declared.Fed.{Fed}
use Rattle.walker.specs.Walk.{furthest, trailer, keeps, onward, stops_at, stops_inside, fresh, emptied, resting, allowed, common, trailer_stage, trailer_walked}
use Rattle.walker.specs.Answers.{told}
use Rattle.walker.specs.declared.Stage.{Stage}
use Rattle.walker.specs.declared.Stage.TheVariants.{Between, Header, Stopped}
use Rattle.walker.specs.declared.Step.{Step}
use Rattle.walker.specs.declared.Step.TheVariants.{More}
use Rattle.walker.specs.declared.Walker.{Walker}
use Rattle.walker.specs.declared.Walked.{Walked}
use Rattle.walker.proofs.WalkLaws.{allowed_is, common_takes, common_stops, common_within, by_trailer}
use Rattle.records.specs.Stages.{answer, heading, wanted, Goes, Leaves, Follows, Differs}
use Rattle.records.specs.Walks.{InHeader, AfterWalk}
use Rattle.records.proofs.Feeds.{emptied_good, fed_nothing}
use Rattle.records.proofs.Able.{outside_walks, trailer_outside}
use Rattle.records.proofs.Reach.{takes_allowed}

-- an answer that is no number from 9 on
abbrev pub Plain : ℕ → Type 0
Plain n = (j : ℕ) → 8 < j → j < 14 → n ≡ j → ⊥

pub plain_header : (g : Given Walked) (f : Given Fed) → Plain (answer g) → (3 < answer g → answer g < 7 → Leaves (emptied f.result.map) f.block f.store g) → InHeader g f
plain_header g f h four_to_six =
    record {
      four_to_six = four_to_six;
      nine = λ e. absurd (h 9 (omega arith) (omega arith) e);
      ten = λ e. absurd (h 10 (omega arith) (omega arith) e);
      thirteen = λ e. absurd (h 13 (omega arith) (omega arith) e);
    }

-- where 13 is met and 11, and the walker that is left
pub record Numbers (w : Walker) (p : List ℕ) (r : Walked) : Type 0 where
  pub follows : Follows r.step r.walker
  pub near : r.taken ≤ furthest - w.position
  pub thirteen : told r.step ≡ 13 → (w.position + r.taken ≡ max w.position furthest) × (r.taken < length p)
  pub eleven : told r.step ≡ 11 → Differs p (wanted w.stage) r.taken

pub plain_numbers : (w : Walker) (p : List ℕ) (r : Walked) → Follows r.step r.walker → r.taken ≤ furthest - w.position → Plain (told r.step) → Numbers w p r
plain_numbers w p r follows near h =
    record {
      follows = follows;
      near = near;
      thirteen = λ e. absurd (h 13 (omega arith) (omega arith) e);
      eleven = λ e. absurd (h 11 (omega arith) (omega arith) e);
    }

-- two stages are not one
pub apart : {A : Type 0} {t : Stage} → t ≡ Header → t ≡ Between → A
apart e f = let z : ◌≡◌ {A = ℕ} 0 1 = cc in absurd (omega arith)

module _ (w : Walker) (b s p : List ℕ) (r : Walked) (same : r.walker.map ≡ w.map) where
  leaves : Leaves w.map b s (keeps b s r)
  leaves = record { map = same; block = refl; store = refl }

  -- a call that leaves the map and the loans
  kept : Numbers w p r → (Goes w b s → 0 < length p → furthest ≤ w.position → told r.step ≡ 13)
      → (w.stage ≡ Header → InHeader (keeps b s r) (feeding w.map b s (take r.taken p)))
      → (w.stage ≡ Between → w.position < furthest → InHeader (keeps b s r) (feeding (fresh w.map) b s (take r.taken p)))
      → AfterWalk w b s p (keeps b s r)
  kept n first inside begins =
      record {
        block = refl;
        store = refl;
        outside = λ _. leaves;
        empty = λ _. leaves;
        too_far = λ _ _. leaves;
        inside = inside;
        begins = begins;
        follows = n.follows;
        stays_good = λ h. ap good same ∙ h;
        near = n.near;
        first = first;
        thirteen = λ _. n.thirteen;
        eleven = λ _. n.eleven;
      }

  -- one whose answer is no number from 9 on, and not 4, 5 or 6
  pub quiet : r.taken ≤ furthest - w.position → (Goes w b s → 0 < length p → furthest ≤ w.position → ⊥) → Plain (told r.step) → (3 < told r.step → 6 < told r.step)
      → Follows r.step r.walker → AfterWalk w b s p (keeps b s r)
  quiet near first h low follows =
      kept (plain_numbers w p r follows near h) (λ g i f. absurd (first g i f)) (λ _. plain_header _ _ h (λ i j. absurd (omega (arith, low i))))
      (λ _ _. plain_header _ _ h (λ i j. absurd (omega (arith, low i))))

-- a call in a header
module _ (w : Walker) (b s : List ℕ) (x : ℕ) (xs : List ℕ) (g : Given Walked) where
  pub in_header : drop w.map.limit g.block ≡ drop w.map.limit b → drop w.map.room g.store ≡ drop w.map.room s → heading w.stage ≡ true
      → good g.result.walker.map ≡ true → Numbers w (x ∷ xs) g.result → (furthest ≤ w.position → answer g ≡ 13) → (w.stage ≡ Between → w.position < furthest)
      → (w.stage ≡ Header → InHeader g (feeding w.map b s (take g.result.taken (x ∷ xs))))
      → (w.stage ≡ Between → InHeader g (feeding (fresh w.map) b s (take g.result.taken (x ∷ xs)))) → AfterWalk w b s (x ∷ xs) g
  in_header block store t fine n first near inside begins =
      record {
        block = block;
        store = store;
        outside = λ h. absurd (false≢true (sym h ∙ t));
        empty = λ h. absurd (omega arith);
        too_far = λ h i. absurd (omega (arith, near h));
        inside = inside;
        begins = λ h _. begins h;
        follows = n.follows;
        stays_good = λ _. fine;
        near = n.near;
        first = λ _ _ h. first h;
        thirteen = λ _. n.thirteen;
        eleven = λ _. n.eleven;
      }

-- an octet that is too far, where the walker stands
module _ (w : Walker) (b s : List ℕ) (x : ℕ) (xs : List ℕ) (far : furthest ≤ w.position) where
  none_taken : (r : Walked) → r.taken ≡ 0 → r.step ≡ Err (refusal 13) → r.walker.stage ≡ Stopped (refusal 13) → Numbers w (x ∷ xs) r
  none_taken r z e t =
      record {
        follows = subst (λ (u : Result Step Refusal). Follows u r.walker) (sym e) t;
        near = omega arith;
        thirteen = λ _. (omega arith, omega arith);
        eleven = λ f. let i : told (Err (refusal 13)) ≡ 11 = sym (ap told e) ∙ f in absurd (omega arith);
      }

  pub far_outside : (w.stage ≡ Header → ⊥) → AfterWalk w b s (x ∷ xs) (keeps b s (stops_at w (refusal 13)))
  far_outside no_header = kept w b s (x ∷ xs) _ refl (none_taken _ refl refl refl) (λ _ _ _. refl) (λ h. absurd (no_header h)) (λ _ i. absurd (omega arith))

  pub far_inside : w.stage ≡ Header → Ok tt ≡ checked_reading w.map b s → AfterWalk w b s (x ∷ xs) (keeps b s (stops_inside w (refusal 13)))
  far_inside t fine =
      let e = fed_nothing w.map b s fine in
      in_header w b s x xs _ refl refl (ap heading t) (emptied_good w.map (checked_passes _ w.map (length b) (length s) fine).0) (none_taken _ refl refl refl) (λ _. refl) (λ h. apart t h)
      (λ _.
      record {
        four_to_six = λ i j. absurd (omega arith);
        nine = λ f. absurd (omega arith);
        ten = λ f. absurd (omega arith);
        thirteen = λ _. record { map = sym e.map; block = sym e.block; store = sym e.store };
      })
      (λ h. apart t h)

-- a trailer
module _ (w : Walker) (b s p : List ℕ) (past : ℕ) (low : past < 4) (outside : heading w.stage ≡ false) (wants : wanted w.stage ≡ drop past trailer) where
  abbrev k : ℕ
  k = allowed w.position (length p)

  abbrev same : ℕ
  same = common (drop past trailer) (take k p)

  abbrev T : Walked → Type 0
  T r = AfterWalk w b s p (keeps b s r)

  k_is : k ≡ min (length p) (furthest - w.position)
  k_is = allowed_is w.position (length p)

  within : same ≤ k
  within = omega (arith, (common_within (drop past trailer) (take k p)).1, takes_allowed w.position p)

  no_header : w.stage ≡ Header → ⊥
  no_header e = false≢true (sym outside ∙ ap heading e)

  no_between : w.stage ≡ Between → ⊥
  no_between e = false≢true (sym outside ∙ ap heading e)

  walks_on : (t : Stage) → resting t ≡ Ok true → (0 < length p → furthest ≤ w.position → ⊥) → T (onward w t same (Ok More))
  walks_on t walks near =
      quiet w b s p _ refl (omega (arith, within, k_is)) (λ _. near) (λ j h i e. omega arith) (λ _. omega arith) walks

  -- a number that stops the walker in the trailer
  stopping : (x : Refusal) → (furthest ≤ w.position → number x ≡ 13) → Numbers w p (onward w (Stopped x) same (Err x)) → T (onward w (Stopped x) same (Err x))
  stopping x first n = kept w b s p _ refl n (λ _ _ f. first f) (λ h. absurd (no_header h)) (λ h _. absurd (no_between h))

  differs : (past + same ≡ 4 → ⊥) → same < k → T (onward w (Stopped (refusal 11)) same (Err (refusal 11)))
  differs d i =
      stopping (refusal 11) (λ f. absurd (omega (arith, k_is)))
      (record {
        follows = refl;
        near = omega (arith, within, k_is);
        thirteen = λ e. absurd (omega arith);
        eleven =
            λ _.
            subst (λ (l : List ℕ). Differs p l same) (sym wants)
            (record {
              here = omega (arith, k_is);
              wanting = shorter;
              same = sym (common_takes (drop past trailer) (take k p) ∙ take-take same k p within);
              other =
                  λ e.
                  common_stops (drop past trailer) (take k p) shorter (omega (arith, takes_allowed w.position p)) (sym e ∙ sym (get_or-take k p same 0 i));
            });
      })
    where
      shorter : same < length (drop past trailer)
      shorter = omega (arith, (common_within (drop past trailer) (take k p)).0, length-drop past trailer, d)

  too_far : k ≤ same → k < length p → T (onward w (Stopped (refusal 13)) same (Err (refusal 13)))
  too_far i j =
      stopping (refusal 13) (λ _. refl)
      (record {
        follows = refl;
        near = omega (arith, within, k_is);
        thirteen = λ _. (omega (arith, within, k_is), omega (arith, within));
        eleven = λ e. absurd (omega arith);
      })

  pub trailer_after : T (trailer_walked w past p)
  trailer_after =
      by_trailer T w past p (λ d. walks_on Between refl (λ h i. omega (arith, within, k_is, d, low))) differs (λ d i j. too_far i j)
      (λ d i j. walks_on (trailer_stage (past + same)) (outside_walks (trailer_stage (past + same)) (trailer_outside (past + same))) (λ h f. omega (arith, k_is)))
