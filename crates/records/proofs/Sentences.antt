-- The page's sentences on a single call, in every stage. Assumes nothing.
use Rattle.std.specs.Prelude.{Err, Ok, Result, true}
use mathlib.Core.Path.{◌≡◌, refl, sym, ap, ◌∙◌, subst}
use mathlib.Core.Bool.{false, false≢true}
use mathlib.Core.List.{List, [], ◌∷◌}
use Prim.Native.Nat.{ℕ, ◌≤◌, ◌<◌}
use native.Mathlib.Omega.{arith}
use lib.ListN.{length}
use Rattle.leaves.specs.Refusals.{number, refusal}
use Rattle.leaves.specs.declared.refusals.Refusal.{Refusal}
use Rattle.maps.specs.Good.{good}
use Rattle.maps.specs.Maps.{Given}
use Rattle.maps.proofs.GoodLaws.{not_refused}
use Rattle.walker.specs.Walk.{furthest, keeps, stands, stops_at, fresh, allowed, rest_walked, between_walked, header_walked, stage_walked, stage_ended, resting, checked_walker, walking, ending}
use Rattle.walker.specs.Answers.{told}
use Rattle.walker.specs.declared.Stage.{Stage}
use Rattle.walker.specs.declared.Stage.TheVariants.{Between, Header, Body, Cr, Lf, LastCr, LastLf, Ended, Stopped}
use Rattle.walker.specs.declared.Step.{Step}
use Rattle.walker.specs.declared.Step.TheVariants.{More, End}
use Rattle.walker.specs.declared.Walker.{Walker}
use Rattle.walker.specs.declared.Walked.{Walked}
use Rattle.walker.proofs.WalkLaws.{allowed_is, is_given, checks_give, by_body, by_rest, by_between, by_header, body_part_lem, rest_some, walk_checked, walk_stopped, on_empty, on_stage, walk_rests, walk_over, end_rests, end_over, end_checked, end_stopped}
use Rattle.records.specs.Stages.{heading, wanted, Goes, Leaves, Follows}
use Rattle.records.specs.Walks.{AfterWalk, AfterEnd, Calls, BodyFirst}
use Rattle.records.proofs.Feeds.{emptied_good}
use Rattle.records.proofs.Reach.{allowed_none}
use Rattle.records.proofs.Able.{Able, Standing, able, refused, ended, stopped, standing, fine_of, fresh_fine, header_fine}
use Rattle.records.proofs.Ways.{apart, quiet, far_outside, far_inside, trailer_after}
use Rattle.records.proofs.HeaderWays.{read_after, reads_on, begins}

-- the first checks give 2, 3 or 7
low_checks : (w : Walker) (b s : List ℕ) (x : Refusal) → Err x ≡ checked_walker w (length b) (length s) → (number x < 8) × (3 < number x → 6 < number x)
low_checks w b s =
    checks_give (λ (x : Refusal). (number x < 8) × (3 < number x → 6 < number x)) (omega arith, λ i. omega arith) (omega arith, λ i. omega arith) (omega arith, λ i. omega arith)
    w (length b) (length s)

-- a walk by a walker that goes on
module _ (w : Walker) (b s : List ℕ) where
  abbrev R : List ℕ → Given Walked → Type 0
  R p g = AfterWalk w b s p g

  empty_after : resting w.stage ≡ Ok true → R [] (keeps b s (stands w (Ok More)))
  empty_after walks =
      quiet w b s [] _ refl (omega arith) (λ _ h _. omega arith) (λ j h i e. omega arith) (λ _. omega arith) walks

  refused_after : (p : List ℕ) (x : Refusal) → Err x ≡ checked_walker w (length b) (length s) → R p (keeps b s (stops_at w x))
  refused_after p x e =
      let low = low_checks w b s x e in
      quiet w b s p _ refl (omega arith) (λ g _ _. not_refused x (g.fine ∙ sym e)) (λ j h i f. omega (arith, low.0)) low.1 refl

  module _ (x : ℕ) (xs : List ℕ) where
    abbrev p : List ℕ
    p = x ∷ xs

    abbrev K : Walked → Type 0
    K r = R p (keeps b s r)

    abbrev k : ℕ
    k = allowed w.position (length p)

    far : k ≡ 0 → furthest ≤ w.position
    far z = allowed_none w.position (length p) (omega arith) z

    near : (k ≡ 0 → ⊥) → w.position < furthest
    near z = omega (arith, z, allowed_is w.position (length p))

    between_after : w.stage ≡ Between → Able w b s → R p (between_walked w b s p)
    between_after t a =
        by_between (R p) w b s p (λ z. far_outside w b s x xs (far z) (λ h. apart h t))
        (λ z. begins w b s x xs _ (near z) t (read_after w (fresh w.map) w.position b s p (fresh_fine w b s t a)))

    header_after : w.stage ≡ Header → Able w b s → R p (header_walked w b s p)
    header_after t a =
        by_header (R p) w b s p (λ z. far_inside w b s x xs (far z) t (header_fine w b s t a))
        (λ z. reads_on w b s x xs _ (near z) t (read_after w w.map w.start b s p (header_fine w b s t a)))

    rest_after : w.stage ≡ Body → R p (keeps b s (rest_walked w p))
    rest_after t =
        by_rest K w p (λ _. trailer_after w b s p 0 (omega arith) (ap heading t) (ap wanted t))
        (λ _. by_body K w k (λ z. far_outside w b s x xs (far z) (λ h. let y : ◌≡◌ {A = ℕ} 0 1 = cc in omega arith))
        (λ z.
        quiet w b s p _ refl (omega (arith, allowed_is w.position (length p))) (λ _ _ h. omega (arith, near z)) (λ j h i e. omega arith) (λ _. omega arith)
        refl))

    stage_after : Able w b s → (t : Stage) → w.stage ≡ t → R p (stage_walked t w b s p)
    stage_after a Between t = between_after t a
    stage_after a Header t = header_after t a
    stage_after a Body t = rest_after t
    stage_after a Cr t = trailer_after w b s p 0 (omega arith) (ap heading t) (ap wanted t)
    stage_after a Lf t = trailer_after w b s p 1 (omega arith) (ap heading t) (ap wanted t)
    stage_after a LastCr t = trailer_after w b s p 2 (omega arith) (ap heading t) (ap wanted t)
    stage_after a LastLf t = trailer_after w b s p 3 (omega arith) (ap heading t) (ap wanted t)
    stage_after a Ended t = let h = a.walks in let z : ◌≡◌ {A = ℕ} 0 1 = cc in absurd (omega arith)
    stage_after a (Stopped e) t = let h = a.walks in let z : ◌≡◌ {A = ℕ} 0 1 = cc in absurd (omega arith)

  able_after : Able w b s → (p : List ℕ) → R p (walking w b s p)
  able_after a [] = rw (walk_checked w b s (resting w.stage) refl a.walks [] (fine_of w b s a) ∙ on_empty w b s [] refl) (empty_after a.walks)
  able_after a (x ∷ xs) =
      rw (walk_checked w b s (resting w.stage) refl a.walks (x ∷ xs) (fine_of w b s a) ∙ on_stage w b s (x ∷ xs) (λ z. absurd (omega arith)) w.stage refl)
      (stage_after x xs a w.stage refl)

  -- a walker that is stopped or ended
  rests_after : (p : List ℕ) (step : Result Step Refusal) → (resting w.stage ≡ Ok true → ⊥) → heading w.stage ≡ false → Follows step w
      → R p (keeps b s (stands w step))
  rests_after p step rests h follows =
      record {
        block = refl;
        store = refl;
        outside = λ _. leaves;
        empty = λ _. leaves;
        too_far = λ _ _. leaves;
        inside = λ t. absurd (false≢true (sym h ∙ ap heading t));
        begins = λ t _. absurd (false≢true (sym h ∙ ap heading t));
        follows = follows;
        stays_good = λ fair. fair;
        near = omega arith;
        first = λ g _ _. absurd (rests g.walks);
        thirteen = λ t _. absurd (rests t);
        eleven = λ t _. absurd (rests t);
      }
    where
      leaves : Leaves w.map b s (keeps b s (stands w step))
      leaves = record { map = refl; block = refl; store = refl }

  pub after_walk : (p : List ℕ) → R p (walking w b s p)
  after_walk p = by (standing w b s)
    where
      by : Standing w b s → R p (walking w b s p)
      by (able a) = able_after a p
      by (refused e r c) = rw (walk_stopped w b s (resting w.stage) refl r p e c) (refused_after p e c)
      by (ended t) =
          rw (walk_over w b s p (resting w.stage) refl (ap resting t))
          (rests_after p (Ok End) (λ r. let z : Ok false ≡ Ok true = sym (ap resting t) ∙ r in let y : ◌≡◌ {A = ℕ} 0 1 = cc in omega arith) (ap heading t) t)
      by (stopped e t) =
          rw (walk_rests w b s p (resting w.stage) refl e (ap resting t))
          (rests_after p (Err e) (λ r. let z : Err e ≡ Ok true = sym (ap resting t) ∙ r in let y : ◌≡◌ {A = ℕ} 0 1 = cc in omega arith) (ap heading t) t)

-- the end of input
module _ (w : Walker) (b s : List ℕ) where
  abbrev E : Walked → Type 0
  E r = AfterEnd w b s (keeps b s r)

  same_end : (r : Walked) → r.walker.map ≡ w.map → (w.stage ≡ Header → told r.step ≡ 12 → ⊥) → Follows r.step r.walker → E r
  same_end r h i follows =
      record { block = refl; store = refl; outside = λ _. h; inside = λ t e. absurd (i t e); follows = follows; stays_good = λ fair. ap good h ∙ fair }

  cut_short : (w.stage ≡ Header → ⊥) → E (stops_at w (refusal 12))
  cut_short h = same_end _ refl (λ t _. h t) refl

  no_header : (t : Stage) → w.stage ≡ t → heading t ≡ false → w.stage ≡ Header → ⊥
  no_header t e h f = false≢true (sym h ∙ ap heading (sym e ∙ f))

  stage_end : resting w.stage ≡ Ok true → (t : Stage) → w.stage ≡ t → E (stage_ended t w)
  stage_end r Between t = same_end _ refl (λ h _. apart h t) refl
  stage_end r Header t =
      record {
        block = refl;
        store = refl;
        outside = λ h. absurd (h t);
        inside = λ _ _. refl;
        follows = refl;
        stays_good = emptied_good w.map;
      }
  stage_end r Body t = cut_short (no_header Body t refl)
  stage_end r Cr t = cut_short (no_header Cr t refl)
  stage_end r Lf t = cut_short (no_header Lf t refl)
  stage_end r LastCr t = cut_short (no_header LastCr t refl)
  stage_end r LastLf t = cut_short (no_header LastLf t refl)
  stage_end r Ended t = let z : ◌≡◌ {A = ℕ} 0 1 = cc in absurd (omega arith)
  stage_end r (Stopped e) t = let z : ◌≡◌ {A = ℕ} 0 1 = cc in absurd (omega arith)

  pub after_end : AfterEnd w b s (ending w b s)
  after_end = by (standing w b s)
    where
      by : Standing w b s → AfterEnd w b s (ending w b s)
      by (able a) = rw (is_given (end_checked w b s (resting w.stage) refl a.walks (fine_of w b s a) (stage_ended w.stage w) refl)) (stage_end a.walks w.stage refl)
      by (refused e r c) =
          let low = low_checks w b s e c in
          rw (is_given (end_stopped w b s (resting w.stage) refl r e c)) (same_end _ refl (λ _ f. omega (arith, low.0)) refl)
      by (ended t) =
          rw (is_given (end_over w b s (resting w.stage) refl (ap resting t)))
          (same_end _ refl (λ h f. no_header Ended t refl h) t)
      by (stopped e t) =
          rw (is_given (end_rests w b s (resting w.stage) refl e (ap resting t)))
          (same_end _ refl (λ h f. no_header (Stopped e) t refl h) t)

  -- one that is stopped or ended
  pub repeats_number : (e : Refusal) → w.stage ≡ Stopped e → Calls w b s (stands w (Err e))
  repeats_number e t =
      record {
        walk = λ p. walk_rests w b s p (resting w.stage) refl e (ap resting t);
        end = is_given (end_rests w b s (resting w.stage) refl e (ap resting t));
      }

  pub repeats_end : w.stage ≡ Ended → Calls w b s (stands w (Ok End))
  repeats_end t =
      record {
        walk = λ p. walk_over w b s p (resting w.stage) refl (ap resting t);
        end = is_given (end_over w b s (resting w.stage) refl (ap resting t));
      }

  -- one that its first checks refuse
  pub refused_first : (e : Refusal) → resting w.stage ≡ Ok true → Err e ≡ checked_walker w (length b) (length s) → Calls w b s (stops_at w e)
  refused_first e r c =
      record {
        walk = λ p. walk_stopped w b s (resting w.stage) refl r p e c;
        end = is_given (end_stopped w b s (resting w.stage) refl r e c);
      }

  -- an empty piece
  pub takes_nothing : Goes w b s → walking w b s [] ≡ keeps b s (stands w (Ok More))
  takes_nothing g = walk_checked w b s (resting w.stage) refl g.walks [] g.fine ∙ on_empty w b s [] refl

  -- a body
  pub body_first : (p : List ℕ) → Goes w b s → 0 < length p → w.stage ≡ Body → 0 < w.rest → w.position < furthest → BodyFirst w p (walking w b s p)
  body_first p g h t i j =
      let k_is = allowed_is w.position (length p) in
      let some : allowed w.position (length p) ≡ 0 → ⊥ = λ z. omega (arith, k_is, z) in
      rw (walk_checked w b s (resting w.stage) refl g.walks p g.fine ∙ on_stage w b s p (λ z. omega arith) Body t)
      (subst (λ (r : Walked). BodyFirst w p (keeps b s r)) (body_part_lem w _ some _ refl ∙ rest_some w p (λ z. omega arith) _ refl)
      (record { part = refl; taken = omega (arith, k_is); some = omega (arith, k_is) }))
