-- A reading goes on in five ways; what each of them keeps, a reading keeps. Assumes nothing.
use Rattle.leaves.specs.declared.refusals.Refusal.{Refusal}
use Rattle.std.specs.Prelude.{Err, Ok, Result}
use mathlib.Core.Path.{◌≡◌, refl, sym}
use mathlib.Core.Bool.{Bool, true, false, not}
use mathlib.Core.List.{List, [], ◌∷◌, ◌++◌}
use Prim.Native.Nat.{ℕ}
use borrow.Author.Tests.{eqb-false}
use lib.ListN.{length}
use Rattle.leaves.proofs.ChoiceLaws.{by_if}
use Rattle.leaves.specs.Refusals.{refusal}
use Rattle.folds.specs.declared.Change.{Change}
use Rattle.folds.specs.declared.Change.TheVariants.{Nothing, Status as Headed, Put}
use Rattle.line_reader.specs.Reading.{Rules, Reading, goes, lined, ruled, closed, put, stopped, step, fed, finished}
use Rattle.line_reader.specs.declared.Answer.{Answer}
use Rattle.line_reader.specs.declared.Answer.TheVariants.{More, Blank, Input}

-- an octet goes into the block
abbrev pub taken : Reading → ℕ → Reading
taken r o = record { block = r.block ++ o ∷ []; line = r.line; found = r.found; answer = Ok More }

-- a line that has ended ends the block
abbrev pub blanked : Reading → Reading
blanked r = record { block = r.block; line = length r.block; found = r.found; answer = Ok Blank }

-- the input ends where no line is left over
abbrev pub ended : Reading → Reading
ended r = record { block = r.block; line = r.line; found = r.found; answer = Ok Input }

-- a line is handled by rule 4; the answer is a if nothing was refused
abbrev pub handled : Rules → Result Answer Refusal → Reading → Reading
handled R a r = lined r a (ruled R r).new (ruled R r).change

-- an answer that is no number
abbrev pub unrefused : Result Answer Refusal → Bool
unrefused (Ok More) = true
unrefused (Ok Blank) = true
unrefused (Ok Input) = true
unrefused (Err e) = false

-- a line takes no octet
pub lined_block : (r : Reading) (a : Result Answer Refusal) (new : List ℕ) (c : Result Change Refusal) → (lined r a new c).block ≡ r.block
lined_block r a new (Ok Nothing) = refl
lined_block r a new (Ok (Headed p)) = refl
lined_block r a new (Ok (Put slot x mark)) = refl
lined_block r a new (Err e) = refl

not_goes : (t : Bool) → not t ≡ true → t ≡ false
not_goes true e = sym e
not_goes false e = refl

does_go : (t : Bool) → not t ≡ false → t ≡ true
does_go true e = refl
does_go false e = sym e

module _ (R : Rules) (P : Reading → Type 0) where
  -- a reading q that has taken an octet: the line goes on, or its end ends the block, or it is handled
  pub record Onward (q : Reading) : Type 0 where
    pub octet : P q
    pub blank : P (blanked q)
    pub line : P (handled R (Ok More) q)

  -- what one octet does, case by case
  pub step_by : (r : Reading) (o : ℕ) → (goes r.answer ≡ false → P r) → (goes r.answer ≡ true → P (stopped R r (refusal 4)))
      → (goes r.answer ≡ true → (length r.block ≡ R.limit → ⊥) → Onward (taken r o))
      → P (step R r o)
  unfolding step put closed
  step_by r o still full on =
      by_if P _ _ _ (λ e. still (not_goes (goes r.answer) e))
      (λ g. by_if P _ _ _ (λ e. full (does_go (goes r.answer) g))
      (λ e.
      let w = on (does_go (goes r.answer) g) (eqb-false (length r.block) R.limit e) in
      by_if P _ _ _ (λ e. by_if P _ _ _ (λ e. w.blank) (λ e. w.line)) (λ e. w.octet)))

  -- P is kept by a stop at the limit, an octet, a blank line's end, a line of rule 4, and the input's end
  pub record Keeps : Type 0 where
    pub full : (r : Reading) → P r → P (stopped R r (refusal 4))
    pub octet : (r : Reading) (o : ℕ) → (length r.block ≡ R.limit → ⊥) → P r → P (taken r o)
    pub blank : (r : Reading) → P r → P (blanked r)
    pub line : (r : Reading) (a : Result Answer Refusal) → unrefused a ≡ true → P r → P (handled R a r)
    pub input : (r : Reading) → P r → P (ended r)

  module _ (k : Keeps) where
    pub step_keeps : (r : Reading) (o : ℕ) → P r → P (step R r o)
    step_keeps r o p =
        step_by r o (λ _. p) (λ _. k.full r p)
        (λ _ h.
        let q = k.octet r o h p in
        record { octet = q; blank = k.blank (taken r o) q; line = k.line (taken r o) (Ok More) refl q })

    pub fed_keeps : (r : Reading) (xs : List ℕ) → P r → P (fed R r xs)
    unfolding fed
    fed_keeps r [] p = p
    fed_keeps r (x ∷ xs) p = fed_keeps (step R r x) xs (step_keeps r x p)

    pub finished_keeps : (r : Reading) → P r → P (finished R r)
    unfolding finished
    finished_keeps r p = by_if P _ _ _ (λ _. p) (λ _. by_if P _ _ _ (λ _. k.line r (Ok Input) refl p) (λ _. k.input r p))
