-- `standard::types::record_type` meets its contract: each test passes over one row of the table or answers its code. Assumes nothing.
use Rattle.standard.specs.Types.{TypeName, kinds, code_among}
use Rattle.leaves.specs.Name.{same_name}
use mathlib.Core.List.{List, [], ◌∷◌}
use mathlib.Core.Path.{◌≡◌, refl, sym, ◌∙◌}
use mathlib.Core.Bool.{true, false}
use Prim.Native.Nat.{ℕ}
use Rattle.standard.proofs.types.record_type.Goals as goal

miss : (k : TypeName) (ks : List TypeName) (s : List ℕ) → same_name s k.name ≡ false → code_among (k ∷ ks) s ≡ code_among ks s
unfolding code_among
miss k ks s e = rw e

hit : (k : TypeName) (ks : List TypeName) (s : List ℕ) → same_name s k.name ≡ true → code_among (k ∷ ks) s ≡ k.code
unfolding code_among
hit k ks s e = rw e

none_left : (s : List ℕ) → code_among [] s ≡ 32768
unfolding code_among
none_left s = refl

pub returns-then-same_name : goal.returns-then-same_name
unfolding kinds
returns-then-same_name c =
    sym
    (hit _ _ _ (sym c.same_name.ensures ∙ c.if-same_name.true))

pub returns-then-same_name-2 : goal.returns-then-same_name-2
unfolding kinds
returns-then-same_name-2 c =
    sym
    (miss _ _ _ (sym c.same_name.ensures ∙ c.if-same_name.false) ∙
    hit _ _ _ (sym c.same_name-2.ensures ∙ c.if-same_name-2.true))

pub returns-then-same_name-3 : goal.returns-then-same_name-3
unfolding kinds
returns-then-same_name-3 c =
    sym
    (miss _ _ _ (sym c.same_name.ensures ∙ c.if-same_name.false) ∙
    miss _ _ _ (sym c.same_name-2.ensures ∙ c.if-same_name-2.false) ∙
    hit _ _ _ (sym c.same_name-3.ensures ∙ c.if-same_name-3.true))

pub returns-then-same_name-4 : goal.returns-then-same_name-4
unfolding kinds
returns-then-same_name-4 c =
    sym
    (miss _ _ _ (sym c.same_name.ensures ∙ c.if-same_name.false) ∙
    miss _ _ _ (sym c.same_name-2.ensures ∙ c.if-same_name-2.false) ∙
    miss _ _ _ (sym c.same_name-3.ensures ∙ c.if-same_name-3.false) ∙
    hit _ _ _ (sym c.same_name-4.ensures ∙ c.if-same_name-4.true))

pub returns-then-same_name-5 : goal.returns-then-same_name-5
unfolding kinds
returns-then-same_name-5 c =
    sym
    (miss _ _ _ (sym c.same_name.ensures ∙ c.if-same_name.false) ∙
    miss _ _ _ (sym c.same_name-2.ensures ∙ c.if-same_name-2.false) ∙
    miss _ _ _ (sym c.same_name-3.ensures ∙ c.if-same_name-3.false) ∙
    miss _ _ _ (sym c.same_name-4.ensures ∙ c.if-same_name-4.false) ∙
    hit _ _ _ (sym c.same_name-5.ensures ∙ c.if-same_name-5.true))

pub returns-then-same_name-6 : goal.returns-then-same_name-6
unfolding kinds
returns-then-same_name-6 c =
    sym
    (miss _ _ _ (sym c.same_name.ensures ∙ c.if-same_name.false) ∙
    miss _ _ _ (sym c.same_name-2.ensures ∙ c.if-same_name-2.false) ∙
    miss _ _ _ (sym c.same_name-3.ensures ∙ c.if-same_name-3.false) ∙
    miss _ _ _ (sym c.same_name-4.ensures ∙ c.if-same_name-4.false) ∙
    miss _ _ _ (sym c.same_name-5.ensures ∙ c.if-same_name-5.false) ∙
    hit _ _ _ (sym c.same_name-6.ensures ∙ c.if-same_name-6.true))

pub returns-then-same_name-7 : goal.returns-then-same_name-7
unfolding kinds
returns-then-same_name-7 c =
    sym
    (miss _ _ _ (sym c.same_name.ensures ∙ c.if-same_name.false) ∙
    miss _ _ _ (sym c.same_name-2.ensures ∙ c.if-same_name-2.false) ∙
    miss _ _ _ (sym c.same_name-3.ensures ∙ c.if-same_name-3.false) ∙
    miss _ _ _ (sym c.same_name-4.ensures ∙ c.if-same_name-4.false) ∙
    miss _ _ _ (sym c.same_name-5.ensures ∙ c.if-same_name-5.false) ∙
    miss _ _ _ (sym c.same_name-6.ensures ∙ c.if-same_name-6.false) ∙
    hit _ _ _ (sym c.same_name-7.ensures ∙ c.if-same_name-7.true))

pub returns-then-same_name-8 : goal.returns-then-same_name-8
unfolding kinds
returns-then-same_name-8 c =
    sym
    (miss _ _ _ (sym c.same_name.ensures ∙ c.if-same_name.false) ∙
    miss _ _ _ (sym c.same_name-2.ensures ∙ c.if-same_name-2.false) ∙
    miss _ _ _ (sym c.same_name-3.ensures ∙ c.if-same_name-3.false) ∙
    miss _ _ _ (sym c.same_name-4.ensures ∙ c.if-same_name-4.false) ∙
    miss _ _ _ (sym c.same_name-5.ensures ∙ c.if-same_name-5.false) ∙
    miss _ _ _ (sym c.same_name-6.ensures ∙ c.if-same_name-6.false) ∙
    miss _ _ _ (sym c.same_name-7.ensures ∙ c.if-same_name-7.false) ∙
    hit _ _ _ (sym c.same_name-8.ensures ∙ c.if-same_name-8.true))

pub returns : goal.returns
unfolding kinds
returns c =
    sym
    (miss _ _ _ (sym c.same_name.ensures ∙ c.if-same_name.false) ∙
    miss _ _ _ (sym c.same_name-2.ensures ∙ c.if-same_name-2.false) ∙
    miss _ _ _ (sym c.same_name-3.ensures ∙ c.if-same_name-3.false) ∙
    miss _ _ _ (sym c.same_name-4.ensures ∙ c.if-same_name-4.false) ∙
    miss _ _ _ (sym c.same_name-5.ensures ∙ c.if-same_name-5.false) ∙
    miss _ _ _ (sym c.same_name-6.ensures ∙ c.if-same_name-6.false) ∙
    miss _ _ _ (sym c.same_name-7.ensures ∙ c.if-same_name-7.false) ∙
    miss _ _ _ (sym c.same_name-8.ensures ∙ c.if-same_name-8.false) ∙
    none_left _)
