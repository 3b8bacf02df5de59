-- What the code of a fold and of a split makes of the store. Assumes nothing.
use Rattle.leaves.specs.declared.refusals.Refusal.{Refusal}
use Rattle.std.specs.Prelude.{Err, Ok, Result}
use mathlib.Core.Path.{◌≡◌, refl, sym, ap, ◌∙◌}
use mathlib.Core.Bool.{Bool, true, false}
use mathlib.Core.List.{List, [], ◌∷◌, ◌++◌}
use Prim.Native.Nat.{ℕ, ◌+◌, ◌-◌, ◌≤◌, ◌<◌}
use native.Mathlib.Omega.{arith}
use borrow.Author.Tests.{ne_eqb, eq-eqb, le-leb, lt-leb, lt-ltb, le-ltb}
use lib.Dec.{leb}
use lib.ListN.{length, set, take, drop, length-append, length-drop}
use lib.Seq.{length-take-le}
use Rattle.leaves.specs.Trim.{trimmed}
use Rattle.leaves.specs.Paste.{pasted}
use Rattle.leaves.proofs.PasteLaws.{pasted_more, set_pasted}
use Rattle.leaves.proofs.ChoiceLaws.{if_true, if_false}
use Rattle.folds.specs.Rule.{Ruling, plain, put_field, grown, regrown, folded, split, rule4, continues, trimmed_at}
use Rattle.maps.specs.Places.{part, in_store, read_field}
use Rattle.leaves.specs.Octets.{before}
use Rattle.maps.specs.Good.{Fits, lies_in_block, lies_in_store}
use Rattle.folds.specs.Asks.{Changes}
use Rattle.maps.specs.declared.BlockOffset.{BlockOffset}
use Rattle.maps.specs.declared.StoreOffset.{StoreOffset}
use Rattle.maps.specs.declared.Field.{Field}
use Rattle.maps.specs.declared.Place.{Place}
use Rattle.maps.specs.declared.Place.TheVariants.{Block, Store}
use Rattle.leaves.specs.declared.refusals.Refusal.TheVariants.{StoreFull, FieldsFull}
use Rattle.folds.specs.declared.Change.{Change}
use Rattle.folds.specs.declared.Change.TheVariants.{Nothing, Status as Headed, Put}
use Rattle.folds.proofs.ListLaws.{pasted_none}

pub tail_pasted : (s : List ℕ) (at : ℕ) (t : List ℕ) → at < length s → pasted (set s at 32) (at + 1) t ≡ pasted s at (32 ∷ t)
tail_pasted s at t h = ap (λ (l : List ℕ). pasted l (at + 1) t) (set_pasted s at 32 h) ∙ pasted_more s (32 ∷ []) t at (omega arith)

pub grown_full : (s : List ℕ) (room slot : ℕ) (key : Place) (from mark : ℕ) (new : List ℕ) (k : ℕ) → k ≡ length new → mark ≤ room → room - mark < k
    → Changes (grown room slot key from mark new) s mark s (Err StoreFull)
unfolding grown
grown_full s room slot key from mark new k e h l =
    let q : leb (mark + length new) room ≡ false = lt-leb (mark + length new) room (omega arith) in
    rw (if_false (record { change = put_field slot key from (mark + length new); new = new }) (plain (Err StoreFull)) q) (record { is = refl; wrote = sym (pasted_none s mark) })

pub grown_fits : (s : List ℕ) (room slot : ℕ) (key : Place) (from mark : ℕ) (new : List ℕ) (k : ℕ) (s' : List ℕ) (r : Result Change Refusal) → k ≡ length new → mark ≤ room → k ≤ room - mark
    → r ≡ put_field slot key from (mark + k) → s' ≡ pasted s mark new
    → Changes (grown room slot key from mark new) s mark s' r
unfolding grown
grown_fits s room slot key from mark new k s' r e h l p w =
    let q : leb (mark + length new) room ≡ true = le-leb (mark + length new) room (omega arith) in
    rw (if_true (record { change = put_field slot key from (mark + length new); new = new }) (plain (Err StoreFull)) q) (record { is = p ∙ rw e; wrote = w })

pub grow_twice : (s old t s₁ s₂ : List ℕ) (mark n : ℕ) → n ≡ length old → mark + n ≤ length s → s₁ ≡ pasted s mark old → s₂ ≡ pasted s₁ (mark + n) (32 ∷ t) → s₂ ≡ pasted s mark (old ++ 32 ∷ t)
grow_twice s old t s₁ s₂ mark n e h p q = q ∙ rw (p, e) (pasted_more s old (32 ∷ t) mark (omega arith))

pub part_long : (s : List ℕ) (a e : ℕ) → a ≤ e → e ≤ length s → length (part a e s) ≡ e - a
part_long s a e h k = length-take-le (e - a) (drop a s) (omega (arith, length-drop a s))

pub length_joined : (old t : List ℕ) (n : ℕ) → n ≡ length old → n + (1 + length t) ≡ length (old ++ 32 ∷ t)
length_joined old t n e = omega (arith, length-append old (32 ∷ t))

-- the three ends of a split
module _ (n : ℕ) (l : List ℕ) (fields mark c : ℕ) (e : c ≡ before 58 l) where
  pub split_put : c < length l → fields < 256
      → split n l fields mark ≡ plain (Ok (Put fields (read_field (trimmed_at n (take c l)) (trimmed_at (n + (c + 1)) (drop (c + 1) l))) mark))
  unfolding split
  split_put h k = if_true _ _ (rw (← e) (lt-ltb c (length l) h)) ∙ if_true _ _ (lt-ltb fields 256 k) ∙ rw e

  pub split_full : c < length l → 256 ≤ fields → split n l fields mark ≡ plain (Err FieldsFull)
  unfolding split
  split_full h k = if_true _ _ (rw (← e) (lt-ltb c (length l) h)) ∙ if_false _ _ (le-ltb fields 256 k)

  pub split_none : length l ≤ c → split n l fields mark ≡ plain (Ok Nothing)
  unfolding split
  split_none h = if_false _ _ (rw (← e) (le-ltb c (length l) h))

-- the four cases of a fold
module _ (room : ℕ) (block : List ℕ) (fields : ℕ) (last : Field) (mark : ℕ) (store t : List ℕ) where
  pub folded_first : fields ≡ 0 → folded room block fields last mark store t ≡ grown room 0 (in_store mark mark) mark mark t
  unfolding folded
  folded_first e = if_true _ _ (eq-eqb fields 0 e)

  module _ (some : fields ≡ 0 → ⊥) where
    folded_more : folded room block fields last mark store t ≡ regrown room block (fields - 1) last.key last.value mark store t
    unfolding folded
    folded_more = if_false _ _ (ne_eqb fields 0 some)

    pub folded_block : (a b : BlockOffset) → last.value ≡ Block a b
        → folded room block fields last mark store t ≡ grown room (fields - 1) last.key mark mark (part a.0 b.0 block ++ 32 ∷ t)
    unfolding regrown
    folded_block a b e = folded_more ∙ rw e

    pub folded_here : (a b : StoreOffset) → last.value ≡ Store a b → b.0 ≡ mark
        → folded room block fields last mark store t ≡ grown room (fields - 1) last.key a.0 mark (32 ∷ t)
    unfolding regrown
    folded_here a b e q = folded_more ∙ rw e (if_true _ _ (eq-eqb b.0 mark q))

    pub folded_again : (a b : StoreOffset) → last.value ≡ Store a b → (b.0 ≡ mark → ⊥)
        → folded room block fields last mark store t ≡ grown room (fields - 1) last.key mark mark (part a.0 b.0 store ++ 32 ∷ t)
    unfolding regrown
    folded_again a b e q = folded_more ∙ rw e (if_false _ _ (ne_eqb b.0 mark q))

pub block_fits : {b s : ℕ} {x y : BlockOffset} → Fits b s (Block x y) → (x.0 ≤ y.0) × (y.0 ≤ b)
block_fits (lies_in_block x y i j) = (i, j)

pub store_fits : {b s : ℕ} {x y : StoreOffset} → Fits b s (Store x y) → (x.0 ≤ y.0) × (y.0 ≤ s)
store_fits (lies_in_store x y i j) = (i, j)

-- the three cases of a line
module _ (room : ℕ) (block : List ℕ) (n : ℕ) (awaits : Bool) (fields : ℕ) (last : Field) (mark : ℕ) (store : List ℕ) where
  pub rule4_head : awaits ≡ true → rule4 room block n awaits fields last mark store ≡ plain (Ok (Headed (trimmed_at n (drop n block))))
  unfolding rule4
  rule4_head e = if_true _ _ e

  pub rule4_fold : awaits ≡ false → continues (drop n block) ≡ true
      → rule4 room block n awaits fields last mark store ≡ folded room block fields last mark store (trimmed (drop n block))
  unfolding rule4
  rule4_fold e q = if_false _ _ e ∙ if_true _ _ q

  pub rule4_split : awaits ≡ false → continues (drop n block) ≡ false
      → rule4 room block n awaits fields last mark store ≡ split n (drop n block) fields mark
  unfolding rule4
  rule4_split e q = if_false _ _ e ∙ if_false _ _ q

-- a change that leaves the store
pub plain_change : (s : List ℕ) (mark : ℕ) (g : Ruling) (c : Result Change Refusal) → g ≡ plain c → Changes g s mark s c
plain_change s mark g c e = rw e (record { is = refl; wrote = sym (pasted_none s mark) })
