-- What rule 4 makes of a tight line. Assumes nothing.
use mathlib.Core.Path.{◌≡◌, ◌∙◌}
use mathlib.Core.Bool.{Bool, true, false, not, ◌&&◌}
use mathlib.Core.List.{List}
use Prim.Native.Nat.{ℕ, ◌+◌, ◌-◌, ◌<◌}
use native.Mathlib.Nat.{add-zero}
use native.Mathlib.Omega.{arith}
use borrow.Author.Tests.{ne_eqb, ltb-true, not-true}
use lib.Dec.{ltb}
use lib.ListN.{length, get_or, drop}
use Rattle.leaves.proofs.ChoiceLaws.{and_left, and_right}
use Rattle.lines.specs.Line.{tight}
use Rattle.leaves.specs.Octets.{before}
use Rattle.lines.proofs.TightLaws.{Tight, tight_says, key_starts, key_ends, value_starts, value_ends}
use Rattle.maps.specs.declared.Field.{Field}
use Rattle.folds.specs.Asks.{put_tight}
use Rattle.folds.specs.Rule.{plain, continues, split, rule4}
use Rattle.folds.proofs.LineTexts.{fold_first}
use Rattle.folds.proofs.GrowLaws.{split_put, rule4_split}

module _ (c : ℕ) (l : List ℕ) (t : Tight c l) where
  no_fold : continues l ≡ false
  no_fold = fold_first l (omega (arith, t.long)) ∙ rw (ne_eqb (get_or l 0 0) 32 (omega (arith, t.key_first)), ne_eqb (get_or l 0 0) 9 (omega (arith, t.key_first)))

  split_tight : (n fields mark : ℕ) → c ≡ before 58 l → fields < 256 → split n l fields mark ≡ plain (put_tight n c (length l) fields mark)
  split_tight n fields mark e few =
      let a : n + (c + 1) + 1 ≡ n + (c + 2) = omega arith in
      let b : n + (c + 1) + (length l - (c + 3)) ≡ n + (length l - 2) = omega (arith, t.long) in
      split_put n l fields mark c e (omega (arith, t.long)) few ∙
      rw (key_starts c l t, key_ends c l t, value_starts c l t, value_ends c l t, add-zero, a, b)

-- what the code asks before it takes the short way
pub record Short (awaits : Bool) (fields c : ℕ) (l : List ℕ) : Type 0 where
  pub heads : awaits ≡ false
  pub few : fields < 256
  pub is_tight : Tight c l

pub short_of : (awaits : Bool) (fields c : ℕ) (l : List ℕ) → (not awaits && (ltb fields 256 && tight c l)) ≡ true → Short awaits fields c l
short_of awaits fields c l e =
    let f = and_right (not awaits) _ e in
    record {
      heads = not-true awaits (and_left (not awaits) _ e);
      few = ltb-true fields 256 (and_left (ltb fields 256) _ f);
      is_tight = tight_says c l (and_right (ltb fields 256) _ f);
    }

pub rule4_tight : (room : ℕ) (block : List ℕ) (n : ℕ) (awaits : Bool) (fields : ℕ) (last : Field) (mark : ℕ) (store : List ℕ) (c : ℕ)
    → Short awaits fields c (drop n block) → c ≡ before 58 (drop n block)
    → rule4 room block n awaits fields last mark store ≡ plain (put_tight n c (length (drop n block)) fields mark)
rule4_tight room block n awaits fields last mark store c s e =
    let l = drop n block in
    rule4_split room block n awaits fields last mark store s.heads (no_fold c l s.is_tight) ∙ split_tight c l s.is_tight n fields mark e s.few
