-- A refused write leaves the output. Assumes nothing.
use Rattle.std.specs.Prelude.{Err, Ok, Result, ⊤}
use mathlib.Core.Path.{◌≡◌, refl, sym, ap}
use mathlib.Core.Bool.{Bool, true, false, false≢true}
use mathlib.Core.List.{List}
use Prim.Native.Nat.{ℕ}
use Rattle.leaves.proofs.ChoiceLaws.{by_if}
use Rattle.leaves.specs.declared.refusals.Refusal.{Refusal}
use Rattle.maps.specs.Good.{checked_done, unless}
use Rattle.maps.specs.declared.HeaderMap.{HeaderMap}
use Rattle.writes.specs.Written.{Writing, refuses, giving, writing, rebuilding}

abbrev counts : Result ℕ Refusal → Bool
counts (Ok n) = true
counts (Err x) = false

module _ (d : List ℕ) (x : Refusal) where
  -- what a call that was refused by x gives leaves the output
  abbrev Left : Writing → Type 0
  Left g = g.result ≡ Err x → g.out ≡ d

  giving_left : (t : List ℕ) → Left (giving d t)
  unfolding giving
  giving_left t = by_if Left _ _ _ (λ e h. refl) (λ e h. absurd (false≢true (sym (ap counts h))))

  by_check : (c : Result ⊤ Refusal) (t : List ℕ) → Left (unless c (refuses d) (giving d t))
  by_check (Ok _) t h = giving_left t h
  by_check (Err y) t h = refl

  module _ (m : HeaderMap) (b s : List ℕ) where
    pub write_left : Left (writing m b s d)
    unfolding writing
    write_left h = by_check (checked_done m b s) _ h

    pub rebuild_left : Left (rebuilding m b s d)
    unfolding rebuilding
    rebuild_left h = by_check (checked_done m b s) _ h
