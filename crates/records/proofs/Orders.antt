-- The records of a file stand in their order. Assumes nothing.
use Rattle.leaves.specs.declared.refusals.Refusal.{Refusal}
use Rattle.std.specs.Prelude.{Err, Ok, Result}
use mathlib.Core.Path.{◌≡◌}
use mathlib.Core.Bool.{true}
use mathlib.Core.List.{List, [], ◌∷◌}
use Prim.Native.Nat.{ℕ, zero, suc, ◌+◌, ◌≤◌, ◌<◌}
use native.Mathlib.Omega.{arith}
use lib.Dec.{eqb}
use lib.ListN.{length}
use Rattle.leaves.proofs.ChoiceLaws.{by_if}
use Rattle.readings.specs.Listening.{said}
use Rattle.line_reader.specs.Reading.{Rules, Reading, step}
use Rattle.line_reader.specs.Reading.{begun as begins}
use Rattle.line_reader.specs.declared.Answer.{Answer}
use Rattle.line_reader.specs.declared.Answer.TheVariants.{More, Blank, Input}
use Rattle.openings.specs.Opening.{opened}
use Rattle.walker.specs.Walk.{trailer}
use Rattle.records.specs.Layout.{Listed, Sign, begins_record, body_octet, record_ended, ends_file, stopped_by, Behind, trailing, bodied, listed, answered, headed, file}
use Rattle.records.specs.Order.{end_of, Rising, begun, ends, ended}

rising_from : (n k : ℕ) (rs : List Listed) → n ≤ k → Rising k rs → Rising n rs
rising_from n k [] h r = r
rising_from n k (x ∷ xs) h r = (omega (arith, r.0), r.1, r.2)

-- records that began in their order ended in their order
pub ended_rising : (n : ℕ) (xs : List Sign) → Rising n (begun xs) → Rising n (ended xs)
ended_rising n [] r = r
ended_rising n (begins_record x ∷ xs) r =
    let rest = ended_rising (end_of x) xs r.2 in
    by_if (Rising n) (ends xs) _ _ (λ _. (r.0, r.1, rest)) (λ _. rising_from n (end_of x) (ended xs) (omega (arith, r.0, r.1)) rest)
ended_rising n (body_octet x ∷ xs) r = ended_rising n xs r
ended_rising n (record_ended ∷ xs) r = ended_rising n xs r
ended_rising n (ends_file ∷ xs) r = ended_rising n xs r
ended_rising n (stopped_by e ∷ xs) r = ended_rising n xs r

-- what comes behind a part of a file, from the position at on, begins its records at n or later
abbrev From : ℕ → Behind → ℕ → Type 0
From n behind at = (xs : List ℕ) → Rising n (begun (behind at xs))

module _ (n : ℕ) (behind : Behind) where
  abbrev P : List Sign → Type 0
  P l = Rising n (begun l)

  trailing_from : (ws : List ℕ) (position : ℕ) → From n behind (position + length ws) → From n (trailing ws behind) position
  unfolding trailing
  trailing_from [] position h xs = let e : position + 0 ≡ position = omega arith in rw e at (h xs)
  trailing_from (w ∷ ws) position h [] = tt
  trailing_from (w ∷ ws) position h (x ∷ xs) =
      let e : position + suc (length ws) ≡ position + 1 + length ws = omega arith in
      let rest = trailing_from ws (position + 1) (rw e at h) xs in
      by_if P _ _ _ (λ _. tt) (λ _. by_if P (eqb w x) _ _ (λ _. rest) (λ _. tt))

  bodied_from : (size position : ℕ) → From n behind (position + size) → From n (bodied size behind) position
  unfolding bodied
  bodied_from zero position h xs = let e : position + 0 ≡ position = omega arith in rw e at (h xs)
  bodied_from (suc size) position h [] = tt
  bodied_from (suc size) position h (x ∷ xs) =
      let e : position + suc size ≡ position + 1 + size = omega arith in
      let rest = bodied_from size (position + 1) (rw e at h) xs in
      by_if P _ _ _ (λ _. tt) (λ _. rest)

module _ (R : Rules) (start : ℕ) (behind : ℕ → Behind) (h : (size at : ℕ) → From (at + size + 4) (behind size) at) where
  listed_from : (r : Reading) (o : Result (ℕ × ℕ) Refusal) (position : ℕ) → start < position → From start (listed start (said r) o behind) position
  listed_from r (Ok (size, kind)) position i xs = (omega arith, i, h size position xs)
  listed_from r (Err e) position i xs = tt

  answered_from : (a : Result Answer Refusal) (r : Reading) (position : ℕ) (xs : List ℕ) (more : List Sign) → start < position → Rising start (begun more)
      → Rising start (begun (answered a start r behind position xs more))
  answered_from (Ok More) r position xs more i m = m
  answered_from (Ok Blank) r position xs more i m = listed_from r (opened (said r)) position i xs
  answered_from (Ok Input) r position xs more i m = m
  answered_from (Err e) r position xs more i m = tt

  headed_from : (r : Reading) (position : ℕ) → start ≤ position → From start (headed R start r behind) position
  unfolding headed
  headed_from r position i [] = tt
  headed_from r position i (x ∷ xs) =
      let more = headed_from (step R r x) (position + 1) (omega arith) xs in
      by_if (λ (l : List Sign). Rising start (begun l)) _ _ _ (λ _. tt)
      (λ _. answered_from (step R r x).answer (step R r x) (position + 1) xs _ (omega arith) more)

pub file_rising : (R : Rules) (n position : ℕ) (xs : List ℕ) → Rising position (begun (file R n position xs))
unfolding file
file_rising R zero position xs = tt
file_rising R (suc n) position [] = tt
file_rising R (suc n) position (x ∷ xs) =
    headed_from R position _
    (λ size at. bodied_from (at + size + 4) _ size at (trailing_from (at + size + 4) _ trailer (at + size) (λ ys. file_rising R n (at + size + 4) ys)))
    (begins true) position (omega arith) (x ∷ xs)
