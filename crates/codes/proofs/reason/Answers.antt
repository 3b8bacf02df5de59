-- `codes::reason` meets its contract. Assumes nothing.
use Rattle.codes.proofs.LineLaws.{start_within}
use native.Mathlib.Omega.{arith}
use mathlib.Core.Path.{sym, ◌∙◌}
use Rattle.codes.proofs.reason.Goals as goal

pub slice_bounds-result-count : goal.slice_bounds-result-count
slice_bounds-result-count c = let w = start_within _ _ (sym c.reason_start.ensures ∙ c.in-Some.is) in omega (arith, w)

pub slice_bounds-result-start : goal.slice_bounds-result-start
slice_bounds-result-start c = let w = start_within _ _ (sym c.reason_start.ensures ∙ c.in-Some.is) in omega (arith, w)
