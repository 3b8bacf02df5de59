-- `abi::looking::put_reason` meets its contract. Assumes nothing.
use Rattle.codes.proofs.LineLaws.{start_within}
use native.Mathlib.Omega.{arith}
use mathlib.Core.Path.{sym, ◌∙◌}
use Rattle.abi.proofs.looking.put_reason.Goals as goal

pub put_rest-requires : goal.put_rest-requires
put_rest-requires c = omega (arith, start_within _ _ (sym c.reason_start.ensures ∙ c.in-Some.is), c.part-text.ensures.small)
