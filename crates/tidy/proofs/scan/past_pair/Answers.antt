-- `tidy::scan::past_pair` meets its contract. Assumes nothing.
use Rattle.tidy.proofs.PassLaws.{pair_past, pair_not_key, filled_within}
use native.Mathlib.Omega.{arith}
use mathlib.Core.Path.{sym, ◌∙◌}
use Rattle.tidy.proofs.scan.past_pair.Goals as goal

pub past_text-requires : goal.past_text-requires
past_text-requires c = filled_within 58 32 c.args.octets.now c.args.at (omega arith) _ (sym c.in_ok-value.was ∙ c.past_filled.ensures)

pub returns : goal.returns
returns c = pair_past c.args.octets.now c.args.at _ (sym c.in_ok-value.was ∙ c.past_filled.ensures) _ c.past_text.ensures

pub returns-in_err-value : goal.returns-in_err-value
returns-in_err-value c = c.from_residual.ensures ∙ pair_not_key c.args.octets.now c.args.at (sym c.in_err-value.was ∙ c.past_filled.ensures)
