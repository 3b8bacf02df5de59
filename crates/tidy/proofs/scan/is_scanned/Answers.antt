-- `tidy::scan::is_scanned` meets its contract. Assumes nothing.
use Rattle.tidy.proofs.PassLaws.{filled_within}
use Rattle.tidy.proofs.ScanLaws.{status_past, status_not_past, no_status}
use native.Mathlib.Omega.{arith}
use mathlib.Core.Path.{sym, ◌∙◌}
use Rattle.tidy.proofs.scan.is_scanned.Goals as goal

pub scan_pairs-requires : goal.scan_pairs-requires
scan_pairs-requires c = let a = c.args in filled_within 13 10 a.octets.now 0 (omega arith) _ (sym c.in-Some.is ∙ c.past_filled-line.ensures)

pub returns-in-Some : goal.returns-in-Some
returns-in-Some c = let a = c.args in status_past a.octets.now a.status c.if-status.true _ (sym c.in-Some.is ∙ c.past_filled-line.ensures) _ c.scan_pairs.ensures

pub returns-in-None : goal.returns-in-None
returns-in-None c = let a = c.args in status_not_past a.octets.now a.status c.if-status.true (sym c.in-None.is ∙ c.past_filled-line.ensures)

pub returns-else-status : goal.returns-else-status
returns-else-status c = let a = c.args in no_status a.octets.now a.status c.if-status.false _ c.scan_pairs-else-status.ensures
