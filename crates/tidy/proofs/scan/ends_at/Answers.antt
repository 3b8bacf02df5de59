-- `tidy::scan::ends_at` meets its contract. Assumes nothing.
use Rattle.tidy.proofs.TwoLaws.{end_not}
use Rattle.tidy.proofs.scan.ends_at.Goals as goal

pub returns : goal.returns
returns c = let a = c.args in end_not a.octets.now a.at c.if-octets-at-eq2.false
