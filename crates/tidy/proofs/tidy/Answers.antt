-- `tidy::tidy` meets its contract. Assumes nothing.
use Rattle.tidy.proofs.ScanLaws.{tidy_refused, tidy_long, tidy_by}
use mathlib.Core.Path.{sym}
use Rattle.tidy.proofs.tidy.Goals as goal

pub returns-then-limit-gt-LARGEST : goal.returns-then-limit-gt-LARGEST
returns-then-limit-gt-LARGEST c = let a = c.args in tidy_refused a.octets.now a.status a.quirks a.limit c.if-limit-gt-LARGEST.true

pub returns-then-limit-octets : goal.returns-then-limit-octets
returns-then-limit-octets c = let a = c.args in tidy_long a.octets.now a.status a.quirks a.limit c.if-limit-gt-LARGEST.false c.if-limit-octets.true

pub returns : goal.returns
returns c = let a = c.args in tidy_by a.octets.now a.status a.quirks a.limit c.if-limit-gt-LARGEST.false c.if-limit-octets.false _ (sym c.is_scanned.ensures)
