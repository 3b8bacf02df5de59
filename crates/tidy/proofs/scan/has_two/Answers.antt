-- `tidy::scan::has_two` meets its contract. Assumes nothing.
use borrow.Author.Tests.{ne_eqb}
use mathlib.Core.Path.{◌∙◌}
use Rattle.tidy.proofs.TwoLaws.{two_short, two_first, two_not}
use Rattle.tidy.proofs.scan.has_two.Goals as goal

pub returns-then-octets-at-lt2 : goal.returns-then-octets-at-lt2
returns-then-octets-at-lt2 c = let a = c.args in two_short a.octets.now a.at a.x a.y c.if-octets-at-lt2.true

pub returns-then-octets-at : goal.returns-then-octets-at
returns-then-octets-at c = let a = c.args in two_first a.octets.now a.at a.x a.y c.if-octets-at-lt2.false c.if-octets-at.true

pub returns-else-octets-at : goal.returns-else-octets-at
returns-else-octets-at c = let a = c.args in ne_eqb _ _ c.if-octets-at.false ∙ two_not a.octets.now a.at a.x a.y c.if-octets-at-lt2.false c.if-octets-at.false
