-- `tidy::scan::past_filled` meets its contract. Assumes nothing.
use Rattle.tidy.proofs.PassLaws.{filled_past, filled_here, filled_end}
use Rattle.tidy.proofs.scan.past_filled.Goals as goal

pub returns-then-octets-at : goal.returns-then-octets-at
returns-then-octets-at c = let a = c.args in filled_here a.x a.y a.octets.now a.at c.if-at-octets.true c.if-octets-at.true

pub returns-then-at-octets : goal.returns-then-at-octets
returns-then-at-octets c = let a = c.args in filled_past a.x a.y a.octets.now a.at c.if-at-octets.true c.if-octets-at.false _ c.past_text.ensures

pub returns : goal.returns
returns c = let a = c.args in filled_end a.x a.y a.octets.now a.at c.if-at-octets.false
