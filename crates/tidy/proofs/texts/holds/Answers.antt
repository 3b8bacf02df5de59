-- `tidy::texts::holds` meets its contract. Assumes nothing.
use Rattle.tidy.proofs.TextLaws.{holds_by}
use Rattle.tidy.proofs.texts.holds.Goals as goal

pub returns : goal.returns
returns c = let a = c.args in holds_by a.wanted a.text.now _ c.find_octet.ensures
