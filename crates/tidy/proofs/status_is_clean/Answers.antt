-- `tidy::status_is_clean` meets its contract. Assumes nothing.
use Rattle.tidy.proofs.CleanLaws.{status_none}
use Rattle.tidy.proofs.status_is_clean.Goals as goal

pub returns-in-None : goal.returns-in-None
returns-in-None c = let a = c.args in status_none a.block.now a.store.now a.s c.in-None.is
