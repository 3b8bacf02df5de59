-- `reader::clear` meets its contract. Assumes nothing.
use Rattle.reader.proofs.CallLaws.{cleared}
use Rattle.reader.proofs.clear.Goals as goal

pub returns : goal.returns
returns c =
    let a = c.args in
    rw (c.under.ensures, c.head_when-head.ensures, c.empty_head-cleared.ensures, c.head-old.ensures)
    (cleared a.m a.block.now a.store.now _ c.check-answer.ensures)
