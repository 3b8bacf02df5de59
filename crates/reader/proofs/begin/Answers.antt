-- `reader::begin` meets its contract. Assumes nothing.
use Rattle.reader.proofs.CallLaws.{begun}
use Rattle.reader.proofs.begin.Goals as goal

pub returns : goal.returns
returns c =
    let a = c.args in
    rw (c.under.ensures, c.head_when-head.ensures, c.empty_head-new.ensures, c.head-old.ensures)
    (begun a.m a.limit a.room a.awaits a.quirks a.block.now a.store.now _ c.check_rooms-answer.ensures)
