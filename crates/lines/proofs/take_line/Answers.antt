-- `lines::take_line` meets its contract. Assumes nothing.
use native.Mathlib.Omega.{arith}
use Rattle.lines.proofs.LineLaws.{take_back}
use Rattle.lines.proofs.take_line.Goals as goal

pub returns : goal.returns
returns c =
    let s = c.args in
    take_back s.piece.now s.block.now s.from s.count s.limit _ _ _ _ _ (omega arith) (omega arith) c.cr_before-cr.ensures c.fill_line.ensures
