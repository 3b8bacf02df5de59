-- `lines::fill_line` meets its contract. Assumes nothing.
use native.Mathlib.Omega.{arith}
use Rattle.lines.proofs.EndLaws.{fill_ended, fill_over, fill_rest}
use Rattle.lines.proofs.fill_line.Goals as goal

pub returns-then-j-room : goal.returns-then-j-room
returns-then-j-room c =
    let a = c.args in
    fill_ended a.quirks a.before a.rest.now a.out.now _ _ c.line_end-j.ensures c.if-j-rest.true c.if-j-room.true c.copy_in.ensures

pub returns-then-j-rest : goal.returns-then-j-rest
returns-then-j-rest c =
    let a = c.args in
    fill_over a.quirks a.before a.rest.now a.out.now _ _ c.line_end-j.ensures c.if-j-room.false (omega arith) c.copy_in-then-j-rest.ensures

pub returns-then-n-room : goal.returns-then-n-room
returns-then-n-room c =
    let a = c.args in
    fill_rest a.quirks a.before a.rest.now a.out.now _ _ c.line_end-j.ensures c.if-j-rest.false c.if-n-room.true c.copy_in-then-n-room.ensures

pub returns : goal.returns
returns c =
    let a = c.args in
    fill_over a.quirks a.before a.rest.now a.out.now _ _ c.line_end-j.ensures (omega arith) c.if-n-room.false c.copy_in-2.ensures
