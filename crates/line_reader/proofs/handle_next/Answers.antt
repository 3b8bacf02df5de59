-- `line_reader::handle_next` meets its contract. Assumes nothing.
use mathlib.Core.Path.{refl}
use Rattle.line_reader.proofs.HandlingLaws.{next_handled_by, more_able, lies}
use Rattle.line_reader.proofs.handle_next.Goals as goal

pub close_line-requires : goal.close_line-requires
close_line-requires c =
    let w = c.take_line in
    let t = rw c.in-Line.is at w.ensures in
    (more_able c.requires.0 c.args.piece.now c.args.at t w.auto.block, lies c.requires.0 c.args.piece.now c.args.at t c.requires.1)

pub returns-in-More : goal.returns-in-More
returns-in-More c =
    let t = rw c.in-More.is at c.take_line.ensures in
    rw (next_handled_by c.requires.0 c.args.piece.now c.args.at t) (record { result = c.handled_of.ensures; block = refl; store = refl })

pub returns-in-Full : goal.returns-in-Full
returns-in-Full c =
    let t = rw c.in-Full.is at c.take_line.ensures in
    rw (next_handled_by c.requires.0 c.args.piece.now c.args.at t) (record { result = c.handled_of-in-Full.ensures; block = refl; store = refl })

pub returns-in-Line : goal.returns-in-Line
returns-in-Line c =
    let t = rw c.in-Line.is at c.take_line.ensures in
    rw (next_handled_by c.requires.0 c.args.piece.now c.args.at t) c.close_line.ensures
