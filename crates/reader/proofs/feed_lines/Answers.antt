-- `reader::feed_lines` meets its contract. Assumes nothing.
use Rattle.line_reader.proofs.HeldLaws.{feeding_start}
use mathlib.Core.Path.{refl}
use Rattle.line_reader.proofs.LineSteps.{seated, able}
use Rattle.reader.proofs.EndLaws.{handled_nears, handled_on, handled_puts, feed_end}
use Rattle.reader.proofs.feed_lines.Goals as goal

pub loop-going-init : goal.loop-going-init
loop-going-init c = (refl, rw c.head-h.ensures (feeding_start _ c.requires c.well_formed.0.1.1.0.1.0.1))

pub handle_next-handled-requires : goal.handle_next-handled-requires
handle_next-handled-requires c =
    let l = c.loop-going in
    (able (seated l.t l.h l.invariant.1.held c.last_of-slot.ensures), l.invariant.1.held.read)

pub put_change-requires : goal.put_change-requires
put_change-requires c =
    let l = c.loop-going in
    (l.invariant.1.held.wide, handled_puts l.t l.h l.invariant.1 c.loop-going-test.true c.last_of-slot.ensures c.handle_next-handled.ensures refl)

pub loop-going-smaller : goal.loop-going-smaller
loop-going-smaller c =
    let l = c.loop-going in
    handled_nears l.t l.h l.invariant.1 c.loop-going-test.true c.last_of-slot.ensures c.handle_next-handled.ensures

pub loop-going-preserved : goal.loop-going-preserved
loop-going-preserved c =
    let l = c.loop-going in
    (c.head_after-left.ensures, rw c.put_change.ensures (handled_on l.t l.h l.invariant.1 c.loop-going-test.true c.last_of-slot.ensures c.handle_next-handled.ensures refl))

pub returns : goal.returns
returns c =
    let l = c.loop-going in
    rw (c.under.ensures, l.invariant.0) (feed_end l.t l.h (rw c.head-h.ensures at l.invariant.1) c.loop-going-test.false)
