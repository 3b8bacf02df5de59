-- `lent_reader::feed_lines` meets its contract. Assumes nothing.
use mathlib.Core.Path.{◌∙◌}
use Rattle.line_reader.proofs.HeldLaws.{feeding_start, feeding_on, later, handled_less}
use Rattle.line_reader.proofs.LineSteps.{able, handled_is}
use Rattle.reader.proofs.EndLaws.{feed_end}
use Rattle.lent.specs.Table.{table_of}
use Rattle.lent.proofs.LentLaws.{fields_length}
use Rattle.lent_reader.proofs.LentSteps.{seated_in}
use Rattle.lent_reader.proofs.feed_lines.Goals as goal

pub loop-going-init : goal.loop-going-init
loop-going-init c = (c.requires.0, feeding_start _ c.requires.1 (fields_length c.args.t.now 0 256))

pub handle_next-handled-requires : goal.handle_next-handled-requires
handle_next-handled-requires c =
    let l = c.loop-going in
    (able (seated_in l.t l.now l.invariant.1.held c.last_of-slot.ensures c.field_at-last.ensures), l.invariant.1.held.read)

pub put_change-requires : goal.put_change-requires
put_change-requires c =
    let l = c.loop-going in
    let v = handled_is (seated_in l.t l.now l.invariant.1.held c.last_of-slot.ensures c.field_at-last.ensures) _ l.at l.invariant.1.held.read c.handle_next-handled.ensures in
    (l.invariant.0, v.puts)

pub loop-going-smaller : goal.loop-going-smaller
loop-going-smaller c =
    let l = c.loop-going in
    let v = handled_is (seated_in l.t l.now l.invariant.1.held c.last_of-slot.ensures c.field_at-last.ensures) _ l.at l.invariant.1.held.read c.handle_next-handled.ensures in
    handled_less _ l.at _ _ _ c.loop-going-test.true (later v.feeds.held) v.feeds.held.read v.further

pub loop-going-preserved : goal.loop-going-preserved
loop-going-preserved c =
    let l = c.loop-going in
    let v = handled_is (seated_in l.t l.now l.invariant.1.held c.last_of-slot.ensures c.field_at-last.ensures) _ l.at l.invariant.1.held.read c.handle_next-handled.ensures in
    (c.put_change.auto.t ∙ l.invariant.0, rw c.put_change.ensures (feeding_on l.invariant.1 c.loop-going-test.true v.feeds))

pub returns : goal.returns
returns c =
    let l = c.loop-going in
    rw c.head_after.ensures (feed_end (table_of l.t) l.now l.invariant.1 c.loop-going-test.false)
