-- `line_reader::handle_last` meets its contract. Assumes nothing.
use mathlib.Core.Path.{refl}
use Rattle.line_reader.proofs.HandlingLaws.{slot_few, is_handled, last_left, last_none}
use Rattle.line_reader.proofs.handle_last.Goals as goal

pub handled_by-requires : goal.handled_by-requires
handled_by-requires c = slot_few c.requires _ c.rule_four-change.ensures.is

pub returns-then-start-count : goal.returns-then-start-count
returns-then-start-count c =
    let able = c.requires in
    rw (last_left able c.if-start-count.true) (is_handled able _ _ _ c.rule_four-change.ensures c.handled_by.ensures)

pub returns : goal.returns
returns c = rw (last_none c.requires c.if-start-count.false) (record { result = c.handled_of.ensures; block = refl; store = refl })
