-- `line_reader::close_line` meets its contract. Assumes nothing.
use mathlib.Core.Path.{refl, sym, ap, ◌∙◌}
use Rattle.leaves.specs.Octets.{before}
use Rattle.line_reader.proofs.HandlingLaws.{fold_ready, slot_few, is_handled, line_cut, ended_blank, ended_on}
use Rattle.line_reader.proofs.close_line.Goals as goal

pub returns-then-ends_block : goal.returns-then-ends_block
returns-then-ends_block c =
    rw (ended_blank c.requires.0 _ (sym c.ends_block.ensures ∙ c.if-ends_block.true))
    (record { result = c.handled_of.ensures; block = refl; store = refl })

pub line_change-change-requires : goal.line_change-change-requires
line_change-change-requires c =
    let able = c.requires.0 in
    (fold_ready able, c.colon_of-c.ensures ∙ ap (before 58) (sym (line_cut able)))

pub handled_by-requires : goal.handled_by-requires
handled_by-requires c = slot_few c.requires.0 _ c.line_change-change.ensures.is

pub returns : goal.returns
returns c =
    let able = c.requires.0 in
    rw (ended_on able _ (sym c.ends_block.ensures ∙ c.if-ends_block.false))
    (is_handled able _ _ _ c.line_change-change.ensures c.handled_by.ensures)
