-- `grammar::are_fields` meets its contract. Assumes nothing.
use Rattle.grammar.specs.Walk.{walk}
use Rattle.grammar.proofs.StageLaws.{walk_more, walk_end}
use mathlib.Core.Path.{sym, ap, ◌∙◌}
use Prim.Native.Nat.{◌+◌}
use lib.ListN.{drop}
use Rattle.grammar.proofs.are_fields.Goals as goal

pub loop-x-preserved : goal.loop-x-preserved
loop-x-preserved c =
    let s = c.args.lines.now in
    let l = c.loop-x in
    l.invariant ∙ walk_more l.stage s l.x-index c.loop-x-test.true ∙ ap (λ z. walk z (drop (l.x-index + 1) s)) (sym c.next-stage.ensures)

pub returns : goal.returns
returns c = let l = c.loop-x in c.is_over.ensures ∙ sym (l.invariant ∙ walk_end l.stage c.args.lines.now l.x-index c.loop-x-test.false)
