-- `lent::check` meets its contract. Assumes nothing.
use Rattle.lent.specs.Table.{map_in}
use mathlib.Core.Path.{sym, ◌∙◌}
use borrow.Author.Tests.{le-leb, lt-leb}
use Rattle.maps.proofs.GoodLaws.{and_go, and_stop, checked_bad, checked_short, checked_wrong, checked_fine}
use Rattle.leaves.proofs.ChoiceLaws.{and_both}
use Rattle.lent.proofs.check.Goals as goal

pub returns-then-not-is_good : goal.returns-then-not-is_good
returns-then-not-is_good c = checked_bad c.args.ready (map_in c.args.t.now c.args.h) c.args.block c.args.store (sym c.is_good.ensures ∙ c.if-not-is_good.true)

pub returns-then-block-h : goal.returns-then-block-h
returns-then-block-h c = checked_short c.args.ready (map_in c.args.t.now c.args.h) c.args.block c.args.store (sym c.is_good.ensures ∙ c.if-not-is_good.false) (sym (and_stop _ _ (lt-leb _ _ c.if-block-h.true)))

pub returns-then-store-h : goal.returns-then-store-h
returns-then-store-h c = checked_short c.args.ready (map_in c.args.t.now c.args.h) c.args.block c.args.store (sym c.is_good.ensures ∙ c.if-not-is_good.false) (sym (and_go _ _ (le-leb _ _ c.if-block-h.false)) ∙ lt-leb _ _ c.if-store-h.true)

pub returns-then-ready : goal.returns-then-ready
returns-then-ready c = checked_fine c.args.ready (map_in c.args.t.now c.args.h) c.args.block c.args.store (sym c.is_good.ensures ∙ c.if-not-is_good.false) (and_both _ _ (le-leb _ _ c.if-block-h.false) (le-leb _ _ c.if-store-h.false)) c.if-ready.true

pub returns-else-ready : goal.returns-else-ready
returns-else-ready c = checked_wrong c.args.ready (map_in c.args.t.now c.args.h) c.args.block c.args.store (sym c.is_good.ensures ∙ c.if-not-is_good.false) (and_both _ _ (le-leb _ _ c.if-block-h.false) (le-leb _ _ c.if-store-h.false)) c.if-ready.false
