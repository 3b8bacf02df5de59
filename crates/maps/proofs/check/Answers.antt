-- `maps::check` meets its contract. Assumes nothing.
use mathlib.Core.Path.{sym, ◌∙◌}
use borrow.Author.Tests.{le-leb, lt-leb}
use Rattle.maps.proofs.GoodLaws.{and_go, and_stop, checked_bad, checked_short, checked_wrong, checked_fine}
use Rattle.leaves.proofs.ChoiceLaws.{and_both}
use Rattle.maps.proofs.check.Goals as goal

pub returns-then-not-is_good : goal.returns-then-not-is_good
returns-then-not-is_good c = checked_bad c.args.ready c.args.m c.args.block c.args.store (sym c.is_good.ensures ∙ c.if-not-is_good.true)

pub returns-then-block-m : goal.returns-then-block-m
returns-then-block-m c =
    checked_short c.args.ready c.args.m c.args.block c.args.store (sym c.is_good.ensures ∙ c.if-not-is_good.false) (sym (and_stop _ _ (lt-leb _ _ c.if-block-m.true)))

pub returns-then-store-m : goal.returns-then-store-m
returns-then-store-m c =
    checked_short c.args.ready c.args.m c.args.block c.args.store (sym c.is_good.ensures ∙ c.if-not-is_good.false)
    (sym (and_go _ _ (le-leb _ _ c.if-block-m.false)) ∙ lt-leb _ _ c.if-store-m.true)

pub returns-then-not-ready : goal.returns-then-not-ready
returns-then-not-ready c =
    checked_wrong c.args.ready c.args.m c.args.block c.args.store (sym c.is_good.ensures ∙ c.if-not-is_good.false)
    (and_both _ _ (le-leb _ _ c.if-block-m.false) (le-leb _ _ c.if-store-m.false)) c.if-not-ready.true

pub returns : goal.returns
returns c =
    checked_fine c.args.ready c.args.m c.args.block c.args.store (sym c.is_good.ensures ∙ c.if-not-is_good.false)
    (and_both _ _ (le-leb _ _ c.if-block-m.false) (le-leb _ _ c.if-store-m.false)) c.if-not-ready.false
