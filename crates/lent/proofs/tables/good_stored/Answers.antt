-- `lent::tables::good_stored` meets its contract. Assumes nothing.
use Rattle.leaves.proofs.ChoiceLaws.{if_true, if_false, clash}
use Rattle.maps.proofs.GoodLaws.{and_go, and_stop}
use Rattle.lent.specs.Table.{good_stored}
use borrow.Author.Tests.{lt-leb, lt-ltb, le-ltb}
use mathlib.Core.Path.{sym, ◌∙◌}
use Rattle.lent.proofs.tables.good_stored.Goals as goal
use Rattle.lent.proofs.tables.good_stored.Goals.{then-from-ge-STORE, else-from-ge-STORE}

pub returns-then-from-to : goal.returns-then-from-to
unfolding good_stored
returns-then-from-to c =
    elim c.if-from-ge-STORE.branch [
      | then-from-ge-STORE w ↦ and_go _ _ (sym w.value-is ∙ c.if-from-to.true) ∙ sym (if_false _ _ (le-ltb _ _ w.if-from-ge-STORE.true))
      | else-from-ge-STORE w ↦ clash (cc (sym c.if-from-to.true ∙ w.value-is ∙ lt-leb _ _ w.if-from-ge-STORE.false))
    ]

pub returns-else-from-to : goal.returns-else-from-to
unfolding good_stored
returns-else-from-to c =
    elim c.if-from-ge-STORE.branch [
      | then-from-ge-STORE w ↦ c.if-from-to.false ∙ and_stop _ _ (sym w.value-is ∙ c.if-from-to.false) ∙ sym (if_false _ _ (le-ltb _ _ w.if-from-ge-STORE.true))
      | else-from-ge-STORE w ↦ w.value-is ∙ lt-leb _ _ w.if-from-ge-STORE.false ∙ sym (if_true _ _ (lt-ltb _ _ w.if-from-ge-STORE.false))
    ]
