-- `lent::tables::place_of` meets its contract. Assumes nothing.
use mathlib.Core.Path.{sym}
use borrow.Author.Tests.{lt-ltb, le-ltb}
use Rattle.leaves.proofs.ChoiceLaws.{if_true, if_false}
use Rattle.lent.specs.Table.{place_of}
use Rattle.lent.proofs.tables.place_of.Goals as goal

pub returns-then-from-lt-STORE : goal.returns-then-from-lt-STORE
unfolding place_of
returns-then-from-lt-STORE c = sym (if_true _ _ (lt-ltb _ _ c.if-from-lt-STORE.true))

pub returns : goal.returns
unfolding place_of
returns c = sym (if_false _ _ (le-ltb _ _ c.if-from-lt-STORE.false))
