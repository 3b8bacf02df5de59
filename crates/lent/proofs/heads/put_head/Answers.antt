-- `lent::heads::put_head` meets its contract. Assumes nothing.
use Rattle.lent.specs.Numbers.{head_numbers}
use Rattle.lent.proofs.LentLaws.{stored}
use mathlib.Core.Path.{refl}
use Rattle.lent.proofs.heads.put_head.Goals as goal

pub returns : goal.returns
returns c =
    rw (c.number_of.ensures, c.flag_of-3.ensures, c.flag_of-2.ensures, c.flag_of.ensures, c.to_of.ensures, c.from_of.ensures, c.kind_of.ensures) (stored c.args.n.now (head_numbers c.args.h) c.requires refl)
