-- `writes::status_length` meets its contract. Assumes nothing.
use Rattle.writes.proofs.FormLaws.{line_none, line_bare, line_length}
use native.Mathlib.Omega.{arith}
use mathlib.Core.Path.{sym, ap}
use lib.ListN.{length}
use Rattle.writes.proofs.status_length.Goals as goal

pub returns-then-text-eq0 : goal.returns-then-text-eq0
returns-then-text-eq0 c =
    let s = c.args in
    (sym (ap length (line_bare s.block.now s.store.now s.s _ _ c.in-Some.is c.part-text.ensures.is c.if-text-eq0.true)), omega arith)

pub returns-in-None : goal.returns-in-None
returns-in-None c = let s = c.args in (sym (ap length (line_none s.block.now s.store.now s.s c.in-None.is)), omega arith)

pub returns-else-text-eq0 : goal.returns-else-text-eq0
returns-else-text-eq0 c =
    let s = c.args in
    (sym (line_length s.block.now s.store.now s.s _ _ c.in-Some.is c.part-text.ensures.is c.if-text-eq0.false), omega (arith, c.part-text.ensures.small))
