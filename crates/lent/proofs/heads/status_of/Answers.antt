-- `lent::heads::status_of` meets its contract. Assumes nothing.
use borrow.Author.Tests.{eq-eqb, ne_eqb}
use Rattle.lent.proofs.LentLaws.{status_absent, status_block, status_store, sound_at}
use native.Mathlib.Omega.{arith}
use mathlib.Core.Path.{sym}
use Rattle.lent.proofs.heads.status_of.Goals as goal

pub returns-then-kind-eq0 : goal.returns-then-kind-eq0
returns-then-kind-eq0 c = let a = c.args in sym (status_absent a.kind a.from a.to (eq-eqb _ _ c.if-kind-eq0.true))

pub overflow_cast-result : goal.overflow_cast-result
overflow_cast-result c =
    let a = c.args in
    let w = sound_at a.kind a.from a.to c.requires (ne_eqb _ _ c.if-kind-eq0.false) in
    omega (arith, w.1)

pub overflow_cast-result-then-kind-eq1 : goal.overflow_cast-result-then-kind-eq1
overflow_cast-result-then-kind-eq1 c =
    let a = c.args in
    let w = sound_at a.kind a.from a.to c.requires (ne_eqb _ _ c.if-kind-eq0.false) in
    omega (arith, w.2)

pub returns-then-kind-eq1 : goal.returns-then-kind-eq1
returns-then-kind-eq1 c = let a = c.args in sym (status_block a.kind a.from a.to (ne_eqb _ _ c.if-kind-eq0.false) (eq-eqb _ _ c.if-kind-eq1.true))

pub overflow_cast-result-2 : goal.overflow_cast-result-2
overflow_cast-result-2 c =
    let a = c.args in
    let w = sound_at a.kind a.from a.to c.requires (ne_eqb _ _ c.if-kind-eq0.false) in
    omega (arith, w.1)

pub overflow_cast-result-3 : goal.overflow_cast-result-3
overflow_cast-result-3 c =
    let a = c.args in
    let w = sound_at a.kind a.from a.to c.requires (ne_eqb _ _ c.if-kind-eq0.false) in
    omega (arith, w.2)

pub returns : goal.returns
returns c = let a = c.args in sym (status_store a.kind a.from a.to (ne_eqb _ _ c.if-kind-eq0.false) (ne_eqb _ _ c.if-kind-eq1.false))
