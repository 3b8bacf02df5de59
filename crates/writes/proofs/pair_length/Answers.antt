-- `writes::pair_length` meets its contract. Assumes nothing.
use Rattle.writes.proofs.FormLaws.{bare_length, full_length}
use native.Mathlib.Omega.{arith}
use mathlib.Core.Path.{sym}
use Rattle.writes.proofs.pair_length.Goals as goal

pub returns-then-key-eq0 : goal.returns-then-key-eq0
returns-then-key-eq0 c = (sym (bare_length _ _ c.if-key-eq0.true), omega (arith, c.requires.1))

pub returns : goal.returns
returns c = (sym (full_length _ _ c.if-key-eq0.false), omega (arith, c.requires.1))
