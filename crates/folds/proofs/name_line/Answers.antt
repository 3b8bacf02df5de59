-- `folds::name_line` meets its contract. Assumes nothing.
use Rattle.folds.proofs.GrowLaws.{split_put, split_full, split_none}
use Rattle.leaves.proofs.PasteLaws.{tail_all}
use mathlib.Core.Path.{◌∙◌}
use Prim.Native.Nat.{◌+◌}
use Rattle.folds.proofs.name_line.Goals as goal

pub returns : goal.returns
returns c =
    let a = c.args in
    split_put a.start a.line.now a.fields a.mark c.colon-c.result c.colon-c.ensures c.if-c-line.false c.if-fields-ge256.false ∙
    rw (c.trimmed_place-key.ensures, c.trimmed_place-value.ensures, tail_all a.line.now (c.colon-c.result + 1))

pub returns-then-fields-ge256 : goal.returns-then-fields-ge256
returns-then-fields-ge256 c =
    let a = c.args in
    split_full a.start a.line.now a.fields a.mark c.colon-c.result c.colon-c.ensures c.if-c-line.false c.if-fields-ge256.true

pub returns-then-c-line : goal.returns-then-c-line
returns-then-c-line c =
    let a = c.args in
    split_none a.start a.line.now a.fields a.mark c.colon-c.result c.colon-c.ensures c.if-c-line.true
