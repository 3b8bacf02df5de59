-- `equals::compare_checked` meets its contract. Assumes nothing.
use Rattle.maps.proofs.GoodLaws.{ready_of}
use Rattle.equals.proofs.CompareLaws.{status_differs, counts_differ, same_is}
use mathlib.Core.Path.{sym, ◌∙◌}
use Rattle.equals.proofs.compare_checked.Goals as goal

pub same_fields-requires : goal.same_fields-requires
same_fields-requires c = let a = c.args in (ready_of _ a.m a.b.now a.s.now c.requires.0).few

pub returns-then-m-k : goal.returns-then-m-k
returns-then-m-k c =
    let a = c.args in
    counts_differ a.m a.b.now a.s.now a.k a.c.now a.z.now c.requires.0 c.requires.1 (c.well_formed.0.1.1.0.1.0.1) (c.well_formed.1.1.1.0.1.1.0.1.0.1)
    (ready_of _ a.m a.b.now a.s.now c.requires.0).few (ready_of _ a.k a.c.now a.z.now c.requires.1).few c.if-m-k.true

pub returns-then-not-same_status : goal.returns-then-not-same_status
returns-then-not-same_status c =
    let a = c.args in
    status_differs a.m a.b.now a.s.now a.k a.c.now a.z.now c.requires.0 c.requires.1 (sym c.same_status.ensures ∙ c.if-not-same_status.true)

pub returns : goal.returns
returns c =
    let a = c.args in
    same_is a.m a.b.now a.s.now a.k a.c.now a.z.now c.requires.0 c.requires.1 (sym c.same_status.ensures ∙ c.if-not-same_status.false) c.if-m-k.false _ c.same_fields.ensures
