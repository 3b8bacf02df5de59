-- `edits::plan_put` meets its contract. Assumes nothing.
use Rattle.std.specs.Prelude.{Ok}
use mathlib.Core.Path.{◌≡◌, sym, ap, ◌∙◌}
use mathlib.Core.Bool.{true, false}
use lib.ListN.{length}
use Rattle.leaves.specs.Sanitise.{sanitised}
use Rattle.edits.proofs.EditLaws.{plan_full, plan_room, plan_put}
use Rattle.edits.proofs.plan_put.Goals as goal

pub returns-then-at-ge-FIELDS : goal.returns-then-at-ge-FIELDS
returns-then-at-ge-FIELDS c = sym (plan_full _ _ _ _ _ c.if-at-ge-FIELDS.true)

pub returns-then-fit : goal.returns-then-fit
returns-then-fit c =
    let a = c.args in
    let k : c.sanitised_length-k.result ≡ length (sanitised true a.key.now) = c.sanitised_length-k.ensures in
    let v : c.sanitised_length-v.result ≡ length (sanitised false a.value.now) = c.sanitised_length-v.ensures in
    ap Ok (rw (k, v) at c.new_field.ensures) ∙ sym (plan_put _ _ _ _ _ c.if-at-ge-FIELDS.false (rw (k, v) at (sym c.fit.ensures ∙ c.if-fit.true)))

pub returns-else-fit : goal.returns-else-fit
returns-else-fit c =
    let a = c.args in
    let k : c.sanitised_length-k.result ≡ length (sanitised true a.key.now) = c.sanitised_length-k.ensures in
    let v : c.sanitised_length-v.result ≡ length (sanitised false a.value.now) = c.sanitised_length-v.ensures in
    sym (plan_room _ _ _ _ _ c.if-at-ge-FIELDS.false (rw (k, v) at (sym c.fit.ensures ∙ c.if-fit.false)))
