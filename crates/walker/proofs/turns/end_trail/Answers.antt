-- `walker::turns::end_trail` meets its contract. Assumes nothing.
use Rattle.walker.proofs.TrailLaws.{ends_rests, ends_over, ends_goes, ends_stops}
use mathlib.Core.Path.{sym, ap, ◌∙◌}
use Rattle.std.specs.Prelude.{Ok}
use Rattle.walker.proofs.turns.end_trail.Goals as goal

pub returns-in-Err : goal.returns-in-Err
returns-in-Err c =
    let a = c.args in
    ends_rests a.t a.c _ c.rests.ensures _ c.in-Err.is c.stand.result c.stand.ensures

pub returns-in-Ok-false : goal.returns-in-Ok-false
returns-in-Ok-false c =
    let a = c.args in
    ends_over a.t a.c _ c.rests.ensures (c.in-Ok-false.is ∙ ap Ok c.in-Ok-false.field-0-test) c.stand-in-Ok-false.result c.stand-in-Ok-false.ensures

pub returns-in-Ok : goal.returns-in-Ok
returns-in-Ok c =
    let a = c.args in
    ends_goes a.t a.c _ c.rests.ensures (c.in-Ok-true.is ∙ ap Ok c.in-Ok-true.field-0-test) (sym c.in-Ok.is ∙ c.check_rest.ensures) c.end_stage.result c.end_stage.ensures

pub returns-in-Err-check_rest : goal.returns-in-Err-check_rest
returns-in-Err-check_rest c =
    let a = c.args in
    ends_stops a.t a.c _ c.rests.ensures (c.in-Ok-true.is ∙ ap Ok c.in-Ok-true.field-0-test) _ (sym c.in-Err-check_rest.is ∙ c.check_rest.ensures) c.stop.result c.stop.ensures
