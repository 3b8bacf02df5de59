-- `walker::turns::turn` meets its contract. Assumes nothing.
use Rattle.walker.proofs.TrailLaws.{turn_rests, turn_over, turn_goes, turn_stops}
use mathlib.Core.Path.{sym, ap, ◌∙◌}
use Rattle.std.specs.Prelude.{Ok}
use Rattle.walker.proofs.turns.turn.Goals as goal

pub returns-in-Err : goal.returns-in-Err
returns-in-Err c =
    let a = c.args in
    turn_rests a.t a.c _ c.rests.ensures a.piece.now _ c.in-Err.is _ c.stand.ensures

pub returns-in-Ok-false : goal.returns-in-Ok-false
returns-in-Ok-false c =
    let a = c.args in
    turn_over a.t a.c _ c.rests.ensures a.piece.now (c.in-Ok-false.is ∙ ap Ok c.in-Ok-false.field-0-test) _ c.stand-in-Ok-false.ensures

pub returns-in-Ok : goal.returns-in-Ok
returns-in-Ok c =
    let a = c.args in
    turn_goes a.t a.c _ c.rests.ensures a.piece.now (c.in-Ok-true.is ∙ ap Ok c.in-Ok-true.field-0-test) (sym c.in-Ok.is ∙ c.check_rest.ensures) _ c.turn_on.ensures

pub returns-in-Err-check_rest : goal.returns-in-Err-check_rest
returns-in-Err-check_rest c =
    let a = c.args in
    turn_stops a.t a.c _ c.rests.ensures a.piece.now (c.in-Ok-true.is ∙ ap Ok c.in-Ok-true.field-0-test) _ (sym c.in-Err-check_rest.is ∙ c.check_rest.ensures) _ c.stop.ensures
