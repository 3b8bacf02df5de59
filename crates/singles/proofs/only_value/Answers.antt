-- `singles::only_value` meets its contract. Assumes nothing.
use Rattle.std.specs.Prelude.{Ok}
use Rattle.singles.proofs.FieldLaws.{found_small, none_missing, one_found, none_again, none_refused}
use Rattle.lookups.proofs.FoundLaws.{sight_at, sight_value, sight_missing, sight_blind}
use native.Mathlib.Omega.{arith}
use mathlib.Core.Path.{sym, ◌∙◌, ap}
use Rattle.singles.proofs.only_value.Goals as goal

pub overflow_add-first : goal.overflow_add-first
overflow_add-first c =
    let a = c.args in
    let e = sight_at a.m a.block.now a.store.now a.name.now 0 _ _ (sym c.sight.ensures ∙ (c.in-Ok-Some.is ∙ ap Ok c.in-Ok-Some.field-0-is)) in
    let h = found_small a.m a.block.now a.store.now a.name.now _ e in
    omega (arith, h)

pub returns-in-Ok-Some-find : goal.returns-in-Ok-Some-find
returns-in-Ok-Some-find c =
    let a = c.args in
    none_again a.m a.block.now a.store.now a.name.now _ _ (sight_at a.m a.block.now a.store.now a.name.now 0 _ _ (sym c.sight.ensures ∙ (c.in-Ok-Some.is ∙ ap Ok c.in-Ok-Some.field-0-is))) (sym c.find.ensures ∙ (c.in-Ok-Some-find.is ∙ ap Ok c.in-Ok-Some-find.field-0-is))

pub returns-in-Ok-None-find : goal.returns-in-Ok-None-find
returns-in-Ok-None-find c =
    let a = c.args in
    let e = sym c.sight.ensures ∙ (c.in-Ok-Some.is ∙ ap Ok c.in-Ok-Some.field-0-is) in
    one_found a.m a.block.now a.store.now a.name.now _ (sight_at a.m a.block.now a.store.now a.name.now 0 _ _ e) (sym c.find.ensures ∙ (c.in-Ok-None-find.is ∙ ap Ok c.in-Ok-None-find.field-0-is)) _ (c.part.ensures.is ∙ sight_value a.m a.block.now a.store.now a.name.now 0 _ _ e)

pub returns-in-Err-find : goal.returns-in-Err-find
returns-in-Err-find c =
    let a = c.args in
    none_refused a.m a.block.now a.store.now a.name.now _ _ (sym c.find.ensures ∙ c.in-Err-find.is)

pub returns-in-Ok-None : goal.returns-in-Ok-None
returns-in-Ok-None c =
    let a = c.args in
    none_missing a.m a.block.now a.store.now a.name.now (sight_missing a.m a.block.now a.store.now a.name.now 0 (sym c.sight.ensures ∙ (c.in-Ok-None.is ∙ ap Ok c.in-Ok-None.field-0-is)))

pub returns-in-Err : goal.returns-in-Err
returns-in-Err c =
    let a = c.args in
    none_refused a.m a.block.now a.store.now a.name.now 0 _ (sight_blind a.m a.block.now a.store.now a.name.now 0 _ (sym c.sight.ensures ∙ c.in-Err.is))
