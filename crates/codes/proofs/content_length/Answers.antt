-- `codes::content_length` meets its contract. Assumes nothing.
use Rattle.codes.proofs.MapLaws.{length_found, length_missing, length_refused}
use Rattle.lookups.proofs.FoundLaws.{sight_at, sight_value, sight_missing, sight_blind}
use Rattle.standard.specs.declared.names.WarcHeader.TheVariants.{ContentLength}
use Rattle.standard.specs.Names.{name_of}
use mathlib.Core.Path.{sym, ◌∙◌, ap}
use Rattle.std.specs.Prelude.{Ok}
use Rattle.codes.proofs.content_length.Goals as goal

pub returns-in-Err : goal.returns-in-Err
returns-in-Err c =
    let a = c.args in
    length_refused _ _ _ _ (sight_blind a.m a.block.now a.store.now (name_of ContentLength) 0 _ (sym c.sight.ensures ∙ c.in-Err.is))

pub returns-in-Ok-Some : goal.returns-in-Ok-Some
returns-in-Ok-Some c =
    let a = c.args in
    let e = sym c.sight.ensures ∙ c.in-Ok-Some.is ∙ ap Ok c.in-Ok-Some.field-0-is in
    length_found a.m a.block.now a.store.now _ _ _ (c.part-value.ensures.is ∙ sight_value a.m a.block.now a.store.now (name_of ContentLength) 0 _ _ e) (sight_at a.m a.block.now a.store.now (name_of ContentLength) 0 _ _ e) c.content_length.ensures

pub returns-in-Ok-None : goal.returns-in-Ok-None
returns-in-Ok-None c =
    let a = c.args in
    length_missing _ _ _ (sight_missing a.m a.block.now a.store.now (name_of ContentLength) 0 (sym c.sight.ensures ∙ c.in-Ok-None.is ∙ ap Ok c.in-Ok-None.field-0-is))
