-- `lent_codes::content_length` meets its contract. Assumes nothing.
use Rattle.std.proofs.lemmas.Result.{err_from_is_err_and}
use Rattle.std.specs.Prelude.{Ok, Err}
use mathlib.Core.Path.{sym, ap, ◌∙◌}
use Rattle.codes.proofs.MapLaws.{length_found, length_missing, length_refused}
use Rattle.standard.specs.Names.{name_of}
use Rattle.standard.specs.declared.names.WarcHeader.TheVariants.{ContentLength}
use Rattle.lent.specs.Table.{map_in}
use Rattle.lent_codes.proofs.FindLaws.{found_small, found_value}
use Rattle.lent_codes.proofs.content_length.Goals as goal

pub value-requires : goal.value-requires
value-requires c =
    let s = c.args in
    (found_small s.t.now s.h s.block.now s.store.now (name_of ContentLength) _ (sym c.find.ensures ∙ c.in_ok-i.was ∙ ap Ok c.in-Some.is), c.requires)

pub returns-in_err-i : goal.returns-in_err-i
returns-in_err-i c =
    let s = c.args in
    let p = err_from_is_err_and c.from_residual.result c.from_residual.ensures.1 in
    p.1 ∙ ap Err p.2 ∙ length_refused (map_in s.t.now s.h) s.block.now s.store.now _ (sym c.find.ensures ∙ c.in_err-i.was)

pub returns-in-Some : goal.returns-in-Some
returns-in-Some c =
    let s = c.args in
    let f = sym c.find.ensures ∙ c.in_ok-i.was ∙ ap Ok c.in-Some.is in
    length_found (map_in s.t.now s.h) s.block.now s.store.now _ _ _ (c.value.ensures ∙ found_value s.t.now s.h s.block.now s.store.now (name_of ContentLength) _ f) f c.content_length.ensures

pub returns-in-None : goal.returns-in-None
returns-in-None c =
    let s = c.args in
    length_missing (map_in s.t.now s.h) s.block.now s.store.now (sym c.find.ensures ∙ c.in_ok-i.was ∙ ap Ok c.in-None.is)
