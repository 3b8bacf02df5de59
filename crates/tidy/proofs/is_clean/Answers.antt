-- `tidy::is_clean` meets its contract. Assumes nothing.
use Rattle.tidy.proofs.CleanLaws.{clean_is, status_not}
use Rattle.maps.proofs.GoodLaws.{ready_of}
use mathlib.Core.Path.{sym, ◌∙◌}
use Rattle.tidy.proofs.is_clean.Goals as goal

pub are_clean-requires : goal.are_clean-requires
are_clean-requires c = let a = c.args in (ready_of _ a.m a.block.now a.store.now c.requires).few

pub returns-then-not-status_is_clean : goal.returns-then-not-status_is_clean
returns-then-not-status_is_clean c =
    let a = c.args in
    status_not a.m a.block.now a.store.now c.requires (sym c.status_is_clean.ensures ∙ c.if-not-status_is_clean.true)

pub returns : goal.returns
returns c =
    let a = c.args in
    clean_is a.m a.block.now a.store.now c.requires (sym c.status_is_clean.ensures ∙ c.if-not-status_is_clean.false) _ c.are_clean.ensures
