-- `walker::comes_to` meets its contract. Assumes nothing.
use Rattle.leaves.specs.declared.refusals.Refusal.{Refusal}
use Rattle.std.specs.Prelude.{Ok, Result, ℕ}
use Rattle.walker.specs.declared.Headed.TheVariants.{Opens}
use Rattle.openings.proofs.OpenLaws.{opening_goes}
use mathlib.Core.Path.{sym, ap, ◌∙◌}
use Rattle.walker.proofs.comes_to.Goals as goal

pub returns-in-Blank : goal.returns-in-Blank
returns-in-Blank c =
    let a = c.args in
    let e = c.in_ok-answer.was ∙ ap Ok c.in-Blank.is in
    rw e (ap (λ (o : Result (ℕ × ℕ) Refusal). Ok (Opens o)) (c.open_good.ensures ∙ sym (opening_goes a.m a.block.now a.store.now (c.requires e))))
