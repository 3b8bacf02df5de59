-- `lookups::status` meets its contract. Assumes nothing.
use native.Mathlib.Omega.{arith}
use Rattle.lookups.specs.Lookups.{status_in}
use Rattle.lookups.proofs.HandLaws.{hands_part, status_within, hands_nothing}
use mathlib.Core.Path.{sym, ap, ◌∙◌, refl}
use Rattle.lookups.proofs.status.Goals as goal

pub returns-in-Some : goal.returns-in-Some
returns-in-Some c =
    let e = sym c.shown_status.ensures ∙ c.in-Some.is in
    hands_part _ _ _ _ _ _ (ap status_in e) (status_within _ _ _ _ e) c.part.ensures

pub returns-in-None : goal.returns-in-None
returns-in-None c = hands_nothing _ _ _ _ _ _ (ap status_in (sym c.shown_status.ensures ∙ c.in-None.is)) refl (refl, omega arith)
