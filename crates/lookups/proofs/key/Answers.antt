-- `lookups::key` meets its contract. Assumes nothing.
use Rattle.lookups.specs.Lookups.{key_in}
use Rattle.lookups.proofs.HandLaws.{hands_part, slot_within}
use mathlib.Core.Path.{sym, ap, ◌∙◌}
use Rattle.lookups.proofs.key.Goals as goal

pub returns-in-Some : goal.returns-in-Some
returns-in-Some c =
    let e = sym c.slot_at.ensures ∙ c.in-Some.is in
    hands_part _ _ _ _ _ _ (ap key_in e) (slot_within _ _ _ _ _ e).0 c.part.ensures
