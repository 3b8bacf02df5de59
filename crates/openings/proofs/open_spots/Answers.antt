-- `openings::open_spots` meets its contract. Assumes nothing.
use Rattle.openings.proofs.OpenLaws.{spots_nine, spots_texts}
use mathlib.Core.Path.{◌∙◌}
use Rattle.openings.proofs.open_spots.Goals as goal

pub returns-in-None : goal.returns-in-None
returns-in-None c = let a = c.args in rw c.in-None.is (spots_nine a.block.now a.store.now a.z)

pub returns-in-Some : goal.returns-in-Some
returns-in-Some c =
    let a = c.args in
    rw c.in-Some.is
    (c.open_texts.ensures ∙ spots_texts a.block.now a.store.now a.z _ _ _ _ c.part-text.ensures.is c.length_text-value.ensures c.kind_code-kind.ensures)
