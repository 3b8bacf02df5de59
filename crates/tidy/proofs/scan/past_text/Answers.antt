-- `tidy::scan::past_text` meets its contract. Assumes nothing.
use Rattle.tidy.proofs.PassLaws.{text_past, text_not_neat, text_not_two}
use Rattle.leaves.proofs.SearchLaws.{before_within}
use lib.ListN.{length-drop}
use native.Mathlib.Omega.{arith}
use mathlib.Core.Path.{sym, ◌∙◌}
use lib.ListN.{drop}
use Rattle.tidy.proofs.scan.past_text.Goals as goal

pub has_two-requires : goal.has_two-requires
has_two-requires c = let a = c.args in omega (arith, c.find_octet-end.ensures, before_within a.x (drop a.at a.octets.now), length-drop a.at a.octets.now)

pub slice_bounds-is_neat-end : goal.slice_bounds-is_neat-end
slice_bounds-is_neat-end c = let a = c.args in omega (arith, c.find_octet-end.ensures, before_within a.x (drop a.at a.octets.now), length-drop a.at a.octets.now)

pub returns-then-is_neat : goal.returns-then-is_neat
returns-then-is_neat c = let a = c.args in text_past a.x a.y a.octets.now a.at _ c.find_octet-end.ensures (sym c.has_two.ensures ∙ c.if-has_two.true) (sym c.is_neat.ensures ∙ c.if-is_neat.true)

pub returns-then-has_two : goal.returns-then-has_two
returns-then-has_two c = let a = c.args in text_not_neat a.x a.y a.octets.now a.at _ c.find_octet-end.ensures (sym c.is_neat.ensures ∙ c.if-is_neat.false)

pub returns : goal.returns
returns c = let a = c.args in text_not_two a.x a.y a.octets.now a.at _ c.find_octet-end.ensures (sym c.has_two.ensures ∙ c.if-has_two.false)
