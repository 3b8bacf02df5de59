-- `walker::turns::carries_on` meets its contract. Assumes nothing.
use Rattle.walker.specs.Trails.{with_map}
use Rattle.walker.proofs.WalkLaws.{more_far, more_on}
use mathlib.Core.Path.{refl, ap, ◌∙◌}
use Rattle.walker.proofs.turns.carries_on.Goals as goal

pub returns-then-k-n : goal.returns-then-k-n
returns-then-k-n c =
    let a = c.args in
    λ m. ap (with_map m) c.at_stage.ensures ∙ more_far m a.t.position a.t.rest a.t.start a.taken a.k a.n c.if-k-n.true _ refl

pub returns : goal.returns
returns c =
    let a = c.args in
    λ m. ap (with_map m) c.at_stage-2.ensures ∙ more_on m a.t.position a.t.rest a.t.start a.taken a.k a.n c.if-k-n.false
