-- `walker::turns::walk_body` meets its contract. Assumes nothing.
use Rattle.walker.proofs.WalkLaws.{body_far, body_part_lem}
use Rattle.walker.specs.Trails.{walker_of}
use mathlib.Core.Path.{◌∙◌}
use Rattle.walker.proofs.turns.walk_body.Goals as goal

pub returns-then-k-eq0 : goal.returns-then-k-eq0
returns-then-k-eq0 c = let a = c.args in λ m. c.stop.ensures m ∙ body_far (walker_of m a.t) a.k c.if-k-eq0.true

pub returns : goal.returns
returns c = let a = c.args in λ m. body_part_lem (walker_of m a.t) a.k c.if-k-eq0.false _ c.min-n.ensures
