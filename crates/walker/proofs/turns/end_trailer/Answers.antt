-- `walker::turns::end_trailer` meets its contract. Assumes nothing.
use Rattle.walker.proofs.WalkLaws.{trailer_whole, trailer_differs, trailer_far, trailer_more}
use Rattle.walker.specs.Trails.{walker_of}
use mathlib.Core.Path.{◌∙◌}
use Rattle.walker.proofs.turns.end_trailer.Goals as goal

pub returns-then-past-same-eq4 : goal.returns-then-past-same-eq4
returns-then-past-same-eq4 c = let a = c.args in λ m. c.onward.ensures m ∙ trailer_whole (walker_of m a.t) a.past a.k a.n a.same c.if-past-same-eq4.true

pub returns-then-same-k : goal.returns-then-same-k
returns-then-same-k c = let a = c.args in λ m. c.halt.ensures m ∙ trailer_differs (walker_of m a.t) a.past a.k a.n a.same c.if-past-same-eq4.false c.if-same-k.true

pub returns-then-k-n : goal.returns-then-k-n
returns-then-k-n c = let a = c.args in λ m. c.halt-then-k-n.ensures m ∙ trailer_far (walker_of m a.t) a.past a.k a.n a.same c.if-past-same-eq4.false c.if-same-k.false c.if-k-n.true

pub returns : goal.returns
returns c = let a = c.args in λ m. c.onward-2.ensures m ∙ trailer_more (walker_of m a.t) a.past a.k a.n a.same c.if-past-same-eq4.false c.if-same-k.false c.if-k-n.false _ c.trailer_stage.ensures
