-- `walker::turns::allowed` meets its contract. Assumes nothing.
use Rattle.walker.proofs.WalkLaws.{allowed_before, allowed_behind}
use Rattle.walker.proofs.turns.allowed.Goals as goal

pub returns-then-position-lt-FURTHEST : goal.returns-then-position-lt-FURTHEST
returns-then-position-lt-FURTHEST c = let a = c.args in allowed_before a.position a.n c.if-position-lt-FURTHEST.true _ c.min.ensures

pub returns : goal.returns
returns c = let a = c.args in allowed_behind a.position a.n c.if-position-lt-FURTHEST.false
