-- `equals::same_status` meets its contract. Assumes nothing.
use Rattle.equals.proofs.PairLaws.{both_none, second_some, first_some, both_some}
use Rattle.equals.proofs.same_status.Goals as goal

pub returns-in-Some-Some : goal.returns-in-Some-Some
returns-in-Some-Some c = let s = c.args in both_some s.b.now s.s.now s.c.now s.z.now s.x s.y _ _ c.in-Some-Some.is-0 c.in-Some-Some.is-1 _ _ c.part.ensures.is c.part-in-Some-Some.ensures.is _ c.same_octets.ensures

pub returns-in-None-None : goal.returns-in-None-None
returns-in-None-None c = let s = c.args in both_none s.b.now s.s.now s.c.now s.z.now s.x s.y c.in-None-None.is-0 c.in-None-None.is-1

pub returns-in-None-Some : goal.returns-in-None-Some
returns-in-None-Some c = let s = c.args in second_some s.b.now s.s.now s.c.now s.z.now s.x s.y _ c.in-None-Some.is-0 c.in-None-Some.is-1

pub returns-in-Some-None : goal.returns-in-Some-None
returns-in-Some-None c = let s = c.args in first_some s.b.now s.s.now s.c.now s.z.now s.x s.y _ c.in-Some-None.is-0 c.in-Some-None.is-1
