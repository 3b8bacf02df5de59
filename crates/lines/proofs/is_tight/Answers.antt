use native.Mathlib.Omega.{arith}
use Rattle.std.proofs.lemmas.Bool.Decides.{nat_tests}
use Rattle.lines.specs.Line.{tight}
use Rattle.lines.proofs.is_tight.Goals as goal

pub returns-else-line-c-gt32-2 : goal.returns-else-line-c-gt32-2
unfolding tight
returns-else-line-c-gt32-2 c = grind (arith, nat_tests)
