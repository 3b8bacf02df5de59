-- `writes::put_two` meets its contract. Assumes nothing.
use Rattle.writes.proofs.PutLaws.{two}
use native.Mathlib.Omega.{arith}
use mathlib.Core.Path.{refl}
use Rattle.writes.proofs.put_two.Goals as goal

pub returns : goal.returns
returns c = record { ends = refl; is = two c.args.out.now c.args.at c.args.x c.args.y (omega arith) }
