-- `lent::live_table` meets its contract. Assumes nothing.
use lib.Seq.{paste-zero}
use Rattle.lent.specs.Table.{table_of}
use lib.ListN.{replicate}
use Rattle.maps.specs.Places.{no_field}
use Rattle.lent.proofs.LentLaws.{out_step, out_end}
use borrow.Author.Rules.{rules}
use native.Mathlib.Omega.{arith}
use mathlib.Core.Path.{refl}
use Prim.Native.Nat.{◌<◌}
use Rattle.lent.proofs.live_table.Goals as goal

pub loop-i-preserved : goal.loop-i-preserved
loop-i-preserved c =
    let l = c.loop-i in
    let h : l.i < 256 = omega arith in
    (search rules, search rules, out_step c.args.t.now (replicate 256 no_field) refl l.table l.i _ h c.field_at.ensures l.invariant.2)

pub returns : goal.returns
returns c = out_end c.args.t.now (replicate 256 no_field) refl c.loop-i.table c.args.n c.loop-i.i c.requires.0 c.loop-i.invariant.0 c.loop-i-test.false c.loop-i.invariant.2

pub loop-i-init : goal.loop-i-init
loop-i-init c = (search rules, search rules, paste-zero (replicate 256 no_field) 0 (table_of c.args.t.now))
