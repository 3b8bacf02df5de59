-- `folds::line_change` meets its contract. Assumes nothing.
use native.Mathlib.Omega.{arith}
use mathlib.Core.Path.{◌≡◌, sym, ap, ◌∙◌}
use Prim.Native.Nat.{◌-◌}
use lib.ListN.{length, take, drop}
use lib.ListN.{length-drop}
use lib.Seq.{length-take-le}
use Rattle.leaves.proofs.PasteLaws.{tail_all}
use Rattle.folds.proofs.GrowLaws.{plain_change}
use Rattle.folds.proofs.TightPut.{short_of, rule4_tight}
use Rattle.folds.proofs.line_change.Goals as goal

pub tight_field-requires : goal.tight_field-requires
tight_field-requires c =
    let a = c.args in
    let w = take a.count a.block.now in
    let z : length w ≡ a.count = length-take-le a.count a.block.now c.requires.0.inside in
    let l = take (length w - a.start) (drop a.start w) in
    let short = short_of a.awaits a.fields a.c l (sym c.is_tight_field.ensures ∙ c.if-is_tight_field.true) in
    let n : length l ≡ length w - a.start = ap length (tail_all w a.start) ∙ length-drop a.start w in
    (short.is_tight.long, omega (arith, c.requires.0.order, c.requires.0.small))

pub returns-then-is_tight_field : goal.returns-then-is_tight_field
returns-then-is_tight_field c =
    let a = c.args in
    let w = take a.count a.block.now in
    let z : length w ≡ a.count = length-take-le a.count a.block.now c.requires.0.inside in
    let l = take (length w - a.start) (drop a.start w) in
    let short = short_of a.awaits a.fields a.c l (sym c.is_tight_field.ensures ∙ c.if-is_tight_field.true) in
    let q = tail_all w a.start in
    plain_change _ _ _ _ (rule4_tight a.room w a.start a.awaits a.fields a.last a.mark (take a.mark a.store.now) a.c (rw q at short) c.requires.1 ∙ rw (c.tight_field.ensures, q))
