-- `lent_reader::feed_lines` meets its contract. Assumes nothing.
use mathlib.Core.Path.{◌≡◌}
use Prim.Native.Nat.{◌+◌, ◌-◌}
use lib.ListN.{length}
use Rattle.line_reader.proofs.HeldLaws.{Feeding, one}
use Rattle.lent.specs.Table.{map_in}
use Rattle.lent_reader.proofs.feed_lines.Given as goal

abbrev pub invariant-loop-going : goal.invariant-loop-going
invariant-loop-going l =
    (length l.t ≡ 1024) × Feeding l.piece (map_in l.initial.t l.initial.now) l.initial.block l.initial.store 0 (map_in l.t l.now) l.block l.store l.at l.answer l.going

abbrev pub decreases-loop-going : goal.decreases-loop-going
decreases-loop-going l = (length l.piece - l.at) + one l.going
