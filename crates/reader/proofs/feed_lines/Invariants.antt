-- `reader::feed_lines` meets its contract. Assumes nothing.
use mathlib.Core.Path.{◌≡◌}
use Prim.Native.Nat.{◌+◌, ◌-◌}
use lib.ListN.{length}
use Rattle.maps.specs.Heads.{under}
use Rattle.line_reader.proofs.HeldLaws.{Feeding, one}
use Rattle.reader.specs.Heads.{head_after}
use Rattle.reader.proofs.feed_lines.Given as goal

abbrev pub invariant-loop-going : goal.invariant-loop-going
invariant-loop-going l =
    (l.left ≡ head_after l.answer l.h) × Feeding l.piece (under l.initial.t l.initial.h) l.initial.block l.initial.store 0 (under l.t l.h) l.block l.store l.at l.answer l.going

abbrev pub decreases-loop-going : goal.decreases-loop-going
decreases-loop-going l = (length l.piece - l.at) + one l.going
