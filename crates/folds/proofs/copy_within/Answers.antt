-- `folds::copy_within` meets its contract. Assumes nothing.
use mathlib.Core.Path.{◌≡◌, ◌∙◌}
use mathlib.Core.List.{append_assoc}
use Prim.Native.Nat.{◌+◌, ◌-◌}
use native.Mathlib.Omega.{arith}
use lib.ListN.{length, take, drop, length-drop}
use lib.Seq.{length-take-le}
use Rattle.leaves.specs.Paste.{pasted}
use Rattle.folds.proofs.copy_within.Goals as goal

pub returns : goal.returns
unfolding pasted
returns c =
    let a = c.args in
    let d = a.store.now in
    let k = a.«end» - a.from in
    let e : length (take k (drop a.from d)) ≡ k = length-take-le k (drop a.from d) (omega (arith, c.requires.0, c.requires.1, c.requires.2, length-drop a.from d)) in
    rw e (c.copy_within.ensures.after ∙ append_assoc (take a.to d) (take k (drop a.from d)) (drop (a.to + k) d))
