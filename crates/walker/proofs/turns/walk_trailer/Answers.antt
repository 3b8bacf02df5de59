-- `walker::turns::walk_trailer` meets its contract. Assumes nothing.
use borrow.Author.Rules.{rules}
use Rattle.walker.specs.Trails.{walker_of}
use Rattle.walker.proofs.WalkLaws.{allowed_within, common_allowed, trailer_walks}
use native.Mathlib.Omega.{arith}
use mathlib.Core.Path.{◌∙◌}
use Prim.Native.Nat.{◌≤◌}
use lib.ListN.{length}
use Rattle.walker.proofs.turns.walk_trailer.Goals as goal

pub trailer_octets-same-requires : goal.trailer_octets-same-requires
trailer_octets-same-requires c =
    let h = allowed_within c.args.t.position (length c.args.piece.now) in
    let e = c.requires.1 in
    (c.requires.0, omega (arith, h, e))

pub end_trailer-requires : goal.end_trailer-requires
end_trailer-requires c =
    let a = c.args in
    let g : a.t.position ≤ 18446744073709551615 = search rules in
    common_allowed a.t.position g a.piece.now a.past c.requires.0 _ c.requires.1 _ c.trailer_octets-same.ensures

pub returns : goal.returns
returns c =
    let a = c.args in
    λ m. c.end_trailer.ensures m ∙ trailer_walks (walker_of m a.t) a.past a.piece.now _ c.requires.1 _ c.trailer_octets-same.ensures
