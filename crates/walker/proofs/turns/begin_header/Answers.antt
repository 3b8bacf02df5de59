-- `walker::turns::begin_header` meets its contract. Assumes nothing.
use borrow.Author.Rules.{rules}
use Rattle.walker.specs.Trails.{walker_of}
use Rattle.walker.specs.Walk.{keeps}
use Rattle.walker.proofs.TrailLaws.{begins_reads}
use Rattle.walker.proofs.WalkLaws.{between_far}
use native.Mathlib.Omega.{arith}
use mathlib.Core.Path.{sym, ap, ◌∙◌}
use Prim.Native.Nat.{◌≤◌}
use Rattle.walker.proofs.turns.begin_header.Goals as goal

pub returns-then-k-eq0 : goal.returns-then-k-eq0
returns-then-k-eq0 c =
    let a = c.args in
    λ p e.
    record {
      gives = λ m b s. between_far (walker_of m a.t) b s p a.k e c.if-k-eq0.true ∙ ap (keeps b s) (sym (c.stop.ensures m));
      reaches = omega arith;
    }

pub returns : goal.returns
returns c =
    let a = c.args in
    let g : a.t.position ≤ 18446744073709551615 = search rules in
    λ p e. begins_reads a.t a.k g p e c.if-k-eq0.false
