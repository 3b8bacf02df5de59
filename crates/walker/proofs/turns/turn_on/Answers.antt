-- `walker::turns::turn_on` meets its contract. Assumes nothing.
use borrow.Author.Rules.{rules}
use Rattle.walker.specs.declared.Walker.{Walker}
use Rattle.walker.specs.Walk.{body_walked, trailer_walked, allowed}
use Rattle.walker.proofs.TrailLaws.{empties, on_way, stays, way_past}
use Rattle.walker.proofs.WalkLaws.{allowed_all}
use mathlib.Core.Path.{sym, ◌∙◌}
use Prim.Native.Nat.{◌≤◌}
use lib.ListN.{length}
use Rattle.walker.proofs.turns.turn_on.Goals as goal

pub returns-then-piece-eq0 : goal.returns-then-piece-eq0
returns-then-piece-eq0 c =
    let a = c.args in
    empties a.t a.piece.now c.if-piece-eq0.true _ c.stand.ensures

pub walk_body-requires : goal.walk_body-requires
walk_body-requires c =
    let a = c.args in
    let g : a.t.position ≤ 18446744073709551615 = search rules in
    allowed_all a.t.position (length a.piece.now) g _ c.allowed-k.ensures

pub walk_trailer-requires : goal.walk_trailer-requires
walk_trailer-requires c =
    let a = c.args in
    (way_past a.t.stage a.t.rest _ (sym c.way_of.ensures ∙ c.in-Trails.is), c.allowed-k.ensures)

pub returns-in-Begins : goal.returns-in-Begins
returns-in-Begins c =
    on_way c.args.t c.args.piece.now c.if-piece-eq0.false c.requires _ (sym c.in-Begins.is ∙ c.way_of.ensures) _ (c.begin_header.ensures c.args.piece.now c.allowed-k.ensures)

pub returns-in-GoesOn : goal.returns-in-GoesOn
returns-in-GoesOn c =
    on_way c.args.t c.args.piece.now c.if-piece-eq0.false c.requires _ (sym c.in-GoesOn.is ∙ c.way_of.ensures) _ (c.resume_header.ensures c.args.piece.now c.allowed-k.ensures)

pub returns-in-Passes : goal.returns-in-Passes
returns-in-Passes c =
    on_way c.args.t c.args.piece.now c.if-piece-eq0.false c.requires _ (sym c.in-Passes.is ∙ c.way_of.ensures) _
    (stays c.args.t c.args.piece.now _ (λ (x : Walker). body_walked x (allowed x.position (length c.args.piece.now)))
    (λ m. c.walk_body.ensures m ∙ rw c.allowed-k.ensures))

pub returns-in-Trails : goal.returns-in-Trails
returns-in-Trails c =
    on_way c.args.t c.args.piece.now c.if-piece-eq0.false c.requires _ (sym c.in-Trails.is ∙ c.way_of.ensures) _
    (stays c.args.t c.args.piece.now _ (λ (x : Walker). trailer_walked x _ c.args.piece.now) c.walk_trailer.ensures)
