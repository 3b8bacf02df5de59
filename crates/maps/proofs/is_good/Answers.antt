-- `maps::is_good` meets its contract. Assumes nothing.
use Prim.Native.Nat.{ℕ}
use lib.ListN.{take}
use mathlib.Core.Path.{sym, ap, ◌∙◌}
use Rattle.maps.proofs.GoodLaws.{no_fields, and_go, and_stop}
use Rattle.maps.specs.Good.{good, good_fields}
use borrow.Author.Tests.{eq-eqb}
use Rattle.maps.proofs.is_good.Goals as goal

pub returns-then-not-good_rooms : goal.returns-then-not-good_rooms
unfolding good
returns-then-not-good_rooms c = and_stop _ _ (sym c.good_rooms.ensures ∙ c.if-not-good_rooms.true)

pub returns-then-not-good_counts : goal.returns-then-not-good_counts
unfolding good
returns-then-not-good_counts c = and_stop _ _ (sym c.good_counts.ensures ∙ c.if-not-good_counts.true) ∙ and_go _ _ (sym c.good_rooms.ensures ∙ c.if-not-good_rooms.false)

pub returns-then-not-good_status : goal.returns-then-not-good_status
unfolding good
returns-then-not-good_status c =
    and_stop _ _ (sym c.good_status.ensures ∙ c.if-not-good_status.true) ∙ and_go _ _ (sym c.good_counts.ensures ∙ c.if-not-good_counts.false) ∙
    and_go _ _ (sym c.good_rooms.ensures ∙ c.if-not-good_rooms.false)

pub returns-then-m-eq0 : goal.returns-then-m-eq0
unfolding good
returns-then-m-eq0 c =
    let m = c.args.m in
    eq-eqb _ _ c.if-m-eq0.true ∙ sym (ap (λ (n : ℕ). good_fields m.count m.mark (take n m.table)) c.if-m-eq0.true ∙ no_fields m.count m.mark) ∙
    and_go _ _ (sym c.good_status.ensures ∙ c.if-not-good_status.false) ∙ and_go _ _ (sym c.good_counts.ensures ∙ c.if-not-good_counts.false) ∙
    and_go _ _ (sym c.good_rooms.ensures ∙ c.if-not-good_rooms.false)

pub returns-else-m-eq0 : goal.returns-else-m-eq0
unfolding good
returns-else-m-eq0 c =
    c.good_fields.ensures ∙ and_go _ _ (sym c.good_status.ensures ∙ c.if-not-good_status.false) ∙
    and_go _ _ (sym c.good_counts.ensures ∙ c.if-not-good_counts.false) ∙ and_go _ _ (sym c.good_rooms.ensures ∙ c.if-not-good_rooms.false)
