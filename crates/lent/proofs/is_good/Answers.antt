-- `lent::is_good` meets its contract. Assumes nothing.
use Rattle.maps.proofs.GoodBy.{counts_few}
use Rattle.maps.specs.Good.{good, good_fields}
use Rattle.maps.proofs.GoodLaws.{and_go, and_stop}
use Rattle.lent.proofs.LentLaws.{fields_take}
use mathlib.Core.Path.{sym, ap, ◌∙◌}
use Rattle.lent.proofs.is_good.Goals as goal

pub returns-then-not-good_rooms : goal.returns-then-not-good_rooms
unfolding good
returns-then-not-good_rooms c = and_stop _ _ (sym c.good_rooms.ensures ∙ c.if-not-good_rooms.true)

pub returns-then-not-good_counts : goal.returns-then-not-good_counts
unfolding good
returns-then-not-good_counts c = and_stop _ _ (sym c.good_counts.ensures ∙ c.if-not-good_counts.true) ∙ and_go _ _ (sym c.good_rooms.ensures ∙ c.if-not-good_rooms.false)

pub returns-then-not-good_status : goal.returns-then-not-good_status
unfolding good
returns-then-not-good_status c =
    and_stop _ _ (sym c.good_status.ensures ∙ c.if-not-good_status.true) ∙ and_go _ _ (sym c.good_counts.ensures ∙ c.if-not-good_counts.false) ∙
    and_go _ _ (sym c.good_rooms.ensures ∙ c.if-not-good_rooms.false)

pub returns : goal.returns
unfolding good
returns c =
    let a = c.args.h in
    let q = sym c.good_counts.ensures ∙ c.if-not-good_counts.false in
    let few = counts_few a.limit a.room a.count a.mark a.line a.fields q in
    c.good_fields.ensures ∙ ap (good_fields a.count a.mark) (sym (fields_take c.args.t.now 0 256 a.fields few)) ∙
    and_go _ _ (sym c.good_status.ensures ∙ c.if-not-good_status.false) ∙ and_go _ _ q ∙ and_go _ _ (sym c.good_rooms.ensures ∙ c.if-not-good_rooms.false)
