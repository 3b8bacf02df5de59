-- `abi::walking::bisquecrow_walker` meets its contract. Assumes nothing.
use Rattle.abi.proofs.WalkedLaws.{started_fine, started_refused, goes_sound, goes_no_map, goes_no_trail}
use Rattle.abi.proofs.CallLaws.{long_head}
use Rattle.abi.specs.Calls.{walker_gives}
use Rattle.lent.specs.Table.{table_of}
use borrow.Author.Tests.{eq-eqb, ne_eqb}
use mathlib.Core.Path.{sym, ◌∙◌}
use Rattle.abi.proofs.walking.bisquecrow_walker.Goals as goal

pub put_head-requires : goal.put_head-requires
put_head-requires c = long_head _ _ (sym c.is_long.ensures ∙ c.if-is_long.true)

pub returns-in-Ok : goal.returns-in-Ok
unfolding walker_gives
returns-in-Ok c =
    goes_sound _ _ _ _ _ _ _ _ _ _ _ _ _ _ _ _ (eq-eqb _ _ c.if-trail-eq-TRAIL.true) (sym c.is_long.ensures ∙ c.if-is_long.true)
    (started_fine _ _ _ _ _ _ _ (rw c.unmade-h.ensures at c.start-walked.ensures (table_of c.args.table.now)) _ _ _ c.in-Ok.is c.put_head.ensures c.put_trail.ensures)

pub returns-in-Err : goal.returns-in-Err
unfolding walker_gives
returns-in-Err c =
    goes_sound _ _ _ _ _ _ _ _ _ _ _ _ _ _ _ _ (eq-eqb _ _ c.if-trail-eq-TRAIL.true) (sym c.is_long.ensures ∙ c.if-is_long.true)
    (started_refused _ _ _ _ _ _ _ (rw c.unmade-h.ensures at c.start-walked.ensures (table_of c.args.table.now)) _ _ c.in-Err.is c.refused.ensures)

pub returns-then-trail-eq-TRAIL : goal.returns-then-trail-eq-TRAIL
unfolding walker_gives
returns-then-trail-eq-TRAIL c = goes_no_map _ _ _ _ _ _ _ _ _ (eq-eqb _ _ c.if-trail-eq-TRAIL.true) (sym c.is_long.ensures ∙ c.if-is_long.false)

pub returns : goal.returns
unfolding walker_gives
returns c = goes_no_trail _ _ _ _ _ _ _ _ _ (ne_eqb _ _ c.if-trail-eq-TRAIL.false)
