-- `abi::writing::bisquecrow_rebuild` meets its contract. Assumes nothing.
use Rattle.lent.proofs.LentLaws.{sound_parts}
use Rattle.abi.proofs.CallLaws.{put_damaged}
use Rattle.abi.proofs.TellLaws.{put_head}
use Rattle.writes.specs.Written.{rebuilding}
use mathlib.Core.Path.{sym, ◌∙◌}
use Rattle.std.proofs.Common.{rules, ◌≡◌}
use Rattle.abi.specs.Calls.{count_number}
use Rattle.abi.proofs.writing.bisquecrow_rebuild.Goals as goal

pub head_at-h-requires : goal.head_at-h-requires
head_at-h-requires c = (sound_parts _ _ (sym c.is_sound.ensures ∙ c.if-is_sound.true)).0

pub rebuild-w-requires : goal.rebuild-w-requires
rebuild-w-requires c = (sound_parts _ _ (sym c.is_sound.ensures ∙ c.if-is_sound.true)).1

pub returns-then-is_sound : goal.returns-then-is_sound
returns-then-is_sound c =
    let a = c.args in
    let w = sym c.is_sound.ensures ∙ c.if-is_sound.true in
    let q : c.match-w.count ≡ count_number c.rebuild-w.result c.args.count.now = search rules in
    let same : c.match-w.w ≡ c.rebuild-w.result = search rules in
    put_head a.head.now a.table.now a.block.now a.store.now _ w c.head_at-h.ensures rebuilding _ a.out.now _ a.count.now _ _ c.rebuild-w.ensures (rw same at c.done.ensures) q

pub returns : goal.returns
returns c = put_damaged _ _ _ _ (sym c.is_sound.ensures ∙ c.if-is_sound.false)
