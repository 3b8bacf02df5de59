-- `abi::telling::bisquecrow_record_type` meets its contract. Assumes nothing.
use Rattle.lent.proofs.LentLaws.{sound_parts}
use Rattle.abi.proofs.CallLaws.{told_damaged}
use Rattle.abi.proofs.TellLaws.{told_head}
use Rattle.abi.specs.Calls.{kind_number}
use Rattle.codes.specs.Answers.{kind_answer as kind_of}
use Rattle.codes.specs.Codes.{kind_of as kindIn}
use mathlib.Core.Path.{sym, ◌∙◌}
use Rattle.std.proofs.Common.{rules, ◌≡◌}
use Rattle.abi.proofs.telling.bisquecrow_record_type.Goals as goal

pub head_at-h-requires : goal.head_at-h-requires
head_at-h-requires c = (sound_parts _ _ (sym c.is_sound.ensures ∙ c.if-is_sound.true)).0

pub record_type-k-requires : goal.record_type-k-requires
record_type-k-requires c = (sound_parts _ _ (sym c.is_sound.ensures ∙ c.if-is_sound.true)).1

pub returns-then-is_sound : goal.returns-then-is_sound
returns-then-is_sound c =
    let a = c.args in
    let w = sym c.is_sound.ensures ∙ c.if-is_sound.true in
    let q : c.match-k.code ≡ kind_number c.record_type-k.result c.args.code.now = search rules in
    let same : c.match-k.k ≡ c.record_type-k.result = search rules in
    told_head a.head.now a.table.now a.block.now a.store.now _ w c.head_at-h.ensures kind_of kind_number kindIn _ a.code.now _ _ c.record_type-k.ensures (rw same at c.typed.ensures) q

pub returns : goal.returns
returns c = told_damaged _ _ _ (sym c.is_sound.ensures ∙ c.if-is_sound.false)
