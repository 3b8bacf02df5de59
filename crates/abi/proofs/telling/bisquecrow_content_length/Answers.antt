-- `abi::telling::bisquecrow_content_length` meets its contract. Assumes nothing.
use Rattle.lent.proofs.LentLaws.{sound_parts}
use Rattle.abi.proofs.CallLaws.{told_damaged}
use Rattle.abi.proofs.TellLaws.{told_head}
use Rattle.abi.specs.Calls.{length_number}
use Rattle.codes.specs.Answers.{length_answer as length_of}
use Rattle.codes.specs.Codes.{length_of as lengthIn}
use mathlib.Core.Path.{sym, ◌∙◌}
use Rattle.std.proofs.Common.{rules, ◌≡◌}
use Rattle.abi.proofs.telling.bisquecrow_content_length.Goals as goal

pub head_at-h-requires : goal.head_at-h-requires
head_at-h-requires c = (sound_parts _ _ (sym c.is_sound.ensures ∙ c.if-is_sound.true)).0

pub content_length-l-requires : goal.content_length-l-requires
content_length-l-requires c = (sound_parts _ _ (sym c.is_sound.ensures ∙ c.if-is_sound.true)).1

pub returns-then-is_sound : goal.returns-then-is_sound
returns-then-is_sound c =
    let a = c.args in
    let w = sym c.is_sound.ensures ∙ c.if-is_sound.true in
    let q : c.match-l.length ≡ length_number c.content_length-l.result c.args.length.now = search rules in
    told_head a.head.now a.table.now a.block.now a.store.now _ w c.head_at-h.ensures length_of length_number lengthIn _ a.length.now _ _ c.content_length-l.ensures c.found.ensures q

pub returns : goal.returns
returns c = told_damaged _ _ _ (sym c.is_sound.ensures ∙ c.if-is_sound.false)
