-- `abi::telling::bisquecrow_status_code` meets its contract. Assumes nothing.
use Rattle.lent.proofs.LentLaws.{sound_parts}
use Rattle.abi.proofs.CallLaws.{told_damaged}
use Rattle.abi.proofs.TellLaws.{told_head}
use Rattle.abi.specs.Calls.{code_number}
use Rattle.codes.specs.Answers.{code_answer as code_of}
use Rattle.codes.specs.Codes.{coding}
use mathlib.Core.Path.{sym, ◌∙◌}
use Rattle.std.proofs.Common.{rules, ◌≡◌}
use Rattle.abi.proofs.telling.bisquecrow_status_code.Goals as goal

pub head_at-h-requires : goal.head_at-h-requires
head_at-h-requires c = (sound_parts _ _ (sym c.is_sound.ensures ∙ c.if-is_sound.true)).0

pub status_code-c-requires : goal.status_code-c-requires
status_code-c-requires c = (sound_parts _ _ (sym c.is_sound.ensures ∙ c.if-is_sound.true)).1

pub returns-then-is_sound : goal.returns-then-is_sound
returns-then-is_sound c =
    let a = c.args in
    let w = sym c.is_sound.ensures ∙ c.if-is_sound.true in
    let q : c.match-c.code ≡ code_number c.status_code-c.result c.args.code.now = search rules in
    told_head a.head.now a.table.now a.block.now a.store.now _ w c.head_at-h.ensures code_of code_number coding _ a.code.now _ _ c.status_code-c.ensures c.found.ensures q

pub returns : goal.returns
returns c = told_damaged _ _ _ (sym c.is_sound.ensures ∙ c.if-is_sound.false)
