-- `openings::open_texts` meets its contract. Assumes nothing.
use Rattle.openings.proofs.OpenLaws.{texts_record, texts_ten, texts_nine}
use mathlib.Core.Path.{sym, ◌∙◌}
use Rattle.openings.proofs.open_texts.Goals as goal

pub returns-then-not-is_version : goal.returns-then-not-is_version
returns-then-not-is_version c =
    let a = c.args in
    texts_nine a.status.now a.value.now a.kind _ c.trim-text.ensures.is (sym c.is_version.ensures ∙ c.if-not-is_version.true)

pub returns-then-not-is_length : goal.returns-then-not-is_length
returns-then-not-is_length c =
    let a = c.args in
    texts_ten a.status.now a.value.now a.kind _ c.trim-text.ensures.is (sym c.is_version.ensures ∙ c.if-not-is_version.false) (sym c.is_length.ensures ∙ c.if-not-is_length.true)

pub returns : goal.returns
returns c =
    let a = c.args in
    texts_record a.status.now a.value.now a.kind _ c.trim-text.ensures.is (sym c.is_version.ensures ∙ c.if-not-is_version.false) (sym c.is_length.ensures ∙ c.if-not-is_length.false) _ c.content_length.ensures
