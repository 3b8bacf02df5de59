-- `resume::resume_checked` meets its contract. Assumes nothing.
use Rattle.resume.proofs.ResumeLaws.{resume_whole, resume_tags}
use Rattle.resume.specs.Resume.{is_partial}
use mathlib.Core.Path.{sym, ap, ◌∙◌}
use Rattle.resume.proofs.resume_checked.Goals as goal

pub returns-then-is_partial : goal.returns-then-is_partial
returns-then-is_partial c =
    let a = c.args in
    resume_tags a.m a.b.now a.s.now a.k a.c.now a.z.now c.requires.0 c.requires.1 (ap is_partial (sym c.status_code.ensures) ∙ sym c.is_partial.ensures ∙ c.if-is_partial.true) _ _ c.only_value-first.ensures c.only_value-second.ensures _ c.compare_tags.ensures

pub returns-else-is_partial : goal.returns-else-is_partial
returns-else-is_partial c =
    let a = c.args in
    resume_whole a.m a.b.now a.s.now a.k a.c.now a.z.now c.requires.0 c.requires.1 (ap is_partial (sym c.status_code.ensures) ∙ sym c.is_partial.ensures ∙ c.if-is_partial.false)
