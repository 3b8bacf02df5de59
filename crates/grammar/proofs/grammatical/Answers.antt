-- `grammar::grammatical` meets its contract. Assumes nothing.
use Rattle.grammar.specs.declared.Stage.TheVariants.{First}
use Rattle.grammar.specs.Walk.{walk}
use Rattle.grammar.proofs.StageLaws.{short, unversioned, versioned}
use Rattle.leaves.proofs.PasteLaws.{tail_all}
use mathlib.Core.Path.{sym, ap, ◌∙◌}
use Rattle.grammar.proofs.grammatical.Goals as goal

pub returns-then-octets-lt10 : goal.returns-then-octets-lt10
returns-then-octets-lt10 c = sym (short _ c.if-octets-lt10.true)

pub returns-then-is_version : goal.returns-then-is_version
returns-then-is_version c =
    let s = c.args.octets.now in
    c.are_fields.ensures ∙ ap (walk First) (tail_all s 10) ∙ sym (versioned s (sym c.is_version.ensures ∙ c.if-is_version.true))

pub returns-else-is_version : goal.returns-else-is_version
returns-else-is_version c =
    let s = c.args.octets.now in
    c.if-is_version.false ∙ sym (unversioned s (sym c.is_version.ensures ∙ c.if-is_version.false))
