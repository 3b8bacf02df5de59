-- `grammar::are_fields` meets its contract. Assumes nothing.
use Rattle.grammar.specs.declared.Stage.TheVariants.{First}
use Rattle.grammar.specs.Walk.{walk}
use mathlib.Core.Path.{◌≡◌}
use lib.ListN.{drop}
use Rattle.grammar.proofs.are_fields.Given as goal

abbrev pub invariant-loop-x : goal.invariant-loop-x
invariant-loop-x l = (walk First l.lines ≡ walk l.stage (drop l.x-index l.lines))
