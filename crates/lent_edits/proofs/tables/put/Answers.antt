-- `lent_edits::tables::put` meets its contract. Assumes nothing.
use Rattle.leaves.specs.Sanitise.{sanitised}
use Rattle.lookups.specs.Lookups.{named}
use Rattle.lent_edits.proofs.PutInLaws.{still_fit, at_the_end, among_them}
use borrow.Author.Rules.{rules}
use mathlib.Core.Bool.{true}
use Rattle.lent_edits.proofs.tables.put.Goals as goal

pub returns-then-n-start : goal.returns-then-n-start
returns-then-n-start c =
    let p = named c.args.block.now c.args.store.now (sanitised true c.args.key.now) in
    at_the_end c.args.f c.args.t.now c.args.n c.args.at c.requires.3 c.requires.0 c.requires.1 c.requires.5 _ c.put_field.ensures p c.requires.2 c.if-n-start.true

pub compact-requires : goal.compact-requires
compact-requires c =
    (search rules, c.requires.0, search rules, still_fit c.args.f c.args.t.now c.args.n c.args.at c.requires.3 c.requires.0 c.requires.1 c.requires.5 _ c.put_field.ensures c.requires.4 c.if-n-start.false)

pub returns : goal.returns
returns c =
    let p = named c.args.block.now c.args.store.now (sanitised true c.args.key.now) in
    among_them c.args.f c.args.t.now c.args.n c.args.at c.requires.3 c.requires.0 c.requires.1 c.requires.5 _ c.put_field.ensures p c.requires.2 c.if-n-start.false _ c.compact.ensures
