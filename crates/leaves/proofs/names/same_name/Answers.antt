use mathlib.Core.Path.{sym}
use Rattle.leaves.proofs.Words.{same_decided}
use Rattle.leaves.proofs.names.same_name.Goals as goal

pub returns : goal.returns
returns c = sym (same_decided c.args.a.now c.args.b.now _ c.eq_ignore_ascii_case.ensures.test)
