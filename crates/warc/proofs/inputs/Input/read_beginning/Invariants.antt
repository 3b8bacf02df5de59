use Rattle.std.proofs.Common.{◌≤◌}
use Rattle.warc.proofs.inputs.Input.read_beginning.Given as goal

abbrev pub invariant-loop : goal.invariant-loop
invariant-loop l = l.done ≤ 5
