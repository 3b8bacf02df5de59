-- `lent_reader::put_change` meets its contract. Assumes nothing.
use Rattle.std.specs.Prelude.{Ok}
use mathlib.Core.Path.{ap, ◌∙◌}
use Rattle.lent.specs.Table.{table_of}
use Rattle.lent.proofs.LentLaws.{fields_set}
use Rattle.lent_reader.proofs.put_change.Goals as goal

pub returns-in-Ok-Put : goal.returns-in-Ok-Put
returns-in-Ok-Put c =
    let q = rw (c.in-Ok-Put.is ∙ ap Ok (rw c.in-Ok-Put.is at c.in-Ok-Put.field-0-is)) at c.requires.1 in
    rw (c.in-Ok-Put.is ∙ ap Ok (rw c.in-Ok-Put.is at c.in-Ok-Put.field-0-is)) (ap table_of c.put_field.ensures ∙ fields_set c.args.t.now _ _ c.requires.0 q.slot q.field)
