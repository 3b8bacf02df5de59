-- The pages to believe, as one: what each contract hands to a caller, and what is asked of the library. `proofs/Believed` inhabits it. Assumes nothing.
use Rattle.readings.specs.Hears.{Hears}
use Rattle.says.specs.Edits.{Edits}
use Rattle.demands.specs.Demands.{Demands}
use Rattle.records.specs.Walks.{Walks}
use Rattle.library.specs.Asks.{AsksOnly}
use Rattle.library.specs.Leaves.{Leaves}
use Rattle.library.specs.Maps.{Maps}
use Rattle.library.specs.Shared.{Shared}
use Rattle.library.specs.Calls.{Calls}
use Rattle.library.specs.Lent.{Lent}
use Rattle.library.specs.Exports.{Exports}
use Rattle.library.specs.Encodings.{Encodings}

pub record Library : Type 0 where
  pub asks : AsksOnly
  pub leaves : Leaves
  pub maps : Maps
  pub shared : Shared
  pub calls : Calls
  pub lent : Lent
  pub exports : Exports
  pub encodings : Encodings
  pub hears : Hears
  pub edits : Edits
  pub demands : Demands
  pub walks : Walks
