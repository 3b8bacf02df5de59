-- The pages to believe hold. Assumes nothing.
use Rattle.readings.proofs.HearsHold.{hears}
use Rattle.says.proofs.EditsHold.{edits}
use Rattle.demands.proofs.Answers.{answered as demands-answered}
use Rattle.records.proofs.Files.{answered as walks-answered}
use Rattle.library.specs.Library.{Library}
use Rattle.library.proofs.EncodingsHold.{encodings}
use Rattle.library.proofs.Contracts.{asks, leaves, maps, shared, calls, lent, exports}

pub believed : Library
believed =
    record {
      asks = asks;
      leaves = leaves;
      maps = maps;
      shared = shared;
      calls = calls;
      lent = lent;
      exports = exports;
      encodings = encodings;
      hears = hears;
      edits = edits;
      demands = demands-answered;
      walks = walks-answered;
    }
