-- The reading that a map and its loans stand for. Assumes nothing.
use Rattle.leaves.specs.declared.refusals.Refusal.{Refusal}
use Rattle.std.specs.Prelude.{List, ℕ, take, Ok, Result}
use Rattle.maps.specs.Good.{live}
use Rattle.maps.specs.declared.HeaderMap.{HeaderMap}
use Rattle.line_reader.specs.Reading.{Rules, Reading}
use Rattle.line_reader.specs.declared.Answer.{Answer}
use Rattle.line_reader.specs.declared.Answer.TheVariants.{More}

abbrev pub rules_of : HeaderMap → Rules
rules_of m = record { limit = m.limit; room = m.room; quirks = m.quirks }

-- with an answer
abbrev pub answering : HeaderMap → List ℕ → List ℕ → Result Answer Refusal → Reading
answering m b s a =
    record {
      block = take m.count b;
      line = m.line;
      found = record { awaits = m.awaits; status = m.status; fields = live m; store = take m.mark s };
      answer = a;
    }

-- the reading that a map stands for
abbrev pub reading_of : HeaderMap → List ℕ → List ℕ → Reading
reading_of m b s = answering m b s (Ok More)
