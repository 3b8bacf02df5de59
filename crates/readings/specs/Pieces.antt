-- Pieces fed one after the other, and the end of input behind them. Assumes nothing.
use Rattle.std.specs.Prelude.{List, [], ◌∷◌, ℕ, ◌+◌, Err, Ok, Result, ⊤}
use Rattle.leaves.specs.Refusals.{refusal}
use Rattle.leaves.specs.declared.refusals.Refusal.{Refusal}
use Rattle.maps.specs.Maps.{Given}
use Rattle.maps.specs.declared.HeaderMap.{HeaderMap}
use Rattle.reader.specs.Calls.{feeding, finishing}
use Rattle.line_reader.specs.declared.Answer.{Answer}
use Rattle.line_reader.specs.declared.Answer.TheVariants.{More, Blank, Input}
use Rattle.reader.specs.declared.Fed.{Fed}

-- what a call gives, when k octets were taken before it
abbrev pub after : ℕ → Given Fed → Given Fed
after k g =
    record {
      result = record { map = g.result.map; taken = k + g.result.taken; answer = g.result.answer };
      block = g.block;
      store = g.store;
    }

-- a call on the map and the loans that the call before left
abbrev pub next : (HeaderMap → List ℕ → List ℕ → Given Fed) → Given Fed → Given Fed
next call g = after g.result.taken (call g.result.map g.block g.store)

-- the same, where the call before answered More; an end or a refusal stands
abbrev pub and_then : (HeaderMap → List ℕ → List ℕ → Given Fed) → Result Answer Refusal → Given Fed → Given Fed
and_then call (Ok More) g = next call g
and_then call (Ok Blank) g = g
and_then call (Ok Input) g = g
and_then call (Err e) g = g

-- "Feeding answers more, ended, or a number": a piece is fed while the one before it answered more
unfoldable pub feedings : HeaderMap → List ℕ → List ℕ → List (List ℕ) → Given Fed
feedings m b s [] = feeding m b s []
feedings m b s (p ∷ ps) = and_then (λ m b s. feedings m b s ps) (feeding m b s p).result.answer (feeding m b s p)

-- "end of input is a call of its own"
unfoldable pub readings : HeaderMap → List ℕ → List ℕ → List (List ℕ) → Given Fed
readings m b s ps = and_then finishing (feedings m b s ps).result.answer (feedings m b s ps)

-- the number of a call behind an end: 7, or that of the first checks again
abbrev pub behind : Result ⊤ Refusal → Refusal
behind (Ok _) = refusal 7
behind (Err x) = x
