-- The page to believe, of readings: what begin, feed and finish say, in octets alone, and what they leave. `proofs/HearsHold` inhabits `Hears`. Assumes nothing.
use Rattle.std.specs.Prelude.{◌≡◌, Bool, false, List, [], ℕ, ◌+◌, ◌≤◌, length, take, drop, Err, Ok}
use Rattle.leaves.specs.Paste.{pasted}
use Rattle.leaves.specs.declared.refusals.Refusal.{Refusal}
use Rattle.maps.specs.Good.{checked_reading}
use Rattle.maps.specs.Maps.{empty, Given}
use Rattle.maps.specs.Said.{Said, saying}
use Rattle.maps.specs.declared.HeaderMap.{HeaderMap}
use Rattle.maps.specs.declared.Phase.TheVariants.{Done}
use Rattle.line_reader.specs.Reading.{Reading, fed, finished}
use Rattle.reader.specs.Calls.{beginning, feeding, finishing, checked_rooms}
use Rattle.line_reader.specs.Standing.{rules_of, reading_of}
use Rattle.line_reader.specs.declared.Answer.TheVariants.{Input}
use Rattle.reader.specs.declared.Fed.{Fed}
use Rattle.readings.specs.Listening.{Listening, silent, listening, last_heard, refused, answered}

-- what the map and the loans say that a call leaves
abbrev pub says_then : Given Fed → Said
says_then g = saying g.result.map g.block g.store

-- a map that is being read, in octets
abbrev pub so_far : HeaderMap → List ℕ → List ℕ → Listening
so_far m b s = record { count = m.count; line = drop m.line (take m.count b); hearing = record { awaits = m.awaits; said = saying m b s }; ended = false }

-- a feed behind n octets gives what was listened to: "Feeding answers more, ended, or a number, with octets taken by that call"
pub record Told (n : ℕ) (l : Listening) (g : Given Fed) : Type 0 where
  pub answer : g.result.answer ≡ answered l.ended
  pub taken : n + g.result.taken ≡ l.count
  pub says : says_then g ≡ l.hearing.said
  -- while it wants more, its map stands for all of it
  pub onward : l.ended ≡ false → so_far g.result.map g.block g.store ≡ l

-- what a call leaves that read on from a map to r: "the block holds the octets taken, the store what their folds wrote, the rest is untouched"; "After 4, 5 or
-- 6 in a reading the map is empty and Done"
pub record Leaves (m : HeaderMap) (b s p : List ℕ) (r : Reading) (g : Given Fed) : Type 0 where
  pub block : g.block ≡ pasted b m.count (take g.result.taken p)
  pub store : g.store ≡ pasted s m.mark (drop m.mark r.found.store)
  pub stopped : (e : Refusal) → g.result.answer ≡ Err e → g.result.map ≡ empty g.result.map.table m.limit m.room false false Done

pub record Hears : Type 0 where
  -- rules 2 to 4: a feed that is not refused gives what the octets of the piece say behind those before
  pub heard : (m : HeaderMap) (b s p : List ℕ) → Ok tt ≡ checked_reading m b s → refused (feeding m b s p).result.answer ≡ false
      → Told m.count (listening m.quirks (so_far m b s) p) (feeding m b s p)
  -- "Finish handles a leftover line by rule 4, even one of blanks."
  pub heard_at_end : (m : HeaderMap) (b s : List ℕ) → Ok tt ≡ checked_reading m b s → (finishing m b s).result.answer ≡ Ok Input
      → says_then (finishing m b s) ≡ (last_heard (so_far m b s).line (so_far m b s).hearing).said
  -- "4 the block goes on and its count equals the limit", "5 a 257th field is needed", "A reading from its beginning never meets 6": octets
  -- that say no more than 256 fields in no more than the limit are not refused, so they alone tell what a map says that begin made
  pub begun : (m : HeaderMap) (limit room : ℕ) (status quirks : Bool) (b s p : List ℕ) → Ok tt ≡ checked_rooms limit room (length b) (length s)
      → let l = listening quirks (silent status) p in
      l.count ≤ limit → length l.hearing.said.pairs ≤ 256 → Told 0 l (feeding (beginning m limit room status quirks b s).result.map b s p)
  -- nor is the end of input behind them, if the leftover line says no 257th
  pub begun_at_end : (m : HeaderMap) (limit room : ℕ) (status quirks : Bool) (b s p : List ℕ) → Ok tt ≡ checked_rooms limit room (length b) (length s)
      → let l = listening quirks (silent status) p in
      l.ended ≡ false → l.count ≤ limit → length l.hearing.said.pairs ≤ 256 → length (last_heard l.line l.hearing).said.pairs ≤ 256
      → let g = feeding (beginning m limit room status quirks b s).result.map b s p in
      (finishing g.result.map g.block g.store).result.answer ≡ Ok Input
  -- a feed and a finish, whatever their answer, leave what `Leaves` says
  pub left : (m : HeaderMap) (b s p : List ℕ) → Ok tt ≡ checked_reading m b s → Leaves m b s p (fed (rules_of m) (reading_of m b s) p) (feeding m b s p)
  pub left_at_end : (m : HeaderMap) (b s : List ℕ) → Ok tt ≡ checked_reading m b s → Leaves m b s [] (finished (rules_of m) (reading_of m b s)) (finishing m b s)
