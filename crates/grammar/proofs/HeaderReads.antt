-- The reading of a grammatical header gives its version and its fields. Assumes nothing.
use Rattle.std.specs.Prelude.{Some}
use mathlib.Core.Path.{◌≡◌, sym, subst}
use mathlib.Core.Bool.{Bool, true, false}
use mathlib.Core.List.{List, map}
use Prim.Native.Nat.{ℕ, ◌≤◌}
use native.Mathlib.Omega.{arith}
use lib.ListN.{length, length-map}
use Rattle.line_reader.specs.Reading.{Rules, fed, begun}
use Rattle.readings.specs.Listening.{silent, listening}
use Rattle.readings.proofs.HeardLaws.{hearing, over}
use Rattle.rebuilds.specs.Clean.{Gives}
use Rattle.rebuilds.proofs.ReadsBack.{heard_gives}
use Rattle.grammar.specs.Grammar.{Header, Grammatical, is_header, header_lines}
use Rattle.grammar.specs.Gives.{pair_of, told}
use Rattle.grammar.proofs.HeaderHeard.{header_heard}

-- "Read with status expected and no quirks", within the limit and 256 fields, a header gives exactly its fields, in order, with rule 4's
-- values; its status is the version; the reading ends at the blank line with every octet taken
module _ (R : Rules) (calm : R.quirks ≡ false) (roomy : R.limit ≤ R.room) where
  pub header_reads : (h : Header) → is_header h ≡ true → length h.entries ≤ 256 → length (header_lines h) ≤ R.limit
      → Gives (header_lines h) (told h) (fed R (begun true) (header_lines h))
  unfolding told
  header_reads h e n z =
      heard_gives R roomy true (header_lines h) (told h)
      (subst (λ (q : Bool). listening q (silent true) (header_lines h) ≡ over (length (header_lines h)) (hearing (Some h.version) (map pair_of h.entries))) (sym calm) (header_heard h e)) z
      (omega (arith, n, length-map h.entries pair_of))

  pub grammatical_reads : (l : List ℕ) (g : Grammatical l) → length g.header.entries ≤ 256 → length l ≤ R.limit
      → Gives l (told g.header) (fed R (begun true) l)
  grammatical_reads l g n z =
      subst (λ (m : List ℕ). Gives m (told g.header) (fed R (begun true) m)) (sym g.is)
      (header_reads g.header g.right n (subst (λ (m : List ℕ). length m ≤ R.limit) g.is z))
