-- The lines of clean pairs are heard as the pairs. Assumes nothing.
use Rattle.std.specs.Prelude.{Option}
use mathlib.Core.Path.{◌≡◌, ◌∙◌, ap}
use mathlib.Core.Bool.{Bool, true, false, false≢true}
use mathlib.Core.List.{List, [], ◌∷◌, ◌++◌, append_assoc, append-nil}
use Prim.Native.Nat.{ℕ, ◌+◌}
use native.Mathlib.Nat.{add-zero}
use native.Mathlib.Omega.{arith}
use lib.ListN.{length, length-append}
use lib.Seq.{append_snoc}
use Rattle.leaves.proofs.ChoiceLaws.{and_left, and_right}
use Rattle.leaves.specs.Octets.{has}
use Rattle.leaves.proofs.SearchLaws.{has_append}
use Rattle.leaves.proofs.TrimTexts.{trim_space, trim_line}
use Rattle.maps.specs.Said.{Pair}
use Rattle.maps.proofs.SaidLaws.{pair_same}
use Rattle.readings.specs.Heard.{Hearing, heard}
use Rattle.readings.specs.Listening.{listening}
use Rattle.readings.proofs.HeardLaws.{hearing, between, heard_field, no_fold, no_end, line_on}
use Rattle.writes.specs.Written.{crlf, pair_line, pair_lines}
use Rattle.rebuilds.specs.Clean.{clean_pair, clean_pairs}
use Rattle.rebuilds.proofs.CleanTexts.{CleanPair, clean_pair_lem}

lf_rest : (v : List ℕ) → has 10 v ≡ false → has 10 (58 ∷ 32 ∷ v) ≡ false
unfolding has
lf_rest v e = e

module _ (k : ℕ) (ks v : List ℕ) (c : CleanPair k ks v) (st : Option (List ℕ)) (qs : List Pair) where
  -- what the line of a pair says
  pair_says : heard ((k ∷ ks ++ 58 ∷ 32 ∷ v) ++ crlf) (hearing st qs) ≡ hearing st (qs ++ record { key = k ∷ ks; value = v } ∷ [])
  pair_says =
      ap (λ (l : List ℕ). heard l (hearing st qs)) (append_assoc (k ∷ ks) (58 ∷ 32 ∷ v) crlf) ∙
      heard_field (k ∷ ks) (32 ∷ v ++ crlf) st qs (no_fold k (ks ++ 58 ∷ 32 ∷ v ++ crlf) c.solid) c.colon ∙
      ap (λ (p : Pair). hearing st (qs ++ p ∷ [])) (pair_same _ _ _ _ c.trim_key (trim_space (v ++ crlf) ∙ trim_line v ∙ c.trim_value))

  pair_heard : (quirks : Bool) (w : List ℕ) (n : ℕ)
      → listening quirks (between n (hearing st qs)) (pair_line (k ∷ ks) v ++ w)
      ≡ listening quirks (between (n + length (pair_line (k ∷ ks) v)) (hearing st (qs ++ record { key = k ∷ ks; value = v } ∷ []))) w
  unfolding pair_line
  pair_heard quirks w n =
      let l : List ℕ = k ∷ ks ++ 58 ∷ 32 ∷ v in
      let z : n + length l + 2 ≡ n + length (l ++ crlf) = omega (arith, length-append l crlf) in
      ap (listening quirks (between n (hearing st qs))) (append_assoc l crlf w) ∙
      line_on quirks l w n (hearing st qs) (has_append 10 (k ∷ ks) (58 ∷ 32 ∷ v) c.lf_key (lf_rest v c.lf_value)) (no_end quirks k ((ks ++ 58 ∷ 32 ∷ v) ++ crlf) c.solid) ∙
      ap (λ (h : Hearing). listening quirks (between (n + length l + 2) h) w) pair_says ∙
      ap (λ (j : ℕ). listening quirks (between j (hearing st (qs ++ record { key = k ∷ ks; value = v } ∷ []))) w) z

module _ (quirks : Bool) (st : Option (List ℕ)) (w : List ℕ) where
  abbrev Heard : List Pair → Type 0
  Heard ps =
      (n : ℕ) (qs : List Pair) → clean_pairs ps ≡ true
      → listening quirks (between n (hearing st qs)) (pair_lines ps ++ w) ≡ listening quirks (between (n + length (pair_lines ps)) (hearing st (qs ++ ps))) w

  heard_more : (k v : List ℕ) (ps : List Pair) → Heard ps → Heard (record { key = k; value = v } ∷ ps)
  unfolding clean_pairs clean_pair pair_lines
  heard_more [] v ps ih n qs c = absurd (false≢true c)
  heard_more (k ∷ ks) v ps ih n qs c =
      let p : Pair = record { key = k ∷ ks; value = v } in
      let L = pair_line (k ∷ ks) v in
      let z : n + length L + length (pair_lines ps) ≡ n + length (L ++ pair_lines ps) = omega (arith, length-append L (pair_lines ps)) in
      ap (listening quirks (between n (hearing st qs))) (append_assoc L (pair_lines ps) w) ∙
      pair_heard k ks v (clean_pair_lem k ks v (and_left (clean_pair p) (clean_pairs ps) c)) st qs quirks (pair_lines ps ++ w) n ∙
      ih (n + length L) (qs ++ p ∷ []) (and_right (clean_pair p) (clean_pairs ps) c) ∙
      rw (z, append_snoc qs p ps)

  -- the pairs stand behind what was said before
  pub pairs_heard : (ps : List Pair) → Heard ps
  unfolding pair_lines
  pairs_heard [] n qs c = rw (add-zero n, append-nil qs)
  pairs_heard (p ∷ ps) n qs c = heard_more p.key p.value ps (pairs_heard ps) n qs c
