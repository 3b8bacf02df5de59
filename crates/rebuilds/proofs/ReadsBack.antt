-- Reading the rebuilt block of a clean map gives the map back, so the rebuild is one to one. Assumes nothing.
use Rattle.std.specs.Prelude.{None, Option, Some}
use mathlib.Core.Path.{◌≡◌, sym, ◌∙◌, ap, subst}
use mathlib.Core.Bool.{Bool, true, false, false≢true}
use mathlib.Core.List.{List, [], ◌∷◌, ◌++◌, append_assoc}
use Prim.Native.Nat.{ℕ, ◌+◌, ◌≤◌}
use native.Mathlib.Nat.{zero-add}
use native.Mathlib.Omega.{arith}
use lib.ListN.{length, length-append}
use Rattle.leaves.proofs.ChoiceLaws.{and_left, and_right}
use Rattle.leaves.proofs.TrimTexts.{trim_line, first_solid}
use Rattle.line_reader.specs.Reading.{Rules, fed, begun}
use Rattle.maps.specs.Said.{Pair, Said}
use Rattle.readings.specs.Heard.{Hearing}
use Rattle.readings.specs.Listening.{Listening, silent, listening}
use Rattle.readings.proofs.HeardLaws.{hearing, between, over, heard_status, no_end, line_on, blank_listened}
use Rattle.readings.proofs.ListeningLaws.{Listens, begun_listens, fed_whole}
use Rattle.writes.specs.Written.{crlf, status_line, pair_lines, rebuilt}
use Rattle.rebuilds.specs.Clean.{clean_pairs, clean_status, clean, expects, Gives}
use Rattle.rebuilds.proofs.CleanTexts.{neat_lf, neat_trim}
use Rattle.rebuilds.proofs.PairsHeard.{pairs_heard}

module _ (quirks : Bool) where
  lines_heard : (n : ℕ) (st : Option (List ℕ)) (ps : List Pair) → clean_pairs ps ≡ true
      → listening quirks (between n (hearing st [])) (pair_lines ps ++ crlf) ≡ over (n + length (pair_lines ps ++ crlf)) (hearing st ps)
  lines_heard n st ps k =
      let z : n + length (pair_lines ps) + 2 ≡ n + length (pair_lines ps ++ crlf) = omega (arith, length-append (pair_lines ps) crlf) in
      pairs_heard quirks st crlf ps n [] k ∙ blank_listened quirks (n + length (pair_lines ps)) (hearing st ps) ∙ ap (λ (j : ℕ). over j (hearing st ps)) z

  status_heard : (st : Option (List ℕ)) (ps : List Pair) → clean_status st ≡ true → clean_pairs ps ≡ true
      → let b = rebuilt (record { status = st; pairs = ps }) in
      listening quirks (silent (expects st)) b ≡ over (length b) (hearing st ps)
  unfolding rebuilt status_line clean_status
  status_heard None ps n k = lines_heard 0 None ps k ∙ ap (λ (j : ℕ). over j (hearing None ps)) (zero-add (length (pair_lines ps ++ crlf)))
  status_heard (Some []) ps n k = absurd (false≢true n)
  status_heard (Some (x ∷ xs)) ps n k =
      let rest : List ℕ = pair_lines ps ++ crlf in
      let z : 0 + length (x ∷ xs) + 2 + length rest ≡ length (x ∷ xs ++ crlf ++ rest) = omega (arith, length-append (x ∷ xs ++ crlf) rest, length-append (x ∷ xs) crlf) in
      ap (listening quirks (silent true)) (append_assoc (x ∷ xs) crlf rest) ∙
      line_on quirks (x ∷ xs) rest 0 _ (neat_lf (x ∷ xs) n) (no_end quirks x (xs ++ crlf) (first_solid x xs (neat_trim (x ∷ xs) n))) ∙
      ap (λ (h : Hearing). listening quirks (between (0 + length (x ∷ xs) + 2) h) rest)
      (heard_status (x ∷ xs ++ crlf) _ ∙ ap (λ (t : List ℕ). hearing (Some t) []) (trim_line (x ∷ xs) ∙ neat_trim (x ∷ xs) n)) ∙
      lines_heard (0 + length (x ∷ xs) + 2) (Some (x ∷ xs)) ps k ∙ ap (λ (j : ℕ). over j (hearing (Some (x ∷ xs)) ps)) z

  -- the octets of the rebuilt block of a clean map say the map
  pub rebuilt_heard : (m : Said) → clean m ≡ true → listening quirks (silent (expects m.status)) (rebuilt m) ≡ over (length (rebuilt m)) (hearing m.status m.pairs)
  unfolding clean
  rebuilt_heard m c =
      status_heard m.status m.pairs (and_left (clean_status m.status) (clean_pairs m.pairs) c) (and_right (clean_status m.status) (clean_pairs m.pairs) c)

-- a block whose octets say m and end with its blank line
pub heard_gives : (R : Rules) → R.limit ≤ R.room → (status : Bool) (b : List ℕ) (m : Said)
    → listening R.quirks (silent status) b ≡ over (length b) (hearing m.status m.pairs) → length b ≤ R.limit → length m.pairs ≤ 256
    → Gives b m (fed R (begun status) b)
heard_gives R rooms status b m e z few =
    let t : Listens (over (length b) (hearing m.status m.pairs)) (fed R (begun status) b) =
    subst (λ (l : Listening). Listens l (fed R (begun status) b)) e (begun_listens R rooms status b (rw e z) (rw e few)) in
    record {
      answer = t.answer;
      block = fed_whole R status b (ap (λ (l : Listening). l.count) t.told);
      says = ap (λ (l : Listening). l.hearing.said) t.told;
    }

-- "the rebuilt block, if it fits, reads back to the same, quirks on or off"
pub back : (R : Rules) → R.limit ≤ R.room → (m : Said) → clean m ≡ true → length m.pairs ≤ 256 → length (rebuilt m) ≤ R.limit
    → Gives (rebuilt m) m (fed R (begun (expects m.status)) (rebuilt m))
back R rooms m c h z = heard_gives R rooms (expects m.status) (rebuilt m) m (rebuilt_heard R.quirks m c) z h

pub rebuilt_back : (m m' : Said) → clean m ≡ true → clean m' ≡ true → expects m.status ≡ expects m'.status → rebuilt m ≡ rebuilt m' → m ≡ m'
rebuilt_back m m' c c' s e =
    let saying : Listening → Said = λ (l : Listening). l.hearing.said in
    ap saying (sym (rebuilt_heard false m c)) ∙
    ap (λ (b : Bool). (listening false (silent b) (rebuilt m)).hearing.said) s ∙
    ap (λ (b : List ℕ). (listening false (silent (expects m'.status)) b).hearing.said) e ∙
    ap saying (rebuilt_heard false m' c')

-- "Clean maps that agree on having a status rebuild to equal octets exactly when status and ordered fields are equal"
pub rebuilt_one : (m m' : Said) → clean m ≡ true → clean m' ≡ true → expects m.status ≡ expects m'.status
    → (rebuilt m ≡ rebuilt m' → m ≡ m') × (m ≡ m' → rebuilt m ≡ rebuilt m')
rebuilt_one m m' c c' s = (rebuilt_back m m' c c' s, λ e. ap rebuilt e)
