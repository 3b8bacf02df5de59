-- The lines of a grammatical header are heard as its version and its fields. Assumes nothing.
use Rattle.std.specs.Prelude.{Option, Some}
use mathlib.Core.Path.{◌≡◌, refl, sym, ◌∙◌, ap, subst}
use mathlib.Core.Bool.{Bool, true, false, ◌&&◌, ◌||◌, false≢true}
use mathlib.Core.List.{List, [], ◌∷◌, ◌++◌, map, append_assoc, append-nil}
use Prim.Native.Nat.{ℕ, ◌+◌}
use native.Mathlib.Nat.{add-zero}
use native.Mathlib.Omega.{arith}
use borrow.Author.Tests.{eqb-true}
use lib.Dec.{eqb}
use lib.ListN.{length, length-append}
use lib.Seq.{append_snoc}
use Rattle.leaves.proofs.ChoiceLaws.{and_left, and_right}
use Rattle.leaves.specs.Class.{token, text, blank}
use Rattle.leaves.specs.Octets.{octets, has, all, same_list}
use Rattle.leaves.specs.Trim.{leading, trim_start, trim_end, trimmed}
use Rattle.leaves.proofs.NameLaws.{same_list_eq}
use Rattle.leaves.proofs.SearchLaws.{has_append}
use Rattle.leaves.proofs.TrimTexts.{trim_blank, trim_line}
use Rattle.maps.specs.Said.{Pair}
use Rattle.maps.proofs.SaidLaws.{pair_same}
use Rattle.folds.specs.Rule.{ends_block}
use Rattle.readings.specs.Heard.{Hearing, heard}
use Rattle.readings.specs.Listening.{Listening, silent, listening}
use Rattle.readings.proofs.HeardLaws.{hearing, between, over, heard_status, heard_fold, heard_field, no_fold, no_end, no_cr, line_on, blank_listened}
use Rattle.writes.specs.Written.{crlf}
use Rattle.grammar.specs.Grammar.{Fold, Entry, Header, is_fold, are_folds, is_token, is_entry, are_entries, is_header, fold_lines, entry_lines, header_lines}
use Rattle.grammar.specs.Gives.{folded_on, pair_of}
use Rattle.grammar.proofs.Octets.{text_lf, token_lf, token_colon, token_solid, token_trim}

-- a folded line begins with space or tab
by_lead : (P : ℕ → Type 0) → P 32 → P 9 → (x : ℕ) → (eqb x 32 || eqb x 9) ≡ true → P x
by_lead P s t x e = go (eqb x 32) refl e
  where
    go : (y : Bool) → eqb x 32 ≡ y → (y || eqb x 9) ≡ true → P x
    go true u e = subst P (sym (eqb-true x 32 u)) s
    go false u e = subst P (sym (eqb-true x 9 e)) t

lead_on : (l : List ℕ) (x : ℕ) → (eqb x 32 || eqb x 9) ≡ true → ends_block false (x ∷ l) ≡ false
lead_on l = by_lead (λ (x : ℕ). ends_block false (x ∷ l) ≡ false) (no_cr 32 l refl) (no_cr 9 l refl)

lead_blank : (x : ℕ) → (eqb x 32 || eqb x 9) ≡ true → blank x ≡ true
unfolding blank has
lead_blank = by_lead (λ (x : ℕ). blank x ≡ true) refl refl

lead_lf : (u : List ℕ) → has 10 u ≡ false → (x : ℕ) → (eqb x 32 || eqb x 9) ≡ true → has 10 (x ∷ u) ≡ false
unfolding has
lead_lf u h = by_lead (λ (x : ℕ). has 10 (x ∷ u) ≡ false) h h

colon_lf : (t : List ℕ) → has 10 t ≡ false → has 10 (58 ∷ t) ≡ false
unfolding has
colon_lf t e = e

-- without quirks, behind a first line
module _ (st : Option (List ℕ)) where
  -- a line begins behind n octets whose lines gave those pairs
  abbrev from : ℕ → List Pair → List ℕ → Listening
  from n ps w = listening false (between n (hearing st ps)) w

  line_from : (n : ℕ) (ps qs : List Pair) (l w : List ℕ) → has 10 l ≡ false → ends_block false (l ++ crlf) ≡ false
      → heard (l ++ crlf) (hearing st ps) ≡ hearing st qs → from n ps (l ++ 13 ∷ 10 ∷ w) ≡ from (n + length l + 2) qs w
  line_from n ps qs l w e f h = line_on false l w n (hearing st ps) e f ∙ ap (λ (z : Hearing). listening false (between (n + length l + 2) z) w) h

  -- the folded lines of a field
  folds_heard : (fs : List Fold) (ps : List Pair) (k v w : List ℕ) (n : ℕ) → are_folds fs ≡ true
      → from n (ps ++ record { key = k; value = v } ∷ []) (fold_lines fs ++ w) ≡ from (n + length (fold_lines fs)) (ps ++ record { key = k; value = folded_on v fs } ∷ []) w
  unfolding are_folds is_fold fold_lines folded_on
  folds_heard [] ps k v w n e = rw (add-zero n)
  folds_heard (f ∷ fs) ps k v w n e =
      let a = and_left (is_fold f) (are_folds fs) e in
      let x = f.lead in
      let u = f.text in
      let lead : (eqb x 32 || eqb x 9) ≡ true = and_left (eqb x 32 || eqb x 9) (all text u) a in
      let plain : all text u ≡ true = and_right (eqb x 32 || eqb x 9) (all text u) a in
      let z : n + length (x ∷ u) + 2 + length (fold_lines fs) ≡ n + length (x ∷ (u ++ (crlf ++ fold_lines fs))) = omega (arith, length-append u (crlf ++ fold_lines fs)) in
      let t : trimmed ((x ∷ u) ++ crlf) ≡ trimmed u = trim_blank x (u ++ crlf) (lead_blank x lead) ∙ trim_line u in
      ap (λ (l : List ℕ). from n (ps ++ record { key = k; value = v } ∷ []) (x ∷ l)) (append_assoc u (crlf ++ fold_lines fs) w) ∙
      line_from n (ps ++ record { key = k; value = v } ∷ []) (ps ++ record { key = k; value = v ++ 32 ∷ trimmed u } ∷ []) (x ∷ u) (fold_lines fs ++ w)
      (lead_lf u (text_lf u plain) x lead) (lead_on (u ++ crlf) x lead)
      (heard_fold ((x ∷ u) ++ crlf) st ps k v lead ∙ ap (λ (r : List ℕ). hearing st (ps ++ record { key = k; value = v ++ 32 ∷ r } ∷ [])) t) ∙
      folds_heard fs ps k (v ++ 32 ∷ trimmed u) w (n + length (x ∷ u) + 2) (and_right (is_fold f) (are_folds fs) e) ∙
      ap (λ (j : ℕ). from j (ps ++ record { key = k; value = folded_on (v ++ 32 ∷ trimmed u) fs } ∷ []) w) z

  -- the line of a field
  field_heard : (k t w : List ℕ) (n : ℕ) (ps : List Pair) → is_token k ≡ true → all text t ≡ true
      → from n ps ((k ++ 58 ∷ t) ++ 13 ∷ 10 ∷ w) ≡ from (n + length (k ++ 58 ∷ t) + 2) (ps ++ record { key = k; value = trimmed t } ∷ []) w
  unfolding is_token all
  field_heard [] t w n ps e g = absurd (false≢true e)
  field_heard (k ∷ ks) t w n ps e g =
      let solid : blank k ≡ false = token_solid k (and_left (token k) (all token ks) e) in
      line_from n ps (ps ++ record { key = k ∷ ks; value = trimmed t } ∷ []) (k ∷ ks ++ 58 ∷ t) w
      (has_append 10 (k ∷ ks) (58 ∷ t) (token_lf (k ∷ ks) e) (colon_lf t (text_lf t g))) (no_end false k ((ks ++ 58 ∷ t) ++ crlf) solid)
      (ap (λ (l : List ℕ). heard l (hearing st ps)) (append_assoc (k ∷ ks) (58 ∷ t) crlf) ∙
      heard_field (k ∷ ks) (t ++ crlf) st ps (no_fold k (ks ++ 58 ∷ (t ++ crlf)) solid) (token_colon (k ∷ ks) e) ∙
      ap (λ (p : Pair). hearing st (ps ++ p ∷ [])) (pair_same _ _ _ _ (token_trim (k ∷ ks) e) (trim_line t)))

  lines_shape : (k t f es w : List ℕ) → (k ++ 58 ∷ (t ++ (crlf ++ (f ++ es)))) ++ w ≡ (k ++ 58 ∷ t) ++ 13 ∷ 10 ∷ (f ++ (es ++ w))
  lines_shape k t f es w = simp append_assoc

  entries_heard : (es : List Entry) (ps : List Pair) (w : List ℕ) (n : ℕ) → are_entries es ≡ true
      → from n ps (entry_lines es ++ w) ≡ from (n + length (entry_lines es)) (ps ++ map pair_of es) w
  unfolding are_entries is_entry entry_lines pair_of
  entries_heard [] ps w n e = rw (add-zero n, append-nil ps)
  entries_heard (x ∷ xs) ps w n e =
      let a = and_left (is_entry x) (are_entries xs) e in
      let c = and_right (is_token x.key) (all text x.text && are_folds x.folds) a in
      let k = x.key in
      let t = x.text in
      let F = fold_lines x.folds in
      let E = entry_lines xs in
      let v = folded_on (trimmed t) x.folds in
      let i : ℕ = n + length (k ++ 58 ∷ t) + 2 in
      let z : i + length F + length E ≡ n + length (k ++ 58 ∷ (t ++ (crlf ++ (F ++ E)))) =
      omega (arith, length-append k (58 ∷ t), length-append k (58 ∷ (t ++ (crlf ++ (F ++ E)))), length-append t (crlf ++ (F ++ E)), length-append F E) in
      ap (from n ps) (lines_shape k t F E w) ∙
      field_heard k t (F ++ (E ++ w)) n ps (and_left (is_token k) (all text t && are_folds x.folds) a) (and_left (all text t) (are_folds x.folds) c) ∙
      folds_heard x.folds ps k (trimmed t) (E ++ w) i (and_right (all text t) (are_folds x.folds) c) ∙
      entries_heard xs (ps ++ record { key = k; value = v } ∷ []) w (i + length F) (and_right (is_entry x) (are_entries xs) e) ∙
      rw (z, append_snoc ps (record { key = k; value = v }) (map pair_of xs))

  -- the fields of a header and its blank line
  lines_heard : (es : List Entry) (n : ℕ) → are_entries es ≡ true → from n [] (entry_lines es ++ crlf) ≡ over (n + length (entry_lines es ++ crlf)) (hearing st (map pair_of es))
  lines_heard es n e =
      let z : n + length (entry_lines es) + 2 ≡ n + length (entry_lines es ++ crlf) = omega (arith, length-append (entry_lines es) crlf) in
      entries_heard es [] crlf n e ∙ blank_listened false (n + length (entry_lines es)) (hearing st (map pair_of es)) ∙ ap (λ (j : ℕ). over j (hearing st (map pair_of es))) z

-- a version, as the first line
record Plain (v : List ℕ) : Type 0 where
  lf : has 10 v ≡ false
  on : ends_block false (v ++ crlf) ≡ false
  trim : trimmed v ≡ v

version_plain : (v : List ℕ) → (same_list v (octets "WARC/1.0") || same_list v (octets "WARC/1.1")) ≡ true → Plain v
unfolding blank has trim_end trim_start leading
version_plain v t = go (same_list v (octets "WARC/1.0")) refl t
  where
    go : (b : Bool) → same_list v (octets "WARC/1.0") ≡ b → (b || same_list v (octets "WARC/1.1")) ≡ true → Plain v
    go true u t = subst Plain (sym (same_list_eq v (octets "WARC/1.0") u)) (record { lf = refl; on = no_end false 87 _ refl; trim = refl })
    go false u t = subst Plain (sym (same_list_eq v (octets "WARC/1.1") t)) (record { lf = refl; on = no_end false 87 _ refl; trim = refl })

-- a header says its version and its fields, and its last line ends the block
pub header_heard : (h : Header) → is_header h ≡ true
    → listening false (silent true) (header_lines h) ≡ over (length (header_lines h)) (hearing (Some h.version) (map pair_of h.entries))
unfolding is_header header_lines
header_heard h e =
    let v = h.version in
    let es = h.entries in
    let right : Bool = same_list v (octets "WARC/1.0") || same_list v (octets "WARC/1.1") in
    let p = version_plain v (and_left right (are_entries es) e) in
    let w : List ℕ = entry_lines es ++ crlf in
    let z : 0 + length v + 2 + length w ≡ length (v ++ (crlf ++ w)) = omega (arith, length-append v (crlf ++ w)) in
    line_on false v w 0 _ p.lf p.on ∙
    ap (λ (g : Hearing). listening false (between (0 + length v + 2) g) w) (heard_status (v ++ crlf) _ ∙ ap (λ (t : List ℕ). hearing (Some t) []) (trim_line v ∙ p.trim)) ∙
    lines_heard (Some v) es (0 + length v + 2) (and_right right (are_entries es) e) ∙ ap (λ (j : ℕ). over j (hearing (Some v) (map pair_of es))) z
