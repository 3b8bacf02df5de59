-- The octets of a header by the grammar pass the walk. Assumes nothing.
use mathlib.Core.Path.{◌≡◌, refl, ◌∙◌, ap}
use mathlib.Core.Bool.{Bool, true, false, ◌&&◌, ◌||◌, false≢true}
use mathlib.Core.List.{List, [], ◌∷◌, ◌++◌, append_assoc}
use Prim.Native.Nat.{ℕ}
use lib.Dec.{eqb}
use Rattle.leaves.specs.Choice.{when◌then◌else◌}
use Rattle.leaves.proofs.ChoiceLaws.{if_true, if_false, and_left, and_right}
use Rattle.leaves.specs.Class.{token, text, separator}
use Rattle.leaves.specs.Octets.{octets, has, all, same_list}
use Rattle.leaves.proofs.NameLaws.{same_list_eq}
use Rattle.grammar.specs.declared.Stage.{Stage}
use Rattle.grammar.specs.declared.Stage.TheVariants.{First, Line, Key, Text, Closing}
use Rattle.grammar.proofs.Octets.{other}
use Rattle.writes.specs.Written.{crlf}
use Rattle.grammar.specs.Grammar.{Fold, Entry, Grammatical, is_fold, are_folds, is_token, is_entry, are_entries, is_header, fold_lines, entry_lines, header_lines}
use Rattle.grammar.specs.Walk.{opened, folded, keyed, texted, awaited, next, walk, is_version, grammatical}

-- a text and CR LF lead to the next line
walk_text : (l w : List ℕ) → all text l ≡ true → walk Text (l ++ (crlf ++ w)) ≡ walk Line w
unfolding walk all texted awaited text when◌then◌else◌
walk_text [] w e = refl
walk_text (x ∷ xs) w e =
    ap (λ (s : Stage). walk s (xs ++ (crlf ++ w))) (if_true _ _ (and_left (text x) (all text xs) e)) ∙
    walk_text xs w (and_right (text x) (all text xs) e)

-- the rest of a token and a colon lead to the text
walk_key : (l w : List ℕ) → all token l ≡ true → walk Key (l ++ 58 ∷ w) ≡ walk Text w
unfolding walk all keyed token separator has when◌then◌else◌
walk_key [] w e = refl
walk_key (x ∷ xs) w e =
    ap (λ (s : Stage). walk s (xs ++ 58 ∷ w)) (if_true _ _ (and_left (token x) (all token xs) e)) ∙
    walk_key xs w (and_right (token x) (all token xs) e)

lead : (x : ℕ) → (eqb x 32 || eqb x 9) ≡ true → folded x ≡ Text
unfolding folded
lead x e = go (eqb x 32) refl e
  where
    go : (t : Bool) → eqb x 32 ≡ t → (t || eqb x 9) ≡ true → folded x ≡ Text
    go true u e = if_true _ _ u
    go false u e = if_false _ _ u ∙ if_true _ _ e

walk_folds : (fs : List Fold) (w : List ℕ) → are_folds fs ≡ true → walk Line (fold_lines fs ++ w) ≡ walk Line w
unfolding are_folds fold_lines is_fold walk
walk_folds [] w e = refl
walk_folds (f ∷ fs) w e =
    let g = and_left (is_fold f) (are_folds fs) e in
    let t = and_right (eqb f.lead 32 || eqb f.lead 9) (all text f.text) g in
    ap (λ (s : Stage). walk s ((f.text ++ (crlf ++ fold_lines fs)) ++ w)) (lead f.lead (and_left (eqb f.lead 32 || eqb f.lead 9) (all text f.text) g)) ∙
    ap (walk Text) (append_assoc f.text (crlf ++ fold_lines fs) w) ∙
    walk_text f.text (fold_lines fs ++ w) t ∙
    walk_folds fs w (and_right (is_fold f) (are_folds fs) e)

-- a stage at which a line begins
record Opens (s : Stage) : Type 0 where
  key : (x : ℕ) → token x ≡ true → next s x ≡ Key
  close : next s 13 ≡ Closing

open_first : Opens First
unfolding opened token separator has when◌then◌else◌
open_first = record { key = λ x e. if_true _ _ e; close = refl }

-- a token begins with neither space nor tab
open_line : Opens Line
unfolding folded opened token separator has when◌then◌else◌
open_line = record { key = λ x e. if_false _ _ (other token 32 x refl e) ∙ if_false _ _ (other token 9 x refl e) ∙ if_true _ _ e; close = refl }

walk_token : (s : Stage) → Opens s → (k w : List ℕ) → is_token k ≡ true → walk s (k ++ 58 ∷ w) ≡ walk Text w
unfolding is_token walk all
walk_token s o [] w e = absurd (false≢true e)
walk_token s o (x ∷ xs) w e =
    ap (λ (z : Stage). walk z (xs ++ 58 ∷ w)) (o.key x (and_left (token x) (all token xs) e)) ∙
    walk_key xs w (and_right (token x) (all token xs) e)

walk_entries : (s : Stage) → Opens s → (es : List Entry) → are_entries es ≡ true → walk s (entry_lines es ++ crlf) ≡ true
unfolding are_entries entry_lines is_entry walk awaited when◌then◌else◌
walk_entries s o [] e = ap (λ (z : Stage). walk z (10 ∷ [])) o.close
walk_entries s o (x ∷ xs) e =
    let g = and_left (is_entry x) (are_entries xs) e in
    let h = and_right (is_token x.key) (all text x.text && are_folds x.folds) g in
    let lines : List ℕ = fold_lines x.folds ++ entry_lines xs in
    ap (walk s) (append_assoc x.key (58 ∷ (x.text ++ (crlf ++ lines))) crlf) ∙
    walk_token s o x.key _ (and_left (is_token x.key) (all text x.text && are_folds x.folds) g) ∙
    ap (walk Text) (append_assoc x.text (crlf ++ lines) crlf) ∙
    walk_text x.text (lines ++ crlf) (and_left (all text x.text) (are_folds x.folds) h) ∙
    ap (walk Line) (append_assoc (fold_lines x.folds) (entry_lines xs) crlf) ∙
    walk_folds x.folds (entry_lines xs ++ crlf) (and_right (all text x.text) (are_folds x.folds) h) ∙
    walk_entries Line open_line xs (and_right (is_entry x) (are_entries xs) e)

header_walks : (v w : List ℕ) → (same_list v (octets "WARC/1.0") || same_list v (octets "WARC/1.1")) ≡ true → walk First w ≡ true → grammatical (v ++ (crlf ++ w)) ≡ true
unfolding grammatical is_version same_list
header_walks v w e t = go (same_list v (octets "WARC/1.0")) refl e
  where
    go : (b : Bool) → same_list v (octets "WARC/1.0") ≡ b → (b || same_list v (octets "WARC/1.1")) ≡ true → grammatical (v ++ (crlf ++ w)) ≡ true
    go true u e = ap (λ (z : List ℕ). grammatical (z ++ (crlf ++ w))) (same_list_eq v (octets "WARC/1.0") u) ∙ t
    go false u e = ap (λ (z : List ℕ). grammatical (z ++ (crlf ++ w))) (same_list_eq v (octets "WARC/1.1") e) ∙ t

-- what the grammar derives passes the test
pub passes : (l : List ℕ) → Grammatical l → grammatical l ≡ true
unfolding is_header header_lines
passes l g =
    let h = g.header in
    ap grammatical g.is ∙
    header_walks h.version (entry_lines h.entries ++ crlf)
    (and_left (same_list h.version (octets "WARC/1.0") || same_list h.version (octets "WARC/1.1")) (are_entries h.entries) g.right)
    (walk_entries First open_first h.entries
    (and_right (same_list h.version (octets "WARC/1.0") || same_list h.version (octets "WARC/1.1")) (are_entries h.entries) g.right))
