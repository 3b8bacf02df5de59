-- What passes the walk is a header by the grammar. Assumes nothing.
use mathlib.Core.Path.{◌≡◌, refl, sym, ◌∙◌, ap}
use mathlib.Core.Bool.{Bool, true, false, ◌||◌, false≢true}
use mathlib.Core.List.{List, [], ◌∷◌, ◌++◌, append_assoc}
use Prim.Native.Nat.{ℕ}
use lib.Dec.{eqb}
use lib.ListN.{take, drop, take-append-drop}
use borrow.Author.Tests.{eqb-true}
use Rattle.leaves.proofs.ChoiceLaws.{by_if, and_left, and_right, and_both, or_second}
use Rattle.leaves.specs.Class.{token, text as isText}
use Rattle.leaves.specs.Octets.{octets, all, same_list}
use Rattle.leaves.proofs.NameLaws.{same_list_eq}
use Rattle.grammar.specs.declared.Stage.{Stage}
use Rattle.grammar.specs.declared.Stage.TheVariants.{First, Line, Key, Text, Return, Closing, Over, Wrong}
use Rattle.writes.specs.Written.{crlf}
use Rattle.grammar.specs.Grammar.{Fold, Entry, Grammatical, is_fold, are_folds, is_token, is_entry, are_entries, is_header, fold_lines, entry_lines, header_lines}
use Rattle.grammar.specs.Walk.{opened, folded, keyed, texted, awaited, next, walk, is_version, grammatical}

-- what is still to come at each stage: fields and the blank line
record Lines (l : List ℕ) : Type 0 where
  entries : List Entry
  right : are_entries entries ≡ true
  is : l ≡ entry_lines entries ++ crlf

-- folded lines before them
record Folds (l : List ℕ) : Type 0 where
  folds : List Fold
  entries : List Entry
  folded : are_folds folds ≡ true
  right : are_entries entries ≡ true
  is : l ≡ fold_lines folds ++ (entry_lines entries ++ crlf)

-- the rest of a text and its CR LF before those
record Texts (l : List ℕ) : Type 0 where
  text : List ℕ
  rest : List ℕ
  right : all isText text ≡ true
  onward : Folds rest
  is : l ≡ text ++ (crlf ++ rest)

-- the rest of a key and a colon before that
record Keys (l : List ℕ) : Type 0 where
  key : List ℕ
  rest : List ℕ
  right : all token key ≡ true
  onward : Texts rest
  is : l ≡ key ++ 58 ∷ rest

-- LF before folded lines
record Returns (l : List ℕ) : Type 0 where
  rest : List ℕ
  onward : Folds rest
  is : l ≡ 10 ∷ rest

abbrev Rest : Stage → List ℕ → Type 0
Rest First l = Lines l
Rest Line l = Folds l
Rest Key l = Keys l
Rest Text l = Texts l
Rest Return l = Returns l
Rest Closing l = l ≡ 10 ∷ []
Rest Over l = l ≡ []
Rest Wrong l = ⊥

starts : (x c : ℕ) (l m : List ℕ) → eqb x c ≡ true → l ≡ m → x ∷ l ≡ c ∷ m
starts x c l m e f = ap (λ (z : ℕ). z ∷ l) (eqb-true x c e) ∙ ap (λ (z : List ℕ). c ∷ z) f

shape : (k t f e c : List ℕ) → k ++ 58 ∷ (t ++ (crlf ++ (f ++ (e ++ c)))) ≡ (k ++ 58 ∷ (t ++ (crlf ++ (f ++ e)))) ++ c
shape k t f e c =
    sym
    (append_assoc k (58 ∷ (t ++ (crlf ++ (f ++ e)))) c ∙
    ap (λ (d : List ℕ). k ++ 58 ∷ d) (append_assoc t (crlf ++ (f ++ e)) c ∙ ap (λ (d : List ℕ). t ++ (crlf ++ d)) (append_assoc f e c)))

module _ (x : ℕ) (xs : List ℕ) where
  lines_none : eqb x 13 ≡ true → xs ≡ 10 ∷ [] → Lines (x ∷ xs)
  unfolding are_entries entry_lines
  lines_none e f = record { entries = []; right = refl; is = starts x 13 xs (10 ∷ []) e f }

  lines_key : token x ≡ true → Keys xs → Lines (x ∷ xs)
  unfolding are_entries entry_lines is_entry is_token all
  lines_key e r =
      let t = r.onward in
      let f = t.onward in
      record {
        entries = record { key = x ∷ r.key; text = t.text; folds = f.folds } ∷ f.entries;
        right =
            and_both _ _
            (and_both _ _ (and_both (token x) (all token r.key) e r.right) (and_both _ _ t.right f.folded))
            f.right;
        is =
            ap (λ (d : List ℕ). x ∷ d)
            (r.is ∙ ap (λ (d : List ℕ). r.key ++ 58 ∷ d) (t.is ∙ ap (λ (d : List ℕ). t.text ++ (crlf ++ d)) f.is)) ∙
            shape (x ∷ r.key) t.text (fold_lines f.folds) (entry_lines f.entries) crlf;
      }

  folds_none : Lines (x ∷ xs) → Folds (x ∷ xs)
  unfolding are_folds fold_lines
  folds_none r = record { folds = []; entries = r.entries; folded = refl; right = r.right; is = r.is }

  folds_more : (eqb x 32 || eqb x 9) ≡ true → Texts xs → Folds (x ∷ xs)
  unfolding are_folds fold_lines is_fold
  folds_more e r =
      let f = r.onward in
      record {
        folds = record { lead = x; text = r.text } ∷ f.folds;
        entries = f.entries;
        folded = and_both _ _ (and_both _ _ e r.right) f.folded;
        right = f.right;
        is =
            ap (λ (d : List ℕ). x ∷ d)
            (r.is ∙ ap (λ (d : List ℕ). r.text ++ (crlf ++ d)) f.is ∙
            sym (append_assoc r.text (crlf ++ fold_lines f.folds) (entry_lines f.entries ++ crlf)));
      }

  keys_more : token x ≡ true → Keys xs → Keys (x ∷ xs)
  unfolding all
  keys_more e r =
      record { key = x ∷ r.key; rest = r.rest; right = and_both _ _ e r.right; onward = r.onward; is = ap (λ (d : List ℕ). x ∷ d) r.is }

  keys_none : eqb x 58 ≡ true → Texts xs → Keys (x ∷ xs)
  unfolding all
  keys_none e r = record { key = []; rest = xs; right = refl; onward = r; is = starts x 58 xs xs e refl }

  texts_more : isText x ≡ true → Texts xs → Texts (x ∷ xs)
  unfolding all
  texts_more e r =
      record { text = x ∷ r.text; rest = r.rest; right = and_both _ _ e r.right; onward = r.onward; is = ap (λ (d : List ℕ). x ∷ d) r.is }

  texts_none : eqb x 13 ≡ true → Returns xs → Texts (x ∷ xs)
  unfolding all
  texts_none e r = record { text = []; rest = r.rest; right = refl; onward = r.onward; is = starts x 13 xs (10 ∷ r.rest) e r.is }

  -- one octet back
  first_back : Rest (opened x) xs → Lines (x ∷ xs)
  unfolding opened
  first_back =
      by_if (λ (s : Stage). Rest s xs → Lines (x ∷ xs)) (token x) _ _ lines_key
      (λ e. by_if (λ (s : Stage). Rest s xs → Lines (x ∷ xs)) (eqb x 13) _ _ lines_none (λ f r. absurd r))

  back : (s : Stage) → Rest (next s x) xs → Rest s (x ∷ xs)
  unfolding folded keyed texted awaited
  back First = first_back
  back Line =
      by_if (λ (s : Stage). Rest s xs → Folds (x ∷ xs)) (eqb x 32) _ _ (λ e. folds_more (ap (λ (b : Bool). b || eqb x 9) e))
      (λ e. by_if (λ (s : Stage). Rest s xs → Folds (x ∷ xs)) (eqb x 9) _ _ (λ f. folds_more (or_second (eqb x 32) (eqb x 9) f)) (λ f r. folds_none (first_back r)))
  back Key =
      by_if (λ (s : Stage). Rest s xs → Keys (x ∷ xs)) (token x) _ _ keys_more
      (λ e. by_if (λ (s : Stage). Rest s xs → Keys (x ∷ xs)) (eqb x 58) _ _ keys_none (λ f r. absurd r))
  back Text =
      by_if (λ (s : Stage). Rest s xs → Texts (x ∷ xs)) (isText x) _ _ texts_more
      (λ e. by_if (λ (s : Stage). Rest s xs → Texts (x ∷ xs)) (eqb x 13) _ _ texts_none (λ f r. absurd r))
  back Return =
      by_if (λ (s : Stage). Rest s xs → Returns (x ∷ xs)) (eqb x 10) _ _ (λ e r. record { rest = xs; onward = r; is = starts x 10 xs xs e refl })
      (λ e r. absurd r)
  back Closing = by_if (λ (s : Stage). Rest s xs → x ∷ xs ≡ 10 ∷ []) (eqb x 10) _ _ (λ e r. starts x 10 xs [] e r) (λ e r. absurd r)
  back Over = λ r. absurd r
  back Wrong = λ r. absurd r

derive : (s : Stage) (l : List ℕ) → walk s l ≡ true → Rest s l
unfolding walk
derive First [] e = absurd (false≢true e)
derive Line [] e = absurd (false≢true e)
derive Key [] e = absurd (false≢true e)
derive Text [] e = absurd (false≢true e)
derive Return [] e = absurd (false≢true e)
derive Closing [] e = absurd (false≢true e)
derive Over [] e = refl
derive Wrong [] e = absurd (false≢true e)
derive s (x ∷ xs) e = back x xs s (derive (next s x) xs e)

-- what passes the test is derived by the grammar
pub derived : (l : List ℕ) → grammatical l ≡ true → Grammatical l
unfolding grammatical is_version is_header header_lines same_list
derived l e = go (same_list (take 10 l) (octets "WARC/1.0\r\n")) refl (and_left (is_version (take 10 l)) (walk First (drop 10 l)) e)
  where
    r : Lines (drop 10 l)
    r = derive First (drop 10 l) (and_right (is_version (take 10 l)) (walk First (drop 10 l)) e)

    go : (b : Bool) → same_list (take 10 l) (octets "WARC/1.0\r\n") ≡ b → (b || same_list (take 10 l) (octets "WARC/1.1\r\n")) ≡ true → Grammatical l
    go true u t =
        record {
          header = record { version = octets "WARC/1.0"; entries = r.entries };
          right = r.right;
          is = sym (take-append-drop 10 l) ∙ ap (λ (d : List ℕ). d ++ drop 10 l) (same_list_eq (take 10 l) (octets "WARC/1.0\r\n") u) ∙ ap (λ (d : List ℕ). octets "WARC/1.0\r\n" ++ d) r.is;
        }
    go false u t =
        record {
          header = record { version = octets "WARC/1.1"; entries = r.entries };
          right = r.right;
          is = sym (take-append-drop 10 l) ∙ ap (λ (d : List ℕ). d ++ drop 10 l) (same_list_eq (take 10 l) (octets "WARC/1.1\r\n") t) ∙ ap (λ (d : List ℕ). octets "WARC/1.1\r\n" ++ d) r.is;
        }
