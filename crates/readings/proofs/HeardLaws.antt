-- Laws of rule 4 in octets: what each kind of line says, and how a line of a text is listened to. Assumes nothing.
use Rattle.std.specs.Prelude.{Option, Some}
use mathlib.Core.Path.{◌≡◌, refl, sym, ◌∙◌, ap}
use mathlib.Core.Bool.{Bool, true, false, ◌&&◌, false≢true}
use mathlib.Core.List.{List, [], ◌∷◌, ◌++◌}
use Prim.Native.Nat.{ℕ, suc, ◌+◌, ◌-◌, ◌≤◌, ◌<◌}
use native.Mathlib.Omega.{arith}
use borrow.Author.Tests.{lt-ltb, le-ltb, ltb-true, ltb-false, ne_eqb}
use lib.Dec.{eqb, ltb}
use lib.ListN.{length, drop, get_or, length-append, length-drop}
use lib.Seq.{take_at, drop-append-add, get_or_at, get_or-drop, append_snoc}
use Rattle.leaves.specs.Choice.{when◌then◌else◌}
use Rattle.leaves.proofs.ChoiceLaws.{by_if, if_true, if_false, or_left, or_right, or_second}
use Rattle.leaves.specs.Class.{blank}
use Rattle.leaves.specs.Octets.{has, all, same_list}
use Rattle.leaves.specs.Trim.{trimmed}
use Rattle.leaves.proofs.SearchLaws.{before_append}
use Rattle.lines.specs.Line.{ends_line, cr_before}
use Rattle.maps.specs.Said.{Pair, Said}
use Rattle.folds.specs.Rule.{continues, ends_block}
use Rattle.readings.specs.Heard.{Hearing, continued, fields_in, heard}
use Rattle.readings.specs.Listening.{Listening, line_heard, listened, listening, last_heard}

-- lines that were heard, when no status line is expected (any more)
abbrev pub hearing : Option (List ℕ) → List Pair → Hearing
hearing st ps = record { awaits = false; said = record { status = st; pairs = ps } }

-- a line begins
abbrev pub between : ℕ → Hearing → Listening
between n h = record { count = n; line = []; hearing = h; ended = false }

-- the block has ended
abbrev pub over : ℕ → Hearing → Listening
over n h = record { count = n; line = []; hearing = h; ended = true }

-- the last of some values grows
pub continued_last : (t : List ℕ) (ps : List Pair) (p : Pair)
    → continued t (ps ++ p ∷ []) ≡ ps ++ record { key = p.key; value = p.value ++ 32 ∷ t } ∷ []
unfolding continued
continued_last t [] p = refl
continued_last t (q ∷ []) p = refl
continued_last t (q ∷ r ∷ ps) p = ap (λ (l : List Pair). q ∷ l) (continued_last t (r ∷ ps) p)

continued_length : (t : List ℕ) (ps : List Pair) → length ps ≤ length (continued t ps)
unfolding continued
continued_length t [] = omega arith
continued_length t (p ∷ []) = omega arith
continued_length t (p ∷ q ∷ ps) = omega (arith, continued_length t (q ∷ ps))

-- a line with a colon behind a text without one
pub fields_colon : (k w : List ℕ) → has 58 k ≡ false → fields_in (k ++ 58 ∷ w) ≡ record { key = trimmed k; value = trimmed w } ∷ []
unfolding fields_in when◌then◌else◌
fields_colon k w e =
    rw (before_append 58 k w e, lt-ltb (length k) (length (k ++ 58 ∷ w)) (omega (arith, length-append k (58 ∷ w))), take_at k (58 ∷ w) (length k) refl, drop-append-add k (58 ∷ w) 1)

-- the four kinds of line: the status, a leading continuation, a fold, a field
pub heard_status : (l : List ℕ) (s : Said) → heard l (record { awaits = true; said = s }) ≡ hearing (Some (trimmed l)) s.pairs
unfolding heard when◌then◌else◌
heard_status l s = refl

module _ (l : List ℕ) (st : Option (List ℕ)) (ps : List Pair) where
  pub heard_more : continues l ≡ true → heard l (hearing st ps) ≡ hearing st (continued (trimmed l) ps)
  unfolding heard when◌then◌else◌
  heard_more c = rw c

  pub heard_split : continues l ≡ false → heard l (hearing st ps) ≡ hearing st (ps ++ fields_in l)
  unfolding heard when◌then◌else◌
  heard_split c = rw c

pub heard_fold : (l : List ℕ) (st : Option (List ℕ)) (ps : List Pair) (k v : List ℕ) → continues l ≡ true
    → heard l (hearing st (ps ++ record { key = k; value = v } ∷ [])) ≡ hearing st (ps ++ record { key = k; value = v ++ 32 ∷ trimmed l } ∷ [])
heard_fold l st ps k v c = heard_more l st (ps ++ record { key = k; value = v } ∷ []) c ∙ ap (hearing st) (continued_last (trimmed l) ps (record { key = k; value = v }))

pub heard_field : (k w : List ℕ) (st : Option (List ℕ)) (ps : List Pair) → continues (k ++ 58 ∷ w) ≡ false → has 58 k ≡ false
    → heard (k ++ 58 ∷ w) (hearing st ps) ≡ hearing st (ps ++ record { key = trimmed k; value = trimmed w } ∷ [])
heard_field k w st ps c e = heard_split (k ++ 58 ∷ w) st ps c ∙ ap (λ (l : List Pair). hearing st (ps ++ l)) (fields_colon k w e)

-- no line takes a field away
pub heard_keeps : (l : List ℕ) (h : Hearing) → length h.said.pairs ≤ length (heard l h).said.pairs
unfolding heard
heard_keeps l h =
    let P : Hearing → Type 0 = λ (z : Hearing). length h.said.pairs ≤ length z.said.pairs in
    by_if P h.awaits _ _ (λ e. omega arith)
    (λ e. by_if P (continues l) _ _ (λ e. continued_length (trimmed l) h.said.pairs) (λ e. omega (arith, length-append h.said.pairs (fields_in l))))

-- a line that begins with no blank is no fold, nor does it end the block
unblank : (c x : ℕ) → blank c ≡ true → blank x ≡ false → eqb x c ≡ false
unblank c x t f = ne_eqb x c (λ e. false≢true (sym f ∙ ap blank e ∙ t))

pub no_fold : (x : ℕ) (l : List ℕ) → blank x ≡ false → continues (x ∷ l) ≡ false
unfolding blank has
no_fold x l f = rw (unblank 32 x refl f, unblank 9 x refl f)

pub no_end : (quirks : Bool) (x : ℕ) (l : List ℕ) → blank x ≡ false → ends_block quirks (x ∷ l) ≡ false
unfolding ends_block all same_list blank has
no_end quirks x l f =
    by_if (λ (t : Bool). t ≡ false) quirks _ _
    (λ e. ap (λ (t : Bool). t && all blank l) f)
    (λ e. ap (λ (t : Bool). t && same_list l (10 ∷ [])) (unblank 13 x refl f))

-- without quirks only a line that begins with CR can end it
pub no_cr : (x : ℕ) (l : List ℕ) → eqb x 13 ≡ false → ends_block false (x ∷ l) ≡ false
unfolding ends_block same_list when◌then◌else◌
no_cr x l e = ap (λ (t : Bool). t && same_list l (10 ∷ [])) e

pub blank_ends : (quirks : Bool) → ends_block quirks (13 ∷ 10 ∷ []) ≡ true
unfolding ends_block when◌then◌else◌ same_list all blank has
blank_ends true = refl
blank_ends false = refl

module _ (quirks : Bool) where
  pub listening_none : (l : Listening) → listening quirks l [] ≡ l
  unfolding listening
  listening_none l = refl

  pub listening_more : (l : Listening) (o : ℕ) (os : List ℕ) → listening quirks l (o ∷ os) ≡ listening quirks (listened quirks l o) os
  unfolding listening
  listening_more l o os = refl

  pub line_over : (n : ℕ) (l : List ℕ) (h : Hearing) → ends_block quirks l ≡ true → line_heard quirks n l h ≡ over n h
  unfolding line_heard
  line_over n l h e = if_true _ _ e

  pub line_heard_lem : (n : ℕ) (l : List ℕ) (h : Hearing) → ends_block quirks l ≡ false → line_heard quirks n l h ≡ between n (heard l h)
  unfolding line_heard
  line_heard_lem n l h e = if_false _ _ e

  -- an octet behind those of a line that has not ended
  module _ (n : ℕ) (p : List ℕ) (h : Hearing) where
    abbrev pub within : Listening
    within = record { count = n; line = p; hearing = h; ended = false }

    pub octet_ends : (o : ℕ) → ends_line quirks (cr_before p 0 (length p)) o ≡ true → listened quirks within o ≡ line_heard quirks (suc n) (p ++ o ∷ []) h
    unfolding listened when◌then◌else◌
    octet_ends o e = rw e

    pub octet_on : (o : ℕ) → ends_line quirks (cr_before p 0 (length p)) o ≡ false
        → listened quirks within o ≡ record { count = suc n; line = p ++ o ∷ []; hearing = h; ended = false }
    unfolding listened when◌then◌else◌
    octet_on o e = rw e

  -- LF behind a CR ends a line, another octet does not
  cr_last : (p : List ℕ) → cr_before (p ++ 13 ∷ []) 0 (length (p ++ 13 ∷ [])) ≡ true
  unfolding cr_before
  cr_last p =
      let q : length (p ++ 13 ∷ []) ≡ length p + 1 = length-append p (13 ∷ []) in
      let e : length p ≡ length p + 1 - 1 = omega arith in
      rw (q, lt-ltb 0 (length p + 1) (omega arith), get_or_at p 13 [] 0 (length p + 1 - 1) e)

  lf_ends : (cr : Bool) → cr ≡ true → ends_line quirks cr 10 ≡ true
  unfolding ends_line
  lf_ends cr e = rw e (or_second quirks true refl)

  others_on : (cr : Bool) (x : ℕ) → eqb x 10 ≡ false → ends_line quirks cr x ≡ false
  unfolding ends_line
  others_on cr x e = rw e

  line_behind : (l w p : List ℕ) (n : ℕ) (h : Hearing) → has 10 l ≡ false
      → listening quirks (within n p h) (l ++ 13 ∷ 10 ∷ w) ≡ listening quirks (line_heard quirks (n + length l + 2) (p ++ (l ++ 13 ∷ 10 ∷ [])) h) w
  unfolding listening has
  line_behind [] w p n h e =
      let z : suc (suc n) ≡ n + 0 + 2 = omega arith in
      ap (λ (l : Listening). listening quirks l (10 ∷ w)) (octet_on n p h 13 (others_on _ 13 refl)) ∙
      ap (λ (l : Listening). listening quirks l w) (octet_ends (suc n) (p ++ 13 ∷ []) h 10 (lf_ends _ (cr_last p)) ∙ rw (append_snoc p 13 (10 ∷ []), z))
  line_behind (x ∷ xs) w p n h e =
      let z : suc n + length xs + 2 ≡ n + suc (length xs) + 2 = omega arith in
      ap (λ (l : Listening). listening quirks l (xs ++ 13 ∷ 10 ∷ w)) (octet_on n p h x (others_on _ x (or_left (eqb x 10) (has 10 xs) e))) ∙
      line_behind xs w (p ++ x ∷ []) (suc n) h (or_right (eqb x 10) (has 10 xs) e) ∙
      rw (append_snoc p x (xs ++ 13 ∷ 10 ∷ []), z)

  -- octets without LF, then CR LF, are one line
  pub line_listened : (l w : List ℕ) (n : ℕ) (h : Hearing) → has 10 l ≡ false
      → listening quirks (between n h) (l ++ 13 ∷ 10 ∷ w) ≡ listening quirks (line_heard quirks (n + length l + 2) (l ++ 13 ∷ 10 ∷ []) h) w
  line_listened l w n h e = line_behind l w [] n h e

  -- one that does not end the block is heard
  pub line_on : (l w : List ℕ) (n : ℕ) (h : Hearing) → has 10 l ≡ false → ends_block quirks (l ++ 13 ∷ 10 ∷ []) ≡ false
      → listening quirks (between n h) (l ++ 13 ∷ 10 ∷ w) ≡ listening quirks (between (n + length l + 2) (heard (l ++ 13 ∷ 10 ∷ []) h)) w
  line_on l w n h e f =
      line_listened l w n h e ∙ ap (λ (z : Listening). listening quirks z w) (line_heard_lem (n + length l + 2) (l ++ 13 ∷ 10 ∷ []) h f)

  -- a blank line ends it
  pub blank_listened : (n : ℕ) (h : Hearing) → listening quirks (between n h) (13 ∷ 10 ∷ []) ≡ over (n + 2) h
  unfolding has
  blank_listened n h =
      let z : n + 0 + 2 ≡ n + 2 = omega arith in
      line_listened [] [] n h refl ∙ listening_none _ ∙ line_over (n + 0 + 2) (13 ∷ 10 ∷ []) h (blank_ends quirks) ∙ ap (λ (k : ℕ). over k h) z

  -- the octets of a line that is being read, in the block and by themselves
  pub cr_line : (b : List ℕ) (start : ℕ) → cr_before b start (length b) ≡ cr_before (drop start b) 0 (length (drop start b))
  unfolding cr_before
  cr_line b start = choose (ltb start (length b)) refl
    where
      choose : (t : Bool) → ltb start (length b) ≡ t
          → (ltb start (length b) && eqb (get_or b (length b - 1) 0) 13) ≡ (ltb 0 (length (drop start b)) && eqb (get_or (drop start b) (length (drop start b) - 1) 0) 13)
      choose true e =
          let h : start < length b = ltb-true start (length b) e in
          let k : 0 < length b - start = omega arith in
          let z : start + (length b - start - 1) ≡ length b - 1 = omega arith in
          rw (e, length-drop start b, lt-ltb 0 (length b - start) k, get_or-drop start b (length b - start - 1) 0, z)
      choose false e =
          let k : length b - start ≤ 0 = omega (arith, ltb-false start (length b) e) in
          rw (e, length-drop start b, le-ltb 0 (length b - start) k)

  -- an octet takes neither an octet nor a field away
  line_keeps : (n : ℕ) (l : List ℕ) (h : Hearing)
      → ((line_heard quirks n l h).count ≡ n) × (length h.said.pairs ≤ length (line_heard quirks n l h).hearing.said.pairs)
  unfolding line_heard
  line_keeps n l h =
      by_if (λ (z : Listening). (z.count ≡ n) × (length h.said.pairs ≤ length z.hearing.said.pairs)) (ends_block quirks l) _ _ (λ e. (refl, omega arith)) (λ e. (refl, heard_keeps l h))

  pub listened_count : (l : Listening) (o : ℕ) → l.ended ≡ false → (listened quirks l o).count ≡ suc l.count
  unfolding listened
  listened_count l o e =
      ap (λ (z : Listening). z.count) (if_false _ _ e) ∙
      by_if (λ (z : Listening). z.count ≡ suc l.count) _ _ _ (λ e. (line_keeps (suc l.count) (l.line ++ o ∷ []) l.hearing).0) (λ e. refl)

  pub listened_keeps : (l : Listening) (o : ℕ)
      → (l.count ≤ (listened quirks l o).count) × (length l.hearing.said.pairs ≤ length (listened quirks l o).hearing.said.pairs)
  unfolding listened
  listened_keeps l o =
      let P : Listening → Type 0 = λ (z : Listening). (l.count ≤ z.count) × (length l.hearing.said.pairs ≤ length z.hearing.said.pairs) in
      by_if P l.ended _ _ (λ e. (omega arith, omega arith))
      (λ e. by_if P _ _ _
      (λ e. let k = line_keeps (suc l.count) (l.line ++ o ∷ []) l.hearing in (omega (arith, k.0), k.1))
      (λ e. (omega arith, omega arith)))

  -- "Nothing after it is taken."
  pub ended_stays : (l : Listening) (o : ℕ) → l.ended ≡ true → listened quirks l o ≡ l
  unfolding listened
  ended_stays l o e = if_true _ _ e

-- a leftover line
pub last_heard_lem : (l : List ℕ) (h : Hearing) → 0 < length l → last_heard l h ≡ heard l h
last_heard_lem [] h k = absurd (omega arith)
last_heard_lem (x ∷ xs) h k = refl
