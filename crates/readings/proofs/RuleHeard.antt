-- What a line does to places says what the line is heard to say. Assumes nothing.
use Rattle.leaves.specs.declared.refusals.Refusal.{Refusal}
use Rattle.std.specs.Prelude.{Err, Ok, Option, Result, Some}
use mathlib.Core.Path.{◌≡◌, refl, sym, ◌∙◌, ap}
use mathlib.Core.Bool.{true, false, false≢true}
use mathlib.Core.List.{List, [], ◌∷◌, ◌++◌, map, map-append, append-nil}
use Prim.Native.Nat.{ℕ, suc, ◌+◌, ◌-◌, ◌≤◌, ◌<◌}
use native.Mathlib.Omega.{arith}
use borrow.Author.Tests.{eqb-true, eqb-false, ltb-false}
use lib.Dec.{ltb}
use lib.ListN.{length, take, drop, length-append, length-drop, length-map, take-append-drop}
use lib.Seq.{take_all, take-length, drop-length, drop-append-le, drop-drop, take-suc}
use Rattle.leaves.proofs.ChoiceLaws.{by_if, if_true, if_false}
use Rattle.leaves.specs.Octets.{before}
use Rattle.leaves.specs.Refusals.{number}
use Rattle.leaves.specs.Trim.{trimmed}
use Rattle.leaves.proofs.PasteLaws.{tail_all}
use Rattle.leaves.proofs.TrimTexts.{trimmed_in}
use Rattle.maps.specs.Places.{at, part, in_store, last_of, no_field}
use Rattle.maps.specs.Good.{Fits, lies_in_block, lies_in_store, Fit, FitAll, FitStatus}
use Rattle.maps.specs.Said.{Pair, pair_at, status_at}
use Rattle.maps.specs.declared.Field.{Field}
use Rattle.maps.specs.declared.Place.{Place}
use Rattle.maps.proofs.TextLaws.{at_front, pairs_front, status_front}
use Rattle.maps.proofs.PartLaws.{none_between}
use Rattle.maps.proofs.SaidLaws.{pair_same}
use Rattle.folds.specs.Rule.{Ruling, plain, trimmed_at, continues, grown, regrown, folded, split, rule4}
use Rattle.folds.specs.declared.Change.{Change}
use Rattle.folds.specs.declared.Change.TheVariants.{Nothing, Status as Headed, Put}
use Rattle.line_reader.specs.Reading.{Rules, Gathered, Reading, changed, lined, ruled}
use Rattle.line_reader.specs.declared.Answer.{Answer}
use Rattle.maps.proofs.FitLaws.{all_take, all_get}
use Rattle.readings.specs.Heard.{Hearing, continued, fields_in, heard}
use Rattle.readings.specs.Listening.{said, hearing_of, refused}
use Rattle.readings.proofs.Kept.{Sound}
use Rattle.readings.proofs.HeardLaws.{continued_last}

-- what is found says, of the block b
abbrev pub tells : List ℕ → Gathered → Hearing
tells b f = record { awaits = f.awaits; said = record { status = status_at b f.store f.status; pairs = map (pair_at b f.store) f.fields } }

none_left : {A : Type 0} (xs : List A) → length xs ≡ 0 → xs ≡ []
none_left [] e = refl
none_left (x ∷ xs) e = absurd (omega arith)

-- new octets behind a part that ends where the list ended
part_grown : (s new : List ℕ) (a : ℕ) → a ≤ length s → part a (length s + length new) (s ++ new) ≡ drop a s ++ new
part_grown s new a h =
    ap (take (length s + length new - a)) (drop-append-le a s new h) ∙
    take_all (length s + length new - a) (drop a s ++ new) (simp (length-append, length-drop) (omega arith))

part_new : (s new : List ℕ) → part (length s) (length s + length new) (s ++ new) ≡ new
part_new s new = part_grown s new (length s) (omega arith) ∙ ap (λ (l : List ℕ). l ++ new) (drop-length s)

-- places of the store, when it grows
module _ (b s new : List ℕ) where
  at_later : {p : Place} → Fits (length b) (length s) p → at b (s ++ new) p ≡ at b s p
  at_later {p} h = ap (λ (c : List ℕ). at c (s ++ new) p) (sym (append-nil b)) ∙ at_front b s [] new h

  pairs_later : {xs : List Field} → FitAll (length b) (length s) xs → map (pair_at b (s ++ new)) xs ≡ map (pair_at b s) xs
  pairs_later {xs} h = ap (λ (c : List ℕ). map (pair_at c (s ++ new)) xs) (sym (append-nil b)) ∙ pairs_front b s [] new h

  status_later : {t : Option Place} → FitStatus (length b) (length s) t → status_at b (s ++ new) t ≡ status_at b s t
  status_later {t} h = ap (λ (c : List ℕ). status_at c (s ++ new) t) (sym (append-nil b)) ∙ status_front b s [] new h

-- the line of the block b that begins at n, what the lines before it gave, and what is heard of it
module _ (b : List ℕ) (n : ℕ) (f : Gathered) where
  abbrev line : List ℕ
  line = drop n b

  abbrev anew : Hearing
  anew = heard line (tells b f)

  -- a change says what is heard; a line is refused by 6, or where a 257th field would be heard
  abbrev pub HeardC : List ℕ → Result Change Refusal → Type 0
  HeardC new (Ok Nothing) = tells b (changed f new (Ok Nothing)) ≡ anew
  HeardC new (Ok (Headed p)) = tells b (changed f new (Ok (Headed p))) ≡ anew
  HeardC new (Ok (Put slot x to)) = tells b (changed f new (Ok (Put slot x to))) ≡ anew
  HeardC new (Err e) = length anew.said.pairs ≤ 256 → number e ≡ 6

  pub record IsHeard (g : Ruling) : Type 0 where
    pub is : HeardC g.new g.change

  abbrev sayings : List Field → List Pair
  sayings xs = map (pair_at b f.store) xs

  anew_head : f.awaits ≡ true → anew ≡ record { awaits = false; said = record { status = Some (trimmed line); pairs = sayings f.fields } }
  unfolding heard
  anew_head e = if_true _ _ e

  abbrev with : List Pair → Hearing
  with ps = record { awaits = f.awaits; said = record { status = status_at b f.store f.status; pairs = ps } }

  anew_fold : f.awaits ≡ false → continues line ≡ true → anew ≡ with (continued (trimmed line) (sayings f.fields))
  unfolding heard
  anew_fold e c = if_false _ _ e ∙ if_true _ _ c

  anew_split : f.awaits ≡ false → continues line ≡ false → anew ≡ with (sayings f.fields ++ fields_in line)
  unfolding heard
  anew_split e c = if_false _ _ e ∙ if_false _ _ c

  head_hears : f.awaits ≡ true → IsHeard (plain (Ok (Headed (trimmed_at n line))))
  head_hears e =
      record {
        is =
            ap (λ (t : List ℕ). record { awaits = false; said = record { status = Some t; pairs = sayings f.fields } }) (trimmed_in b line [] n (sym (append-nil line))) ∙
            sym (anew_head e);
      }

  module _ (fits : FitAll (length b) (length f.store) f.fields) (heads : FitStatus (length b) (length f.store) f.status) where
    -- a field put behind some of the fields
    put_says : (slot : ℕ) (x : Field) (to : ℕ) (new : List ℕ) (p : Pair) → pair_at b (f.store ++ new) x ≡ p
        → tells b (changed f new (Ok (Put slot x to))) ≡ with (sayings (take slot f.fields) ++ p ∷ [])
    put_says slot x to new p e =
        rw
        (status_later b f.store new heads, map-append (pair_at b (f.store ++ new)) (take slot f.fields) (x ∷ []), pairs_later b f.store new (all_take slot fits), e)

    module _ (room : ℕ) where
      grown_hears : (slot : ℕ) (key : Place) (from : ℕ) (new : List ℕ)
          → ((to : ℕ) → tells b (changed f new (Ok (Put slot (record { key = key; value = in_store from (length f.store + length new) }) to))) ≡ anew)
          → IsHeard (grown room slot key from (length f.store) new)
      unfolding grown
      grown_hears slot key from new h = by_if IsHeard _ _ _ (λ e. record { is = h (length f.store + length new) }) (λ e. record { is = λ few. refl })

      -- the last value regrown
      module _ (awaits : f.awaits ≡ false) (folds : continues line ≡ true) (Some : 0 < length f.fields) where
        abbrev last : Field
        last = last_of f.fields

        abbrev front : List Field
        front = take (length f.fields - 1) f.fields

        last_fits : Fit (length b) (length f.store) last
        unfolding last_of
        last_fits = all_get (length f.fields - 1) no_field (omega arith) fits

        front_last : f.fields ≡ front ++ last ∷ []
        unfolding last_of
        front_last =
            let i : length f.fields - 1 < length f.fields = omega arith in
            let z : length f.fields ≤ suc (length f.fields - 1) = omega arith in
            sym (take_all (suc (length f.fields - 1)) f.fields z) ∙ take-suc f.fields (length f.fields - 1) no_field i

        anew_last : anew ≡ with (sayings front ++ record { key = at b f.store last.key; value = at b f.store last.value ++ 32 ∷ trimmed line } ∷ [])
        anew_last =
            anew_fold awaits folds ∙
            ap (λ (ps : List Pair). with (continued (trimmed line) ps)) (ap sayings front_last ∙ map-append (pair_at b f.store) front (last ∷ [])) ∙
            ap with (continued_last (trimmed line) (sayings front) (pair_at b f.store last))

        value_hears : (from : ℕ) (new : List ℕ)
            → part from (length f.store + length new) (f.store ++ new) ≡ at b f.store last.value ++ 32 ∷ trimmed line
            → IsHeard (grown room (length f.fields - 1) last.key from (length f.store) new)
        value_hears from new e =
            grown_hears (length f.fields - 1) last.key from new
            (λ to.
            put_says (length f.fields - 1) (record { key = last.key; value = in_store from (length f.store + length new) }) to new
            (record { key = at b f.store last.key; value = at b f.store last.value ++ 32 ∷ trimmed line })
            (pair_same _ _ _ _ (at_later b f.store new last_fits.key) e) ∙
            sym anew_last)

        regrown_hears : (p : Place) → last.value ≡ p → Fits (length b) (length f.store) p
            → IsHeard (regrown room b (length f.fields - 1) last.key p (length f.store) f.store (trimmed line))
        unfolding regrown
        regrown_hears p e (lies_in_block x y h k) =
            value_hears (length f.store) (part x y b ++ 32 ∷ trimmed line)
            (part_new f.store (part x y b ++ 32 ∷ trimmed line) ∙ ap (λ (q : Place). at b f.store q ++ 32 ∷ trimmed line) (sym e))
        regrown_hears p e (lies_in_store x y h k) =
            by_if IsHeard _ _ _
            (λ d. value_hears x (32 ∷ trimmed line)
            (part_grown f.store (32 ∷ trimmed line) x (omega arith) ∙
            ap (λ (t : List ℕ). t ++ 32 ∷ trimmed line)
            (sym (tail_all f.store x) ∙ ap (λ (j : ℕ). part x j f.store) (sym (eqb-true y (length f.store) d)) ∙ ap (at b f.store) (sym e))))
            (λ d. value_hears (length f.store) (part x y f.store ++ 32 ∷ trimmed line)
            (part_new f.store (part x y f.store ++ 32 ∷ trimmed line) ∙ ap (λ (q : Place). at b f.store q ++ 32 ∷ trimmed line) (sym e)))

      folded_hears : f.awaits ≡ false → continues line ≡ true
          → IsHeard (folded room b (length f.fields) (last_of f.fields) (length f.store) f.store (trimmed line))
      unfolding folded continued
      folded_hears a c =
          by_if IsHeard _ _ _
          (λ e. grown_hears 0 (in_store (length f.store) (length f.store)) (length f.store) (trimmed line)
          (λ to.
          put_says 0 (record { key = in_store (length f.store) (length f.store); value = in_store (length f.store) (length f.store + length (trimmed line)) }) to (trimmed line)
          (record { key = []; value = trimmed line })
          (pair_same _ _ _ _ (none_between (drop (length f.store) (f.store ++ trimmed line)) (length f.store)) (part_new f.store (trimmed line))) ∙
          sym (anew_fold a c ∙ ap (λ (xs : List Field). with (continued (trimmed line) (sayings xs))) (none_left f.fields (eqb-true (length f.fields) 0 e)))))
          (λ e.
          let some : 0 < length f.fields = omega (arith, eqb-false (length f.fields) 0 e) in
          regrown_hears a c some (last a c some).value refl (last_fits a c some).value)

      split_hears : f.awaits ≡ false → continues line ≡ false → IsHeard (split n line (length f.fields) (length f.store))
      unfolding split fields_in
      split_hears a c =
          let k = before 58 line in
          let heads : ltb k (length line) ≡ true → anew ≡ with (sayings f.fields ++ record { key = trimmed (take k line); value = trimmed (drop (k + 1) line) } ∷ []) =
          λ e. anew_split a c ∙ ap (λ (ps : List Pair). with (sayings f.fields ++ ps)) (if_true _ _ e) in
          by_if IsHeard _ _ _
          (λ e. by_if IsHeard _ _ _
          (λ d. record {
            is =
                put_says (length f.fields) (record { key = trimmed_at n (take k line); value = trimmed_at (n + (k + 1)) (drop (k + 1) line) }) (length f.store) []
                (record { key = trimmed (take k line); value = trimmed (drop (k + 1) line) })
                (pair_same _ _ _ _ (trimmed_in b (take k line) (drop k line) n (sym (take-append-drop k line)))
                (trimmed_in b (drop (k + 1) line) [] (n + (k + 1)) (sym (drop-drop (k + 1) n b) ∙ sym (append-nil (drop (k + 1) line))))) ∙
                ap (λ (xs : List Field). with (sayings xs ++ record { key = trimmed (take k line); value = trimmed (drop (k + 1) line) } ∷ [])) (take-length f.fields) ∙
                sym (heads e);
          })
          (λ d. record {
            is =
                λ few.
                let m = length-append (sayings f.fields) (record { key = trimmed (take k line); value = trimmed (drop (k + 1) line) } ∷ []) in
                absurd (omega (arith, ap (λ (h : Hearing). length h.said.pairs) (heads e), m, length-map f.fields (pair_at b f.store), ltb-false (length f.fields) 256 d));
          }))
          (λ e. record { is = sym (anew_split a c ∙ ap (λ (ps : List Pair). with (sayings f.fields ++ ps)) (if_false _ _ e) ∙ ap with (append-nil (sayings f.fields))) })

      rule4_hears : IsHeard (rule4 room b n f.awaits (length f.fields) (last_of f.fields) (length f.store) f.store)
      unfolding rule4
      rule4_hears = by_if IsHeard _ _ _ head_hears (λ a. by_if IsHeard _ _ _ (folded_hears a) (split_hears a))

lined_hears : (r : Reading) (a : Result Answer Refusal) (new : List ℕ) (c : Result Change Refusal) → HeardC r.block r.line r.found new c → refused (lined r a new c).answer ≡ false
    → hearing_of (lined r a new c) ≡ heard (drop r.line r.block) (hearing_of r)
unfolding said
lined_hears r a new (Ok Nothing) h e = h
lined_hears r a new (Ok (Headed p)) h e = h
lined_hears r a new (Ok (Put slot x to)) h e = h
lined_hears r a new (Err x) h e = absurd (false≢true (sym e))

module _ (R : Rules) (r : Reading) (sound : Sound R r) where
  pub ruled_hears : IsHeard r.block r.line r.found (ruled R r)
  unfolding ruled
  ruled_hears = rule4_hears r.block r.line r.found sound.fields sound.status R.room

  -- a line that is not refused says what it is heard to say
  pub line_hears : (a : Result Answer Refusal) → refused (lined r a (ruled R r).new (ruled R r).change).answer ≡ false
      → hearing_of (lined r a (ruled R r).new (ruled R r).change) ≡ heard (drop r.line r.block) (hearing_of r)
  line_hears a e = lined_hears r a (ruled R r).new (ruled R r).change ruled_hears.is e
