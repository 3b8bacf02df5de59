-- A map is the one that its numbers stand for, and they are a map's. Assumes nothing.
use Rattle.maps.specs.declared.Place.{Place}
use Rattle.std.specs.Prelude.{None, Option, Some}
use mathlib.Core.Path.{◌≡◌, refl, sym, ap, ◌∙◌}
use mathlib.Core.Bool.{Bool, true, false}
use mathlib.Core.List.{List, [], ◌∷◌}
use Prim.Native.Nat.{ℕ, zero, suc, ◌+◌, ◌*◌, ◌<◌}
use native.Mathlib.Omega.{arith}
use borrow.Author.Tests.{lt-ltb, eq-eqb}
use lib.Dec.{eqb, leb}
use lib.ListN.{length, get_or}
use Rattle.leaves.specs.Choice.{when◌then◌else◌}
use Rattle.leaves.proofs.ChoiceLaws.{and_both}
use Rattle.maps.specs.Good.{lies_in_block, lies_in_store, FitAll, fit_none, fit_more, FitStatus, fit_absent, fit_at}
use Rattle.maps.specs.Heads.{under, head_of as headIn}
use Rattle.maps.specs.declared.Place.TheVariants.{Block, Store}
use Rattle.maps.specs.declared.Field.{Field}
use Rattle.maps.specs.declared.Phase.{Phase}
use Rattle.maps.specs.declared.Phase.TheVariants.{Reading, Done}
use Rattle.maps.specs.declared.Head.{Head}
use Rattle.maps.specs.declared.HeaderMap.{HeaderMap}
use Rattle.lent.specs.Table.{from_of, to_of, field_at, fields_from, table_of, numbers_of}
use Rattle.lent.specs.Numbers.{flag_of, phase_number, status_kind, status_from, status_to, head_numbers, status_of, phase_of, head_of, sound_status, sound_head, sound_map, map_of}
use Rattle.lent.proofs.LentLaws.{told}

-- the numbers of one field before a table
module _ (a b c d : ℕ) (t : List ℕ) where
  get_skip : (k j : ℕ) → k ≡ suc (suc (suc (suc j))) → get_or (a ∷ b ∷ c ∷ d ∷ t) k 0 ≡ get_or t j 0
  get_skip k j e = ap (λ (i : ℕ). get_or (a ∷ b ∷ c ∷ d ∷ t) i 0) e

  field_skip : (i : ℕ) → field_at (a ∷ b ∷ c ∷ d ∷ t) (i + 1) ≡ field_at t i
  field_skip i =
      rw (
        get_skip ((i + 1) * 4) (i * 4) (omega arith),
        get_skip ((i + 1) * 4 + 1) (i * 4 + 1) (omega arith),
        get_skip ((i + 1) * 4 + 2) (i * 4 + 2) (omega arith),
        get_skip ((i + 1) * 4 + 2 + 1) (i * 4 + 2 + 1) (omega arith),
      )

  fields_skip : (i k : ℕ) → fields_from (a ∷ b ∷ c ∷ d ∷ t) (i + 1) k ≡ fields_from t i k
  unfolding fields_from
  fields_skip i zero = refl
  fields_skip i (suc k) = rw (field_skip i, fields_skip (i + 1) k)

-- fields are those that their numbers stand for
fields_back : (xs : List Field) → FitAll 65536 65536 xs → fields_from (numbers_of xs) 0 (length xs) ≡ xs
unfolding fields_from numbers_of
fields_back [] fit_none = refl
fields_back (x ∷ xs) (fit_more w ws) =
    rw (
      told w.key,
      told w.value,
      fields_skip (from_of x.key) (to_of x.key) (from_of x.value) (to_of x.value) (numbers_of xs) 0 (length xs),
      fields_back xs ws,
    )

pub numbers_length : (xs : List Field) → length (numbers_of xs) ≡ length xs * 4
unfolding numbers_of
numbers_length [] = refl
numbers_length (x ∷ xs) = let e = numbers_length xs in omega (arith, e)

pub table_back : (xs : List Field) → length xs ≡ 256 → FitAll 65536 65536 xs → table_of (numbers_of xs) ≡ xs
table_back xs h w = ap (fields_from (numbers_of xs) 0) (sym h) ∙ fields_back xs w

-- the parts of a head
status_back : (s : Option Place) → status_of (status_kind s) (status_from s) (status_to s) ≡ s
unfolding status_of when◌then◌else◌
status_back None = refl
status_back (Some (Block a e)) = refl
status_back (Some (Store a e)) = refl

flag_back : (b : Bool) → eqb (flag_of b) 1 ≡ b
flag_back true = refl
flag_back false = refl

phase_back : (p : Phase) → phase_of (phase_number p) ≡ p
unfolding when◌then◌else◌
phase_back Reading = refl
phase_back Done = refl

-- a head is the one that its numbers stand for
pub head_back : (h : Head) → head_of (head_numbers h) ≡ h
head_back h = rw (status_back h.status, flag_back h.awaits, flag_back h.quirks, flag_back h.edited, phase_back h.phase)

-- and its numbers are a head's
status_sound : (s : Option Place) → FitStatus 65536 65536 s → sound_status (status_kind s) (status_from s) (status_to s) ≡ true
unfolding sound_status when◌then◌else◌
status_sound None fit_absent = refl
status_sound (Some _) (fit_at (lies_in_block x y l h)) =
    let a : x < 4294967296 = omega (arith, l, h) in
    let b : y < 4294967296 = omega (arith, h) in
    and_both _ _ (lt-ltb _ _ a) (lt-ltb _ _ b)
status_sound (Some _) (fit_at (lies_in_store x y l h)) =
    let a : x < 4294967296 = omega (arith, l, h) in
    let b : y < 4294967296 = omega (arith, h) in
    and_both _ _ (lt-ltb _ _ a) (lt-ltb _ _ b)

flag_small : (b : Bool) → leb (flag_of b) 1 ≡ true
flag_small true = refl
flag_small false = refl

phase_small : (p : Phase) → leb (phase_number p) 1 ≡ true
phase_small Reading = refl
phase_small Done = refl

pub head_sound : (h : Head) → FitStatus 65536 65536 h.status → sound_head (head_numbers h) ≡ true
unfolding sound_head
head_sound h w = rw (status_sound h.status w, flag_small h.awaits, flag_small h.quirks, flag_small h.edited, phase_small h.phase)

-- the same of a map
module _ (m : HeaderMap) (long : length m.table ≡ 256) where
  pub map_back : FitAll 65536 65536 m.table → map_of (head_numbers (headIn m)) (numbers_of m.table) ≡ m
  map_back w = ap (under (table_of (numbers_of m.table))) (head_back (headIn m)) ∙ ap (λ (t : List Field). under t (headIn m)) (table_back m.table long w)

  pub map_sound : FitStatus 65536 65536 m.status → sound_map (head_numbers (headIn m)) (numbers_of m.table) ≡ true
  unfolding sound_map
  map_sound w =
      let e : length (numbers_of m.table) ≡ 1024 = omega (arith, numbers_length m.table, long) in
      and_both _ _ (head_sound (headIn m) w) (eq-eqb _ _ e)
