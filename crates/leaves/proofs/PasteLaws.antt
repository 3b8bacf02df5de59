-- Laws of a part `&s[a..e]`, of text written over one, and of the loop that copies. Assumes nothing.
use mathlib.Core.Path.{◌≡◌, refl, sym, ap, ◌∙◌}
use mathlib.Core.List.{List, [], ◌∷◌, ◌++◌, append_assoc, append-nil}
use mathlib.Core.Bool.{Bool, true, false}
use Prim.Native.Nat.{ℕ, zero, suc, max, ◌+◌, ◌-◌, ◌≤◌, ◌<◌}
use native.Mathlib.Nat.{zero-add}
use native.Mathlib.Omega.{arith}
use native.Mathlib.Numerals.{add-one}
use borrow.Author.Tests.{leb-true, leb-false}
use lib.Dec.{leb}
use lib.ListN.{length, get_or, set, take, drop, length-append, length-drop, length-take, take-append-drop, drop_of_length-le}
use lib.Seq.{paste, paste-zero, paste-suc, length-paste, take-paste, drop-paste, take-length, take-nil, take-take, take-add, drop-drop, take_all, drop-append-le, drop-append-add, take_at, length-take-le, get_or-take, get_or-drop, set_split}
use Rattle.leaves.specs.Paste.{pasted, lay}

-- a part of the first n
pub drop_take {ℓ} : {A : Type ℓ} (i n : ℕ) (l : List A) → drop i (take n l) ≡ take (n - i) (drop i l)
drop_take zero n l = let z : n - zero ≡ n = omega arith in rw z
drop_take (suc i) zero l = let z : zero - suc i ≡ zero = omega arith in rw z
drop_take (suc i) (suc n) [] = sym (take-nil (suc n - suc i))
drop_take (suc i) (suc n) (x ∷ xs) = let z : suc n - suc i ≡ n - i = omega arith in rw z (drop_take i n xs)

-- the part to the end is what is left
pub tail_all : (xs : List ℕ) (a : ℕ) → take (length xs - a) (drop a xs) ≡ drop a xs
tail_all xs a = take_all (length xs - a) (drop a xs) (simp length-drop (omega arith))

module _ (xs : List ℕ) (a e : ℕ) (order : a ≤ e) (within : e ≤ length xs) where
  pub part_length : length (take (e - a) (drop a xs)) ≡ e - a
  part_length = simp (length-take, length-drop) (omega arith)

  pub part_back : (t ys : List ℕ) → length t ≤ e - a → ys ≡ pasted (take (e - a) (drop a xs)) 0 t
      → take a xs ++ (ys ++ drop (e - a) (drop a xs)) ≡ pasted xs a t
  unfolding pasted
  part_back t ys room q =
      let h : length t ≤ length (take (e - a) (drop a xs)) = rw part_length room in
      let joined : drop (length t) (take (e - a) (drop a xs)) ++ drop (e - a) (drop a xs) ≡ drop (a + length t) xs =
      sym (drop-append-le (length t) (take (e - a) (drop a xs)) (drop (e - a) (drop a xs)) h)
      ∙ ap (drop (length t)) (take-append-drop (e - a) (drop a xs))
      ∙ drop-drop (length t) a xs in
      rw (q, zero-add, append_assoc, joined)

-- n octets of a list from a place on
module _ (s : List ℕ) (at n : ℕ) (fits : at + n ≤ length s) where
  pub group_length : length (take n (drop at s)) ≡ n
  group_length = length-take-le n (drop at s) (omega (arith, length-drop at s))

  pub group_at : (j : ℕ) → j < n → get_or (take n (drop at s)) j 0 ≡ get_or s (at + j) 0
  group_at j h = rw (get_or-take, get_or-drop)

-- to write t behind s is to write both
pub pasted_more : (d s t : List ℕ) (a : ℕ) → a + length s ≤ length d → pasted (pasted d a s) (a + length s) t ≡ pasted d a (s ++ t)
unfolding pasted
pasted_more d s t a h =
    let m : length (take a d) ≡ a = length-take-le a d (omega arith) in
    let l : length (take a d ++ s) ≡ a + length s = length-append (take a d) s ∙ rw m in
    let j : take a d ++ (s ++ drop (a + length s) d) ≡ (take a d ++ s) ++ drop (a + length s) d = sym (append_assoc (take a d) s (drop (a + length s) d)) in
    let u : take (a + length s) ((take a d ++ s) ++ drop (a + length s) d) ≡ take a d ++ s = take_at (take a d ++ s) (drop (a + length s) d) (a + length s) l in
    let v : drop (a + length s + length t) ((take a d ++ s) ++ drop (a + length s) d) ≡ drop (length t) (drop (a + length s) d) =
    (rw l at (drop-append-add (take a d ++ s) (drop (a + length s) d) (length t))) in
    let w : a + length s + length t ≡ a + length (s ++ t) = rw length-append (omega arith) in
    rw (j, u, v, drop-drop, w, append_assoc, append_assoc)

-- to write one octet
pub set_pasted : (d : List ℕ) (at x : ℕ) → at < length d → set d at x ≡ pasted d at (x ∷ [])
unfolding pasted
set_pasted d at x h = rw (set_split d at x h, add-one)

-- what is written within a text leaves its length
pub length_pasted : (d : List ℕ) (a : ℕ) (s : List ℕ) → a + length s ≤ length d → length (pasted d a s) ≡ length d
unfolding pasted
length_pasted d a s h = simp (length-append, length-take, length-drop) (omega arith)

pub paste_all : (d : List ℕ) (at : ℕ) (s : List ℕ) (n : ℕ) → n ≡ length s → paste d at s n ≡ pasted d at s
unfolding pasted
paste_all d at s n e = rw (e, take-length, append_assoc)

pub record Copying (d₀ : List ℕ) (at : ℕ) (s d : List ℕ) (i : ℕ) : Type 0 where
  pub read : i ≤ length s
  pub fits : at + length s ≤ length d₀
  pub long : length d ≡ length d₀
  pub is : d ≡ paste d₀ at s i

pub copy_start : (d : List ℕ) (at : ℕ) (s : List ℕ) → at + length s ≤ length d → Copying d at s d 0
copy_start d at s h = record { read = omega arith; fits = h; long = refl; is = paste-zero d at s }

pub copy_step : {d₀ : List ℕ} {at : ℕ} {s d : List ℕ} {i : ℕ} → Copying d₀ at s d i → i < length s → (j x : ℕ) → j ≡ at + i → x ≡ get_or s i 0
    → Copying d₀ at s (set d j x) (i + 1)
copy_step {d₀} {at} {s} {d} {i} c h j x f e =
    let q : set d j x ≡ paste d₀ at s (i + 1) =
    rw (f, c.is, e, add-one) (paste-suc d₀ at s i 0 (omega (arith, c.fits)) h) in
    record { read = omega arith; fits = c.fits; long = ap length q ∙ length-paste d₀ at s (i + 1) (omega (arith, c.fits)) (omega arith); is = q }

pub copy_end : {d₀ : List ℕ} {at : ℕ} {s d : List ℕ} {i : ℕ} → Copying d₀ at s d i → length s ≤ i → d ≡ pasted d₀ at s
copy_end {d₀} {at} {s} {d} {i} c h = c.is ∙ paste_all d₀ at s i (omega (arith, c.read))

-- a part of the text that begins where it was copied already, or before: groups may overlap
module _ {d₀ s d : List ℕ} {i : ℕ} (c : Copying d₀ 0 s d i) (at n : ℕ) (d' : List ℕ) (low : at ≤ i) (fits : at + n ≤ length s) (e : d' ≡ pasted d at (take n (drop at s))) where
  head : take i d ≡ take i s
  head = rw zero-add at (ap (take (0 + i)) c.is ∙ take-paste d₀ 0 s i (omega arith) c.read)

  front : take at d ≡ take at s
  front = sym (take-take at i d low) ∙ ap (take at) head ∙ take-take at i s low

  pub copy_group : i ≤ at + n → Copying d₀ 0 s d' (at + n)
  unfolding pasted
  copy_group high =
      let tail : drop i d ≡ drop i d₀ = rw zero-add at (ap (drop (0 + i)) c.is ∙ drop-paste d₀ 0 s i (omega arith) c.read) in
      let k : i + (at + n - i) ≡ at + n = omega arith in
      let back : drop (at + n) d ≡ drop (at + n) d₀ =
      ap (λ (m : ℕ). drop m d) (sym k) ∙ sym (drop-drop (at + n - i) i d) ∙ ap (drop (at + n - i)) tail ∙ drop-drop (at + n - i) i d₀ ∙ ap (λ (m : ℕ). drop m d₀) k in
      let l = group_length s at n fits in
      let q : d' ≡ paste d₀ 0 s (at + n) = e ∙ rw (l, front, back, ← append_assoc, ← take-add, zero-add) in
      record { read = fits; fits = c.fits; long = ap length q ∙ length-paste d₀ 0 s (at + n) (omega (arith, c.fits)) fits; is = q }

  copy_again : at + n ≤ i → d' ≡ d
  unfolding pasted
  copy_again high =
      let same : take (at + n) s ≡ take (at + n) d = sym (take-take (at + n) i s high) ∙ ap (take (at + n)) (sym head) ∙ take-take (at + n) i d high in
      let l = group_length s at n fits in
      e ∙ rw (l, front, ← append_assoc, ← take-add, same) (take-append-drop (at + n) d)

  pub copy_over : Copying d₀ 0 s d' (max i (at + n))
  copy_over = choose (leb i (at + n)) refl
    where
      choose : (t : Bool) → leb i (at + n) ≡ t → Copying d₀ 0 s d' (max i (at + n))
      choose true h =
          let m : max i (at + n) ≡ at + n = omega (arith, leb-true i (at + n) h) in
          rw m (copy_group (leb-true i (at + n) h))
      choose false h =
          let k : at + n ≤ i = omega (arith, leb-false i (at + n) h) in
          let m : max i (at + n) ≡ i = omega arith in
          rw (m, copy_again k) c

-- what stands before it stays
pub pasted_before : (d : List ℕ) (a : ℕ) (s : List ℕ) → a ≤ length d → take a (pasted d a s) ≡ take a d
unfolding pasted
pasted_before d a s h = take_at (take a d) (s ++ drop (a + length s) d) a (length-take-le a d h)

-- a text as long as the list takes its place
pub pasted_over : (d s : List ℕ) → length d ≤ length s → pasted d 0 s ≡ s
unfolding pasted
pasted_over d s h = rw (zero-add, drop_of_length-le d h, append-nil)

-- to write at the start is to lay over it
pub pasted_front : (d s : List ℕ) → pasted d 0 s ≡ lay d s
unfolding pasted
pasted_front d s = rw zero-add
