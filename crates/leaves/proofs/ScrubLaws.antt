-- Laws of sanitising from the front. Assumes nothing.
use mathlib.Core.Path.{◌≡◌, refl, sym, ap, ◌∙◌}
use mathlib.Core.Bool.{Bool, true, false}
use mathlib.Core.List.{List, [], ◌∷◌, ◌++◌, append_assoc, append-nil}
use Prim.Native.Nat.{ℕ, suc, ◌+◌, ◌≤◌, ◌<◌}
use native.Mathlib.Omega.{arith}
use native.Mathlib.Numerals.{add-one}
use lib.ListN.{length, get_or, set, take, drop, length-set, take-append-drop, drop_of_length-le}
use lib.Seq.{drop-cons, take-suc-set, drop-set-lt, drop-drop, length-take-le}
use Rattle.leaves.specs.Sanitise.{dropped, spaced, scrubbed}
use Rattle.leaves.specs.Paste.{pasted}

module _ (key : Bool) (s : List ℕ) (i : ℕ) where
  pub skipped : i < length s → dropped key (get_or s i 0) ≡ true → scrubbed key (drop i s) ≡ scrubbed key (drop (i + 1) s)
  unfolding scrubbed
  skipped h g = rw (add-one, drop-cons s i 0, g)

  pub kept : i < length s → dropped key (get_or s i 0) ≡ false → scrubbed key (drop i s) ≡ spaced (get_or s i 0) ∷ scrubbed key (drop (i + 1) s)
  unfolding scrubbed
  kept h g = rw (add-one, drop-cons s i 0, g)

  pub ended : length s ≤ i → scrubbed key (drop i s) ≡ []
  unfolding scrubbed
  ended h = rw (drop_of_length-le s h)

-- the loop of scrub_into: i octets of s are read, n of what is left of them stand at the front of d, which was d₀
pub record Scrubbing (d₀ s : List ℕ) (key : Bool) (d : List ℕ) (n i : ℕ) : Type 0 where
  pub read : i ≤ length s
  pub put : n ≤ length d
  pub long : length d ≡ length d₀
  pub front : take n d ++ scrubbed key (drop i s) ≡ scrubbed key s
  pub back : drop n d ≡ drop n d₀
  pub room : n + length (scrubbed key (drop i s)) ≤ length d

pub scrub_start : (d s : List ℕ) (key : Bool) → length (scrubbed key s) ≤ length d → Scrubbing d s key d 0 0
scrub_start d s key h = record { read = omega arith; put = omega arith; long = refl; front = refl; back = refl; room = omega arith }

module _ (d₀ s : List ℕ) (key : Bool) (d : List ℕ) (n i : ℕ) (inv : Scrubbing d₀ s key d n i) where
  module _ (more : i < length s) where
    pub scrub_skip : dropped key (get_or s i 0) ≡ true → Scrubbing d₀ s key d n (i + 1)
    scrub_skip g =
        let e = skipped key s i more g in
        record {
          read = omega arith;
          put = inv.put;
          long = inv.long;
          back = inv.back;
          front = rw e at inv.front;
          room = rw e at inv.room;
        }

    pub scrub_room : dropped key (get_or s i 0) ≡ false → n < length d
    scrub_room g = omega (arith, ap length (kept key s i more g), inv.room)

    pub scrub_keep : dropped key (get_or s i 0) ≡ false → (v : ℕ) → v ≡ spaced (get_or s i 0) → Scrubbing d₀ s key (set d n v) (n + 1) (i + 1)
    scrub_keep g v e =
        let h : n < length d = scrub_room g in
        let lt : n < n + 1 = omega arith in
        let ls : length (set d n v) ≡ length d = length-set d n v in
        let lk : length (scrubbed key (drop i s)) ≡ suc (length (scrubbed key (drop (i + 1) s))) = ap length (kept key s i more g) in
        record {
          read = omega arith;
          put = omega arith;
          long = ls ∙ inv.long;
          room = omega (arith, inv.room);
          back = drop-set-lt (n + 1) d n v lt ∙ sym (drop-drop 1 n d) ∙ ap (drop 1) inv.back ∙ drop-drop 1 n d₀;
          front =
              rw (add-one n, take-suc-set d n v, append_assoc, e)
              (ap (λ (l : List ℕ). take n d ++ l) (sym (kept key s i more g)) ∙ inv.front);
        }

  module _ (done : length s ≤ i) where
    all : take n d ≡ scrubbed key s
    all = sym (append-nil (take n d)) ∙ (rw (ended key s i done) at inv.front)

    pub scrub_length : n ≡ length (scrubbed key s)
    scrub_length = sym (length-take-le n d inv.put) ∙ ap length all

    pub scrub_end : d ≡ pasted d₀ 0 (scrubbed key s)
    unfolding pasted
    scrub_end =
        let z : 0 + length (scrubbed key s) ≡ n = omega (arith, scrub_length) in
        rw (z, ← all, ← inv.back) (sym (take-append-drop n d))
