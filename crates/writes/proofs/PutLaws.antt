-- Texts written one behind the other. Assumes nothing.
use mathlib.Core.Path.{◌≡◌, refl, sym, ap, ◌∙◌}
use mathlib.Core.List.{List, [], ◌∷◌, ◌++◌, append_assoc, append-nil}
use Prim.Native.Nat.{ℕ, ◌+◌, ◌-◌, ◌≤◌, ◌<◌}
use native.Mathlib.Omega.{arith}
use lib.ListN.{length, set, take, drop, length-append, length-set, length-drop, take-append-drop}
use lib.Seq.{take_at, drop_at, drop-drop, length-take-le}
use Rattle.leaves.specs.Paste.{pasted}
use Rattle.leaves.proofs.PasteLaws.{pasted_more, set_pasted}
use Rattle.writes.specs.Written.{Put}

-- one behind the other
module _ (d₀ d₁ d₂ : List ℕ) (at a b : ℕ) (s t : List ℕ) where
  pub put_more : at + length s ≤ length d₀ → Put d₀ d₁ at a s → Put d₁ d₂ a b t → Put d₀ d₂ at b (s ++ t)
  put_more h p q =
      record {
        ends = omega (arith, p.ends, q.ends, length-append s t);
        is = q.is ∙ ap (λ (l : List ℕ). pasted l a t) p.is ∙ ap (λ (n : ℕ). pasted (pasted d₀ at s) n t) p.ends ∙ pasted_more d₀ s t at h;
      }

pub two : (d : List ℕ) (at x y : ℕ) → at + 2 ≤ length d → set (set d at x) (at + 1) y ≡ pasted d at (x ∷ y ∷ [])
two d at x y h =
    let p : at < length d = omega arith in
    let q : at + 1 < length (set d at x) = rw (length-set d at x) (omega arith) in
    set_pasted (set d at x) (at + 1) y q ∙ ap (λ (l : List ℕ). pasted l (at + 1) (y ∷ [])) (set_pasted d at x p) ∙ pasted_more d (x ∷ []) (y ∷ []) at (omega arith)

pub put_four : (d₀ d₁ d₂ d₃ d₄ : List ℕ) (i a b c d : ℕ) (s t u v : List ℕ) → i + length s + length t + length u ≤ length d₀
    → Put d₀ d₁ i a s → Put d₁ d₂ a b t → Put d₂ d₃ b c u → Put d₃ d₄ c d v → Put d₀ d₄ i d (s ++ (t ++ (u ++ v)))
put_four d₀ d₁ d₂ d₃ d₄ i a b c d s t u v h p q r w =
    let e : length (s ++ t) ≡ length s + length t = length-append s t in
    let f : length ((s ++ t) ++ u) ≡ length s + length t + length u = length-append (s ++ t) u ∙ rw e in
    let x = put_more d₀ d₁ d₂ i a b s t (omega arith) p q in
    let y = put_more d₀ d₂ d₃ i b c (s ++ t) u (omega arith) x r in
    let z : Put d₀ d₄ i d (((s ++ t) ++ u) ++ v) = put_more d₀ d₃ d₄ i c d ((s ++ t) ++ u) v (omega arith) y w in
    rw (append_assoc (s ++ t) u v, append_assoc s t (u ++ v)) at z

pub put_none : (d t : List ℕ) → t ≡ [] → Put d d 0 0 t
unfolding pasted
put_none d t e = record { ends = rw e; is = rw e }

-- the loop that writes: rest is still to be written, at k
pub record Writing (d₀ : List ℕ) (at : ℕ) (whole rest d : List ℕ) (k : ℕ) : Type 0 where
  pub room : k + length rest ≤ length d
  pub long : length d ≡ length d₀
  pub front : take k d ++ rest ≡ take at d₀ ++ whole
  pub back : drop k d ≡ drop k d₀

pub write_start : (d₀ : List ℕ) (at : ℕ) (whole : List ℕ) → at + length whole ≤ length d₀ → Writing d₀ at whole whole d₀ at
write_start d₀ at whole h = record { room = h; long = refl; front = refl; back = refl }

module _ (d₀ : List ℕ) (at : ℕ) (whole : List ℕ) where
  pub write_step : (t rest d e : List ℕ) (k j : ℕ) → Writing d₀ at whole (t ++ rest) d k → Put d e k j t → Writing d₀ at whole rest e j
  unfolding pasted
  write_step t rest d e k j w p =
      let sum : length (t ++ rest) ≡ length t + length rest = length-append t rest in
      let r : k + length t + length rest ≤ length d = omega (arith, w.room) in
      let n : length (take k d) ≡ k = length-take-le k d (omega arith) in
      let l : length (take k d ++ t) ≡ k + length t = length-append (take k d) t ∙ rw n in
      let is : e ≡ (take k d ++ t) ++ drop (k + length t) d = p.is ∙ sym (append_assoc (take k d) t (drop (k + length t) d)) in
      let le : length e ≡ length d = ap length is ∙ length-append (take k d ++ t) (drop (k + length t) d) ∙ (let z : length (drop (k + length t) d) ≡ length d - (k + length t) = length-drop (k + length t) d in omega arith) in
      let tk : take j e ≡ take k d ++ t = ap (λ (m : ℕ). take m e) p.ends ∙ ap (take (k + length t)) is ∙ take_at (take k d ++ t) (drop (k + length t) d) (k + length t) l in
      let dk : drop (k + length t) e ≡ drop (k + length t) d = ap (drop (k + length t)) is ∙ drop_at (take k d ++ t) (drop (k + length t) d) (k + length t) l in
      let db : drop (k + length t) d ≡ drop (k + length t) d₀ = sym (drop-drop (length t) k d) ∙ ap (drop (length t)) w.back ∙ drop-drop (length t) k d₀ in
      record {
        room = omega (arith, p.ends);
        long = le ∙ w.long;
        front = ap (λ (l : List ℕ). l ++ rest) tk ∙ append_assoc (take k d) t rest ∙ w.front;
        back = ap (λ (m : ℕ). drop m e) p.ends ∙ dk ∙ db ∙ ap (λ (m : ℕ). drop m d₀) (sym p.ends);
      }

  pub write_end : (d : List ℕ) (k : ℕ) → at ≤ length d₀ → Writing d₀ at whole [] d k → Put d₀ d at k whole
  unfolding pasted
  write_end d k h w =
      let tk : take k d ≡ take at d₀ ++ whole = sym (append-nil (take k d)) ∙ w.front in
      let n : length (take k d) ≡ k = length-take-le k d (omega (arith, w.room)) in
      let m : length (take at d₀) ≡ at = length-take-le at d₀ h in
      let e : k ≡ at + length whole = sym n ∙ ap length tk ∙ length-append (take at d₀) whole ∙ rw m in
      record {
        ends = e;
        is = sym (take-append-drop k d) ∙ ap (λ (l : List ℕ). l ++ drop k d) tk ∙ ap (λ (l : List ℕ). (take at d₀ ++ whole) ++ l) (w.back ∙ ap (λ (j : ℕ). drop j d₀) e) ∙ append_assoc (take at d₀) whole (drop (at + length whole) d₀);
      }
