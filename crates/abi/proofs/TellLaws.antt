-- What the calls that tell and write give, by what the calls below give over a head, or over a map by value with the fields that count alone. Assumes nothing.
use Rattle.leaves.specs.declared.refusals.Refusal.{Refusal}
use Rattle.std.specs.Prelude.{Bool, Result}
use mathlib.Core.Path.{◌≡◌, sym, ap, ◌∙◌}
use mathlib.Core.Bool.{true}
use mathlib.Core.List.{List}
use Prim.Native.Nat.{ℕ}
use Rattle.leaves.specs.Choice.{when◌then◌else◌}
use Rattle.leaves.proofs.ChoiceLaws.{if_true}
use Rattle.maps.specs.declared.Head.{Head}
use Rattle.maps.specs.declared.HeaderMap.{HeaderMap}
use Rattle.tidy.specs.Calls.{cleaning}
use Rattle.tidy.specs.Answers.{told as test_of}
use Rattle.tidy.proofs.BehindLaws.{cleaning_behind}
use Rattle.equals.specs.Equal.{comparing}
use Rattle.equals.specs.Answers.{told as equal_of}
use Rattle.equals.proofs.BehindLaws.{comparing_behind}
use Rattle.resume.specs.Resume.{resuming}
use Rattle.resume.specs.Answers.{told as verdictOf}
use Rattle.resume.specs.declared.Verdict.{Verdict}
use Rattle.resume.proofs.BehindLaws.{resuming_behind}
use Rattle.writes.specs.Written.{Writing, IsWritten}
use Rattle.writes.specs.Answers.{told as wroteOf}
use Rattle.lent.specs.Table.{map_in, table_of, live_in}
use Rattle.lent.specs.Numbers.{head_of, sound_map, map_of}
use Rattle.lent.proofs.LentLaws.{live_same}
use Rattle.abi.specs.Calls.{Tells, tells_damaged, Puts, put_of, puts_damaged, count_number, clean_tells}
use Rattle.abi.proofs.CallLaws.{told_sound, put_sound}

-- over a head
module _ (n t b s : List ℕ) (h : Head) (w : sound_map n t ≡ true) (e : h ≡ head_of n) where
  pub told_head : {A : Type 0} (answer : A → ℕ) (number : A → ℕ → ℕ) (of : HeaderMap → List ℕ → List ℕ → A) (x : A) (k r k' : ℕ)
      → x ≡ of (map_in t h) b s → r ≡ answer x → k' ≡ number x k
      → Tells (when sound_map n t then record { answer = answer (of (map_of n t) b s); number = number (of (map_of n t) b s) k } else tells_damaged k) r k'
  told_head {A = A} answer number of x k r k' f p q =
      let g : x ≡ of (map_of n t) b s = f ∙ ap (λ (y : Head). of (map_in t y) b s) e in
      told_sound _ k r k' (sound_map n t) w (p ∙ ap answer g) (q ∙ ap (λ (y : A). number y k) g)

  pub put_head : (of : HeaderMap → List ℕ → List ℕ → List ℕ → Writing) (x : Result ℕ Refusal) (d d' : List ℕ) (k r k' : ℕ)
      → IsWritten (of (map_in t h) b s d) x d' → r ≡ wroteOf x → k' ≡ count_number x k
      → Puts (when sound_map n t then put_of k (of (map_of n t) b s d) else puts_damaged k d) r k' d'
  put_head of x d d' k r k' i p q =
      let g : of (map_in t h) b s d ≡ of (map_of n t) b s d = ap (λ (y : Head). of (map_in t y) b s d) e in
      let f : x ≡ (of (map_of n t) b s d).result = i.result ∙ ap (λ (y : Writing). y.result) g in
      put_sound (put_of k (of (map_of n t) b s d)) k d r k' d' (sound_map n t) w (p ∙ ap wroteOf f) (q ∙ ap (λ (y : Result ℕ Refusal). count_number y k) f) (i.out ∙ ap (λ (y : Writing). y.out) g)

-- over maps by value
module _ (n t b s : List ℕ) (one : HeaderMap) (e : one ≡ live_in t (head_of n)) where
  pub clean_live : (x : Result Bool Refusal) (r : ℕ) → sound_map n t ≡ true → x ≡ cleaning one b s → r ≡ test_of x → r ≡ clean_tells n t b s
  clean_live x r w f p =
      let g : x ≡ cleaning (map_of n t) b s = f ∙ ap (λ (y : HeaderMap). cleaning y b s) e ∙ cleaning_behind (head_of n) (live_in t (head_of n)).table (table_of t) (live_same t (head_of n)) b s in
      p ∙ ap test_of g ∙ sym (if_true (test_of (cleaning (map_of n t) b s)) 3 w)

  module _ (m u c z : List ℕ) (two : HeaderMap) (f : two ≡ live_in u (head_of m)) where
    pub equal_live : (x : Result Bool Refusal) (r : ℕ) → x ≡ comparing one b s two c z → r ≡ equal_of x → r ≡ equal_of (comparing (map_of n t) b s (map_of m u) c z)
    equal_live x r g p =
        let live = comparing_behind (head_of n) (live_in t (head_of n)).table (table_of t) (live_same t (head_of n)) (head_of m) (live_in u (head_of m)).table (table_of u) (live_same u (head_of m)) b s c z in
        p ∙ ap equal_of (rw (e, f) at g ∙ live)

    pub resume_live : (x : Result Verdict Refusal) (r : ℕ) → x ≡ resuming one b s two c z → r ≡ verdictOf x → r ≡ verdictOf (resuming (map_of n t) b s (map_of m u) c z)
    resume_live x r g p =
        let live = resuming_behind (head_of n) (live_in t (head_of n)).table (table_of t) (live_same t (head_of n)) (head_of m) (live_in u (head_of m)).table (table_of u) (live_same u (head_of m)) b s c z in
        p ∙ ap verdictOf (rw (e, f) at g ∙ live)
