-- What rebuild and write give, case by case. Assumes nothing.
use Rattle.std.specs.Prelude.{Err, Ok, Result}
use mathlib.Core.Path.{◌≡◌, refl, sym, ap, ◌∙◌}
use mathlib.Core.Bool.{true, false}
use mathlib.Core.List.{List, ◌++◌, append_assoc, map}
use Prim.Native.Nat.{ℕ, ◌+◌, ◌≤◌, ◌<◌}
use native.Mathlib.Omega.{arith}
use native.Mathlib.Nat.{zero-add}
use borrow.Author.Tests.{lt-ltb, le-ltb}
use lib.ListN.{length, take, length-append}
use Rattle.leaves.specs.Choice.{when◌then◌else◌}
use Rattle.leaves.proofs.PasteLaws.{pasted_front}
use Rattle.maps.specs.Good.{checked_done, live}
use Rattle.maps.specs.declared.Field.{Field}
use Rattle.maps.specs.declared.HeaderMap.{HeaderMap}
use Rattle.leaves.specs.declared.refusals.Refusal.{Refusal}
use Rattle.leaves.specs.declared.refusals.Refusal.TheVariants.{ShortOutput}
use Rattle.maps.specs.Said.{pair_at, status_at, saying}
use Rattle.writes.specs.Written.{Put, pair_lines, status_line, crlf, rebuilt, written, Writing, IsWritten, giving, rebuilding, untouched, writing}
use Rattle.writes.proofs.PutLaws.{put_more}

is_by : {g h : Writing} {r : Result ℕ Refusal} {d : List ℕ} → g ≡ h → r ≡ h.result → d ≡ h.out → IsWritten g r d
is_by e p q = record { result = p ∙ ap (λ (x : Writing). x.result) (sym e); out = q ∙ ap (λ (x : Writing). x.out) (sym e) }

-- a text into an output that is too short, and into one that is not
module _ (d t : List ℕ) where
  pub give_short : length d < length t → IsWritten (giving d t) (Err ShortOutput) d
  unfolding giving when◌then◌else◌
  give_short h = is_by (rw (lt-ltb _ _ h)) refl refl

  pub give_all : length t ≤ length d → (d₁ : List ℕ) (k : ℕ) → Put d d₁ 0 k t → IsWritten (giving d t) (Ok k) d₁
  unfolding giving when◌then◌else◌
  give_all h d₁ k p = is_by (rw (le-ltb _ _ h)) (ap Ok (p.ends ∙ zero-add _)) (p.is ∙ pasted_front d t)

-- a map whose fields that count are xs
module _ (m : HeaderMap) (xs : List Field) (f : live m ≡ xs) (b s : List ℕ) where
  whole : rebuilt (saying m b s) ≡ status_line (status_at b s m.status) ++ (pair_lines (map (pair_at b s) xs) ++ crlf)
  unfolding rebuilt saying
  whole = rw f

  size : length (rebuilt (saying m b s)) ≡ length (status_line (status_at b s m.status)) + length (pair_lines (map (pair_at b s) xs)) + 2
  size =
      let p : length (pair_lines (map (pair_at b s) xs) ++ crlf) ≡ length (pair_lines (map (pair_at b s) xs)) + 2 = length-append (pair_lines (map (pair_at b s) xs)) crlf in
      ap length whole ∙ length-append (status_line (status_at b s m.status)) (pair_lines (map (pair_at b s) xs) ++ crlf) ∙ (omega arith)

  module _ (d : List ℕ) where
    pub form_short : length d < length (status_line (status_at b s m.status)) + length (pair_lines (map (pair_at b s) xs)) + 2
        → IsWritten (giving d (rebuilt (saying m b s))) (Err ShortOutput) d
    form_short h = give_short d (rebuilt (saying m b s)) (omega (arith, size))

    pub form_done : length (status_line (status_at b s m.status)) + length (pair_lines (map (pair_at b s) xs)) + 2 ≤ length d
        → (d₁ d₂ d₃ : List ℕ) (i j k : ℕ) → Put d d₁ 0 i (status_line (status_at b s m.status))
        → Put d₁ d₂ i j (pair_lines (map (pair_at b s) xs)) → Put d₂ d₃ j k crlf → IsWritten (giving d (rebuilt (saying m b s))) (Ok k) d₃
    form_done h d₁ d₂ d₃ i j k p q r =
        let S : List ℕ = status_line (status_at b s m.status) in
        let F : List ℕ = pair_lines (map (pair_at b s) xs) in
        let x : Put d d₂ 0 j (S ++ F) = put_more d d₁ d₂ 0 i j S F (omega arith) p q in
        let l : length (S ++ F) ≡ length S + length F = length-append S F in
        let y : Put d d₃ 0 k ((S ++ F) ++ crlf) = put_more d d₂ d₃ 0 j k (S ++ F) crlf (omega arith) x r in
        give_all d (rebuilt (saying m b s)) (omega (arith, size)) d₃ k (rw (append_assoc S F crlf ∙ sym whole) at y)

-- the calls, by what the first checks say
module _ (m : HeaderMap) (b s d : List ℕ) where
  pub rebuild_refused : (x : Refusal) → Err x ≡ checked_done m b s → IsWritten (rebuilding m b s d) (Err x) d
  unfolding rebuilding
  rebuild_refused x e = rw (sym e) (record { result = refl; out = refl })

  pub rebuild_fine : Ok tt ≡ checked_done m b s → {r : Result ℕ Refusal} {o : List ℕ} → IsWritten (giving d (rebuilt (saying m b s))) r o → IsWritten (rebuilding m b s d) r o
  unfolding rebuilding
  rebuild_fine e p = is_by (rw (sym e)) p.result p.out

  pub write_refused : (x : Refusal) → Err x ≡ checked_done m b s → IsWritten (writing m b s d) (Err x) d
  unfolding writing
  write_refused x e = rw (sym e) (record { result = refl; out = refl })

  pub write_rebuilt : untouched m.edited m.count ≡ false → {r : Result ℕ Refusal} {o : List ℕ} → IsWritten (rebuilding m b s d) r o → IsWritten (writing m b s d) r o
  unfolding writing written rebuilding when◌then◌else◌
  write_rebuilt u p = is_by (rw u) p.result p.out

  pub write_plain : Ok tt ≡ checked_done m b s → untouched m.edited m.count ≡ true → {r : Result ℕ Refusal} {o : List ℕ} → IsWritten (giving d (take m.count b)) r o → IsWritten (writing m b s d) r o
  unfolding writing written when◌then◌else◌
  write_plain e u p = is_by (rw (sym e, u)) p.result p.out
