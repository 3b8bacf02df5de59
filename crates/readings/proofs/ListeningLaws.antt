-- A reading that is not refused says what its octets say. Assumes nothing.
use Rattle.leaves.specs.declared.refusals.Refusal.{Refusal}
use Rattle.std.specs.Prelude.{Err, Ok, Result}
use mathlib.Core.Path.{◌≡◌, refl, sym, ◌∙◌, ap, subst}
use mathlib.Core.Bool.{Bool, true, false, not, false≢true}
use mathlib.Core.List.{List, [], ◌∷◌, ◌++◌, map, append-nil}
use Prim.Native.Nat.{ℕ, suc, ◌-◌, ◌≤◌, ◌<◌}
use native.Mathlib.Omega.{arith}
use borrow.Author.Tests.{eqb-true, eqb-false, ltb-true, ltb-false, not-true}
use lib.ListN.{length, take, drop, length-append, length-drop, drop_of_length-le}
use lib.Seq.{drop-length, drop-append-le, append_snoc, take-nil, take_all}
use Rattle.leaves.proofs.ChoiceLaws.{by_if}
use Rattle.leaves.specs.Refusals.{number}
use Rattle.maps.specs.Places.{last_of}
use Rattle.maps.specs.Said.{pair_at, status_at}
use Rattle.maps.proofs.TextLaws.{pairs_front, status_front}
use Rattle.maps.proofs.SaidLaws.{said_same}
use Rattle.folds.specs.declared.Change.{Change}
use Rattle.folds.specs.declared.Change.TheVariants.{Nothing, Status as Headed, Put}
use Rattle.line_reader.specs.Reading.{Rules, Reading, begun, goes, lined, ruled, closed, put, step, fed, finished}
use Rattle.line_reader.specs.declared.Answer.{Answer}
use Rattle.line_reader.specs.declared.Answer.TheVariants.{More, Blank, Input}
use Rattle.maps.proofs.FitLaws.{all_mono, status_mono}
use Rattle.line_reader.proofs.OctetSteps.{still}
use Rattle.line_reader.proofs.Steps.{lined_block}
use Rattle.readings.specs.Heard.{Hearing, heard}
use Rattle.readings.specs.Listening.{Listening, silent, line_heard, listened, listening, last_heard, said, hearing_of, at_blank, refused, answered, listening_of}
use Rattle.readings.proofs.Kept.{Sound, fed_later, begun_sound}
use Rattle.reader.specs.Answers.{told}
use Rattle.readings.proofs.Thrift.{Thrifty, fed_thrifty}
use Rattle.readings.proofs.HeardLaws.{between, octet_ends, octet_on, line_over, line_heard_lem, cr_line, listened_count, listened_keeps, ended_stays, last_heard_lem}
use Rattle.readings.proofs.RuleHeard.{HeardC, ruled_hears, line_hears}

pub same_listening : (c c' : ℕ) (l l' : List ℕ) (h h' : Hearing) (e : Bool) → c ≡ c' → l ≡ l' → h ≡ h'
    → ◌≡◌ {A = Listening} (record { count = c; line = l; hearing = h; ended = e }) (record { count = c'; line = l'; hearing = h'; ended = e })
same_listening c c' l l' h h' e p q s = rw (p, q, s)

-- an octet goes into the block
abbrev with : Reading → ℕ → Reading
with r o = record { block = r.block ++ o ∷ []; line = r.line; found = r.found; answer = Ok More }

-- a reading that goes on
abbrev going : Reading → Listening
going r = record { count = length r.block; line = drop r.line r.block; hearing = hearing_of r; ended = false }

module _ (R : Rules) where
  -- a reading with this answer tells what was listened to; while count and fields keep within their limits it is refused by 6 alone
  abbrev Told : Listening → Reading → Result Answer Refusal → Type 0
  Told l z (Ok More) = listening_of z ≡ l
  Told l z (Ok Blank) = listening_of z ≡ l
  Told l z (Ok Input) = ⊥
  Told l z (Err e) = l.count ≤ R.limit → length l.hearing.said.pairs ≤ 256 → number e ≡ 6

  record Tells (l : Listening) (z : Reading) : Type 0 where
    is : Told l z z.answer

  lined_tells : (r : Reading) (new : List ℕ) (c : Result Change Refusal) → HeardC r.block r.line r.found new c
      → Tells (between (length r.block) (heard (drop r.line r.block) (hearing_of r))) (lined r (Ok More) new c)
  unfolding said
  lined_tells r new (Ok Nothing) h = record { is = same_listening _ _ _ _ _ _ false refl (drop-length r.block) h }
  lined_tells r new (Ok (Headed p)) h = record { is = same_listening _ _ _ _ _ _ false refl (drop-length r.block) h }
  lined_tells r new (Ok (Put slot x to)) h = record { is = same_listening _ _ _ _ _ _ false refl (drop-length r.block) h }
  lined_tells r new (Err e) h = record { is = λ _ few. h few }

  closed_tells : (r : Reading) → Sound R r → Tells (line_heard R.quirks (length r.block) (drop r.line r.block) (hearing_of r)) (closed R r)
  unfolding closed said
  closed_tells r s =
      let l : List ℕ = drop r.line r.block in
      let n : ℕ = length r.block in
      by_if (Tells (line_heard R.quirks n l (hearing_of r))) _ _ _
      (λ e. subst (λ (z : Listening). Tells z (record { block = r.block; line = n; found = r.found; answer = Ok Blank })) (sym (line_over R.quirks n l (hearing_of r) e))
      (record { is = same_listening _ _ _ _ _ _ true refl (drop-length r.block) refl }))
      (λ e. subst (λ (z : Listening). Tells z (lined r (Ok More) (ruled R r).new (ruled R r).change)) (sym (line_heard_lem R.quirks n l (hearing_of r) e))
      (lined_tells r (ruled R r).new (ruled R r).change (ruled_hears R r s).is))

  module _ (r : Reading) (o : ℕ) (s : Sound R r) where
    said_with : said (with r o) ≡ said r
    unfolding said
    said_with =
        let f = r.found in
        said_same _ _ _ _
        (ap (λ (t : List ℕ). status_at (r.block ++ o ∷ []) t f.status) (sym (append-nil f.store)) ∙ status_front r.block f.store (o ∷ []) [] s.status)
        (ap (λ (t : List ℕ). map (pair_at (r.block ++ o ∷ []) t) f.fields) (sym (append-nil f.store)) ∙ pairs_front r.block f.store (o ∷ []) [] s.fields)

    heard_with : hearing_of (with r o) ≡ hearing_of r
    heard_with = rw said_with

    long_with : length (r.block ++ o ∷ []) ≡ suc (length r.block)
    long_with = omega (arith, length-append r.block (o ∷ []))

    line_with : drop r.line (r.block ++ o ∷ []) ≡ drop r.line r.block ++ o ∷ []
    line_with = drop-append-le r.line r.block (o ∷ []) s.line

    sound_with : length r.block < R.limit → Sound R (with r o)
    sound_with h =
        record {
          line = omega (arith, s.line, long_with);
          limit = omega (arith, long_with);
          few = s.few;
          room = s.room;
          fields = all_mono (omega (arith, long_with)) (omega arith) s.fields;
          status = status_mono (omega (arith, long_with)) (omega arith) s.status;
        }

    put_tells : length r.block < R.limit → Tells (listened R.quirks (going r) o) (put R r o)
    unfolding put
    put_tells h =
        let q = R.quirks in
        let n = length r.block in
        let l = drop r.line r.block in
        by_if (Tells (listened q (going r) o)) _ _ _
        (λ e. subst (λ (z : Listening). Tells z (closed R (with r o)))
        (rw (long_with, line_with, heard_with) (sym (octet_ends q n l (hearing_of r) o (rw (← cr_line q r.block r.line) e))))
        (closed_tells (with r o) (sound_with h)))
        (λ e. record {
          is =
              same_listening _ _ _ _ _ _ false long_with line_with heard_with ∙
              sym (octet_on q n l (hearing_of r) o (rw (← cr_line q r.block r.line) e));
        })

    step_going : r.answer ≡ Ok More → Tells (listened R.quirks (going r) o) (step R r o)
    unfolding step
    step_going e =
        by_if (Tells (listened R.quirks (going r) o)) _ _ _
        (λ d. absurd (false≢true (sym (ap (λ (a : Result Answer Refusal). not (goes a)) e) ∙ d)))
        (λ _. by_if (Tells (listened R.quirks (going r) o)) _ _ _
        (λ d. record {
          is = λ c _. absurd (omega (arith, c, listened_count R.quirks (going r) o refl, eqb-true (length r.block) R.limit d));
        })
        (λ d. put_tells (omega (arith, s.limit, eqb-false (length r.block) R.limit d))))

  -- a reading that goes on no more
  module _ (r : Reading) (o : ℕ) (e : goes r.answer ≡ false) where
    step_still : step R r o ≡ r
    unfolding fed
    step_still = still R r e (o ∷ [])

  step_tells : (r : Reading) (l : Listening) (o : ℕ) → Sound R r → Tells l r → Tells (listened R.quirks l o) (step R r o)
  step_tells r l o s t = choose r.answer refl t.is
    where
      choose : (a : Result Answer Refusal) → r.answer ≡ a → Told l r a → Tells (listened R.quirks l o) (step R r o)
      choose (Ok More) e h =
          let g : going r ≡ l = ap (λ (a : Result Answer Refusal). record { count = length r.block; line = drop r.line r.block; hearing = hearing_of r; ended = at_blank a }) (sym e) ∙ h in
          subst (λ (z : Listening). Tells (listened R.quirks z o) (step R r o)) g (step_going r o s e)
      choose (Ok Blank) e h =
          let d : l.ended ≡ true = sym (ap (λ (z : Listening). z.ended) h) ∙ ap at_blank e in
          rw (step_still r o (ap goes e), ended_stays R.quirks l o d) t
      choose (Ok Input) e h = absurd h
      choose (Err x) e h =
          let k = listened_keeps R.quirks l o in
          rw (step_still r o (ap goes e))
          (record { is = subst (Told (listened R.quirks l o) r) (sym e) (λ c few. h (omega (arith, c, k.0)) (omega (arith, few, k.1))) })

  fed_tells : (r : Reading) (l : Listening) (os : List ℕ) → Sound R r → Tells l r → Tells (listening R.quirks l os) (fed R r os)
  unfolding fed listening
  fed_tells r l [] s t = t
  fed_tells r l (o ∷ os) s t = fed_tells (step R r o) (listened R.quirks l o) os (fed_later R r (o ∷ []) s).sound (step_tells r l o s t)

-- a reading that was not refused, and tells what was listened to
pub record Listens (l : Listening) (r : Reading) : Type 0 where
  pub answer : r.answer ≡ answered l.ended
  pub told : listening_of r ≡ l

listens_by : (R : Rules) (l : Listening) (r : Reading) → Tells R l r → refused r.answer ≡ false → Listens l r
listens_by R l r t f = choose r.answer refl t.is
  where
    by : (a : Result Answer Refusal) → r.answer ≡ a → a ≡ answered (at_blank a) → listening_of r ≡ l → Listens l r
    by a e g h = record { answer = e ∙ g ∙ ap answered (ap at_blank (sym e) ∙ ap (λ (z : Listening). z.ended) h); told = h }

    choose : (a : Result Answer Refusal) → r.answer ≡ a → Told R l r a → Listens l r
    choose (Ok More) e h = by (Ok More) e refl h
    choose (Ok Blank) e h = by (Ok Blank) e refl h
    choose (Ok Input) e h = absurd h
    choose (Err x) e h = absurd (false≢true (sym f ∙ ap refused e))

module _ (R : Rules) where
  -- octets fed to a reading that goes on, and not refused, are listened to
  pub fed_listens : (r : Reading) (os : List ℕ) → Sound R r → r.answer ≡ Ok More → refused (fed R r os).answer ≡ false
      → Listens (listening R.quirks (listening_of r) os) (fed R r os)
  fed_listens r os s e f =
      listens_by R (listening R.quirks (listening_of r) os) (fed R r os)
      (fed_tells R r (listening_of r) os s (record { is = subst (Told R (listening_of r) r) (sym e) refl })) f

  -- and at the end of input the leftover line
  pub finished_hears : (r : Reading) → Sound R r → r.answer ≡ Ok More → refused (finished R r).answer ≡ false
      → hearing_of (finished R r) ≡ last_heard (drop r.line r.block) (hearing_of r)
  unfolding finished said
  finished_hears r s e =
      let l : List ℕ = drop r.line r.block in
      let P : Reading → Type 0 = λ (z : Reading). refused z.answer ≡ false → hearing_of z ≡ last_heard l (hearing_of r) in
      by_if P _ _ _ (λ d. absurd (false≢true (sym (ap (λ (a : Result Answer Refusal). not (goes a)) e) ∙ d)))
      (λ _. by_if P _ _ _
      (λ d f. line_hears R r s (Ok Input) f ∙ sym (last_heard_lem l (hearing_of r) (omega (arith, length-drop r.line r.block, ltb-true r.line (length r.block) d))))
      (λ d f.
      let z : length r.block ≤ r.line = ltb-false r.line (length r.block) d in
      sym (ap (λ (t : List ℕ). last_heard t (hearing_of r)) (drop_of_length-le r.block z))))

  pub thrifty_begun : (status : Bool) → Thrifty R (begun status)
  unfolding last_of
  thrifty_begun status = record { sound = begun_sound R status; owes = omega arith; not_six = λ z. omega arith }

  said_begun : (status : Bool) → listening_of (begun status) ≡ silent status
  unfolding said
  said_begun status = refl

  -- a reading from its beginning is not refused, if there is room for a store as long as the block, the limit is not passed and there
  -- are no more than 256 fields: so its octets alone tell what it says
  pub begun_listens : R.limit ≤ R.room → (status : Bool) (os : List ℕ)
      → let l = listening R.quirks (silent status) os in
      l.count ≤ R.limit → length l.hearing.said.pairs ≤ 256 → Listens l (fed R (begun status) os)
  begun_listens rooms status os c few =
      let l = listening R.quirks (silent status) os in
      let r = fed R (begun status) os in
      let t : Tells R l r = fed_tells R (begun status) (silent status) os (begun_sound R status) (record { is = said_begun status }) in
      listens_by R l r t (choose r.answer refl t.is)
    where
      choose : (a : Result Answer Refusal) → (fed R (begun status) os).answer ≡ a → Told R (listening R.quirks (silent status) os) (fed R (begun status) os) a
          → refused (fed R (begun status) os).answer ≡ false
      choose (Ok More) e h = ap refused e
      choose (Ok Blank) e h = ap refused e
      choose (Ok Input) e h = ap refused e
      choose (Err x) e h = absurd ((fed_thrifty R rooms (begun status) os (thrifty_begun status)).not_six (ap told e ∙ h c few))

  closed_block : (r : Reading) → (closed R r).block ≡ r.block
  unfolding closed
  closed_block r = by_if (λ (z : Reading). z.block ≡ r.block) _ _ _ (λ e. refl) (λ e. lined_block r (Ok More) (ruled R r).new (ruled R r).change)

  -- an octet is taken, or nothing from it on
  data Takes (r : Reading) (o : ℕ) (z : Reading) : Type 0 where
    none : z.block ≡ r.block → goes z.answer ≡ false → Takes r o z
    one : z.block ≡ r.block ++ o ∷ [] → Takes r o z

  step_takes : (r : Reading) (o : ℕ) → Takes r o (step R r o)
  unfolding step put
  step_takes r o =
      by_if (Takes r o) _ _ _ (λ e. none refl (not-true (goes r.answer) e))
      (λ e. by_if (Takes r o) _ _ _ (λ e. none refl refl)
      (λ e. by_if (Takes r o) _ _ _ (λ e. one (closed_block (with r o))) (λ e. one refl)))

  -- "the block holds the octets taken": behind what it held stand the first octets of the piece
  pub fed_octets : (r : Reading) (os : List ℕ) → (fed R r os).block ≡ r.block ++ take (length (fed R r os).block - length r.block) os
  unfolding fed
  fed_octets r [] = sym (ap (λ (l : List ℕ). r.block ++ l) (take-nil (length r.block - length r.block)) ∙ append-nil r.block)
  fed_octets r (o ∷ os) = choose (step_takes r o) (fed_octets (step R r o) os)
    where
      choose : Takes r o (step R r o)
          → (fed R (step R r o) os).block ≡ (step R r o).block ++ take (length (fed R (step R r o) os).block - length (step R r o).block) os
          → (fed R (step R r o) os).block ≡ r.block ++ take (length (fed R (step R r o) os).block - length r.block) (o ∷ os)
      choose (none e g) h =
          let z : length r.block - length r.block ≡ 0 = omega arith in
          rw (still R (step R r o) g os, e, z) (sym (append-nil r.block))
      choose (one e) h =
          let F = (fed R (step R r o) os).block in
          let k = length F - length (step R r o).block in
          let n = length-append r.block (o ∷ []) in
          let m = length-append (step R r o).block (take k os) in
          let j : suc k ≡ length F - length r.block = omega (arith, ap length e, ap length h, n, m) in
          h ∙ ap (λ (b : List ℕ). b ++ take k os) e ∙ append_snoc r.block o (take k os) ∙ ap (λ (i : ℕ). r.block ++ take i (o ∷ os)) j

  -- a reading from its beginning that took as many octets as there are took them all
  pub fed_whole : (status : Bool) (os : List ℕ) → length (fed R (begun status) os).block ≡ length os → (fed R (begun status) os).block ≡ os
  fed_whole status os e = fed_octets (begun status) os ∙ take_all (length (fed R (begun status) os).block - 0) os (omega (arith, e))
