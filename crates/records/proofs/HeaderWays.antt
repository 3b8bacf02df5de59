-- What the page says of a walk that reads octets of a header. Assumes nothing.
use Rattle.leaves.specs.declared.refusals.Refusal.{Refusal}
use Rattle.std.specs.Prelude.{Err, Ok, Result}
use mathlib.Core.Path.{◌≡◌, refl, sym, ap, ◌∙◌, subst}
use mathlib.Core.Bool.{true}
use mathlib.Core.List.{List, ◌∷◌}
use Prim.Native.Nat.{ℕ, ◌+◌, ◌-◌, ◌≤◌, ◌<◌, min}
use native.Mathlib.Omega.{arith}
use lib.ListN.{length, take, drop}
use lib.Seq.{take-take}
use Rattle.leaves.specs.Paste.{lay}
use Rattle.leaves.specs.Refusals.{refusal}
use Rattle.leaves.proofs.LayLaws.{lay_rest}
use Rattle.maps.specs.Good.{good, checked_reading}
use Rattle.maps.specs.Maps.{Given}
use Rattle.maps.specs.Said.{saying}
use Rattle.maps.specs.declared.HeaderMap.{HeaderMap}
use Rattle.line_reader.specs.Reading.{Reading, fed}
use Rattle.reader.specs.Calls.{map_of, feeding}
use Rattle.line_reader.specs.Standing.{rules_of, reading_of}
use Rattle.line_reader.specs.declared.Answer.{Answer}
use Rattle.line_reader.specs.declared.Answer.TheVariants.{More, Blank, Input}
use Rattle.reader.specs.declared.Fed.{Fed}
use Rattle.readings.proofs.Cut.{fed_goes}
use Rattle.openings.specs.Opening.{opened}
use Rattle.openings.proofs.OpenLaws.{opening_goes}
use Rattle.walker.specs.Walk.{furthest, walked, fresh, emptied, allowed, opened_at, header_more, header_by, header_read}
use Rattle.walker.specs.Answers.{told}
use Rattle.walker.specs.declared.Stage.TheVariants.{Between, Header, Stopped}
use Rattle.walker.specs.declared.Walker.{Walker}
use Rattle.walker.specs.declared.Walked.{Walked}
use Rattle.walker.proofs.WalkLaws.{allowed_is, header_read_is, by_more}
use Rattle.records.specs.Stages.{heading, Leaves, Follows}
use Rattle.records.specs.Walks.{InHeader, AfterWalk}
use Rattle.records.proofs.Reach.{takes_allowed}
use Rattle.records.proofs.Feeds.{emptied_good, within, later, reached, fed_good, done, taken_enough, taken_refused}
use Rattle.records.proofs.HeaderOctets.{opened_refused}
use Rattle.records.proofs.Ways.{Plain, plain_header, Numbers, plain_numbers, apart, in_header}

-- the map m is that of the header
pub record Reads (w : Walker) (m : HeaderMap) (b s p : List ℕ) (g : Given Walked) : Type 0 where
  pub block : drop m.limit g.block ≡ drop m.limit b
  pub store : drop m.room g.store ≡ drop m.room s
  pub is_good : good g.result.walker.map ≡ true
  pub header : InHeader g (feeding m b s (take g.result.taken p))
  pub numbers : Numbers w p g.result

module _ (w : Walker) (m : HeaderMap) (start : ℕ) (b s p : List ℕ) (fine : Ok tt ≡ checked_reading m b s) where
  abbrev k : ℕ
  k = allowed w.position (length p)

  abbrev Q : Reading
  Q = fed (rules_of m) (reading_of m b s) (take k p)

  abbrev taken : ℕ
  taken = length Q.block - m.count

  abbrev B : List ℕ
  B = lay b Q.block

  abbrev S : List ℕ
  S = lay s Q.found.store

  -- what the reader's feed gave, by its answer
  abbrev gave : Result Answer Refusal → Given Fed
  gave a = record { result = record { map = map_of m Q a; taken = taken; answer = a }; block = B; store = S }

  abbrev left : Walked → Given Walked
  left r = record { result = r; block = B; store = S }

  k_is : k ≡ min (length p) (furthest - w.position)
  k_is = allowed_is w.position (length p)

  takes : length (take k p) ≡ k
  takes = takes_allowed w.position p

  near : taken ≤ furthest - w.position
  near = omega (arith, within m b s fine (take k p), takes, k_is)

  few_is : take taken (take k p) ≡ take taken p
  few_is = take-take taken k p (omega (arith, within m b s fine (take k p), takes))

  fair : (a : Result Answer Refusal) → good (map_of m Q a) ≡ true
  fair = fed_good m b s fine (take k p)

  -- a feed of the octets that were taken gives the same
  gave_is : (a : Result Answer Refusal) → Q.answer ≡ a → feeding m b s (take taken (take k p)) ≡ feeding m b s (take k p) → feeding m b s (take taken p) ≡ gave a
  gave_is a e h =
      ap (feeding m b s) (sym few_is) ∙ h ∙ fed_goes m b s (take k p) fine ∙ ap gave e

  reads : (r : Walked) → r.taken ≡ taken → good r.walker.map ≡ true → InHeader (left r) (feeding m b s (take taken p)) → Numbers w p r → Reads w m b s p (left r)
  reads r same fair h n =
      let z = (later m b s fine (take k p)).sound in
      record {
        block = lay_rest b Q.block m.limit z.limit;
        store = lay_rest s Q.found.store m.room z.room;
        is_good = fair;
        header = subst (λ (n : ℕ). InHeader (left r) (feeding m b s (take n p))) (sym same) h;
        numbers = n;
      }

  -- a walk that leaves what a feed does, with the map emptied
  abbrev Empty : Walked → Given Fed → Type 0
  Empty r f = Leaves (emptied f.result.map) f.block f.store (left r)

  -- an answer that is no number from 9 on
  plain : (r : Walked) → r.taken ≡ taken → good r.walker.map ≡ true → Follows r.step r.walker → Plain (told r.step)
      → (3 < told r.step → told r.step < 7 → Empty r (feeding m b s (take taken p)))
      → Reads w m b s p (left r)
  plain r same fair follows h u = reads r same fair (plain_header _ _ h u) (plain_numbers w p r follows (omega (arith, near, same)) h)

  abbrev T : Walked → Type 0
  T r = Reads w m b s p (left r)

  abbrev far : Walked
  far = walked (emptied (map_of m Q (Ok More))) (w.position + taken) w.rest (Stopped (refusal 13)) start taken (Err (refusal 13))

  more_reads : Q.answer ≡ Ok More → T (header_more (map_of m Q (Ok More)) (w.position + taken) w.rest start taken k (length p))
  more_reads e =
      by_more T w (map_of m Q (Ok More)) (w.position + taken) w.rest start taken k (length p)
      (λ d.
      let all : taken ≡ k = omega (arith, reached m b s fine (take k p) (Ok More) e, takes) in
      reads far refl (emptied_good (map_of m Q (Ok More)) (fair (Ok More)))
      (record {
        four_to_six = λ i j. absurd (omega arith);
        nine = λ f. absurd (omega arith);
        ten = λ f. absurd (omega arith);
        thirteen =
            λ _.
            subst (Empty far)
            (sym (gave_is (Ok More) e (ap (λ (n : ℕ). feeding m b s (take n (take k p))) all ∙ ap (feeding m b s) (take-take k k p (omega arith)))))
            (record { map = refl; block = refl; store = refl });
      })
      (record {
        follows = refl;
        near = near;
        thirteen = λ _. (omega (arith, all, k_is), omega (arith, all));
        eleven = λ f. absurd (omega arith);
      }))
      (λ _. plain _ refl (fair (Ok More)) refl (λ j h i f. omega arith) (λ i j. absurd (omega arith)))

  opened_reads : Q.answer ≡ Ok Blank → (o : Result (ℕ × ℕ) Refusal) → opened (saying (map_of m Q (Ok Blank)) B S) ≡ o
      → T (opened_at (map_of m Q (Ok Blank)) (w.position + taken) w.rest start taken o)
  opened_reads e (Ok (size, kind)) f = plain _ refl (fair (Ok Blank)) (refl, refl, refl, refl) (λ j h i f. omega arith) (λ i j. absurd (omega arith))
  opened_reads e (Err x) f =
      let low = opened_refused (saying (map_of m Q (Ok Blank)) B S) x f in
      reads _ refl (fair (Ok Blank))
      (record { four_to_six = λ i j. absurd (omega (arith, low.0)); nine = λ _. ended; ten = λ _. ended; thirteen = λ f. absurd (omega (arith, low.1)) })
      (record { follows = refl; near = near; thirteen = λ f. absurd (omega (arith, low.1)); eleven = λ f. absurd (omega (arith, low.1)) })
    where
      ended : ((feeding m b s (take taken p)).result.answer ≡ Ok Blank)
          × Leaves (feeding m b s (take taken p)).result.map (feeding m b s (take taken p)).block (feeding m b s (take taken p)).store
          (left (opened_at (map_of m Q (Ok Blank)) (w.position + taken) w.rest start taken (Err x)))
      ended = rw (gave_is (Ok Blank) e (taken_enough m b s fine (take k p) e)) (refl, record { map = refl; block = refl; store = refl })

  by_answer : (a : Result Answer Refusal) → Q.answer ≡ a → T (header_by a (map_of m Q a) (w.position + taken) w.rest start taken k (length p) B S)
  by_answer (Ok More) e = more_reads e
  by_answer (Ok Blank) e = rw (opening_goes (map_of m Q (Ok Blank)) B S (done m b s fine (take k p))) (opened_reads e (opened (saying (map_of m Q (Ok Blank)) B S)) refl)
  by_answer (Ok Input) e = absurd (reached m b s fine (take k p) (Ok Input) e)
  by_answer (Err x) e =
      let low = (reached m b s fine (take k p) (Err x) e).1 in
      let g = taken_refused m b s fine (take k p) x e in
      plain _ refl (fair (Err x)) refl (λ j h i f. omega arith)
      (λ _ _.
      subst (Empty (walked (map_of m Q (Err x)) (w.position + taken) w.rest (Stopped x) start taken (Err x))) (ap (feeding m b s) few_is)
      (record { map = sym g.map; block = sym g.block; store = sym g.store }))

  pub read_after : Reads w m b s p (header_read w m start k b s p)
  read_after = rw (header_read_is w m start k b s p, fed_goes m b s (take k p) fine) (by_answer Q.answer refl)

-- a header that goes on, and one that begins
module _ (w : Walker) (b s : List ℕ) (x : ℕ) (xs : List ℕ) (g : Given Walked) (near : w.position < furthest) where
  pub reads_on : w.stage ≡ Header → Reads w w.map b s (x ∷ xs) g → AfterWalk w b s (x ∷ xs) g
  reads_on t r = in_header w b s x xs g r.block r.store (ap heading t) r.is_good r.numbers (λ h. absurd (omega arith)) (λ h. apart t h) (λ _. r.header) (λ h. apart t h)

  pub begins : w.stage ≡ Between → Reads w (fresh w.map) b s (x ∷ xs) g → AfterWalk w b s (x ∷ xs) g
  begins t r = in_header w b s x xs g r.block r.store (ap heading t) r.is_good r.numbers (λ h. absurd (omega arith)) (λ _. near) (λ h. apart h t) (λ _. r.header)
