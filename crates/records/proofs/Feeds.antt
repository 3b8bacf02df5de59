-- What a feed takes and leaves, of a map and loans that its first checks pass. Assumes nothing.
use Rattle.std.specs.Prelude.{Err, Ok, Result}
use mathlib.Core.Path.{◌≡◌, refl, sym, ap, ◌∙◌, subst}
use mathlib.Core.Bool.{true, false}
use mathlib.Core.List.{List, [], ◌∷◌, ◌++◌}
use Prim.Native.Nat.{ℕ, zero, suc, ◌-◌, ◌≤◌, ◌<◌}
use native.Mathlib.Omega.{arith}
use lib.ListN.{length, take, drop, take-append-drop, length-take}
use lib.Seq.{length-take-le}
use Rattle.leaves.specs.Paste.{lay}
use Rattle.leaves.specs.declared.refusals.Refusal.{Refusal}
use Rattle.maps.specs.Good.{Ready, good, checked_reading, checked_done}
use Rattle.maps.specs.Maps.{empty, Given}
use Rattle.maps.specs.declared.Field.{Field}
use Rattle.maps.specs.declared.Phase.TheVariants.{Done}
use Rattle.maps.specs.declared.HeaderMap.{HeaderMap}
use Rattle.maps.proofs.GoodBy.{good_facts, good_empty, rooms_by}
use Rattle.maps.proofs.GoodLaws.{ready_of, checked_fine}
use Rattle.line_reader.specs.Reading.{Rules, Gathered, Reading, goes, step, fed}
use Rattle.reader.specs.Calls.{map_of, gives, feeding}
use Rattle.line_reader.specs.Standing.{rules_of, reading_of}
use Rattle.line_reader.specs.declared.Answer.{Answer}
use Rattle.line_reader.specs.declared.Answer.TheVariants.{More, Blank, Input}
use Rattle.reader.specs.declared.Fed.{Fed}
use Rattle.reader.proofs.FedLaws.{fed_none, fed_more, taken_within}
use Rattle.walker.specs.Walk.{emptied}
use Rattle.readings.proofs.Kept.{Later, fed_later, sound_of, good_of, lent_of}
use Rattle.readings.proofs.Cut.{fed_goes, cut_ended}
use Rattle.records.proofs.Growth.{Same, Reaches, fed_reaches, fed_untaken}

-- what a list has of itself is laid over it without a change
lay_own {ℓ} : {A : Type ℓ} (n : ℕ) (l : List A) → lay l (take n l) ≡ l
lay_own zero l = refl
lay_own (suc n) [] = refl
lay_own (suc n) (x ∷ xs) = ap (λ (l : List _). x ∷ l) (lay_own n xs)

fed_cut : (R : Rules) (r : Reading) (xs ys : List ℕ) → fed R r (xs ++ ys) ≡ fed R (fed R r xs) ys
fed_cut R r [] ys = ap (λ (q : Reading). fed R q ys) (sym (fed_none R r))
fed_cut R r (x ∷ xs) ys = fed_more R r x (xs ++ ys) ∙ fed_cut R (step R r x) xs ys ∙ ap (λ (q : Reading). fed R q ys) (sym (fed_more R r x xs))

-- a good map is one still when it is emptied
pub emptied_good : (m : HeaderMap) → good m ≡ true → good (emptied m) ≡ true
emptied_good m h =
    let f = good_facts m h in
    good_empty m.limit m.room (rooms_by _ _ f.small f.least f.most) m.table false false Done

-- a feed from which the map, once emptied, and the loans are these
pub record Empties (m : HeaderMap) (b s : List ℕ) (g : Given Fed) : Type 0 where
  pub map : emptied g.result.map ≡ emptied m
  pub block : g.block ≡ b
  pub store : g.store ≡ s

module _ (m : HeaderMap) (b s : List ℕ) (fine : Ok tt ≡ checked_reading m b s) where
  ready : Ready m b s
  ready = ready_of _ m b s fine

  pub count_is : length (take m.count b) ≡ m.count
  count_is = length-take-le m.count b (omega (arith, ready.count, ready.block))

  -- a feed of no octets leaves the loans, and the map's table and rooms
  pub fed_nothing : Empties m b s (feeding m b s [])
  fed_nothing =
      subst (Empties m b s) (sym (fed_goes m b s [] fine ∙ ap (gives m b s) (fed_none (rules_of m) (reading_of m b s))))
      (record { map = ap (λ (t : List Field). empty t m.limit m.room false false Done) (lay_own m.fields m.table); block = lay_own m.count b; store = lay_own m.mark s })

  module _ (xs : List ℕ) where
    abbrev Q : Reading
    Q = fed (rules_of m) (reading_of m b s) xs

    abbrev taken : ℕ
    taken = length Q.block - m.count

    pub within : taken ≤ length xs
    within = subst (λ (g : Given Fed). g.result.taken ≤ length xs) (fed_goes m b s xs fine) (taken_within m b s xs)

    pub later : Later (rules_of m) (reading_of m b s) Q
    later = fed_later (rules_of m) (reading_of m b s) xs (sound_of m b s ready)

    pub reached : (a : Result Answer Refusal) → Q.answer ≡ a → Reaches m.count (length xs) (length Q.block) a
    reached a e = rw count_is at (subst (Reaches (length (take m.count b)) (length xs) (length Q.block)) e (fed_reaches (rules_of m) (reading_of m b s) xs refl))

    pub fed_good : (a : Result Answer Refusal) → good (map_of m Q a) ≡ true
    fed_good a = good_of m b s ready Q a later.sound

    -- the map of a reading that ended at its blank line is one that every call but feed and finish takes
    pub done : Ok tt ≡ checked_done (map_of m Q (Ok Blank)) (lay b Q.block) (lay s Q.found.store)
    done =
        checked_fine _ (map_of m Q (Ok Blank)) (length (lay b Q.block)) (length (lay s Q.found.store))
        (fed_good (Ok Blank)) (lent_of m b s ready Q (Ok Blank)) refl

  module _ (xs : List ℕ) where
    abbrev few : List ℕ
    few = take (taken xs) xs

    abbrev rest : List ℕ
    rest = drop (taken xs) xs

    abbrev T : Type 0
    T = feeding m b s few ≡ feeding m b s xs

    ended : goes (Q few).answer ≡ false → T
    ended f =
        sym (cut_ended m b s few rest (ap (λ (g : Given Fed). goes g.result.answer) (fed_goes m b s few fine) ∙ f)) ∙
        ap (feeding m b s) (take-append-drop (taken xs) xs)

    on : Q xs ≡ fed (rules_of m) (Q few) rest
    on = ap (fed (rules_of m) (reading_of m b s)) (sym (take-append-drop (taken xs) xs)) ∙ fed_cut (rules_of m) (reading_of m b s) few rest

    further : (Q few).answer ≡ Ok More → (Q xs).answer ≡ Ok Blank → length (Q few).block < length (Q xs).block
    further f e =
        subst (Reaches (length (Q few).block) (length rest) (length (Q xs).block)) e
        (subst (λ (q : Reading). Reaches (length (Q few).block) (length rest) (length q.block) q.answer) (sym on) (fed_reaches (rules_of m) (Q few) rest f))

    -- a feed that ended at its blank line is one of the octets that it took
    pub taken_enough : (Q xs).answer ≡ Ok Blank → T
    taken_enough e = choose (Q few).answer refl
      where
        choose : (a : Result Answer Refusal) → (Q few).answer ≡ a → T
        choose (Ok More) f = absurd (omega (arith, further f e, within xs, length-take (taken xs) xs, reached few (Ok More) f))
        choose (Ok Blank) f = ended (ap goes f)
        choose (Ok Input) f = ended (ap goes f)
        choose (Err x) f = ended (ap goes f)

    untaken : (Q few).answer ≡ Ok More → (x : Refusal) → (Q xs).answer ≡ Err x → Same (Q few) (Q xs)
    untaken f x e =
        subst (Same (Q few)) (sym on)
        (fed_untaken (rules_of m) (Q few) rest f
        (ap (λ (q : Reading). length q.block) (sym on) ∙ omega (arith, within xs, length-take (taken xs) xs, reached few (Ok More) f, (reached xs (Err x) e).0)))

    -- what a feed gave that was refused by x
    abbrev Emptied : Refusal → Given Fed → Type 0
    Emptied x g = Empties (map_of m (Q xs) (Err x)) (lay b (Q xs).block) (lay s (Q xs).found.store) g

    -- and one that was refused leaves what one of the octets that it took leaves, once the map is emptied
    pub taken_refused : (x : Refusal) → (Q xs).answer ≡ Err x → Emptied x (feeding m b s few)
    taken_refused x e = choose (Q few).answer refl
      where
        gave : Reading → Result Answer Refusal → Given Fed
        gave q a = record { result = record { map = map_of m q a; taken = length q.block - m.count; answer = a }; block = lay b q.block; store = lay s q.found.store }

        whole : T → Emptied x (feeding m b s few)
        whole h =
            subst (Emptied x) (sym (h ∙ fed_goes m b s xs fine ∙ ap (gave (Q xs)) e))
            (record { map = refl; block = refl; store = refl })

        choose : (a : Result Answer Refusal) → (Q few).answer ≡ a → Emptied x (feeding m b s few)
        choose (Ok More) f =
            let h = untaken f x e in
            subst (Emptied x) (sym (fed_goes m b s few fine ∙ ap (gave (Q few)) f))
            (record {
              map = ap (λ (d : Gathered). empty (lay m.table d.fields) m.limit m.room false false Done) (sym h.found);
              block = ap (lay b) (sym h.block);
              store = ap (λ (d : Gathered). lay s d.store) (sym h.found);
            })
        choose (Ok Blank) f = whole (ended (ap goes f))
        choose (Ok Input) f = whole (ended (ap goes f))
        choose (Err y) f = whole (ended (ap goes f))
