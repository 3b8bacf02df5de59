-- What the walker's calls give, case by case. Assumes nothing.
use Rattle.std.specs.Prelude.{Err, Ok, Result, ⊤}
use mathlib.Core.Path.{◌≡◌, refl, sym, ap, ◌∙◌, subst}
use mathlib.Core.Bool.{Bool, true, false}
use mathlib.Core.List.{List, [], ◌∷◌}
use Prim.Native.Nat.{ℕ, suc, ◌+◌, ◌-◌, ◌≤◌, ◌<◌, min}
use native.Mathlib.Omega.{arith}
use native.Mathlib.Numerals.{add-one}
use borrow.Author.Tests.{lt-ltb, le-ltb, eq-eqb, ne_eqb, eqb-true, eqb-false, ltb-true, ltb-false}
use lib.Dec.{eqb, ltb}
use lib.ListN.{length, get_or, take, drop, drop_of_length-le, length-take, length-drop}
use lib.Seq.{drop-cons}
use Rattle.leaves.specs.Choice.{when◌then◌else◌}
use Rattle.leaves.proofs.ChoiceLaws.{by_if, if_true, if_false}
use Rattle.leaves.specs.declared.refusals.Refusal.{Refusal}
use Rattle.leaves.specs.declared.refusals.Refusal.TheVariants.{ShortLoan, BadMap, WrongPhase, BadTrailer, TooFar}
use Rattle.maps.specs.Good.{default_limit, good, lent, checked, unless}
use Rattle.maps.specs.Maps.{empty, Given, Is}
use Rattle.maps.specs.declared.Phase.TheVariants.{Reading, Done}
use Rattle.maps.specs.declared.HeaderMap.{HeaderMap}
use Rattle.maps.proofs.GoodLaws.{goes_on, refused_by, not_refused, checked_bad, checked_short, checked_wrong, checked_fine}
use Rattle.reader.specs.Calls.{checked_rooms, beginning, makes, feeding}
use Rattle.reader.specs.declared.Fed.{Fed}
use Rattle.leaves.proofs.PasteLaws.{tail_all}
use Rattle.reader.specs.declared.Made.{Made}
use Rattle.openings.specs.Opening.{longest}
use Rattle.walker.specs.Walk.{furthest, trailer, trailer_walked, rest_walked, fresh, stops_inside, header_more, header_by, header_gives, header_read, between_walked, header_walked, emptied, walked, stands, stops_at, keeps, starting, ready_at, checked_walker, allowed, body_walked, common, onward, trailer_stage, trailer_ended, resting, stage_ended, walked_on, stage_walked, walking, ending}
use Rattle.walker.specs.declared.Stage.{Stage}
use Rattle.walker.specs.declared.Stage.TheVariants.{Between, Header, Body, Stopped}
use Rattle.walker.specs.declared.Step.TheVariants.{More, Body as Part, End}
use Rattle.walker.specs.declared.Walker.{Walker}
use Rattle.walker.specs.declared.Walked.{Walked}

-- the octets that may be taken
module _ (position n : ℕ) where
  pub allowed_before : position < furthest → (r : ℕ) → r ≡ min n (furthest - position) → r ≡ allowed position n
  unfolding allowed
  allowed_before h r e = e

  pub allowed_behind : furthest ≤ position → 0 ≡ allowed position n
  unfolding allowed
  allowed_behind h = omega arith

  pub allowed_is : allowed position n ≡ min n (furthest - position)
  unfolding allowed
  allowed_is = refl

  pub allowed_within : allowed position n ≤ n
  unfolding allowed
  allowed_within = omega arith

  pub allowed_all : position ≤ 18446744073709551615 → (k : ℕ) → k ≡ allowed position n → position + k ≤ 18446744073709551615
  unfolding allowed
  allowed_all h k e = omega arith

-- the first checks
module _ (w : Walker) (b s : ℕ) where
  pub rest_over : longest < w.rest → Err BadMap ≡ checked_walker w b s
  unfolding checked_walker
  rest_over h = sym (if_true _ _ (lt-ltb _ _ h))

  pub rest_fine : w.rest ≤ longest → (r : Bool) → r ≡ ready_at w.stage w.map.phase → (c : Result ⊤ Refusal) → c ≡ checked r w.map b s → c ≡ checked_walker w b s
  unfolding checked_walker
  rest_fine h r e c f = f ∙ ap (λ (t : Bool). checked t w.map b s) e ∙ sym (if_false _ _ (le-ltb _ _ h))

-- they give 2, 3 or 7
module _ (P : Refusal → Type 0) (two : P ShortLoan) (three : P BadMap) (seven : P WrongPhase) where
  checked_gives : (ready : Bool) (m : HeaderMap) (b s : ℕ) (x : Refusal) → Err x ≡ checked ready m b s → P x
  checked_gives ready m b s x e = by (good m) refl (lent m b s) refl ready refl
    where
      same : (y : Refusal) → Err y ≡ checked ready m b s → P y → P x
      same y f h = let z : y ≡ x = cc in subst P z h

      by : (g : Bool) → good m ≡ g → (l : Bool) → lent m b s ≡ l → (r : Bool) → ready ≡ r → P x
      by false d l f r h = same BadMap (checked_bad ready m b s d) three
      by true d false f r h = same ShortLoan (checked_short ready m b s d f) two
      by true d true f false h = same WrongPhase (checked_wrong ready m b s d f h) seven
      by true d true f true h = not_refused x (checked_fine ready m b s d f h ∙ sym e)

  pub checks_give : (w : Walker) (b s : ℕ) (x : Refusal) → Err x ≡ checked_walker w b s → P x
  checks_give w b s x e = by (ltb longest w.rest) refl
    where
      by : (t : Bool) → ltb longest w.rest ≡ t → P x
      by true f =
          let h = rest_over w b s (ltb-true longest w.rest f) in
          let z : BadMap ≡ x = cc in
          subst P z three
      by false f = checked_gives _ w.map b s x (e ∙ sym (rest_fine w b s (ltb-false longest w.rest f) _ refl _ refl))

-- a body
module _ (w : Walker) (k : ℕ) where
  pub body_far : k ≡ 0 → stops_at w TooFar ≡ body_walked w k
  unfolding body_walked
  body_far h = sym (if_true _ _ (eq-eqb _ _ h))

  pub body_part_lem : (k ≡ 0 → ⊥) → (n : ℕ) → n ≡ min k w.rest → walked w.map (w.position + n) (w.rest - n) Body w.start n (Ok Part) ≡ body_walked w k
  unfolding body_walked
  body_part_lem h n e = ap (λ (j : ℕ). walked w.map (w.position + j) (w.rest - j) Body w.start j (Ok Part)) e ∙ sym (if_false _ _ (ne_eqb _ _ h))

-- what two texts have in common
module _ (x y : List ℕ) (i : ℕ) where
  pub common_more : i < length x → i < length y → get_or x i 0 ≡ get_or y i 0 → common (drop i x) (drop i y) ≡ suc (common (drop (i + 1) x) (drop (i + 1) y))
  unfolding common
  common_more h k e = rw (add-one, drop-cons x i 0 h, drop-cons y i 0 k) (if_true _ _ (eq-eqb _ _ e))

  pub common_differs : i < length x → i < length y → (get_or x i 0 ≡ get_or y i 0 → ⊥) → common (drop i x) (drop i y) ≡ 0
  unfolding common
  common_differs h k e = rw (drop-cons x i 0 h, drop-cons y i 0 k) (if_false _ _ (ne_eqb _ _ e))

  pub common_short : i < length x → length y ≤ i → common (drop i x) (drop i y) ≡ 0
  unfolding common
  common_short h k = rw (drop-cons x i 0 h, drop_of_length-le y k)

  pub common_end : length x ≤ i → common (drop i x) (drop i y) ≡ 0
  unfolding common
  common_end h = rw (drop_of_length-le x h)

  pub common_over : min (length x) (length y) ≤ i → common (drop i x) (drop i y) ≡ 0
  common_over h = choose (ltb i (length x)) refl
    where
      choose : (t : Bool) → ltb i (length x) ≡ t → common (drop i x) (drop i y) ≡ 0
      choose true e = let k = ltb-true i (length x) e in common_short k (omega (arith, h, k))
      choose false e = common_end (ltb-false i (length x) e)

module _ (x y : ℕ) (xs ys : List ℕ) where
  pub common_same : x ≡ y → common (x ∷ xs) (y ∷ ys) ≡ suc (common xs ys)
  common_same e = common_more (x ∷ xs) (y ∷ ys) 0 (omega arith) (omega arith) e

  pub common_other : (x ≡ y → ⊥) → common (x ∷ xs) (y ∷ ys) ≡ 0
  common_other e = common_differs (x ∷ xs) (y ∷ ys) 0 (omega arith) (omega arith) e

-- they are the same octets
pub common_takes : (x y : List ℕ) → take (common x y) x ≡ take (common x y) y
common_takes [] y = rw (common_end [] y 0 (omega arith))
common_takes (x ∷ xs) [] = rw (common_short (x ∷ xs) [] 0 (omega arith) (omega arith))
common_takes (x ∷ xs) (y ∷ ys) = choose (eqb x y) refl (common_takes xs ys)
  where
    choose : (t : Bool) → eqb x y ≡ t → take (common xs ys) xs ≡ take (common xs ys) ys
        → take (common (x ∷ xs) (y ∷ ys)) (x ∷ xs) ≡ take (common (x ∷ xs) (y ∷ ys)) (y ∷ ys)
    choose true e ih = let z : x ≡ y = eqb-true x y e in rw (common_same x y xs ys z, z, ih)
    choose false e ih = rw (common_other x y xs ys (eqb-false x y e))

-- and the next one is another
pub common_stops : (x y : List ℕ) → common x y < length x → common x y < length y → get_or x (common x y) 0 ≡ get_or y (common x y) 0 → ⊥
common_stops [] y h i e = omega arith
common_stops (x ∷ xs) [] h i e = omega arith
common_stops (x ∷ xs) (y ∷ ys) h i e = choose (eqb x y) refl (common_stops xs ys)
  where
    choose : (t : Bool) → eqb x y ≡ t → (common xs ys < length xs → common xs ys < length ys → get_or xs (common xs ys) 0 ≡ get_or ys (common xs ys) 0 → ⊥) → ⊥
    choose true f ih = let c = common_same x y xs ys (eqb-true x y f) in ih (omega (arith, c, h)) (omega (arith, c, i)) (rw c at e)
    choose false f ih = let c = common_other x y xs ys (eqb-false x y f) in eqb-false x y f (rw c at e)

pub common_within : (x y : List ℕ) → (common x y ≤ length x) × (common x y ≤ length y)
unfolding common
common_within [] q = (omega arith, omega arith)
common_within (x ∷ xs) [] = (omega arith, omega arith)
common_within (x ∷ xs) (y ∷ ys) = choose (eqb x y) refl (common_within xs ys)
  where
    choose : (t : Bool) → eqb x y ≡ t → (common xs ys ≤ length xs) × (common xs ys ≤ length ys)
        → ((when eqb x y then suc (common xs ys) else 0) ≤ suc (length xs)) × ((when eqb x y then suc (common xs ys) else 0) ≤ suc (length ys))
    choose true e ih =
        let z : (when eqb x y then suc (common xs ys) else 0) ≡ suc (common xs ys) = if_true _ _ e in
        let u = ih.0 in
        let v = ih.1 in
        (omega (arith, z, u), omega (arith, z, v))
    choose false e ih =
        let z : (when eqb x y then suc (common xs ys) else 0) ≡ 0 = if_false _ _ e in
        (omega (arith, z), omega (arith, z))

-- the end of a trailer
module _ (w : Walker) (past k n same : ℕ) where
  pub trailer_whole : past + same ≡ 4 → onward w Between same (Ok More) ≡ trailer_ended w past k n same
  unfolding trailer_ended
  trailer_whole h = sym (if_true _ _ (eq-eqb _ _ h))

  module _ (h : past + same ≡ 4 → ⊥) where
    pub trailer_differs : same < k → onward w (Stopped BadTrailer) same (Err BadTrailer) ≡ trailer_ended w past k n same
    unfolding trailer_ended
    trailer_differs i = sym (if_false _ _ (ne_eqb _ _ h) ∙ if_true _ _ (lt-ltb _ _ i))

    pub trailer_far : k ≤ same → k < n → onward w (Stopped TooFar) same (Err TooFar) ≡ trailer_ended w past k n same
    unfolding trailer_ended
    trailer_far i j = sym (if_false _ _ (ne_eqb _ _ h) ∙ if_false _ _ (le-ltb _ _ i) ∙ if_true _ _ (lt-ltb _ _ j))

    pub trailer_more : k ≤ same → n ≤ k → (t : Stage) → t ≡ trailer_stage (past + same) → onward w t same (Ok More) ≡ trailer_ended w past k n same
    unfolding trailer_ended
    trailer_more i j t e = ap (λ (u : Stage). onward w u same (Ok More)) e ∙ sym (if_false _ _ (ne_eqb _ _ h) ∙ if_false _ _ (le-ltb _ _ i) ∙ if_false _ _ (le-ltb _ _ j))

-- a walker's start
module _ (m : HeaderMap) (room position : ℕ) (b s : List ℕ) where
  pub starting_goes : Ok tt ≡ checked_rooms default_limit room (length b) (length s)
      → starting m room position b s ≡ keeps b s (walked (empty m.table default_limit room false false Done) position 0 Between position 0 (Ok More))
  unfolding starting
  starting_goes e = goes_on _ _ _ e

  pub starting_stops : (x : Refusal) → Err x ≡ checked_rooms default_limit room (length b) (length s)
      → starting m room position b s ≡ keeps b s (walked m position 0 (Stopped x) position 0 (Err x))
  unfolding starting
  starting_stops x e = refused_by _ _ _ x e

  start_by : (c : Result ⊤ Refusal) → c ≡ checked_rooms default_limit room (length b) (length s)
      → (r : Made) → r ≡ (unless c (λ e. makes b s m (Err e)) (makes b s (empty m.table default_limit room false false Reading) (Ok tt))).result
      → r.answer ≡ Ok tt → (q : HeaderMap) → q ≡ emptied r.map
      → Is (starting m room position b s) (walked q position 0 Between position 0 (Ok More)) b s
  unfolding starting
  start_by (Ok _) e r f g q h =
      let z : q ≡ empty m.table default_limit room false false Done = h ∙ ap (λ (x : Made). emptied x.map) f in
      rw (sym e, z) (record { result = refl; block = refl; store = refl })
  start_by (Err x) e r f g q h = apart x (sym (ap (λ (y : Made). y.answer) f) ∙ g)
    where
      apart : {A : Type 0} (y : Refusal) → Err y ≡ Ok (tt {0}) → A
      apart y u = let z : ◌≡◌ {A = ℕ} 0 1 = cc in absurd (omega arith)

  pub starts : (r : Made) → r ≡ (beginning m default_limit room false false b s).result → r.answer ≡ Ok tt → (q : HeaderMap) → q ≡ emptied r.map
      → Is (starting m room position b s) (walked q position 0 Between position 0 (Ok More)) b s
  unfolding beginning
  starts r f g q h = start_by (checked_rooms default_limit room (length b) (length s)) refl r f g q h

  refuse_by : (c : Result ⊤ Refusal) → c ≡ checked_rooms default_limit room (length b) (length s)
      → (r : Made) → r ≡ (unless c (λ e. makes b s m (Err e)) (makes b s (empty m.table default_limit room false false Reading) (Ok tt))).result
      → (x : Refusal) → r.answer ≡ Err x → Is (starting m room position b s) (walked m position 0 (Stopped x) position 0 (Err x)) b s
  unfolding starting
  refuse_by (Ok _) e r f x g = apart x (sym (ap (λ (y : Made). y.answer) f) ∙ g)
    where
      apart : {A : Type 0} (y : Refusal) → Ok (tt {0}) ≡ Err y → A
      apart y u = let z : ◌≡◌ {A = ℕ} 0 1 = cc in absurd (omega arith)
  refuse_by (Err y) e r f x g =
      let u : Err y ≡ Err x = sym (ap (λ (d : Made). d.answer) f) ∙ g in
      let z : y ≡ x = cc in
      rw (sym e, z) (record { result = refl; block = refl; store = refl })

  pub start_refused : (r : Made) → r ≡ (beginning m default_limit room false false b s).result → (x : Refusal) → r.answer ≡ Err x
      → Is (starting m room position b s) (walked m position 0 (Stopped x) position 0 (Err x)) b s
  unfolding beginning
  start_refused r f x g = refuse_by (checked_rooms default_limit room (length b) (length s)) refl r f x g

-- the end of input
module _ (w : Walker) (b s : List ℕ) where
  pub end_rests : (r : Result Bool Refusal) → r ≡ resting w.stage → (e : Refusal) → r ≡ Err e → Is (ending w b s) (stands w (Err e)) b s
  unfolding ending
  end_rests r f e g = rw (sym f ∙ g) (record { result = refl; block = refl; store = refl })

  pub end_over : (r : Result Bool Refusal) → r ≡ resting w.stage → r ≡ Ok false → Is (ending w b s) (stands w (Ok End)) b s
  unfolding ending
  end_over r f g = rw (sym f ∙ g) (record { result = refl; block = refl; store = refl })

  module _ (r : Result Bool Refusal) (f : r ≡ resting w.stage) (g : r ≡ Ok true) where
    pub end_checked : Ok tt ≡ checked_walker w (length b) (length s) → (q : Walked) → q ≡ stage_ended w.stage w → Is (ending w b s) q b s
    unfolding ending
    end_checked h q d = rw (sym f ∙ g, sym h) (record { result = d; block = refl; store = refl })

    pub end_stopped : (e : Refusal) → Err e ≡ checked_walker w (length b) (length s) → Is (ending w b s) (stops_at w e) b s
    unfolding ending
    end_stopped e h = rw (sym f ∙ g, sym h) (record { result = refl; block = refl; store = refl })

    pub walk_checked : (p : List ℕ) → Ok tt ≡ checked_walker w (length b) (length s) → walking w b s p ≡ walked_on w b s p
    unfolding walking
    walk_checked p h = rw (sym f ∙ g, sym h)

    pub walk_stopped : (p : List ℕ) (e : Refusal) → Err e ≡ checked_walker w (length b) (length s) → walking w b s p ≡ keeps b s (stops_at w e)
    unfolding walking
    walk_stopped p e h = rw (sym f ∙ g, sym h)

  pub walk_rests : (p : List ℕ) (r : Result Bool Refusal) → r ≡ resting w.stage → (e : Refusal) → r ≡ Err e → walking w b s p ≡ keeps b s (stands w (Err e))
  unfolding walking
  walk_rests p r f e g = rw (sym f ∙ g)

  pub walk_over : (p : List ℕ) (r : Result Bool Refusal) → r ≡ resting w.stage → r ≡ Ok false → walking w b s p ≡ keeps b s (stands w (Ok End))
  unfolding walking
  walk_over p r f g = rw (sym f ∙ g)

-- the parts of the trailer and of the piece that are compared
pub common_parts : (x y : List ℕ) (past k r : ℕ) → r ≡ common (take (length x - past) (drop past x)) (take (k - 0) (drop 0 y)) → r ≡ common (drop past x) (take k y)
common_parts x y past k r e =
    let z : k - 0 ≡ k = omega arith in
    e ∙ ap (λ (l : List ℕ). common l (take (k - 0) y)) (tail_all x past) ∙ ap (λ (n : ℕ). common (drop past x) (take n y)) z

pub common_start : (x y : List ℕ) → common x y ≡ 0 + common x y
common_start x y = omega arith

pub common_allowed : (position : ℕ) → position ≤ 18446744073709551615 → (p : List ℕ) (past : ℕ) → past ≤ 4 → (k : ℕ) → k ≡ allowed position (length p)
    → (same : ℕ) → same ≡ common (drop past trailer) (take k p) → (position + k ≤ 18446744073709551615) × (same ≤ k) × (past + same ≤ 4)
common_allowed position g p past h k e same f =
    let c = common_within (drop past trailer) (take k p) in
    let u : common (drop past trailer) (take k p) ≤ length (drop past trailer) = c.0 in
    let v : common (drop past trailer) (take k p) ≤ length (take k p) = c.1 in
    let l : length (drop past trailer) ≡ 4 - past = length-drop past trailer in
    let t = length-take k p in
    let a = allowed_all position (length p) g k e in
    (a, omega (arith, v, f, t), omega (arith, u, f, l))

pub trailer_walks : (w : Walker) (past : ℕ) (p : List ℕ) (k : ℕ) → k ≡ allowed w.position (length p)
    → (same : ℕ) → same ≡ common (drop past trailer) (take k p) → trailer_ended w past k (length p) same ≡ trailer_walked w past p
unfolding trailer_walked
trailer_walks w past p k e same f = ap (trailer_ended w past k (length p)) f ∙ rw e

module _ (w : Walker) (p : List ℕ) where
  pub rest_none : w.rest ≡ 0 → trailer_walked w 0 p ≡ rest_walked w p
  unfolding rest_walked
  rest_none h = sym (if_true _ _ (eq-eqb _ _ h))

  pub rest_some : (w.rest ≡ 0 → ⊥) → (k : ℕ) → k ≡ allowed w.position (length p) → body_walked w k ≡ rest_walked w p
  unfolding rest_walked
  rest_some h k e = ap (body_walked w) e ∙ sym (if_false _ _ (ne_eqb _ _ h))

-- a contract by the equation of its definition
pub kept : {g : Given Walked} (b s : List ℕ) (x r : Walked) → g ≡ keeps b s x → r ≡ x → Is g r b s
kept b s x r e f = rw e (record { result = f; block = refl; store = refl })

-- and a definition by its contract
pub is_given : {g : Given Walked} {r : Walked} {b s : List ℕ} → Is g r b s → g ≡ keeps b s r
is_given i = rw (i.result, i.block, i.store)

pub going : {g h : Given Walked} {r : Walked} {b s : List ℕ} → g ≡ h → Is h r b s → Is g r b s
going e i = rw e i

-- a header
module _ (m : HeaderMap) (position rest start taken k n : ℕ) where
  pub more_far : k < n → (q : HeaderMap) → q ≡ emptied m → walked q position rest (Stopped TooFar) start taken (Err TooFar) ≡ header_more m position rest start taken k n
  unfolding header_more
  more_far h q e = ap (λ (x : HeaderMap). walked x position rest (Stopped TooFar) start taken (Err TooFar)) e ∙ sym (if_true _ _ (lt-ltb _ _ h))

  pub more_on : n ≤ k → walked m position rest Header start taken (Ok More) ≡ header_more m position rest start taken k n
  unfolding header_more
  more_on h = sym (if_false _ _ (le-ltb _ _ h))

module _ (w : Walker) (m : HeaderMap) (start k : ℕ) (b s p : List ℕ) where
  abbrev answered : Fed → List ℕ → List ℕ → Walked
  answered f b' s' = header_by f.answer f.map (w.position + f.taken) w.rest start f.taken k (length p) b' s'

  reads_of : (g : Given Fed) (f : Fed) (b' s' : List ℕ) → Is g f b' s' → (r : Walked) → r ≡ answered f b' s' → Is (header_gives w start k (length p) g) r b' s'
  reads_of g f b' s' i r e =
      record {
        result = e ∙ ap (λ (x : Fed). answered x b' s') i.result ∙ ap (λ (x : List ℕ). answered g.result x s') i.block ∙ ap (λ (x : List ℕ). answered g.result g.block x) i.store;
        block = i.block;
        store = i.store;
      }

  pub header_read_is : header_read w m start k b s p ≡ header_gives w start k (length p) (feeding m b s (take k p))
  unfolding header_read
  header_read_is = refl

  pub header_reads : (f : Fed) (b' s' : List ℕ) → Is (feeding m b s (take (k - 0) (drop 0 p))) f b' s' → (r : Walked) → r ≡ answered f b' s'
      → Is (header_read w m start k b s p) r b' s'
  unfolding header_read
  header_reads f b' s' i r e =
      let z : k - 0 ≡ k = omega arith in
      reads_of (feeding m b s (take k p)) f b' s' (rw z at i) r e

module _ (w : Walker) (b s p : List ℕ) (k : ℕ) (e : k ≡ allowed w.position (length p)) where
  pub between_far : k ≡ 0 → between_walked w b s p ≡ keeps b s (stops_at w TooFar)
  unfolding between_walked
  between_far h = rw (sym e) (if_true _ _ (eq-eqb _ _ h))

  pub between_on : (k ≡ 0 → ⊥) → (m : HeaderMap) → m ≡ fresh w.map → between_walked w b s p ≡ header_read w m w.position k b s p
  unfolding between_walked
  between_on h m f = rw (sym e, f) (if_false _ _ (ne_eqb _ _ h))

  pub header_far : k ≡ 0 → header_walked w b s p ≡ keeps b s (stops_inside w TooFar)
  unfolding header_walked
  header_far h = rw (sym e) (if_true _ _ (eq-eqb _ _ h))

  pub header_on : (k ≡ 0 → ⊥) → header_walked w b s p ≡ header_read w w.map w.start k b s p
  unfolding header_walked
  header_on h = rw (sym e) (if_false _ _ (ne_eqb _ _ h))

-- a walker whose first checks are fine
module _ (w : Walker) (b s p : List ℕ) where
  pub on_empty : length p ≡ 0 → walked_on w b s p ≡ keeps b s (stands w (Ok More))
  unfolding walked_on
  on_empty h = if_true _ _ (eq-eqb _ _ h)

  pub on_stage : (length p ≡ 0 → ⊥) → (t : Stage) → w.stage ≡ t → walked_on w b s p ≡ stage_walked t w b s p
  unfolding walked_on
  on_stage h t e = if_false _ _ (ne_eqb _ _ h) ∙ ap (λ (u : Stage). stage_walked u w b s p) e

-- what holds in each case of a definition holds of it
module _ (P : Walked → Type 0) (w : Walker) where
  pub by_body : (k : ℕ) → (k ≡ 0 → P (stops_at w TooFar))
      → ((k ≡ 0 → ⊥) → P (walked w.map (w.position + min k w.rest) (w.rest - min k w.rest) Body w.start (min k w.rest) (Ok Part))) → P (body_walked w k)
  unfolding body_walked
  by_body k far part = by_if P (eqb k 0) _ _ (λ e. far (eqb-true k 0 e)) (λ e. part (eqb-false k 0 e))

  pub by_rest : (p : List ℕ) → (w.rest ≡ 0 → P (trailer_walked w 0 p)) → ((w.rest ≡ 0 → ⊥) → P (body_walked w (allowed w.position (length p)))) → P (rest_walked w p)
  unfolding rest_walked
  by_rest p none some = by_if P (eqb w.rest 0) _ _ (λ e. none (eqb-true w.rest 0 e)) (λ e. some (eqb-false w.rest 0 e))

  module _ (past : ℕ) (p : List ℕ) where
    abbrev may_take : ℕ
    may_take = allowed w.position (length p)

    abbrev in_common : ℕ
    in_common = common (drop past trailer) (take may_take p)

    pub by_trailer : (past + in_common ≡ 4 → P (onward w Between in_common (Ok More)))
        → ((past + in_common ≡ 4 → ⊥) → in_common < may_take → P (onward w (Stopped BadTrailer) in_common (Err BadTrailer)))
        → ((past + in_common ≡ 4 → ⊥) → may_take ≤ in_common → may_take < length p → P (onward w (Stopped TooFar) in_common (Err TooFar)))
        → ((past + in_common ≡ 4 → ⊥) → may_take ≤ in_common → length p ≤ may_take → P (onward w (trailer_stage (past + in_common)) in_common (Ok More))) → P (trailer_walked w past p)
    unfolding trailer_walked trailer_ended
    by_trailer whole differs far more =
        by_if P (eqb (past + in_common) 4) _ _ (λ e. whole (eqb-true (past + in_common) 4 e))
        (λ e.
        let d = eqb-false (past + in_common) 4 e in
        by_if P (ltb in_common may_take) _ _ (λ f. differs d (ltb-true in_common may_take f))
        (λ f. by_if P (ltb may_take (length p)) _ _ (λ g. far d (ltb-false in_common may_take f) (ltb-true may_take (length p) g))
        (λ g. more d (ltb-false in_common may_take f) (ltb-false may_take (length p) g))))

  pub by_more : (m : HeaderMap) (position rest start taken k n : ℕ) → (k < n → P (walked (emptied m) position rest (Stopped TooFar) start taken (Err TooFar)))
      → (n ≤ k → P (walked m position rest Header start taken (Ok More))) → P (header_more m position rest start taken k n)
  unfolding header_more
  by_more m position rest start taken k n far on = by_if P (ltb k n) _ _ (λ e. far (ltb-true k n e)) (λ e. on (ltb-false k n e))

module _ (P : Given Walked → Type 0) (w : Walker) (b s p : List ℕ) where
  abbrev k : ℕ
  k = allowed w.position (length p)

  pub by_between : (k ≡ 0 → P (keeps b s (stops_at w TooFar))) → ((k ≡ 0 → ⊥) → P (header_read w (fresh w.map) w.position k b s p)) → P (between_walked w b s p)
  unfolding between_walked
  by_between far on = by_if P (eqb k 0) _ _ (λ e. far (eqb-true k 0 e)) (λ e. on (eqb-false k 0 e))

  pub by_header : (k ≡ 0 → P (keeps b s (stops_inside w TooFar))) → ((k ≡ 0 → ⊥) → P (header_read w w.map w.start k b s p)) → P (header_walked w b s p)
  unfolding header_walked
  by_header far on = by_if P (eqb k 0) _ _ (λ e. far (eqb-true k 0 e)) (λ e. on (eqb-false k 0 e))
