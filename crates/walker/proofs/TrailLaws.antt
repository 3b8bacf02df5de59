-- What is done on a trail is done to its walker, whatever the map. Assumes nothing.
use Rattle.std.specs.Prelude.{Err, Ok, Result, ⊤}
use mathlib.Core.Path.{◌≡◌, refl, sym, ap, ◌∙◌, subst}
use mathlib.Core.Bool.{Bool, true, false}
use mathlib.Core.List.{List}
use Prim.Native.Nat.{ℕ, ◌+◌, ◌-◌, ◌≤◌, ◌<◌}
use native.Mathlib.Omega.{arith}
use lib.Dec.{eqb}
use lib.ListN.{length, take, drop}
use borrow.Author.Tests.{eqb-true, eqb-false, lt-ltb, le-ltb}
use Rattle.leaves.specs.Choice.{when◌then◌else◌}
use Rattle.leaves.proofs.ChoiceLaws.{if_true, if_false, clash}
use Rattle.leaves.specs.Paste.{lay}
use Rattle.leaves.specs.Refusals.{refusal}
use Rattle.leaves.specs.declared.refusals.Refusal.{Refusal}
use Rattle.maps.specs.Good.{checked, checked_reading, checked_done}
use Rattle.maps.specs.Maps.{Given, Is}
use Rattle.maps.specs.declared.HeaderMap.{HeaderMap}
use Rattle.maps.proofs.GoodLaws.{ready_of, checked_fine}
use Rattle.line_reader.specs.Reading.{Reading, fed}
use Rattle.reader.specs.Calls.{map_of, feeding}
use Rattle.line_reader.specs.Standing.{rules_of, reading_of}
use Rattle.line_reader.specs.declared.Answer.{Answer}
use Rattle.line_reader.specs.declared.Answer.TheVariants.{More as FedMore, Blank, Input as FedInput}
use Rattle.reader.specs.declared.Fed.{Fed}
use Rattle.reader.proofs.CallLaws.{feeding_stops}
use Rattle.readings.proofs.Kept.{Sound, fed_within, sound_of, good_of, lent_of}
use Rattle.readings.proofs.Cut.{fed_goes}
use Rattle.openings.specs.Opening.{opening, longest}
use Rattle.walker.specs.Walk.{keeps, stands, ready_at, resting, checked_walker, allowed, header_by, header_read, between_walked, header_walked, stage_walked, walked_on, stops_at, stage_ended, walking, ending}
use Rattle.walker.specs.Trails.{walker_of, trail_of, kept_map, with_map, Follows, turned, Reaches, Turning, way_of, way_walked, checked_rest, Turns, Ends, Judged, headed_by, headed_walked}
use Rattle.walker.specs.declared.Stage.{Stage}
use Rattle.walker.specs.declared.Stage.TheVariants.{Between, Header, Body, Cr, Lf, LastCr, LastLf, Ended, Stopped}
use Rattle.walker.specs.declared.Step.TheVariants.{More, End}
use Rattle.walker.specs.declared.Headed.{Headed}
use Rattle.walker.specs.declared.Walker.{Walker}
use Rattle.walker.specs.declared.Walked.{Walked}
use Rattle.walker.specs.declared.Trail.{Trail}
use Rattle.walker.specs.declared.Trailed.{Trailed}
use Rattle.walker.specs.declared.Kept.{Kept}
use Rattle.walker.specs.declared.Kept.TheVariants.{Same, Fresh}
use Rattle.walker.specs.declared.Way.{Way}
use Rattle.walker.specs.declared.Way.TheVariants.{Passes, Trails}
use Rattle.walker.specs.declared.Turn.{Turn}
use Rattle.walker.specs.declared.Turn.TheVariants.{Stays as Standing, Reads}
use Rattle.walker.proofs.WalkLaws.{allowed_within, allowed_all, rest_none, rest_some, between_on, header_on, on_empty, on_stage, walk_rests, walk_over, walk_checked, walk_stopped, end_rests, end_over, end_checked, end_stopped, is_given, header_reads, kept, going}

-- a rest over the cap, and one that is not
pub rest_long : (rest : ℕ) (c : Result ⊤ Refusal) → longest < rest → Err (refusal 3) ≡ checked_rest rest c
rest_long rest c h = sym (if_true _ _ (lt-ltb _ _ h))

pub rest_fits : (rest : ℕ) (c : Result ⊤ Refusal) → rest ≤ longest → c ≡ checked_rest rest c
rest_fits rest c h = sym (if_false _ _ (le-ltb _ _ h))

-- which way a walker goes
module _ (w : Walker) (b s p : List ℕ) where
  rest_ways : (t : Bool) → eqb w.rest 0 ≡ t → stage_walked Body w b s p ≡ way_walked (when eqb w.rest 0 then Trails 0 else Passes) w b s p
  rest_ways true e = ap (keeps b s) (sym (rest_none w p (eqb-true w.rest 0 e))) ∙ ap (λ (x : Way). way_walked x w b s p) (sym (if_true _ _ e))
  rest_ways false e = ap (keeps b s) (sym (rest_some w p (eqb-false w.rest 0 e) _ refl)) ∙ ap (λ (x : Way). way_walked x w b s p) (sym (if_false _ _ e))

  stage_ways : (t : Stage) → resting t ≡ Ok true → stage_walked t w b s p ≡ way_walked (way_of t w.rest) w b s p
  stage_ways Between h = refl
  stage_ways Header h = refl
  stage_ways Body h = rest_ways (eqb w.rest 0) refl
  stage_ways Cr h = refl
  stage_ways Lf h = refl
  stage_ways LastCr h = refl
  stage_ways LastLf h = refl
  stage_ways Ended h = clash (cc)
  stage_ways (Stopped e) h = clash (cc)

body_past : (t : Bool) (past : ℕ) → (when t then Trails 0 else Passes) ≡ Trails past → past ≤ 4
body_past true past e = let z : 0 ≡ past = cc (if_true {t = true} (Trails 0) Passes refl) in omega arith
body_past false past e = clash (cc (if_false {t = false} (Trails 0) Passes refl))

pub way_past : (t : Stage) (rest past : ℕ) → way_of t rest ≡ Trails past → past ≤ 4
way_past Between rest past e = clash (cc)
way_past Header rest past e = clash (cc)
way_past Body rest past e = body_past (eqb rest 0) past e
way_past Cr rest past e = let z : 0 ≡ past = cc in omega arith
way_past Lf rest past e = let z : 1 ≡ past = cc in omega arith
way_past LastCr rest past e = let z : 2 ≡ past = cc in omega arith
way_past LastLf rest past e = let z : 3 ≡ past = cc in omega arith
way_past Ended rest past e = clash (cc)
way_past (Stopped x) rest past e = clash (cc)

-- a turn that stays
pub stays : (t : Trail) (p : List ℕ) (r : Trailed) (F : Walker → Walked) → Follows t r F → Turning t p (Standing r) (λ w b s. keeps b s (F w))
stays t p r F h = record { gives = λ m b s. ap (keeps b s) (sym (h m)); reaches = omega arith }

module _ (t : Trail) (k : ℕ) (small : t.position ≤ 18446744073709551615) (p : List ℕ) (e : k ≡ allowed t.position (length p)) where
  within : (k ≤ length p) × (t.position + k ≤ 18446744073709551615)
  within = let h = allowed_within t.position (length p) in (omega (arith, e, h), allowed_all t.position (length p) small k e)

  pub begins_reads : (k ≡ 0 → ⊥) → Turning t p (Reads Fresh t.position k) (λ w b s. between_walked w b s p)
  begins_reads h = record { gives = λ m b s. between_on (walker_of m t) b s p k e h _ refl; reaches = within }

  pub resumes_reads : (k ≡ 0 → ⊥) → Turning t p (Reads Same t.start k) (λ w b s. header_walked w b s p)
  resumes_reads h = record { gives = λ m b s. header_on (walker_of m t) b s p k e h; reaches = within }

-- a turn behind the first checks
module _ (t : Trail) (p : List ℕ) where
  pub empties : length p ≡ 0 → (r : Trailed) → Follows t r (λ w. stands w (Ok More)) → Turning t p (Standing r) (λ w b s. walked_on w b s p)
  empties h r f =
      record {
        gives = λ m b s. on_empty (walker_of m t) b s p h ∙ ap (keeps b s) (sym (f m));
        reaches = omega arith;
      }

  pub on_way : (length p ≡ 0 → ⊥) → resting t.stage ≡ Ok true → (x : Way) → x ≡ way_of t.stage t.rest → (r : Turn)
      → Turning t p r (λ w b s. way_walked x w b s p) → Turning t p r (λ w b s. walked_on w b s p)
  on_way h g x e r f =
      record {
        gives = λ m b s.
            on_stage (walker_of m t) b s p h t.stage refl ∙ stage_ways (walker_of m t) b s p t.stage g ∙
            ap (λ (y : Way). way_walked y (walker_of m t) b s p) (sym e) ∙ f.gives m b s;
        reaches = f.reaches;
      }

-- the first checks
rest_checked : (w : Walker) (b s : ℕ) (c : Result ⊤ Refusal) → c ≡ checked (ready_at w.stage w.map.phase) w.map b s → checked_rest w.rest c ≡ checked_walker w b s
unfolding checked_walker
rest_checked w b s c e = ap (checked_rest w.rest) e

module _ (t : Trail) (c : Result ⊤ Refusal) (x : Result Bool Refusal) (f : x ≡ resting t.stage) where
  module _ (p : List ℕ) where
    pub turn_rests : (e : Refusal) → x ≡ Err e → (r : Trailed) → Follows t r (λ w. stands w (Err e)) → Turns t c p (Standing r)
    turn_rests e g r h =
        record {
          gives = λ m b s k. walk_rests (walker_of m t) b s p x f e g ∙ ap (keeps b s) (sym (h m));
          reaches = omega arith;
        }

    pub turn_over : x ≡ Ok false → (r : Trailed) → Follows t r (λ w. stands w (Ok End)) → Turns t c p (Standing r)
    turn_over g r h =
        record {
          gives = λ m b s k. walk_over (walker_of m t) b s p x f g ∙ ap (keeps b s) (sym (h m));
          reaches = omega arith;
        }

    module _ (g : x ≡ Ok true) where
      pub turn_goes : Ok tt ≡ checked_rest t.rest c → (r : Turn) → Turning t p r (λ w b s. walked_on w b s p) → Turns t c p r
      turn_goes e r h =
          record {
            gives = λ m b s k. walk_checked (walker_of m t) b s x f g p (e ∙ rest_checked (walker_of m t) (length b) (length s) c k) ∙ h.gives m b s;
            reaches = h.reaches;
          }

      pub turn_stops : (e : Refusal) → Err e ≡ checked_rest t.rest c → (r : Trailed) → Follows t r (λ w. stops_at w e) → Turns t c p (Standing r)
      turn_stops e d r h =
          record {
            gives = λ m b s k. walk_stopped (walker_of m t) b s x f g p e (d ∙ rest_checked (walker_of m t) (length b) (length s) c k) ∙ ap (keeps b s) (sym (h m));
            reaches = omega arith;
          }

  pub ends_rests : (e : Refusal) → x ≡ Err e → (r : Trailed) → Follows t r (λ w. stands w (Err e)) → Ends t c r
  ends_rests e g r h m b s k = is_given (end_rests (walker_of m t) b s x f e g) ∙ ap (keeps b s) (sym (h m))

  pub ends_over : x ≡ Ok false → (r : Trailed) → Follows t r (λ w. stands w (Ok End)) → Ends t c r
  ends_over g r h m b s k = is_given (end_over (walker_of m t) b s x f g) ∙ ap (keeps b s) (sym (h m))

  module _ (g : x ≡ Ok true) where
    pub ends_goes : Ok tt ≡ checked_rest t.rest c → (r : Trailed) → Follows t r (λ w. stage_ended w.stage w) → Ends t c r
    ends_goes e r h m b s k = is_given (end_checked (walker_of m t) b s x f g (e ∙ rest_checked (walker_of m t) (length b) (length s) c k) _ refl) ∙ ap (keeps b s) (sym (h m))

    pub ends_stops : (e : Refusal) → Err e ≡ checked_rest t.rest c → (r : Trailed) → Follows t r (λ w. stops_at w e) → Ends t c r
    ends_stops e d r h m b s k = is_given (end_stopped (walker_of m t) b s x f g e (d ∙ rest_checked (walker_of m t) (length b) (length s) c k)) ∙ ap (keeps b s) (sym (h m))

-- what an answer of the reader comes to
header_by_lem : (a : Result Answer Refusal) (m : HeaderMap) (position rest start taken k n : ℕ) (b s : List ℕ)
    → headed_walked (headed_by a (opening m b s)) m position rest start taken k n ≡ header_by a m position rest start taken k n b s
header_by_lem (Ok FedMore) m position rest start taken k n b s = refl
header_by_lem (Ok Blank) m position rest start taken k n b s = refl
header_by_lem (Ok FedInput) m position rest start taken k n b s = refl
header_by_lem (Err e) m position rest start taken k n b s = refl

-- a map that a blank line ended passes the first checks: it was judged before it was fed
module _ (m : HeaderMap) (b s p : List ℕ) where
  abbrev Passes-on : Given Fed → Type 0
  Passes-on g = g.result.answer ≡ Ok Blank → Ok tt ≡ checked_done g.result.map g.block g.store

  ended_fine : Ok tt ≡ checked_reading m b s → (r : Reading) (a : Result Answer Refusal) → Sound (rules_of m) r → a ≡ Ok Blank
      → Ok tt ≡ checked_done (map_of m r a) (lay b r.block) (lay s r.found.store)
  ended_fine e r (Ok FedMore) z f = clash (cc)
  ended_fine e r (Ok Blank) z f =
      let w = ready_of _ m b s e in
      checked_fine true (map_of m r (Ok Blank)) _ _ (good_of m b s w r (Ok Blank) z) (lent_of m b s w r (Ok Blank)) refl
  ended_fine e r (Ok FedInput) z f = clash (cc)
  ended_fine e r (Err x) z f = clash (cc)

  fed_passes : (c : Result ⊤ Refusal) → c ≡ checked_reading m b s → Passes-on (feeding m b s p)
  fed_passes (Ok _) e =
      let r = fed (rules_of m) (reading_of m b s) p in
      subst Passes-on (sym (fed_goes m b s p e))
      (ended_fine e r r.answer (fed_within (rules_of m) (reading_of m b s) p (sound_of m b s (ready_of _ m b s e))))
  fed_passes (Err x) e = subst Passes-on (sym (feeding_stops m b s p x e)) (λ f. clash (cc))

  pub fed_judged : (f : Fed) (b' s' : List ℕ) → Is (feeding m b s p) f b' s' → Judged f.answer f.map b' s'
  fed_judged f b' s' i e = rw (i.result, i.block, i.store) (fed_passes (checked_reading m b s) refl (sym (ap (λ (x : Fed). x.answer) i.result) ∙ e))

-- a header that was read
module _ (t : Trail) (m : HeaderMap) (start k : ℕ) (b s p : List ℕ) where
  pub reads_by : (f : Fed) (b' s' : List ℕ) → Is (feeding m b s (take (k - 0) (drop 0 p))) f b' s'
      → (h : Result Headed Refusal) → h ≡ headed_by f.answer (opening f.map b' s')
      → (u : Trailed) → with_map f.map u ≡ headed_walked h f.map (t.position + f.taken) t.rest start f.taken k (length p)
      → (r : Walked) → r ≡ with_map f.map u → Is (header_read (walker_of m t) m start k b s p) r b' s'
  reads_by f b' s' i h e u g r d =
      header_reads (walker_of m t) m start k b s p f b' s' i r
      (d ∙ g ∙ ap (λ (x : Result Headed Refusal). headed_walked x f.map (t.position + f.taken) t.rest start f.taken k (length p)) e ∙
      header_by_lem f.answer f.map (t.position + f.taken) t.rest start f.taken k (length p) b' s')

  -- whatever map the walker had
  pub read_any : (old : HeaderMap) → header_read (walker_of old t) m start k b s p ≡ header_read (walker_of m t) m start k b s p
  unfolding header_read
  read_any old = refl

-- the octets that a turn reads are there
pub reads_within : (t : Trail) (c : Result ⊤ Refusal) (p : List ℕ) (x : Turn) → Turns t c p x → (kept : Kept) (start k : ℕ) → x ≡ Reads kept start k
    → (k ≤ length p) × (t.position + k ≤ 18446744073709551615)
reads_within t c p x h kept start k e = subst (Reaches t p) e h.reaches

-- the calls, by what was done on the walker's trail
module _ (w : Walker) (b s : List ℕ) (t : Trail) (e : t ≡ trail_of w) (c : Result ⊤ Refusal) (d : c ≡ checked (ready_at t.stage w.map.phase) w.map (length b) (length s)) where
  same : walker_of w.map t ≡ w
  same = ap (walker_of w.map) e

  pub end_trails : (u : Trailed) → Ends t c u → (r : Walked) → r ≡ with_map w.map u → Is (ending w b s) r b s
  end_trails u h r f = kept b s (with_map w.map u) r (ap (λ (x : Walker). ending x b s) (sym same) ∙ h w.map b s d) f

  module _ (p : List ℕ) (x : Turn) (h : Turns t c p x) where
    turn_is : (y : Turn) → x ≡ y → walking w b s p ≡ turned w.map t b s p y
    turn_is y f = ap (λ (v : Walker). walking v b s p) (sym same) ∙ h.gives w.map b s d ∙ ap (turned w.map t b s p) f

    pub walk_stays : (u : Trailed) → x ≡ Standing u → (r : Walked) → r ≡ with_map w.map u → Is (walking w b s p) r b s
    walk_stays u f r g = kept b s (with_map w.map u) r (turn_is (Standing u) f) g

    pub walk_reads : (kept : Kept) (start k : ℕ) → x ≡ Reads kept start k → (m : HeaderMap) → m ≡ kept_map kept w.map
        → (r : Walked) (b' s' : List ℕ) → Is (header_read (walker_of m t) m start k b s p) r b' s' → Is (walking w b s p) r b' s'
    walk_reads kept start k f m g r b' s' i =
        going (turn_is (Reads kept start k) f ∙ read_any t (kept_map kept w.map) start k b s p w.map ∙
        ap (λ (n : HeaderMap). header_read (walker_of n t) n start k b s p) (sym g)) i
