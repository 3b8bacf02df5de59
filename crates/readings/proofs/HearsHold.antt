-- The statements of `Hears` hold. Assumes nothing.
use Rattle.leaves.specs.declared.refusals.Refusal.{Refusal}
use Rattle.std.specs.Prelude.{Ok, Result}
use mathlib.Core.Path.{◌≡◌, refl, sym, ◌∙◌, ap, subst}
use mathlib.Core.Bool.{Bool, true, false}
use mathlib.Core.List.{List, ◌++◌, map}
use Prim.Native.Nat.{ℕ, ◌≤◌}
use native.Mathlib.Omega.{arith}
use lib.ListN.{length, take, drop, take-append-drop}
use lib.Seq.{length-take-le}
use Rattle.leaves.specs.Paste.{lay}
use Rattle.leaves.proofs.LayLaws.{lay_take}
use Rattle.maps.specs.Good.{Ready, checked_reading}
use Rattle.maps.specs.Maps.{Given}
use Rattle.maps.specs.Said.{Said, pair_at, status_at, saying}
use Rattle.maps.specs.declared.Phase.TheVariants.{Done}
use Rattle.maps.specs.declared.HeaderMap.{HeaderMap}
use Rattle.maps.proofs.TextLaws.{pairs_front, status_front}
use Rattle.maps.proofs.GoodLaws.{ready_of}
use Rattle.maps.proofs.SaidLaws.{said_is, said_same}
use Rattle.line_reader.specs.Reading.{Rules, Reading, fed, finished, begun}
use Rattle.reader.specs.Calls.{map_of, gives, feeding, finishing, beginning, checked_rooms}
use Rattle.line_reader.specs.Standing.{rules_of, reading_of}
use Rattle.line_reader.specs.declared.Answer.{Answer}
use Rattle.line_reader.specs.declared.Answer.TheVariants.{More, Blank, Input}
use Rattle.reader.specs.declared.Fed.{Fed}
use Rattle.readings.specs.Heard.{Hearing}
use Rattle.readings.specs.Listening.{Listening, silent, listening, last_heard, said, hearing_of, at_blank, refused, answered, listening_of}
use Rattle.readings.specs.Hears.{says_then, so_far, Told, Hears}
use Rattle.readings.proofs.Kept.{Sound, Later, fed_later, finished_later, sound_of}
use Rattle.readings.proofs.Ends.{ends_begun}
use Rattle.readings.proofs.Stopped.{feed_leaves, finish_leaves}
use Rattle.readings.proofs.Cut.{fed_goes, finish_goes}
use Rattle.readings.proofs.ListeningLaws.{same_listening, Listens, fed_listens, finished_hears, begun_listens}
use Rattle.readings.proofs.MapSays.{map_says}
use Rattle.readings.proofs.Begun.{roomy, begins, begun_rules, begins_fine, fed_begun_lem}

module _ (m : HeaderMap) (b s : List ℕ) (fine : Ok tt ≡ checked_reading m b s) where
  abbrev R : Rules
  R = rules_of m

  abbrev r : Reading
  r = reading_of m b s

  ready : Ready m b s
  ready = ready_of _ m b s fine

  sound : Sound R r
  sound = sound_of m b s ready

  long : length (take m.count b) ≡ m.count
  long = length-take-le m.count b (omega (arith, ready.count, ready.block))

  -- a map that is being read says what its reading says
  read_says : saying m b s ≡ said r
  unfolding said
  read_says =
      let B = take-append-drop m.count b in
      let S = take-append-drop m.mark s in
      said_is m b s ∙
      said_same _ _ _ _
      (ap (λ (x : List ℕ). status_at x s m.status) (sym B) ∙ ap (λ (y : List ℕ). status_at (r.block ++ drop m.count b) y m.status) (sym S) ∙
      status_front r.block r.found.store (drop m.count b) (drop m.mark s) sound.status)
      (ap (λ (x : List ℕ). map (pair_at x s) r.found.fields) (sym B) ∙ ap (λ (y : List ℕ). map (pair_at (r.block ++ drop m.count b) y) r.found.fields) (sym S) ∙
      pairs_front r.block r.found.store (drop m.count b) (drop m.mark s) sound.fields)

  pub so_far_lem : so_far m b s ≡ listening_of r
  so_far_lem = same_listening _ _ _ _ _ _ false (sym long) refl (ap (λ (x : Said). record { awaits = m.awaits; said = x }) read_says)

  -- what the call gives by the reading q that it reached
  module _ (q : Reading) (later : Later R r q) where
    on_says : saying (map_of m q (Ok More)) (lay b q.block) (lay s q.found.store) ≡ said q
    on_says = map_says m.phase q.found.awaits m.quirks m b s q later.sound.fields later.sound.status

    done_says : saying (map_of m q (Ok Blank)) (lay b q.block) (lay s q.found.store) ≡ said q
    done_says = map_says Done false false m b s q later.sound.fields later.sound.status

    gives_told : (l : Listening) → Listens l q → Told m.count l (gives m b s q)
    gives_told l h =
        record {
          answer = h.answer;
          taken = omega (arith, long, later.block, ap (λ (z : Listening). z.count) h.told);
          says = choose l.ended h.answer ∙ ap (λ (z : Listening). z.hearing.said) h.told;
          onward = λ e. on (h.answer ∙ ap answered e) ∙ h.told;
        }
      where
        choose : (t : Bool) → q.answer ≡ answered t → says_then (gives m b s q) ≡ said q
        choose false e = ap (λ (a : Result Answer Refusal). saying (map_of m q a) (lay b q.block) (lay s q.found.store)) e ∙ on_says
        choose true e = ap (λ (a : Result Answer Refusal). saying (map_of m q a) (lay b q.block) (lay s q.found.store)) e ∙ done_says

        on : q.answer ≡ Ok More → so_far (map_of m q q.answer) (lay b q.block) (lay s q.found.store) ≡ listening_of q
        on e =
            ap (λ (a : Result Answer Refusal). so_far (map_of m q a) (lay b q.block) (lay s q.found.store)) e ∙
            same_listening _ _ _ _ _ _ false refl (ap (drop q.line) (lay_take b q.block)) (ap (λ (x : Said). record { awaits = q.found.awaits; said = x }) on_says) ∙
            ap (λ (a : Result Answer Refusal). record { count = length q.block; line = drop q.line q.block; hearing = hearing_of q; ended = at_blank a }) (sym e)

  fed_told : (p : List ℕ) → refused (feeding m b s p).result.answer ≡ false → Told m.count (listening m.quirks (so_far m b s) p) (feeding m b s p)
  fed_told p f =
      let g = fed_goes m b s p fine in
      let w : refused (fed R r p).answer ≡ false = sym (ap (λ (x : Given Fed). refused x.result.answer) g) ∙ f in
      rw (g, so_far_lem) (gives_told (fed R r p) (fed_later R r p sound) (listening m.quirks (listening_of r) p) (fed_listens R r p sound refl w))

  finished_told : (finishing m b s).result.answer ≡ Ok Input → says_then (finishing m b s) ≡ (last_heard (so_far m b s).line (so_far m b s).hearing).said
  finished_told f =
      let g = finish_goes m b s fine in
      let q = finished R r in
      let e : q.answer ≡ Ok Input = sym (ap (λ (x : Given Fed). x.result.answer) g) ∙ f in
      ap says_then g ∙
      ap (λ (a : Result Answer Refusal). saying (map_of m q a) (lay b q.block) (lay s q.found.store)) e ∙
      done_says q (finished_later R r sound) ∙
      ap (λ (h : Hearing). h.said) (finished_hears R r sound refl (ap refused e)) ∙
      ap (λ (z : Listening). (last_heard z.line z.hearing).said) (sym so_far_lem)

begun_told : (m : HeaderMap) (limit room : ℕ) (status quirks : Bool) (b s p : List ℕ) (fine : Ok tt ≡ checked_rooms limit room (length b) (length s))
    → let l = listening quirks (silent status) p in
    l.count ≤ limit → length l.hearing.said.pairs ≤ 256 → Told 0 l (feeding (beginning m limit room status quirks b s).result.map b s p)
begun_told m limit room status quirks b s p fine c few =
    let M = begins limit room b s fine m status quirks in
    let F = begins_fine limit room b s fine m status quirks in
    let R = begun_rules limit room b s fine m status quirks in
    subst (Told 0 (listening quirks (silent status) p)) (sym (fed_begun_lem limit room b s fine m status quirks p))
    (gives_told M b s F (fed R (begun status) p) (fed_later R (begun status) p (sound M b s F)) (listening quirks (silent status) p)
    (begun_listens R (roomy limit room b s fine) status p c few))

pub hears : Hears
hears =
    record {
      heard = λ m b s p e. fed_told m b s e p;
      heard_at_end = finished_told;
      begun = begun_told;
      begun_at_end = ends_begun;
      left = λ m b s p e. feed_leaves m b s e p;
      left_at_end = finish_leaves;
    }
