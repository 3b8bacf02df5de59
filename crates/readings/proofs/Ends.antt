-- A reading from its beginning is not refused at the end of input, where its octets say no more than 256 fields. Assumes nothing.
use Rattle.leaves.specs.declared.refusals.Refusal.{Refusal}
use Rattle.std.specs.Prelude.{Err, Ok, Result}
use mathlib.Core.Path.{◌≡◌, refl, sym, ◌∙◌, ap, subst}
use mathlib.Core.Bool.{Bool, false, not, false≢true}
use mathlib.Core.List.{List}
use Prim.Native.Nat.{ℕ, ◌≤◌}
use native.Mathlib.Omega.{arith}
use borrow.Author.Tests.{ltb-true}
use lib.ListN.{length, drop, length-drop}
use Rattle.leaves.proofs.ChoiceLaws.{by_if}
use Rattle.maps.specs.Maps.{Given}
use Rattle.maps.specs.declared.HeaderMap.{HeaderMap}
use Rattle.folds.specs.declared.Change.{Change}
use Rattle.folds.specs.declared.Change.TheVariants.{Nothing, Status as Headed, Put}
use Rattle.reader.specs.Answers.{told}
use Rattle.line_reader.specs.Reading.{Rules, Reading, begun, goes, lined, ruled, fed, finished}
use Rattle.reader.specs.Calls.{checked_rooms, beginning, feeding, finishing}
use Rattle.line_reader.specs.declared.Answer.{Answer}
use Rattle.line_reader.specs.declared.Answer.TheVariants.{More, Input}
use Rattle.reader.specs.declared.Fed.{Fed}
use Rattle.readings.specs.Heard.{Hearing, heard}
use Rattle.readings.specs.Listening.{Listening, silent, listening, last_heard, said, hearing_of, answered}
use Rattle.readings.specs.Pieces.{and_then}
use Rattle.readings.proofs.Kept.{Sound, begun_sound, fed_within}
use Rattle.readings.proofs.Cut.{fed_goes, read_whole}
use Rattle.readings.proofs.Thrift.{fed_thrifty, finished_thrifty}
use Rattle.readings.proofs.HeardLaws.{last_heard_lem}
use Rattle.readings.proofs.RuleHeard.{HeardC, ruled_hears}
use Rattle.readings.proofs.ListeningLaws.{thrifty_begun, begun_listens}
use Rattle.readings.proofs.Begun.{roomy, begins, begins_fine, begun_map, begun_rules}

lined_input : (r : Reading) (new : List ℕ) (c : Result Change Refusal) → HeardC r.block r.line r.found new c
    → length (heard (drop r.line r.block) (hearing_of r)).said.pairs ≤ 256 → (told (lined r (Ok Input) new c).answer ≡ 6 → ⊥) → (lined r (Ok Input) new c).answer ≡ Ok Input
unfolding said
lined_input r new (Ok Nothing) h few six = refl
lined_input r new (Ok (Headed p)) h few six = refl
lined_input r new (Ok (Put slot x to)) h few six = refl
lined_input r new (Err e) h few six = absurd (six (h few))

module _ (R : Rules) where
  finished_input : (r : Reading) → Sound R r → r.answer ≡ Ok More → length (last_heard (drop r.line r.block) (hearing_of r)).said.pairs ≤ 256
      → (told (finished R r).answer ≡ 6 → ⊥) → (finished R r).answer ≡ Ok Input
  unfolding finished
  finished_input r s e few =
      let l : List ℕ = drop r.line r.block in
      let P : Reading → Type 0 = λ (z : Reading). (told z.answer ≡ 6 → ⊥) → z.answer ≡ Ok Input in
      by_if P _ _ _ (λ d. absurd (false≢true (sym (ap (λ (a : Result Answer Refusal). not (goes a)) e) ∙ d)))
      (λ _. by_if P _ _ _
      (λ d six.
      lined_input r (ruled R r).new (ruled R r).change (ruled_hears R r s).is
      (subst (λ (h : Hearing). length h.said.pairs ≤ 256)
      (last_heard_lem l (hearing_of r) (omega (arith, length-drop r.line r.block, ltb-true r.line (length r.block) d))) few)
      six)
      (λ d six. refl))

  begun_ends : R.limit ≤ R.room → (status : Bool) (os : List ℕ)
      → let l = listening R.quirks (silent status) os in
      l.ended ≡ false → l.count ≤ R.limit → length l.hearing.said.pairs ≤ 256 → length (last_heard l.line l.hearing).said.pairs ≤ 256
      → ((fed R (begun status) os).answer ≡ Ok More) × ((finished R (fed R (begun status) os)).answer ≡ Ok Input)
  begun_ends rooms status os on c few last =
      let L = begun_listens R rooms status os c few in
      let r = fed R (begun status) os in
      let e : r.answer ≡ Ok More = L.answer ∙ ap answered on in (
        e,
        finished_input r (fed_within R (begun status) os (begun_sound R status)) e
            (subst (λ (z : Listening). length (last_heard z.line z.hearing).said.pairs ≤ 256) (sym L.told) last)
            (finished_thrifty R rooms r (fed_thrifty R rooms (begun status) os (thrifty_begun R status))).not_six,
      )

-- on the calls begin, feed and finish
module _ (m : HeaderMap) (limit room : ℕ) (status quirks : Bool) (b s p : List ℕ) (fine : Ok tt ≡ checked_rooms limit room (length b) (length s)) where
  abbrev l : Listening
  l = listening quirks (silent status) p

  abbrev Ends : HeaderMap → Type 0
  Ends k = let g = feeding k b s p in (finishing g.result.map g.block g.store).result.answer ≡ Ok Input

  pub ends_begun : l.ended ≡ false → l.count ≤ limit → length l.hearing.said.pairs ≤ 256 → length (last_heard l.line l.hearing).said.pairs ≤ 256
      → Ends (beginning m limit room status quirks b s).result.map
  ends_begun on c few last =
      let M = begins limit room b s fine m status quirks in
      let F = begins_fine limit room b s fine m status quirks in
      let R = begun_rules limit room b s fine m status quirks in
      let g = feeding M b s p in
      let t = begun_ends R (roomy limit room b s fine) status p on c few last in
      let more : g.result.answer ≡ Ok More = ap (λ (x : Given Fed). x.result.answer) (fed_goes M b s p F) ∙ t.0 in
      subst Ends (sym (begun_map limit room b s fine m status quirks))
      (ap (λ (a : Result Answer Refusal). (and_then finishing a g).result.answer) (sym more) ∙ ap (λ (x : Given Fed). x.result.answer) (read_whole M b s F p) ∙ t.1)
