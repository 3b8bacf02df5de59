-- What the walker's exported calls give, by what the calls below give. Assumes nothing.
use Rattle.leaves.specs.Refusals.{number}
use Rattle.leaves.specs.declared.refusals.Refusal.{Refusal}
use Rattle.std.specs.Prelude.{Err, Ok}
use mathlib.Core.Path.{◌≡◌, refl, sym, ap, ◌∙◌}
use mathlib.Core.Bool.{Bool, true, false, ◌&&◌}
use mathlib.Core.List.{List, []}
use Prim.Native.Nat.{ℕ}
use lib.ListN.{length}
use Rattle.leaves.specs.Choice.{when◌then◌else◌}
use Rattle.leaves.proofs.ChoiceLaws.{if_true, if_false, and_both, and_false}
use Rattle.maps.specs.Maps.{Given, Is}
use Rattle.maps.specs.Heads.{head_of as headIn}
use Rattle.maps.specs.declared.Head.{Head}
use Rattle.walker.specs.Answers.{start_answer}
use Rattle.walker.specs.Trails.{walker_of}
use Rattle.walker.specs.declared.Step.{Step}
use Rattle.walker.specs.declared.Step.TheVariants.{More, Record, Body, End}
use Rattle.walker.specs.declared.Trail.{Trail}
use Rattle.walker.specs.declared.Walker.{Walker}
use Rattle.walker.specs.declared.Walked.{Walked}
use Rattle.lent.specs.Table.{map_in}
use Rattle.lent.specs.Numbers.{head_numbers}
use Rattle.trails.specs.Trail.{trail_numbers}
use Rattle.abi.specs.Calls.{Went, Goes, trail_in, walked_answer, walked_map, went_of, lost, started, started_out}
use Rattle.abi.proofs.CallLaws.{changed}

-- a call over the numbers themselves
pub went : (numbers : Walked → List ℕ) (g : Given Walked) (x : Walked) (r : ℕ) (h : Head) (v : Trail) (w n t b s : List ℕ) → Is g x b s → r ≡ walked_answer x
    → x.walker ≡ walker_of (map_in t h) v → n ≡ head_numbers h → w ≡ trail_numbers v → length t ≡ 1024 → Goes (went_of numbers g) r (numbers x) w n t b s
went numbers g x r h v w n t b s i e f k j l =
    record {
      out = changed walked_answer numbers walked_map g x r h n t b s i e (ap (λ (y : Walker). y.map) f) k l;
      trail = j ∙ ap trail_in (sym f) ∙ ap (λ (y : Walked). trail_in y.walker) i.result;
    }

-- a walker that starts, whatever its step
goes : (v : Step) (old new : List ℕ) → new ≡ started (Ok v) old new
goes More old new = refl
goes (Record a b c d) old new = refl
goes Body old new = refl
goes End old new = refl

answers_done : (v : Step) → 0 ≡ start_answer (Ok v)
answers_done More = refl
answers_done (Record a b c d) = refl
answers_done Body = refl
answers_done End = refl

module _ (g : Given Walked) (x : Walked) (w n t b s : List ℕ) (i : Is g x b s) where
  pub started_fine : (v : Step) (w' n' : List ℕ) → x.step ≡ Ok v → n' ≡ head_numbers (headIn x.walker.map) → w' ≡ trail_in x.walker → Goes (started_out w n t g) 0 [] w' n' t b s
  started_fine v w' n' f k j =
      let e : g.result.step ≡ Ok v = ap (λ (y : Walked). y.step) (sym i.result) ∙ f in
      record {
        out =
            record {
              answer = rw e (answers_done v);
              numbers = refl;
              head = rw e (k ∙ goes v n _ ∙ ap (λ (y : Walked). started (Ok v) n (head_numbers (headIn y.walker.map))) i.result);
              table = refl;
              block = i.block;
              store = i.store;
            };
        trail = rw e (j ∙ goes v w _ ∙ ap (λ (y : Walked). started (Ok v) w (trail_in y.walker)) i.result);
      }

  pub started_refused : (e : Refusal) (r : ℕ) → x.step ≡ Err e → r ≡ number e → Goes (started_out w n t g) r [] w n t b s
  started_refused e r f h =
      let a : g.result.step ≡ Err e = ap (λ (y : Walked). y.step) (sym i.result) ∙ f in
      record { out = record { answer = rw a h; numbers = refl; head = rw a; table = refl; block = i.block; store = i.store }; trail = rw a }

module _ (o : Went) (z w n t b s : List ℕ) (c d : Bool) where
  pub goes_sound : (r : ℕ) (z' w' n' t' b' s' : List ℕ) → c ≡ true → d ≡ true → Goes o r z' w' n' t' b' s' → Goes (when c && d then o else lost z w n t b s) r z' w' n' t' b' s'
  goes_sound r z' w' n' t' b' s' e f h = rw (if_true o (lost z w n t b s) (and_both c d e f)) h

  nowhere : (c && d) ≡ false → Goes (when c && d then o else lost z w n t b s) 3 z w n t b s
  nowhere e = rw (if_false o (lost z w n t b s) e) (record { out = record { answer = refl; numbers = refl; head = refl; table = refl; block = refl; store = refl }; trail = refl })

  pub goes_no_map : c ≡ true → d ≡ false → Goes (when c && d then o else lost z w n t b s) 3 z w n t b s
  goes_no_map f e = nowhere (and_false c d e)

  pub goes_no_trail : c ≡ false → Goes (when c && d then o else lost z w n t b s) 3 z w n t b s
  goes_no_trail e = nowhere (rw e)
