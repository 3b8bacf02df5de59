-- What the code that handles a line needs, and what its arms give. Assumes nothing.
use Rattle.leaves.specs.declared.refusals.Refusal.{Refusal}
use Rattle.std.specs.Prelude.{Err, Ok, Result}
use mathlib.Core.Path.{◌≡◌, refl, sym, ap, ◌∙◌}
use mathlib.Core.Bool.{Bool, true, false}
use mathlib.Core.List.{List, ◌++◌}
use Prim.Native.Nat.{ℕ, ◌+◌, ◌-◌, ◌≤◌, ◌<◌}
use native.Mathlib.Omega.{arith}
use borrow.Author.Tests.{eqb-true, lt-ltb, le-ltb}
use lib.Dec.{eqb}
use lib.ListN.{length, take, drop, length-drop}
use lib.Seq.{drop_at, length-take-le}
use Rattle.leaves.proofs.ChoiceLaws.{if_true, if_false}
use Rattle.leaves.proofs.PasteLaws.{drop_take}
use Rattle.lines.specs.Line.{taken, cr_before, Takes}
use Rattle.lines.specs.declared.Took.{Took}
use Rattle.maps.specs.Good.{Fit, lies_in_block}
use Rattle.maps.specs.Maps.{Is}
use Rattle.maps.specs.Places.{no_field}
use Rattle.maps.specs.declared.Field.{Field}
use Rattle.maps.specs.declared.Head.{Head}
use Rattle.maps.proofs.FitLaws.{fit_mono}
use Rattle.folds.specs.Asks.{FoldReady, Changes}
use Rattle.folds.specs.Rule.{ends_block}
use Rattle.folds.specs.declared.Change.{Change}
use Rattle.folds.specs.declared.Change.TheVariants.{Nothing, Status as Headed, Put}
use Rattle.folds.proofs.ListLaws.{take_pasted}
use Rattle.line_reader.specs.Lying.{Lying}
use Rattle.line_reader.specs.Handling.{Able, Puts, slot_of, counted, next_line, handled_by, stops_at, ruling_at, handling, line_ended, handled_took, next_handled, last_handled}
use Rattle.line_reader.specs.declared.Answer.{Answer}
use Rattle.line_reader.specs.declared.Answer.TheVariants.{More, Blank, Input}
use Rattle.line_reader.specs.declared.Handled.{Handled}
use Rattle.line_reader.proofs.FitLaws.{FineC, rule4_fine}

none_fits : Fit 65536 65536 no_field
none_fits = record { key = lies_in_block 0 0 (omega arith) (omega arith); value = lies_in_block 0 0 (omega arith) (omega arith) }

-- a change within its limits puts its field into the table
fine_puts : (b mark fields room : ℕ) (new : List ℕ) (c : Result Change Refusal) → b ≤ 65536 → room ≤ 65536 → FineC b mark fields room new c → Puts c
fine_puts b mark fields room new (Ok Nothing) h k f = record { slot = omega arith; field = none_fits }
fine_puts b mark fields room new (Ok (Headed p)) h k f = record { slot = omega arith; field = none_fits }
fine_puts b mark fields room new (Ok (Put slot x to)) h k f = record { slot = f.few; field = fit_mono h (omega (arith, f.fits)) f.fit }
fine_puts b mark fields room new (Err e) h k f = record { slot = omega arith; field = none_fits }

pub none_puts : Puts (Ok Nothing)
none_puts = record { slot = omega arith; field = none_fits }

module _ {h : Head} {last : Field} {b s : List ℕ} (able : Able h last b s) where
  pub count_long : length (take h.count b) ≡ h.count
  count_long = length-take-le h.count b (omega (arith, able.count, able.block))

  pub fold_ready : FoldReady b s h.line h.count last h.fields h.room h.mark
  fold_ready =
      record {
        order = able.line;
        inside = omega (arith, able.count, able.block);
        small = omega (arith, able.count, able.small);
        marked = able.mark;
        roomy = able.store;
        most = able.most;
        few = able.few;
        value = λ some. (able.fits some).value;
      }

  pub fine : FineC h.count h.mark h.fields h.room (ruling_at h last b s).new (ruling_at h last b s).change
  fine =
      (rule4_fine h.count h.mark h.fields h.room able.few able.mark (take h.count b) (take h.mark s) h.line h.awaits last
      (omega (arith, count_long, able.line)) (omega (arith, count_long)) able.fits).is

  pub puts : Puts (ruling_at h last b s).change
  puts = fine_puts _ _ _ _ _ (ruling_at h last b s).change (omega (arith, able.count, able.small)) able.most fine

  pub slot_few : (c : Result Change Refusal) → c ≡ (ruling_at h last b s).change → slot_of c < 256
  slot_few c e = rw e puts.slot

  -- a line that rule 4 handled
  pub is_handled : {s' : List ℕ} {c : Result Change Refusal} {r : Handled} (taken : ℕ) (a : Result Answer Refusal) (going : Bool)
      → Changes (ruling_at h last b s) s h.mark s' c → r ≡ handled_by h c taken a going → Is (handling h last b s taken a going) r b s'
  is_handled {s'} {c} {r} taken a going w e =
      record { result = e ∙ ap (λ (c : Result Change Refusal). handled_by h c taken a going) w.is; block = refl; store = w.wrote }

  -- the line, as the code cuts it out and as rule 4 does
  pub line_cut : drop h.line (take h.count b) ≡ take (h.count - h.line) (drop h.line b)
  line_cut = drop_take h.line h.count b

  module _ (taken : ℕ) where
    pub ended_blank : ends_block h.quirks (take (h.count - h.line) (drop h.line b)) ≡ true
        → line_ended h last b s taken ≡ record { result = stops_at (next_line h) taken (Ok Blank); block = b; store = s }
    unfolding line_ended
    ended_blank e = if_true _ _ (rw line_cut e)

    pub ended_on : ends_block h.quirks (take (h.count - h.line) (drop h.line b)) ≡ false → line_ended h last b s taken ≡ handling h last b s taken (Ok More) true
    unfolding line_ended
    ended_on e = if_false _ _ (rw line_cut e)

  pub last_left : h.line < h.count → last_handled h last b s ≡ handling h last b s 0 (Ok Input) false
  unfolding last_handled
  last_left l = if_true _ _ (lt-ltb h.line h.count l)

  pub last_none : h.count ≤ h.line → last_handled h last b s ≡ record { result = stops_at h 0 (Ok Input); block = b; store = s }
  unfolding last_handled
  last_none l = if_false _ _ (le-ltb h.line h.count l)

  -- what take_line took
  module _ (p : List ℕ) (at : ℕ) {b' : List ℕ} {took : Took} (w : Takes h.quirks (cr_before b h.line h.count) (h.limit - h.count) h.count (drop at p) b b' took) where
    pub next_handled_by : next_handled h last b s p at ≡ handled_took h last b' s at took
    unfolding next_handled
    next_handled_by = sym (rw (w.wrote, w.is))

    pub more_able : length b' ≡ length b → Able (counted h (taken took)) last b' s
    more_able e =
        record {
          small = able.small;
          most = able.most;
          count = omega (arith, able.count, w.fits);
          mark = able.mark;
          line = omega (arith, able.line);
          few = able.few;
          block = omega (arith, able.block, e);
          store = able.store;
          fits = λ some. fit_mono (omega arith) (omega arith) (able.fits some);
        }

    pub read_more : at ≤ length p → at + taken took ≤ length p
    read_more l = omega (arith, w.within, length-drop at p)

    -- the octets taken lie in the block behind those of before
    pub take_more : take (h.count + taken took) b' ≡ take h.count b ++ take (taken took) (drop at p)
    take_more =
        let l : length (take (taken took) (drop at p)) ≡ taken took = length-take-le (taken took) (drop at p) w.within in
        rw (l, ← w.wrote) at (take_pasted b h.count (take (taken took) (drop at p)) (omega (arith, able.count, able.block)))

    -- a line that begins with what was taken lies whole in the piece
    pub lies : at ≤ length p → Lying p at (taken took) (take (h.count + taken took - h.line) (drop h.line b')) (eqb h.line h.count)
    lies l =
        record {
          inside = read_more l;
          same = λ e.
              sym (drop_take h.line (h.count + taken took) b') ∙ ap (drop h.line) take_more ∙
              ap (λ (n : ℕ). drop n (take h.count b ++ take (taken took) (drop at p))) (eqb-true h.line h.count e) ∙
              drop_at (take h.count b) (take (taken took) (drop at p)) h.count count_long;
        }
