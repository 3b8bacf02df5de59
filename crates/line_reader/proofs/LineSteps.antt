-- What a line makes of a reading, for each table whose last field it was given. Assumes nothing.
use Rattle.maps.specs.declared.Place.{Place}
use Rattle.leaves.specs.declared.refusals.Refusal.{Refusal}
use Rattle.std.specs.Prelude.{Err, Ok, Option, Result, Some}
use mathlib.Core.Path.{◌≡◌, refl, ap, ◌∙◌}
use mathlib.Core.Bool.{Bool, true, false, false≢true}
use mathlib.Core.List.{List, [], ◌∷◌, ◌++◌}
use Prim.Native.Nat.{ℕ, ◌+◌, ◌-◌, ◌≤◌, ◌<◌}
use native.Mathlib.Omega.{arith}
use native.Mathlib.Numerals.{add-one}
use lib.Dec.{ltb}
use lib.ListN.{length, take, drop, get_or, set, length-take, length-set}
use lib.Seq.{get_or-take, length-take-le, take-take, take-suc-set, drop-set-lt, drop-drop}
use Rattle.leaves.specs.Paste.{pasted}
use Rattle.leaves.proofs.ChoiceLaws.{by_if, if_true, if_false}
use Rattle.leaves.proofs.PasteLaws.{length_pasted}
use Rattle.lines.specs.Line.{taken, cr_before, Takes}
use Rattle.lines.specs.declared.Took.{Took}
use Rattle.lines.specs.declared.Took.TheVariants.{Line, More as Piece, Full as Limit}
use Rattle.lines.proofs.LineLaws.{line_some}
use Rattle.maps.specs.Good.{Fit, FitStatus, fit_at}
use Rattle.maps.specs.Heads.{under}
use Rattle.maps.specs.Maps.{Given, Is}
use Rattle.maps.specs.Places.{no_field}
use Rattle.maps.specs.declared.Field.{Field}
use Rattle.maps.specs.declared.Head.{Head}
use Rattle.maps.specs.declared.HeaderMap.{HeaderMap}
use Rattle.maps.proofs.FitLaws.{all_mono, status_mono, all_snoc, all_take, all_get}
use Rattle.maps.proofs.GoodBy.{Facts}
use Rattle.folds.specs.Rule.{Ruling, ends_block}
use Rattle.folds.specs.declared.Change.{Change}
use Rattle.folds.specs.declared.Change.TheVariants.{Nothing, Status as Headed, Put}
use Rattle.folds.proofs.ListLaws.{take_pasted, drop_pasted, pasted_none}
use Rattle.line_reader.specs.Reading.{Rules, Gathered, Reading, ruled, lined, closed, fed, finished}
use Rattle.line_reader.specs.Standing.{rules_of, answering, reading_of}
use Rattle.line_reader.specs.Handling.{Able, Puts, put_in, head_with, counted, next_line, head_by, answer_by, going_by, stops_at, ruling_at, handling, line_ended, handled_took, took_at, next_handled, last_handled}
use Rattle.line_reader.specs.declared.Answer.{Answer}
use Rattle.line_reader.specs.declared.Answer.TheVariants.{More, Blank, Input}
use Rattle.line_reader.specs.declared.Handled.{Handled}
use Rattle.line_reader.proofs.FitLaws.{Putting, FineC, ruled_table}
use Rattle.line_reader.proofs.OctetSteps.{cr_cut, still, onward, by_line, taking_short}
use Rattle.line_reader.proofs.HandlingLaws.{count_long, fine, puts, none_puts, read_more, take_more}
use Rattle.line_reader.proofs.HeldLaws.{Held, held_on, go_on, Feeding}

-- a table under a head with its last field, over loans that are long enough
pub record Seated (t : List Field) (h : Head) (x : Field) (b s : List ℕ) : Type 0 where
  pub facts : Facts (under t h)
  pub wide : length t ≡ 256
  pub block : h.limit ≤ length b
  pub store : h.room ≤ length s
  pub last : x ≡ get_or t (h.fields - 1) no_field

pub seated : {p b₀ s₀ b s : List ℕ} {m : HeaderMap} {at₀ at : ℕ} (t : List Field) (h : Head) → Held p m b₀ s₀ at₀ (under t h) b s at
    → {i : ℕ} → i ≡ h.fields - 1 → Seated t h (get_or t i no_field) b s
seated t h k {i} place =
    record {
      facts = k.facts;
      wide = k.wide;
      block = k.block;
      store = k.store;
      last = ap (λ (n : ℕ). get_or t n no_field) place;
    }

-- what a line that is handled is to a table t under the head h: a step of the reading, which takes octets if it goes on
pub record Handles (p : List ℕ) (t : List Field) (h : Head) (b s : List ℕ) (at : ℕ) (r : Handled) (b' s' : List ℕ) : Type 0 where
  pub feeds : Feeding p (under t h) b s at (under (put_in t r.change) r.head) b' s' r.taken r.answer r.going
  pub further : r.going ≡ true → at < r.taken
  pub puts : Puts r.change

-- and what the end of input is
pub record Ended (t : List Field) (h : Head) (b s : List ℕ) (r : Handled) (b' s' : List ℕ) : Type 0 where
  pub held : Held [] (under t h) b s 0 (under (put_in t r.change) r.head) b' s' 0
  pub says : finished (rules_of (under t h)) (reading_of (under t h) b s) ≡ answering (under (put_in t r.change) r.head) b' s' r.answer
  pub puts : Puts r.change

-- the map and the store after a line that rule 4 handles
abbrev map_by : List Field → Head → Field → List ℕ → List ℕ → HeaderMap
map_by t h x b s = under (put_in t (ruling_at h x b s).change) (head_by h (ruling_at h x b s).change)

abbrev store_by : Head → Field → List ℕ → List ℕ → List ℕ
store_by h x b s = pasted s h.mark (ruling_at h x b s).new

-- a refused line stops the reading, every other lets it go on
on_by : (c : Result Change Refusal) → going_by true c ≡ true → answer_by (Ok More) c ≡ Ok More
on_by (Ok Nothing) e = refl
on_by (Ok (Headed p)) e = refl
on_by (Ok (Put slot x to)) e = refl
on_by (Err r) e = absurd (false≢true e)

go_by : (R : Rules) (m : HeaderMap) (b s : List ℕ) (c : Result Change Refusal) (xs : List ℕ)
    → fed R (answering m b s (answer_by (Ok More) c)) xs ≡ go_on R (going_by true c) (answering m b s (answer_by (Ok More) c)) xs
go_by R m b s (Ok Nothing) xs = refl
go_by R m b s (Ok (Headed p)) xs = refl
go_by R m b s (Ok (Put slot x to)) xs = refl
go_by R m b s (Err r) xs = still R (answering m b s (Err r)) refl xs

module _ {t : List Field} {h : Head} {x : Field} {b s : List ℕ} (w : Seated t h x b s) where
  last_fits : 0 < h.fields → Fit h.count h.mark x
  last_fits some =
      let l : h.fields - 1 < h.fields = omega arith in
      let q : h.fields - 1 < length (take h.fields t) = omega (arith, length-take h.fields t, w.wide, w.facts.few) in
      rw (get_or-take h.fields t (h.fields - 1) no_field l, ← w.last) at (all_get (h.fields - 1) no_field q w.facts.fields)

  pub able : Able h x b s
  able =
      record {
        small = w.facts.small;
        most = w.facts.most;
        count = w.facts.count;
        mark = w.facts.mark;
        line = w.facts.line;
        few = w.facts.few;
        block = w.block;
        store = w.store;
        fits = last_fits;
      }

  s_long : h.mark ≤ length s
  s_long = omega (arith, w.facts.mark, w.store)

  ruled_is : ruled (rules_of (under t h)) (reading_of (under t h) b s) ≡ ruling_at h x b s
  ruled_is =
      rw w.last
      (ruled_table (rules_of (under t h)) (take h.count b) s h.line h.awaits t h.fields h.mark no_field
      (omega (arith, w.wide, w.facts.few)) s_long (reading_of (under t h) b s) refl refl refl refl refl)

  -- the next line, another status: the rest stays
  held_same : (p : List ℕ) (at : ℕ) → at ≤ length p → (l : ℕ) (st : Option Place) (aw : Bool) → l ≤ h.count → FitStatus h.count h.mark st
      → Held p (under t h) b s at (under t (head_with h h.count l h.mark h.fields st aw)) b s at
  held_same p at r l st aw i f =
      record {
        frame = refl;
        facts =
            record {
              small = w.facts.small;
              least = w.facts.least;
              most = w.facts.most;
              count = w.facts.count;
              mark = w.facts.mark;
              line = i;
              few = w.facts.few;
              status = f;
              fields = w.facts.fields;
            };
        wide = w.wide;
        block = w.block;
        store = w.store;
        read = r;
        taken = refl;
        counts = omega arith;
        marks = omega arith;
        slots = omega arith;
        long_b = refl;
        long_s = refl;
        kept_b = refl;
        kept_s = refl;
        kept_t = refl;
      }

  module _ (new : List ℕ) (slot : ℕ) (y : Field) (to : ℕ) (q : Putting h.count h.mark h.fields h.room new slot y to) where
    take_store : take to (pasted s h.mark new) ≡ take h.mark s ++ new
    take_store = rw (← q.goal) at (take_pasted s h.mark new s_long)

    drop_store : drop to (pasted s h.mark new) ≡ drop to s
    drop_store = rw (← q.goal) at (drop_pasted s h.mark new s_long)

    take_table : take (slot + 1) (set t slot y) ≡ take slot (take h.fields t) ++ y ∷ []
    take_table =
        let n : slot ≤ h.fields = q.near in
        let i : slot < length t = omega (arith, q.few, w.wide) in
        rw (add-one, take-suc-set t slot y i, take-take slot h.fields t n)

    store_long : length (pasted s h.mark new) ≡ length s
    store_long = length_pasted s h.mark new (omega (arith, q.goal, q.fits, w.store))

    held_put : (p : List ℕ) (at : ℕ) → at ≤ length p → Held p (under t h) b s at (under (set t slot y) (head_by h (Ok (Put slot y to)))) b (pasted s h.mark new) at
    held_put p at r =
        record {
          frame = refl;
          facts =
              record {
                small = w.facts.small;
                least = w.facts.least;
                most = w.facts.most;
                count = w.facts.count;
                mark = q.fits;
                line = omega arith;
                few = omega (arith, q.few);
                status = status_mono (omega arith) (omega (arith, q.goal)) w.facts.status;
                fields = rw take_table (all_snoc (all_take slot (all_mono (omega arith) (omega (arith, q.goal)) w.facts.fields)) q.fit);
              };
          wide = length-set t slot y ∙ w.wide;
          block = w.block;
          store = omega (arith, store_long, w.store);
          read = r;
          taken = refl;
          counts = omega arith;
          marks = omega (arith, q.goal);
          slots = q.reach;
          long_b = refl;
          long_s = store_long;
          kept_b = refl;
          kept_s = drop_store;
          kept_t = drop-set-lt (slot + 1) t slot y (omega arith);
        }

  -- a line that rule 4 handles: what is held, and what the reading becomes with the answer a
  handled_held : (p : List ℕ) (at : ℕ) → at ≤ length p → (new : List ℕ) (c : Result Change Refusal) → FineC h.count h.mark h.fields h.room new c
      → Held p (under t h) b s at (under (put_in t c) (head_by h c)) b (pasted s h.mark new) at
  handled_held p at r new (Ok Nothing) f = rw (f, pasted_none s h.mark) (held_same p at r h.count h.status h.awaits (omega arith) w.facts.status)
  handled_held p at r new (Ok (Headed q)) f = rw (f.0, pasted_none s h.mark) (held_same p at r h.count (Some q) false (omega arith) (fit_at f.1))
  handled_held p at r new (Ok (Put slot y to)) f = held_put new slot y to f p at r
  handled_held p at r new (Err e) f = rw (f, pasted_none s h.mark) (held_same p at r h.line h.status h.awaits w.facts.line w.facts.status)

  handled_says : (a : Result Answer Refusal) (new : List ℕ) (c : Result Change Refusal) → FineC h.count h.mark h.fields h.room new c
      → lined (reading_of (under t h) b s) a new c ≡ answering (under (put_in t c) (head_by h c)) b (pasted s h.mark new) (answer_by a c)
  handled_says a new (Ok Nothing) f = rw (f, pasted_none s h.mark, count_long able)
  handled_says a new (Ok (Headed q)) f = rw (f.0, pasted_none s h.mark, count_long able)
  handled_says a new (Ok (Put slot y to)) f = rw (count_long able, take_table new slot y to f, take_store new slot y to f)
  handled_says a new (Err e) f = rw (f, pasted_none s h.mark)

  -- the same of what rule 4 says of the line
  line_held : (p : List ℕ) (at : ℕ) → at ≤ length p → Held p (under t h) b s at (map_by t h x b s) b (store_by h x b s) at
  line_held p at r = handled_held p at r _ (ruling_at h x b s).change (fine able)

  line_says : (a : Result Answer Refusal) → lined (reading_of (under t h) b s) a (ruled (rules_of (under t h)) (reading_of (under t h) b s)).new (ruled (rules_of (under t h)) (reading_of (under t h) b s)).change
      ≡ answering (map_by t h x b s) b (store_by h x b s) (answer_by a (ruling_at h x b s).change)
  line_says a =
      ap (λ (g : Ruling). lined (reading_of (under t h) b s) a g.new g.change) ruled_is ∙
      handled_says a (ruling_at h x b s).new (ruling_at h x b s).change (fine able)

-- what take_line took
module _ {t : List Field} {h : Head} {x : Field} {b s : List ℕ} (w : Seated t h x b s) (p : List ℕ) (at : ℕ) (read : at ≤ length p) (b' : List ℕ) (k : ℕ) where
  abbrev Took-is : Took → Type 0
  Took-is took = Takes h.quirks (cr_before b h.line h.count) (h.limit - h.count) h.count (drop at p) b b' took

  module _ (took : Took) (o : taken took ≡ k) (v : Took-is took) where
    piece_length : length (take k (drop at p)) ≡ k
    piece_length = length-take-le k (drop at p) (rw o at v.within)

    wrote : b' ≡ pasted b h.count (take k (drop at p))
    wrote = rw o at v.wrote

    b_long : h.count ≤ length b
    b_long = omega (arith, w.facts.count, w.block)

    more_long : length b' ≡ length b
    more_long = ap length wrote ∙ length_pasted b h.count (take k (drop at p)) (omega (arith, piece_length, rw o at v.fits, w.facts.count, w.block))

    more_block : take (h.count + k) b' ≡ take h.count b ++ take k (drop at p)
    more_block = rw o at (take_more (able w) p at v)

    more_held : Held p (under t h) b s at (under t (counted h k)) b' s (at + k)
    more_held =
        record {
          frame = refl;
          facts =
              record {
                small = w.facts.small;
                least = w.facts.least;
                most = w.facts.most;
                count = omega (arith, w.facts.count, rw o at v.fits);
                mark = w.facts.mark;
                line = omega (arith, w.facts.line);
                few = w.facts.few;
                status = status_mono (omega arith) (omega arith) w.facts.status;
                fields = all_mono (omega arith) (omega arith) w.facts.fields;
              };
          wide = w.wide;
          block = omega (arith, more_long, w.block);
          store = w.store;
          read = omega (arith, rw o at (read_more (able w) p at v read));
          taken = omega arith;
          counts = omega arith;
          marks = omega arith;
          slots = omega arith;
          long_b = more_long;
          long_s = refl;
          kept_b = rw (piece_length, ← wrote) at (drop_pasted b h.count (take k (drop at p)) b_long);
          kept_s = refl;
          kept_t = refl;
        }

    abbrev gathered : Gathered
    gathered = record { awaits = h.awaits; status = h.status; fields = take h.fields t; store = take h.mark s }

    rest_more : fed (rules_of (under t h)) (reading_of (under t h) b s) (drop at p)
        ≡ onward (rules_of (under t h)) h.line gathered (take h.count b) (drop at p) took
    rest_more =
        let l : length (take h.count b) ≡ h.count = count_long (able w) in
        by_line (rules_of (under t h)) h.line gathered (h.limit - h.count) (take h.count b) (drop at p)
        (omega (arith, w.facts.line)) (omega (arith, w.facts.count)) ∙
        rw (l, cr_cut b h.line h.count b_long, ← v.is)

  module _ (v : Took-is (Line k)) where
    abbrev after : Head
    after = counted h k

    next : Seated t after x b' s
    next =
        let n = more_held (Line k) refl v in
        record { facts = n.facts; wide = n.wide; block = n.block; store = n.store; last = w.last }

    rest_line : fed (rules_of (under t h)) (reading_of (under t h) b s) (drop at p)
        ≡ fed (rules_of (under t h)) (closed (rules_of (under t h)) (reading_of (under t after) b' s)) (drop (at + k) p)
    rest_line = rest_more (Line k) refl v ∙ rw (← more_block (Line k) refl v, drop-drop)

    abbrev LineHandled : Given Handled → Type 0
    LineHandled g = Handles p t h b s at g.result g.block g.store

    line_blank : ends_block h.quirks (drop h.line (take (h.count + k) b')) ≡ true
        → LineHandled (record { result = stops_at (next_line after) (at + k) (Ok Blank); block = b'; store = s })
    unfolding closed
    line_blank e =
        let n = more_held (Line k) refl v in
        record {
          feeds =
              record {
                held = held_on n (held_same next p (at + k) n.read (h.count + k) h.status h.awaits (omega arith) n.facts.status);
                on = λ e. absurd (false≢true e);
                rest =
                    rest_line ∙
                    ap (λ (r : Reading). fed (rules_of (under t h)) r (drop (at + k) p)) (if_true _ _ e ∙ rw (count_long (able next))) ∙
                    still (rules_of (under t h)) (answering (under t (next_line after)) b' s (Ok Blank)) refl (drop (at + k) p);
              };
          further = λ e. absurd (false≢true e);
          puts = none_puts;
        }

    line_on : ends_block h.quirks (drop h.line (take (h.count + k) b')) ≡ false → LineHandled (handling after x b' s (at + k) (Ok More) true)
    unfolding closed
    line_on e =
        let n = more_held (Line k) refl v in
        let some : 0 < k = line_some _ _ _ _ _ v.is in
        record {
          feeds =
              record {
                held = held_on n (line_held next p (at + k) n.read);
                on = on_by (ruling_at after x b' s).change;
                rest =
                    rest_line ∙
                    ap (λ (r : Reading). fed (rules_of (under t h)) r (drop (at + k) p)) (if_false _ _ e ∙ line_says next (Ok More)) ∙
                    go_by (rules_of (under t h)) (map_by t after x b' s) b' (store_by after x b' s) (ruling_at after x b' s).change (drop (at + k) p);
              };
          further = λ e. omega arith;
          puts = puts (able next);
        }

    line_handled : LineHandled (line_ended after x b' s (at + k))
    unfolding line_ended
    line_handled = by_if LineHandled _ _ _ line_blank line_on

module _ {t : List Field} {h : Head} {x : Field} {b s : List ℕ} (w : Seated t h x b s) (p : List ℕ) (at : ℕ) (read : at ≤ length p) where
  took_handled : (b' : List ℕ) (took : Took) → Took-is w p at read b' (taken took) took
      → Handles p t h b s at (handled_took h x b' s at took).result (handled_took h x b' s at took).block (handled_took h x b' s at took).store
  took_handled b' (Piece k) v =
      record {
        feeds =
            record {
              held = more_held w p at read b' k (Piece k) refl v;
              on = λ e. refl;
              rest = rest_more w p at read b' k (Piece k) refl v ∙ rw (more_block w p at read b' k (Piece k) refl v);
            };
        further = λ e. absurd (false≢true e);
        puts = none_puts;
      }
  took_handled b' (Limit k) v =
      record {
        feeds =
            record {
              held = more_held w p at read b' k (Limit k) refl v;
              on = λ e. absurd (false≢true e);
              rest = rest_more w p at read b' k (Limit k) refl v ∙ rw (more_block w p at read b' k (Limit k) refl v);
            };
        further = λ e. absurd (false≢true e);
        puts = none_puts;
      }
  took_handled b' (Line k) v = line_handled w p at read b' k v

  abbrev filled : List ℕ
  filled = pasted b h.count (take (taken (took_at h b p at)) (drop at p))

  takes : Took-is w p at read filled (taken (took_at h b p at)) (took_at h b p at)
  takes =
      let q = taking_short h.quirks (cr_before b h.line h.count) (h.limit - h.count) (drop at p) in
      record { is = refl; within = q.1; fits = q.0; wrote = refl }

  pub handled_is : {r : Handled} {b' s' : List ℕ} → Is (next_handled h x b s p at) r b' s' → Handles p t h b s at r b' s'
  unfolding next_handled
  handled_is i = rw (i.result, i.block, i.store) (took_handled filled (took_at h b p at) takes)

module _ {t : List Field} {h : Head} {x : Field} {b s : List ℕ} (w : Seated t h x b s) where
  finish_by : ltb h.line h.count ≡ true → finished (rules_of (under t h)) (reading_of (under t h) b s)
      ≡ lined (reading_of (under t h) b s) (Ok Input) (ruled (rules_of (under t h)) (reading_of (under t h) b s)).new (ruled (rules_of (under t h)) (reading_of (under t h) b s)).change
  unfolding finished
  finish_by e = if_false _ _ refl ∙ if_true _ _ (rw (count_long (able w)) e)

  finish_none : ltb h.line h.count ≡ false → finished (rules_of (under t h)) (reading_of (under t h) b s) ≡ answering (under t h) b s (Ok Input)
  unfolding finished
  finish_none e = if_false _ _ refl ∙ if_false _ _ (rw (count_long (able w)) e)

  abbrev Ends : Given Handled → Type 0
  Ends g = Ended t h b s g.result g.block g.store

  left_ends : ltb h.line h.count ≡ true → Ends (handling h x b s 0 (Ok Input) false)
  left_ends e = record { held = line_held w [] 0 (omega arith); says = finish_by e ∙ line_says w (Ok Input); puts = puts (able w) }

  none_ends : ltb h.line h.count ≡ false → Ends (record { result = stops_at h 0 (Ok Input); block = b; store = s })
  none_ends e =
      record {
        held = held_same w [] 0 (omega arith) h.line h.status h.awaits w.facts.line w.facts.status;
        says = finish_none e;
        puts = none_puts;
      }

  pub end_is : {r : Handled} {b' s' : List ℕ} → Is (last_handled h x b s) r b' s' → Ended t h b s r b' s'
  unfolding last_handled
  end_is i = rw (i.result, i.block, i.store) (by_if Ends _ _ _ left_ends none_ends)
