-- The tests of a map, as facts. Assumes nothing.
use Rattle.std.specs.Prelude.{Err, Ok, Result, IsErrAnd, ⊤}
use Rattle.std.proofs.lemmas.Result.{err_from_is_err_and}
use mathlib.Core.Path.{◌≡◌, refl, sym, ap, ◌∙◌}
use mathlib.Core.Bool.{Bool, true, false, ◌&&◌, false≢true}
use mathlib.Core.List.{List, []}
use Prim.Native.Nat.{ℕ, suc, ◌≤◌, ◌<◌}
use native.Mathlib.Omega.{arith}
use borrow.Author.Tests.{leb-true, le-leb, lt-leb}
use lib.Dec.{leb}
use lib.ListN.{length, get_or, drop, drop_of_length-le}
use lib.Seq.{drop-cons}
use Rattle.leaves.proofs.ChoiceLaws.{and_left, and_right, clash}
use Rattle.maps.proofs.GoodBy.{good_facts}
use Rattle.maps.specs.Good.{good_place, good_field, good_fields, good, lent, first_of, checked, checked_reading, checked_done, unless, is_reading, is_done, Ready}
use Rattle.maps.specs.declared.BlockOffset.{BlockOffset}
use Rattle.maps.specs.declared.StoreOffset.{StoreOffset}
use Rattle.maps.specs.declared.Field.{Field}
use Rattle.maps.specs.declared.Place.TheVariants.{Block, Store}
use Rattle.maps.specs.declared.Phase.{Phase}
use Rattle.maps.specs.declared.Phase.TheVariants.{Reading, Done}
use Rattle.leaves.specs.declared.refusals.Refusal.{Refusal}
use Rattle.leaves.specs.declared.refusals.Refusal.TheVariants.{ShortLoan, BadMap, WrongPhase}
use Rattle.maps.specs.declared.HeaderMap.{HeaderMap}

-- a test and what is asked behind it
pub and_go : (a b : Bool) → a ≡ true → b ≡ (a && b)
and_go true b e = refl
and_go false b e = absurd (false≢true e)

pub and_stop : (a b : Bool) → a ≡ false → false ≡ (a && b)
and_stop true b e = absurd (false≢true (sym e))
and_stop false b e = refl

module _ (count mark : ℕ) where
  module _ (a b : BlockOffset) (from to : ℕ) (e : from ≡ a.0) (f : to ≡ b.0) where
    pub block_good : from ≤ to → leb to count ≡ good_place count mark (Block a b)
    block_good h =
        let k : leb a.0 b.0 ≡ true = le-leb a.0 b.0 (omega arith) in
        rw f (and_go (leb a.0 b.0) (leb b.0 count) k)

    pub block_bad : to < from → false ≡ good_place count mark (Block a b)
    block_bad h = and_stop (leb a.0 b.0) (leb b.0 count) (lt-leb a.0 b.0 (omega arith))

  module _ (a b : StoreOffset) (from to : ℕ) (e : from ≡ a.0) (f : to ≡ b.0) where
    pub store_good : from ≤ to → leb to mark ≡ good_place count mark (Store a b)
    store_good h =
        let k : leb a.0 b.0 ≡ true = le-leb a.0 b.0 (omega arith) in
        rw f (and_go (leb a.0 b.0) (leb b.0 mark) k)

    pub store_bad : to < from → false ≡ good_place count mark (Store a b)
    store_bad h = and_stop (leb a.0 b.0) (leb b.0 mark) (lt-leb a.0 b.0 (omega arith))

  -- the loop over the fields
  pub fields_next : (xs : List Field) (i : ℕ) (d : Field) → i < length xs
      → good_fields count mark (drop i xs) ≡ (good_field count mark (get_or xs i d) && good_fields count mark (drop (suc i) xs))
  unfolding good_fields
  fields_next xs i d h = rw (drop-cons xs i d h)

  pub fields_end : (xs : List Field) (i : ℕ) → length xs ≤ i → good_fields count mark (drop i xs) ≡ true
  unfolding good_fields
  fields_end xs i h = rw (drop_of_length-le xs h)

pub no_fields : (count mark : ℕ) → good_fields count mark [] ≡ true
unfolding good_fields
no_fields count mark = refl

-- what the first checks say
module _ (ready : Bool) (m : HeaderMap) (b s : ℕ) where
  pub checked_bad : good m ≡ false → Err BadMap ≡ checked ready m b s
  unfolding checked
  checked_bad e = rw e

  pub checked_short : good m ≡ true → lent m b s ≡ false → Err ShortLoan ≡ checked ready m b s
  unfolding checked
  checked_short e f = rw (e, f)

  pub checked_wrong : good m ≡ true → lent m b s ≡ true → ready ≡ false → Err WrongPhase ≡ checked ready m b s
  unfolding checked
  checked_wrong e f g = rw (e, f, g)

  pub checked_fine : good m ≡ true → lent m b s ≡ true → ready ≡ true → Ok tt ≡ checked ready m b s
  unfolding checked
  checked_fine e f g = rw (e, f, g)

-- what a call gives whose first checks pass, and one that they refuse
module _ {A : Type 0} (f : Refusal → A) (go : A) where
  pub goes_on : (c : Result ⊤ Refusal) → Ok tt ≡ c → unless c f go ≡ go
  goes_on c e = rw (sym e)

  pub refused_by : (c : Result ⊤ Refusal) (x : Refusal) → Err x ≡ c → unless c f go ≡ f x
  refused_by c x e = rw (sym e)

abbrev Passes : Bool → Bool → Bool → Type 0
Passes g l r = (g ≡ true) × (l ≡ true) × (r ≡ true)

pub not_refused : {A : Type 0} (x : Refusal) → Ok (tt {0}) ≡ Err x → A
not_refused x p = clash (cc)

passes : (g l r : Bool) → Ok tt ≡ first_of g l r → Passes g l r
passes false l r e = clash (cc)
passes true false r e = clash (cc)
passes true true false e = clash (cc)
passes true true true e = (refl, refl, refl)

pub checked_passes : (ready : Bool) (m : HeaderMap) (b s : ℕ) → Ok tt ≡ checked ready m b s → Passes (good m) (lent m b s) ready
unfolding checked
checked_passes ready m b s e = passes (good m) (lent m b s) ready e

phase_reading : (p : Phase) → is_reading p ≡ true → p ≡ Reading
phase_reading Reading e = refl
phase_reading Done e = absurd (false≢true e)

phase_done : (p : Phase) → is_done p ≡ true → p ≡ Done
phase_done Reading e = absurd (false≢true e)
phase_done Done e = refl

pub is_reading_lem : (m : HeaderMap) (b s : List ℕ) → Ok tt ≡ checked_reading m b s → m.phase ≡ Reading
is_reading_lem m b s e = phase_reading m.phase (checked_passes _ m _ _ e).2

pub is_done_lem : (m : HeaderMap) (b s : List ℕ) → Ok tt ≡ checked_done m b s → m.phase ≡ Done
is_done_lem m b s e = phase_done m.phase (checked_passes _ m _ _ e).2

-- so the map is ready
pub ready_of : (ready : Bool) (m : HeaderMap) (b s : List ℕ) → Ok tt ≡ checked ready m (length b) (length s) → Ready m b s
ready_of ready m b s e =
    let p = checked_passes ready m (length b) (length s) e in
    let f = good_facts m p.0 in
    record {
      is_good = p.0;
      small = f.small;
      least = f.least;
      most = f.most;
      count = f.count;
      mark = f.mark;
      line = f.line;
      few = f.few;
      block = leb-true _ _ (and_left (leb m.limit (length b)) (leb m.room (length s)) p.1);
      store = leb-true _ _ (and_right (leb m.limit (length b)) (leb m.room (length s)) p.1);
      status = f.status;
      fields = f.fields;
    }

-- a refusal that `?` hands on
pub handed_on : {T : Type 0} (r t : Result T Refusal) (x : Refusal) → IsErrAnd r (λ y. y ≡ x) → Err x ≡ t → r ≡ t
handed_on r t x h e = let p = err_from_is_err_and r h in p.1 ∙ ap Err p.2 ∙ e
