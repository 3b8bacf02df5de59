-- How a reading goes on from a map and its loans to those of later, the piece taken from a place to another. Assumes nothing.
use Rattle.leaves.specs.declared.refusals.Refusal.{Refusal}
use Rattle.std.specs.Prelude.{Ok, Result}
use mathlib.Core.Path.{◌≡◌, refl, sym, ap, ◌∙◌}
use mathlib.Core.Bool.{Bool, true, false, false≢true}
use mathlib.Core.List.{List}
use Prim.Native.Nat.{ℕ, ◌+◌, ◌-◌, ◌≤◌, ◌<◌}
use native.Mathlib.Omega.{arith}
use lib.ListN.{length, drop}
use Rattle.maps.specs.Good.{Ready}
use Rattle.maps.specs.declared.HeaderMap.{HeaderMap}
use Rattle.maps.specs.declared.Phase.{Phase}
use Rattle.maps.proofs.GoodBy.{Facts, good_facts}
use Rattle.folds.proofs.ListLaws.{drop_later}
use Rattle.line_reader.specs.Reading.{Rules, Reading, fed}
use Rattle.line_reader.specs.Standing.{rules_of, answering, reading_of}
use Rattle.line_reader.specs.declared.Answer.{Answer}
use Rattle.line_reader.specs.declared.Answer.TheVariants.{More}

-- what no line changes
pub record Frame : Type 0 where
  pub limit : ℕ
  pub room : ℕ
  pub quirks : Bool
  pub edited : Bool
  pub phase : Phase

abbrev pub frame_of : HeaderMap → Frame
frame_of m = record { limit = m.limit; room = m.room; quirks = m.quirks; edited = m.edited; phase = m.phase }

-- the later map is good and its loans are long enough; counts have grown, and nothing past them has changed
pub record Held (p : List ℕ) (m : HeaderMap) (b s : List ℕ) (at : ℕ) (m' : HeaderMap) (b' s' : List ℕ) (at' : ℕ) : Type 0 where
  pub frame : frame_of m' ≡ frame_of m
  pub facts : Facts m'
  pub wide : length m'.table ≡ 256
  pub block : m'.limit ≤ length b'
  pub store : m'.room ≤ length s'
  pub read : at' ≤ length p
  pub taken : m'.count + at ≡ m.count + at'
  pub counts : m.count ≤ m'.count
  pub marks : m.mark ≤ m'.mark
  pub slots : m.fields ≤ m'.fields
  pub long_b : length b' ≡ length b
  pub long_s : length s' ≡ length s
  pub kept_b : drop m'.count b' ≡ drop m'.count b
  pub kept_s : drop m'.mark s' ≡ drop m'.mark s
  pub kept_t : drop m'.fields m'.table ≡ drop m'.fields m.table

pub held_start : {m : HeaderMap} {b s : List ℕ} (p : List ℕ) → Ready m b s → length m.table ≡ 256 → Held p m b s 0 m b s 0
held_start {m} p r w =
    record {
      frame = refl;
      facts = good_facts m r.is_good;
      wide = w;
      block = r.block;
      store = r.store;
      read = omega arith;
      taken = refl;
      counts = omega arith;
      marks = omega arith;
      slots = omega arith;
      long_b = refl;
      long_s = refl;
      kept_b = refl;
      kept_s = refl;
      kept_t = refl;
    }

pub held_on : {p b s b₁ s₁ b₂ s₂ : List ℕ} {m m₁ m₂ : HeaderMap} {at at₁ at₂ : ℕ}
    → Held p m b s at m₁ b₁ s₁ at₁ → Held p m₁ b₁ s₁ at₁ m₂ b₂ s₂ at₂ → Held p m b s at m₂ b₂ s₂ at₂
held_on {p} {b} {s} {b₁} {s₁} {b₂} {s₂} {m} {m₁} {m₂} h k =
    record {
      frame = k.frame ∙ h.frame;
      facts = k.facts;
      wide = k.wide;
      block = k.block;
      store = k.store;
      read = k.read;
      taken = omega (arith, h.taken, k.taken);
      counts = omega (arith, h.counts, k.counts);
      marks = omega (arith, h.marks, k.marks);
      slots = omega (arith, h.slots, k.slots);
      long_b = k.long_b ∙ h.long_b;
      long_s = k.long_s ∙ h.long_s;
      kept_b = k.kept_b ∙ drop_later b₁ b m₁.count m₂.count k.counts h.kept_b;
      kept_s = k.kept_s ∙ drop_later s₁ s m₁.mark m₂.mark k.marks h.kept_s;
      kept_t = k.kept_t ∙ drop_later m₁.table m.table m₁.fields m₂.fields k.slots h.kept_t;
    }

-- a reading that goes on has the rest of the piece before it
abbrev pub go_on : Rules → Bool → Reading → List ℕ → Reading
go_on R true r s = fed R r s
go_on R false r s = r

pub record Feeding (p : List ℕ) (m : HeaderMap) (b s : List ℕ) (at : ℕ) (m' : HeaderMap) (b' s' : List ℕ) (at' : ℕ) (a : Result Answer Refusal) (going : Bool) : Type 0 where
  pub held : Held p m b s at m' b' s' at'
  pub on : going ≡ true → a ≡ Ok More
  pub rest : fed (rules_of m) (reading_of m b s) (drop at p) ≡ go_on (rules_of m) going (answering m' b' s' a) (drop at' p)

pub feeding_start : {m : HeaderMap} {b s : List ℕ} (p : List ℕ) → Ready m b s → length m.table ≡ 256 → Feeding p m b s 0 m b s 0 (Ok More) true
feeding_start p r w = record { held = held_start p r w; on = λ e. refl; rest = refl }

abbrev rules_in : Frame → Rules
rules_in f = record { limit = f.limit; room = f.room; quirks = f.quirks }

pub feeding_on : {p b s b₁ s₁ b₂ s₂ : List ℕ} {m m₁ m₂ : HeaderMap} {at at₁ at₂ : ℕ} {a₁ a₂ : Result Answer Refusal} {g₁ g₂ : Bool}
    → Feeding p m b s at m₁ b₁ s₁ at₁ a₁ g₁ → g₁ ≡ true → Feeding p m₁ b₁ s₁ at₁ m₂ b₂ s₂ at₂ a₂ g₂ → Feeding p m b s at m₂ b₂ s₂ at₂ a₂ g₂
feeding_on {p} {b} {s} {b₁} {s₁} {b₂} {s₂} {m} {m₁} {m₂} {at} {at₁} {at₂} {a₁} {a₂} {g₁} {g₂} f e g =
    let same : rules_of m₁ ≡ rules_of m = ap rules_in f.held.frame in
    record {
      held = held_on f.held g.held;
      on = g.on;
      rest =
          f.rest ∙
          ap (λ (g : Bool). go_on (rules_of m) g (answering m₁ b₁ s₁ a₁) (drop at₁ p)) e ∙
          ap (λ (a : Result Answer Refusal). fed (rules_of m) (answering m₁ b₁ s₁ a) (drop at₁ p)) (f.on e) ∙
          ap (λ (R : Rules). fed R (reading_of m₁ b₁ s₁) (drop at₁ p)) (sym same) ∙
          g.rest ∙
          ap (λ (R : Rules). go_on R g₂ (answering m₂ b₂ s₂ a₂) (drop at₂ p)) same;
    }

-- the measure of a loop over lines: a turn of it takes one, or is the last
abbrev pub one : Bool → ℕ
one true = 1
one false = 0

pub handled_less : (n at at' : ℕ) (going going' : Bool) → going ≡ true → at ≤ at' → at' ≤ n → (going' ≡ true → at < at') → (n - at') + one going' < (n - at) + one going
handled_less n at at' false going' e h k f = absurd (false≢true e)
handled_less n at at' true true e h k f = omega (arith, f refl)
handled_less n at at' true false e h k f = omega arith

pub later : {p b s b' s' : List ℕ} {m m' : HeaderMap} {at at' : ℕ} → Held p m b s at m' b' s' at' → at ≤ at'
later h = omega (arith, h.taken, h.counts)
