-- What makes a map good, and the refusals that every call makes first. Assumes nothing.
use Rattle.std.specs.Prelude.{◌≡◌, Bool, true, false, ◌&&◌, List, [], ◌∷◌, ℕ, ◌≤◌, leb, length, take, Err, None, Ok, Option, Result, Some, ⊤}
use Rattle.leaves.specs.declared.refusals.Refusal.{Refusal}
use Rattle.leaves.specs.Refusals.{refusal}
use Rattle.maps.specs.Places.{in_block, in_store}
use Rattle.maps.specs.declared.Place.{Place}
use Rattle.maps.specs.declared.Place.TheVariants.{Block, Store}
use Rattle.maps.specs.declared.Field.{Field}
use Rattle.maps.specs.declared.Phase.{Phase}
use Rattle.maps.specs.declared.Phase.TheVariants.{Reading, Done}
use Rattle.maps.specs.declared.HeaderMap.{HeaderMap}

-- "default 32,768"
abbrev pub default_limit : ℕ
default_limit = 32768

-- "Limit: 0 to 65,536", "Store room: from the limit to 65,536"
abbrev pub good_rooms : ℕ → ℕ → Bool
good_rooms limit room = leb limit 65536 && (leb limit room && leb room 65536)

-- not "count over limit, mark over room, line start over count, over 256 fields"
abbrev pub good_counts : ℕ → ℕ → ℕ → ℕ → ℕ → ℕ → Bool
good_counts limit room count mark line fields = leb count limit && (leb mark room && (leb line count && leb fields 256))

-- not "a place reversed or past its mark (block places: the count)"
abbrev pub good_place : ℕ → ℕ → Place → Bool
good_place count mark (Block a e) = leb a.0 e.0 && leb e.0 count
good_place count mark (Store a e) = leb a.0 e.0 && leb e.0 mark

abbrev pub good_status : ℕ → ℕ → Option Place → Bool
good_status count mark None = true
good_status count mark (Some p) = good_place count mark p

abbrev pub good_field : ℕ → ℕ → Field → Bool
good_field count mark x = good_place count mark x.key && good_place count mark x.value

unfoldable pub good_fields : ℕ → ℕ → List Field → Bool
good_fields count mark [] = true
good_fields count mark (x ∷ xs) = good_field count mark x && good_fields count mark xs

-- the fields that count
abbrev pub live : HeaderMap → List Field
live m = take m.fields m.table

-- 3 is given for a map that is not good
unfoldable pub good : HeaderMap → Bool
good m =
    good_rooms m.limit m.room &&
    (good_counts m.limit m.room m.count m.mark m.line m.fields &&
    (good_status m.count m.mark m.status && good_fields m.count m.mark (live m)))

-- 2 is given for a "block lent shorter than limit, or store than room"
abbrev pub lent : HeaderMap → ℕ → ℕ → Bool
lent m b s = leb m.limit b && leb m.room s

abbrev pub is_reading : Phase → Bool
is_reading Reading = true
is_reading Done = false

abbrev pub is_done : Phase → Bool
is_done Reading = false
is_done Done = true

-- "Every other map call checks 3, 2, 7"
abbrev pub first_of : Bool → Bool → Bool → Result ⊤ Refusal
first_of false long ready = Err (refusal 3)
first_of true false ready = Err (refusal 2)
first_of true true false = Err (refusal 7)
first_of true true true = Ok tt

unfoldable pub checked : Bool → HeaderMap → ℕ → ℕ → Result ⊤ Refusal
checked ready m b s = first_of (good m) (lent m b s) ready

-- "7 feed or finish on Done; any other call but begin and clear on Reading"
abbrev pub checked_reading : HeaderMap → List ℕ → List ℕ → Result ⊤ Refusal
checked_reading m b s = checked (is_reading m.phase) m (length b) (length s)

abbrev pub checked_done : HeaderMap → List ℕ → List ℕ → Result ⊤ Refusal
checked_done m b s = checked (is_done m.phase) m (length b) (length s)

-- by what the first checks said
abbrev pub unless {ℓ} : {A : Type ℓ} → Result ⊤ Refusal → (Refusal → A) → A → A
unless (Ok _) refuse go = go
unless (Err x) refuse go = refuse x

-- a place that is not reversed, nor past b in the block or s in the store
pub data Fits (b s : ℕ) : Place → Type 0 where
  lies_in_block : (x y : ℕ) → x ≤ y → y ≤ b → Fits b s (in_block x y)
  lies_in_store : (x y : ℕ) → x ≤ y → y ≤ s → Fits b s (in_store x y)

pub record Fit (b s : ℕ) (x : Field) : Type 0 where
  pub key : Fits b s x.key
  pub value : Fits b s x.value

pub data FitAll (b s : ℕ) : List Field → Type 0 where
  fit_none : FitAll b s []
  fit_more : {x : Field} {xs : List Field} → Fit b s x → FitAll b s xs → FitAll b s (x ∷ xs)

pub data FitStatus (b s : ℕ) : Option Place → Type 0 where
  fit_absent : FitStatus b s None
  fit_at : {p : Place} → Fits b s p → FitStatus b s (Some p)

-- a good map with long enough loans, as facts
pub record Ready (m : HeaderMap) (b s : List ℕ) : Type 0 where
  pub is_good : good m ≡ true
  pub small : m.limit ≤ 65536
  pub least : m.limit ≤ m.room
  pub most : m.room ≤ 65536
  pub count : m.count ≤ m.limit
  pub mark : m.mark ≤ m.room
  pub line : m.line ≤ m.count
  pub few : m.fields ≤ 256
  pub block : m.limit ≤ length b
  pub store : m.room ≤ length s
  pub status : FitStatus m.count m.mark m.status
  pub fields : FitAll m.count m.mark (live m)
