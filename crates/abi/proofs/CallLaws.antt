-- What the exported calls give, by what the calls below give. Assumes nothing.
use Rattle.std.specs.Prelude.{Err, None, Ok, Option, Some}
use mathlib.Core.Path.{◌≡◌, refl, sym, ap, ◌∙◌, subst}
use mathlib.Core.Bool.{Bool, true, false}
use mathlib.Core.List.{List, []}
use Prim.Native.Nat.{ℕ, zero, suc, ◌+◌, ◌-◌, ◌≤◌, ◌<◌}
use native.Mathlib.Omega.{arith}
use lib.Dec.{eqb}
use borrow.Author.Tests.{eqb-true}
use lib.ListN.{length, get_or, drop}
use Rattle.leaves.specs.Choice.{when◌then◌else◌}
use Rattle.leaves.proofs.ChoiceLaws.{by_if, if_true, if_false, and_left, clash}
use Rattle.leaves.specs.Refusals.{number}
use Rattle.leaves.specs.declared.refusals.Refusal.{Refusal}
use Rattle.leaves.specs.declared.refusals.Refusal.TheVariants.{BadMap}
use Rattle.maps.specs.Maps.{Given, Is}
use Rattle.maps.specs.Heads.{head_of as headIn}
use Rattle.maps.specs.Good.{live, checked_done}
use Rattle.maps.proofs.GoodLaws.{goes_on, refused_by, ready_of}
use Rattle.maps.specs.declared.Head.{Head}
use Rattle.maps.specs.declared.HeaderMap.{HeaderMap}
use Rattle.maps.specs.declared.Place.{Place}
use Rattle.maps.specs.declared.Field.{Field}
use Rattle.lookups.specs.Lookups.{named, seeking, finding, slot_of, shown_status}
use Rattle.lookups.proofs.HandLaws.{slot_fine, slot_wrong, status_fine}
use Rattle.reader.specs.declared.Made.{Made}
use Rattle.lent.specs.Table.{map_in, field_at, fields_from, numbers_of}
use Rattle.lent.specs.Numbers.{head_numbers, status_of, sound_map, long_map, map_of}
use Rattle.lent.proofs.LentLaws.{numbers_again, fields_at, fields_take, drop_fields}
use Rattle.abi.specs.Calls.{Out, Gave, damaged, out_of, begun_out, open_for, fields_tell, two_tell, Lies, place_lies, none_lies, handed_lies, look_lies, Sight, Sees, Below, seen_at, find_sees, Told, Tells, tells_damaged, Put, Puts, puts_damaged}

-- a call over the numbers themselves: those at its end are the map's, and no others are
module _ {A : Type 0} (answer : A → ℕ) (numbers : A → List ℕ) (map : A → HeaderMap) where
  pub changed : (g : Given A) (x : A) (r : ℕ) (h : Head) (n t b s : List ℕ) → Is g x b s → r ≡ answer x → map x ≡ map_in t h → n ≡ head_numbers h → length t ≡ 1024
      → Gave (out_of answer numbers map g) r (numbers x) n t b s
  changed g x r h n t b s i e f k l =
      record {
        answer = e ∙ ap answer i.result;
        numbers = ap numbers i.result;
        head = k ∙ ap (λ (m : HeaderMap). head_numbers (headIn m)) (sym f ∙ ap map i.result);
        table = sym (numbers_again t l) ∙ ap (λ (m : HeaderMap). numbers_of m.table) (sym f ∙ ap map i.result);
        block = i.block;
        store = i.store;
      }

-- begin
module _ (g : Given Made) (x : Made) (n t b s : List ℕ) (i : Is g x b s) where
  pub begun_fine : (n' : List ℕ) → x.answer ≡ Ok tt → n' ≡ head_numbers (headIn x.map) → Gave (begun_out n t g) 0 [] n' t b s
  begun_fine n' e k =
      let a : g.result.answer ≡ Ok tt = ap (λ (y : Made). y.answer) (sym i.result) ∙ e in
      record {
        answer = rw a;
        numbers = refl;
        head = rw a (k ∙ ap (λ (y : Made). head_numbers (headIn y.map)) i.result);
        table = refl;
        block = i.block;
        store = i.store;
      }

  pub begun_refused : (e : Refusal) (r : ℕ) → x.answer ≡ Err e → r ≡ number e → Gave (begun_out n t g) r [] n t b s
  begun_refused e r f h =
      let a : g.result.answer ≡ Err e = ap (λ (y : Made). y.answer) (sym i.result) ∙ f in
      record { answer = rw a h; numbers = refl; head = rw a; table = refl; block = i.block; store = i.store }

module _ (o : Out) (z n t b s : List ℕ) (c : Bool) where
  pub gave_sound : (r : ℕ) (z' n' t' b' s' : List ℕ) → c ≡ true → Gave o r z' n' t' b' s' → Gave (when c then o else damaged z n t b s) r z' n' t' b' s'
  gave_sound r z' n' t' b' s' e h = rw (if_true o (damaged z n t b s) e) h

  -- the same part by part, as the search takes it
  pub gave_parts : (r : ℕ) (z' n' t' b' s' : List ℕ) → c ≡ true → r ≡ o.answer → z' ≡ o.numbers → n' ≡ o.head → t' ≡ o.table → b' ≡ o.block → s' ≡ o.store
      → Gave (when c then o else damaged z n t b s) r z' n' t' b' s'
  gave_parts r z' n' t' b' s' e p q u v x y = gave_sound r z' n' t' b' s' e (record { answer = p; numbers = q; head = u; table = v; block = x; store = y })

  pub gave_damaged : c ≡ false → Gave (when c then o else damaged z n t b s) 3 z n t b s
  gave_damaged e = rw (if_false o (damaged z n t b s) e) (record { answer = refl; numbers = refl; head = refl; table = refl; block = refl; store = refl })

-- the first checks of a call that only looks
module _ (n t b s : List ℕ) where
  pub record Opens : Type 0 where
    pub sound : sound_map n t ≡ true
    pub fine : Ok tt ≡ checked_done (map_of n t) b s

  pub open_sound : sound_map n t ≡ true → open_for n t b s ≡ checked_done (map_of n t) b s
  unfolding open_for
  open_sound e = if_true (checked_done (map_of n t) b s) (Err BadMap) e

  pub open_damaged : sound_map n t ≡ false → open_for n t b s ≡ Err BadMap
  unfolding open_for
  open_damaged e = if_false (checked_done (map_of n t) b s) (Err BadMap) e

  opens_by : (c : Bool) → sound_map n t ≡ c → Ok tt ≡ open_for n t b s → Opens
  opens_by true e f = record { sound = e; fine = f ∙ open_sound e }
  opens_by false e f = let g : Ok tt ≡ Err BadMap = f ∙ open_damaged e in clash (cc)

  pub opens : Ok tt ≡ open_for n t b s → Opens
  opens f = opens_by (sound_map n t) refl f

  -- how many fields there are
  pub fields_fine : (k r : ℕ) → Ok tt ≡ open_for n t b s → r ≡ 0 → (k' : ℕ) → k' ≡ (map_of n t).fields → Tells (fields_tell n t k b s) r k'
  unfolding fields_tell
  fields_fine k r f e k' g = rw (goes_on {A = Told} (λ (x : Refusal). record { answer = number x; number = k }) (record { answer = 0; number = (map_of n t).fields }) (open_for n t b s) f) (record { answer = e; number = g })

  pub fields_refused : (k r : ℕ) (x : Refusal) → Err x ≡ open_for n t b s → r ≡ number x → Tells (fields_tell n t k b s) r k
  unfolding fields_tell
  fields_refused k r x f e = rw (refused_by {A = Told} (λ (y : Refusal). record { answer = number y; number = k }) (record { answer = 0; number = (map_of n t).fields }) (open_for n t b s) x f) (record { answer = e; number = refl })

  -- places that are handed out
  module _ (f e : ℕ) (p : Option Place) where
    pub lies_refused : (x : Refusal) (r : ℕ) → Err x ≡ open_for n t b s → r ≡ number x → Lies (look_lies n t f e b s p) r f e
    unfolding look_lies
    lies_refused x r k q = rw (refused_by (λ (y : Refusal). none_lies (number y) f e) (handed_lies f e p) (open_for n t b s) x k) (record { answer = q; from = refl; to = refl })

    pub lies_fine : (r f' e' : ℕ) → Ok tt ≡ open_for n t b s → Lies (handed_lies f e p) r f' e' → Lies (look_lies n t f e b s p) r f' e'
    unfolding look_lies
    lies_fine r f' e' k q = rw (goes_on (λ (x : Refusal). none_lies (number x) f e) (handed_lies f e p) (open_for n t b s) k) q

  -- two maps
  module _ (m u : List ℕ) (both : ℕ) where
    pub two_refused : (x : Refusal) (r : ℕ) → Err x ≡ open_for n t b s → r ≡ number x → r ≡ two_tell n t b s m u both
    unfolding two_tell
    two_refused x r f h = h ∙ sym (refused_by number (when sound_map m u then both else 3) (open_for n t b s) x f)

    pub two_second : Ok tt ≡ open_for n t b s → sound_map m u ≡ false → 3 ≡ two_tell n t b s m u both
    unfolding two_tell
    two_second f h = sym (goes_on number (when sound_map m u then both else 3) (open_for n t b s) f ∙ if_false both 3 h)

    pub two_both : (r : ℕ) → Ok tt ≡ open_for n t b s → sound_map m u ≡ true → r ≡ both → r ≡ two_tell n t b s m u both
    unfolding two_tell
    two_both r f h q = q ∙ sym (goes_on number (when sound_map m u then both else 3) (open_for n t b s) f ∙ if_true both 3 h)

  -- a lookup by name
  module _ (k f e : ℕ) (name : List ℕ) (from : ℕ) where
    seen : sound_map n t ≡ true → find_sees n t k f e b s name from ≡ seen_at (map_of n t) k f e (finding (map_of n t) b s name from)
    unfolding find_sees
    seen h = if_true _ _ h

    refused_in : (x : Refusal) (r : ℕ) → r ≡ number x → (g : Sight) → g ≡ record { number = k; place = none_lies (number x) f e } → Sees g r k f e
    refused_in x r q g h = rw h (record { number = refl; place = record { answer = q; from = refl; to = refl } })

    sees_by : (c : Bool) → sound_map n t ≡ c → (x : Refusal) (r : ℕ) → Err x ≡ open_for n t b s → r ≡ number x → Sees (find_sees n t k f e b s name from) r k f e
    unfolding find_sees finding
    sees_by true h x r o q =
        let c : finding (map_of n t) b s name from ≡ Err x = refused_by Err (Ok (seeking (named b s name) from (drop from (live (map_of n t))))) (checked_done (map_of n t) b s) x (o ∙ open_sound h) in
        refused_in x r q (find_sees n t k f e b s name from) (seen h ∙ ap (seen_at (map_of n t) k f e) c)
    sees_by false h x r o q =
        let w : Err x ≡ Err BadMap = o ∙ open_damaged h in
        let v : x ≡ BadMap = cc in
        refused_in x r q (find_sees n t k f e b s name from) (if_false _ _ h ∙ ap (λ (y : Refusal). record { number = k; place = none_lies (number y) f e }) (sym v))

    pub sees_refused : (x : Refusal) (r : ℕ) → Err x ≡ open_for n t b s → r ≡ number x → Sees (find_sees n t k f e b s name from) r k f e
    sees_refused x r o q = sees_by (sound_map n t) refl x r o q

    pub sees_fine : (found : Option ℕ) (r k' f' e' : ℕ) → Ok tt ≡ open_for n t b s → found ≡ seeking (named b s name) from (drop from (live (map_of n t)))
        → Sees (seen_at (map_of n t) k f e (Ok found)) r k' f' e' → Sees (find_sees n t k f e b s name from) r k' f' e'
    unfolding finding
    sees_fine found r k' f' e' o q h =
        let w = opens o in
        let c : finding (map_of n t) b s name from ≡ Ok found = goes_on Err (Ok (seeking (named b s name) from (drop from (live (map_of n t))))) (checked_done (map_of n t) b s) w.fine ∙ ap Ok (sym q) in
        rw (seen w.sound ∙ ap (seen_at (map_of n t) k f e) c) h

pub told_damaged : (o : Told) (k : ℕ) (c : Bool) → c ≡ false → Tells (when c then o else tells_damaged k) 3 k
told_damaged o k c e = rw (if_false o (tells_damaged k) e) (record { answer = refl; number = refl })

pub told_sound : (o : Told) (k r k' : ℕ) (c : Bool) → c ≡ true → r ≡ o.answer → k' ≡ o.number → Tells (when c then o else tells_damaged k) r k'
told_sound o k r k' c e p q = rw (if_true o (tells_damaged k) e) (record { answer = p; number = q })

pub put_damaged : (o : Put) (k : ℕ) (d : List ℕ) (c : Bool) → c ≡ false → Puts (when c then o else puts_damaged k d) 3 k d
put_damaged o k d c e = rw (if_false o (puts_damaged k d) e) (record { answer = refl; number = refl; out = refl })

pub put_sound : (o : Put) (k : ℕ) (d : List ℕ) (r k' : ℕ) (d' : List ℕ) (c : Bool) → c ≡ true → r ≡ o.answer → k' ≡ o.number → d' ≡ o.out
    → Puts (when c then o else puts_damaged k d) r k' d'
put_sound o k d r k' d' c e p q u = rw (if_true o (puts_damaged k d) e) (record { answer = p; number = q; out = u })

-- a field that a search among the first of a table finds is one of them
below_by : (p : Field → Bool) (t : List ℕ) (n k i : ℕ) → k ≡ n - i → n ≤ 256 → Below (seeking p i (fields_from t i k))
unfolding seeking fields_from
below_by p t n zero i e h = tt
below_by p t n (suc k) i e h =
    let l : i < 256 = omega (arith, e, h) in
    let d : k ≡ n - (i + 1) = omega (arith, e) in
    by_if Below (p (field_at t i)) (Some i) (seeking p (i + 1) (fields_from t (i + 1) k)) (λ _. l) (λ _. below_by p t n k (i + 1) d h)

pub seek_below : (p : Field → Bool) (t : List ℕ) (n i : ℕ) → n ≤ 256 → Below (seeking p i (fields_from t i (n - i)))
seek_below p t n i h = below_by p t n (n - i) i refl h

-- the field that was found
pub found_few : (found : Option ℕ) (i : ℕ) → found ≡ Some i → Below found → i < 256
found_few found i q b = rw q at b

module _ (t : List ℕ) (h : Head) (k f e : ℕ) (found : Option ℕ) where
  pub seen_found : (i : ℕ) (x : Field) (r f' e' : ℕ) → found ≡ Some i → Below found → x ≡ field_at t i → Lies (place_lies x.value) r f' e' → Sees (seen_at (map_in t h) k f e (Ok found)) r i f' e'
  seen_found i x r f' e' q b w l =
      let v : Lies (place_lies (field_at t i).value) r f' e' = rw w at l in
      rw (q, fields_at t 256 i (found_few found i q b)) (record { number = refl; place = v })

  pub seen_missing : found ≡ None → Sees (seen_at (map_in t h) k f e (Ok found)) 68 k f e
  seen_missing q = rw q (record { number = refl; place = record { answer = refl; from = refl; to = refl } })

-- what was seen with a head is so with what the head is
pub seen_of : (t : List ℕ) {h g : Head} → h ≡ g → (k f e : ℕ) (found : Option ℕ) {r k' f' e' : ℕ} → Sees (seen_at (map_in t h) k f e (Ok found)) r k' f' e' → Sees (seen_at (map_in t g) k f e (Ok found)) r k' f' e'
seen_of t q k f e found {r} {k'} {f'} {e'} s = subst (λ (x : Head). Sees (seen_at (map_in t x) k f e (Ok found)) r k' f' e') q s

-- a map whose first checks passed: its fields and its status
module _ (n t b s : List ℕ) (o : Ok tt ≡ open_for n t b s) where
  pub few : get_or n 5 0 ≤ 256
  few = (ready_of _ (map_of n t) b s (opens n t b s o).fine).few

  pub slot_there : (i : ℕ) → i < get_or n 5 0 → slot_of (map_of n t) b s i ≡ Some (field_at t i)
  slot_there i h = let l : i < 256 = omega (arith, h, few) in slot_fine (map_of n t) b s i (opens n t b s o).fine h ∙ ap Some (fields_at t 256 i l)

  pub slot_none : (i : ℕ) → get_or n 5 0 ≤ i → slot_of (map_of n t) b s i ≡ None
  slot_none i h = slot_wrong (map_of n t) b s i (opens n t b s o).fine h

  pub status_there : shown_status (map_of n t) b s ≡ status_of (get_or n 6 0) (get_or n 7 0) (get_or n 8 0)
  status_there = status_fine (map_of n t) b s (opens n t b s o).fine

  pub sought : (p : Field → Bool) (from : ℕ) → seeking p from (fields_from t from (get_or n 5 0 - from)) ≡ seeking p from (drop from (live (map_of n t)))
  sought p from = ap (seeking p from) (sym (ap (drop from) (fields_take t 0 256 (get_or n 5 0) few) ∙ drop_fields t (get_or n 5 0) from))

-- as many numbers as a map's
pub long_head : (n t : List ℕ) → long_map n t ≡ true → length n ≡ 13
unfolding long_map
long_head n t h = eqb-true _ _ (and_left (eqb (length n) 13) _ h)
