-- The tidy blocks are the rebuilt blocks of clean maps, one for each. Assumes nothing.
use mathlib.Core.Path.{◌≡◌, refl, sym, ◌∙◌, ap, subst}
use mathlib.Core.Bool.{Bool, true, false, ◌&&◌, false≢true}
use mathlib.Core.List.{List}
use Prim.Native.Nat.{ℕ, ◌≤◌}
use native.Mathlib.Omega.{arith}
use borrow.Author.Tests.{eq-eqb, eqb-true}
use lib.Dec.{eqb}
use lib.ListN.{length, length-map}
use Rattle.leaves.proofs.ChoiceLaws.{and_left, and_right}
use Rattle.leaves.specs.Octets.{same_list}
use Rattle.leaves.proofs.NameLaws.{same_list_refl, same_list_eq}
use Rattle.readings.specs.Listening.{said, at_blank}
use Rattle.readings.proofs.Kept.{begun_sound, fed_within}
use Rattle.line_reader.specs.Reading.{Rules, Reading, fed, begun}
use Rattle.maps.specs.Said.{Said, pair_at}
use Rattle.writes.specs.Written.{rebuilt}
use Rattle.rebuilds.specs.Clean.{clean, expects, Gives, alike, tidy_after, tidy, Rebuilds}
use Rattle.rebuilds.proofs.ReadsBack.{back}

alike_same : (a b : Bool) → alike a b ≡ true → a ≡ b
alike_same true b e = sym e
alike_same false true e = absurd (false≢true e)
alike_same false false e = refl

alike_refl : (a : Bool) → alike a a ≡ true
alike_refl true = refl
alike_refl false = refl

-- the reading r of the block b passes the test
module _ (status : Bool) (b : List ℕ) (r : Reading) (t : tidy_after status b r ≡ true) where
  after_blank : (at_blank r.answer && (clean (said r) && (alike (expects (said r).status) status && same_list (rebuilt (said r)) b))) ≡ true
  unfolding tidy_after
  after_blank = and_right (eqb (length r.block) (length b)) _ t

  after_length : length r.block ≡ length b
  unfolding tidy_after
  after_length = eqb-true (length r.block) (length b) (and_left (eqb (length r.block) (length b)) _ t)

  after_clean : (clean (said r) && (alike (expects (said r).status) status && same_list (rebuilt (said r)) b)) ≡ true
  after_clean = and_right (at_blank r.answer) _ after_blank

  after_status : (alike (expects (said r).status) status && same_list (rebuilt (said r)) b) ≡ true
  after_status = and_right (clean (said r)) _ after_clean

  after_rebuilds : (limit : ℕ) → length r.block ≤ limit → length (said r).pairs ≤ 256 → Rebuilds limit status b (said r)
  after_rebuilds limit h k =
      record {
        is_clean = and_left (clean (said r)) _ after_clean;
        agrees = alike_same (expects (said r).status) status (and_left (alike (expects (said r).status) status) _ after_status);
        few = k;
        fits = omega (arith, after_length);
        is = sym (same_list_eq (rebuilt (said r)) b (and_right (alike (expects (said r).status) status) _ after_status));
      }

said_few : (r : Reading) → length r.found.fields ≤ 256 → length (said r).pairs ≤ 256
unfolding said
said_few r h = rw (length-map r.found.fields (pair_at r.block r.found.store)) h

-- a tidy block is the rebuilt block of what its reading says
pub tidy_rebuilds : (R : Rules) (status : Bool) (b : List ℕ) → tidy R status b ≡ true → Rebuilds R.limit status b (said (fed R (begun status) b))
unfolding tidy
tidy_rebuilds R status b t =
    let r = fed R (begun status) b in
    let w = fed_within R (begun status) b (begun_sound R status) in
    after_rebuilds status b r t R.limit w.limit (said_few r w.few)

gives_tidy : (m : Said) (r : Reading) → clean m ≡ true → Gives (rebuilt m) m r → tidy_after (expects m.status) (rebuilt m) r ≡ true
unfolding tidy_after
gives_tidy m r c g =
    rw (g.says, g.answer, g.block, eq-eqb (length (rebuilt m)) (length (rebuilt m)) refl, c, alike_refl (expects m.status))
    (same_list_refl (rebuilt m))

-- the rebuilt block of a clean map is tidy, if it fits
pub clean_tidy : (R : Rules) → R.limit ≤ R.room → (m : Said) → clean m ≡ true → length m.pairs ≤ 256 → length (rebuilt m) ≤ R.limit
    → tidy R (expects m.status) (rebuilt m) ≡ true
unfolding tidy
clean_tidy R rooms m c h z = gives_tidy m (fed R (begun (expects m.status)) (rebuilt m)) c (back R rooms m c h z)

-- and every rebuilt block of a clean map that keeps within the limits is tidy
pub rebuilds_tidy : (R : Rules) → R.limit ≤ R.room → (status : Bool) (b : List ℕ) (m : Said) → Rebuilds R.limit status b m → tidy R status b ≡ true
rebuilds_tidy R rooms status b m h =
    let z : length (rebuilt m) ≤ R.limit = rw h.is at h.fits in
    rw (h.is, ← h.agrees) (clean_tidy R rooms m h.is_clean h.few z)

-- at most one tidy block has a given reading
pub tidy_one : (R : Rules) (status : Bool) (b b' : List ℕ) → tidy R status b ≡ true → tidy R status b' ≡ true
    → said (fed R (begun status) b) ≡ said (fed R (begun status) b') → b ≡ b'
tidy_one R status b b' t t' e = (tidy_rebuilds R status b t).is ∙ ap rebuilt e ∙ sym (tidy_rebuilds R status b' t').is

-- "of all complete blocks with that reading exactly this one is tidy"
pub tidy_exactly : (R : Rules) → R.limit ≤ R.room → (m : Said) → clean m ≡ true → length m.pairs ≤ 256 → length (rebuilt m) ≤ R.limit
    → (b : List ℕ) → Gives b m (fed R (begun (expects m.status)) b)
    → (tidy R (expects m.status) b ≡ true → b ≡ rebuilt m) × (b ≡ rebuilt m → tidy R (expects m.status) b ≡ true)
tidy_exactly R rooms m c h z b g = (
  λ t. (tidy_rebuilds R (expects m.status) b t).is ∙ ap rebuilt g.says,
  λ e. ap (tidy R (expects m.status)) e ∙ clean_tidy R rooms m c h z,
)

-- two tests that pass together are the same
pub both : (p q : Bool) → (p ≡ true → q ≡ true) → (q ≡ true → p ≡ true) → p ≡ q
both true q f g = sym (f refl)
both false true f g = g refl
both false false f g = refl

-- neither quirks nor the store's room matter, if the room is no less than the limit
pub tidy_flags : (R R' : Rules) → R.limit ≤ R.room → R'.limit ≤ R'.room → R.limit ≡ R'.limit → (status : Bool) (b : List ℕ) → tidy R status b ≡ tidy R' status b
tidy_flags R R' rooms rooms' e status b = both (tidy R status b) (tidy R' status b) (carry R R' rooms' e) (carry R' R rooms (sym e))
  where
    carry : (R R' : Rules) → R'.limit ≤ R'.room → R.limit ≡ R'.limit → tidy R status b ≡ true → tidy R' status b ≡ true
    carry R R' rooms' e t =
        let m = said (fed R (begun status) b) in
        rebuilds_tidy R' rooms' status b m (subst (λ (n : ℕ). Rebuilds n status b m) e (tidy_rebuilds R status b t))
