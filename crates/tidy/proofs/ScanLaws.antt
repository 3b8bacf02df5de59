-- A pass over a block's lines tells whether it is tidy. Assumes nothing.
use Rattle.std.specs.Prelude.{Err, None, Ok, Some}
use mathlib.Core.Path.{◌≡◌, refl, sym, ap, ◌∙◌}
use mathlib.Core.Bool.{Bool, true, false, ◌&&◌}
use mathlib.Core.List.{List}
use Prim.Native.Nat.{ℕ, zero, suc, ◌+◌, ◌-◌, ◌≤◌, ◌<◌}
use native.Mathlib.Nat.{zero-add, add_assoc}
use native.Mathlib.Omega.{arith}
use borrow.Author.Tests.{le-leb, lt-leb}
use lib.Dec.{leb}
use lib.ListN.{length, take, drop}
use lib.Seq.{drop-drop}
use Rattle.leaves.specs.Choice.{when◌then◌else◌}
use Rattle.leaves.proofs.ChoiceLaws.{and_left, and_right}
use Rattle.leaves.specs.Octets.{before, same_list}
use Rattle.leaves.specs.declared.refusals.Refusal.TheVariants.{BadRooms}
use Rattle.writes.specs.Written.{crlf}
use Rattle.rebuilds.specs.Clean.{filled, tidy}
use Rattle.rebuilds.specs.Scan.{neat_key, neat_line, after_key, after_line, scan_pairs, scanned}
use Rattle.line_reader.specs.Reading.{Rules}
use Rattle.rebuilds.proofs.TidyBlocks.{tidy_flags}
use Rattle.rebuilds.proofs.ScanBlocks.{tidy_scanned}
use Rattle.tidy.specs.Pass.{ends, behind, past_filled, past_pair}
use Rattle.tidy.specs.Calls.{answer, rules, tidying}
use Rattle.tidy.proofs.PassLaws.{past_true, past_place, past_false, after_is, line_ends}

-- at the blank line
pub scan_ends : (n : ℕ) (l : List ℕ) → same_list l crlf ≡ true → scan_pairs n l ≡ true
unfolding scan_pairs
scan_ends zero l e = e
scan_ends (suc n) l e = rw e

pub scan_none : (n : ℕ) (l : List ℕ) → n ≤ 0 → scan_pairs n l ≡ same_list l crlf
unfolding scan_pairs
scan_none zero l h = refl
scan_none (suc n) l h = absurd (omega arith)

-- past a pair
both_pass : (a b c : Bool) → (a && b) ≡ true → (a && (b && c)) ≡ c
both_pass a b c h = rw (and_left a b h, and_right a b h)

one_fails : (a b c : Bool) → (a && b) ≡ false → (a && (b && c)) ≡ false
one_fails true b c h = rw h
one_fails false b c h = refl

module _ (l : List ℕ) (at : ℕ) (q : same_list (drop at l) crlf ≡ false) where
  line_after : (v : ℕ) → v ≡ behind 13 l (behind 58 l at) → after_line (after_key (drop at l)) ≡ drop v l
  line_after v p =
      ap after_line (after_is l at) ∙ drop-drop (before 13 (drop (behind 58 l at) l) + 2) (behind 58 l at) l ∙
      ap (λ (n : ℕ). drop n l) (sym (add_assoc (behind 58 l at) (before 13 (drop (behind 58 l at) l)) 2) ∙ sym p)

  pub scan_more : (n v : ℕ) → 0 < n → Some v ≡ past_pair l at → scan_pairs n (drop at l) ≡ scan_pairs (n - 1) (drop v l)
  unfolding scan_pairs past_pair
  scan_more zero v h e = absurd (omega arith)
  scan_more (suc n) v h e =
      let z : suc n - 1 ≡ n = omega arith in
      let t = past_true (neat_key (drop at l) && neat_line (after_key (drop at l))) (behind 13 l (behind 58 l at)) v e in
      let p = past_place (neat_key (drop at l) && neat_line (after_key (drop at l))) (behind 13 l (behind 58 l at)) v e in
      rw (z, q) (both_pass (neat_key (drop at l)) (neat_line (after_key (drop at l))) (scan_pairs n (after_line (after_key (drop at l)))) t ∙ ap (scan_pairs n) (line_after v p))

  pub scan_stop : (n : ℕ) → 0 < n → None ≡ past_pair l at → scan_pairs n (drop at l) ≡ false
  unfolding scan_pairs past_pair
  scan_stop zero h e = absurd (omega arith)
  scan_stop (suc n) h e =
      let t = past_false (neat_key (drop at l) && neat_line (after_key (drop at l))) (behind 13 l (behind 58 l at)) e in
      rw q (one_fails (neat_key (drop at l)) (neat_line (after_key (drop at l))) (scan_pairs n (after_line (after_key (drop at l)))) t)

-- the status line, and what follows
module _ (l : List ℕ) (status : Bool) where
  module _ (u : status ≡ true) where
    pub status_past : (v : ℕ) → Some v ≡ past_filled 13 10 l 0 → (r : Bool) → r ≡ scan_pairs 256 (drop v l) → r ≡ scanned status l
    unfolding scanned past_filled
    status_past v e r h =
        let t = past_true (filled (take (before 13 l) l) && ends 13 10 l) (behind 13 l 0) v e in
        let p : v ≡ before 13 l + 2 = past_place (filled (take (before 13 l) l) && ends 13 10 l) (behind 13 l 0) v e ∙ ap (λ (n : ℕ). n + 2) (zero-add (before 13 l)) in
        rw (u, line_ends l) (h ∙ ap (λ (n : ℕ). scan_pairs 256 (drop n l)) p ∙ sym (both_pass (filled (take (before 13 l) l)) (ends 13 10 l) (scan_pairs 256 (after_line l)) t))

    pub status_not_past : None ≡ past_filled 13 10 l 0 → false ≡ scanned status l
    unfolding scanned past_filled
    status_not_past e =
        let t = past_false (filled (take (before 13 l) l) && ends 13 10 l) (behind 13 l 0) e in
        rw (u, line_ends l) (sym (one_fails (filled (take (before 13 l) l)) (ends 13 10 l) (scan_pairs 256 (after_line l)) t))

  pub no_status : status ≡ false → (r : Bool) → r ≡ scan_pairs 256 (drop 0 l) → r ≡ scanned status l
  unfolding scanned
  no_status u r h = rw u h

-- by cases of the call
module _ (l : List ℕ) (status quirks : Bool) (limit : ℕ) where
  pub tidy_refused : 65536 < limit → Err BadRooms ≡ tidying l status quirks limit
  unfolding tidying when◌then◌else◌
  tidy_refused h = rw (lt-leb limit 65536 h)

  by : limit ≤ 65536 → (t : Bool) → (leb (length l) limit && scanned status l) ≡ t → answer t ≡ tidying l status quirks limit
  unfolding tidying when◌then◌else◌
  by h t e =
      let z : limit ≤ limit = omega arith in
      rw (le-leb limit 65536 h, tidy_scanned (rules limit quirks) z status l, e)

  pub tidy_long : limit ≤ 65536 → limit < length l → Ok false ≡ tidying l status quirks limit
  tidy_long h k = by h false (rw (lt-leb (length l) limit k))

  pub tidy_by : limit ≤ 65536 → length l ≤ limit → (t : Bool) → scanned status l ≡ t → answer t ≡ tidying l status quirks limit
  tidy_by h k t e = by h t (rw (le-leb (length l) limit k, e))

-- the answer is that of a reading in any room that begin takes
pub tidy_any_room : (l : List ℕ) (status : Bool) (R : Rules) → R.limit ≤ 65536 → R.limit ≤ R.room → tidying l status R.quirks R.limit ≡ answer (tidy R status l)
unfolding tidying when◌then◌else◌
tidy_any_room l status R h k =
    let z : R.limit ≤ R.limit = omega arith in
    rw (le-leb R.limit 65536 h, tidy_flags (rules R.limit R.quirks) R z k refl status l)
