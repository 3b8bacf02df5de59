-- A block is tidy exactly if it fits and one pass over its lines finds nothing wrong. Assumes nothing.
use Rattle.std.specs.Prelude.{None, Option, Some}
use mathlib.Core.Path.{◌≡◌, refl, sym, ◌∙◌, ap}
use mathlib.Core.Bool.{Bool, true, false, ◌&&◌, false≢true}
use mathlib.Core.List.{List, [], ◌∷◌, ◌++◌, append_assoc}
use Prim.Native.Nat.{ℕ, ◌≤◌}
use borrow.Author.Tests.{le-leb, leb-true}
use lib.Dec.{leb}
use lib.ListN.{length, take}
use Rattle.leaves.proofs.ChoiceLaws.{and_left, and_right, and_both}
use Rattle.leaves.specs.Octets.{before}
use Rattle.line_reader.specs.Reading.{Rules}
use Rattle.maps.specs.Said.{Pair, Said}
use Rattle.writes.specs.Written.{crlf, status_line, pair_lines, rebuilt}
use Rattle.rebuilds.specs.Clean.{neat, filled, clean_status, clean_pairs, clean, expects, tidy, Rebuilds}
use Rattle.rebuilds.specs.Scan.{neat_line, after_line, scanned}
use Rattle.rebuilds.proofs.TidyBlocks.{tidy_rebuilds, rebuilds_tidy, both}
use Rattle.rebuilds.proofs.ScanLines.{text_at, neat_line_lem, after_line_lem, line_neat, line_is}
use Rattle.rebuilds.proofs.ScanPairs.{scan_clean, scan_lines}

-- the rebuilt block of a clean map passes
scan_rebuilt : (st : Option (List ℕ)) (ps : List Pair) → clean_status st ≡ true → clean_pairs ps ≡ true → length ps ≤ 256
    → scanned (expects st) (rebuilt (record { status = st; pairs = ps })) ≡ true
unfolding scanned rebuilt status_line clean_status
scan_rebuilt None ps n c h = scan_clean ps 256 c h
scan_rebuilt (Some []) ps n c h = absurd (false≢true n)
scan_rebuilt (Some (x ∷ xs)) ps n c h =
    let w : List ℕ = pair_lines ps ++ crlf in
    rw (append_assoc (x ∷ xs) crlf w, text_at (x ∷ xs) w n, after_line_lem (x ∷ xs) w n)
    (and_both _ _ (neat_line_lem (x ∷ xs) w n) (scan_clean ps 256 c h))

-- what passes is the rebuilt block of a clean map
status_filled : (l : List ℕ) → filled l ≡ true → status_line (Some l) ≡ l ++ crlf
unfolding status_line
status_filled [] e = absurd (false≢true e)
status_filled (x ∷ xs) e = refl

rebuilt_scan : (limit : ℕ) (status : Bool) (b : List ℕ) → length b ≤ limit → scanned status b ≡ true → (m : Said) × Rebuilds limit status b m
unfolding scanned rebuilt status_line clean clean_status
rebuilt_scan limit false b z e =
    let r = scan_lines 256 b e in
    (record { status = None; pairs = r.pairs }, record { is_clean = r.is_clean; agrees = refl; few = r.few; fits = z; is = r.is })
rebuilt_scan limit true b z e =
    let s : List ℕ = take (before 13 b) b in
    let f : filled s ≡ true = and_left (filled s) _ e in
    let g = and_right (filled s) _ e in
    let n : neat_line b ≡ true = and_left (neat_line b) _ g in
    let r = scan_lines 256 (after_line b) (and_right (neat_line b) _ g) in (
      record { status = Some s; pairs = r.pairs },
      record {
        is_clean = and_both _ _ (and_both (filled s) (neat s) f (line_neat b n)) r.is_clean;
        agrees = refl;
        few = r.few;
        fits = z;
        is =
            line_is b n ∙ ap (λ (d : List ℕ). s ++ (crlf ++ d)) r.is ∙
            sym (ap (λ (l : List ℕ). l ++ (pair_lines r.pairs ++ crlf)) (status_filled s f) ∙ append_assoc s crlf (pair_lines r.pairs ++ crlf));
      },
    )

rebuilds_scanned : (limit : ℕ) (status : Bool) (b : List ℕ) (m : Said) → Rebuilds limit status b m → scanned status b ≡ true
unfolding clean
rebuilds_scanned limit status b m h =
    rw (h.is, ← h.agrees)
    (scan_rebuilt m.status m.pairs (and_left (clean_status m.status) (clean_pairs m.pairs) h.is_clean)
    (and_right (clean_status m.status) (clean_pairs m.pairs) h.is_clean) h.few)

pub tidy_scanned : (R : Rules) → R.limit ≤ R.room → (status : Bool) (b : List ℕ) → tidy R status b ≡ (leb (length b) R.limit && scanned status b)
tidy_scanned R rooms status b = both (tidy R status b) (leb (length b) R.limit && scanned status b) there back
  where
    there : tidy R status b ≡ true → (leb (length b) R.limit && scanned status b) ≡ true
    there t =
        let h = tidy_rebuilds R status b t in
        and_both (leb (length b) R.limit) (scanned status b) (le-leb _ _ h.fits) (rebuilds_scanned R.limit status b _ h)

    back : (leb (length b) R.limit && scanned status b) ≡ true → tidy R status b ≡ true
    back e =
        let r = rebuilt_scan R.limit status b (leb-true (length b) R.limit (and_left (leb (length b) R.limit) (scanned status b) e)) (and_right (leb (length b) R.limit) (scanned status b) e) in
        rebuilds_tidy R rooms status b r.0 r.1
