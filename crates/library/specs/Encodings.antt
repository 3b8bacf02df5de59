-- The page to believe, of maps and trails in numbers: nothing is lost on the way there and back. `proofs/EncodingsHold` inhabits `Encodings`. Assumes nothing.
use Rattle.std.specs.Prelude.{◌≡◌, true, List, ℕ, length}
use Rattle.maps.specs.Good.{FitAll, FitStatus}
use Rattle.maps.specs.Heads.{head_of}
use Rattle.maps.specs.declared.HeaderMap.{HeaderMap}
use Rattle.walker.specs.declared.Trail.{Trail}
use Rattle.lent.specs.Table.{numbers_of}
use Rattle.lent.specs.Numbers.{head_numbers, map_of, sound_map}
use Rattle.trails.specs.Trail.{sound_trail, trail_numbers, trail_of}

-- a map of 256 fields; they and its status lie within loans of 65,536 octets
pub record Numbered (m : HeaderMap) : Type 0 where
  pub long : length m.table ≡ 256
  pub fields : FitAll 65536 65536 m.table
  pub status : FitStatus 65536 65536 m.status

pub record Encodings : Type 0 where
  -- every such map and every trail is what its numbers stand for, and they are a map's or a trail's
  pub map_back : (m : HeaderMap) → Numbered m → map_of (head_numbers (head_of m)) (numbers_of m.table) ≡ m
  pub map_sound : (m : HeaderMap) → Numbered m → sound_map (head_numbers (head_of m)) (numbers_of m.table) ≡ true
  pub trail_back : (w : Trail) → trail_of (trail_numbers w) ≡ w
  pub trail_sound : (w : Trail) → sound_trail (trail_numbers w) ≡ true
  -- numbers that are a map's or a trail's are those of the one that they stand for: a call that leaves it leaves them
  pub head_again : (n t : List ℕ) → sound_map n t ≡ true → head_numbers (head_of (map_of n t)) ≡ n
  pub table_again : (n t : List ℕ) → sound_map n t ≡ true → numbers_of (map_of n t).table ≡ t
  pub trail_again : (w : List ℕ) → sound_trail w ≡ true → trail_numbers (trail_of w) ≡ w
