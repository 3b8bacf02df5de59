-- What a map says, part by part. Assumes nothing.
use Rattle.std.specs.Prelude.{Option}
use mathlib.Core.Path.{◌≡◌, refl}
use mathlib.Core.List.{List, map}
use Prim.Native.Nat.{ℕ}
use Rattle.maps.specs.Good.{live}
use Rattle.maps.specs.Said.{Pair, Said, pair_at, status_at, saying}
use Rattle.maps.specs.declared.HeaderMap.{HeaderMap}

pub said_is : (m : HeaderMap) (b s : List ℕ) → saying m b s ≡ record { status = status_at b s m.status; pairs = map (pair_at b s) (live m) }
unfolding saying
said_is m b s = refl

pub pair_same : (k k' v v' : List ℕ) → k ≡ k' → v ≡ v' → ◌≡◌ {A = Pair} (record { key = k; value = v }) (record { key = k'; value = v' })
pair_same k k' v v' e g = rw (e, g)

pub said_same : (t t' : Option (List ℕ)) (ps ps' : List Pair) → t ≡ t' → ps ≡ ps'
    → ◌≡◌ {A = Said} (record { status = t; pairs = ps }) (record { status = t'; pairs = ps' })
said_same t t' ps ps' e g = rw (e, g)
