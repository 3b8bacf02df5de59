-- A walker beside its map in four lent numbers: its position, what is left of a body, the last header's position, and where it stands. Assumes nothing.
use Rattle.std.specs.Prelude.{Bool, ◌&&◌, List, [], ◌∷◌, ℕ, ◌+◌, ◌-◌, eqb, ltb, length, get_or}
use Rattle.leaves.specs.Choice.{when◌then◌else◌}
use Rattle.leaves.specs.Refusals.{number, refusal}
use Rattle.walker.specs.declared.Stage.{Stage}
use Rattle.walker.specs.declared.Stage.TheVariants.{Between, Header, Body, Cr, Lf, LastCr, LastLf, Ended, Stopped}
use Rattle.walker.specs.declared.Trail.{Trail}

-- where a walker stands is a number; one that was stopped has the refusal's number behind the others
abbrev pub staged : Stage → ℕ
staged Between = 0
staged Header = 1
staged Body = 2
staged Cr = 3
staged Lf = 4
staged LastCr = 5
staged LastLf = 6
staged Ended = 7
staged (Stopped e) = 7 + number e

unfoldable pub low_stage : ℕ → Stage
low_stage n =
    when eqb n 0 then Between
    else when eqb n 1 then Header
    else when eqb n 2 then Body
    else when eqb n 3 then Cr
    else when eqb n 4 then Lf
    else when eqb n 5 then LastCr
    else when eqb n 6 then LastLf
    else Ended

unfoldable pub stage_of : ℕ → Stage
stage_of n = when ltb n 8 then low_stage n else Stopped (refusal (n - 7))

-- the numbers of a trail
abbrev pub trail_numbers : Trail → List ℕ
trail_numbers w = w.position ∷ w.rest ∷ w.start ∷ staged w.stage ∷ []

-- the trail that numbers are
abbrev pub trail_of : List ℕ → Trail
trail_of n = record { position = get_or n 0 0; rest = get_or n 1 0; stage = stage_of (get_or n 3 0); start = get_or n 2 0 }

-- numbers that are a trail's
unfoldable pub sound_trail : List ℕ → Bool
sound_trail n = eqb (length n) 4 && ltb (get_or n 3 0) 21
