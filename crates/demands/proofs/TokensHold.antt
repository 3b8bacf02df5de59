-- There are 77 octets that a token may have. Assumes nothing.
use mathlib.Core.Path.{◌≡◌, refl}
use Rattle.leaves.specs.Octets.{has}
use Rattle.leaves.specs.Class.{token, separator}
use Rattle.demands.specs.Tokens.{counted}

pub tokens : counted token 256 ≡ 77
unfolding token separator has
tokens = refl
