-- `maps::between` meets its contract. Assumes nothing.
use Rattle.maps.specs.Places.{cut_from}
use Rattle.maps.proofs.PartLaws.{none_between, none_past, none_reversed, all_past}
use native.Mathlib.Omega.{arith}
use mathlib.Core.Path.{refl, sym, ◌∙◌}
use lib.ListN.{length, drop}
use Rattle.maps.proofs.between.Goals as goal

pub returns-then-n-from : goal.returns-then-n-from
unfolding cut_from
returns-then-n-from c = let s = c.args in record { is = none_between (drop (length s.s.now) s.s.now) (length s.s.now) ∙ sym (none_past s.s.now s.from s.to (omega arith)); lies = (refl, omega arith) }

pub returns-then-n-to : goal.returns-then-n-to
unfolding cut_from
returns-then-n-to c = let s = c.args in record { is = all_past s.s.now s.from s.to (omega arith); lies = (refl, omega arith) }

pub returns-then-to-from : goal.returns-then-to-from
unfolding cut_from
returns-then-to-from c = let s = c.args in record { is = none_between (drop s.to s.s.now) s.to ∙ sym (none_reversed s.s.now s.from s.to (omega arith)); lies = (refl, omega arith) }

pub returns : goal.returns
unfolding cut_from
returns c = record { is = refl; lies = (refl, omega arith) }
