-- A choice that is shut, so that a proof can go by its cases. Assumes nothing.
use Rattle.std.specs.Prelude.{Bool, true, false}

infixr 5 when◌then◌else◌
unfoldable pub when◌then◌else◌ {ℓ} : {A : Type ℓ} → Bool → A → A → A
when◌then◌else◌ true a b = a
when◌then◌else◌ false a b = b
