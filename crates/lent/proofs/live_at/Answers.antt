-- `lent::live_at` meets its contract. Assumes nothing.
use Rattle.lent.proofs.LentLaws.{sound_parts}
use Rattle.lent.proofs.live_at.Goals as goal

pub head_at-requires : goal.head_at-requires
head_at-requires c = (sound_parts _ _ c.requires).0

pub live_map-requires : goal.live_map-requires
live_map-requires c = (sound_parts _ _ c.requires).1
