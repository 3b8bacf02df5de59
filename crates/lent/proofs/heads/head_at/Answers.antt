-- `lent::heads::head_at` meets its contract. Assumes nothing.
use Rattle.lent.proofs.LentLaws.{head_status}
use Rattle.lent.proofs.heads.head_at.Goals as goal

pub status_of-requires : goal.status_of-requires
status_of-requires c = head_status c.args.n.now c.requires
