-- `abi::looking::put_found` meets its contract. Assumes nothing.
use Rattle.abi.proofs.CallLaws.{seen_found}
use Rattle.abi.proofs.looking.put_found.Goals as goal

pub returns-in-Some : goal.returns-in-Some
returns-in-Some c = seen_found _ c.args.h _ _ _ _ _ _ _ _ _ c.in-Some.is c.requires.1 c.field_at-field.ensures c.put_place.ensures
