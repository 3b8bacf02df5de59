-- `codes::line::is_http` meets its contract. Assumes nothing.
use Rattle.codes.proofs.LineLaws.{http_short, http_is}
use mathlib.Core.Path.{sym}
use Rattle.codes.proofs.line.is_http.Goals as goal

pub returns-then-text-lt5 : goal.returns-then-text-lt5
returns-then-text-lt5 c = sym (http_short _ c.if-text-lt5.true)

pub returns : goal.returns
returns c = http_is _ _ c.same_octets.ensures
