-- `codes::line::reason_start` meets its contract. Assumes nothing.
use Rattle.codes.proofs.LineLaws.{behind_within, start_at, start_none, start_other}
use mathlib.Core.Path.{sym, ◌∙◌}
use Rattle.codes.proofs.line.reason_start.Goals as goal

pub behind_space-requires-then-is_http : goal.behind_space-requires-then-is_http
behind_space-requires-then-is_http c = behind_within 0 _ _ (sym c.behind_space.ensures ∙ c.in_ok-start.was)

pub returns-in_ok-start : goal.returns-in_ok-start
returns-in_ok-start c =
    let f = sym c.behind_space.ensures ∙ c.in_ok-start.was in
    let e = sym c.is_http.ensures ∙ c.if-is_http.true in
    c.behind_space-then-is_http.ensures ∙ sym (start_at _ e _ f)

pub returns-in_err-start : goal.returns-in_err-start
returns-in_err-start c =
    let e = sym c.is_http.ensures ∙ c.if-is_http.true in
    c.from_residual.ensures ∙ sym (start_none _ e (sym c.behind_space.ensures ∙ c.in_err-start.was))

pub returns-else-is_http : goal.returns-else-is_http
returns-else-is_http c = sym (start_other _ (sym c.is_http.ensures ∙ c.if-is_http.false))
