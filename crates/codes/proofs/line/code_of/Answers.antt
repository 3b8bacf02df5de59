-- `codes::line::code_of` meets its contract. Assumes nothing.
use Rattle.codes.proofs.LineLaws.{behind_within, until_space_lem, code_at, code_none, code_other}
use Rattle.codes.specs.Line.{without_plus}
use Rattle.leaves.proofs.SearchLaws.{before_within}
use native.Mathlib.Omega.{arith}
use mathlib.Core.Path.{sym, ap, ◌∙◌}
use lib.ListN.{drop, length-drop}
use Rattle.codes.proofs.line.code_of.Goals as goal

pub find_octet-end-requires : goal.find_octet-end-requires
find_octet-end-requires c = behind_within 0 _ _ (sym c.behind_space.ensures ∙ c.in_ok-start.was)

pub slice_bounds-without_plus-end : goal.slice_bounds-without_plus-end
slice_bounds-without_plus-end c =
    let s = c.args in
    let f = sym c.behind_space.ensures ∙ c.in_ok-start.was in
    omega (arith, c.find_octet-end.ensures, before_within 32 (drop c.in_ok-start.start s.text.now), length-drop c.in_ok-start.start s.text.now, behind_within 0 _ _ f)

pub returns-in_ok-start : goal.returns-in_ok-start
returns-in_ok-start c =
    let f = sym c.behind_space.ensures ∙ c.in_ok-start.was in
    let e = sym c.is_http.ensures ∙ c.if-is_http.true in
    c.small_number.ensures ∙ sym (code_at _ e _ f _ (c.without_plus.ensures ∙ ap without_plus (until_space_lem _ _ _ c.find_octet-end.ensures)))

pub returns-in_err-start : goal.returns-in_err-start
returns-in_err-start c =
    let e = sym c.is_http.ensures ∙ c.if-is_http.true in
    c.from_residual.ensures ∙ sym (code_none _ e (sym c.behind_space.ensures ∙ c.in_err-start.was))

pub returns-else-is_http : goal.returns-else-is_http
returns-else-is_http c = sym (code_other _ (sym c.is_http.ensures ∙ c.if-is_http.false))
