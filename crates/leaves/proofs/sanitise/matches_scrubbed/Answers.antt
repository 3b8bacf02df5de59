use borrow.Author.Rules.{rules}
use borrow.Author.Tests.{tests}
use mathlib.Core.Bool.{true, not}
use mathlib.Core.Path.{◌≡◌}
use Rattle.std.proofs.lemmas.Iterator.{YieldsList-from_slice, YieldsList-from_map}
use Rattle.std.proofs.lemmas.Iterator.Consumers.{YieldsList-at, YieldsList-from_filter}
use Rattle.leaves.specs.Name.{lowered}
use Rattle.leaves.specs.Sanitise.{dropped, spaced}
use Rattle.leaves.proofs.EqLaws.{eq_from_yields}
use Rattle.leaves.proofs.Words.{scrubbed_lowered}
use Rattle.leaves.proofs.sanitise.matches_scrubbed.Goals as goal

pub returns : goal.returns
returns c =
    let a = c.args in
    rw (scrubbed_lowered true a.part.now)
    (eq_from_yields (λ o it. it ≡ o) _ _ c.eq.ensures.ran
    (YieldsList-from_map _ lowered (YieldsList-from_slice a.name.now cc) c.map.ensures.closure (λ x r q k. search (rules, tests)))
    (λ it i. YieldsList-at i
    (YieldsList-from_map _ (λ x. lowered (spaced x))
    (YieldsList-at c.map-wanted.ensures.source
    (YieldsList-from_filter _ (λ x. not (dropped true x)) (YieldsList-from_slice a.part.now cc) c.filter-kept.ensures.closure (λ x b q k. search (rules, tests))))
    c.map-wanted.ensures.closure (λ x r q k. search (rules, tests)))))
