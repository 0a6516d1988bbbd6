use Rattle.std.proofs.Common.{◌+◌, length, map, subst, sym, ◌∙◌}
use Rattle.std.specs.List.{All, drop-map}
use Rattle.lois_base.specs.Truth.{sampled}
use Rattle.lois_answers.specs.CaseView.{case_of}
use Rattle.lois_cases.specs.Cases.{CaseFits, NoneHoldsAt}
use Rattle.lois_cases.specs.Holding.{IsFirstAt, IsHolding}
use Rattle.lois_cases.specs.declared.holding.Holding.TheVariants.{Once, Twice}
use Rattle.lois_cases.proofs.OneCase.{holds_once, holds_twice}
use Rattle.lois_cases.proofs.Parted.{rest_from, of_rest}
use Rattle.lois_cases.proofs.holding.find_case.Goals as goal

pub find_first-requires-2 : goal.find_first-requires-2
find_first-requires-2 c =
    of_rest case_of (CaseFits (length c.args.sample.now)) c.as_slice-all.result.now (c.in-Some.first + 1) (subst (All (CaseFits (length c.args.sample.now))) (sym c.as_slice-all.ensures.items) c.requires)

pub returns-in-None : goal.returns-in-None
returns-in-None c =
    let xs = c.as_slice-all.result.now in
    let i = c.in-Some.first in
    let at = sampled c.args.sample.now in
    subst (λ cs. IsHolding at cs (Once (i + 1))) c.as_slice-all.ensures.items
    (holds_once at (map case_of xs) i c.in-Some.ensures.first (subst (NoneHoldsAt at) (rest_from case_of xs (i + 1) ∙ sym (drop-map case_of (i + 1) xs)) c.in-None.ensures.first))

pub returns-in-Some-find_first : goal.returns-in-Some-find_first
returns-in-Some-find_first c =
    let xs = c.as_slice-all.result.now in
    let i = c.in-Some.first in
    let j = c.in-Some-find_first.next in
    let at = sampled c.args.sample.now in
    subst (λ cs. IsHolding at cs (Twice (i + 1) (i + j + 2))) c.as_slice-all.ensures.items
    (holds_twice at (map case_of xs) i j c.in-Some.ensures.first (subst (λ cs. IsFirstAt at cs j) (rest_from case_of xs (i + 1) ∙ sym (drop-map case_of (i + 1) xs)) c.in-Some-find_first.ensures.first))
