use Rattle.std.proofs.Common.{◌≡◌, length, subst}
use Rattle.std.specs.Cmp.{booleans_Decides}
use Rattle.lois_same.specs.Rows.{IsCasesContrastOrNone}
use Rattle.lois_same.proofs.SameCases.{same_results}
use Rattle.lois_same.proofs.StrictMembers.{contrast_is_strict}
use Rattle.lois_same.proofs.TextEnds.{not_false}
use Rattle.lois_same.proofs.comparing.compare_partitions.Goals as goal

pub returns-in-None-clause-likeness : goal.returns-in-None-clause-likeness
returns-in-None-clause-likeness g c =
    let r = c.args.first.now in
    let q = c.args.second.now in
    let order : r.order ≡ q.order = (booleans_Decides r.order q.order).0 (not_false _ c.if-first-second.false) in (
      c.requires.partitions,
      same_results r q order (c.are_equal.ensures.0 c.if-not-are_equal.false) (subst (IsCasesContrastOrNone (length r.parameters) r.cases q.cases) c.in-None.is c.in_ok-contrast.ensures.contrast),
    )

pub returns-in-Some-clause-strict : goal.returns-in-Some-clause-strict
returns-in-Some-clause-strict g c =
    let r = c.args.first.now in
    let q = c.args.second.now in
    contrast_is_strict (length r.parameters) r q c.requires.first c.requires.second c.in-Some.contrast (subst (IsCasesContrastOrNone (length r.parameters) r.cases q.cases) c.in-Some.is c.in_ok-contrast.ensures.contrast)
