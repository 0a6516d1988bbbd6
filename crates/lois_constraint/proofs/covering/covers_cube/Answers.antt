use Rattle.std.proofs.Common.{◌≡◌, ◌<◌, List, length, get_or, ap, sym, ◌∙◌, subst, arith}
use Rattle.lois_base.specs.Atom.{Atom}
use Rattle.lois_base.specs.Truth.{cube_holds}
use Rattle.lois_constraint.specs.Tight.{some_holds}
use Rattle.lois_constraint.proofs.Covered.{alike_outside}
use Rattle.lois_constraint.proofs.covering.covers_cube.Goals as goal

pub returns-then-not-branch-clause-no : goal.returns-then-not-branch-clause-no
returns-then-not-branch-clause-no c = λ fails.
    let k = c.part-item.result in
    let i = c.loop-part.part-index in
    let there : i < length c.args.under.now = subst (λ z. i < length z) c.as_slice-part-items.ensures (omega arith) in
    let at : k ≡ get_or c.args.under.now i k = subst (λ z. k ≡ get_or z i k) c.as_slice-part-items.ensures c.part-item.is in
    let same : (e : List Atom) → cube_holds e c.in-Some.closed ≡ cube_holds e c.args.cube.now = λ e. ap (some_holds e) (sym c.in-Some.is) ∙ c.in_ok-closed.ensures.truth e in
    (k, (i, there, sym at), alike_outside c.in-Some.closed c.args.cube.now k c.args.others.now same (c.in_ok-has_both.ensures.no c.if-not-branch.true))
