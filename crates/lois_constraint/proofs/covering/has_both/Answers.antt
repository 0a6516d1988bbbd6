use Rattle.std.proofs.Common.{◌≡◌, ◌&&◌, List, ap, ◌∙◌, sym}
use Rattle.lois_base.specs.Atom.{Atom}
use Rattle.lois_base.specs.Truth.{cube_holds}
use Rattle.lois_constraint.specs.Tight.{some_holds}
use Rattle.lois_constraint.proofs.Covered.{both_outside}
use Rattle.lois_constraint.proofs.covering.has_both.Goals as goal

pub returns-clause-no : goal.returns-clause-no
returns-clause-no c = λ fails.
    let closed = c.args.closed.now in
    let q = c.args.cube.now in
    let same : (e : List Atom) → cube_holds e c.in-Some.both ≡ (cube_holds e closed && cube_holds e q) = λ e. ap (some_holds e) (sym c.in-Some.is) ∙ c.in_ok-both.ensures.truth e in
    both_outside closed q c.in-Some.both c.args.others.now same c.cube-met.ensures.met (c.entails_one.ensures.outside fails)
