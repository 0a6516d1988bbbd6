use Rattle.std.proofs.lemmas.List.Elements.{All-append}
use Rattle.std.proofs.Common.{sym, subst}
use Rattle.std.specs.List.{All}
use Rattle.lois_base.specs.Fits.{CubeFits}
use Rattle.lois_base.specs.Tree.{tree}
use Rattle.lois_base.specs.Validity.{AdmitsCube}
use Rattle.lois_census.specs.OrbitView.{orbit_of}
use Rattle.lois_census.proofs.Lefts.{or_inside}
use Rattle.lois_census.proofs.inside.or_in_orbit.Goals as goal

pub returns-clause-truth : goal.returns-clause-truth
returns-clause-truth g c =
    or_inside g.T.Structure.ordered c.args.comp.now.binders (tree c.args.comp.now.item) (orbit_of c.args.orbit.now) c.args.taken c.in_ok-inside.inside c.append.new.cubes c.in_ok-inside.ensures.truth c.in_ok-append.ensures

pub returns-clause-fits : goal.returns-clause-fits
returns-clause-fits g c =
    let P = CubeFits c.args.comp.now.binders in
    subst (All P) (sym c.in_ok-append.ensures) (All-append P c.args.taken c.in_ok-inside.inside c.requires.taken.levels c.in_ok-inside.ensures.fits)

pub returns-clause-operators : goal.returns-clause-operators
returns-clause-operators g c =
    let P = AdmitsCube g.T.Structure.ordered in
    subst (All P) (sym c.in_ok-append.ensures) (All-append P c.args.taken c.in_ok-inside.inside c.requires.taken.operators c.in_ok-inside.ensures.operators)
