use Rattle.std.proofs.Common.{refl, sym, subst}
use Rattle.lois_base.specs.Tree.{tree}
use Rattle.lois_census.specs.OrbitView.{orbit_of}
use Rattle.lois_picture.specs.Drawing.{TellsOrbit}
use Rattle.lois_picture.proofs.AtChoices.{tells_orbit}
use Rattle.lois_picture.proofs.linking.lies_in.Goals as goal

pub returns : goal.returns
returns g c =
    let o = g.T.Structure.ordered in
    let t = tree c.args.t.now in
    let s = c.args.sample.now in
    let k = orbit_of c.args.node.now.orbit in
    let found = c.in_ok-inside.ensures in
    subst (TellsOrbit o t s k) (sym c.at.ensures) (tells_orbit o t s k _ c.in_ok-inside.inside refl found.truth found.fits found.operators)
