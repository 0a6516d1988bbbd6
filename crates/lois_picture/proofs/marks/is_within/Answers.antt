use Rattle.std.proofs.Common.{ap, length, sym, subst, ◌∙◌}
use Rattle.lois_base.specs.Tree.{tree}
use Rattle.lois_base.specs.Truth.{holds, sampled}
use Rattle.lois_census.specs.OrbitView.{orbit_of}
use Rattle.lois_picture.specs.Graphs.{IsMarkOf}
use Rattle.lois_picture.proofs.AtChoices.{mark_of}
use Rattle.lois_picture.proofs.marks.is_within.Goals as goal

pub returns : goal.returns
returns g c =
    let o = g.T.Structure.ordered in
    let set = tree c.args.set.now in
    let k = orbit_of c.args.orbit.now in
    let found = c.in_ok-found.ensures in
    let r = c.in_ok-found.found in
    subst (IsMarkOf o set k) (sym (c.at.ensures ∙ ap (λ s. holds (sampled s) r) c.as_slice-sample.ensures))
    (mark_of o set k _ r (ap length c.as_slice-sample.ensures) found.truth found.fits (found.operators o c.requires.usable.operators c.requires.set.operators))
