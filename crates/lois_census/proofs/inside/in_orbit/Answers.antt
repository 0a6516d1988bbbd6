use Rattle.std.proofs.Common.{◌≡◌, ℕ, ◌+◌, List, length, sym, ap, subst}
use Rattle.std.proofs.lemmas.Result.{IfOk-weaker}
use Rattle.lois_base.specs.Atom.{Atom}
use Rattle.lois_base.specs.Fits.{ConstraintFits}
use Rattle.lois_base.specs.FormulaView.{view}
use Rattle.lois_base.specs.Patterns.{AreAlike}
use Rattle.lois_base.specs.Tree.{tree}
use Rattle.lois_base.specs.Truth.{holds, sampled}
use Rattle.lois_relate.specs.Relations.{HoldsWhereSame}
use Rattle.lois_census.specs.Alike.{SaysBehind}
use Rattle.lois_census.specs.OrbitView.{orbit_of}
use Rattle.lois_census.proofs.InOrbits.{inside}
use Rattle.lois_census.proofs.inside.in_orbit.Goals as goal

pub returns-clause-truth : goal.returns-clause-truth
returns-clause-truth g c =
    let o = orbit_of c.args.orbit.now in
    let n = c.args.size in
    let s = c.as_slice-sample.result.now in
    let m = length s in
    let is : s ≡ o.sample = c.as_slice-sample.ensures in
    let all : c.in_ok-all.all ≡ n + m = c.in_ok-all.ensures in
    let stands : SaysBehind g.T.Structure.ordered n m (AreAlike g.T.Structure.ordered (sampled o.sample)) (view c.in_ok-standing.standing) =
    subst (λ z. SaysBehind g.T.Structure.ordered n m (AreAlike g.T.Structure.ordered (sampled z)) (view c.in_ok-standing.standing)) is c.in_ok-standing.ensures in
    let is_same : HoldsWhereSame (n + m) (tree c.in_ok-listed.listed) (tree c.in_ok-own.own) (view c.in_ok-same.same) =
    subst (λ k. HoldsWhereSame k (tree c.in_ok-listed.listed) (tree c.in_ok-own.own) (view c.in_ok-same.same)) all c.in_ok-same.ensures.truth in
    IfOk-weaker c.normalise.result (λ r. (e : List Atom) → holds e r ≡ holds e c.in_ok-inside.inside) _ (λ r normal.
    inside g.T.Structure.ordered n m (tree c.args.item.now) o (tree c.in_ok-own.own) (tree c.in_ok-listed.listed) (view c.in_ok-standing.standing) (view c.in_ok-same.same) (view c.in_ok-conjunction.field-0) (view c.in_ok-somewhere.somewhere) c.in_ok-inside.inside r (sym (ap length is)) c.in_ok-own.ensures.value c.in_ok-listed.ensures.value stands is_same c.in_ok-conjunction.ensures c.in_ok-somewhere.ensures c.in_ok-inside.ensures.truth normal) c.normalise.ensures.truth

pub returns-clause-fits : goal.returns-clause-fits
returns-clause-fits g c =
    IfOk-weaker c.normalise.result (λ r. (n : ℕ) → ConstraintFits n c.in_ok-inside.inside → ConstraintFits n r) (ConstraintFits c.args.size) (λ r f. f c.args.size c.in_ok-inside.ensures.levels) c.normalise.ensures.fits
