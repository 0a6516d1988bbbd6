use Rattle.std.proofs.Common.{ℕ, Bool, List, ap, ◌∙◌, subst}
use Rattle.std.proofs.lemmas.List.Folds.{list_any_at}
use Rattle.std.proofs.lemmas.Result.{IfOk-weaker}
use Rattle.lois_base.specs.Atom.{Atom}
use Rattle.lois_base.specs.Fits.{CubeFits, ConstraintFits}
use Rattle.lois_base.specs.Truth.{cube_holds, holds}
use Rattle.lois_base.specs.Validity.{AdmitsCube, AdmitsConstraint}
use Rattle.lois_census.specs.Left.{IsLeftOf}
use Rattle.lois_census.proofs.Parting.{left_wider}
use Rattle.lois_census.proofs.cells.without_cube_at.Goals as goal

pub returns-clause-left : goal.returns-clause-left
returns-clause-left c =
    let x = c.in-Some.cube.now in
    let one = c.in-Some.ensures.one in
    IfOk-weaker c.without_cube.result (λ r. (e : List Atom) → IsLeftOf (cube_holds e x) (holds e c.args.constraint) (holds e r)) _ (λ r h e.
    left_wider (cube_holds e x) (holds e c.args.taken.now) (holds e c.args.constraint) (holds e r) (λ b. list_any_at (cube_holds e) c.args.taken.now one.0 x one.1 (ap (cube_holds e) one.2 ∙ b)) (h e)) c.without_cube.ensures.left

pub returns-clause-fits : goal.returns-clause-fits
returns-clause-fits c =
    let x = c.in-Some.cube.now in
    let one = c.in-Some.ensures.one in
    IfOk-weaker c.without_cube.result (λ r. (n : ℕ) → ConstraintFits n c.args.constraint → CubeFits n x → ConstraintFits n r) _ (λ r f n h k. f n h (subst (CubeFits n) one.2 (k one.0 x one.1))) c.without_cube.ensures.fits

pub returns-clause-operators : goal.returns-clause-operators
returns-clause-operators c =
    let x = c.in-Some.cube.now in
    let one = c.in-Some.ensures.one in
    IfOk-weaker c.without_cube.result (λ r. (o : Bool) → AdmitsConstraint o c.args.constraint → AdmitsCube o x → AdmitsConstraint o r) _ (λ r f o h k. f o h (subst (AdmitsCube o) one.2 (k one.0 x one.1))) c.without_cube.ensures.operators
