use Rattle.std.proofs.Common.{◌≡◌, ℕ, Bool, List, [], ◌∷◌, ◌++◌, ap, ◌∙◌}
use Rattle.std.proofs.lemmas.Result.{IfOk-weaker}
use Rattle.lois_base.specs.Atom.{Atom}
use Rattle.lois_base.specs.Fits.{CubeFits, ConstraintFits}
use Rattle.lois_base.specs.Truth.{cube_holds, holds}
use Rattle.lois_base.specs.Validity.{AdmitsCube, AdmitsConstraint}
use Rattle.lois_base.specs.declared.guards.Lit.{Lit}
use Rattle.lois_base.proofs.Booleans.{or_false}
use Rattle.lois_elim.proofs.Truth.{alone_obeys}
use Rattle.lois_elim.proofs.elimination.of_cube.Goals as goal

pub returns-clause-truth : goal.returns-clause-truth
returns-clause-truth c =
    let only : List (List Lit) = c.push.new.self in
    let is : only ≡ c.args.cube ∷ [] = c.in_ok-push.ensures.ok ∙ ap (λ x. x ++ c.args.cube ∷ []) c.new-only.ensures in
    IfOk-weaker c.prune.result (λ r. (e : List Atom) → holds e r ≡ holds e only) (λ r. (e : List Atom) → holds e r ≡ cube_holds e c.args.cube) (λ r same e. same e ∙ (ap (holds e) is ∙ or_false (cube_holds e c.args.cube))) c.prune.ensures.truth

pub returns-clause-levels : goal.returns-clause-levels
returns-clause-levels c =
    let only : List (List Lit) = c.push.new.self in
    let is : only ≡ c.args.cube ∷ [] = c.in_ok-push.ensures.ok ∙ ap (λ x. x ++ c.args.cube ∷ []) c.new-only.ensures in
    IfOk-weaker c.prune.result (λ r. (n : ℕ) → ConstraintFits n only → ConstraintFits n r) (λ r. (n : ℕ) → CubeFits n c.args.cube → ConstraintFits n r) (λ r fits n h. fits n (alone_obeys (CubeFits n) c.args.cube only is h)) c.prune.ensures.fits

pub returns-clause-operators : goal.returns-clause-operators
returns-clause-operators c =
    let only : List (List Lit) = c.push.new.self in
    let is : only ≡ c.args.cube ∷ [] = c.in_ok-push.ensures.ok ∙ ap (λ x. x ++ c.args.cube ∷ []) c.new-only.ensures in
    IfOk-weaker c.prune.result (λ r. (o : Bool) → AdmitsConstraint o only → AdmitsConstraint o r) (λ r. (o : Bool) → AdmitsCube o c.args.cube → AdmitsConstraint o r) (λ r admits o h. admits o (alone_obeys (AdmitsCube o) c.args.cube only is h)) c.prune.ensures.operators
