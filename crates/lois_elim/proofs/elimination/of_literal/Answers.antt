use Rattle.std.proofs.Common.{◌≡◌, ℕ, Bool, List, [], ◌∷◌, ◌++◌, ap, ◌∙◌}
use Rattle.std.proofs.lemmas.Result.{IfOk-weaker}
use Rattle.lois_base.specs.Atom.{Atom}
use Rattle.lois_base.specs.Fits.{LitFits, CubeFits, ConstraintFits}
use Rattle.lois_base.specs.Truth.{lit_holds, cube_holds, holds}
use Rattle.lois_base.specs.Validity.{AdmitsLit, AdmitsCube, AdmitsConstraint}
use Rattle.lois_base.specs.declared.guards.Lit.{Lit}
use Rattle.lois_elim.proofs.Truth.{and_nothing, alone_obeys}
use Rattle.lois_elim.proofs.elimination.of_literal.Goals as goal

pub returns-clause-truth : goal.returns-clause-truth
returns-clause-truth c =
    let cube : List Lit = c.push.new.self in
    let is : cube ≡ c.args.lit ∷ [] = c.in_ok-push.ensures.ok ∙ ap (λ x. x ++ c.args.lit ∷ []) c.new-cube.ensures in
    IfOk-weaker c.of_cube.result (λ r. (e : List Atom) → holds e r ≡ cube_holds e cube) (λ r. (e : List Atom) → holds e r ≡ lit_holds e c.args.lit) (λ r same e. same e ∙ (ap (cube_holds e) is ∙ and_nothing (lit_holds e c.args.lit))) c.of_cube.ensures.truth

pub returns-clause-levels : goal.returns-clause-levels
returns-clause-levels c =
    let cube : List Lit = c.push.new.self in
    let is : cube ≡ c.args.lit ∷ [] = c.in_ok-push.ensures.ok ∙ ap (λ x. x ++ c.args.lit ∷ []) c.new-cube.ensures in
    IfOk-weaker c.of_cube.result (λ r. (n : ℕ) → CubeFits n cube → ConstraintFits n r) (λ r. (n : ℕ) → LitFits n c.args.lit → ConstraintFits n r) (λ r fits n h. fits n (alone_obeys (LitFits n) c.args.lit cube is h)) c.of_cube.ensures.levels

pub returns-clause-operators : goal.returns-clause-operators
returns-clause-operators c =
    let cube : List Lit = c.push.new.self in
    let is : cube ≡ c.args.lit ∷ [] = c.in_ok-push.ensures.ok ∙ ap (λ x. x ++ c.args.lit ∷ []) c.new-cube.ensures in
    IfOk-weaker c.of_cube.result (λ r. (o : Bool) → AdmitsCube o cube → AdmitsConstraint o r) (λ r. (o : Bool) → AdmitsLit o c.args.lit → AdmitsConstraint o r) (λ r admits o h. admits o (alone_obeys (AdmitsLit o) c.args.lit cube is h)) c.of_cube.ensures.operators
