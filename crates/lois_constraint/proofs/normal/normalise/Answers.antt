use Rattle.std.proofs.Common.{◌≡◌, ℕ, Bool, List, sym, ◌∙◌}
use Rattle.std.specs.List.Sorted.{IsPermutation}
use Rattle.std.proofs.lemmas.List.Sorted.{All-permutation, list_any-IsPermutation}
use Rattle.lois_base.specs.Atom.{Atom}
use Rattle.lois_base.specs.Fits.{ConstraintFits}
use Rattle.lois_base.specs.Truth.{cube_holds, holds}
use Rattle.lois_base.specs.Validity.{AdmitsConstraint, IsStrictConstraint}
use Rattle.lois_base.specs.UsedLevels.{UsesOnly}
use Rattle.lois_base.specs.declared.guards.Lit.{Lit}
use Rattle.lois_constraint.specs.Entailment.{IsPruned}
use Rattle.lois_constraint.specs.Normalised.{IsNormalCube, IsNormalised}
use Rattle.lois_constraint.specs.Rules.{uses, fits, admits, strict, CubeObeys}
use Rattle.lois_constraint.proofs.Normals.{normalised_from}
use Rattle.lois_constraint.proofs.Pruned.{pruned_permuted}
use Rattle.lois_constraint.proofs.Uses.{same_answer}
use Rattle.lois_constraint.proofs.normal.normalise.Goals as goal

pub returns-clause-truth : goal.returns-clause-truth
returns-clause-truth c =
    same_answer c.constraint_of.result c.sort_cubes.new.cubes.items (λ r. (e : List Atom) → holds e r ≡ holds e c.args.c.now) c.constraint_of.ensures (λ e. sym (list_any-IsPermutation (cube_holds e) c.in_ok-cubes.cubes.items c.sort_cubes.new.cubes.items c.sort_cubes.ensures.permutation) ∙ (c.in_ok-cubes.ensures.truth e ∙ c.in_ok-pruned.ensures.truth e))

pub returns-clause-normalised : goal.returns-clause-normalised
returns-clause-normalised c =
    let xs : List (List Lit) = c.in_ok-cubes.cubes.items in
    let ys : List (List Lit) = c.sort_cubes.new.cubes.items in
    let moved : IsPermutation xs ys = c.sort_cubes.ensures.permutation in
    same_answer c.constraint_of.result ys IsNormalised c.constraint_of.ensures (normalised_from ys (All-permutation IsNormalCube xs ys moved c.in_ok-cubes.ensures.normal) (pruned_permuted xs ys moved c.in_ok-cubes.ensures.pruned) c.sort_cubes.ensures.sorted)

pub returns-clause-pruned : goal.returns-clause-pruned
returns-clause-pruned c =
    same_answer c.constraint_of.result c.sort_cubes.new.cubes.items IsPruned c.constraint_of.ensures (pruned_permuted c.in_ok-cubes.cubes.items c.sort_cubes.new.cubes.items c.sort_cubes.ensures.permutation c.in_ok-cubes.ensures.pruned)

pub returns-clause-levels : goal.returns-clause-levels
returns-clause-levels c =
    same_answer c.constraint_of.result c.sort_cubes.new.cubes.items (UsesOnly c.args.c.now) c.constraint_of.ensures (All-permutation (CubeObeys (uses c.args.c.now)) c.in_ok-cubes.cubes.items c.sort_cubes.new.cubes.items c.sort_cubes.ensures.permutation (c.in_ok-cubes.ensures.rules (uses c.args.c.now) c.in_ok-pruned.ensures.levels))

pub returns-clause-fits : goal.returns-clause-fits
returns-clause-fits c =
    same_answer c.constraint_of.result c.sort_cubes.new.cubes.items (λ r. (n : ℕ) → ConstraintFits n c.args.c.now → ConstraintFits n r) c.constraint_of.ensures (λ n h. All-permutation (CubeObeys (fits n)) c.in_ok-cubes.cubes.items c.sort_cubes.new.cubes.items c.sort_cubes.ensures.permutation (c.in_ok-cubes.ensures.rules (fits n) (c.in_ok-pruned.ensures.fits n h)))

pub returns-clause-operators : goal.returns-clause-operators
returns-clause-operators c =
    same_answer c.constraint_of.result c.sort_cubes.new.cubes.items (λ r. (o : Bool) → AdmitsConstraint o c.args.c.now → AdmitsConstraint o r) c.constraint_of.ensures (λ o h. All-permutation (CubeObeys (admits o)) c.in_ok-cubes.cubes.items c.sort_cubes.new.cubes.items c.sort_cubes.ensures.permutation (c.in_ok-cubes.ensures.rules (admits o) (c.in_ok-pruned.ensures.operators o h)))

pub returns-clause-strict : goal.returns-clause-strict
returns-clause-strict c =
    same_answer c.constraint_of.result c.sort_cubes.new.cubes.items (λ r. IsStrictConstraint c.args.c.now → IsStrictConstraint r) c.constraint_of.ensures (λ h. All-permutation (CubeObeys strict) c.in_ok-cubes.cubes.items c.sort_cubes.new.cubes.items c.sort_cubes.ensures.permutation (c.in_ok-cubes.ensures.rules strict (c.in_ok-pruned.ensures.strict h)))
