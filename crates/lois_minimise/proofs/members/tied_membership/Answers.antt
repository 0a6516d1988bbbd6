use Rattle.std.proofs.Common.{◌≡◌, ◌+◌, ◌∷◌, [], ◌&&◌, List, map, ◌∙◌, sym, subst, ap}
use Rattle.std.proofs.lemmas.Result.{IfOk-weaker}
use Rattle.std.proofs.lemmas.List.Elements.{All-nil, All-cons}
use Rattle.lois_base.specs.Atom.{Atom}
use Rattle.lois_base.specs.Fits.{CubeFits, ConstraintFits}
use Rattle.lois_base.specs.Truth.{holds}
use Rattle.lois_base.specs.Validity.{AdmitsCube, AdmitsConstraint}
use Rattle.lois_elim.specs.Bound.{HoldsForSomeMore}
use Rattle.lois_minimise.specs.Ties.{AreNames, tie_lit, named_constraint}
use Rattle.lois_minimise.proofs.Ties.{names_below, ties_below, named_fits, named_admits, tied_fits, tied_admits, holds_where_tied}
use Rattle.lois_minimise.proofs.members.tied_membership.Goals as goal

pub returns-clause-operators : goal.returns-clause-operators
returns-clause-operators g c =
    let names = c.as_slice-names.result.now in
    let ties = c.args.ties.now in
    let cube = c.in_ok-cube.cube in
    IfOk-weaker c.without_levels.result _ _ (λ r keeps o h. keeps o (c.in_ok-met.ensures.operators o
    (subst (AdmitsConstraint o) (sym c.in_ok-guard.ensures) (named_admits o names c.args.comp.now.guard h))
    (subst (AdmitsConstraint o) (sym c.in_ok-tied.ensures.cubes) (All-cons (AdmitsCube o) cube [] (subst (AdmitsCube o) (sym c.in_ok-cube.ensures) (tied_admits o names ties)) (All-nil (AdmitsCube o)))))) c.without_levels.ensures.operators

pub returns-clause-truth : goal.returns-clause-truth
returns-clause-truth g c =
    let n = c.args.size in
    let m = c.args.by in
    let k = c.args.comp.now.binders in
    let guard = c.args.comp.now.guard in
    let ties = c.args.ties.now in
    let names = c.as_slice-names.result.now in
    let met = c.in_ok-met.met in
    let are : AreNames n m k ties names = subst (AreNames n m k ties) (sym c.as_slice-names.ensures.value) c.in_ok-owned.ensures in
    let tied : c.in_ok-tied.tied ≡ map (tie_lit names) ties ∷ [] = c.in_ok-tied.ensures.cubes ∙ ap (λ z. z ∷ []) c.in_ok-cube.ensures in
    let truth : (x : List Atom) → holds x met ≡ (holds x (named_constraint names guard) && holds x (map (tie_lit names) ties ∷ [])) = λ x. subst (λ z. holds x met ≡ (holds x z && holds x (map (tie_lit names) ties ∷ []))) c.in_ok-guard.ensures (subst (λ z. holds x met ≡ (holds x c.in_ok-guard.guard && holds x z)) tied (c.in_ok-met.ensures.truth x)) in
    IfOk-weaker c.without_levels.result (HoldsForSomeMore (n + m) k met) _ (λ r some. holds_where_tied n m k ties names are c.requires.ties guard met r c.requires.over.levels.1 truth some) c.without_levels.ensures.truth

pub without_levels-requires-clause-over : goal.without_levels-requires-clause-over
without_levels-requires-clause-over g c =
    let n = c.args.size in
    let m = c.args.by in
    let k = c.args.comp.now.binders in
    let all = n + m + k in
    let ties = c.args.ties.now in
    let names = c.as_slice-names.result.now in
    let guard = c.args.comp.now.guard in
    let are : AreNames n m k ties names = subst (AreNames n m k ties) (sym c.as_slice-names.ensures.value) c.in_ok-owned.ensures in
    let below = names_below n m k ties names are c.requires.ties in
    let o = g.T.Structure.ordered in
    record {
      levels =
          c.in_ok-met.ensures.fits all
          (subst (ConstraintFits all) (sym c.in_ok-guard.ensures) (named_fits all names below guard (subst (λ z. ConstraintFits z guard) (sym are.count) c.requires.over.levels.1)))
          (subst (ConstraintFits all) (sym c.in_ok-tied.ensures.cubes) (All-cons (CubeFits all) c.in_ok-cube.cube [] (subst (CubeFits all) (sym c.in_ok-cube.ensures) (tied_fits all names ties below (ties_below n m k ties names are c.requires.ties))) (All-nil (CubeFits all))));
      operators =
          c.in_ok-met.ensures.operators o
          (subst (AdmitsConstraint o) (sym c.in_ok-guard.ensures) (named_admits o names c.args.comp.now.guard c.requires.over.operators.0))
          (subst (AdmitsConstraint o) (sym c.in_ok-tied.ensures.cubes) (All-cons (AdmitsCube o) c.in_ok-cube.cube [] (subst (AdmitsCube o) (sym c.in_ok-cube.ensures) (tied_admits o names ties)) (All-nil (AdmitsCube o))));
    }
