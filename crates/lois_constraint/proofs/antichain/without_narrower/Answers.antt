use Rattle.std.proofs.Common.{◌≡◌, ◌||◌, List, [], ◌∷◌, ◌++◌, sym, subst}
use Rattle.std.proofs.lemmas.List.Elements.{All-push}
use Rattle.std.specs.List.{All}
use Rattle.lois_base.specs.Truth.{cube_holds, holds}
use Rattle.lois_base.specs.declared.guards.Lit.{Lit}
use Rattle.lois_base.proofs.Lists.{all_before, all_last}
use Rattle.lois_constraint.specs.Entailment.{CubeIsSatisfiable, Entails, AreIncomparable, IsPruned}
use Rattle.lois_constraint.specs.Rules.{CubeObeys, ConstraintObeys}
use Rattle.lois_constraint.proofs.Pruned.{front_pruned, front_apart, kept_pruned, kept_holds, dropped_holds}
use Rattle.lois_constraint.proofs.antichain.without_narrower.Goals as goal

pub loop-other-preserved-in-Continue-1 : goal.loop-other-preserved-in-Continue-1
loop-other-preserved-in-Continue-1 c =
    let cube : List Lit = c.args.cube.now in
    let x : List Lit = c.in-Some.other in
    let xs : List (List Lit) = c.loop-other.yielded in
    let kept : List (List Lit) = c.loop-other.kept.items in
    let before = c.loop-other.invariant in
    let grown : kept ++ x ∷ [] ≡ c.push.new.self.items = sym c.in_ok-push.ensures.items in
    record {
      truth = λ e. subst (λ (r : List (List Lit)). (holds e r || cube_holds e cube) ≡ (holds e (xs ++ x ∷ []) || cube_holds e cube)) grown (kept_holds e (cube_holds e cube) kept xs x (before.truth e));
      outside = subst (All (λ k. Entails k cube → ⊥)) grown (All-push (λ k. Entails k cube → ⊥) kept x before.outside (λ h. let yes = c.entails_cube.ensures.1 h in let other = c.if-not-entails_cube.true in cc));
      uncovered = λ h. subst (All (λ k. Entails cube k → ⊥)) grown (All-push (λ k. Entails cube k → ⊥) kept x (before.uncovered (all_before (λ k. Entails cube k → ⊥) xs x h)) (all_last (λ k. Entails cube k → ⊥) xs x h));
      pruned = λ p. subst IsPruned grown (kept_pruned kept x (before.pruned (front_pruned xs x p)) (all_last CubeIsSatisfiable xs x p.met) (before.apart x (front_apart xs x p)));
      apart = λ z h. subst (All (λ k. AreIncomparable k z)) grown (All-push (λ k. AreIncomparable k z) kept x (before.apart z (all_before (λ k. AreIncomparable k z) xs x h)) (all_last (λ k. AreIncomparable k z) xs x h));
      rules = λ rule h. subst (ConstraintObeys rule) grown (All-push (CubeObeys rule) kept x (before.rules rule (all_before (CubeObeys rule) xs x h)) (all_last (CubeObeys rule) xs x h));
    }

pub loop-other-preserved : goal.loop-other-preserved
loop-other-preserved c =
    let cube : List Lit = c.args.cube.now in
    let x : List Lit = c.in-Some.other in
    let xs : List (List Lit) = c.loop-other.yielded in
    let before = c.loop-other.invariant in
    record {
      truth = λ e. dropped_holds e (cube_holds e cube) c.loop-other.kept.items xs x (before.truth e) (c.entails_cube.ensures.0 c.if-not-entails_cube.false e);
      outside = before.outside;
      uncovered = λ h. before.uncovered (all_before (λ k. Entails cube k → ⊥) xs x h);
      pruned = λ p. before.pruned (front_pruned xs x p);
      apart = λ z h. before.apart z (all_before (λ k. AreIncomparable k z) xs x h);
      rules = λ rule h. before.rules rule (all_before (CubeObeys rule) xs x h);
    }
