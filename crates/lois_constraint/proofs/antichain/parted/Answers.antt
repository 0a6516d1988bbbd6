use Rattle.std.proofs.Common.{◌≡◌, true, ◌&&◌, ◌||◌, List, [], ◌∷◌, ◌++◌, refl, sym, ap, ◌∙◌, subst}
use Rattle.std.proofs.lemmas.List.Elements.{All-push}
use Rattle.std.proofs.lemmas.List.Folds.{map_fixed}
use Rattle.std.proofs.lemmas.Iterator.Adapters.{YieldsList-from_vec}
use Rattle.std.proofs.lemmas.Iterator.Consumers.{YieldsList-end}
use Rattle.std.specs.List.{All}
use Rattle.lois_base.specs.Truth.{cube_holds, holds}
use Rattle.lois_base.specs.declared.guards.Lit.{Lit}
use Rattle.lois_base.proofs.Lists.{all_before, all_last}
use Rattle.lois_constraint.specs.Entailment.{CubeIsSatisfiable, AreIncomparable, IsPruned}
use Rattle.lois_constraint.specs.Rules.{CubeObeys, ConstraintObeys}
use Rattle.lois_constraint.proofs.Pruned.{front_pruned, front_apart, kept_pruned, within_grows, others_grow}
use Rattle.lois_constraint.proofs.antichain.parted.Goals as goal

pub loop-cube-preserved-in-Continue-1 : goal.loop-cube-preserved-in-Continue-1
loop-cube-preserved-in-Continue-1 c =
    let x : List Lit = c.in-Some.cube in
    let xs : List (List Lit) = c.loop-cube.yielded in
    let within : List (List Lit) = c.loop-cube.within.items in
    let others : List (List Lit) = c.loop-cube.others.items in
    let before = c.loop-cube.invariant in
    let grown : within ++ x ∷ [] ≡ c.push.new.self.items = sym c.in_ok-push.ensures.items in
    record {
      truth = λ e. subst (λ (r : List (List Lit)). (holds e r || (holds e others && holds e c.args.c.now)) ≡ (holds e (xs ++ x ∷ []) && holds e c.args.c.now)) grown (within_grows e (holds e c.args.c.now) within others xs x (before.truth e) (subst (λ (k : List Lit). cube_holds e k ≡ true → holds e c.args.c.now ≡ true) c.closed.ensures (c.entails_one.ensures.inside c.if-entails_one.true e)));
      pruned = λ p. subst IsPruned grown (kept_pruned within x (before.pruned (front_pruned xs x p)) (all_last CubeIsSatisfiable xs x p.met) (before.apart x (front_apart xs x p)));
      apart = λ z h. subst (All (λ k. AreIncomparable k z)) grown (All-push (λ k. AreIncomparable k z) within x (before.apart z (all_before (λ k. AreIncomparable k z) xs x h)) (all_last (λ k. AreIncomparable k z) xs x h));
      within_rules = λ rule h. subst (ConstraintObeys rule) grown (All-push (CubeObeys rule) within x (before.within_rules rule (all_before (CubeObeys rule) xs x h)) (all_last (CubeObeys rule) xs x h));
      other_rules = λ rule h. before.other_rules rule (all_before (CubeObeys rule) xs x h);
    }

pub loop-cube-preserved : goal.loop-cube-preserved
loop-cube-preserved c =
    let x : List Lit = c.in-Some.cube in
    let xs : List (List Lit) = c.loop-cube.yielded in
    let within : List (List Lit) = c.loop-cube.within.items in
    let others : List (List Lit) = c.loop-cube.others.items in
    let before = c.loop-cube.invariant in
    let grown : others ++ x ∷ [] ≡ c.push-else-entails_one.new.self.items = sym c.in_ok-push-2.ensures.items in
    record {
      truth = λ e. subst (λ (r : List (List Lit)). (holds e within || (holds e r && holds e c.args.c.now)) ≡ (holds e (xs ++ x ∷ []) && holds e c.args.c.now)) grown (others_grow e (holds e c.args.c.now) within others xs x (before.truth e));
      pruned = λ p. before.pruned (front_pruned xs x p);
      apart = λ z h. before.apart z (all_before (λ k. AreIncomparable k z) xs x h);
      within_rules = λ rule h. before.within_rules rule (all_before (CubeObeys rule) xs x h);
      other_rules = λ rule h. subst (ConstraintObeys rule) grown (All-push (CubeObeys rule) others x (before.other_rules rule (all_before (CubeObeys rule) xs x h)) (all_last (CubeObeys rule) xs x h));
    }

pub returns-clause-truth : goal.returns-clause-truth
returns-clause-truth c =
    let gives = c.into_iter-cube-iterator.ensures.into_iter_gives in
    let all = YieldsList-end (YieldsList-from_vec {s = c.into_iter-cube-iterator.result} c.args.cubes.items gives.0 (gives.1 ∙ c.args.cubes.ok.0)) c.loop-cube.yielded c.loop-cube.cube-iterator c.loop-cube.yielded_by c.next.result c.next.new.self c.in-None.is c.next.ensures.steps in
    λ e. c.loop-cube.invariant.truth e ∙ ap (λ (g : List (List Lit)). holds e g && holds e c.args.c.now) (sym (map_fixed (λ (x : List Lit). x) c.loop-cube.yielded (λ i d l. refl)) ∙ all.0)
