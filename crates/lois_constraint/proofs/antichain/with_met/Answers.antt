use Rattle.std.proofs.Common.{◌&&◌, ◌||◌, List, refl, sym, ap, ◌∙◌, subst}
use Rattle.std.proofs.lemmas.List.Folds.{map_fixed}
use Rattle.std.proofs.lemmas.Iterator.Adapters.{YieldsList-from_vec}
use Rattle.std.proofs.lemmas.Iterator.Consumers.{YieldsList-end}
use Rattle.lois_base.specs.Truth.{cube_holds, holds}
use Rattle.lois_base.specs.declared.guards.Lit.{Lit}
use Rattle.lois_base.proofs.Lists.{all_before, all_last}
use Rattle.lois_constraint.specs.Rules.{CubeObeys}
use Rattle.lois_constraint.proofs.Tightened.{met_grows}
use Rattle.lois_constraint.proofs.antichain.with_met.Goals as goal

pub loop-cube-preserved : goal.loop-cube-preserved
loop-cube-preserved c =
    let x : List Lit = c.in-Some.cube in
    let xs : List (List Lit) = c.loop-cube.yielded in
    record {
      truth = λ e. c.in_ok-met.ensures.truth e ∙ (ap (λ (k : List Lit). holds e c.loop-cube.met || (cube_holds e k && holds e c.args.c.now)) c.into_closed.ensures ∙ met_grows e (holds e c.args.antichain) c.loop-cube.met xs c.args.c.now x (c.loop-cube.invariant.truth e));
      rules = λ rule p h o. c.in_ok-met.ensures.rules rule (c.loop-cube.invariant.rules rule p (all_before (CubeObeys rule) xs x h) o) (subst (CubeObeys rule) (sym c.into_closed.ensures) (all_last (CubeObeys rule) xs x h)) o;
    }

pub returns-clause-truth : goal.returns-clause-truth
returns-clause-truth c =
    let gives = c.into_iter-cube-iterator.ensures.into_iter_gives in
    let all = YieldsList-end (YieldsList-from_vec {s = c.into_iter-cube-iterator.result} c.args.cubes.items gives.0 (gives.1 ∙ c.args.cubes.ok.0)) c.loop-cube.yielded c.loop-cube.cube-iterator c.loop-cube.yielded_by c.next.result c.next.new.self c.in-None.is c.next.ensures.steps in
    λ e. c.loop-cube.invariant.truth e ∙ ap (λ (g : List (List Lit)). holds e c.args.antichain || (holds e g && holds e c.args.c.now)) (sym (map_fixed (λ (x : List Lit). x) c.loop-cube.yielded (λ i d l. refl)) ∙ all.0)
