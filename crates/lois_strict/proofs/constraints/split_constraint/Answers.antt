use Rattle.std.proofs.Common.{◌≡◌, List, take, ap, ◌∙◌, arith}
use Rattle.std.proofs.lemmas.Grind.{common_steps}
use Rattle.lois_base.proofs.Validity.{uses_only-refl}
use Rattle.lois_base.specs.Truth.{holds}
use Rattle.lois_base.specs.declared.guards.Lit.{Lit}
use Rattle.lois_constraint.proofs.Tightened.{constraint_grows}
use Rattle.lois_constraint.proofs.Uses.{item_obeys}
use Rattle.lois_constraint.specs.Rules.{uses, fits, admits}
use Rattle.lois_strict.proofs.constraints.split_constraint.Goals as goal

pub loop-cube-preserved : goal.loop-cube-preserved
loop-cube-preserved c =
    let x : List Lit = c.cube-item.result in
    let items : List (List Lit) = c.as_slice-cube-items.result.now in
    record {
      truth = λ e. constraint_grows e c.loop-cube.split c.push_split.new.split items x c.loop-cube.cube-index (omega arith) c.cube-item.is (c.loop-cube.invariant.truth e) (c.in_ok-push_split.ensures.truth e);
      strict = c.in_ok-push_split.ensures.strict c.loop-cube.invariant.strict;
      rules = λ rule h. c.in_ok-push_split.ensures.rules rule (c.loop-cube.invariant.rules rule h) (item_obeys rule c.args.c.now items c.loop-cube.cube-index x c.as_slice-cube-items.ensures (omega arith) c.cube-item.is h);
    }

pub returns-clause-truth : goal.returns-clause-truth
returns-clause-truth c =
    let k : take c.loop-cube.cube-index c.as_slice-cube-items.result.now ≡ c.args.c.now = grind (arith, common_steps) in
    λ e. c.loop-cube.invariant.truth e ∙ ap (holds e) k

pub returns-clause-levels : goal.returns-clause-levels
returns-clause-levels c = c.loop-cube.invariant.rules (uses c.args.c.now) (uses_only-refl c.args.c.now)

pub returns-clause-fits : goal.returns-clause-fits
returns-clause-fits c = λ n. c.loop-cube.invariant.rules (fits n)

pub returns-clause-operators : goal.returns-clause-operators
returns-clause-operators c = λ o. c.loop-cube.invariant.rules (admits o)
