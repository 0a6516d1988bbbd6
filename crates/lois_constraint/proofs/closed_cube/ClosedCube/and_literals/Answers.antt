use Rattle.std.proofs.Common.{◌≡◌, ℕ, Bool, List, [], ◌∷◌, ◌++◌, get_or, sym, ◌∙◌, subst, arith}
use mathlib.Core.Path.{fun_ext}
use Rattle.std.proofs.lemmas.List.Elements.{All-push}
use Rattle.lois_base.specs.Truth.{cube_holds}
use Rattle.lois_base.specs.declared.guards.Lit.{Lit}
use Rattle.lois_constraint.specs.LevelOrders.{is_at_most}
use Rattle.lois_constraint.specs.Order.{is_implied, is_refuted, extended, IsOrderClosure}
use Rattle.lois_constraint.specs.Rules.{Obeys, CubeObeys}
use Rattle.lois_constraint.proofs.Implied.{told_exactly, denied_nowhere, order_extended}
use Rattle.lois_constraint.proofs.Tightened.{both_stay, both_grow, both_fail}
use Rattle.lois_constraint.proofs.closed_cube.ClosedCube.and_literals.Goals as goal

pub loop-lit-preserved-then-is_implied : goal.loop-lit-preserved-then-is_implied
loop-lit-preserved-then-is_implied c =
    let cube : List Lit = c.loop-lit.cube in
    let le : ℕ → ℕ → Bool = is_at_most c.loop-lit.order in
    let lit : Lit = get_or c.args.literals.now c.loop-lit.lit-index _ in
    let told : c.is_implied.result ≡ is_implied le cube lit.op lit.left lit.right = c.is_implied.ensures in
    let before = c.loop-lit.invariant in
    record {
      order = before.order;
      truth = λ e. both_stay e (cube_holds e c.args.self) cube c.args.literals.now c.loop-lit.lit-index _ (omega arith) (before.truth e) ((told_exactly le cube before.order lit c.is_implied.result told).0 c.if-is_implied.true e);
      rules = before.rules;
    }

pub returns-then-is_refuted-clause-truth : goal.returns-then-is_refuted-clause-truth
returns-then-is_refuted-clause-truth c =
    let cube : List Lit = c.loop-lit.cube in
    let le : ℕ → ℕ → Bool = is_at_most c.loop-lit.order in
    let lit : Lit = get_or c.args.literals.now c.loop-lit.lit-index _ in
    let told : c.is_refuted.result ≡ is_refuted le cube lit.op lit.left lit.right = c.is_refuted.ensures in
    let before = c.loop-lit.invariant in
    λ e. both_fail e (cube_holds e c.args.self) cube c.args.literals.now c.loop-lit.lit-index _ (omega arith) (before.truth e) (denied_nowhere le cube before.order lit c.is_refuted.result told c.if-is_refuted.true e)

pub loop-lit-preserved : goal.loop-lit-preserved
loop-lit-preserved c =
    let cube : List Lit = c.loop-lit.cube in
    let le : ℕ → ℕ → Bool = is_at_most c.loop-lit.order in
    let lit : Lit = get_or c.args.literals.now c.loop-lit.lit-index _ in
    let told : c.is_refuted.result ≡ is_refuted le cube lit.op lit.left lit.right = c.is_refuted.ensures in
    let before = c.loop-lit.invariant in
    let grown = c.in_ok-push.ensures.ok in
    let order : IsOrderClosure (extended lit.op lit.left lit.right le) (cube ++ lit ∷ []) = order_extended le cube before.order lit.op lit.left lit.right (sym told ∙ c.if-is_refuted.false) in
    record {
      order = subst (IsOrderClosure (is_at_most c.extend.new.self)) (sym grown) (subst (λ (o : ℕ → ℕ → Bool). IsOrderClosure o (cube ++ lit ∷ [])) (sym (fun_ext (λ a. fun_ext (λ b. c.in_ok-extend.ensures a b)))) order);
      truth = λ e. both_grow e (cube_holds e c.args.self) cube c.args.literals.now c.loop-lit.lit-index _ (omega arith) (before.truth e) c.push.new.self grown;
      rules = λ rule h k. subst (CubeObeys rule) (sym grown) (All-push (Obeys rule) cube lit (before.rules rule h k) (k c.loop-lit.lit-index _ (omega arith)));
    }
