use Rattle.std.proofs.Common.{ℕ, [], ◌∷◌, sym, subst}
use Rattle.std.proofs.lemmas.Result.{IfOk-weaker}
use Rattle.lois_base.specs.Fits.{Fits}
use Rattle.lois_base.specs.Tree.{tree}
use Rattle.lois_algebra.specs.Sets.{IsUnion, IsIntersection, IsDifference}
use Rattle.lois_terms.specs.Collections.{IsColl}
use Rattle.lois_eval.specs.Operands.{IsAppliedThroughout}
use Rattle.lois_eval.proofs.Applied.{union_applied, inter_applied, minus_applied}
use Rattle.lois_eval.proofs.LoopExit.{both_ok}
use Rattle.lois_eval.proofs.operations.combination.Goals as goal

pub returns-in-Union-clause-applied : goal.returns-in-Union-clause-applied
returns-in-Union-clause-applied g c =
    let k = c.args.context.now in
    let s = tree c.args.s.now in
    let t = tree c.args.t.now in
    both_ok c.union.result (λ r. IsUnion s t (tree r)) (λ r. IsColl (tree r)) (λ r. IsAppliedThroughout k c.args.operation (s ∷ t ∷ []) (tree r)) c.union.ensures.members c.union.ensures.set
    (λ r members set. subst (λ op. IsAppliedThroughout k op (s ∷ t ∷ []) (tree r)) (sym c.in-Union.is) (union_applied k s t (tree r) c.requires.left_set c.requires.right_set set members))

pub returns-in-Inter-clause-applied : goal.returns-in-Inter-clause-applied
returns-in-Inter-clause-applied g c =
    let k = c.args.context.now in
    let s = tree c.args.s.now in
    let t = tree c.args.t.now in
    both_ok c.inter.result (λ r. IsIntersection k.size s t (tree r)) (λ r. IsColl (tree r)) (λ r. IsAppliedThroughout k c.args.operation (s ∷ t ∷ []) (tree r)) c.inter.ensures.members c.inter.ensures.set
    (λ r members set. subst (λ op. IsAppliedThroughout k op (s ∷ t ∷ []) (tree r)) (sym c.in-Inter.is) (inter_applied k s t (tree r) c.requires.left_set c.requires.right_set set members))

pub returns-in-Minus-clause-applied : goal.returns-in-Minus-clause-applied
returns-in-Minus-clause-applied g c =
    let k = c.args.context.now in
    let s = tree c.args.s.now in
    let t = tree c.args.t.now in
    both_ok c.minus.result (λ r. IsDifference k.size s t (tree r)) (λ r. IsColl (tree r)) (λ r. IsAppliedThroughout k c.args.operation (s ∷ t ∷ []) (tree r)) c.minus.ensures.members c.minus.ensures.set
    (λ r members set. subst (λ op. IsAppliedThroughout k op (s ∷ t ∷ []) (tree r)) (sym c.in-Minus.is) (minus_applied k s t (tree r) c.requires.left_set c.requires.right_set set members))

pub returns-in-Union-clause-levels : goal.returns-in-Union-clause-levels
returns-in-Union-clause-levels g c =
    let s = tree c.args.s.now in
    let t = tree c.args.t.now in
    IfOk-weaker c.union.result (λ r. (n : ℕ) → Fits n s → Fits n t → Fits n (tree r)) _ (λ r fits. fits c.args.context.now.size c.requires.left.levels c.requires.right.levels) c.union.ensures.levels
