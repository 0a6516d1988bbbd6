use Rattle.std.proofs.Common.{◌≡◌, ◌-◌, get_or, sym, ap, ◌∙◌, arith}
use Rattle.lois_base.specs.Truth.{cube_holds}
use Rattle.lois_base.specs.declared.guards.Lit.{Lit}
use Rattle.lois_base.specs.declared.guards.Op.TheVariants.{Eq}
use Rattle.lois_constraint.proofs.Tightened.{tight_grows, tight_stays}
use Rattle.lois_constraint.proofs.Alike.{lits_same}
use Rattle.lois_deciders.proofs.Remembered.{stands_before, is_not}
use Rattle.lois_deciders.proofs.questions.distinct.Goals as goal
use Rattle.lois_deciders.proofs.questions.distinct.Goals.{then-index-eq0+in_ok-push, else-index-eq0+else-ne}

pub loop-index-preserved : goal.loop-index-preserved
loop-index-preserved c =
    let xs = c.args.literals.now in
    let i = c.loop-index.index in
    let d : Lit = record { op = Eq; left = 0; right = 0 } in
    elim c.if-index-eq0.branch [
      | then-index-eq0+in_ok-push w ↦ (λ e. tight_grows e c.loop-index.distinct.items xs i d c.loop-index-test.true (c.loop-index.invariant e) c.if-index-eq0.distinct.items (ap (λ v. v.items) w.distinct-is ∙ w.in_ok-push.ensures.items))
      | else-index-eq0+else-ne w ↦ (let same : get_or xs i d ≡ get_or xs (i - 1) d = lits_same (get_or xs i d) (get_or xs (i - 1) d) (is_not _ w.if-ne.ensures) in
          λ e. ap (λ v. cube_holds e v.items) w.distinct-is ∙ tight_stays e c.loop-index.distinct.items xs i d c.loop-index-test.true (c.loop-index.invariant e) (λ h. stands_before e xs i d (omega (arith, w.if-index-eq0.false)) c.loop-index-test.true same (sym (c.loop-index.invariant e) ∙ h)))
    ]
