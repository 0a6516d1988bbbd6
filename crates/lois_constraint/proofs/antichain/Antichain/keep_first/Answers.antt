use Rattle.std.proofs.Common.{◌≡◌, true, sym, subst, List}
use Rattle.lois_base.specs.Truth.{holds}
use Rattle.lois_base.specs.declared.guards.Lit.{Lit}
use Rattle.lois_constraint.specs.Entailment.{IsPruned}
use Rattle.lois_constraint.proofs.Pruned.{first_pruned, first_holds}
use Rattle.lois_constraint.proofs.antichain.Antichain.keep_first.Goals as goal

pub invariant_of-result : goal.invariant_of-result
invariant_of-result c = subst IsPruned (sym c.truncate.ensures.items) (first_pruned c.args.most c.self.inside.items.items c.self.invariant)

pub returns-clause-truth : goal.returns-clause-truth
returns-clause-truth c = λ e h. subst (λ (g : List (List Lit)). holds e g ≡ true) c.self.view_is (first_holds e c.args.most c.self.inside.items.items (subst (λ (g : List (List Lit)). holds e g ≡ true) c.truncate.ensures.items h))
