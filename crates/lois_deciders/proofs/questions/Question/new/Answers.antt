use Rattle.std.proofs.Common.{ap, ◌∙◌}
use Rattle.lois_base.specs.Truth.{lit_holds, cube_holds}
use Rattle.lois_deciders.proofs.Remembered.{all_permuted}
use Rattle.lois_deciders.proofs.questions.Question.new.Goals as goal

pub returns-clause-truth : goal.returns-clause-truth
returns-clause-truth c = λ e.
    c.in_ok-distinct.ensures e ∙ (ap (cube_holds e) c.deref.ensures.value ∙ (all_permuted (lit_holds e) c.in_ok-literals.literals.items c.sort_unstable_by_key.new.self.items c.sort_unstable_by_key.ensures.permutation ∙ c.in_ok-literals.ensures e))
