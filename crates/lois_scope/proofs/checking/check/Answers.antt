use Rattle.lois_script.specs.View.{script_tree}
use Rattle.lois_scope.specs.Breaks.{rule_view}
use Rattle.lois_scope.proofs.First.{refused_for}
use Rattle.lois_scope.proofs.checking.check.Goals as goal

pub returns-in-Ok-Some-clause-first : goal.returns-in-Ok-Some-clause-first
returns-in-Ok-Some-clause-first c =
    let found = c.in-Ok-Some.found in
    let broken = rw c.in-Ok-Some.field-0-is at c.in-Ok-Some.ensures.first in
    λ rule at h. refused_for (script_tree c.args.script) (rule_view found.rule) rule found.pos.offset at c.refusal.result broken h c.refusal.ensures.exact
