use Rattle.lois_script.specs.Lists.{stmt_tree}
use Rattle.lois_scope.specs.Walks.{seen, state_of, IsWithin}
use Rattle.lois_scope.proofs.Walked.{LeadsOn}
use Rattle.lois_scope.proofs.Lists.{statements_break, behind_all}
use Rattle.lois_scope.proofs.walk.Walk.+statements.Given as goal

abbrev pub invariant-block-loop-statement : goal.invariant-block-loop-statement
invariant-block-loop-statement l = record {
  within : IsWithin (state_of l.self);
  walked : LeadsOn stmt_tree statements_break behind_all l.statement-items l.statement-index (seen l.initial.self) (seen l.self);
}
