use Rattle.lois_deciders.proofs.Classes.{IsMoved}
use Rattle.lois_deciders.proofs.labels.move_class.Given as goal

abbrev pub invariant-loop-level : goal.invariant-loop-level
invariant-loop-level l = IsMoved l.initial.labels.items l.level-items l.new l.level-index l.labels.items
