use Rattle.std.proofs.Common.{take, map}
use Rattle.std.specs.List.{All}
use Rattle.lois_answers.specs.LineView.{line_of}
use Rattle.lois_answers.specs.Sound.{HasTags}
use Rattle.lois_run.proofs.running.element_tags_are_names.Given as goal

abbrev pub invariant-loop-element : goal.invariant-loop-element
invariant-loop-element l = All (λ x. HasTags x.term) (map line_of (take l.element-index l.element-items))
