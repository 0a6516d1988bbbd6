use Rattle.std.proofs.Common.{◌≡◌, map, take}
use Rattle.lois_answers.specs.LineView.{line_of}
use Rattle.lois_run.proofs.elements.terms_of.Given as goal

abbrev pub invariant-loop-element : goal.invariant-loop-element
invariant-loop-element l = l.terms ≡ map (λ k. k.term) (map line_of (take l.element-index l.element-items))
