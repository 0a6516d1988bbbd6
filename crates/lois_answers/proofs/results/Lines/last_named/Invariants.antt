use Rattle.std.proofs.Common.{◌≡◌, take, map, option_map}
use Rattle.lois_answers.specs.LastNamed.{last_named}
use Rattle.lois_answers.specs.LineView.{line_of}
use Rattle.lois_answers.proofs.results.Lines.last_named.Given as goal

abbrev pub invariant-loop-line : goal.invariant-loop-line
invariant-loop-line l = option_map (λ z. line_of z.now) l.found ≡ last_named l.name (map line_of (take l.line-index l.line-items))
