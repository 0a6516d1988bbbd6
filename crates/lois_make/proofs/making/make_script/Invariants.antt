use Rattle.std.proofs.Common.{◌≡◌, ◌++◌, codes}
use Rattle.lois_answers.specs.ResultsText.{lined}
use Rattle.lois_make.specs.MadeScript.{made_loops}
use Rattle.lois_make.proofs.making.make_script.Given as goal

abbrev pub invariant-loop-number : goal.invariant-loop-number
invariant-loop-number l = l.text.items ≡ lined (codes "atoms equality;") ++ lined (codes "let s = {};") ++ made_loops l.number
