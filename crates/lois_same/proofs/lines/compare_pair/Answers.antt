use Rattle.std.proofs.lemmas.Result.{IfOk-weaker}
use Rattle.lois_answers.specs.CaseView.{case_of}
use Rattle.lois_deciders.specs.Conjunction.{IsSampledConjunction}
use Rattle.lois_deciders.proofs.Oracle.{some_is}
use Rattle.lois_same.specs.Rows.{AreLinesContrastOrNone}
use Rattle.lois_same.proofs.SameCases.{pair_of}
use Rattle.lois_same.proofs.lines.compare_pair.Goals as goal

pub returns-in-Some-clause-contrast : goal.returns-in-Some-clause-contrast
returns-in-Some-clause-contrast g c =
    let n = c.args.size in
    let k = case_of c.args.first.now in
    let l = case_of c.args.second.now in
    let both = c.in-Some.both in
    let is = some_is (λ m. IsSampledConjunction n k.«when» l.«when» m.constraint m.sample) c.in_ok-both.field-0 both c.in-Some.is c.in_ok-both.ensures.met in
    IfOk-weaker c.compare_lines.result (AreLinesContrastOrNone n both.constraint k.lines l.lines) _ (λ found h. pair_of n k l both found is h) c.compare_lines.ensures.contrast
