-- `run`, then `equal`.
use Rattle.std.proofs.Common.{List, length}
use Rattle.lois_base.specs.Atom.{Atom}
use Rattle.lois_base.specs.Truth.{sampled}
use Rattle.lois_base.specs.Values.{point}
use Rattle.lois_base.proofs.Members.{same_sym}
use Rattle.lois_equal.specs.Comparing.{LinesHaveSameLanguage, LinesDiffer, IsFirst}
use Rattle.lois_interp.specs.Interpreted.{IsChoiceOf, IsRightAt}
use Rattle.lois_shortest_word.specs.Words.{first_sampled, values_at}
use Rattle.lois_laws.specs.Laws.{EqualIsOfTheRun, DifferenceIsOfTheRun}
use Rattle.lois_laws.proofs.CaseHere.{as_many, sampled_choice, said_here, printed_here}
use Rattle.lois_laws.proofs.PrintedLines.{found}
use Rattle.lois_laws.proofs.SameWords.{told_same, told_by}

pub equal_is_of_the_run : EqualIsOfTheRun
equal_is_of_the_run s r a b results answer c choice =
    let n = length r.parameters in
    let right : IsRightAt s r.cases c = results.choices c choice in
    let alike : LinesHaveSameLanguage n a b right.one = said_here s r results (LinesHaveSameLanguage n a b) c right answer.1 in
    let one = found c a right.one right.lines.printed alike.0 alike.2 right.lines.values in
    let other = found c b right.one right.lines.printed alike.1 alike.3 right.lines.values in (
      one.0,
      other.0,
      ((right.lines.printed, right.lines.ends, one.1), (right.lines.printed, right.lines.ends, other.1)),
      λ word apart. alike.4 c (as_many s r results c choice) right.here word (told_same one.0 other.0 (point alike.0 c) (point alike.1 c) word (same_sym (point alike.0 c) one.0 one.2) (same_sym (point alike.1 c) other.0 other.2) apart),
    )

pub difference_is_of_the_run : DifferenceIsOfTheRun
difference_is_of_the_run s r a b name k d results answer =
    let n = length r.parameters in
    let first : IsFirst (LinesHaveSameLanguage n a b) (LinesDiffer n a b d name) k r.cases = answer.1 in
    let apart : LinesDiffer n a b d name first.here = first.own in
    let c : List Atom = first_sampled n d.sample in
    let choice : IsChoiceOf s c = sampled_choice s r results d.sample apart.difference.count in
    let right : IsRightAt s r.cases c = results.choices c choice in
    let values = printed_here s r results c right first apart.difference.admitted in
    let one = found c a first.here right.lines.printed apart.first apart.first_line values in
    let other = found c b first.here right.lines.printed apart.second apart.second_line values in (
      one.0,
      other.0,
      ((right.lines.printed, right.lines.ends, one.1), (right.lines.printed, right.lines.ends, other.1)),
      told_by d.left apart.first apart.second c one.0 other.0 (values_at (sampled d.sample) d.word) one.2 other.2 apart.difference.apart,
    )
