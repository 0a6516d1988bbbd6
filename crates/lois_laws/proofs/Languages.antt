-- `run`, then `word` or `within`.
use Rattle.std.proofs.Common.{List, length}
use Rattle.lois_base.specs.Atom.{Atom}
use Rattle.lois_base.specs.Truth.{sampled}
use Rattle.lois_base.specs.Values.{point}
use Rattle.lois_base.proofs.Members.{same_sym, same_refl}
use Rattle.lois_equal.specs.Comparing.{IsFirst}
use Rattle.lois_interp.specs.Interpreted.{IsChoiceOf, IsRightAt}
use Rattle.lois_languages.specs.Inclusions.{IsWithin, IsBeyond}
use Rattle.lois_languages.specs.Witnesses.{AcceptsNone, AcceptsShortest}
use Rattle.lois_meaning.proofs.Automata.{automaton_same}
use Rattle.lois_shortest_word.specs.Words.{first_sampled, values_at}
use Rattle.lois_laws.specs.Laws.{NoWordIsOfTheRun, WordIsOfTheRun, WithinIsOfTheRun, BeyondIsOfTheRun}
use Rattle.lois_laws.proofs.CaseHere.{as_many, sampled_choice, said_here, printed_here}
use Rattle.lois_laws.proofs.PrintedLines.{found}
use Rattle.lois_laws.proofs.SameWords.{accepts_same, only_first_same}

pub no_word_is_of_the_run : NoWordIsOfTheRun
no_word_is_of_the_run s r a results answer c choice =
    let n = length r.parameters in
    let right : IsRightAt s r.cases c = results.choices c choice in
    let none : AcceptsNone n a right.one = said_here s r results (AcceptsNone n a) c right answer.1 in
    let one = found c a right.one right.lines.printed none.0 none.1 right.lines.values in
    let empty = none.2 c (as_many s r results c choice) right.here in
    let t = point none.0 c in (
      one.0,
      (right.lines.printed, right.lines.ends, one.1),
      λ word h. empty.2 word (let back = accepts_same one.0 t word (same_sym t one.0 one.2) h in automaton_same t t back.0 empty.0 (same_refl t) back.1 empty.1 word back.2),
    )

pub word_is_of_the_run : WordIsOfTheRun
word_is_of_the_run s r a k w results answer =
    let n = length r.parameters in
    let first : IsFirst (AcceptsNone n a) (AcceptsShortest n a w) k r.cases = answer.1 in
    let own : AcceptsShortest n a w first.here = first.own in
    let c : List Atom = first_sampled n w.sample in
    let choice : IsChoiceOf s c = sampled_choice s r results w.sample own.2.count in
    let right : IsRightAt s r.cases c = results.choices c choice in
    let one = found c a first.here right.lines.printed own.0 own.1 (printed_here s r results c right first own.2.admitted) in (
      one.0,
      (right.lines.printed, right.lines.ends, one.1),
      accepts_same (point own.0 c) one.0 (values_at (sampled w.sample) w.letters) one.2 own.2.accepted,
    )

pub within_is_of_the_run : WithinIsOfTheRun
within_is_of_the_run s r a b results answer c choice =
    let n = length r.parameters in
    let right : IsRightAt s r.cases c = results.choices c choice in
    let within : IsWithin n a b right.one = said_here s r results (IsWithin n a b) c right answer.1 in
    let one = found c a right.one right.lines.printed within.0 within.2 right.lines.values in
    let other = found c b right.one right.lines.printed within.1 within.3 right.lines.values in (
      one.0,
      other.0,
      ((right.lines.printed, right.lines.ends, one.1), (right.lines.printed, right.lines.ends, other.1)),
      λ word alone. within.4 c (as_many s r results c choice) right.here word (only_first_same one.0 other.0 (point within.0 c) (point within.1 c) word (same_sym (point within.0 c) one.0 one.2) (same_sym (point within.1 c) other.0 other.2) alone),
    )

pub beyond_is_of_the_run : BeyondIsOfTheRun
beyond_is_of_the_run s r a b name k d results answer =
    let n = length r.parameters in
    let first : IsFirst (IsWithin n a b) (IsBeyond n a b d name) k r.cases = answer.1 in
    let own : IsBeyond n a b d name first.here = first.own in
    let excess = own.4.word in
    let c : List Atom = first_sampled n d.sample in
    let choice : IsChoiceOf s c = sampled_choice s r results d.sample excess.count in
    let right : IsRightAt s r.cases c = results.choices c choice in
    let values = printed_here s r results c right first excess.admitted in
    let one = found c a first.here right.lines.printed own.0 own.2 values in
    let other = found c b first.here right.lines.printed own.1 own.3 values in (
      one.0,
      other.0,
      ((right.lines.printed, right.lines.ends, one.1), (right.lines.printed, right.lines.ends, other.1)),
      only_first_same (point own.0 c) (point own.1 c) one.0 other.0 (values_at (sampled d.sample) d.word) one.2 other.2 excess.accepted,
    )
