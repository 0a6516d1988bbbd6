use Rattle.std.proofs.lemmas.Option.{IfSome_then}
use Rattle.std.proofs.lemmas.Result.{IfOk-weaker}
use Rattle.lois_base.specs.Tree.{tree}
use Rattle.lois_answers.specs.CaseView.{case_of}
use Rattle.lois_answers.specs.LineView.{line_of}
use Rattle.lois_shortest_word.specs.Shortest.{IsShortestWord}
use Rattle.std.specs.List.{All}
use Rattle.std.specs.Prelude.{Bool, IfSome}
use Rattle.lois_base.specs.Validity.{AdmitsTerm, HasBoundedWidths}
use Rattle.lois_shortest_word.specs.Ranked.{IsRankedOrNone}
use Rattle.lois_shortest_word.specs.declared.words.Word.{Word}
use Rattle.lois_shortest_word.proofs.RankedWords.{ranked_word, ranked_are}
use Rattle.lois_equal.specs.Differences.{AreBounded}
use Rattle.lois_equal.specs.SplitWords.{MaySplit}
use Rattle.lois_equal.proofs.CaseLines.{found_term, found_sound}
use Rattle.lois_equal.proofs.SettledWords.{settled_none, settled_some, settled_letters, some_both}
use Rattle.lois_languages.specs.Witnesses.{AcceptsShortest}
use Rattle.lois_languages.proofs.LineFaults.{automaton_term}
use Rattle.lois_languages.proofs.WordCases.{bounded_letters, shortest_split}
use Rattle.lois_languages.proofs.witnesses.word_in.Goals as goal

pub shortest_word-requires-clause-over : goal.shortest_word-requires-clause-over
shortest_word-requires-clause-over g c =
    record {
      levels = (found_sound g.T.Structure.ordered c.args.size c.args.name.now (case_of c.args.case.now) (line_of c.in-Some.line.now) c.requires.sound c.in-Some.ensures.line).levels;
      operators = (found_sound g.T.Structure.ordered c.args.size c.args.name.now (case_of c.args.case.now) (line_of c.in-Some.line.now) c.requires.sound c.in-Some.ensures.line).operators;
    }

pub shortest_word-requires-clause-automaton : goal.shortest_word-requires-clause-automaton
shortest_word-requires-clause-automaton g c =
    automaton_term c.args.size c.args.name.now (case_of c.args.case.now) (tree c.in-Some.line.now.term) c.requires.automaton (found_term c.args.name.now (case_of c.args.case.now) (line_of c.in-Some.line.now) c.in-Some.ensures.line)

pub split_found-requires : goal.split_found-requires
split_found-requires g c =
    let n = c.args.size in
    let u = c.args.case.now.«when» in
    IfSome_then c.in_ok-found.found {P = IsShortestWord n u (tree c.in-Some.line.now.term)} {Q = MaySplit n} c.in_ok-found.ensures.found (λ w h. (h.count, h.levels))

pub returns-clause-none : goal.returns-clause-none
returns-clause-none g c =
    let o = g.T.Structure.ordered in
    let t = tree c.in-Some.line.now.term in
    IfOk-weaker c.rank_found.result (IsRankedOrNone o c.in_ok-split.split) _ (λ r is none.
    (t, found_term c.args.name.now (case_of c.args.case.now) (line_of c.in-Some.line.now) c.in-Some.ensures.line, c.in_ok-found.ensures.none.0 (settled_none o c.args.size c.in_ok-found.found c.in_ok-split.split r c.in_ok-split.ensures is none))) c.rank_found.ensures

pub returns-clause-found : goal.returns-clause-found
returns-clause-found g c =
    let o = g.T.Structure.ordered in
    let n = c.args.size in
    let a = c.args.name.now in
    let case = case_of c.args.case.now in
    let t = tree c.in-Some.line.now.term in
    let found = c.in_ok-found.found in
    let sound = found_sound o n a case (line_of c.in-Some.line.now) c.requires.sound c.in-Some.ensures.line in
    let here = found_term a case (line_of c.in-Some.line.now) c.in-Some.ensures.line in
    let Settled : Word → Type 0 = λ w. IsShortestWord n case.«when» t w × All (AdmitsTerm o) w.letters in
    let operators : IfSome found (λ w. All (AdmitsTerm o) w.letters) = IfSome_then found {P = λ w. (p : Bool) → AdmitsTerm p t → All (AdmitsTerm p) w.letters} {Q = λ w. All (AdmitsTerm o) w.letters} c.in_ok-found.ensures.operators (λ w h. h o sound.operators) in
    let both : IfSome found Settled = some_both (IsShortestWord n case.«when» t) (λ w. All (AdmitsTerm o) w.letters) found c.in_ok-found.ensures.found operators in
    IfOk-weaker c.rank_found.result (IsRankedOrNone o c.in_ok-split.split) _ (λ r is.
    settled_some o n found c.in_ok-split.split r c.in_ok-split.ensures is Settled Settled (λ w. AcceptsShortest n a w case)
    (λ w v h s. (shortest_split n case.«when» t w v h.0 s, s.short.operators o h.1))
    (λ v w h k. (t, here, ranked_word o n case.«when» t c.requires.sound.levels c.requires.sound.operators sound.levels sound.operators (automaton_term n a case t c.requires.automaton here) v w h k)) both) c.rank_found.ensures

pub returns-clause-usual : goal.returns-clause-usual
returns-clause-usual g c =
    let o = g.T.Structure.ordered in
    let n = c.args.size in
    let t = tree c.in-Some.line.now.term in
    let found = c.in_ok-found.found in
    let sound = found_sound o n c.args.name.now (case_of c.args.case.now) (line_of c.in-Some.line.now) c.requires.sound c.in-Some.ensures.line in
    let Operators : Word → Type 0 = λ w. (p : Bool) → AdmitsTerm p t → All (AdmitsTerm p) w.letters in
    let Widths : Word → Type 0 = λ w. HasBoundedWidths t → All HasBoundedWidths w.letters in
    IfOk-weaker c.rank_found.result (IsRankedOrNone o c.in_ok-split.split) _ (λ r is.
    settled_letters o n found c.in_ok-split.split r c.in_ok-split.ensures is (λ w. Operators w × Widths w) (AreBounded o) (λ w v h s. bounded_letters o n t w v sound s h.0 h.1) (some_both Operators Widths found c.in_ok-found.ensures.operators c.in_ok-found.ensures.widths)) c.rank_found.ensures

pub returns-clause-ranked : goal.returns-clause-ranked
returns-clause-ranked g c =
    let o = g.T.Structure.ordered in
    IfOk-weaker c.rank_found.result (IsRankedOrNone o c.in_ok-split.split) _ (λ r is. ranked_are o c.in_ok-split.split r is) c.rank_found.ensures
