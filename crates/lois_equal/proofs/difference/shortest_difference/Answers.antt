use Rattle.std.specs.List.{All}
use Rattle.std.specs.Prelude.{Bool, IfSome}
use Rattle.std.proofs.lemmas.Option.{IfSome_then}
use Rattle.std.proofs.lemmas.Result.{IfOk-weaker}
use Rattle.lois_base.specs.Tree.{tree}
use Rattle.lois_base.specs.Validity.{AdmitsTerm, HasBoundedWidths, IsStrictTerm}
use Rattle.lois_shortest_word.specs.Ranked.{IsRankedOrNone}
use Rattle.lois_shortest_word.specs.declared.words.Word.{Word}
use Rattle.lois_shortest_word.proofs.RankedWords.{ranked_are}
use Rattle.lois_equal.specs.Differences.{IsShortestDifference}
use Rattle.lois_equal.proofs.SettledWords.{ranked_difference, settled_none, settled_some, settled_letters, some_both}
use Rattle.lois_equal.proofs.SplitLetters.{may_split, split_difference}
use Rattle.lois_equal.proofs.difference.shortest_difference.Goals as goal

pub split_found-requires : goal.split_found-requires
split_found-requires g c =
    may_split c.args.size c.args.under.now (tree c.args.a.now) (tree c.args.b.now) c.in_ok-found.found c.in_ok-found.ensures.found

pub returns-clause-none : goal.returns-clause-none
returns-clause-none g c =
    let o = g.T.Structure.ordered in
    IfOk-weaker c.rank_found.result (IsRankedOrNone o c.in_ok-split.split) _ (λ r is none.
    c.in_ok-found.ensures.none (settled_none o c.args.size c.in_ok-found.found c.in_ok-split.split r c.in_ok-split.ensures is none)) c.rank_found.ensures

pub returns-clause-found : goal.returns-clause-found
returns-clause-found g c =
    let o = g.T.Structure.ordered in
    let n = c.args.size in
    let u = c.args.under.now in
    let a = tree c.args.a.now in
    let b = tree c.args.b.now in
    let found = c.in_ok-found.found in
    let Settled : Word → Type 0 = λ w. IsShortestDifference n u a b w × All (AdmitsTerm o) w.letters in
    let operators : IfSome found (λ w. All (AdmitsTerm o) w.letters) = IfSome_then found {P = λ w. (p : Bool) → AdmitsTerm p a → AdmitsTerm p b → All (AdmitsTerm p) w.letters} {Q = λ w. All (AdmitsTerm o) w.letters} c.in_ok-found.ensures.operators (λ w h. h o c.requires.over.operators c.requires.other.operators) in
    let both : IfSome found Settled = some_both (IsShortestDifference n u a b) (λ w. All (AdmitsTerm o) w.letters) found c.in_ok-found.ensures.found operators in
    IfOk-weaker c.rank_found.result (IsRankedOrNone o c.in_ok-split.split) _ (λ r is.
    settled_some o n found c.in_ok-split.split r c.in_ok-split.ensures is Settled Settled (IsShortestDifference n u a b)
    (λ w v h s. (split_difference n u a b w v h.0 s, s.short.operators o h.1))
    (ranked_difference o n u a b c.requires.under.levels c.requires.under.operators c.requires.over.levels c.requires.over.operators c.requires.other.levels c.requires.other.operators c.requires.automaton (λ d l h. let at = c.requires.deterministic d l h in (at.0, at.1))) both) c.rank_found.ensures

pub returns-clause-operators : goal.returns-clause-operators
returns-clause-operators g c =
    let o = g.T.Structure.ordered in
    let n = c.args.size in
    let a = tree c.args.a.now in
    let b = tree c.args.b.now in
    IfOk-weaker c.rank_found.result (IsRankedOrNone o c.in_ok-split.split) _ (λ r is.
    settled_letters o n c.in_ok-found.found c.in_ok-split.split r c.in_ok-split.ensures is (λ w. (p : Bool) → AdmitsTerm p a → AdmitsTerm p b → All (AdmitsTerm p) w.letters) (λ ts. (p : Bool) → AdmitsTerm p a → AdmitsTerm p b → All (AdmitsTerm p) ts) (λ w v h s p x y. s.short.operators p (h p x y)) c.in_ok-found.ensures.operators) c.rank_found.ensures

pub returns-clause-widths : goal.returns-clause-widths
returns-clause-widths g c =
    let o = g.T.Structure.ordered in
    let n = c.args.size in
    let a = tree c.args.a.now in
    let b = tree c.args.b.now in
    IfOk-weaker c.rank_found.result (IsRankedOrNone o c.in_ok-split.split) _ (λ r is.
    settled_letters o n c.in_ok-found.found c.in_ok-split.split r c.in_ok-split.ensures is (λ w. HasBoundedWidths a → HasBoundedWidths b → All HasBoundedWidths w.letters) (λ ts. HasBoundedWidths a → HasBoundedWidths b → All HasBoundedWidths ts) (λ w v h s x y. s.short.widths (h x y)) c.in_ok-found.ensures.widths) c.rank_found.ensures

pub returns-clause-strict : goal.returns-clause-strict
returns-clause-strict g c =
    let o = g.T.Structure.ordered in
    let n = c.args.size in
    let u = c.args.under.now in
    IfOk-weaker c.rank_found.result (IsRankedOrNone o c.in_ok-split.split) _ (λ r is.
    settled_letters o n c.in_ok-found.found c.in_ok-split.split r c.in_ok-split.ensures is (IsShortestDifference n u (tree c.args.a.now) (tree c.args.b.now)) (All IsStrictTerm) (λ w v h s. s.strict) c.in_ok-found.ensures.found) c.rank_found.ensures

pub returns-clause-ranked : goal.returns-clause-ranked
returns-clause-ranked g c =
    let o = g.T.Structure.ordered in
    IfOk-weaker c.rank_found.result (IsRankedOrNone o c.in_ok-split.split) _ (λ r is. ranked_are o c.in_ok-split.split r is) c.rank_found.ensures
