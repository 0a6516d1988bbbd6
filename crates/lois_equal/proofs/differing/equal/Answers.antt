use Rattle.std.specs.List.{All}
use Rattle.std.specs.Prelude.{Bool}
use Rattle.lois_base.specs.Tree.{tree}
use Rattle.lois_base.specs.Validity.{AdmitsTerm, HasBoundedWidths, IsStrictTerm}
use Rattle.lois_ranks.specs.Ranks.{AreRanks}
use Rattle.lois_equal.proofs.Shorter.{shorter_found, shorter_has}
use Rattle.lois_equal.proofs.differing.equal.Goals as goal

pub returns-clause-same : goal.returns-clause-same
returns-clause-same g c =
    (shorter_found c.args.size c.args.under.now (tree c.args.a.now) (tree c.args.b.now) c.in_ok-first.first c.in_ok-second.second c.shorter.result c.in_ok-first.ensures.none c.in_ok-first.ensures.found c.in_ok-second.ensures.none c.in_ok-second.ensures.found c.shorter.ensures).0

pub returns-clause-differs : goal.returns-clause-differs
returns-clause-differs g c =
    (shorter_found c.args.size c.args.under.now (tree c.args.a.now) (tree c.args.b.now) c.in_ok-first.first c.in_ok-second.second c.shorter.result c.in_ok-first.ensures.none c.in_ok-first.ensures.found c.in_ok-second.ensures.none c.in_ok-second.ensures.found c.shorter.ensures).1

pub returns-clause-operators : goal.returns-clause-operators
returns-clause-operators g c =
    let a = tree c.args.a.now in
    let b = tree c.args.b.now in
    shorter_has (λ w. (o : Bool) → AdmitsTerm o a → AdmitsTerm o b → All (AdmitsTerm o) w.letters) (λ w. (o : Bool) → AdmitsTerm o b → AdmitsTerm o a → All (AdmitsTerm o) w.letters) (λ w. (o : Bool) → AdmitsTerm o a → AdmitsTerm o b → All (AdmitsTerm o) w.letters)
    c.in_ok-first.first c.in_ok-second.second c.shorter.result c.in_ok-first.ensures.operators c.in_ok-second.ensures.operators (λ w h. h) (λ w h o p q. h o q p) c.shorter.ensures

pub returns-clause-widths : goal.returns-clause-widths
returns-clause-widths g c =
    let a = tree c.args.a.now in
    let b = tree c.args.b.now in
    shorter_has (λ w. HasBoundedWidths a → HasBoundedWidths b → All HasBoundedWidths w.letters) (λ w. HasBoundedWidths b → HasBoundedWidths a → All HasBoundedWidths w.letters) (λ w. HasBoundedWidths a → HasBoundedWidths b → All HasBoundedWidths w.letters)
    c.in_ok-first.first c.in_ok-second.second c.shorter.result c.in_ok-first.ensures.widths c.in_ok-second.ensures.widths (λ w h. h) (λ w h p q. h q p) c.shorter.ensures

pub returns-clause-strict : goal.returns-clause-strict
returns-clause-strict g c =
    shorter_has (λ w. All IsStrictTerm w.letters) (λ w. All IsStrictTerm w.letters) (λ w. All IsStrictTerm w.letters) c.in_ok-first.first c.in_ok-second.second c.shorter.result c.in_ok-first.ensures.strict c.in_ok-second.ensures.strict (λ w h. h) (λ w h. h) c.shorter.ensures

pub returns-clause-ranked : goal.returns-clause-ranked
returns-clause-ranked g c =
    let o = g.T.Structure.ordered in
    shorter_has (λ w. AreRanks o w.sample) (λ w. AreRanks o w.sample) (λ w. AreRanks o w.sample) c.in_ok-first.first c.in_ok-second.second c.shorter.result c.in_ok-first.ensures.ranked c.in_ok-second.ensures.ranked (λ w h. h) (λ w h. h) c.shorter.ensures
