use Rattle.std.proofs.Common.{sym, subst, arith}
use Rattle.std.proofs.lemmas.Result.{IfOk-weaker}
use Rattle.lois_base.specs.Tree.{comp_of}
use Rattle.lois_simplify.specs.Rounds.{IsOpen, IsOpeningOf, IsKeptEverywhere}
use Rattle.lois_simplify.proofs.OneRound.{always_open, everywhere_trans, everywhere_fits, everywhere_admits, opened_without_unused}
use Rattle.lois_simplify.proofs.rounds.open_round.Goals as goal

pub without_tied_binders-requires : goal.without_tied_binders-requires
without_tied_binders-requires g c =
    let k = comp_of c.args.comp in
    let s = comp_of c.in_ok-used.used in
    record {
      over = record {
        levels = everywhere_fits c.args.size k s c.in_ok-used.ensures.kept c.requires.over.levels;
        operators = everywhere_admits c.args.size k s c.in_ok-used.ensures.kept g.T.Structure.ordered c.requires.over.operators;
      };
    }

pub open_asked-requires-clause-over : goal.open_asked-requires-clause-over
open_asked-requires-clause-over g c =
    let n = c.args.size in
    let k = comp_of c.args.comp in
    let r = comp_of c.in_ok-comp.comp in
    let kept = everywhere_trans n k (comp_of c.in_ok-used.used) r c.in_ok-used.ensures.kept c.in_ok-comp.ensures.kept in
    record {
      levels = everywhere_fits n k r kept c.requires.over.levels;
      operators = everywhere_admits n k r kept g.T.Structure.ordered c.requires.over.operators;
    }

pub returns-then-single-clause-opening : goal.returns-then-single-clause-opening
returns-then-single-clause-opening g c =
    let u = c.args.under.now in
    let n = c.args.size in
    let k = c.in_ok-comp.comp in
    let kept : IsKeptEverywhere n (comp_of c.args.comp) (comp_of k) = everywhere_trans n (comp_of c.args.comp) (comp_of c.in_ok-used.used) (comp_of k) c.in_ok-used.ensures.kept c.in_ok-comp.ensures.kept in
    let one = c.in_ok-single.ensures c.if-single.true in (
      kept u c.requires.under_levels,
      omega (arith, c.in_ok-used.ensures.binders, c.in_ok-comp.ensures.binders),
      subst (IsOpen c.args.brief u n k.binders k.guard) (sym c.in_ok-here.ensures) (always_open c.args.brief u n k.binders k.guard one.0 one.1 c.requires.under_levels (c.requires.met c.if-met.true)),
    )

pub returns-clause-opening : goal.returns-clause-opening
returns-clause-opening g c =
    let u = c.args.under.now in
    let n = c.args.size in
    let s = c.in_ok-comp.comp in
    let kept = everywhere_trans n (comp_of c.args.comp) (comp_of c.in_ok-used.used) (comp_of s) c.in_ok-used.ensures.kept c.in_ok-comp.ensures.kept in
    IfOk-weaker c.open_asked.result (IsOpeningOf c.args.brief u n s) (IsOpeningOf c.args.brief u n c.args.comp) (λ x o. opened_without_unused c.args.brief u n c.args.comp s x c.requires.under_levels kept (omega (arith, c.in_ok-used.ensures.binders, c.in_ok-comp.ensures.binders)) o) c.open_asked.ensures.opening
