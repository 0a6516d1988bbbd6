use Rattle.std.proofs.Common.{subst, sym, arith}
use Rattle.std.proofs.lemmas.List.Elements.{All-nil}
use Rattle.lois_base.specs.Fits.{CubeFits, ConstraintFits}
use Rattle.lois_base.specs.Validity.{AdmitsCube, AdmitsConstraint}
use Rattle.lois_relate.proofs.Parts.{is_comp_of}
use Rattle.lois_automata.proofs.Tests.{some_begin, some_more, some_end}
use Rattle.lois_automata.proofs.conditions.where_inhabited.Goals as goal

pub where_making-requires : goal.where_making-requires
where_making-requires g c =
    let k = is_comp_of c.as_slice-comp-items.result.now c.args.items.now c.loop-comp.comp-index c.comp-item.result c.as_slice-comp-items.ensures c.loop-comp-test.true c.comp-item.is in
    record {
      over = record {
        levels = k.fits c.args.size c.requires.over.levels;
        operators = k.admits g.T.Structure.ordered c.requires.over.operators;
      };
    }

pub loop-comp-init : goal.loop-comp-init
loop-comp-init g c = (
  some_begin c.args.size c.args.items.now c.as_slice-comp-items.result.now c.new-found.result c.as_slice-comp-items.ensures c.new-found.ensures,
  subst (λ z. ConstraintFits c.args.size z) (sym c.new-found.ensures) (All-nil (CubeFits c.args.size)),
  λ o h. subst (λ z. AdmitsConstraint o z) (sym c.new-found.ensures) (All-nil (AdmitsCube o)),
)

pub loop-comp-preserved : goal.loop-comp-preserved
loop-comp-preserved g c = (
  some_more c.args.size c.args.items.now c.as_slice-comp-items.result.now c.loop-comp.comp-index c.comp-item.result c.loop-comp.found c.in_ok-made.made c.in_ok-found.found c.loop-comp-test.true c.comp-item.is c.in_ok-made.ensures.truth c.in_ok-found.ensures.truth c.loop-comp.invariant.0,
  c.in_ok-found.ensures.fits c.args.size c.loop-comp.invariant.1 c.in_ok-made.ensures.levels,
  λ o h.
      let k = is_comp_of c.as_slice-comp-items.result.now c.args.items.now c.loop-comp.comp-index c.comp-item.result c.as_slice-comp-items.ensures c.loop-comp-test.true c.comp-item.is in
      c.in_ok-found.ensures.operators o (c.loop-comp.invariant.2 o h) (c.in_ok-made.ensures.operators o (k.admits o h)),
)

pub returns-clause-truth : goal.returns-clause-truth
returns-clause-truth g c =
    some_end c.args.size c.args.items.now c.as_slice-comp-items.result.now c.loop-comp.comp-index c.loop-comp.found (omega (arith, c.loop-comp-test.false)) c.loop-comp.invariant.0
