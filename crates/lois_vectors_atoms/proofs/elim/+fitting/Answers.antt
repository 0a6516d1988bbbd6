use Rattle.std.proofs.Common.{◌<◌, length, sym, subst, arith}
use Rattle.lois_base.specs.FormulaData.{FormulasFit}
use Rattle.lois_base.specs.FormulaOperators.{AdmitsFormulas}
use Rattle.lois_base.proofs.FormulaViews.{formula_within}
use Rattle.lois_elim.proofs.Steps.{parts_are}
use Rattle.lois_vectors_atoms.proofs.elim.+fitting.Goals as goal

pub are_fit-is_fit-fit-requires : goal.are_fit-is_fit-fit-requires
are_fit-is_fit-fit-requires g t c =
    let below : c.loop-part.part-index < length c.as_slice-part-items.result.now = omega arith in
    let h = formula_within _ _ _ _ c.as_slice-part-items.ensures below c.part-item.is in
    λ κs outlives. (omega (arith, h), outlives)

pub are_fit-loop-part-preserved : goal.are_fit-loop-part-preserved
are_fit-loop-part-preserved g t c =
    let items = c.as_slice-part-items.result.now in
    let below : c.loop-part.part-index < length items = omega arith in
    let e = parts_are items c.loop-part.part-index c.part-item.result below c.part-item.is in
    let part = c.is_fit-fit.ensures in
    record {
      levels = λ rest. c.loop-part.invariant.levels (subst (FormulasFit c.args.size) (sym e) (part.levels c.if-not-fit.false, rest));
      operators = λ rest. c.loop-part.invariant.operators (subst (AdmitsFormulas g.T.Structure.ordered) (sym e) (part.operators c.if-not-fit.false, rest));
    }
