use Rattle.std.proofs.Common.{sym, subst, arith}
use Rattle.std.specs.List.{All}
use Rattle.lois_constraint.specs.Signature.{RecordsLit}
use Rattle.lois_constraint.proofs.SignatureBits.{meets_nothing}
use Rattle.lois_constraint.proofs.signature.SignatureMask.of.Goals as goal

pub loop-lit-init : goal.loop-lit-init
loop-lit-init c = λ order all. meets_nothing order

pub loop-lit-preserved : goal.loop-lit-preserved
loop-lit-preserved c = λ order all.
    c.and-demands.ensures order (c.loop-lit.invariant order (λ k d l. all k d (omega (arith, l)))) (c.of_literal.ensures order (all c.loop-lit.lit-index _ (omega arith)))

pub returns : goal.returns
returns c = λ order all.
    let items : All (RecordsLit order) c.as_slice-lit-items.result.now = subst (All (RecordsLit order)) (sym c.as_slice-lit-items.ensures) all in
    c.loop-lit.invariant order (λ k d l. items k d (omega (arith, l)))
