use Rattle.std.proofs.Common.{◌+◌, [], ◌∷◌, take, ap, subst}
use Rattle.std.specs.Prelude.{IfSome, is_some}
use Rattle.lois_base.specs.Data.{coll, comps_of}
use Rattle.lois_base.specs.Tree.{comp_of}
use Rattle.lois_base.proofs.Validity.{fits_longer}
use Rattle.lois_answers.specs.declared.faults.FaultKind.TheVariants.{NotASet}
use Rattle.lois_eval.specs.Checks.{IsFaultWith, MeetsBoth}
use Rattle.lois_eval.specs.Operands.{IsMemberFault}
use Rattle.lois_eval.proofs.FaultsAt.{if_fault}
use Rattle.lois_eval.proofs.Flattened.{member_fault}
use Rattle.lois_eval.proofs.flattening.check_empty.Goals as goal

pub sample-requires-clause-first : goal.sample-requires-clause-first
sample-requires-clause-first g c =
    let k = c.args.context.now in
    fits_longer k.size c.args.comp.now.binders k.«when» k.levels

pub returns-in-Some-clause-fault : goal.returns-in-Some-clause-fault
returns-in-Some-clause-fault g c =
    let k = c.args.context.now in
    let l = comp_of c.args.comp.now in
    let s = c.in-Some.sample.items in
    let cut = take k.size s in
    let meets = subst (λ o. IfSome o (λ v. MeetsBoth (k.size + c.args.comp.now.binders) k.«when» c.args.comp.now.guard v.items)) c.in-Some.is c.in_ok-sample.ensures.some in
    if_fault c.fault.result (IsFaultWith c.args.pos NotASet c.truncate.new.self.items) (IsMemberFault g.T.Structure.ordered k (coll (comps_of (l ∷ []))) c.args.pos.offset)
    (λ f h. member_fault k g.T.Structure.ordered l c.args.pos s f c.requires.item c.requires.over.levels c.requires.over.operators meets (subst (λ z. IsFaultWith c.args.pos NotASet z f) c.truncate.ensures.items h)) c.fault.ensures

pub returns-in-None-clause-empty : goal.returns-in-None-clause-empty
returns-in-None-clause-empty g c = c.in_ok-sample.ensures.none.0 (ap is_some c.in-None.is)
