use Rattle.std.proofs.Common.{[], ◌∷◌, ◌≤◌, slice_set, sym, ap, subst, ◌∙◌, arith}
use Rattle.lois_base.specs.Fits.{Fits}
use Rattle.lois_base.specs.Tree.{tree as term_tree}
use Rattle.lois_deciders.proofs.Oracle.{none_is}
use Rattle.lois_script.specs.Tree.{assign}
use Rattle.lois_script.specs.View.{tree}
use Rattle.lois_meaning.specs.Faults.{Fails}
use Rattle.lois_context.specs.Slots.{SlotD}
use Rattle.lois_context.specs.ItemCounts.{comps_in}
use Rattle.lois_eval.specs.Throughout.{IsFaultOf}
use Rattle.lois_eval.proofs.LoopExit.{passed_on}
use Rattle.lois_eval.proofs.Names.{not_new}
use Rattle.lois_interp.specs.Failed.{FailsWithin}
use Rattle.lois_interp.specs.Leaves.{IsWithStore}
use Rattle.lois_interp.specs.Reached.{RunsAs}
use Rattle.lois_interp.specs.Run.{stmt_run}
use Rattle.lois_interp.proofs.LeafContexts.{assign_set, assign_named, assign_fails}
use Rattle.lois_interp.proofs.LeafRuns.{assign_runs}
use Rattle.lois_interp.proofs.leaves.run_assign.Goals as goal

pub normal_value-requires : goal.normal_value-requires
normal_value-requires g c = assign_set c.args.pos.offset c.args.name.now (tree c.args.e.now) g.T.Structure.ordered c.args.context c.requires

pub returns-in_err-term-clause-fault : goal.returns-in_err-term-clause-fault
returns-in_err-term-clause-fault g c =
    let p = c.args.pos.offset in let x = c.args.name.now in let e = tree c.args.e.now in let k = c.args.context in
    passed_on c.from_residual.result c.in_err-term.field-0.0 (IsFaultOf g.T.Structure.ordered k (Fails e)) (FailsWithin g.T.Structure.ordered (stmt_run (assign p x e)) k) c.from_residual.ensures.1 (λ f h. assign_fails g.T.Structure.ordered p x e k f h) c.in_err-term.ensures.fault

pub unreachable-requires : goal.unreachable-requires
unreachable-requires g c =
    let p = c.args.pos.offset in let x = c.args.name.now in let e = tree c.args.e.now in let k = c.args.context in
    not_new x k.store (assign_named p x e g.T.Structure.ordered k c.requires) (c.place_of.ensures.none.0 (none_is c.place_of.result c.in_default.is))

pub with_slot_at-requires-clause-index : goal.with_slot_at-requires-clause-index
with_slot_at-requires-clause-index g c = c.in-Some.ensures.found.0

pub with_slot_at-requires-clause-name : goal.with_slot_at-requires-clause-name
with_slot_at-requires-clause-name g c = λ q. c.in-Some.ensures.found.1 q ∙ (sym c.in_ok-copy.ensures ∙ sym (ap (λ (z : SlotD). z.name) c.in_ok-slot.ensures.made))

pub with_slot_at-requires-clause-levels : goal.with_slot_at-requires-clause-levels
with_slot_at-requires-clause-levels g c = subst (λ (z : SlotD). Fits c.args.context.size z.term) (sym c.in_ok-slot.ensures.made) c.in_ok-term.ensures.levels

pub with_slot_at-requires-clause-from : goal.with_slot_at-requires-clause-from
with_slot_at-requires-clause-from g c = subst (λ (z : SlotD). z.from ≤ comps_in z.term) (sym c.in_ok-slot.ensures.made) (omega arith)

pub returns-clause-runs : goal.returns-clause-runs
returns-clause-runs g c =
    let p = c.args.pos.offset in let x = c.args.name.now in let e = tree c.args.e.now in let k = c.args.context in
    let V = c.in_ok-term.ensures in
    let found = c.in-Some.ensures.found in
    let s : SlotD = record { name = c.in_ok-copy.field-0; term = term_tree c.in_ok-term.term; from = 0 } in
    let d = c.with_slot_at.result in
    subst (RunsAs (stmt_run (assign p x e)) k) (sym c.in_ok-one.ensures)
    (subst (λ z. RunsAs (stmt_run (assign p z e)) k (d ∷ [])) c.in_ok-copy.ensures
    (assign_runs s c.in-Some.index k d (subst (λ z. IsWithStore (slice_set k.store c.in-Some.index z) k d) c.in_ok-slot.ensures.made c.with_slot_at.ensures) found.0 (λ q. found.1 q ∙ sym c.in_ok-copy.ensures) p e V.value (λ o h. V.operators o (assign_set p s.name e o k h)) V.widths))
