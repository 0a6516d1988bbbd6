use Rattle.std.proofs.Common.{[], ◌∷◌, ◌++◌, ◌≤◌, sym, ap, subst, ◌∙◌, arith}
use Rattle.lois_base.specs.Fits.{Fits}
use Rattle.lois_base.specs.Tree.{tree as term_tree}
use Rattle.lois_script.specs.Tree.{«let»}
use Rattle.lois_script.specs.View.{tree}
use Rattle.lois_meaning.specs.Faults.{Fails}
use Rattle.lois_context.specs.Slots.{SlotD, IsNew}
use Rattle.lois_context.specs.ItemCounts.{comps_in}
use Rattle.lois_eval.specs.Throughout.{IsFaultOf}
use Rattle.lois_eval.proofs.LoopExit.{passed_on}
use Rattle.lois_interp.specs.Failed.{FailsWithin}
use Rattle.lois_interp.specs.Leaves.{IsWithStore}
use Rattle.lois_interp.specs.Reached.{RunsAs}
use Rattle.lois_interp.specs.Run.{stmt_run}
use Rattle.lois_interp.proofs.LeafContexts.{let_set, let_new, let_fails}
use Rattle.lois_interp.proofs.LeafRuns.{let_runs}
use Rattle.lois_interp.proofs.leaves.run_let.Goals as goal

pub normal_value-requires : goal.normal_value-requires
normal_value-requires g c = let_set c.args.pos.offset c.args.name.now (tree c.args.e.now) g.T.Structure.ordered c.args.context c.requires

pub returns-in_err-term-clause-fault : goal.returns-in_err-term-clause-fault
returns-in_err-term-clause-fault g c =
    let p = c.args.pos.offset in let x = c.args.name.now in let e = tree c.args.e.now in let k = c.args.context in
    passed_on c.from_residual.result c.in_err-term.field-0.0 (IsFaultOf g.T.Structure.ordered k (Fails e)) (FailsWithin g.T.Structure.ordered (stmt_run («let» p x e)) k) c.from_residual.ensures.1 (λ f h. let_fails g.T.Structure.ordered p x e k f h) c.in_err-term.ensures.fault

pub with_slot-requires-clause-new_name : goal.with_slot-requires-clause-new_name
with_slot-requires-clause-new_name g c =
    let p = c.args.pos.offset in let x = c.args.name.now in let e = tree c.args.e.now in let k = c.args.context in
    subst (λ z. IsNew z k.store) (sym (ap (λ (z : SlotD). z.name) c.in_ok-slot.ensures.made ∙ c.in_ok-copy.ensures)) (let_new p x e g.T.Structure.ordered k c.requires)

pub with_slot-requires-clause-levels : goal.with_slot-requires-clause-levels
with_slot-requires-clause-levels g c = subst (λ (z : SlotD). Fits c.args.context.size z.term) (sym c.in_ok-slot.ensures.made) c.in_ok-term.ensures.levels

pub with_slot-requires-clause-from : goal.with_slot-requires-clause-from
with_slot-requires-clause-from g c = subst (λ (z : SlotD). z.from ≤ comps_in z.term) (sym c.in_ok-slot.ensures.made) (omega arith)

pub returns-clause-runs : goal.returns-clause-runs
returns-clause-runs g c =
    let p = c.args.pos.offset in let x = c.args.name.now in let e = tree c.args.e.now in let k = c.args.context in
    let V = c.in_ok-term.ensures in
    let s : SlotD = record { name = c.in_ok-copy.field-0; term = term_tree c.in_ok-term.term; from = 0 } in
    let d = c.in_ok-with_slot.field-0 in
    subst (RunsAs (stmt_run («let» p x e)) k) (sym c.in_ok-one.ensures)
    (subst (λ z. RunsAs (stmt_run («let» p z e)) k (d ∷ [])) c.in_ok-copy.ensures
    (let_runs p e s k d (subst (λ z. IsWithStore (k.store ++ z ∷ []) k d) c.in_ok-slot.ensures.made c.in_ok-with_slot.ensures) (subst (λ z. IsNew z k.store) (sym c.in_ok-copy.ensures) (let_new p x e g.T.Structure.ordered k c.requires)) V.value (λ o h. V.operators o (let_set p s.name e o k h)) V.widths))
