use Rattle.std.proofs.Common.{[], ◌∷◌, ◌≡◌, slice_set, sym, ap, refl, subst, ◌∙◌, arith}
use Rattle.lois_answers.specs.declared.faults.FaultKind.TheVariants.{NotASet}
use Rattle.lois_base.specs.Fits.{Fits}
use Rattle.lois_base.specs.Tree.{tree as term_tree}
use Rattle.lois_deciders.proofs.Oracle.{none_is}
use Rattle.lois_deciders.proofs.OnlyAsked.{only_asked_then}
use Rattle.lois_script.specs.Tree.{add}
use Rattle.lois_script.specs.View.{tree}
use Rattle.lois_meaning.specs.Faults.{Fails}
use Rattle.lois_context.specs.Slots.{SlotD}
use Rattle.lois_eval.specs.Throughout.{IsFaultOf}
use Rattle.lois_eval.proofs.FaultsAt.{if_fault}
use Rattle.lois_eval.proofs.LoopExit.{passed_on}
use Rattle.lois_eval.proofs.Names.{not_new, held_value}
use Rattle.lois_eval.specs.Checks.{IsFaultWith, IsDepthFault}
use Rattle.lois_interp.specs.Failed.{FailsWithin}
use Rattle.lois_interp.specs.Leaves.{held_of, IsWithStore}
use Rattle.lois_interp.specs.Members.{IsExtended}
use Rattle.lois_interp.specs.Reached.{RunsAs}
use Rattle.lois_interp.specs.Run.{stmt_run}
use Rattle.lois_interp.proofs.Extended.{slot_held, set_fits, set_from, set_admits, set_widths, set_joined, admitted_there, depth_fault_there}
use Rattle.lois_interp.proofs.LeafContexts.{add_set, add_named, add_fails, add_no_set, add_too_deep}
use Rattle.lois_interp.proofs.LeafRuns.{add_runs}
use Rattle.lois_interp.proofs.leaves.run_add.Goals as goal

pub normal_value-requires : goal.normal_value-requires
normal_value-requires g c = add_set c.args.pos.offset c.args.name.now (tree c.args.e.now) g.T.Structure.ordered c.args.context c.requires

pub returns-in_err-item-clause-fault : goal.returns-in_err-item-clause-fault
returns-in_err-item-clause-fault g c =
    let p = c.args.pos.offset in let x = c.args.name.now in let e = tree c.args.e.now in let k = c.args.context in
    passed_on c.from_residual.result c.in_err-item.field-0.0 (IsFaultOf g.T.Structure.ordered k (Fails e)) (FailsWithin g.T.Structure.ordered (stmt_run (add e p x)) k) c.from_residual.ensures.1 (λ f h. add_fails g.T.Structure.ordered p x e k f h) c.in_err-item.ensures.fault

pub unreachable-requires : goal.unreachable-requires
unreachable-requires g c =
    let p = c.args.pos.offset in let x = c.args.name.now in let e = tree c.args.e.now in let k = c.args.context in
    not_new x k.store (add_named p x e g.T.Structure.ordered k c.requires) (c.place_of.ensures.none.0 (none_is c.place_of.result c.in_default.is))

pub take_out-requires-clause-index : goal.take_out-requires-clause-index
take_out-requires-clause-index g c = c.in-Some.ensures.found.0

pub take_out-requires-clause-name : goal.take_out-requires-clause-name
take_out-requires-clause-name g c = c.in-Some.ensures.found.1

pub returns-in_default-extended-clause-fault : goal.returns-in_default-extended-clause-fault
returns-in_default-extended-clause-fault g c =
    let x = c.args.name.now in let e = tree c.args.e.now in let k = c.args.context in let i = c.in-Some.index in
    let taken = c.in_ok-out.out in let t = term_tree taken.term in
    let held = slot_held k x i (held_of taken) c.in-Some.ensures.found c.in_ok-out.ensures.slot in
    let none = subst (IsExtended t (term_tree c.in_ok-item.item)) (c.in_default-extended.is) c.in_ok-extended.ensures in
    if_fault c.fault_under.result (IsFaultWith c.args.pos NotASet taken.rest.sample) (FailsWithin g.T.Structure.ordered (stmt_run (add e c.args.pos.offset x)) k)
    (λ f h. add_no_set c.args.pos x e k t (λ a. held_value x k.store t a held) f g.T.Structure.ordered c.requires.operators (term_tree c.in_ok-item.item) c.in_ok-item.ensures.value none (subst (λ z. IsFaultWith c.args.pos NotASet z f) c.in_ok-out.ensures.sample h)) c.fault_under.ensures

pub check_depth-requires : goal.check_depth-requires
check_depth-requires g c =
    let k = c.args.context in let taken = c.in_ok-out.out in let T = c.in_ok-out.ensures in let item = term_tree c.in_ok-item.item in
    let set = term_tree c.in-Some-extended.set in
    let more = subst (IsExtended (term_tree taken.term) item) c.in-Some-extended.is c.in_ok-extended.ensures in
    let x = c.args.name.now in let e = tree c.args.e.now in let k = c.args.context in let o = g.T.Structure.ordered in
    let taken = c.in_ok-out.out in let item = term_tree c.in_ok-item.item in
    record {
      over = record {
        levels = subst (λ n. Fits n set) (sym T.size) (set_fits k c.args.name.now c.in-Some.index (held_of taken) c.in-Some.ensures.found T.slot item set more (omega arith) c.in_ok-item.ensures.levels);
        operators =
            set_admits k x c.in-Some.index (held_of taken) c.in-Some.ensures.found c.in_ok-out.ensures.slot item (term_tree c.in-Some-extended.set) more o c.requires.operators
            (c.in_ok-item.ensures.operators o (add_set c.args.pos.offset x e o k c.requires));
      };
    }

pub returns-in_err-check_depth-clause-fault : goal.returns-in_err-check_depth-clause-fault
returns-in_err-check_depth-clause-fault g c =
    let x = c.args.name.now in let e = tree c.args.e.now in let k = c.args.context in let i = c.in-Some.index in
    let found = c.in-Some.ensures.found in
    let taken = c.in_ok-out.out in let T = c.in_ok-out.ensures in let t = term_tree taken.term in
    let item = term_tree c.in_ok-item.item in let set = term_tree c.in-Some-extended.set in
    let more = subst (IsExtended t item) c.in-Some-extended.is c.in_ok-extended.ensures in
    passed_on c.from_residual-in_err-check_depth.result c.in_err-check_depth.field-0.0 (IsDepthFault g.T.Structure.ordered taken.rest set c.args.pos.offset) (FailsWithin g.T.Structure.ordered (stmt_run (add e c.args.pos.offset x)) k) c.from_residual-in_err-check_depth.ensures.1
    (λ f h. add_too_deep c.args.pos x e k t (λ a. held_value x k.store t a (slot_held k x i (held_of taken) found T.slot)) f g.T.Structure.ordered c.requires.operators item set c.in_ok-item.ensures.value (set_joined k x i (held_of taken) found T.slot item set more)
    (depth_fault_there k taken.rest T.size T.«when» g.T.Structure.ordered set c.args.pos.offset f h)) c.in_err-check_depth.ensures.fault

pub with_slot_at-requires-clause-levels : goal.with_slot_at-requires-clause-levels
with_slot_at-requires-clause-levels g c =
    let k = c.args.context in let taken = c.in_ok-out.out in let T = c.in_ok-out.ensures in let item = term_tree c.in_ok-item.item in
    let set = term_tree c.in-Some-extended.set in
    let more = subst (IsExtended (term_tree taken.term) item) c.in-Some-extended.is c.in_ok-extended.ensures in
    subst (λ n. Fits n set) (sym T.size) (set_fits k c.args.name.now c.in-Some.index (held_of taken) c.in-Some.ensures.found T.slot item set more (omega arith) c.in_ok-item.ensures.levels)

pub with_slot_at-requires-clause-from : goal.with_slot_at-requires-clause-from
with_slot_at-requires-clause-from g c =
    let k = c.args.context in let taken = c.in_ok-out.out in let item = term_tree c.in_ok-item.item in
    let more = subst (IsExtended (term_tree taken.term) item) c.in-Some-extended.is c.in_ok-extended.ensures in
    set_from k c.args.name.now c.in-Some.index (held_of taken) c.in-Some.ensures.found c.in_ok-out.ensures.slot item (term_tree c.in-Some-extended.set) more

pub with_slot_at-requires-clause-index : goal.with_slot_at-requires-clause-index
with_slot_at-requires-clause-index g c = omega (arith, c.in-Some.ensures.found.0, c.in_ok-out.ensures.count)

pub with_slot_at-requires-clause-name : goal.with_slot_at-requires-clause-name
with_slot_at-requires-clause-name g c = c.in_ok-out.ensures.named

pub returns-clause-runs : goal.returns-clause-runs
returns-clause-runs g c =
    let p = c.args.pos.offset in let x = c.args.name.now in let e = tree c.args.e.now in let k = c.args.context in let i = c.in-Some.index in
    let found = c.in-Some.ensures.found in
    let taken = c.in_ok-out.out in let T = c.in_ok-out.ensures in let t = term_tree taken.term in
    let item = term_tree c.in_ok-item.item in let set = term_tree c.in-Some-extended.set in
    let more = subst (IsExtended t item) c.in-Some-extended.is c.in_ok-extended.ensures in
    let V = c.in_ok-item.ensures in
    let s : SlotD = record { name = taken.name; term = set; from = taken.from } in
    let d = c.with_slot_at.result in let W = c.with_slot_at.ensures in
    let named : taken.name ≡ x = ap (λ (z : SlotD). z.name) T.slot ∙ found.1 (held_of taken) in
    let stored : IsWithStore (slice_set k.store i s) k d = record { size = W.size ∙ T.size; «when» = W.«when» ∙ T.«when»; stored = W.stored ∙ T.stored s; lines = W.lines ∙ T.lines } in
    subst (RunsAs (stmt_run (add e p x)) k) (sym c.in_ok-one.ensures)
    (subst (λ z. RunsAs (stmt_run (add e p z)) k (d ∷ [])) named
    (add_runs (held_of taken) s item i k d stored found.0 (λ q. found.1 q ∙ sym named) T.slot more.0.0 more.0.1 refl more.1 p e V.value
    (λ a adm. c.in_ok-check_depth.ensures.shallow a (admitted_there k taken.rest T.size T.«when» a adm))
    (λ o h. set_admits k x i (held_of taken) found T.slot item set more o h.operators (V.operators o (add_set p s.name e o k h)))
    (λ w. set_widths k x i (held_of taken) found T.slot item set more w (V.widths w))))

pub returns-in_err-check_depth-clause-only_asked : goal.returns-in_err-check_depth-clause-only_asked
returns-in_err-check_depth-clause-only_asked g c =
    only_asked_then (λ b. (goal.Decider-dyn g (b.vtable, b.value)).kind_of b.value) (λ b. (goal.Decider-dyn g (b.vtable, b.value)).questions b.value) c.args.chosen.now c.normal_value.new.chosen c.check_depth.new.chosen c.normal_value.ensures.only_asked c.check_depth.ensures.only_asked

pub returns-in_err-one-clause-only_asked : goal.returns-in_err-one-clause-only_asked
returns-in_err-one-clause-only_asked g c =
    only_asked_then (λ b. (goal.Decider-dyn g (b.vtable, b.value)).kind_of b.value) (λ b. (goal.Decider-dyn g (b.vtable, b.value)).questions b.value) c.args.chosen.now c.normal_value.new.chosen c.check_depth.new.chosen c.normal_value.ensures.only_asked c.check_depth.ensures.only_asked

pub returns-clause-only_asked : goal.returns-clause-only_asked
returns-clause-only_asked g c =
    only_asked_then (λ b. (goal.Decider-dyn g (b.vtable, b.value)).kind_of b.value) (λ b. (goal.Decider-dyn g (b.vtable, b.value)).questions b.value) c.args.chosen.now c.normal_value.new.chosen c.check_depth.new.chosen c.normal_value.ensures.only_asked c.check_depth.ensures.only_asked
