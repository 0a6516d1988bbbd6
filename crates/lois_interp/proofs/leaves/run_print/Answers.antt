use Rattle.std.proofs.Common.{[], ◌∷◌, sym, subst}
use Rattle.lois_base.specs.Tree.{tree as term_tree}
use Rattle.lois_answers.specs.ResultsData.{LineD}
use Rattle.lois_script.specs.Tree.{print}
use Rattle.lois_interp.specs.Looped.{Holds}
use Rattle.lois_interp.specs.Reached.{RunsAs}
use Rattle.lois_interp.specs.Run.{stmt_run}
use Rattle.lois_interp.proofs.LeafContexts.{held_named, print_named}
use Rattle.lois_interp.proofs.LeafRuns.{print_runs}
use Rattle.lois_interp.proofs.Inside.{held_fits}
use Rattle.lois_interp.proofs.leaves.run_print.Goals as goal

pub item_of-requires : goal.item_of-requires
item_of-requires c = held_named c.args.name.now c.args.context.store (print_named c.args.pos.offset c.args.place.offset c.args.name.now c.requires.0 c.args.context c.requires.1)

pub with_line-requires : goal.with_line-requires
with_line-requires c = held_fits c.args.name.now c.args.context (term_tree c.in_ok-item_of.field-0) c.in_ok-item_of.ensures

pub returns-clause-runs : goal.returns-clause-runs
returns-clause-runs c =
    let p = c.args.pos.offset in let q = c.args.place.offset in let x = c.args.name.now in let k = c.args.context in
    let l : LineD = record { name = c.in_ok-copy.field-0; term = term_tree c.in_ok-item_of.field-0 } in
    let held : Holds l.name k.store l.term = subst (λ z. Holds z k.store l.term) (sym c.in_ok-copy.ensures) c.in_ok-item_of.ensures in
    let d = c.in_ok-with_line.field-0 in
    let is = c.in_ok-with_line.ensures in
    subst (RunsAs (stmt_run (print p q x)) k) (sym c.in_ok-one.ensures)
    (subst (λ z. RunsAs (stmt_run (print p q z)) k (d ∷ [])) c.in_ok-copy.ensures (print_runs p q l k d is.size is.«when» is.store is.lines held))
