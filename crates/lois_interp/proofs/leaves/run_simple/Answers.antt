use Rattle.std.proofs.Common.{◌≡◌, IfOk, IfErr, sym, ap, subst, ◌∙◌}
use Rattle.lois_script.specs.Tree.{«let», assign, add, assert, print}
use Rattle.lois_script.specs.View.{tree, cond_tree}
use Rattle.lois_script.specs.Lists.{stmt_tree}
use Rattle.lois_script.proofs.Views.{stmt_Let, stmt_Assign, stmt_Add, stmt_Assert, stmt_Print}
use Rattle.lois_eval.specs.WellFormed.{IsWellFormedIn}
use Rattle.lois_eval.specs.Throughout.{IfFault}
use Rattle.lois_eval.proofs.LoopExit.{err_weaker}
use Rattle.lois_interp.specs.Failed.{FailsWithin}
use Rattle.lois_interp.specs.Reached.{RunsAs}
use Rattle.lois_interp.specs.Run.{stmt_run}
use Rattle.lois_interp.specs.WellScoped.{StmtIsWellScoped}
use Rattle.lois_interp.proofs.leaves.run_simple.Goals as goal

pub run_let-requires : goal.run_let-requires
run_let-requires g c =
    let is : stmt_tree c.args.stmt.now ≡ «let» c.in-Let.pos.offset c.in-Let.name (tree c.in-Let.e) = ap stmt_tree c.in-Let.is ∙ stmt_Let c.in-Let.pos c.in-Let.name c.in-Let.e in
    subst (λ z. IsWellFormedIn (StmtIsWellScoped z) g.T.Structure.ordered c.args.context) is c.requires.placed

pub returns-in-Let-clause-runs : goal.returns-in-Let-clause-runs
returns-in-Let-clause-runs g c =
    let is : stmt_tree c.args.stmt.now ≡ «let» c.in-Let.pos.offset c.in-Let.name (tree c.in-Let.e) = ap stmt_tree c.in-Let.is ∙ stmt_Let c.in-Let.pos c.in-Let.name c.in-Let.e in
    subst (λ z. IfOk c.run_let.result (λ r. RunsAs (stmt_run z) c.args.context r.items)) (sym is) c.run_let.ensures.runs

pub returns-in-Let-clause-fault : goal.returns-in-Let-clause-fault
returns-in-Let-clause-fault g c =
    let is : stmt_tree c.args.stmt.now ≡ «let» c.in-Let.pos.offset c.in-Let.name (tree c.in-Let.e) = ap stmt_tree c.in-Let.is ∙ stmt_Let c.in-Let.pos c.in-Let.name c.in-Let.e in
    subst (λ z. IfErr c.run_let.result (λ s. IfFault s (FailsWithin g.T.Structure.ordered (stmt_run z) c.args.context))) (sym is) c.run_let.ensures.fault

pub run_assign-requires : goal.run_assign-requires
run_assign-requires g c =
    let is : stmt_tree c.args.stmt.now ≡ assign c.in-Assign.pos.offset c.in-Assign.name (tree c.in-Assign.e) = ap stmt_tree c.in-Assign.is ∙ stmt_Assign c.in-Assign.pos c.in-Assign.name c.in-Assign.e in
    subst (λ z. IsWellFormedIn (StmtIsWellScoped z) g.T.Structure.ordered c.args.context) is c.requires.placed

pub returns-in-Assign-clause-runs : goal.returns-in-Assign-clause-runs
returns-in-Assign-clause-runs g c =
    let is : stmt_tree c.args.stmt.now ≡ assign c.in-Assign.pos.offset c.in-Assign.name (tree c.in-Assign.e) = ap stmt_tree c.in-Assign.is ∙ stmt_Assign c.in-Assign.pos c.in-Assign.name c.in-Assign.e in
    subst (λ z. IfOk c.run_assign.result (λ r. RunsAs (stmt_run z) c.args.context r.items)) (sym is) c.run_assign.ensures.runs

pub returns-in-Assign-clause-fault : goal.returns-in-Assign-clause-fault
returns-in-Assign-clause-fault g c =
    let is : stmt_tree c.args.stmt.now ≡ assign c.in-Assign.pos.offset c.in-Assign.name (tree c.in-Assign.e) = ap stmt_tree c.in-Assign.is ∙ stmt_Assign c.in-Assign.pos c.in-Assign.name c.in-Assign.e in
    subst (λ z. IfErr c.run_assign.result (λ s. IfFault s (FailsWithin g.T.Structure.ordered (stmt_run z) c.args.context))) (sym is) c.run_assign.ensures.fault

pub run_add-requires : goal.run_add-requires
run_add-requires g c =
    let is : stmt_tree c.args.stmt.now ≡ add (tree c.in-Add.e) c.in-Add.pos.offset c.in-Add.name = ap stmt_tree c.in-Add.is ∙ stmt_Add c.in-Add.e c.in-Add.pos c.in-Add.name in
    subst (λ z. IsWellFormedIn (StmtIsWellScoped z) g.T.Structure.ordered c.args.context) is c.requires.placed

pub returns-in-Add-clause-runs : goal.returns-in-Add-clause-runs
returns-in-Add-clause-runs g c =
    let is : stmt_tree c.args.stmt.now ≡ add (tree c.in-Add.e) c.in-Add.pos.offset c.in-Add.name = ap stmt_tree c.in-Add.is ∙ stmt_Add c.in-Add.e c.in-Add.pos c.in-Add.name in
    subst (λ z. IfOk c.run_add.result (λ r. RunsAs (stmt_run z) c.args.context r.items)) (sym is) c.run_add.ensures.runs

pub returns-in-Add-clause-fault : goal.returns-in-Add-clause-fault
returns-in-Add-clause-fault g c =
    let is : stmt_tree c.args.stmt.now ≡ add (tree c.in-Add.e) c.in-Add.pos.offset c.in-Add.name = ap stmt_tree c.in-Add.is ∙ stmt_Add c.in-Add.e c.in-Add.pos c.in-Add.name in
    subst (λ z. IfErr c.run_add.result (λ s. IfFault s (FailsWithin g.T.Structure.ordered (stmt_run z) c.args.context))) (sym is) c.run_add.ensures.fault

pub run_assert-requires : goal.run_assert-requires
run_assert-requires g c =
    let is : stmt_tree c.args.stmt.now ≡ assert c.in-Assert.pos.offset (cond_tree c.in-Assert.condition) = ap stmt_tree c.in-Assert.is ∙ stmt_Assert c.in-Assert.pos c.in-Assert.condition in
    subst (λ z. IsWellFormedIn (StmtIsWellScoped z) g.T.Structure.ordered c.args.context) is c.requires.placed

pub returns-in-Assert-clause-runs : goal.returns-in-Assert-clause-runs
returns-in-Assert-clause-runs g c =
    let is : stmt_tree c.args.stmt.now ≡ assert c.in-Assert.pos.offset (cond_tree c.in-Assert.condition) = ap stmt_tree c.in-Assert.is ∙ stmt_Assert c.in-Assert.pos c.in-Assert.condition in
    subst (λ z. IfOk c.run_assert.result (λ r. RunsAs (stmt_run z) c.args.context r.items)) (sym is) c.run_assert.ensures.runs

pub returns-in-Assert-clause-fault : goal.returns-in-Assert-clause-fault
returns-in-Assert-clause-fault g c =
    let is : stmt_tree c.args.stmt.now ≡ assert c.in-Assert.pos.offset (cond_tree c.in-Assert.condition) = ap stmt_tree c.in-Assert.is ∙ stmt_Assert c.in-Assert.pos c.in-Assert.condition in
    subst (λ z. IfErr c.run_assert.result (λ s. IfFault s (FailsWithin g.T.Structure.ordered (stmt_run z) c.args.context))) (sym is) c.run_assert.ensures.fault

pub run_print-requires : goal.run_print-requires
run_print-requires g c =
    let is : stmt_tree c.args.stmt.now ≡ print c.in-Print.pos.offset c.in-Print.place.offset c.in-Print.name = ap stmt_tree c.in-Print.is ∙ stmt_Print c.in-Print.pos c.in-Print.place c.in-Print.name in
    (g.T.Structure.ordered, subst (λ z. IsWellFormedIn (StmtIsWellScoped z) g.T.Structure.ordered c.args.context) is c.requires.placed)

pub returns-in-Print-clause-runs : goal.returns-in-Print-clause-runs
returns-in-Print-clause-runs g c =
    let is : stmt_tree c.args.stmt.now ≡ print c.in-Print.pos.offset c.in-Print.place.offset c.in-Print.name = ap stmt_tree c.in-Print.is ∙ stmt_Print c.in-Print.pos c.in-Print.place c.in-Print.name in
    subst (λ z. IfOk c.run_print.result (λ r. RunsAs (stmt_run z) c.args.context r.items)) (sym is) c.run_print.ensures.runs

pub returns-in-Print-clause-fault : goal.returns-in-Print-clause-fault
returns-in-Print-clause-fault g c =
    err_weaker c.run_print.result (λ f. ⊥) (FailsWithin g.T.Structure.ordered (stmt_run (stmt_tree c.args.stmt.now)) c.args.context) (λ f h. absurd h) c.run_print.ensures.fault
