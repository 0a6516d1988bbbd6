use Rattle.std.proofs.Common.{◌≡◌, IfErr, refl, sym, subst}
use Rattle.lois_base.proofs.Lists.{all_one}
use Rattle.lois_script.specs.Limits.{Spells}
use Rattle.lois_script.specs.Scope.{IsWellScoped}
use Rattle.lois_script.specs.View.{script_tree, stmts_list}
use Rattle.lois_eval.specs.WellFormed.{IsWellFormedIn}
use Rattle.lois_eval.specs.Throughout.{IfFault}
use Rattle.lois_interp.specs.Failed.{FailsBehind}
use Rattle.lois_interp.specs.Interpreted.{AreResultsOf}
use Rattle.lois_interp.specs.Failures.{IsFailureOf}
use Rattle.lois_interp.specs.Split.{IsSplitFrom}
use Rattle.lois_interp.specs.WellScoped.{BlockIsWellScoped}
use Rattle.lois_interp.proofs.Opened.{parameters_distinct, body_placed}
use Rattle.lois_interp.proofs.Nowhere.{script_fails_nowhere}
use Rattle.lois_interp.proofs.Retold.{joined_admit}
use Rattle.lois_interp.proofs.ScriptEnds.{run_ends, retold_ends, joined_ends}
use Rattle.lois_interp.proofs.ScriptRuns.{interpreted, failure_of}
use Rattle.lois_eval.proofs.LoopExit.{passed_on}
use Rattle.lois_interp.proofs.interpreting.interpret.Goals as goal

-- what is known of the script is known of its tree where it is held
pub opening-requires : goal.opening-requires
opening-requires g c =
    let same = sym c.script-script.ensures.same in
    let s = script_tree c.script-script.result.now in
    parameters_distinct s (subst (λ x. IsWellScoped (script_tree x)) same c.script-script.ensures.scoped)

pub run_body-requires : goal.run_body-requires
run_body-requires g c =
    let same = sym c.script-script.ensures.same in
    let s = script_tree c.script-script.result.now in
    let text = c.requires.spelled.0 in
    let order = g.T.Structure.ordered in
    body_placed s text c.in_ok-opening.opening (subst (λ x. Spells text (script_tree x)) same c.requires.spelled.1) (subst (λ x. IsWellScoped (script_tree x)) same c.script-script.ensures.scoped) c.in_ok-opening.ensures order (subst (λ x. (script_tree x).ordered ≡ order) same c.requires.structure)

pub returns-in_err-ends-clause-fault : goal.returns-in_err-ends-clause-fault
returns-in_err-ends-clause-fault g c =
    let same = c.script-script.ensures.same in
    let s = script_tree c.script-script.result.now in
    let o = c.in_ok-opening.opening in
    let text = c.requires.spelled.0 in
    let spelled = subst (λ x. Spells text (script_tree x)) (sym same) c.requires.spelled.1 in
    let scoped = subst (λ x. IsWellScoped (script_tree x)) (sym same) c.script-script.ensures.scoped in
    let body = stmts_list c.script-script.result.now.body in
    let r = c.from_residual-in_err-ends.result in
    subst (λ x. IfErr r (λ z. IfFault z (IsFailureOf (script_tree x)))) same
    (passed_on r c.in_err-ends.field-0.0 (IsSplitFrom (FailsBehind g.T.Structure.ordered body o)) (IsFailureOf s) c.from_residual-in_err-ends.ensures.1 (λ f h. failure_of text s spelled scoped o c.in_ok-opening.ensures body refl h.0 f h.2 (subst (λ x. FailsBehind x body o h.0) (sym (subst (λ x. (script_tree x).ordered ≡ g.T.Structure.ordered) (sym same) c.requires.structure)) h.1)) c.in_err-ends.ensures.fault)

pub retold-requires : goal.retold-requires
retold-requires g c =
    let same = sym c.script-script.ensures.same in
    let s = script_tree c.script-script.result.now in
    let o = c.in_ok-opening.opening in
    let text = c.requires.spelled.0 in
    let order = g.T.Structure.ordered in
    c.in_ok-ends.ensures.runs.operators order
    (all_one (IsWellFormedIn (BlockIsWellScoped s.body) order) o (body_placed s text o (subst (λ x. Spells text (script_tree x)) same c.requires.spelled.1) (subst (λ x. IsWellScoped (script_tree x)) same c.script-script.ensures.scoped) c.in_ok-opening.ensures order (subst (λ x. (script_tree x).ordered ≡ order) same c.requires.structure)))

pub all_printed-requires : goal.all_printed-requires
all_printed-requires g c =
    let same = sym c.script-script.ensures.same in
    let s = script_tree c.script-script.result.now in
    let o = c.in_ok-opening.opening in
    let text = c.requires.spelled.0 in
    let order = g.T.Structure.ordered in
    let ended = c.in_ok-ends.ensures.runs.operators order
    (all_one (IsWellFormedIn (BlockIsWellScoped s.body) order) o (body_placed s text o (subst (λ x. Spells text (script_tree x)) same c.requires.spelled.1) (subst (λ x. IsWellScoped (script_tree x)) same c.script-script.ensures.scoped) c.in_ok-opening.ensures order (subst (λ x. (script_tree x).ordered ≡ order) same c.requires.structure))) in
    joined_admit c.in_ok-told.told.items c.in_ok-joined.joined.items c.in_ok-joined.ensures order (c.in_ok-told.ensures.told.operators order ended)

pub returns-clause-results : goal.returns-clause-results
returns-clause-results g c =
    let same = c.script-script.ensures.same in
    let s = script_tree c.script-script.result.now in
    let o = c.in_ok-opening.opening in
    let text = c.requires.spelled.0 in
    let spelled = subst (λ x. Spells text (script_tree x)) (sym same) c.requires.spelled.1 in
    let scoped = subst (λ x. IsWellScoped (script_tree x)) (sym same) c.script-script.ensures.scoped in
    let made = c.in_ok-results.field-0 in
    let made_of = c.in_ok-results.ensures in
    let o = c.in_ok-opening.opening in
    let opened = c.in_ok-opening.ensures in
    let ends = c.in_ok-ends.ends.items in
    let told = c.in_ok-told.told.items in
    let joined = c.in_ok-joined.joined.items in
    let are_ends = run_ends text s spelled scoped o opened ends c.in_ok-ends.ensures.runs in
    let are_told = retold_ends s o ends are_ends told c.in_ok-told.ensures.told in
    let are_joined = joined_ends s o told joined are_told c.in_ok-joined.ensures in
    subst (λ x. AreResultsOf (script_tree x) made) same
    (interpreted text s spelled scoped o opened joined are_joined c.in_ok-printed.printed.items c.in_ok-merged.merged.items c.in_ok-printed.ensures.printed c.in_ok-merged.ensures made.cases made_of.cases made made_of.order made_of.parameters refl)

pub returns-clause-nowhere : goal.returns-clause-nowhere
returns-clause-nowhere g c = script_fails_nowhere _ _ (returns-clause-results g c)
