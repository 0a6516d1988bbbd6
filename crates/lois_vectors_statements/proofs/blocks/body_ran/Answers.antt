use Rattle.std.proofs.Common.{◌≡◌, true, IfSome, sym, subst}
use Rattle.lois_script.specs.Limits.{Spells}
use Rattle.lois_script.specs.Scope.{IsWellScoped}
use Rattle.lois_script.specs.View.{params_list, script_tree}
use Rattle.lois_interp.specs.Opened.{IsOpening}
use Rattle.lois_interp.proofs.Opened.{body_placed}
use Rattle.lois_vectors_statements.proofs.blocks.body_ran.Goals as goal

pub run_block-requires : goal.run_block-requires
run_block-requires g c =
    let same = sym c.script-script.ensures.same in
    let s = script_tree c.script-script.result.now in
    let text = c.requires.spelled.0 in
    let opened = subst (λ o. IfSome o (IsOpening (params_list c.script-script.result.now.parameters))) c.in-Some.is c.in_ok-context.ensures in
    body_placed s text c.in-Some.context (subst (λ x. Spells text (script_tree x)) same c.requires.spelled.1) (subst (λ x. IsWellScoped (script_tree x)) same c.script-script.ensures.scoped) opened true (subst (λ x. (script_tree x).ordered ≡ true) same c.requires.structure)
