use Rattle.std.proofs.Common.{◌≡◌, ℕ, true, [], length, sym, subst, arith}
use Rattle.std.proofs.lemmas.List.{nil_from_length}
use Rattle.lois_base.specs.Tree.{tree}
use Rattle.lois_script.specs.Limits.{Spells}
use Rattle.lois_script.specs.Scope.{IsWellScoped}
use Rattle.lois_script.specs.View.{params_list, script_tree, stmts_of, stmts_list}
use Rattle.lois_script.specs.Lists.{stmt_tree}
use Rattle.lois_vectors_statements.proofs.Sides.{body_is, side_placed}
use Rattle.lois_vectors_statements.proofs.blocks.side_ran.Goals as goal

pub run_block-requires : goal.run_block-requires
run_block-requires g c =
    let same = sym c.script-script.ensures.same in
    let r = c.script-script.result.now in
    let s = script_tree r in
    let text = c.requires.spelled.0 in
    let none : length (params_list r.parameters) ≡ 0 = omega (arith, c.if-len-gt0.false, c.len.ensures.counted) in
    let forms = c.in-Some-Some-2 in
    let side = stmts_of (stmts_list forms.side.now) in
    let body = body_is (stmts_list r.body) (stmt_tree c.in-Some-Some.first.now) (stmt_tree c.in-Some-Some.second.now) forms.ensures.0 forms.name.now forms.ensures.1 forms.ensures'.0 side forms.ensures'.1 (sym c.in-Some-Some.ensures.item) (sym c.in-Some-Some.ensures'.item) forms.ensures.2 forms.ensures'.2 in
    side_placed s text (subst (λ x. Spells text (script_tree x)) same c.requires.spelled.1) (subst (λ x. IsWellScoped (script_tree x)) same c.script-script.ensures.scoped) (nil_from_length (params_list r.parameters) none)
    forms.ensures.0 forms.name.now forms.ensures.1 forms.ensures'.0 side forms.ensures'.1 body.0 body.1 (subst (λ x. (script_tree x).ordered ≡ true) same c.requires.structure)
    c.in_ok-context.context (tree c.args.set) c.count_of-from.result c.in_ok-context.ensures.always c.in_ok-context.ensures.store c.in_ok-context.ensures.lines
