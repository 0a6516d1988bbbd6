use Rattle.std.proofs.Common.{sym, ap, ◌∙◌, subst, arith}
use Rattle.std.proofs.lemmas.Result.{err_from_is_err_and}
use Rattle.lois_script.specs.View.{binding_tree}
use Rattle.lois_script.specs.Lists.{bindings_list}
use Rattle.lois_parser.specs.Ahead.{ahead}
use Rattle.lois_descent.specs.Descent.{begins, next, listed, inner_expr, binding}
use Rattle.lois_descent.specs.declared.lexemes.Terminal.TheVariants as terminals
use Rattle.lois_descent.specs.Reading.{ErrorIs}
use Rattle.lois_parser.proofs.Gathering.{listed_starts, many_next, many_last, many_halts}
use Rattle.lois_parser.proofs.grammar.Grammar.more_bindings.Goals as goal

pub loop-rest-init : goal.loop-rest-init
loop-rest-init g c = record {
  read = rw (c.in_ok-push.ensures.appended, c.new-bindings.ensures.empty) (listed_starts (binding (inner_expr c.args.self.now.depth_left)) (binding_tree c.args.first) (ahead c.args.at));
  shorter = omega arith;
}

pub returns-in_err-binding-clause-read : goal.returns-in_err-binding-clause-read
returns-in_err-binding-clause-read g c =
    let p = err_from_is_err_and c.from_residual-in_err-binding.result c.from_residual-in_err-binding.ensures.1 in
    rw (p.1, p.2) (many_halts (begins terminals.Comma) (next (binding (inner_expr c.args.self.now.depth_left))) c.in_err-binding.field-0.0 (bindings_list c.loop-rest.bindings) (ahead c.loop-rest.rest) (listed (binding (inner_expr c.args.self.now.depth_left)) (binding_tree c.args.first) (ahead c.args.at)) (sym c.begins.ensures ∙ c.loop-rest-test.true)
    (subst (λ s. ErrorIs c.in_err-binding.field-0.0 ((binding (inner_expr c.args.self.now.depth_left)) s)) c.behind.ensures.rest c.in_err-binding.ensures.read) c.loop-rest.invariant.read)

pub loop-rest-smaller : goal.loop-rest-smaller
loop-rest-smaller g c = omega (arith, c.in_ok-binding.ensures.shorter, c.behind.ensures.longer)

pub loop-rest-preserved : goal.loop-rest-preserved
loop-rest-preserved g c = record {
  read = rw c.in_ok-push-2.ensures.appended (many_next (begins terminals.Comma) (next (binding (inner_expr c.args.self.now.depth_left))) (bindings_list c.loop-rest.bindings) (ahead c.loop-rest.rest) (binding_tree c.in_ok-binding.binding) (ahead c.in_ok-binding.behind) (listed (binding (inner_expr c.args.self.now.depth_left)) (binding_tree c.args.first) (ahead c.args.at))
      (sym c.begins.ensures ∙ c.loop-rest-test.true) (ap (binding (inner_expr c.args.self.now.depth_left)) (sym c.behind.ensures.rest) ∙ c.in_ok-binding.ensures.read) (omega (arith, c.in_ok-binding.ensures.shorter, c.behind.ensures.longer)) c.loop-rest.invariant.read);
  shorter = omega (arith, c.in_ok-binding.ensures.shorter, c.behind.ensures.longer, c.loop-rest.invariant.shorter);
}

pub returns-clause-read : goal.returns-clause-read
returns-clause-read g c = many_last (begins terminals.Comma) (next (binding (inner_expr c.args.self.now.depth_left))) (bindings_list c.loop-rest.bindings) (ahead c.loop-rest.rest) (listed (binding (inner_expr c.args.self.now.depth_left)) (binding_tree c.args.first) (ahead c.args.at)) (sym c.begins.ensures ∙ c.loop-rest-test.false) c.loop-rest.invariant.read

pub returns-clause-shorter : goal.returns-clause-shorter
returns-clause-shorter g c = c.loop-rest.invariant.shorter
