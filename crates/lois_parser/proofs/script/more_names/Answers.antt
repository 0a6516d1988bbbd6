use Rattle.std.proofs.Common.{sym, ap, ◌∙◌, subst, arith}
use Rattle.std.proofs.lemmas.Result.{err_from_is_err_and}
use Rattle.lois_script.specs.View.{params_list, param_tree}
use Rattle.lois_parser.specs.Ahead.{ahead}
use Rattle.lois_descent.specs.Descent.{begins, next, listed, name}
use Rattle.lois_descent.specs.declared.lexemes.Terminal.TheVariants as terminals
use Rattle.lois_descent.specs.Reading.{ErrorIs}
use Rattle.lois_parser.proofs.Gathering.{listed_starts, many_next, many_last, many_halts}
use Rattle.lois_parser.proofs.script.more_names.Goals as goal

pub loop-alloc-init : goal.loop-alloc-init
loop-alloc-init c = record {
  read = rw (c.in_ok-push.ensures.appended, c.new-names.ensures.empty) (listed_starts name (param_tree c.args.first) (ahead c.args.at));
  shorter = omega arith;
}

pub returns-in_err-name-clause-read : goal.returns-in_err-name-clause-read
returns-in_err-name-clause-read c =
    let p = err_from_is_err_and c.from_residual-in_err-name.result c.from_residual-in_err-name.ensures.1 in
    rw (p.1, p.2) (many_halts (begins terminals.Comma) (next name) c.in_err-name.field-0.0 (params_list c.loop-alloc.names) (ahead c.loop-alloc.rest) (listed name (param_tree c.args.first) (ahead c.args.at)) (sym c.begins.ensures ∙ c.loop-alloc-test.true)
    (subst (λ s. ErrorIs c.in_err-name.field-0.0 (name s)) c.behind.ensures.rest c.in_err-name.ensures.read) c.loop-alloc.invariant.read)

pub loop-alloc-smaller : goal.loop-alloc-smaller
loop-alloc-smaller c = omega (arith, c.in_ok-name.ensures.shorter, c.behind.ensures.longer)

pub loop-alloc-preserved : goal.loop-alloc-preserved
loop-alloc-preserved c = record {
  read = rw c.in_ok-push-2.ensures.appended (many_next (begins terminals.Comma) (next name) (params_list c.loop-alloc.names) (ahead c.loop-alloc.rest) (param_tree c.in_ok-name.name) (ahead c.in_ok-name.behind) (listed name (param_tree c.args.first) (ahead c.args.at))
      (sym c.begins.ensures ∙ c.loop-alloc-test.true) (ap name (sym c.behind.ensures.rest) ∙ c.in_ok-name.ensures.read) (omega (arith, c.in_ok-name.ensures.shorter, c.behind.ensures.longer)) c.loop-alloc.invariant.read);
  shorter = omega (arith, c.in_ok-name.ensures.shorter, c.behind.ensures.longer, c.loop-alloc.invariant.shorter);
}

pub returns-clause-read : goal.returns-clause-read
returns-clause-read c = many_last (begins terminals.Comma) (next name) (params_list c.loop-alloc.names) (ahead c.loop-alloc.rest) (listed name (param_tree c.args.first) (ahead c.args.at)) (sym c.begins.ensures ∙ c.loop-alloc-test.false) c.loop-alloc.invariant.read

pub returns-clause-shorter : goal.returns-clause-shorter
returns-clause-shorter c = c.loop-alloc.invariant.shorter
