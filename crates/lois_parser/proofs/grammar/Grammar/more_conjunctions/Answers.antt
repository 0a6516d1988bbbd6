use Rattle.std.proofs.Common.{sym, ap, ◌∙◌, subst, arith}
use Rattle.std.proofs.lemmas.Result.{err_from_is_err_and}
use Rattle.lois_script.specs.View.{cond_tree}
use Rattle.lois_script.specs.Lists.{conds_list}
use Rattle.lois_parser.specs.Ahead.{ahead}
use Rattle.lois_descent.specs.Descent.{begins_or, next, more_conjunctions, conjunction_here}
use Rattle.lois_descent.specs.Reading.{ErrorIs}
use Rattle.lois_parser.proofs.Gathering.{conjunctions_start, many_next, many_last, many_halts}
use Rattle.lois_parser.proofs.grammar.Grammar.more_conjunctions.Goals as goal

pub loop-rest-init : goal.loop-rest-init
loop-rest-init g c = record {
  read = rw (c.in_ok-push.ensures.appended, c.new-conditions.ensures.empty) (conjunctions_start (conjunction_here c.args.self.now.depth_left) (cond_tree c.args.first) (ahead c.args.at));
  shorter = omega arith;
}

pub returns-in_err-condition-clause-read : goal.returns-in_err-condition-clause-read
returns-in_err-condition-clause-read g c =
    let p = err_from_is_err_and c.from_residual-in_err-condition.result c.from_residual-in_err-condition.ensures.1 in
    rw (p.1, p.2) (many_halts begins_or (next (conjunction_here c.args.self.now.depth_left)) c.in_err-condition.field-0.0 (conds_list c.loop-rest.conditions) (ahead c.loop-rest.rest) (more_conjunctions (conjunction_here c.args.self.now.depth_left) (cond_tree c.args.first) (ahead c.args.at)) (sym c.begins_or.ensures ∙ c.loop-rest-test.true)
    (subst (λ s. ErrorIs c.in_err-condition.field-0.0 ((conjunction_here c.args.self.now.depth_left) s)) c.behind.ensures.rest c.in_err-condition.ensures.read) c.loop-rest.invariant.read)

pub loop-rest-smaller : goal.loop-rest-smaller
loop-rest-smaller g c = omega (arith, c.in_ok-condition.ensures.shorter, c.behind.ensures.longer)

pub loop-rest-preserved : goal.loop-rest-preserved
loop-rest-preserved g c = record {
  read = rw c.in_ok-push-2.ensures.appended (many_next begins_or (next (conjunction_here c.args.self.now.depth_left)) (conds_list c.loop-rest.conditions) (ahead c.loop-rest.rest) (cond_tree c.in_ok-condition.condition) (ahead c.in_ok-condition.behind) (more_conjunctions (conjunction_here c.args.self.now.depth_left) (cond_tree c.args.first) (ahead c.args.at))
      (sym c.begins_or.ensures ∙ c.loop-rest-test.true) (ap (conjunction_here c.args.self.now.depth_left) (sym c.behind.ensures.rest) ∙ c.in_ok-condition.ensures.read) (omega (arith, c.in_ok-condition.ensures.shorter, c.behind.ensures.longer)) c.loop-rest.invariant.read);
  shorter = omega (arith, c.in_ok-condition.ensures.shorter, c.behind.ensures.longer, c.loop-rest.invariant.shorter);
}

pub returns-clause-read : goal.returns-clause-read
returns-clause-read g c = many_last begins_or (next (conjunction_here c.args.self.now.depth_left)) (conds_list c.loop-rest.conditions) (ahead c.loop-rest.rest) (more_conjunctions (conjunction_here c.args.self.now.depth_left) (cond_tree c.args.first) (ahead c.args.at)) (sym c.begins_or.ensures ∙ c.loop-rest-test.false) c.loop-rest.invariant.read

pub returns-clause-shorter : goal.returns-clause-shorter
returns-clause-shorter g c = c.loop-rest.invariant.shorter
