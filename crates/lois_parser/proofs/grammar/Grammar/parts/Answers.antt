use Rattle.std.proofs.Common.{sym, ap, ◌∙◌, subst, arith}
use Rattle.std.proofs.lemmas.Result.{err_from_is_err_and}
use Rattle.lois_script.specs.View.{tree}
use Rattle.lois_script.specs.Lists.{exprs_list}
use Rattle.lois_parser.specs.Ahead.{ahead}
use Rattle.lois_descent.specs.Descent.{parts, inner_expr}
use Rattle.lois_descent.specs.Reading.{ErrorIs}
use Rattle.lois_parser.proofs.Gathering.{parts_start, parts_next, parts_last, parts_full, parts_halt}
use Rattle.lois_parser.proofs.grammar.Grammar.parts.Goals as goal

pub loop-parts-init : goal.loop-parts-init
loop-parts-init g c = record {
  read = rw (c.in_ok-push.ensures.appended, c.new-parts.ensures.empty) (parts_start (inner_expr c.args.self.now.depth_left) (tree c.args.first) (ahead c.args.at));
  shorter = omega arith;
}

pub returns-in_err-part-clause-read : goal.returns-in_err-part-clause-read
returns-in_err-part-clause-read g c =
    let p = err_from_is_err_and c.from_residual-in_err-part.result c.from_residual-in_err-part.ensures.1 in
    rw (p.1, p.2) (parts_halt (inner_expr c.args.self.now.depth_left) c.in_err-part.field-0.0 (exprs_list c.loop-parts.parts) (ahead c.loop-parts.rest) (parts (inner_expr c.args.self.now.depth_left) (tree c.args.first) (ahead c.args.at)) (sym c.begins.ensures ∙ c.loop-parts-test.true) (λ full. c.if-len-eq-GREATEST_WIDTH.false (c.len.ensures.counted ∙ full))
    (subst (λ s. ErrorIs c.in_err-part.field-0.0 ((inner_expr c.args.self.now.depth_left) s)) c.behind.ensures.rest c.in_err-part.ensures.read) c.loop-parts.invariant.read)

pub returns-then-len-eq-GREATEST_WIDTH-clause-read : goal.returns-then-len-eq-GREATEST_WIDTH-clause-read
returns-then-len-eq-GREATEST_WIDTH-clause-read g c =
    rw c.len-then-len-eq-GREATEST_WIDTH.ensures (parts_full (inner_expr c.args.self.now.depth_left) (exprs_list c.loop-parts.parts) (ahead c.loop-parts.rest) (parts (inner_expr c.args.self.now.depth_left) (tree c.args.first) (ahead c.args.at)) (sym c.begins.ensures ∙ c.loop-parts-test.true) (sym c.len.ensures.counted ∙ c.if-len-eq-GREATEST_WIDTH.true) c.loop-parts.invariant.read)

pub loop-parts-smaller : goal.loop-parts-smaller
loop-parts-smaller g c = omega (arith, c.in_ok-part.ensures.shorter, c.behind.ensures.longer)

pub loop-parts-preserved : goal.loop-parts-preserved
loop-parts-preserved g c = record {
  read = rw c.in_ok-push-2.ensures.appended (parts_next (inner_expr c.args.self.now.depth_left) (exprs_list c.loop-parts.parts) (ahead c.loop-parts.rest) (tree c.in_ok-part.part) (ahead c.in_ok-part.behind) (parts (inner_expr c.args.self.now.depth_left) (tree c.args.first) (ahead c.args.at)) (sym c.begins.ensures ∙ c.loop-parts-test.true) (λ full. c.if-len-eq-GREATEST_WIDTH.false (c.len.ensures.counted ∙ full))
      (ap (inner_expr c.args.self.now.depth_left) (sym c.behind.ensures.rest) ∙ c.in_ok-part.ensures.read) c.loop-parts.invariant.read);
  shorter = omega (arith, c.in_ok-part.ensures.shorter, c.behind.ensures.longer, c.loop-parts.invariant.shorter);
}

pub returns-clause-read : goal.returns-clause-read
returns-clause-read g c = parts_last (inner_expr c.args.self.now.depth_left) (exprs_list c.loop-parts.parts) (ahead c.loop-parts.rest) (parts (inner_expr c.args.self.now.depth_left) (tree c.args.first) (ahead c.args.at)) (sym c.begins.ensures ∙ c.loop-parts-test.false) c.loop-parts.invariant.read

pub returns-clause-shorter : goal.returns-clause-shorter
returns-clause-shorter g c = c.loop-parts.invariant.shorter
