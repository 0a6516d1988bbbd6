use Rattle.std.proofs.Common.{◌≡◌, suc, ◌-◌, sym, subst, arith}
use Rattle.lois_script.specs.View.{tree}
use Rattle.lois_parser.specs.Ahead.{ahead}
use Rattle.lois_descent.specs.Reading.{ResultIs}
use Rattle.lois_parser.proofs.InnerForms.{inner_expr_is}
use Rattle.lois_parser.proofs.grammar.Grammar.inner_expression.Goals as goal

pub returns-clause-read : goal.returns-clause-read
returns-clause-read g c =
    let depth_left = c.args.self.now.depth_left in
    let one_fewer : c.args.self.now.depth_left ≡ suc (c.args.self.now.depth_left - 1) = omega (arith, c.requires.depth_left) in
    let given = c.requires.nested.expr_reads c.args.self.now.alloc c.args.at (c.args.self.now.depth_left - 1) c.expr.result one_fewer c.expr.ensures in
    subst (ResultIs (λ x. (tree x.0, ahead x.1)) c.expr.result) (sym (inner_expr_is c.args.self.now.depth_left (c.args.self.now.depth_left - 1) (ahead c.args.at) one_fewer)) given.0
