use Rattle.std.proofs.Common.{◌≡◌, suc, ◌-◌, sym, subst, arith}
use Rattle.lois_script.specs.View.{cond_tree}
use Rattle.lois_parser.specs.Ahead.{ahead}
use Rattle.lois_descent.specs.Reading.{ResultIs}
use Rattle.lois_parser.proofs.InnerForms.{inner_cond_is}
use Rattle.lois_parser.proofs.grammar.Grammar.inner_condition.Goals as goal

pub returns-clause-read : goal.returns-clause-read
returns-clause-read g c =
    let depth_left = c.args.self.now.depth_left in
    let one_fewer : c.args.self.now.depth_left ≡ suc (c.args.self.now.depth_left - 1) = omega (arith, c.requires.depth_left) in
    let given = c.requires.nested.cond_reads c.args.self.now.alloc c.args.at (c.args.self.now.depth_left - 1) c.cond.result one_fewer c.cond.ensures in
    subst (ResultIs (λ x. (cond_tree x.0, ahead x.1)) c.cond.result) (sym (inner_cond_is c.args.self.now.depth_left (c.args.self.now.depth_left - 1) (ahead c.args.at) one_fewer)) given.0
