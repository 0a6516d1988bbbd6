use Rattle.std.proofs.Common.{◌≡◌, suc, ◌-◌, sym, subst, arith}
use Rattle.lois_script.specs.View.{stmts_list}
use Rattle.lois_parser.specs.Ahead.{ahead}
use Rattle.lois_descent.specs.Reading.{ResultIs}
use Rattle.lois_parser.proofs.InnerForms.{inner_block_is}
use Rattle.lois_parser.proofs.statements.Statements.inner_statements.Goals as goal

pub returns-clause-read : goal.returns-clause-read
returns-clause-read g c =
    let one_fewer : c.args.self.now.depth_left ≡ suc (c.args.self.now.depth_left - 1) = omega (arith, c.requires.depth_left) in
    let given = c.requires.nested.reads c.args.self.now.alloc c.args.at (c.args.self.now.depth_left - 1) c.block.result one_fewer c.block.ensures in
    subst (ResultIs (λ x. (stmts_list x.0, ahead x.1)) c.block.result) (sym (inner_block_is c.args.self.now.depth_left (c.args.self.now.depth_left - 1) (ahead c.args.at) one_fewer)) given.0
