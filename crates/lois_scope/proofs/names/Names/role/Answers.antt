use Rattle.std.proofs.Common.{ap, ◌∙◌, Some, None}
use Rattle.std.specs.Option.{option_map}
use Rattle.lois_scope.specs.InScope.{role_view}
use Rattle.lois_scope.proofs.Lookup.{role_looked}
use Rattle.lois_scope.proofs.names.Names.role.Goals as goal

pub returns-in_err-made : goal.returns-in_err-made
returns-in_err-made c = record {
  found = ap (option_map role_view) c.from_residual.ensures ∙ role_looked c.args.name.now c.bytes.result.now c.args.loops c.args.self.now.made.entries None c.in_err-made.ensures.value c.bytes.ensures.same;
}

pub returns : goal.returns
returns c = record {
  found = ap Some c.role.ensures.exact ∙ role_looked c.args.name.now c.bytes.result.now c.args.loops c.args.self.now.made.entries (Some c.in_ok-made.made.now) c.in_ok-made.ensures.value c.bytes.ensures.same;
}
