use Rattle.std.proofs.Common.{arith}
use Rattle.std.proofs.lemmas.Grind.{common_steps}
use Rattle.std.proofs.lemmas.Option.{gets, slice_get-map}
use Rattle.lois_script.proofs.Views.{stmts_items}
use Rattle.lois_script.proofs.script.Stmts.get.Goals as goal

pub returns : goal.returns
returns c = rw (stmts_items c.args.self.now, slice_get-map) (grind (arith, common_steps, gets))
