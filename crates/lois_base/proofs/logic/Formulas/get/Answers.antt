use Rattle.std.proofs.Common.{arith}
use Rattle.std.proofs.lemmas.Grind.{common_steps}
use Rattle.std.proofs.lemmas.Option.{gets, slice_get-map}
use Rattle.lois_base.proofs.FormulaViews.{views_is}
use Rattle.lois_base.proofs.logic.Formulas.get.Goals as goal

pub returns : goal.returns
returns c = rw (views_is c.args.self.now, slice_get-map) (grind (arith, common_steps, gets))
