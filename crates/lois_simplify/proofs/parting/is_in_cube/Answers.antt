use Rattle.std.proofs.Common.{option_map, sym, ap, ◌∙◌}
use Rattle.std.proofs.lemmas.Result.{IfOk-weaker}
use Rattle.lois_simplify.proofs.Parted.{held_at}
use Rattle.lois_simplify.proofs.parting.is_in_cube.Goals as goal

pub returns-in-Some : goal.returns-in-Some
returns-in-Some c =
    IfOk-weaker c.entails.result _ _ (λ b h t e o. held_at e c.args.outer.now c.args.index c.in-Some.cube.now (sym c.get.ensures ∙ ap (option_map (λ t. t.now)) c.in-Some.is) (h.0 t e o))
    c.entails.ensures
