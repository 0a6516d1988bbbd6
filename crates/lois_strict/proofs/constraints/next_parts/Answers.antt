use Rattle.std.proofs.Common.{◌&&◌, sym, ap, ◌∙◌}
use Rattle.std.proofs.lemmas.Result.{IfOk-weaker}
use Rattle.lois_base.specs.Truth.{lit_holds, holds}
use Rattle.lois_base.proofs.Booleans.{and_true}
use Rattle.lois_strict.specs.Literals.{with_less, a_part_holds}
use Rattle.lois_strict.proofs.ApartLiterals.{a_part_holds_is, less_hold, less_back}
use Rattle.lois_strict.proofs.constraints.next_parts.Goals as goal

pub returns-then-tells_apart-clause-there : goal.returns-then-tells_apart-clause-there
returns-then-tells_apart-clause-there c =
    IfOk-weaker c.less_parts.result _ _ (λ r truth e h l p. truth e ∙ and_true (holds e c.args.parts.now) (lit_holds e (with_less c.args.lit)) p (less_hold e c.args.cube.now c.args.lit c.requires.weak (c.tells_apart.ensures c.if-tells_apart.true) h l)) c.less_parts.ensures.truth

pub returns-then-tells_apart-clause-back : goal.returns-then-tells_apart-clause-back
returns-then-tells_apart-clause-back c =
    IfOk-weaker c.less_parts.result _ _ (λ r truth e h. less_back e (holds e c.args.parts.now) c.args.lit c.requires.weak (sym (truth e) ∙ h)) c.less_parts.ensures.truth

pub returns-clause-there : goal.returns-clause-there
returns-clause-there c =
    IfOk-weaker c.split_parts.result _ _ (λ r truth e h l p. truth e ∙ and_true (holds e c.args.parts.now) (a_part_holds e c.args.lit) p (a_part_holds_is e c.args.lit c.requires.weak ∙ l)) c.split_parts.ensures.truth

pub returns-clause-back : goal.returns-clause-back
returns-clause-back c =
    IfOk-weaker c.split_parts.result _ _ (λ r truth e h. ap (λ b. holds e c.args.parts.now && b) (sym (a_part_holds_is e c.args.lit c.requires.weak)) ∙ (sym (truth e) ∙ h)) c.split_parts.ensures.truth
