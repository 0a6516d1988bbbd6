use Rattle.std.specs.List.{AllZip}
use Rattle.std.proofs.lemmas.Result.{IfOk-weaker}
use Rattle.lois_interp.specs.Retold.{HasConditionLike, AreJoined}
use Rattle.lois_interp.proofs.Retold.{conditions_as_they_are}
use Rattle.lois_interp.proofs.interpreting.joined.Goals as goal

pub returns : goal.returns
returns c =
    let ms = c.in_ok-merged.merged.items in
    IfOk-weaker c.with_short_conditions.result (λ r. AllZip HasConditionLike ms r.items) (λ r. AreJoined c.args.contexts.items r.items) (λ r like. record { between = ms; merged = c.in_ok-merged.ensures; conditions = like }) c.with_short_conditions.ensures

pub returns-then-len-count : goal.returns-then-len-count
returns-then-len-count c = let ms = c.in_ok-merged.merged.items in record { between = ms; merged = c.in_ok-merged.ensures; conditions = conditions_as_they_are ms }
