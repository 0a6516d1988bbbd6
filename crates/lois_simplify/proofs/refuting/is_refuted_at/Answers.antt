use Rattle.std.proofs.Common.{sym, ◌∙◌}
use Rattle.lois_base.specs.Truth.{sampled}
use Rattle.lois_simplify.proofs.Plain.{not_false}
use Rattle.lois_simplify.proofs.refuting.is_refuted_at.Goals as goal

pub returns-then-at : goal.returns-then-at
returns-then-at c = λ t.
    (sampled c.args.numbers.now, sym c.at.ensures ∙ c.if-at.true, sym c.at-then-at.ensures ∙ not_false c.at-then-at.result t)
