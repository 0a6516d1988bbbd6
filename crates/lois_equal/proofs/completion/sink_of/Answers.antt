use Rattle.std.proofs.Common.{subst}
use Rattle.lois_base.specs.Data.{coll, comps_of}
use Rattle.lois_base.specs.Values.{point, IsIn}
use Rattle.lois_equal.proofs.Itself.{not_in_itself}
use Rattle.lois_equal.proofs.completion.sink_of.Goals as goal

pub returns-clause-apart : goal.returns-clause-apart
returns-clause-apart c = λ x i.
    let states = comps_of c.args.states.now in
    not_in_itself states x (subst (λ z. IsIn (point (coll (comps_of z)) x) (point (coll states) x)) c.in_ok-copy.ensures i)
