use Rattle.lois_rounds.proofs.Measures.{grows_below}
use Rattle.lois_rounds.proofs.Runs.{changes_before, under_way_more}
use Rattle.lois_rounds.specs.Rounds.{Changes}
use Rattle.lois_rounds.proofs.fixpoint.grow.Goals as goal

pub growing-smaller : goal.growing-smaller
growing-smaller g c =
    let change : Changes (g.R.Round.leads c.growing.round) c.growing.family c.in-Some.next =
    rw c.in-Some.is at c.in_ok-next.ensures.changed in
    grows_below (g.R.Round.leads c.args.round.now) c.growing.family c.in-Some.next (changes_before _ _ _ _ _ _ c.growing.invariant c.in-Some.next change) c.requires

pub growing-preserved : goal.growing-preserved
growing-preserved g c =
    under_way_more _ _ _ _ _ _ c.growing.invariant (g.met.R.Round.respects c.args.round.now) _ _ c.in-Some.next (rw c.in-Some.is at c.in_ok-next.ensures.changed) (rw c.in-Some.is at c.in_ok-next.ensures.operators) c.advance.ensures.same_leads c.advance.ensures.same_operators
