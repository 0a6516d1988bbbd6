use Rattle.lois_rounds.proofs.Measures.{shrinks_below}
use Rattle.lois_rounds.proofs.Runs.{changes_before, under_way_more}
use Rattle.lois_rounds.specs.Rounds.{Changes}
use Rattle.lois_rounds.proofs.fixpoint.shrink.Goals as goal

pub shrinking-smaller : goal.shrinking-smaller
shrinking-smaller g c =
    let change : Changes (g.R.Round.leads c.shrinking.round) c.shrinking.family c.in-Some.next =
    rw c.in-Some.is at c.in_ok-next.ensures.changed in
    shrinks_below (g.R.Round.leads c.args.round.now) c.shrinking.family c.in-Some.next (changes_before _ _ _ _ _ _ c.shrinking.invariant c.in-Some.next change) c.requires

pub shrinking-preserved : goal.shrinking-preserved
shrinking-preserved g c =
    under_way_more _ _ _ _ _ _ c.shrinking.invariant (g.met.R.Round.respects c.args.round.now) _ _ c.in-Some.next (rw c.in-Some.is at c.in_ok-next.ensures.changed) (rw c.in-Some.is at c.in_ok-next.ensures.operators) c.advance.ensures.same_leads c.advance.ensures.same_operators
