use Rattle.std.proofs.Common.{◌≡◌, sym, ap, subst}
use Rattle.std.proofs.lemmas.Result.{IfOk-weaker}
use Rattle.lois_base.specs.Data.{coll, comps_of}
use Rattle.lois_base.specs.Tree.{tree}
use Rattle.lois_base.specs.Values.{point}
use Rattle.lois_meaning.specs.Kinds.{IsSetOf}
use Rattle.lois_automata.specs.Projections.{AreProjected, five_of}
use Rattle.lois_automata.specs.declared.projections.Projection.TheVariants.{Move}
use Rattle.lois_automata.specs.Machines.{IsAutomatonAt, IsReachAt}
use Rattle.lois_automata.specs.Reachability.{graph_at, IsReached}
use Rattle.lois_automata.specs.Throughout.{HoldsThroughout}
use Rattle.lois_automata.proofs.FiveMachine.{is_reach}
use Rattle.lois_automata.proofs.operations.reach.Goals as goal

pub returns-in_default-clause-reached : goal.returns-in_default-clause-reached
returns-in_default-clause-reached g c = λ d l u. absurd (c.in_default.ensures.none d (c.requires.automaton d l u))

pub returns-clause-reached : goal.returns-clause-reached
returns-clause-reached g c =
    let n = c.args.size in
    let sets = c.in-Some.sets in
    let e : tree c.args.a.now ≡ five_of (comps_of sets.states.now) (comps_of sets.letters.now) (comps_of sets.steps.now) (comps_of sets.initial.now) (comps_of sets.accepting.now) = c.in-Some.ensures.some in
    let moves = coll (comps_of c.in-Coll.moves) in
    let are : AreProjected n Move (coll (comps_of sets.steps.now)) moves = subst (λ z. AreProjected n Move (coll (comps_of sets.steps.now)) z) (ap tree c.in-Coll.is) (c.in_ok-moves.ensures.members n) in
    IfOk-weaker c.reachable_set.result (λ r. HoldsThroughout n c.args.under.now (λ d. IsSetOf (point (tree r) d) (IsReached (graph_at (coll (comps_of sets.states.now)) (coll (comps_of c.in_ok-copy.field-0)) moves d)))) _ (λ r set d l u.
    subst (λ z. IsReachAt z (tree r) d) (sym e)
    (is_reach (comps_of sets.states.now) (comps_of sets.letters.now) (comps_of sets.steps.now) (comps_of sets.initial.now) (comps_of sets.accepting.now) d n moves (tree r) l (subst (λ z. IsAutomatonAt z d) e (c.requires.automaton d l u)) are
    (subst (λ z. IsSetOf (point (tree r) d) (IsReached (graph_at (coll (comps_of sets.states.now)) (coll (comps_of z)) moves d))) c.in_ok-copy.ensures (set d l u)))) c.reachable_set.ensures.members
