use Rattle.std.proofs.Common.{arith}
use Rattle.std.proofs.lemmas.Result.{IfOk-weaker}
use Rattle.lois_base.specs.Data.{coll, comps_of}
use Rattle.lois_base.specs.Values.{PointValue, point, IsIn}
use Rattle.lois_automata.specs.Projections.{automaton_at}
use Rattle.lois_minimise.proofs.Compared.{first_compared, next_compared, indistinguishable, nothing_in}
use Rattle.lois_minimise.proofs.refining.indistinguishable_pairs.Goals as goal

pub refining-init : goal.refining-init
refining-init g c =
    let sets = c.args.sets in
    let n = c.args.size in
    let nodes = coll (comps_of c.args.nodes.now) in
    let split = c.in_ok-split.split in
    let inside = c.in_ok-inside.inside in
    let outside = c.in_ok-outside.outside in
    record {
      compared = λ d l whole. first_compared (automaton_at (comps_of sets.states.now) (comps_of sets.letters.now) (comps_of sets.steps.now) (comps_of sets.initial.now) (comps_of sets.accepting.now) d) (point nodes d)
          (point (coll (comps_of split.inside)) d) (point (coll (comps_of split.outside)) d) (point (coll (comps_of inside)) d) (point (coll (comps_of outside)) d)
          whole.reached (c.in_ok-split.ensures.pairs d l) (c.in_ok-inside.ensures.members n d l) (c.in_ok-outside.ensures.members n d l);
      levels = (c.in_ok-inside.ensures.levels n c.in_ok-split.ensures.levels.0, c.in_ok-outside.ensures.levels n c.in_ok-split.ensures.levels.1);
      operators = λ o a b e. let h = c.in_ok-split.ensures.operators o e b in (c.in_ok-inside.ensures.operators o h.0, c.in_ok-outside.ensures.operators o h.1);
      widths = λ u. c.in_ok-outside.ensures.widths (c.in_ok-split.ensures.widths u);
    }

pub refining-preserved : goal.refining-preserved
refining-preserved g c =
    let sets = c.args.sets in
    let before = c.refining.invariant in
    let shares = c.refining.shares in
    let told = c.in_ok-told.told in
    let next = c.in_ok-next.next in
    let moves = c.in_ok-moves.moves in
    record {
      compared = λ d l whole. next_compared (automaton_at (comps_of sets.states.now) (comps_of sets.letters.now) (comps_of sets.steps.now) (comps_of sets.initial.now) (comps_of sets.accepting.now) d) (point (coll (comps_of moves)) d) (point (coll (comps_of shares.inside)) d) (point (coll (comps_of shares.outside)) d) (point (coll (comps_of told)) d) (point (coll (comps_of next.inside)) d) (point (coll (comps_of next.outside)) d)
          whole.deterministic (c.in_ok-moves.ensures.moves d l) (c.in_ok-told.ensures.members.only d l) (c.in_ok-told.ensures.members.all d l) (c.in_ok-next.ensures.shared d l) (before.compared d l whole);
      levels = c.in_ok-next.ensures.levels;
      operators = λ o a b e. let h = before.operators o a b e in c.in_ok-next.ensures.operators o h.1 (c.in_ok-told.ensures.operators o (c.in_ok-moves.ensures.operators o a) h.0);
      widths = λ u. (c.in_ok-next.ensures.widths (before.widths u)).1;
    }

pub returns-clause-alike : goal.returns-clause-alike
returns-clause-alike g c =
    let sets = c.args.sets in
    let n = c.args.size in
    let shares = c.refining.shares in
    IfOk-weaker c.both_ways.result _ _ (λ r ways d l whole.
    let none : (x : PointValue) → IsIn x (point (coll (comps_of shares.inside)) d) → ⊥ = λ x i. nothing_in shares.inside (omega (arith, c.refining-test.false, c.len.ensures)) d x i in
    indistinguishable whole.value (automaton_at (comps_of sets.states.now) (comps_of sets.letters.now) (comps_of sets.steps.now) (comps_of sets.initial.now) (comps_of sets.accepting.now) d) whole.automaton whole.complete (point (coll (comps_of shares.inside)) d) (point (coll (comps_of shares.outside)) d) (point (coll (comps_of r)) d) none (ways n d l) (c.refining.invariant.compared d l whole)) c.both_ways.ensures.members
