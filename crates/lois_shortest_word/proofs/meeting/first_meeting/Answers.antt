use Rattle.std.proofs.Common.{◌≡◌, Bool, refl, ap, sym, subst}
use Rattle.lois_base.specs.Data.{coll, comps_of}
use Rattle.lois_base.specs.Fits.{ItemsFit}
use Rattle.lois_base.specs.Validity.{AdmitsItems, ItemsHaveBoundedWidths}
use Rattle.lois_algebra.specs.Gathered.{IsAmong}
use Rattle.lois_deciders.proofs.Oracle.{some_is, none_is}
use Rattle.lois_deciders.proofs.OnlyAsked.{only_asked_nothing, only_asked_then}
use Rattle.lois_shortest_word.specs.Pairs.{AreCommon}
use Rattle.lois_shortest_word.specs.Rounds.{IsRound, HasReachedLevels, AdmitsReached}
use Rattle.lois_shortest_word.specs.SymbolicStates.{IsInitialSymbolicState, HasNoInitialState}
use Rattle.lois_shortest_word.proofs.Meetings.{reached_first, reached_next, none_common, leads, never_told, met_at}
use Rattle.lois_shortest_word.proofs.meeting.first_meeting.Goals as goal

pub rounds-init : goal.rounds-init
rounds-init g c =
    let n = c.args.size in
    let u = c.args.under.now in
    let one = c.args.one in
    let other = c.args.other in
    let nothing = c.new.ensures in
    let seen = c.in_ok-seen.ensures in
    let frontier = c.in_ok-frontier.ensures in
    record {
      reached = reached_first n u (comps_of one.states.now) (comps_of one.letters.now) (comps_of one.steps.now) (comps_of one.initial.now) (comps_of one.accepting.now) (comps_of other.states.now) (comps_of other.letters.now) (comps_of other.steps.now) (comps_of other.initial.now) (comps_of other.accepting.now) (comps_of c.args.starts.now) c.requires.pairs (record { steps = c.new.result; seen = c.in_ok-seen.seen; frontier = c.in_ok-frontier.frontier }) (ap comps_of nothing) (ap comps_of seen) (ap comps_of frontier);
      levels = record {
        steps = subst (λ z. ItemsFit n (comps_of z)) (sym nothing) tt;
        seen = subst (λ z. ItemsFit n (comps_of z)) (sym seen) c.requires.starts.levels;
        frontier = subst (λ z. ItemsFit n (comps_of z)) (sym frontier) c.requires.starts.levels;
      };
      operators = λ o a b d. record {
        steps = subst (λ z. AdmitsItems o (comps_of z)) (sym nothing) tt;
        seen = subst (λ z. AdmitsItems o (comps_of z)) (sym seen) a;
        frontier = subst (λ z. AdmitsItems o (comps_of z)) (sym frontier) a;
      };
      widths = λ a b. subst (λ z. ItemsHaveBoundedWidths (comps_of z)) (sym nothing) tt;
      only_asked = only_asked_nothing (λ b. (goal.Decider-dyn g (b.vtable, b.value)).kind_of b.value) (λ b. (goal.Decider-dyn g (b.vtable, b.value)).questions b.value) c.args.chosen.now;
    }

pub common_pairs-requires-clause-first : goal.common_pairs-requires-clause-first
common_pairs-requires-clause-first g c = record {
  set = (comps_of c.in_ok-copy.field-0, refl);
  levels = subst (λ z. ItemsFit c.args.size (comps_of z)) (sym c.in_ok-copy.ensures) c.requires.accepting.levels;
  operators = subst (λ z. AdmitsItems g.T.Structure.ordered (comps_of z)) (sym c.in_ok-copy.ensures) c.requires.accepting.operators;
}

pub common_pairs-requires-clause-second : goal.common_pairs-requires-clause-second
common_pairs-requires-clause-second g c = record {
  set = (comps_of c.in_ok-copy-2.field-0, refl);
  levels = subst (λ z. ItemsFit c.args.size (comps_of z)) (sym c.in_ok-copy-2.ensures) c.requires.other_accepting.levels;
  operators = subst (λ z. AdmitsItems g.T.Structure.ordered (comps_of z)) (sym c.in_ok-copy-2.ensures) c.requires.other_accepting.operators;
}

pub returns-in-Some-clause-some : goal.returns-in-Some-clause-some
returns-in-Some-clause-some g c =
    let n = c.args.size in
    let u = c.args.under.now in
    let one = c.args.one in
    let other = c.args.other in
    let common = comps_of c.in_ok-common.common in
    let r = c.rounds.reached in
    let copied : coll (comps_of c.in_ok-copy.field-0) ≡ coll (comps_of one.accepting.now) = ap (λ z. coll (comps_of z)) c.in_ok-copy.ensures in
    let copied' : coll (comps_of c.in_ok-copy-2.field-0) ≡ coll (comps_of other.accepting.now) = ap (λ z. coll (comps_of z)) c.in_ok-copy-2.ensures in
    let told : AreCommon n (coll (comps_of r.frontier)) (coll (comps_of one.accepting.now)) (coll (comps_of other.accepting.now)) (coll common) = subst (λ z. AreCommon n (coll (comps_of r.frontier)) (coll (comps_of one.accepting.now)) z (coll common)) copied' (subst (λ z. AreCommon n (coll (comps_of r.frontier)) z (coll (comps_of c.in_ok-copy-2.field-0)) (coll common)) copied c.in_ok-common.ensures.members) in
    let layer = coll (comps_of c.in_ok-copy-3.field-0) in
    let stage = c.in-Some._stage in
    let begun = some_is (IsInitialSymbolicState n u (IsAmong common) layer) c.in_ok-_stage.field-0 stage c.in-Some.is c.in_ok-_stage.ensures.some in
    let at = met_at n u common layer stage begun in
    leads n u (comps_of one.states.now) (comps_of one.letters.now) (comps_of one.steps.now) (comps_of one.initial.now) (comps_of one.accepting.now) (comps_of other.states.now) (comps_of other.letters.now) (comps_of other.steps.now) (comps_of other.initial.now) (comps_of other.accepting.now) (comps_of c.args.starts.now) c.rounds.count r c.rounds.invariant.reached common told c.requires.pairs at.0 at.1 at.2 at.3.0 at.3.1

pub returns-in_default-2-clause-none : goal.returns-in_default-2-clause-none
returns-in_default-2-clause-none g c = λ _.
    let n = c.args.size in
    let u = c.args.under.now in
    let one = c.args.one in
    let other = c.args.other in
    let common = comps_of c.in_ok-common.common in
    let r = c.rounds.reached in
    let copied : coll (comps_of c.in_ok-copy.field-0) ≡ coll (comps_of one.accepting.now) = ap (λ z. coll (comps_of z)) c.in_ok-copy.ensures in
    let copied' : coll (comps_of c.in_ok-copy-2.field-0) ≡ coll (comps_of other.accepting.now) = ap (λ z. coll (comps_of z)) c.in_ok-copy-2.ensures in
    let told : AreCommon n (coll (comps_of r.frontier)) (coll (comps_of one.accepting.now)) (coll (comps_of other.accepting.now)) (coll common) = subst (λ z. AreCommon n (coll (comps_of r.frontier)) (coll (comps_of one.accepting.now)) z (coll common)) copied' (subst (λ z. AreCommon n (coll (comps_of r.frontier)) z (coll (comps_of c.in_ok-copy-2.field-0)) (coll common)) copied c.in_ok-common.ensures.members) in
    let none : HasNoInitialState n u (IsAmong common) (coll common) = subst (λ z. HasNoInitialState n u (IsAmong common) (coll (comps_of z))) c.in_ok-copy-3.ensures (c.in_ok-_stage.ensures.none (none_is c.in_ok-_stage.field-0 c.in_default.is)) in
    let never = never_told n u (comps_of r.frontier) common (coll (comps_of one.accepting.now)) (coll (comps_of other.accepting.now)) told none in
    none_common n u (comps_of one.states.now) (comps_of one.letters.now) (comps_of one.steps.now) (comps_of one.initial.now) (comps_of one.accepting.now) (comps_of other.states.now) (comps_of other.letters.now) (comps_of other.steps.now) (comps_of other.initial.now) (comps_of other.accepting.now) (comps_of c.args.starts.now) c.rounds.count r c.rounds.invariant.reached never c.requires.pairs (c.in_ok-next.ensures.none (none_is c.in_ok-next.field-0 c.in_default-2.is))

pub rounds-preserved-else-count-3 : goal.rounds-preserved-else-count-3
rounds-preserved-else-count-3 g c =
    let n = c.args.size in
    let u = c.args.under.now in
    let one = c.args.one in
    let other = c.args.other in
    let common = comps_of c.in_ok-common.common in
    let r = c.rounds.reached in
    let copied : coll (comps_of c.in_ok-copy.field-0) ≡ coll (comps_of one.accepting.now) = ap (λ z. coll (comps_of z)) c.in_ok-copy.ensures in
    let copied' : coll (comps_of c.in_ok-copy-2.field-0) ≡ coll (comps_of other.accepting.now) = ap (λ z. coll (comps_of z)) c.in_ok-copy-2.ensures in
    let told : AreCommon n (coll (comps_of r.frontier)) (coll (comps_of one.accepting.now)) (coll (comps_of other.accepting.now)) (coll common) = subst (λ z. AreCommon n (coll (comps_of r.frontier)) (coll (comps_of one.accepting.now)) z (coll common)) copied' (subst (λ z. AreCommon n (coll (comps_of r.frontier)) z (coll (comps_of c.in_ok-copy-2.field-0)) (coll common)) copied c.in_ok-common.ensures.members) in
    let none : HasNoInitialState n u (IsAmong common) (coll common) = subst (λ z. HasNoInitialState n u (IsAmong common) (coll (comps_of z))) c.in_ok-copy-3.ensures (c.in_ok-_stage.ensures.none (none_is c.in_ok-_stage.field-0 c.in_default.is)) in
    let never = never_told n u (comps_of r.frontier) common (coll (comps_of one.accepting.now)) (coll (comps_of other.accepting.now)) told none in
    let next = c.in-Some-2.next in
    let was = c.rounds.invariant in
    let steps = comps_of one.steps.now in
    let steps' = comps_of other.steps.now in
    let round = some_is (IsRound n (coll steps) (coll steps') r) c.in_ok-next.field-0 next c.in-Some-2.is c.in_ok-next.ensures.some in
    record {
      reached = reached_next n u (comps_of one.states.now) (comps_of one.letters.now) (comps_of one.steps.now) (comps_of one.initial.now) (comps_of one.accepting.now) (comps_of other.states.now) (comps_of other.letters.now) (comps_of other.steps.now) (comps_of other.initial.now) (comps_of other.accepting.now) (comps_of c.args.starts.now) c.rounds.count r was.reached never next round;
      levels = some_is (HasReachedLevels n) c.in_ok-next.field-0 next c.in-Some-2.is c.in_ok-next.ensures.levels;
      operators = λ o a b d. some_is (λ x. (o : Bool) → AdmitsReached o r → AdmitsItems o steps → AdmitsItems o steps' → AdmitsReached o x) c.in_ok-next.field-0 next c.in-Some-2.is c.in_ok-next.ensures.operators o (was.operators o a b d) b d;
      widths = λ a b. some_is (λ x. ItemsHaveBoundedWidths steps → ItemsHaveBoundedWidths steps' → ItemsHaveBoundedWidths (comps_of r.steps) → ItemsHaveBoundedWidths (comps_of x.steps)) c.in_ok-next.field-0 next c.in-Some-2.is c.in_ok-next.ensures.widths a b (was.widths a b);
      only_asked = only_asked_then (λ b. (goal.Decider-dyn g (b.vtable, b.value)).kind_of b.value) (λ b. (goal.Decider-dyn g (b.vtable, b.value)).questions b.value) c.args.chosen.now c.rounds.chosen c.initial_state.new.chosen was.only_asked c.initial_state.ensures.only_asked;
    }
