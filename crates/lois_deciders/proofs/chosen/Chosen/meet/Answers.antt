use Rattle.std.proofs.Common.{refl, sym, subst}
use Rattle.lois_deciders.specs.Satisfaction.{IsConstraintSample}
use Rattle.lois_deciders.proofs.Oracle.{some_is, none_is, unmet_excludes, excluded_unmet, is_met}
use Rattle.lois_deciders.proofs.chosen.Chosen.meet.Goals as goal

pub ask_both-requires-clause-pruned : goal.ask_both-requires-clause-pruned
ask_both-requires-clause-pruned g c = c.in_ok-constraint.ensures.fits c.args.size c.requires.first c.requires.second

pub returns-in-Some-clause-met : goal.returns-in-Some-clause-met
returns-in-Some-clause-met g c =
    let own = some_is (λ v. IsConstraintSample c.args.size c.in_ok-constraint.constraint v.items) c.in_ok-sample.field-0 c.in-Some.sample c.in-Some.is c.in_ok-sample.ensures.sample in
    record {
      truth = c.in_ok-constraint.ensures.truth;
      levels = c.in_ok-constraint.ensures.fits c.args.size c.requires.first c.requires.second;
      operators = c.in_ok-constraint.ensures.operators;
      pruned = c.in_ok-constraint.ensures.pruned;
      sample = subst (IsConstraintSample c.args.size c.in_ok-constraint.constraint) (sym c.from_vec.ensures) own;
    }

pub returns-in-Some-clause-none : goal.returns-in-Some-clause-none
returns-in-Some-clause-none g c =
    let own = some_is (λ v. IsConstraintSample c.args.size c.in_ok-constraint.constraint v.items) c.in_ok-sample.field-0 c.in-Some.sample c.in-Some.is c.in_ok-sample.ensures.sample in
    (λ i. absurd (cc), λ f. absurd (excluded_unmet c.args.size c.args.a.now c.args.b.now c.in_ok-constraint.constraint c.in_ok-constraint.ensures.truth f (is_met c.args.size c.in_ok-constraint.constraint c.in-Some.sample.items own)))

pub returns-in-None-clause-none : goal.returns-in-None-clause-none
returns-in-None-clause-none g c =
    (λ i. unmet_excludes c.args.size c.args.a.now c.args.b.now c.in_ok-constraint.constraint c.in_ok-constraint.ensures.truth (c.in_ok-sample.ensures.none.0 (none_is c.in_ok-sample.field-0 c.in-None.is)), λ f. refl)
