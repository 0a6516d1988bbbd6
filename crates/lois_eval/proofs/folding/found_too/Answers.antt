use Rattle.std.proofs.Common.{◌≡◌, ◌+◌, ◌-◌, subst, arith, rules}
use Rattle.lois_base.specs.Fits.{ConstraintFits}
use Rattle.lois_eval.specs.Folded.{HasFoundToo}
use Rattle.lois_eval.proofs.folding.found_too.Goals as goal

pub for_some_more-requires-clause-over : goal.for_some_more-requires-clause-over
for_some_more-requires-clause-over g c =
    let k = c.args.context.now in
    let e : k.size ≡ c.args.size + (k.size - c.args.size) = omega (arith, c.requires.longer) in
    record {
      levels = subst (λ z. ConstraintFits z c.in_ok-there.there) e (c.in_ok-there.ensures.levels k.size k.levels c.requires.over.levels);
      operators = search rules;
    }

pub returns : goal.returns
returns g c =
    let r : HasFoundToo c.args.context.now c.args.size c.args.wanted c.args.found c.args.held c.in_ok-or.field-0 = record {
      there = c.in_ok-there.there;
      some = c.in_ok-one.one;
      sought = c.in_ok-there.ensures.truth;
      bound = c.in_ok-one.ensures.truth;
      joined = c.in_ok-or.ensures.truth;
      levels = λ f. c.in_ok-or.ensures.fits c.args.size f c.in_ok-one.ensures.levels;
      operators = λ o a b k. c.in_ok-or.ensures.operators o a (c.in_ok-one.ensures.operators o (c.in_ok-there.ensures.operators o k.«when» b));
    } in record { found = r }
