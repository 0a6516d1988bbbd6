use Rattle.std.proofs.Common.{◌≡◌, ◌<◌, inl, inr, List, length, get_or, refl, ap, ◌∙◌, subst, arith}
use Rattle.lois_base.specs.Theory.{IsSatisfiable}
use Rattle.lois_base.specs.declared.guards.Lit.{Lit}
use Rattle.lois_deciders.proofs.Following.{up_to}
use Rattle.lois_deciders.proofs.Oracle.{asked_one, some_question, no_cube_met, cube_at}
use Rattle.lois_deciders.proofs.OnlyAsked.{no_lower_at_first, no_lower_risen}
use Rattle.lois_deciders.proofs.chosen.put.Goals as goal

pub loop-cube-init : goal.loop-cube-init
loop-cube-init g c = record { none = λ k d l. absurd (omega arith); kind = refl; more = no_lower_at_first _; asked = inl (refl, refl) }

pub returns-in-Some-clause-asked : goal.returns-in-Some-clause-asked
returns-in-Some-clause-asked g c = λ l. asked_one c.loop-cube.cube-index _ _ _ c.loop-cube.invariant.asked c.put_cube.ensures.asked

pub loop-cube-preserved : goal.loop-cube-preserved
loop-cube-preserved g c =
    let refused : IsSatisfiable c.args.size c.cube-item.result → ⊥ = (rw c.in_default.is at c.in_ok-sample.ensures.none).0 refl in
    record {
      none = λ k d l. up_to (λ j. IsSatisfiable c.args.size (get_or c.args.c.now j d) → ⊥) c.loop-cube.cube-index (λ j m. c.loop-cube.invariant.none j d m) (subst (λ (x : List Lit). IsSatisfiable c.args.size x → ⊥) (cube_at c.as_slice-cube-items.result.now c.args.c.now c.loop-cube.cube-index c.cube-item.result c.as_slice-cube-items.ensures c.loop-cube-test.true c.cube-item.is d) refused) k l;
      kind = c.put_cube.ensures.kind ∙ c.loop-cube.invariant.kind;
      more = no_lower_risen _ _ _ c.loop-cube.invariant.more c.put_cube.ensures.asked;
      asked = inr (asked_one c.loop-cube.cube-index _ _ _ c.loop-cube.invariant.asked c.put_cube.ensures.asked);
    }

pub returns-clause-none : goal.returns-clause-none
returns-clause-none g c =
    let all : length c.as_slice-cube-items.result.now ≡ length c.args.c.now = ap length c.as_slice-cube-items.ensures in
    (λ i. no_cube_met c.args.size c.args.c.now (λ k d l. c.loop-cube.invariant.none k d (omega (arith, l, all))), λ f. refl)

pub returns-clause-asked : goal.returns-clause-asked
returns-clause-asked g c = λ l.
    let all : length c.as_slice-cube-items.result.now ≡ length c.args.c.now = ap length c.as_slice-cube-items.ensures in
    let some : 0 < c.loop-cube.cube-index = omega (arith, l, all) in
    some_question c.loop-cube.cube-index _ _ some c.loop-cube.invariant.asked

pub returns-in_err-sample-clause-kind : goal.returns-in_err-sample-clause-kind
returns-in_err-sample-clause-kind g c = c.put_cube.ensures.kind ∙ c.loop-cube.invariant.kind

pub returns-in_err-sample-clause-more : goal.returns-in_err-sample-clause-more
returns-in_err-sample-clause-more g c =
    no_lower_risen _ _ _ c.loop-cube.invariant.more c.put_cube.ensures.asked

pub returns-in-Some-clause-kind : goal.returns-in-Some-clause-kind
returns-in-Some-clause-kind g c = c.put_cube.ensures.kind ∙ c.loop-cube.invariant.kind

pub returns-in-Some-clause-more : goal.returns-in-Some-clause-more
returns-in-Some-clause-more g c =
    no_lower_risen _ _ _ c.loop-cube.invariant.more c.put_cube.ensures.asked
