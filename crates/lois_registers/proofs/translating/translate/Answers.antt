use Rattle.std.proofs.Common.{◌≡◌, ◌∙◌}
use Rattle.std.proofs.lemmas.Result.{IfOk-weaker}
use Rattle.lois_base.specs.Tree.{tree}
use Rattle.lois_base.specs.declared.values.Term.{Term}
use Rattle.lois_registers.specs.Placed.{placements, five_terms}
use Rattle.lois_registers.proofs.Made.{places_few}
use Rattle.lois_registers.proofs.WholeTerm.{from_sets}
use Rattle.lois_registers.proofs.translating.translate.Goals as goal

pub steps_of-requires : goal.steps_of-requires
steps_of-requires c = record { few = places_few c.args.r.now.registers c.as_slice-places.result.now (c.as_slice-places.ensures.value ∙ c.in_ok-all.ensures) c.requires.valid.few }

pub returns : goal.returns
returns c =
    let r = c.args.r.now in
    let all : c.as_slice-places.result.now ≡ placements r.registers = c.as_slice-places.ensures.value ∙ c.in_ok-all.ensures in
    let at = λ (t : Term) (e : tree t ≡ five_terms (tree c.in_ok-states.states) (tree c.in_ok-letters.letters) (tree c.in_ok-steps.steps) (tree c.in_ok-initial.initial) (tree c.in_ok-accepting.accepting)).
    from_sets r c.requires.valid c.as_slice-places.result.now all (tree t) (tree c.in_ok-states.states) (tree c.in_ok-letters.letters) (tree c.in_ok-steps.steps) (tree c.in_ok-initial.initial) (tree c.in_ok-accepting.accepting) (tree c.in_ok-first_of.field-0) c.as_slice.result.now c.as_slice-2.result.now e
    c.in_ok-states.ensures c.as_slice.ensures c.in_ok-letters.ensures c.in_ok-steps.ensures c.in_ok-initial.ensures c.in_ok-first_of.ensures c.in_ok-accepting.ensures c.as_slice-2.ensures in
    record {
      automaton = IfOk-weaker c.five.result _ _ (λ t e. (at t e).0) c.five.ensures;
      written = IfOk-weaker c.five.result _ _ (λ t e. (at t e).1) c.five.ensures;
      sound = IfOk-weaker c.five.result _ _ (λ t e. (at t e).2) c.five.ensures;
    }
