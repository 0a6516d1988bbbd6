use Rattle.std.proofs.Common.{◌≡◌, ℕ, not, List, map, subst, sym, ap, ◌∙◌, arith}
use Rattle.std.proofs.lemmas.List.Elements.{All-nil, All-append}
use Rattle.std.proofs.lemmas.Result.{IfOk-weaker}
use Rattle.lois_base.proofs.Both.{holds_append}
use Rattle.lois_base.specs.Atom.{Atom}
use Rattle.lois_base.specs.Data.{coll, comps_of}
use Rattle.lois_base.specs.Fits.{CubeFits, ConstraintFits}
use Rattle.lois_base.specs.Truth.{holds}
use Rattle.lois_base.specs.Values.{point}
use Rattle.lois_relate.proofs.Parts.{is_comp_of}
use Rattle.lois_automata.specs.KeyShapes.{comp_key_shape}
use Rattle.lois_automata.specs.Projections.{IsFunction}
use Rattle.lois_automata.proofs.Tests.{clashes_begin, clashes_more, clashes_end, unless_not}
use Rattle.lois_automata.proofs.conditions.where_function.Goals as goal

pub where_clashing-requires-clause-first : goal.where_clashing-requires-clause-first
where_clashing-requires-clause-first g c =
    let k = is_comp_of c.as_slice-first-items.result.now c.args.items.now c.loop-first.first-index c.first-item.result c.as_slice-first-items.ensures c.loop-first-test.true c.first-item.is in
    record {
      levels = k.fits c.args.size c.requires.over.levels;
      operators = k.admits g.T.Structure.ordered c.requires.over.operators;
    }

pub loop-first-init : goal.loop-first-init
loop-first-init g c = (
  clashes_begin c.args.size c.args.items.now c.as_slice-first-items.result.now c.new-found.result c.as_slice-first-items.ensures c.new-found.ensures,
  subst (λ z. ConstraintFits c.args.size z) (sym c.new-found.ensures) (All-nil (CubeFits c.args.size)),
)

pub where_clashing-requires-clause-keys : goal.where_clashing-requires-clause-keys
where_clashing-requires-clause-keys g c =
    c.in_ok-index.ensures ∙ ap (map comp_key_shape) c.as_slice.ensures

pub loop-first-preserved : goal.loop-first-preserved
loop-first-preserved g c =
    let n = c.args.size in
    let before = c.loop-first.found in
    let clash = c.in_ok-clash.clash in
    let after = c.append.new.cubes in (
      clashes_more n c.args.items.now c.as_slice-first-items.result.now c.loop-first.first-index c.first-item.result before clash after c.loop-first-test.true c.first-item.is c.in_ok-clash.ensures.truth (λ d. ap (holds d) c.in_ok-append.ensures ∙ holds_append d before clash) c.loop-first.invariant.0,
      subst (ConstraintFits n) (sym c.in_ok-append.ensures) (All-append (CubeFits n) before clash c.loop-first.invariant.1 c.in_ok-clash.ensures.levels),
    )

pub returns-clause-levels : goal.returns-clause-levels
returns-clause-levels g c =
    let found = c.loop-first.found in
    IfOk-weaker c.negate.result (λ r. (n : ℕ) → ConstraintFits n found → ConstraintFits n r) _ (λ r fits. fits c.args.size c.loop-first.invariant.1) c.negate.ensures.fits

pub returns-clause-truth : goal.returns-clause-truth
returns-clause-truth g c =
    let n = c.args.size in
    let found = c.loop-first.found in
    let whole = clashes_end n c.args.items.now c.as_slice-first-items.result.now c.loop-first.first-index found (omega (arith, c.loop-first-test.false)) c.loop-first.invariant.0 in
    IfOk-weaker c.negate.result (λ r. (d : List Atom) → holds d r ≡ not (holds d found)) _ (λ r e. unless_not n (λ d. IsFunction (point (coll (comps_of c.args.items.now)) d)) found r whole e) c.negate.ensures.truth
