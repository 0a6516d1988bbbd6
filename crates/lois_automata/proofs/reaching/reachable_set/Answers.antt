use Rattle.std.proofs.Common.{[], ◌≡◌, sym, subst, ◌∙◌, rules}
use Rattle.std.proofs.lemmas.Result.{IfOk-weaker}
use Rattle.lois_base.specs.Data.{coll, comps_of}
use Rattle.lois_base.specs.Fits.{Fits, ItemsFit}
use Rattle.lois_base.specs.Tree.{tree}
use Rattle.lois_base.specs.Validity.{AdmitsTerm, AdmitsItems, AdmitsConstraint, HasBoundedWidths}
use Rattle.lois_base.proofs.Validity.{items_admitted, term_admitted}
use Rattle.lois_base.specs.Values.{point}
use Rattle.lois_meaning.specs.Kinds.{IsSetOf}
use Rattle.lois_rounds.specs.Rounds.{IsFirstUnchanged}
use Rattle.lois_automata.specs.Rounds.{RoundParameters, held, Propagates, IsSettled}
use Rattle.lois_automata.specs.RoundsLaw.{is_over_true}
use Rattle.lois_automata.specs.Reachability.{graph_at, IsReached}
use Rattle.lois_automata.specs.Throughout.{HoldsThroughout}
use Rattle.lois_automata.proofs.Families.{over_length}
use Rattle.lois_automata.proofs.ReachedBegin.{first_over, only_weakens, is_reached_set}
use Rattle.lois_automata.proofs.Rounding.{all_new, held_fits, held_admits, held_widths, over_sizes}
use Rattle.lois_automata.proofs.reaching.reachable_set.Goals as goal

pub first_family-requires-clause-over : goal.first_family-requires-clause-over
first_family-requires-clause-over c =
    record {
      levels = search rules;
      operators = items_admitted (comps_of c.args.nodes.now);
    }

pub first_family-requires-clause-set_over : goal.first_family-requires-clause-set_over
first_family-requires-clause-set_over c =
    record {
      levels = search rules;
      operators = term_admitted (tree c.args.start.now);
    }

pub invariant_of-round-clause-settled : goal.invariant_of-round-clause-settled
invariant_of-round-clause-settled c =
    let x : RoundParameters = record { size = c.args.size; under = c.in_ok-copy.field-0; nodes = comps_of c.in_ok-copy-2.field-0; moves = coll (comps_of c.in_ok-copy-3.field-0) } in
    subst (λ z. IsSettled x z c.new-2.result) (sym c.new.ensures) (subst (λ z. IsSettled x [] z) (sym c.new-2.ensures) (all_new x []))

pub invariant_of-round-clause-nodes_fit : goal.invariant_of-round-clause-nodes_fit
invariant_of-round-clause-nodes_fit c = subst (λ z. ItemsFit c.args.size (comps_of z)) (sym c.in_ok-copy-2.ensures) c.requires.nodes

pub invariant_of-round-clause-moves_fit : goal.invariant_of-round-clause-moves_fit
invariant_of-round-clause-moves_fit c = subst (λ z. ItemsFit c.args.size (comps_of z)) (sym c.in_ok-copy-3.ensures) c.requires.moves

pub grow-requires : goal.grow-requires
grow-requires c =
    only_weakens (record { size = c.args.size; under = c.in_ok-copy.field-0; nodes = comps_of c.in_ok-copy-2.field-0; moves = coll (comps_of c.in_ok-copy-3.field-0) })

pub set_of_family-requires : goal.set_of_family-requires
set_of_family-requires c =
    over_length c.args.size c.args.nodes.now c.in_ok-family.family (over_sizes c.args.size (comps_of c.args.nodes.now) c.in_ok-family.family c.in_ok-first.first c.in_ok-family.ensures.sizes ∙ first_over c.args.size c.args.under.now (tree c.args.start.now) (comps_of c.args.nodes.now) c.in_ok-first.first c.in_ok-first.ensures.members)

pub returns-clause-members : goal.returns-clause-members
returns-clause-members c =
    let n = c.args.size in
    let t = tree c.args.start.now in
    let f = c.in_ok-family.family in
    let from = c.in_ok-first.first in
    let x : RoundParameters = record { size = n; under = c.args.under.now; nodes = comps_of c.args.nodes.now; moves = coll (comps_of c.args.moves.now) } in
    let one : IsFirstUnchanged (Propagates x) from f =
    subst (λ z. IsFirstUnchanged (Propagates (record { size = n; under = z; nodes = comps_of c.args.nodes.now; moves = coll (comps_of c.args.moves.now) })) from f) c.in_ok-copy.ensures
    (subst (λ z. IsFirstUnchanged (Propagates (record { size = n; under = c.in_ok-copy.field-0; nodes = comps_of z; moves = coll (comps_of c.args.moves.now) })) from f) c.in_ok-copy-2.ensures
    (subst (λ z. IsFirstUnchanged (Propagates (record { size = n; under = c.in_ok-copy.field-0; nodes = comps_of c.in_ok-copy-2.field-0; moves = coll (comps_of z) })) from f) c.in_ok-copy-3.ensures c.in_ok-family.ensures.first)) in
    let set = is_reached_set x t from f c.in_ok-first.ensures.members one in
    IfOk-weaker c.set_of_family.result (λ r. tree r ≡ coll (held x.nodes f)) _ (λ r e. subst (λ z. HoldsThroughout n c.args.under.now (λ d. IsSetOf (point z d) (IsReached (graph_at (coll x.nodes) t x.moves d)))) (sym e) set) c.set_of_family.ensures

pub returns-clause-levels : goal.returns-clause-levels
returns-clause-levels c =
    let n = c.args.size in
    let ks = comps_of c.args.nodes.now in
    let f = c.in_ok-family.family in
    let over = is_over_true n ks f (over_sizes n ks f c.in_ok-first.first c.in_ok-family.ensures.sizes ∙ first_over n c.args.under.now (tree c.args.start.now) ks c.in_ok-first.first c.in_ok-first.ensures.members) in
    IfOk-weaker c.set_of_family.result (λ r. tree r ≡ coll (held ks f)) _ (λ r e. subst (λ z. Fits n z) (sym e) (held_fits n ks f over c.in_ok-family.ensures.fits c.requires.nodes)) c.set_of_family.ensures

pub returns-clause-operators : goal.returns-clause-operators
returns-clause-operators c =
    let ks = comps_of c.args.nodes.now in
    let f = c.in_ok-family.family in
    IfOk-weaker c.set_of_family.result (λ r. tree r ≡ coll (held ks f)) _ (λ r e o nodes start moves under.
    let own : AdmitsConstraint o c.in_ok-copy.field-0 × AdmitsItems o (comps_of c.in_ok-copy-2.field-0) × AdmitsItems o (comps_of c.in_ok-copy-3.field-0) = (
      subst (λ z. AdmitsConstraint o z) (sym c.in_ok-copy.ensures) under,
      subst (λ z. AdmitsItems o (comps_of z)) (sym c.in_ok-copy-2.ensures) nodes,
      subst (λ z. AdmitsItems o (comps_of z)) (sym c.in_ok-copy-3.ensures) moves,
    ) in
    let grown = c.in_ok-family.ensures.operators o own (c.in_ok-first.ensures.operators o nodes start under) in
    subst (λ z. AdmitsTerm o z) (sym e) (held_admits o ks f grown nodes)) c.set_of_family.ensures

pub returns-clause-widths : goal.returns-clause-widths
returns-clause-widths c =
    let f = c.in_ok-family.family in
    let ks = comps_of c.args.nodes.now in
    IfOk-weaker c.set_of_family.result (λ r. tree r ≡ coll (held ks f)) _ (λ r e h. subst HasBoundedWidths (sym e) (held_widths ks f h)) c.set_of_family.ensures
