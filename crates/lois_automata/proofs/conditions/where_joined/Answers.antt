use Rattle.std.proofs.Common.{◌≡◌, ℕ, ◌&&◌, List}
use Rattle.std.proofs.lemmas.Result.{IfOk-weaker}
use Rattle.lois_base.specs.Atom.{Atom}
use Rattle.lois_base.specs.Data.{comps_of}
use Rattle.lois_base.specs.Fits.{ConstraintFits}
use Rattle.lois_base.specs.Truth.{holds}
use Rattle.lois_automata.proofs.Checked.{joined_where}
use Rattle.lois_automata.proofs.conditions.where_joined.Goals as goal

pub returns-clause-levels : goal.returns-clause-levels
returns-clause-levels g c =
    let n = c.args.size in
    let triples = c.in_ok-triples.triples in
    let parts = c.in_ok-parts.parts in
    let parts_fit = c.in_ok-parts.ensures.fits n (c.in_ok-ends.ensures.fits n c.in_ok-from.ensures.levels c.in_ok-to.ensures.levels) c.in_ok-by.ensures.levels in
    IfOk-weaker c.meet-3.result (λ r. (n : ℕ) → ConstraintFits n triples → ConstraintFits n parts → ConstraintFits n r) _ (λ r fits. fits n c.in_ok-triples.ensures.levels parts_fit) c.meet-3.ensures.fits

pub returns-clause-truth : goal.returns-clause-truth
returns-clause-truth g c =
    let sets = c.args.sets in
    IfOk-weaker c.meet-3.result (λ r. (d : List Atom) → holds d r ≡ (holds d c.in_ok-triples.triples && holds d c.in_ok-parts.parts)) _ (λ r met.
    joined_where c.args.size (comps_of sets.states.now) (comps_of sets.letters.now) (comps_of sets.steps.now) c.in_ok-triples.triples c.in_ok-from.from c.in_ok-to.to c.in_ok-by.by c.in_ok-ends.ends c.in_ok-parts.parts r
    c.in_ok-triples.ensures.truth c.in_ok-from.ensures.truth c.in_ok-to.ensures.truth c.in_ok-by.ensures.truth c.in_ok-ends.ensures.truth c.in_ok-parts.ensures.truth met) c.meet-3.ensures.truth
