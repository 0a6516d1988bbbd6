use Rattle.std.proofs.Common.{◌≡◌, ℕ, map, slice_get, Some, subst, ap, ◌∙◌, arith}
use Rattle.std.proofs.lemmas.Bool.{false≢true}
use Rattle.std.proofs.lemmas.List.{take_all}
use Rattle.std.specs.List.{All}
use Rattle.lois_base.specs.Tree.{comp_of}
use Rattle.lois_terms.specs.Hash.{written_hash}
use Rattle.lois_terms.specs.Positions.{positions_of}
use Rattle.lois_terms.proofs.Positions.{nowhere_in}
use Rattle.lois_terms.proofs.indexing.is_written_in.Goals as goal

pub returns : goal.returns
returns c =
    let ks = map comp_of c.args.comps.now in
    let k = comp_of c.args.comp.now in
    let P : ℕ → Type 0 = λ i. slice_get ks i ≡ Some k → ⊥ in
    let found = c.positions-position-items.result.now in
    let all : All P found = subst (All P) (take_all c.loop-position.position-index found (omega (arith, c.loop-position-test.false))) c.loop-position.invariant in
    let hashed : found ≡ positions_of (written_hash k) (map written_hash ks) =
    c.positions-position-items.ensures.exact
    ∙ ap (λ x. positions_of x c.args.index.now) c.hash_written.ensures
    ∙ ap (positions_of (written_hash k)) c.requires in
    (λ h. absurd (false≢true h), λ h. absurd (nowhere_in written_hash ks k (subst (All P) hashed all) h))
