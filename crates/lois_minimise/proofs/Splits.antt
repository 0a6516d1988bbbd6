-- The pairs of nodes of which one is in a set and the other isn't, and the other pairs; moves back from targets to sources.
use Rattle.std.proofs.Common.{◌≡◌, ℕ, inl, inr, List, length}
use Rattle.lois_base.specs.Atom.{Atom}
use Rattle.lois_base.specs.Data.{TermD, coll, CompsD}
use Rattle.lois_base.specs.Values.{point}
use Rattle.lois_algebra.specs.Sets.{IsUnion}
use Rattle.lois_automata.specs.Built.{ArePairs}
use Rattle.lois_minimise.specs.Classes.{IsPartition, ArePairsAcross, AreSplitPairs}

pub are_across : (n : ℕ) (a b s t one other r : TermD) → ArePairs n a b one → ArePairs n s t other → IsUnion one other r → ArePairsAcross n a b s t r
are_across n a b s t one other r first second all c l w = (
  λ i. elim ((all c w).0 i) [
    | inl j ↦ inl ((first c l w).0 j)
    | inr j ↦ inr ((second c l w).0 j)
  ],
  λ h. (all c w).1 (elim h [
    | inl j ↦ inl ((first c l w).1 j)
    | inr j ↦ inr ((second c l w).1 j)
  ]),
)

module _ (n : ℕ) (nodes set apart alike : TermD) (inside outside : CompsD) (c : List Atom) (l : length c ≡ n) (shared : IsPartition (point nodes c) (point set c) (point (coll inside) c) (point (coll outside) c)) (across : ArePairsAcross n (coll inside) (coll outside) (coll outside) (coll inside) apart) (within : ArePairsAcross n (coll inside) (coll inside) (coll outside) (coll outside) alike) where
  pub are_split_pairs : AreSplitPairs (point nodes c) (point set c) (point apart c) (point alike c)
  are_split_pairs = record {
    across = λ x. (
      λ i. elim ((across c l x).0 i) [
        | inl f ↦
            let p = (shared.inner f.0).0 f.2 in
            let q = (shared.outer f.1).0 f.3 in
            (f.0, f.1, p.0, q.0, inl (p.1, q.1), f.4)
        | inr f ↦
            let p = (shared.outer f.0).0 f.2 in
            let q = (shared.inner f.1).0 f.3 in
            (f.0, f.1, p.0, q.0, inr (q.1, p.1), f.4)
      ],
      λ h. (across c l x).1 (elim h.4 [
        | inl s ↦ inl (h.0, h.1, (shared.inner h.0).1 (h.2, s.0), (shared.outer h.1).1 (h.3, s.1), h.5)
        | inr s ↦ inr (h.0, h.1, (shared.outer h.0).1 (h.2, s.1), (shared.inner h.1).1 (h.3, s.0), h.5)
      ]),
    );
    within = λ x. (
      λ i. elim ((within c l x).0 i) [
        | inl f ↦
            let p = (shared.inner f.0).0 f.2 in
            let q = (shared.inner f.1).0 f.3 in
            (f.0, f.1, p.0, q.0, inl (p.1, q.1), f.4)
        | inr f ↦
            let p = (shared.outer f.0).0 f.2 in
            let q = (shared.outer f.1).0 f.3 in
            (f.0, f.1, p.0, q.0, inr (p.1, q.1), f.4)
      ],
      λ h. (within c l x).1 (elim h.4 [
        | inl s ↦ inl (h.0, h.1, (shared.inner h.0).1 (h.2, s.0), (shared.inner h.1).1 (h.3, s.1), h.5)
        | inr s ↦ inr (h.0, h.1, (shared.outer h.0).1 (h.2, s.0), (shared.outer h.1).1 (h.3, s.1), h.5)
      ]),
    );
    decided = λ q i. elim (shared.each q i) [
      | inl j ↦ inl ((shared.inner q).0 j).1
      | inr j ↦ inr ((shared.outer q).0 j).1
    ];
  }
