-- A cube is met where each level has the rank of its label.
use Rattle.std.proofs.Common.{◌≡◌, ℕ, ◌<◌, List, length, map, get_or, refl, sym, ap, ◌∙◌, subst, arith}
use Rattle.std.proofs.lemmas.Int.{ints}
use Rattle.std.proofs.lemmas.List.{get_or-map, length-map}
use Rattle.std.proofs.lemmas.List.Elements.{All-from_get_or}
use Rattle.std.proofs.lemmas.List.Sums.{list_all-from_AllPass}
use Rattle.std.specs.Bool.{IsTrue}
use Rattle.std.specs.List.{All}
use Rattle.lois_base.specs.Atom.{Atom, whole}
use Rattle.lois_base.specs.Fits.{CubeFits}
use Rattle.lois_base.specs.Theory.{IsSampleOf}
use Rattle.lois_base.specs.Truth.{atom_at, op_holds, lit_holds, sampled}
use Rattle.lois_base.specs.Validity.{is_strict, IsStrictCube}
use Rattle.lois_base.specs.declared.guards.Lit.{Lit}
use Rattle.lois_base.specs.declared.guards.Op.{Op}
use Rattle.lois_base.specs.declared.guards.Op.TheVariants.{Eq, Ne, Lt, AtMost}
use Rattle.lois_deciders.specs.Labels.{IsLabelling, IsKeptApart}
use Rattle.lois_deciders.specs.Ranks.{IsFullRanking}

numbers_compare : (o : Op) (a b : ℕ) → IsTrue (is_strict o) → (o ≡ Eq → a ≡ b) → (o ≡ Ne → a ≡ b → ⊥) → (o ≡ Lt → a < b) → IsTrue (op_holds o (whole a) (whole b))
numbers_compare Eq a b s e n l = let h : a ≡ b = e refl in grind (arith, ints)
numbers_compare Ne a b s e n l = let h : a ≡ b → ⊥ = n refl in grind (arith, ints)
numbers_compare Lt a b s e n l = let h : a < b = l refl in grind (arith, ints)
numbers_compare AtMost a b s e n l = absurd (cc)

module _ (n : ℕ) (cube : List Lit) (labels ranks : List ℕ) (fits : CubeFits n cube) (strict : IsStrictCube cube) (h : IsLabelling n cube (length cube) labels) (apart : All (IsKeptApart labels) cube) (r : IsFullRanking cube labels ranks) where
  abbrev rank : ℕ → ℕ
  rank i = get_or ranks i 0

  abbrev label : ℕ → ℕ
  label i = get_or labels i 0

  label_in : (i : ℕ) → i < n → label i < length labels
  label_in i l = let s : label i < n = h.small i l in omega (arith, s, h.count)

  rank_at : (i : ℕ) → i < n → get_or (map rank labels) i 0 ≡ rank (label i)
  rank_at i l = let m : i < length labels = omega (arith, h.count) in get_or-map rank labels i 0 0 m

  small_at : (i : ℕ) → i < n → get_or (map rank labels) i 0 < n
  small_at i l =
      let s : rank (label i) < length labels = r.small (label i) (label_in i l) in
      omega (arith, rank_at i l, s, h.count)

  atom_here : (i : ℕ) → i < n → atom_at (sampled (map rank labels)) i ≡ whole (rank (label i))
  atom_here i l =
      let m : i < length (map rank labels) = omega (arith, h.count, length-map labels rank) in
      get_or-map whole (map rank labels) i 0 (whole 0) m ∙ ap whole (rank_at i l)

  met_at : (k : ℕ) (d : Lit) → k < length cube → IsTrue (lit_holds (sampled (map rank labels)) (get_or cube k d))
  met_at k d b =
      let l : Lit = get_or cube k d in
      let f = fits k d b in
      let compared : IsTrue (op_holds l.op (whole (rank (label l.left))) (whole (rank (label l.right)))) = numbers_compare l.op (rank (label l.left)) (rank (label l.right)) (strict k d b) (λ e. ap rank (h.joined k d b e)) (λ e same. apart k d b e (r.apart (label l.left) (label l.right) (label_in l.left f.0) (label_in l.right f.1) same)) (λ e. r.ordered k d b e) in
      subst (λ (a : Atom). IsTrue (op_holds l.op a (atom_at (sampled (map rank labels)) l.right))) (sym (atom_here l.left f.0)) (subst (λ (a : Atom). IsTrue (op_holds l.op (whole (rank (label l.left))) a)) (sym (atom_here l.right f.1)) compared)

  pub ranks_meet : (s : List ℕ) → s ≡ map rank labels → IsSampleOf n cube s
  ranks_meet s e =
      subst (IsSampleOf n cube) (sym e) (record {
        count = length-map labels rank ∙ h.count;
        small = All-from_get_or (λ i. i < n) (map rank labels) 0 (λ i l. small_at i (omega (arith, l, length-map labels rank, h.count)));
        met = list_all-from_AllPass (lit_holds (sampled (map rank labels))) cube met_at;
      })
