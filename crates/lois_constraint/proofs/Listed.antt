-- Choices with an atom for each of the levels below a number.
use Rattle.std.proofs.Common.{◌≡◌, ℕ, zero, suc, ◌<◌, ◌||◌, List, [], ◌∷◌, length, refl, sym, ap, ◌∙◌, arith}
use Rattle.std.proofs.lemmas.List.Elements.{All-nil, All-cons, All-head, All-tail, All-weaker}
use Rattle.std.specs.Bool.{IsTrue}
use Rattle.std.specs.List.{list_all}
use Rattle.lois_base.specs.Atom.{Atom}
use Rattle.lois_base.specs.Fits.{LitFits, CubeFits, ConstraintFits}
use Rattle.lois_base.specs.Shift.{top_of_lits}
use Rattle.lois_base.specs.Theory.{IsSatisfiable}
use Rattle.lois_base.specs.Truth.{atom_at, op_holds, cube_holds, holds}
use Rattle.lois_base.specs.declared.guards.Lit.{Lit}
use Rattle.lois_constraint.specs.Entailment.{CubeIsSatisfiable, IsPruned}

pub listed : (ℕ → Atom) → ℕ → List Atom
listed atom zero = []
listed atom (suc n) = atom 0 ∷ listed (λ i. atom (suc i)) n

listed_length : (atom : ℕ → Atom) (n : ℕ) → length (listed atom n) ≡ n
unfolding listed
listed_length atom zero = refl
listed_length atom (suc n) = omega (arith, listed_length (λ i. atom (suc i)) n)

listed_at : (atom : ℕ → Atom) (n i : ℕ) → i < n → atom_at (listed atom n) i ≡ atom i
unfolding listed
listed_at atom zero i l = absurd (omega arith)
listed_at atom (suc n) zero l = refl
listed_at atom (suc n) (suc i) l = listed_at (λ j. atom (suc j)) n i (omega arith)

pub fits_top : (k : List Lit) → CubeFits (top_of_lits k) k
fits_top [] = All-nil (LitFits 0)
fits_top (l ∷ k) =
    let n : ℕ = top_of_lits (l ∷ k) in
    All-cons (LitFits n) l k (omega arith, omega arith) (All-weaker (LitFits (top_of_lits k)) (LitFits n) (λ m f. (omega (arith, f.0), omega (arith, f.1))) k (fits_top k))

pub listed_meets : (atom : ℕ → Atom) (n : ℕ) (k : List Lit) → CubeFits n k → list_all (λ l. op_holds l.op (atom l.left) (atom l.right)) k ≡ cube_holds (listed atom n) k
listed_meets atom n [] f = refl
listed_meets atom n (l ∷ k) f =
    let g : LitFits n l = All-head (LitFits n) l k f in
    rw (listed_at atom n l.left g.0, listed_at atom n l.right g.1, listed_meets atom n k (All-tail (LitFits n) l k f)) refl

-- a cube that can be met is met by a choice of as many atoms as it has levels
pub satisfiable : (n : ℕ) (k : List Lit) → CubeFits n k → CubeIsSatisfiable k → IsSatisfiable n k
satisfiable n k fits met =
    let atom : ℕ → Atom = atom_at met.0 in
    (listed atom n, listed_length atom n, sym (listed_meets atom n k fits) ∙ met.1)

-- so is a pruned constraint that isn't empty
pub met_at : (n : ℕ) (g : List (List Lit)) → ConstraintFits n g → IsPruned g → 0 < length g → (c : List Atom) × (length c ≡ n) × IsTrue (holds c g)
met_at n [] fits pruned l = absurd (omega arith)
met_at n (k ∷ g) fits pruned l =
    let first : IsSatisfiable n k = satisfiable n k (All-head (CubeFits n) k g fits) (All-head CubeIsSatisfiable k g pruned.met) in
    (first.0, first.1, ap (λ b. b || holds first.0 g) first.2)
