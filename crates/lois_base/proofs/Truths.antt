-- Truth at two choices of atoms: literals that hold at both alike decide it, so equal atoms do, and atoms that stand alike.
use Rattle.std.proofs.Common.{◌≡◌, ℕ, inl, inr, Bool, true, not, List, [], ◌∷◌, ◌++◌, length, get_or, refl, ap, subst}
use Rattle.std.proofs.lemmas.List.{get_or_append_left}
use Rattle.std.proofs.lemmas.List.Elements.{All-head, All-tail, All-weaker}
use Rattle.std.specs.Bool.{IsTrue}
use Rattle.std.specs.List.{All}
use Rattle.lois_base.specs.Atom.{Atom, whole, equal}
use Rattle.lois_base.specs.Fits.{LitFits, CubeFits, ConstraintFits}
use Rattle.lois_base.specs.FormulaData.{FormulaD, lit, all, any, neg, exists, forall, FormulasD, no_formulas, formula}
use Rattle.lois_base.specs.FormulaTruth.{FormulaHolds, AllHold, AnyHolds}
use Rattle.lois_base.specs.Patterns.{AreAlike}
use Rattle.lois_base.specs.AtomMaps.{AreEqual}
use Rattle.lois_base.specs.Truth.{atom_at, op_holds, lit_holds, cube_holds, holds}
use Rattle.lois_base.specs.Validity.{AdmitsConstraint}
use Rattle.lois_base.specs.declared.guards.Lit.{Lit}
use Rattle.lois_base.specs.declared.guards.Op.{Op}
use Rattle.lois_base.specs.declared.guards.Op.TheVariants.{Eq, Ne, Lt, AtMost}
use Rattle.lois_base.proofs.Choices.{equal_for_at, equal_for_sym, equal_for_longer}
use Rattle.lois_base.proofs.Validity.{cube_admitted, constraint_admitted}
use Rattle.lois_base.proofs.Order.{equal_respects, below_respects}

-- a literal holds at both choices, or at neither
abbrev pub LitAgrees : List Atom → List Atom → Lit → Type 0
LitAgrees c d l = lit_holds c l ≡ lit_holds d l

pub cube_agrees : (c d : List Atom) (k : List Lit) → All (LitAgrees c d) k → cube_holds c k ≡ cube_holds d k
cube_agrees c d [] h = refl
cube_agrees c d (l ∷ k) h =
    rw (All-head (LitAgrees c d) l k h, cube_agrees c d k (All-tail (LitAgrees c d) l k h))

pub holds_agree : (c d : List Atom) (g : List (List Lit)) → All (All (LitAgrees c d)) g → holds c g ≡ holds d g
holds_agree c d [] h = refl
holds_agree c d (k ∷ g) h =
    rw (cube_agrees c d k (All-head (All (LitAgrees c d)) k g h), holds_agree c d g (All-tail (All (LitAgrees c d)) k g h))

-- ---- further atoms don't count
module _ (d e : List Atom) where
  lit_longer : (l : Lit) → LitFits (length d) l → LitAgrees (d ++ e) d l
  lit_longer l f =
      rw (get_or_append_left d e (whole 0) l.left f.0, get_or_append_left d e (whole 0) l.right f.1) refl

  pub holds_longer : (g : List (List Lit)) → ConstraintFits (length d) g → holds (d ++ e) g ≡ holds d g
  holds_longer g f = holds_agree (d ++ e) d g (All-weaker (CubeFits (length d)) (All (LitAgrees (d ++ e) d)) (λ k h. All-weaker (LitFits (length d)) (LitAgrees (d ++ e) d) lit_longer k h) g f)

-- ---- equal atoms
pub op_respects : (op : Op) (a b x y : Atom) → IsTrue (equal a b) → IsTrue (equal x y) → op_holds op a x ≡ op_holds op b y
op_respects Eq a b x y h k = equal_respects a b x y h k
op_respects Ne a b x y h k = ap not (equal_respects a b x y h k)
op_respects Lt a b x y h k = below_respects a b x y h k
op_respects AtMost a b x y h k = ap not (below_respects x y a b k h)

abbrev pub Each : ℕ → Type 0
Each i = Unit {0}

pub equal_at : (c d : List Atom) → AreEqual c d → (i : ℕ) → IsTrue (equal (atom_at c i) (atom_at d i))
equal_at c d h i = equal_for_at Each c d h i tt

pub lit_equal : (c d : List Atom) → AreEqual c d → (l : Lit) → LitAgrees c d l
lit_equal c d h l =
    op_respects l.op (atom_at c l.left) (atom_at d l.left) (atom_at c l.right) (atom_at d l.right) (equal_at c d h l.left) (equal_at c d h l.right)

pub holds_equal : (c d : List Atom) → AreEqual c d → (g : List (List Lit)) → holds c g ≡ holds d g
holds_equal c d h g = holds_agree c d g (λ i k l j x m. lit_equal c d h _)

mutual
  pub formula_equal : (f : FormulaD) (c d : List Atom) → AreEqual c d → FormulaHolds c f → FormulaHolds d f
  formula_equal (lit l) c d h g = subst IsTrue (lit_equal c d h l) g
  formula_equal (all fs) c d h g = all_equal fs c d h g
  formula_equal (any fs) c d h g = any_equal fs c d h g
  formula_equal (neg f) c d h g = λ k. g (formula_equal f d c (equal_for_sym Each c d h) k)
  formula_equal (exists f) c d h g = (g.0, formula_equal f (c ++ g.0 ∷ []) (d ++ g.0 ∷ []) (equal_for_longer Each c d (g.0 ∷ []) h) g.1)
  formula_equal (forall f) c d h g = λ a. formula_equal f (c ++ a ∷ []) (d ++ a ∷ []) (equal_for_longer Each c d (a ∷ []) h) (g a)

  all_equal : (fs : FormulasD) (c d : List Atom) → AreEqual c d → AllHold c fs → AllHold d fs
  all_equal no_formulas c d h g = tt
  all_equal (formula f fs) c d h g = (formula_equal f c d h g.0, all_equal fs c d h g.1)

  any_equal : (fs : FormulasD) (c d : List Atom) → AreEqual c d → AnyHolds c fs → AnyHolds d fs
  any_equal no_formulas c d h g = g
  any_equal (formula f fs) c d h (inl g) = inl (formula_equal f c d h g)
  any_equal (formula f fs) c d h (inr g) = inr (any_equal fs c d h g)

-- ---- atoms that stand alike
pub holds_alike : (ordered : Bool) (c d : List Atom) → AreAlike ordered c d → (g : List (List Lit)) → ConstraintFits (length c) g → AdmitsConstraint ordered g → holds c g ≡ holds d g
holds_alike ordered c d h g fits admits =
    holds_agree c d g (λ i k p j l q. let lit' : Lit = get_or (get_or g i k) j l in
    let f : LitFits (length c) lit' = fits i k p j l q in
    h.agree lit'.op (admits i k p j l q) lit'.left lit'.right f.0 f.1)

-- where atoms are ordered, every constraint is admitted
pub holds_ordered : (c d : List Atom) → AreAlike true c d → (g : List (List Lit)) → ConstraintFits (length c) g → holds c g ≡ holds d g
holds_ordered c d h g fits = holds_alike true c d h g fits (constraint_admitted g)

pub cube_ordered : (c d : List Atom) → AreAlike true c d → (k : List Lit) → CubeFits (length c) k → cube_holds c k ≡ cube_holds d k
cube_ordered c d h k fits =
    cube_agrees c d k (λ j l q. let f : LitFits (length c) (get_or k j l) = fits j l q in
    h.agree (get_or k j l).op (cube_admitted k j l q) (get_or k j l).left (get_or k j l).right f.0 f.1)
