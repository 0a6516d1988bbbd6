-- What a formula's parts and its body force, it forces.
use Rattle.std.proofs.Common.{◌≡◌, ℕ, zero, suc, ◌<◌, List, [], ◌∷◌, length, get_or, map, sym, subst, arith}
use Rattle.lois_base.specs.Atom.{Atom}
use Rattle.lois_base.specs.FormulaData.{FormulaD, all, formulas_of}
use Rattle.lois_base.specs.FormulaTruth.{FormulaHolds, AllHold}
use Rattle.lois_base.specs.FormulaView.{view}
use Rattle.lois_base.specs.declared.logic.Formula.{Formula}
use Rattle.lois_elim.specs.Names.{Forces}

-- each part of those that all hold
holds_at : (u : List Atom) (items : List Formula) (i : ℕ) (d : Formula) → i < length items → AllHold u (formulas_of (map view items)) → FormulaHolds u (view (get_or items i d))
holds_at u [] i d l h = absurd (omega arith)
holds_at u (f ∷ items) zero d l h = h.0
holds_at u (f ∷ items) (suc i) d l h = holds_at u items i d (omega arith) h.1

pub all_force : (items : List Formula) (vs : List FormulaD) (i : ℕ) (f : Formula) (n m : ℕ) → map view items ≡ vs → i < length items → f ≡ get_or items i f → Forces (view f) n m → Forces (all (formulas_of vs)) n m
all_force items vs i f n m e l is forces u k h =
    forces u k (subst (λ g. FormulaHolds u (view g)) (sym is) (holds_at u items i f l (subst (λ fs. AllHold u (formulas_of fs)) (sym e) h)))
