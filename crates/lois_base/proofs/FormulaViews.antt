-- What a formula stands for, by its form, and the formulas of a list, one by one.
use Rattle.std.proofs.Common.{◌≡◌, ℕ, zero, suc, ◌<◌, ◌≤◌, List, [], ◌∷◌, length, get_or, map, ap, sym, subst, ◌∙◌, arith}
use Rattle.lois_base.specs.FormulaData.{FormulaD, lit, all, any, neg, exists, formulas_of, depth_of_formula, depth_of_formulas}
use Rattle.lois_base.specs.FormulaView.{view_step, views_step, view, views}
use Rattle.lois_base.specs.declared.guards.Lit.{Lit}
use Rattle.lois_base.specs.declared.logic.Formula.{Formula}
use Rattle.lois_base.specs.declared.logic.Formula.TheFolds.{fold_out-Formulas, fold-roll-Formula}
use Rattle.lois_base.specs.declared.logic.Formula.TheOpen.{Formula-F}
use Rattle.lois_base.specs.declared.logic.Formula.TheVariants.{Lit as at_literal, All, Any, Not, Exists, rolls-Lit, rolls-All, rolls-Any, rolls-Not, rolls-Exists}
use Rattle.lois_base.specs.declared.logic.Formulas.{Formulas}

pub views_is : (fs : Formulas) → views fs ≡ map view fs.items.items
views_is fs = fold_out-Formulas FormulaD _ view_step views_step fs

pub view_Lit : (l : Lit) → view (at_literal l) ≡ lit l
view_Lit l =
    ap view (sym (rolls-Lit l)) ∙ fold-roll-Formula FormulaD (List FormulaD) view_step views_step (Formula-F.Lit l)

pub view_All : (fs : Formulas) → view (All fs) ≡ all (formulas_of (views fs))
view_All fs =
    ap view (sym (rolls-All fs)) ∙ fold-roll-Formula FormulaD (List FormulaD) view_step views_step (Formula-F.All fs)

pub view_Any : (fs : Formulas) → view (Any fs) ≡ any (formulas_of (views fs))
view_Any fs =
    ap view (sym (rolls-Any fs)) ∙ fold-roll-Formula FormulaD (List FormulaD) view_step views_step (Formula-F.Any fs)

pub view_Not : (f : Formula) (b : _) (d : Formula) → f ≡ Not b → d ≡ b.value → view f ≡ neg (view d)
view_Not f b d e v =
    ap view e ∙ ap view (sym (rolls-Not b)) ∙ fold-roll-Formula FormulaD (List FormulaD) view_step views_step (Formula-F.Not b) ∙ ap (λ x. neg (view x)) (sym v)

pub view_Exists : (f : Formula) (b : _) (d : Formula) → f ≡ Exists b → d ≡ b.value → view f ≡ exists (view d)
view_Exists f b d e v =
    ap view e ∙ ap view (sym (rolls-Exists b)) ∙ fold-roll-Formula FormulaD (List FormulaD) view_step views_step (Formula-F.Exists b) ∙ ap (λ x. exists (view x)) (sym v)

depth_at : (fs : List Formula) (i : ℕ) (d : Formula) → i < length fs → depth_of_formula (view (get_or fs i d)) ≤ depth_of_formulas (formulas_of (map view fs))
depth_at [] i d l = omega arith
depth_at (f ∷ fs) zero d l = omega arith
depth_at (f ∷ fs) (suc i) d l = omega (arith, depth_at fs i d (omega arith))

-- an item of a slice of formulas is less deep than the formulas
pub formula_within : (fs : List Formula) (vs : List FormulaD) (i : ℕ) (f : Formula) → map view fs ≡ vs → i < length fs → f ≡ get_or fs i f → depth_of_formula (view f) ≤ depth_of_formulas (formulas_of vs)
formula_within fs vs i f m l e = subst (λ v. depth_of_formula (view f) ≤ depth_of_formulas (formulas_of v)) m (subst (λ u. depth_of_formula (view u) ≤ depth_of_formulas (formulas_of (map view fs))) (sym e) (depth_at fs i f l))
