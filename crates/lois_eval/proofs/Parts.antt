-- Lists of expressions and of conditions, item by item.
use Rattle.std.proofs.Common.{◌≡◌, ℕ, zero, suc, ◌<◌, ◌≤◌, Bool, true, false, ◌&&◌, ◌||◌, inl, inr, List, [], ◌∷◌, ◌++◌, length, get_or, take, map, refl, sym, ap, subst, arith}
use Rattle.std.proofs.lemmas.List.Folds.{list_all-append, list_any-append}
use Rattle.std.specs.List.{list_all, list_any}
use Rattle.lois_base.specs.Atom.{Atom}
use Rattle.lois_base.specs.Data.{TermD, terms_of}
use Rattle.lois_base.specs.Fits.{Fits, PartsFit}
use Rattle.lois_base.specs.Validity.{AdmitsTerm, AdmitsParts, HasBoundedWidths, PartsHaveBoundedWidths}
use Rattle.lois_base.specs.Values.{PointValue, point}
use Rattle.lois_meaning.specs.Expressions.{Gives, GiveAll, HasTruth, HaveTruths}
use Rattle.lois_meaning.specs.Faults.{Fails, SomeFails, CondFails, SomeCondFails}
use Rattle.lois_meaning.specs.Kinds.{part_values}
use Rattle.lois_meaning.specs.Store.{NamedValues}
use Rattle.lois_script.specs.Tree.{ExprD, ExprsD, CondD, CondsD}
use Rattle.lois_script.specs.View.{tree, cond_tree, exprs_of, conds_of}
use Rattle.lois_answers.specs.declared.faults.FaultKind.{FaultKind}
use Rattle.lois_script.specs.declared.syntax.Cond.{Cond}
use Rattle.lois_script.specs.declared.syntax.Expr.{Expr}
use Rattle.lois_eval.specs.WellFormed.{IsWellFormed, AreWellFormed, CondIsWellFormed, CondsAreWellFormed, count_of}
use Rattle.lois_eval.specs.LeftToRight.{IsOfLeftmost, IsOfLeftmostOperand}
use Rattle.lois_eval.specs.Throughout.{IsFaultOf}
use Rattle.lois_context.specs.declared.contexts.Context.{Context}
use Rattle.lois_meaning.specs.declared.faults.Fault.{Fault}
use Rattle.lois_eval.proofs.LeftToRight.{AreGiven, first_nowhere, rest_given}
use Rattle.lois_eval.proofs.Weights.{weight, weight_of_exprs, weight_of_cond, weight_of_conds}

-- ---- expressions

-- an item of a list of expressions, with those before it
pub record IsExprOf (es before : ExprsD) (e : ExprD) : Type 0 where
  pub weight : weight e ≤ weight_of_exprs es
  pub stands : (o : Bool) (xs : List (List ℕ)) → AreWellFormed es o xs → IsWellFormed e o xs
  pub fails : (s : NamedValues) (vs : List PointValue) (at : ℕ) (k : FaultKind) → GiveAll before s vs → Fails e s at k → SomeFails es s at k
  pub leftmost : (o : Bool) (k : Context) (f : Fault) → AreGiven k before → IsFaultOf o k (Fails e) f × IsOfLeftmostOperand o k e f → IsOfLeftmost o k es f

expr_at : (es : List Expr) (i : ℕ) (d : Expr) → i < length es → IsExprOf (exprs_of (map tree es)) (exprs_of (map tree (take i es))) (tree (get_or es i d))
expr_at [] i d l = absurd (omega arith)
expr_at (e ∷ es) zero d l = record {
  weight = omega arith;
  stands = λ o xs h. h.0;
  fails = λ s vs at k given h. inl h;
  leftmost = λ o k f given h. inl h;
}
expr_at (e ∷ es) (suc i) d l =
    let rest = expr_at es i d (omega arith) in
    record {
      weight = omega (arith, rest.weight);
      stands = λ o xs h. rest.stands o xs h.1;
      fails = λ s vs at k (v, more, is, own, given) h. inr (v, own, rest.fails s more at k given h);
      leftmost = λ o k f given h. inr (first_nowhere k (tree e) (exprs_of (map tree (take i es))) given, rest.leftmost o k f (rest_given k (tree e) (exprs_of (map tree (take i es))) given) h);
    }

pub is_expr_of : (es : List Expr) (vs : List ExprD) (i : ℕ) (e : Expr) → map tree es ≡ vs → i < length es → e ≡ get_or es i e → IsExprOf (exprs_of vs) (exprs_of (map tree (take i es))) (tree e)
is_expr_of es vs i e m l is =
    let before = exprs_of (map tree (take i es)) in
    subst (λ z. IsExprOf (exprs_of z) before (tree e)) m (subst (λ z. IsExprOf (exprs_of (map tree es)) before (tree z)) (sym is) (expr_at es i e l))

pub give_all_more : (es : List ExprD) (e : ExprD) (s : NamedValues) (vs : List PointValue) (v : PointValue) → GiveAll (exprs_of es) s vs → Gives e s v → GiveAll (exprs_of (es ++ e ∷ [])) s (vs ++ v ∷ [])
give_all_more [] e s vs v h g = (v, [], ap (λ z. z ++ v ∷ []) h, g, refl)
give_all_more (d ∷ es) e s vs v (w, more, is, own, rest) g =
    (w, more ++ v ∷ [], ap (λ z. z ++ v ∷ []) is, own, give_all_more es e s more v rest g)

pub parts_at-append : (ts : List TermD) (t : TermD) (c : List Atom) → part_values (terms_of (ts ++ t ∷ [])) c ≡ part_values (terms_of ts) c ++ point t c ∷ []
parts_at-append [] t c = refl
parts_at-append (s ∷ ts) t c = ap (λ z. point s c ∷ z) (parts_at-append ts t c)

pub parts_fit-more : (n : ℕ) (ts : List TermD) (t : TermD) → PartsFit n (terms_of ts) → Fits n t → PartsFit n (terms_of (ts ++ t ∷ []))
parts_fit-more n [] t h f = (f, tt)
parts_fit-more n (s ∷ ts) t h f = (h.0, parts_fit-more n ts t h.1 f)

pub parts_admit-more : (o : Bool) (ts : List TermD) (t : TermD) → AdmitsParts o (terms_of ts) → AdmitsTerm o t → AdmitsParts o (terms_of (ts ++ t ∷ []))
parts_admit-more o [] t h f = (f, tt)
parts_admit-more o (s ∷ ts) t h f = (h.0, parts_admit-more o ts t h.1 f)

pub parts_widths-more : (ts : List TermD) (t : TermD) → PartsHaveBoundedWidths (terms_of ts) → HasBoundedWidths t → PartsHaveBoundedWidths (terms_of (ts ++ t ∷ []))
parts_widths-more [] t h f = (f, tt)
parts_widths-more (s ∷ ts) t h f = (h.0, parts_widths-more ts t h.1 f)

pub count_of-more : (es : List ExprD) → count_of (exprs_of es) ≡ length es
count_of-more [] = refl
count_of-more (e ∷ es) = ap suc (count_of-more es)

-- ---- conditions

-- a condition of a list, with those before it
pub record IsCondOf (cs before : CondsD) (c : CondD) : Type 0 where
  pub weight : weight_of_cond c ≤ weight_of_conds cs
  pub stands : (o : Bool) (xs : List (List ℕ)) → CondsAreWellFormed cs o xs → CondIsWellFormed c o xs
  pub fails : (s : NamedValues) (bs : List Bool) (at : ℕ) (k : FaultKind) → HaveTruths before s bs → CondFails c s at k → SomeCondFails cs s at k

cond_at : (cs : List Cond) (i : ℕ) (d : Cond) → i < length cs → IsCondOf (conds_of (map cond_tree cs)) (conds_of (map cond_tree (take i cs))) (cond_tree (get_or cs i d))
cond_at [] i d l = absurd (omega arith)
cond_at (c ∷ cs) zero d l = record {
  weight = omega arith;
  stands = λ o xs h. h.0;
  fails = λ s bs at k held h. inl h;
}
cond_at (c ∷ cs) (suc i) d l =
    let rest = cond_at cs i d (omega arith) in
    record {
      weight = omega (arith, rest.weight);
      stands = λ o xs h. rest.stands o xs h.1;
      fails = λ s bs at k (b, more, is, own, held) h. inr (b, own, rest.fails s more at k held h);
    }

pub is_cond_of : (cs : List Cond) (vs : List CondD) (i : ℕ) (c : Cond) → map cond_tree cs ≡ vs → i < length cs → c ≡ get_or cs i c → IsCondOf (conds_of vs) (conds_of (map cond_tree (take i cs))) (cond_tree c)
is_cond_of cs vs i c m l is =
    let before = conds_of (map cond_tree (take i cs)) in
    subst (λ z. IsCondOf (conds_of z) before (cond_tree c)) m (subst (λ z. IsCondOf (conds_of (map cond_tree cs)) before (cond_tree z)) (sym is) (cond_at cs i c l))

pub have_truths_more : (cs : List CondD) (c : CondD) (s : NamedValues) (bs : List Bool) (b : Bool) → HaveTruths (conds_of cs) s bs → HasTruth c s b → HaveTruths (conds_of (cs ++ c ∷ [])) s (bs ++ b ∷ [])
have_truths_more [] c s bs b h g = (b, [], ap (λ z. z ++ b ∷ []) h, g, refl)
have_truths_more (d ∷ cs) c s bs b (k, more, is, own, rest) g =
    (k, more ++ b ∷ [], ap (λ z. z ++ b ∷ []) is, own, have_truths_more cs c s more b rest g)

pub list_all-more : (bs : List Bool) (b : Bool) → list_all (λ k. k) (bs ++ b ∷ []) ≡ (list_all (λ k. k) bs && b)
list_all-more bs true = list_all-append (λ k. k) bs (true ∷ [])
list_all-more bs false = list_all-append (λ k. k) bs (false ∷ [])

pub list_any-more : (bs : List Bool) (b : Bool) → list_any (λ k. k) (bs ++ b ∷ []) ≡ (list_any (λ k. k) bs || b)
list_any-more bs true = list_any-append (λ k. k) bs (true ∷ [])
list_any-more bs false = list_any-append (λ k. k) bs (false ∷ [])
