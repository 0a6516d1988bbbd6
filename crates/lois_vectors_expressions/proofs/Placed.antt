-- Lists of expressions, conditions and bindings that stand, one by one.
use Rattle.std.proofs.Common.{◌≡◌, ℕ, zero, suc, ◌<◌, Bool, true, ◌⊎◌, inl, inr, List, [], ◌∷◌, ◌++◌, length, get_or, refl, sym, ap, subst, ◌∙◌, arith}
use Rattle.std.specs.Prelude.{IsTrue, bytes_eq}
use Rattle.lois_base.proofs.Validity.{constraint_admitted, term_admitted}
use Rattle.lois_context.specs.Choices.{AdmitsContext}
use Rattle.lois_context.specs.declared.contexts.Context.{Context}
use Rattle.lois_script.specs.Tree.{ExprD, BindingD, binding, CondD}
use Rattle.lois_script.specs.View.{exprs_of, bindings_of, conds_of}
use Rattle.lois_eval.specs.WellFormed.{IsNamed, IsUnnamed, IsWellFormed, AreWellFormed, BindersAreWellFormed, CondIsWellFormed, CondsAreWellFormed, names_behind_bindings, count_of}

pub all_one_more : (o : Bool) (xs : List (List ℕ)) (es : List ExprD) (e : ExprD) → AreWellFormed (exprs_of es) o xs → IsWellFormed e o xs → AreWellFormed (exprs_of (es ++ e ∷ [])) o xs
all_one_more o xs [] e all one = (one, tt)
all_one_more o xs (d ∷ es) e all one = (all.0, all_one_more o xs es e all.1 one)

pub conds_one_more : (o : Bool) (xs : List (List ℕ)) (cs : List CondD) (c : CondD) → CondsAreWellFormed (conds_of cs) o xs → CondIsWellFormed c o xs → CondsAreWellFormed (conds_of (cs ++ c ∷ [])) o xs
conds_one_more o xs [] c all one = (one, tt)
conds_one_more o xs (d ∷ cs) c all one = (all.0, conds_one_more o xs cs c all.1 one)

-- the bindings stand, and these are the names in scope behind them
pub record LeadTo (o : Bool) (xs : List (List ℕ)) (bs : List BindingD) (ys : List (List ℕ)) : Type 0 where
  pub stand : BindersAreWellFormed (bindings_of bs) o xs
  pub names : ys ≡ names_behind_bindings (bindings_of bs) xs

binders_one_more : (o : Bool) (xs : List (List ℕ)) (bs : List BindingD) (p : ℕ) (x : List ℕ) (e : ExprD) → BindersAreWellFormed (bindings_of bs) o xs → IsWellFormed e o (names_behind_bindings (bindings_of bs) xs) → IsUnnamed x (names_behind_bindings (bindings_of bs) xs) → BindersAreWellFormed (bindings_of (bs ++ binding p x e ∷ [])) o xs
binders_one_more o xs [] p x e all from new = (from, new, tt)
binders_one_more o xs (binding q y d ∷ bs) p x e all from new =
    (all.0, all.1, binders_one_more o (xs ++ y ∷ []) bs p x e all.2 from new)

names_one_more : (xs : List (List ℕ)) (bs : List BindingD) (p : ℕ) (x : List ℕ) (e : ExprD) → names_behind_bindings (bindings_of (bs ++ binding p x e ∷ [])) xs ≡ names_behind_bindings (bindings_of bs) xs ++ x ∷ []
names_one_more xs [] p x e = refl
names_one_more xs (binding q y d ∷ bs) p x e = names_one_more (xs ++ y ∷ []) bs p x e

pub leads_further : (o : Bool) (xs ys zs : List (List ℕ)) (bs : List BindingD) (p : ℕ) (x : List ℕ) (e : ExprD) → LeadTo o xs bs ys → IsWellFormed e o ys → IsUnnamed x ys → zs ≡ ys ++ x ∷ [] → LeadTo o xs (bs ++ binding p x e ∷ []) zs
leads_further o xs ys zs bs p x e h from new is = record {
  stand = binders_one_more o xs bs p x e h.stand (subst (IsWellFormed e o) h.names from) (subst (IsUnnamed x) h.names new);
  names = is ∙ (ap (λ z. z ++ x ∷ []) h.names ∙ sym (names_one_more xs bs p x e));
}

-- the name is that of the item at an index
pub named_at : (x : List ℕ) (ys : List (List ℕ)) (i : ℕ) (y : List ℕ) → i < length ys → y ≡ get_or ys i y → IsTrue (bytes_eq y x) → IsNamed x ys
named_at x [] i y below is same = absurd (omega (arith, below))
named_at x (z ∷ ys) zero y below is same = inl (subst (λ w. IsTrue (bytes_eq w x)) is same)
named_at x (z ∷ ys) (suc i) y below is same = inr (named_at x ys i y (omega (arith, below)) is same)

-- with an order every operator is admitted
pub context_admitted : (k : Context) → AdmitsContext true k
context_admitted k = record {
  «when» = constraint_admitted k.«when»;
  store = λ i d l. term_admitted (get_or k.store i d).term;
  lines = λ i d l. term_admitted (get_or k.lines i d).term;
}
