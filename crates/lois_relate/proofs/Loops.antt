-- What holds as a loop goes over parts that are all to hold, or of which one is to hold.
use Rattle.std.proofs.Common.{◌≡◌, ℕ, Bool, ◌⊎◌, inl, inr, ◌↔◌, List, length, sym, subst}
use Rattle.lois_base.specs.Atom.{Atom}
use Rattle.lois_base.specs.FormulaData.{FormulaD, all, any, no_formulas, FormulaFits}
use Rattle.lois_base.specs.FormulaTruth.{FormulaHolds}
use Rattle.lois_base.specs.FormulaOperators.{AdmitsFormula}
use Rattle.lois_relate.specs.Built.{Defines, IsBoth, IsEither}

-- f says what the parts before the rest say
pub record AllSoFar (n : ℕ) (Rest Whole : List Atom → Type 0) (A : Bool → Type 0) (f : FormulaD) : Type 0 where
  pub truth : (c : List Atom) → length c ≡ n → (FormulaHolds c f × Rest c) ↔ Whole c
  pub levels : FormulaFits n f
  pub operators : (o : Bool) → A o → AdmitsFormula o f

pub record AnySoFar (n : ℕ) (Rest Whole : List Atom → Type 0) (A : Bool → Type 0) (f : FormulaD) : Type 0 where
  pub truth : (c : List Atom) → length c ≡ n → (FormulaHolds c f ⊎ Rest c) ↔ Whole c
  pub levels : FormulaFits n f
  pub operators : (o : Bool) → A o → AdmitsFormula o f

module _ (n : ℕ) (Rest Whole : List Atom → Type 0) (A : Bool → Type 0) where
  pub all_go_on : (Q Rest' : List Atom → Type 0) (A' : Bool → Type 0) (f g r : FormulaD) → AllSoFar n Rest Whole A f → ((c : List Atom) → Rest c ↔ (Q c × Rest' c)) → Defines n Q A' g → ((o : Bool) → A o → A' o) → IsBoth f g r → AllSoFar n Rest' Whole A r
  all_go_on Q Rest' A' f g r so_far split says admits both = record {
    truth = λ c k. (
      λ h. let x = (both.truth c).0 h.0 in (so_far.truth c k).0 (x.0, (split c).1 ((says.truth c k).0 x.1, h.1)),
      λ h. let x = (so_far.truth c k).1 h in
          let y = (split c).0 x.1 in ((both.truth c).1 (x.0, (says.truth c k).1 y.0), y.1),
    );
    levels = both.levels n so_far.levels says.levels;
    operators = λ o h. both.operators o (so_far.operators o h) (says.operators o (admits o h));
  }

  pub all_end : (f : FormulaD) → ((c : List Atom) → Rest c) → AllSoFar n Rest Whole A f → Defines n Whole A f
  all_end f rest so_far = record {
    truth = λ c k. (λ h. (so_far.truth c k).0 (h, rest c), λ h. ((so_far.truth c k).1 h).0);
    levels = so_far.levels;
    operators = so_far.operators;
  }

  -- what is false already stays false
  pub all_cut : (f : FormulaD) → f ≡ any no_formulas → AllSoFar n Rest Whole A f → Defines n Whole A f
  all_cut f e so_far = record {
    truth = λ c k. (λ h. absurd (subst (FormulaHolds c) e h), λ h. ((so_far.truth c k).1 h).0);
    levels = so_far.levels;
    operators = so_far.operators;
  }

  pub any_go_on : (Q Rest' : List Atom → Type 0) (A' : Bool → Type 0) (f g r : FormulaD) → AnySoFar n Rest Whole A f → ((c : List Atom) → Rest c ↔ (Q c ⊎ Rest' c)) → Defines n Q A' g → ((o : Bool) → A o → A' o) → IsEither f g r → AnySoFar n Rest' Whole A r
  any_go_on Q Rest' A' f g r so_far split says admits either = record {
    truth = λ c k. (there c k, λ h. back c k ((so_far.truth c k).1 h));
    levels = either.levels n so_far.levels says.levels;
    operators = λ o h. either.operators o (so_far.operators o h) (says.operators o (admits o h));
  }
    where
      there : (c : List Atom) → length c ≡ n → FormulaHolds c r ⊎ Rest' c → Whole c
      there c k (inl h) = elim ((either.truth c).0 h) [
        | inl p ↦ (so_far.truth c k).0 (inl p)
        | inr p ↦ (so_far.truth c k).0 (inr ((split c).1 (inl ((says.truth c k).0 p))))
      ]
      there c k (inr h) = (so_far.truth c k).0 (inr ((split c).1 (inr h)))

      back : (c : List Atom) → length c ≡ n → FormulaHolds c f ⊎ Rest c → FormulaHolds c r ⊎ Rest' c
      back c k (inl h) = inl ((either.truth c).1 (inl h))
      back c k (inr h) = elim ((split c).0 h) [
        | inl p ↦ inl ((either.truth c).1 (inr ((says.truth c k).1 p)))
        | inr p ↦ inr p
      ]

  -- what is true already stays true
  pub any_cut : (f : FormulaD) → f ≡ all no_formulas → AnySoFar n Rest Whole A f → Defines n Whole A f
  any_cut f e so_far = record {
    truth = λ c k. (λ h. (so_far.truth c k).0 (inl h), λ h. subst (FormulaHolds c) (sym e) tt);
    levels = so_far.levels;
    operators = so_far.operators;
  }

  -- a part that holds nowhere is passed over
  pub any_pass : (Q Rest' : List Atom → Type 0) (f : FormulaD) → AnySoFar n Rest Whole A f → ((c : List Atom) → Rest c ↔ (Q c ⊎ Rest' c)) → ((c : List Atom) → Q c → ⊥) → AnySoFar n Rest' Whole A f
  any_pass Q Rest' f so_far split never = record {
    truth = λ c k. (
      λ h. (so_far.truth c k).0 (elim h [ inl p ↦ inl p | inr p ↦ inr ((split c).1 (inr p)) ]),
      λ h. elim ((so_far.truth c k).1 h) [
        | inl p ↦ inl p
        | inr p ↦ elim ((split c).0 p) [ inl q ↦ absurd (never c q) | inr q ↦ inr q ]
      ],
    );
    levels = so_far.levels;
    operators = so_far.operators;
  }

  pub any_end : (f : FormulaD) → ((c : List Atom) → Rest c → ⊥) → AnySoFar n Rest Whole A f → Defines n Whole A f
  any_end f rest so_far = record {
    truth = λ c k. (
      λ h. (so_far.truth c k).0 (inl h),
      λ h. elim ((so_far.truth c k).1 h) [ inl p ↦ p | inr p ↦ absurd (rest c p) ],
    );
    levels = so_far.levels;
    operators = so_far.operators;
  }
