-- The sides of a context, from what `split` answers.
use Rattle.std.proofs.Common.{◌≡◌, ◌+◌, ◌↔◌, Bool, true, false, not, cond, List, [], ◌∷◌, Option, Some, None, IfSome, IsTrue, refl, sym, ap, ◌∙◌, subst, arith}
use Rattle.std.specs.Bool.{IsFalse}
use Rattle.std.specs.List.{All}
use Rattle.lois_base.specs.Atom.{Atom}
use Rattle.lois_base.specs.Truth.{holds}
use Rattle.lois_base.specs.Validity.{HasBoundedWidths}
use Rattle.lois_base.specs.declared.guards.Lit.{Lit}
use Rattle.lois_context.specs.Choices.{IsAdmitted, IsAdmittedBy, AdmitsContext}
use Rattle.lois_context.specs.Sides.{IsSide}
use Rattle.lois_context.specs.Slots.{SlotD, store_at}
use Rattle.lois_context.specs.declared.contexts.Context.{Context}
use Rattle.lois_context.specs.declared.contexts.Split.{Split}
use Rattle.lois_context.specs.Counted.{admits, times}
use Rattle.lois_eval.specs.WellFormed.{IsWellFormedIn, CondIsWellFormed}
use Rattle.lois_interp.specs.Decided.{listed_context, IsTrueSide, IsDecided}
use Rattle.lois_context.proofs.Counts.{admits_yes, admits_is, times_append}
use Rattle.lois_meaning.specs.Expressions.{HasTruth}
use Rattle.lois_answers.specs.ResultsData.{LineD}
use Rattle.lois_script.specs.Tree.{CondD}
use Rattle.lois_interp.proofs.OneCase.{one_admits}

pub never : (x : List Atom) (y : Context) → (IsAdmitted x y → ⊥) → times x (y ∷ []) ≡ 0
never x y h = go (admits x y) refl
  where
    go : (b : Bool) → admits x y ≡ b → times x (y ∷ []) ≡ 0
    go true e = absurd (h (admits_is x y e))
    go false e = ap (λ b. 0 + cond b 1 0) e

option_once : (x : List Atom) (o : Option Context) → IsAdmittedBy x o → times x (listed_context o) ≡ 1
option_once x None h = absurd h
option_once x (Some y) h = one_admits x y h

option_never : (x : List Atom) (o : Option Context) → (IsAdmittedBy x o → ⊥) → times x (listed_context o) ≡ 0
option_never x None h = refl
option_never x (Some y) h = never x y h

module _ (c : CondD) (k : Context) (g : List (List Lit)) where
  truth_at : (b : Bool) (x : List Atom) → HasTruth c (store_at x k.store) (holds x g) → holds x g ≡ b → HasTruth c (store_at x k.store) b
  truth_at b x h e = subst (λ z. HasTruth c (store_at x k.store) z) e h

  side_true : (b : Bool) (test : List Atom → Bool) (o : Option Context) → IfSome o (IsSide k test) → ((x : List Atom) → IsAdmittedBy x o → IsAdmitted x k × HasTruth c (store_at x k.store) b) → ((o' : Bool) → IsWellFormedIn (CondIsWellFormed c) o' k → IfSome o (AdmitsContext o')) → IfSome o (IsTrueSide c b k)
  side_true b test None side choices operators = tt
  side_true b test (Some y) side choices operators = record {
    like = record { size = side.size; store = side.store; lines = side.lines };
    within = λ x adm. (choices x adm).0;
    truth = λ x adm. (choices x adm).1;
    operators = operators;
    widths = λ widths. record {
      store = subst (λ z. All (λ (s : SlotD). HasBoundedWidths s.term) z) (sym side.store) widths.store;
      lines = subst (λ z. All (λ (l : LineD). HasBoundedWidths l.term) z) (sym side.lines) widths.lines;
    };
  }

  pub decided_sides : (s : Split) → ((x : List Atom) → IsAdmitted x k → HasTruth c (store_at x k.store) (holds x g)) →
      IfSome s.yes (IsSide k (λ x. holds x g)) → IfSome s.no (IsSide k (λ x. not (holds x g))) →
      ((x : List Atom) → IsAdmittedBy x s.yes ↔ (IsAdmitted x k × IsTrue (holds x g))) →
      ((x : List Atom) → IsAdmittedBy x s.no ↔ (IsAdmitted x k × IsFalse (holds x g))) →
      ((o : Bool) → IsWellFormedIn (CondIsWellFormed c) o k → IfSome s.yes (AdmitsContext o)) → ((o : Bool) → IsWellFormedIn (CondIsWellFormed c) o k → IfSome s.no (AdmitsContext o)) → IsDecided c k s
  decided_sides s truth on_true on_false yes_choices no_choices yes_operators no_operators = record {
    decided = λ x adm. (holds x g, truth x adm);
    yes = side_true true (λ x. holds x g) s.yes on_true (λ x h. let p = (yes_choices x).0 h in (p.0, truth_at true x (truth x p.0) p.1)) yes_operators;
    no = side_true false (λ x. not (holds x g)) s.no on_false (λ x h. let p = (no_choices x).0 h in (p.0, truth_at false x (truth x p.0) p.1)) no_operators;
    choices = λ x. times_append x (listed_context s.yes) (listed_context s.no) ∙ count x (admits x k) refl (holds x g) refl;
  }
    where
      count : (x : List Atom) (p : Bool) → admits x k ≡ p → (q : Bool) → holds x g ≡ q → times x (listed_context s.yes) + times x (listed_context s.no) ≡ times x (k ∷ [])
      count x true e true f =
          let adm = admits_is x k e in
          let a = option_once x s.yes ((yes_choices x).1 (adm, f)) in
          let b = option_never x s.no (λ h. let r : holds x g ≡ false = ((no_choices x).0 h).1 in let bad : true ≡ false = sym f ∙ r in cc) in
          let d = one_admits x k adm in omega arith
      count x true e false f =
          let adm = admits_is x k e in
          let a = option_never x s.yes (λ h. let r : holds x g ≡ true = ((yes_choices x).0 h).1 in let bad : true ≡ false = sym r ∙ f in cc) in
          let b = option_once x s.no ((no_choices x).1 (adm, f)) in
          let d = one_admits x k adm in omega arith
      count x false e q f =
          let out : IsAdmitted x k → ⊥ = λ adm. let here : admits x k ≡ true = admits_yes x k adm in let bad : true ≡ false = sym here ∙ e in cc in
          let a = option_never x s.yes (λ h. out ((yes_choices x).0 h).0) in
          let b = option_never x s.no (λ h. out ((no_choices x).0 h).0) in
          let d = never x k out in omega arith
