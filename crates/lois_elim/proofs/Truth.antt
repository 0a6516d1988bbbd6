-- What the answer for each kind of formula says.
use Rattle.std.proofs.Common.{◌≡◌, ℕ, suc, Bool, true, false, not, ◌&&◌, ◌↔◌, List, [], ◌∷◌, ◌++◌, length, length-append, refl, sym, ap, subst, ◌∙◌, arith}
use Rattle.std.specs.Bool.{IsTrue}
use Rattle.std.specs.List.{All}
use Rattle.std.proofs.lemmas.List.Elements.{All-nil, All-cons}
use Rattle.lois_base.specs.Atom.{Atom}
use Rattle.lois_base.specs.FormulaData.{FormulaD, neg, exists, forall}
use Rattle.lois_base.specs.FormulaTruth.{FormulaHolds}
use Rattle.lois_base.specs.Truth.{holds}
use Rattle.lois_base.specs.declared.guards.Lit.{Lit}
use Rattle.lois_base.proofs.Connectives.{both_true, not_true}
use Rattle.lois_elim.specs.Bound.{HoldsForSome, HoldsForEach}
use Rattle.lois_elim.specs.Names.{named_atoms, AreNames, AgreesUnder, AgreesUnderWithBoth}
use Rattle.lois_elim.proofs.Naming.{named_new}

not_refuted : (a : Bool) → (IsTrue (not a) → ⊥) → IsTrue a
not_refuted true h = refl
not_refuted false h = absurd (h refl)

pub and_nothing : (a : Bool) → (a && true) ≡ a
and_nothing true = refl
and_nothing false = refl

-- what one item obeys, a list of it alone obeys
pub alone_obeys : {X : Type 0} (P : X → Type 0) (x : X) (xs : List X) → xs ≡ x ∷ [] → P x → All P xs
alone_obeys P x xs e h = subst (All P) (sym e) (All-cons P x [] h (All-nil P))

longer : (n m : ℕ) (c : List Atom) (a : Atom) → m ≡ suc n → length c ≡ n → length (c ++ a ∷ []) ≡ m
longer n m c a e k = omega (arith, length-append c (a ∷ []))

-- a formula under its names
module _ (n free : ℕ) (bound : List ℕ) where
  pub neg_agrees : (f : FormulaD) (g r : List (List Lit)) → AgreesUnder n free bound f g → ((c : List Atom) → holds c r ≡ not (holds c g)) → AgreesUnder n free bound (neg f) r
  neg_agrees f g r agrees negated c k = (
    λ p q. (not_true (holds c g)).0 (sym (negated c) ∙ p) ((agrees c k).1 q),
    λ p. negated c ∙ (not_true (holds c g)).1 (λ q. p ((agrees c k).0 q)),
  )

  -- a quantifier that binds a new level
  module _ (m : ℕ) (more : List ℕ) (f : FormulaD) (g r : List (List Lit)) (names : AreNames n free bound) (e : m ≡ suc n) (is : more ≡ bound ++ n ∷ []) (agrees : AgreesUnder m free more f g) where
    agrees_there : (c : List Atom) (a : Atom) → length c ≡ n → IsTrue (holds (c ++ a ∷ []) g) ↔ FormulaHolds (named_atoms free bound c ++ a ∷ []) f
    agrees_there c a k =
        subst (λ u. IsTrue (holds (c ++ a ∷ []) g) ↔ FormulaHolds u f) (ap (λ b. named_atoms free b (c ++ a ∷ [])) is ∙ named_new n free bound c a names k) (agrees (c ++ a ∷ []) (longer n m c a e k))

    pub exists_agrees : HoldsForSome n g r → AgreesUnder n free bound (exists f) r
    exists_agrees some c k = (
      λ p. let x = (some c k).0 p in (x.0, (agrees_there c x.0 k).0 x.1),
      λ p. (some c k).1 (p.0, (agrees_there c p.0 k).1 p.1),
    )

    pub forall_agrees : HoldsForEach n g r → AgreesUnder n free bound (forall f) r
    forall_agrees each c k =
        (λ p a. (agrees_there c a k).0 ((each c k).0 p a), λ p. (each c k).1 (λ a. (agrees_there c a k).1 (p a)))

-- no atom refutes it exactly where it holds for each
pub each_of_some : (n : ℕ) (g refutes found r : List (List Lit)) → ((c : List Atom) → holds c refutes ≡ not (holds c g)) → HoldsForSome n refutes found → ((c : List Atom) → holds c r ≡ not (holds c found)) → HoldsForEach n g r
each_of_some n g refutes found r denied some negated c k = (
  λ p a. not_refuted (holds (c ++ a ∷ []) g) (λ q. (not_true (holds c found)).0 (sym (negated c) ∙ p) ((some c k).1 (a, denied (c ++ a ∷ []) ∙ q))),
  λ p. negated c ∙ (not_true (holds c found)).1 (λ q. let x = (some c k).0 q in (not_true (holds (c ++ x.0 ∷ []) g)).0 (sym (denied (c ++ x.0 ∷ [])) ∙ x.1) (p x.0)),
)

-- a formula, or its negation, beside what a constraint says
module _ (n free : ℕ) (bound : List ℕ) (f : FormulaD) (g part r : List (List Lit)) (agrees : AgreesUnder n free bound f part) where
  pub met_formula : ((c : List Atom) → holds c r ≡ (holds c g && holds c part)) → AgreesUnderWithBoth n free bound g f r
  met_formula met c k = (
    λ p. let both = (both_true (holds c g) (holds c part)).0 (sym (met c) ∙ p) in (both.0, (agrees c k).0 both.1),
    λ h. met c ∙ (both_true (holds c g) (holds c part)).1 (h.0, (agrees c k).1 h.1),
  )

  pub met_negation : ((c : List Atom) → holds c r ≡ (holds c g && not (holds c part))) → AgreesUnderWithBoth n free bound g (neg f) r
  met_negation met c k = (
    λ p. let both = (both_true (holds c g) (not (holds c part))).0 (sym (met c) ∙ p) in
        (both.0, λ h. (not_true (holds c part)).0 both.1 ((agrees c k).1 h)),
    λ h. met c ∙ (both_true (holds c g) (not (holds c part))).1 (h.0, (not_true (holds c part)).1 (λ q. h.1 ((agrees c k).0 q))),
  )
