-- Parts that are looked at one by one, and what is left of them.
use Rattle.std.proofs.Common.{◌≡◌, ℕ, ◌+◌, ◌<◌, ◌||◌, Bool, true, false, not, List, [], ◌∷◌, ◌++◌, length, get_or, take, Some, slice_get, inl, inr, refl, sym, ap, ◌∙◌}
use Rattle.std.specs.Bool.{IsTrue}
use Rattle.std.specs.List.{list_any}
use Rattle.std.proofs.lemmas.Bool.{or_cases, or_left, or_right}
use Rattle.std.proofs.lemmas.Option.{slice_get_within, get_or_from_slice_get}
use Rattle.lois_base.specs.Atom.{Atom}
use Rattle.lois_base.specs.Truth.{lit_holds, cube_holds, holds}
use Rattle.lois_base.specs.declared.guards.Lit.{Lit}
use Rattle.lois_base.proofs.Both.{holds_append}
use Rattle.lois_constraint.specs.Alternatives.{denial, alternatives}
use Rattle.lois_constraint.proofs.NegatedLiterals.{denial_of_holds}
use Rattle.lois_simplify.proofs.Plain.{part_holds}
use Rattle.lois_simplify.proofs.Shortened.{with_last, one_more_gained}

module _ (e : List Atom) where
  pub one_cube : (k : List Lit) → IsTrue (holds e (k ∷ [])) → IsTrue (cube_holds e k)
  one_cube k h = elim (or_cases (cube_holds e k) false h) [ inl i ↦ i | inr i ↦ absurd (cc) ]

  -- a constraint holds where one of its cubes does
  pub held_at : (g : List (List Lit)) (i : ℕ) (k : List Lit) → slice_get g i ≡ Some k → IsTrue (cube_holds e k) → IsTrue (holds e g)
  held_at g i k is h =
      part_holds e g i k (slice_get_within g i k is) (sym (get_or_from_slice_get g i k k is)) (or_left (cube_holds e k) false h)

  module _ (g : List (List Lit)) where
    pub in_outer : (r : List (List Lit)) → IsTrue (holds e g) → IsTrue (holds e (r ++ g))
    in_outer r h = holds_append e r g ∙ or_right (holds e r) (holds e g) h

    pub in_left : (r : List (List Lit)) → IsTrue (holds e r) → IsTrue (holds e (r ++ g))
    in_left r h = holds_append e r g ∙ or_left (holds e r) (holds e g) h

    -- parts that are left go on with what follows from them
    pub left_then : (p : List (List Lit)) (r : List (List Lit)) → (IsTrue (holds e p) → IsTrue (holds e (r ++ g))) → IsTrue (holds e (p ++ g)) → IsTrue (holds e (r ++ g))
    left_then p r next h =
        elim (or_cases (holds e p) (holds e g) (sym (holds_append e p g) ∙ h)) [ inl i ↦ next i | inr i ↦ in_outer r i ]

    pub left_before : (p q r : List (List Lit)) → r ≡ p ++ q → IsTrue (holds e (p ++ g)) → IsTrue (holds e (r ++ g))
    left_before p q r is =
        left_then p r (λ i. in_left r (ap (holds e) is ∙ holds_append e p q ∙ or_left (holds e p) (holds e q) i))

    pub left_behind : (p q r : List (List Lit)) → r ≡ p ++ q → IsTrue (holds e (q ++ g)) → IsTrue (holds e (r ++ g))
    left_behind p q r is =
        left_then q r (λ i. in_left r (ap (holds e) is ∙ holds_append e p q ∙ or_right (holds e p) (holds e q) i))

  -- a literal or what denies it holds
  pub one_holds : (l : Lit) → IsTrue (lit_holds e l || list_any (lit_holds e) (alternatives l))
  one_holds l = go (lit_holds e l) (lit_holds e (denial l)) (denial_of_holds e l.op l.left l.right)
    where
      go : (p q : Bool) → q ≡ not p → IsTrue (p || (q || false))
      go true q is = refl
      go false q is = or_left q false is

  -- ---- the halves of a part
  module _ (k : List Lit) (l : Lit) where
    -- the first half has the part where the literal holds
    pub first_half : (r : List Lit) (g : List (List Lit)) → r ≡ k ++ l ∷ [] → g ≡ r ∷ [] → IsTrue (cube_holds e k) → IsTrue (lit_holds e l || false) → IsTrue (holds e g)
    first_half r g is whole h one =
        ap (holds e) whole ∙ or_left (cube_holds e r) false (with_last e k r l is h (elim (or_cases (lit_holds e l) false one) [ inl i ↦ i | inr i ↦ absurd (cc) ]))

    -- one more half has it where one more of the other literals holds
    pub one_more_half : (ms : List Lit) (i : ℕ) (d : Lit) (r : List Lit) (g g' : List (List Lit)) → i < length ms → r ≡ k ++ get_or ms i d ∷ [] → g' ≡ g ++ r ∷ [] → (IsTrue (cube_holds e k) → IsTrue (lit_holds e l || list_any (lit_holds e) (take i ms)) → IsTrue (holds e g)) → IsTrue (cube_holds e k) → IsTrue (lit_holds e l || list_any (lit_holds e) (take (i + 1) ms)) → IsTrue (holds e g')
    one_more_half ms i d r g g' inside is whole before h some =
        let last : IsTrue (holds e g) → IsTrue (holds e g') = λ b. ap (holds e) whole ∙ holds_append e g (r ∷ []) ∙ or_left (holds e g) (holds e (r ∷ [])) b in
        elim (or_cases (lit_holds e l) (list_any (lit_holds e) (take (i + 1) ms)) some) [
          | inl j ↦ last (before h (or_left (lit_holds e l) (list_any (lit_holds e) (take i ms)) j))
          | inr j ↦
              one_more_gained e g' ms i d inside
              (λ b. last (before h (or_right (lit_holds e l) (list_any (lit_holds e) (take i ms)) b)))
              (λ b. ap (holds e) whole ∙ holds_append e g (r ∷ []) ∙ or_right (holds e g) (holds e (r ∷ [])) (or_left (cube_holds e r) false (with_last e k r (get_or ms i d) is h b)))
              j
        ]
