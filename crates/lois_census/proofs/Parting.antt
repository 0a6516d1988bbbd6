-- Cubes without another one, literal by literal.
use Rattle.std.proofs.Common.{◌≡◌, ℕ, ◌+◌, ◌<◌, Bool, true, false, not, ◌&&◌, ◌||◌, List, [], ◌∷◌, ◌++◌, length, get_or, take, refl, sym, ap, ◌∙◌, subst}
use Rattle.std.proofs.lemmas.Bool.{false≢true}
use Rattle.std.proofs.lemmas.List.{take_more}
use Rattle.std.proofs.lemmas.List.Elements.{All-nil, All-cons, All-append}
use Rattle.std.specs.Bool.{IsTrue}
use Rattle.std.specs.List.{All}
use Rattle.lois_base.specs.Atom.{Atom}
use Rattle.lois_base.specs.Truth.{lit_holds, cube_holds, holds}
use Rattle.lois_base.specs.declared.guards.Lit.{Lit}
use Rattle.lois_base.proofs.Both.{cubes_append, holds_append}
use Rattle.lois_census.specs.Left.{IsLeftOf}

-- ---- the parts of a cube outside of another one
rest_step : (c t l : Bool) → ((c && t) && l) ≡ (c && (t && l))
rest_step true t l = refl
rest_step false t l = refl

parts_step : (p c t l : Bool) → ((p || (c && not t)) || ((c && t) && not l)) ≡ (p || (c && not (t && l)))
parts_step true c t l = refl
parts_step false true true l = refl
parts_step false true false l = refl
parts_step false false t l = refl

literal_alone : (e : List Atom) (l : Lit) → holds e ((l ∷ []) ∷ []) ≡ lit_holds e l
literal_alone e l = go (lit_holds e l)
  where
    go : (b : Bool) → ((b && true) || false) ≡ b
    go true = refl
    go false = refl

last_literal : (e : List Atom) (k : List Lit) (l : Lit) → cube_holds e (k ++ l ∷ []) ≡ (cube_holds e k && lit_holds e l)
last_literal e k l = cubes_append e k (l ∷ []) ∙ ap (λ b. cube_holds e k && b) (go (lit_holds e l))
  where
    go : (b : Bool) → (b && true) ≡ b
    go true = refl
    go false = refl

-- where the literals k of the other cube are done: what remains holds where the cube does and they do, the parts where they don't
pub record PartsSoFar (cubes : List (List Lit)) (cube k : List Lit) (kept rest : List (List Lit)) : Type 0 where
  pub within : (e : List Atom) → holds e rest ≡ (cube_holds e cube && cube_holds e k)
  pub parts : (e : List Atom) → holds e kept ≡ (holds e cubes || (cube_holds e cube && not (cube_holds e k)))

module _ (cubes : List (List Lit)) (cube : List Lit) where
  pub parts_begin : (rest : List (List Lit)) → rest ≡ cube ∷ [] → PartsSoFar cubes cube [] cubes rest
  parts_begin rest is = record {
    within = λ e. ap (holds e) is ∙ alone (cube_holds e cube);
    parts = λ e. none (holds e cubes) (cube_holds e cube);
  }
    where
      alone : (b : Bool) → (b || false) ≡ (b && true)
      alone true = refl
      alone false = refl

      none : (p b : Bool) → p ≡ (p || (b && false))
      none true b = refl
      none false true = refl
      none false false = refl

  pub parts_more : (lits : List Lit) (i : ℕ) (d : Lit) (kept rest one outside more less : List (List Lit)) → PartsSoFar cubes cube (take i lits) kept rest → i < length lits → one ≡ (get_or lits i d ∷ []) ∷ [] →
      ((e : List Atom) → holds e outside ≡ (holds e rest && not (holds e one))) → more ≡ kept ++ outside → ((e : List Atom) → holds e less ≡ (holds e rest && holds e one)) → PartsSoFar cubes cube (take (i + 1) lits) more less
  parts_more lits i d kept rest one outside more less h lt alone out grown in' =
      let l = get_or lits i d in
      let k = take i lits in
      subst (λ z. PartsSoFar cubes cube z more less) (sym (take_more lits i d lt)) (record {
        within = λ e.
            in' e ∙ (ap (λ b. b && holds e one) (h.within e) ∙ (ap (λ b. (cube_holds e cube && cube_holds e k) && b) (ap (holds e) alone ∙ literal_alone e l) ∙
            (rest_step (cube_holds e cube) (cube_holds e k) (lit_holds e l) ∙ ap (λ b. cube_holds e cube && b) (sym (last_literal e k l)))));
        parts = λ e.
            ap (holds e) grown ∙ (holds_append e kept outside ∙ (ap (λ b. b || holds e outside) (h.parts e) ∙ (ap (λ b. (holds e cubes || (cube_holds e cube && not (cube_holds e k))) || b)
            (out e ∙ (ap (λ b. b && not (holds e one)) (h.within e) ∙ ap (λ b. (cube_holds e cube && cube_holds e k) && not b) (ap (holds e) alone ∙ literal_alone e l))) ∙
            (parts_step (holds e cubes) (cube_holds e cube) (cube_holds e k) (lit_holds e l) ∙ ap (λ b. holds e cubes || (cube_holds e cube && not b)) (sym (last_literal e k l))))));
      })

-- ---- what is true of all literals
pub record PartsKeep (P : Lit → Type 0) (cubes : List (List Lit)) (cube other : List Lit) (kept rest : List (List Lit)) : Type 0 where
  pub within : All P cube → All P other → All (All P) rest
  pub parts : All (All P) cubes → All P cube → All P other → All (All P) kept

module _ (P : Lit → Type 0) (cubes : List (List Lit)) (cube other : List Lit) where
  pub keep_begin : (rest : List (List Lit)) → rest ≡ cube ∷ [] → PartsKeep P cubes cube other cubes rest
  keep_begin rest is = record {
    within = λ h k. subst (All (All P)) (sym is) (All-cons (All P) cube [] h (All-nil (All P)));
    parts = λ g h k. g;
  }

  pub keep_more : (lits : List Lit) (i : ℕ) (d : Lit) (kept rest one outside more less : List (List Lit)) → PartsKeep P cubes cube other kept rest → lits ≡ other → i < length lits → one ≡ (get_or lits i d ∷ []) ∷ [] →
      (All (All P) rest → All (All P) one → All (All P) outside) → more ≡ kept ++ outside → (All (All P) rest → All (All P) one → All (All P) less) → PartsKeep P cubes cube other more less
  keep_more lits i d kept rest one outside more less h same lt alone out grown in' = record {
    within = λ g k. in' (h.within g k) (one_has k);
    parts = λ f g k.
        subst (All (All P)) (sym grown) (All-append (All P) kept outside (h.parts f g k) (out (h.within g k) (one_has k)));
  }
    where
      one_has : All P other → All (All P) one
      one_has k =
          subst (All (All P)) (sym alone) (All-cons (All P) (get_or lits i d ∷ []) [] (All-cons P (get_or lits i d) [] (subst (All P) (sym same) k i d lt) (All-nil P)) (All-nil (All P)))

-- ---- what is left of several cubes
pub last_cube : (e : List Atom) (g : List (List Lit)) (k : List Lit) → holds e (g ++ k ∷ []) ≡ (holds e g || cube_holds e k)
last_cube e g k = holds_append e g (k ∷ []) ∙ ap (λ b. holds e g || b) (alone (cube_holds e k))
  where
    alone : (b : Bool) → (b || false) ≡ b
    alone true = refl
    alone false = refl

-- one more cube c
pub left_then : (o p l c r : Bool) → IsLeftOf o p l → IsLeftOf o (l || c) r → IsLeftOf o (p || c) r
left_then o p l true r one two = record { within = λ h. ends p; gone = λ h f. two.gone (ends l) f }
  where
    ends : (b : Bool) → (b || true) ≡ true
    ends true = refl
    ends false = refl
left_then o true true false r one two = record { within = λ h. refl; gone = λ h f. two.gone refl f }
left_then o true false false r one two = record { within = λ h. refl; gone = λ h f. one.gone refl refl }
left_then o false true false r one two = record { within = λ h. one.within refl; gone = λ h f. absurd (false≢true h) }
left_then o false false false r one two =
    record { within = λ h. two.within h; gone = λ h f. absurd (false≢true h) }

-- what a cube of a constraint takes, the constraint takes
pub left_wider : (o t p r : Bool) → (IsTrue o → IsTrue t) → IsLeftOf o p r → IsLeftOf t p r
left_wider o t p r wider h = record { within = h.within; gone = λ b f. wider (h.gone b f) }
