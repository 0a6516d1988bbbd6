-- Where no equation has a level, its bounds say that some atom meets the cube.
use Rattle.std.proofs.Common.{◌≡◌, ℕ, ◌+◌, ◌<◌, Bool, true, false, not, ◌&&◌, ◌||◌, ◌==◌, if◌then◌else◌, List, [], ◌∷◌, ◌++◌, length, map, arith, refl, sym, ap, ◌∙◌, subst, eq-eqb}
use Rattle.std.proofs.lemmas.Bool.{cases_Bool, and_from, and_parts, ne_eqb, not-true, or_parts}
use Rattle.std.proofs.lemmas.List.Elements.{recursion_from_All}
use Rattle.std.specs.Bool.{IsTrue, IsFalse}
use Rattle.std.specs.List.{All, AllByRecursion, filter, list_all, list_any}
use mathlib.Core.Logic.{◌⊎◌, inl, inr}
use Rattle.lois_base.specs.Atom.{Atom, equal, below}
use Rattle.lois_base.specs.Fits.{LitFits, CubeFits}
use Rattle.lois_base.specs.Truth.{atom_at, op_holds, lit_holds, cube_holds}
use Rattle.lois_base.specs.declared.guards.Lit.{Lit}
use Rattle.lois_base.specs.declared.guards.Op.{Op}
use Rattle.lois_base.specs.declared.guards.Op.TheVariants.{Eq, Ne, Lt, AtMost}
use Rattle.lois_base.proofs.Gaps.{IsBelow, IsAbove, one_new_between}
use Rattle.lois_base.proofs.Order.{below_irrefl, equal_in, equal_refl, equal_sym}
use Rattle.lois_base.proofs.Truths.{op_respects}
use Rattle.lois_order.specs.Bounds.{JoinsBounds, is_step, is_weak, is_lower, is_upper, is_weak_lower, parts, chained, taken_as, is_below, remains}
use Rattle.lois_order.specs.Cubes.{is_eq, is_apart, is_absurd}
use Rattle.lois_order.specs.Equations.{equates}
use Rattle.lois_order.proofs.Choices.{Last, Earlier, place}
use Rattle.lois_order.proofs.Each.{weaker, each_out, each_in, filtered_in, filtered_out}
use Rattle.lois_order.proofs.Picked.{Picked, picked}
use Rattle.lois_order.proofs.Projects.{Projects}
use Rattle.lois_order.proofs.Steps.{below_steps, strict_below, two_steps}

abbrev other : ℕ → Lit → ℕ
other x l = if l.left == x then l.right else l.left

not_equal : (a b : Atom) → equal b a ≡ false → not (equal a b) ≡ true
not_equal a b n = elim (cases_Bool (equal a b)) [ inl y ↦ absurd (let e = equal_sym a b y in cc) | inr m ↦ rw m ]

-- a literal holds where the new atom meets its bounds
record Meets (c : List Atom) (a : Atom) (x : ℕ) (l : Lit) : Type 0 where
  lower : is_lower x l ≡ true → op_holds l.op (atom_at c l.left) a ≡ true
  upper : is_upper x l ≡ true → op_holds l.op a (atom_at c l.right) ≡ true
  apart : parts x l ≡ true → equal a (atom_at c (other x l)) ≡ false
  rest : ((l.left == x) || (l.right == x)) ≡ false → lit_holds c l ≡ true

module _ (c : List Atom) (a : Atom) (x : ℕ) (size : length c ≡ x) where
  pub lower_at : (o : Op) (i j : ℕ) → i < x + 1 → j < x + 1 → (is_step o && (j == x) && not (i == x)) ≡ true → op_holds o (atom_at (c ++ a ∷ []) i) (atom_at (c ++ a ∷ []) j) ≡ op_holds o (atom_at c i) a
  lower_at o i j k l h =
      let first = and_parts (is_step o && (j == x)) (not (i == x)) h in
      let last = and_parts (is_step o) (j == x) first.0 in
      go (place c a x i size k) (place c a x j size l) last.1 (not-true (i == x) first.1)
    where
      go : Last c a x i ⊎ Earlier c a x i → Last c a x j ⊎ Earlier c a x j → (j == x) ≡ true → (i == x) ≡ false → op_holds o (atom_at (c ++ a ∷ []) i) (atom_at (c ++ a ∷ []) j) ≡ op_holds o (atom_at c i) a
      go (inl p) q e n = let is : (i == x) ≡ true = p.1 in absurd (cc)
      go (inr p) (inl q) e n = rw (p.2, q.2) refl
      go (inr p) (inr q) e n = let is : (j == x) ≡ false = q.1 in absurd (cc)

  upper_at : (o : Op) (i j : ℕ) → i < x + 1 → j < x + 1 → (is_step o && (i == x) && not (j == x)) ≡ true → op_holds o (atom_at (c ++ a ∷ []) i) (atom_at (c ++ a ∷ []) j) ≡ op_holds o a (atom_at c j)
  upper_at o i j k l h =
      let first = and_parts (is_step o && (i == x)) (not (j == x)) h in
      let last = and_parts (is_step o) (i == x) first.0 in
      go (place c a x i size k) (place c a x j size l) last.1 (not-true (j == x) first.1)
    where
      go : Last c a x i ⊎ Earlier c a x i → Last c a x j ⊎ Earlier c a x j → (i == x) ≡ true → (j == x) ≡ false → op_holds o (atom_at (c ++ a ∷ []) i) (atom_at (c ++ a ∷ []) j) ≡ op_holds o a (atom_at c j)
      go (inl p) (inl q) e n = let is : (j == x) ≡ true = q.1 in absurd (cc)
      go (inl p) (inr q) e n = rw (p.2, q.2) refl
      go (inr p) q e n = let is : (i == x) ≡ false = p.1 in absurd (cc)

  rest_at : (o : Op) (i j : ℕ) → i < x + 1 → j < x + 1 → ((i == x) || (j == x)) ≡ false → op_holds o (atom_at (c ++ a ∷ []) i) (atom_at (c ++ a ∷ []) j) ≡ op_holds o (atom_at c i) (atom_at c j)
  rest_at o i j k l h = go (place c a x i size k) (place c a x j size l)
    where
      go : Last c a x i ⊎ Earlier c a x i → Last c a x j ⊎ Earlier c a x j → op_holds o (atom_at (c ++ a ∷ []) i) (atom_at (c ++ a ∷ []) j) ≡ op_holds o (atom_at c i) (atom_at c j)
      go (inl p) q = absurd (grind arith)
      go (inr p) (inl q) = absurd (grind arith)
      go (inr p) (inr q) = cc

  lit_met : (o : Op) (i j : ℕ) → i < x + 1 → j < x + 1 → ((i == j) && is_apart o) ≡ false → (is_eq o && not (i == j) && ((i == x) || (j == x))) ≡ false → Meets c a x (record { op = o; left = i; right = j }) → op_holds o (atom_at (c ++ a ∷ []) i) (atom_at (c ++ a ∷ []) j) ≡ true
  lit_met o i j k l na ne m = go o (place c a x i size k) (place c a x j size l) na ne m
    where
      go : (o : Op) → Last c a x i ⊎ Earlier c a x i → Last c a x j ⊎ Earlier c a x j → ((i == j) && is_apart o) ≡ false → (is_eq o && not (i == j) && ((i == x) || (j == x))) ≡ false → Meets c a x (record { op = o; left = i; right = j }) → op_holds o (atom_at (c ++ a ∷ []) i) (atom_at (c ++ a ∷ []) j) ≡ true
      go o (inr p) (inr q) na ne m = rw (p.2, q.2) (m.rest (rw (p.1, q.1) refl))
      go Eq (inl p) (inl q) na ne m = rw (p.2, q.2) (equal_refl a)
      go Eq (inl p) (inr q) na ne m = absurd (let n : (i == j) ≡ false = ne_eqb i j (omega arith) in let z = rw (n, p.1) at ne in cc)
      go Eq (inr p) (inl q) na ne m = absurd (let n : (i == j) ≡ false = ne_eqb i j (omega arith) in let z = rw (n, p.1, q.1) at ne in cc)
      go Ne (inl p) (inl q) na ne m = absurd (let n : (i == j) ≡ true = eq-eqb i j (omega arith) in let z = rw n at na in cc)
      go Ne (inl p) (inr q) na ne m = rw (p.2, q.2) (let n : equal a (atom_at c j) ≡ false = rw p.1 at (m.apart (rw p.1 refl)) in rw n)
      go Ne (inr p) (inl q) na ne m = rw (p.2, q.2) (not_equal (atom_at c i) a (rw p.1 at (m.apart (rw (p.1, q.1) refl))))
      go Lt (inl p) (inl q) na ne m = absurd (let n : (i == j) ≡ true = eq-eqb i j (omega arith) in let z = rw n at na in cc)
      go Lt (inl p) (inr q) na ne m = rw (p.2, q.2) (m.upper (rw (p.1, q.1) refl))
      go Lt (inr p) (inl q) na ne m = rw (p.2, q.2) (m.lower (rw (p.1, q.1) refl))
      go AtMost (inl p) (inl q) na ne m = rw (p.2, q.2) (ap not (below_irrefl a))
      go AtMost (inl p) (inr q) na ne m = rw (p.2, q.2) (m.upper (rw (p.1, q.1) refl))
      go AtMost (inr p) (inl q) na ne m = rw (p.2, q.2) (m.lower (rw (p.1, q.1) refl))

  -- what remains of the literals, and what an atom at x adds
  cube_met : (ls : List Lit) → AllByRecursion (LitFits (x + 1)) ls → list_any is_absurd ls ≡ false → list_any (equates x) ls ≡ false → AllByRecursion (Meets c a x) ls → cube_holds (c ++ a ∷ []) ls ≡ true
  cube_met [] f na ne m = refl
  cube_met (l ∷ ls) f na ne m =
      let n = or_parts (is_absurd l) (list_any is_absurd ls) na in
      let e = or_parts (equates x l) (list_any (equates x) ls) ne in
      and_from (lit_holds (c ++ a ∷ []) l) (cube_holds (c ++ a ∷ []) ls) (lit_met l.op l.left l.right f.0.0 f.0.1 n.0 e.0 m.0) (cube_met ls f.1 n.1 e.1 m.1)

  -- the other way round, where the lower bounds are below the atom if they are taken as strict ones
  abbrev pub IsStrictly : Bool → Lit → Type 0
  IsStrictly strict l = strict ≡ true → is_lower x l ≡ true → below (atom_at c l.left) a ≡ true

  step_up : (o : Op) (p q : Bool) → (is_step o && p && q) ≡ true → is_step o ≡ true
  step_up o p q h = (and_parts (is_step o) p (and_parts (is_step o && p) q h).0).0

  met_below : (strict : Bool) (u : Lit) → LitFits (x + 1) u → is_upper x u ≡ true → lit_holds (c ++ a ∷ []) u ≡ true → (ls : List Lit) → AllByRecursion (LitFits (x + 1)) ls → AllByRecursion (λ l. lit_holds (c ++ a ∷ []) l ≡ true) ls → AllByRecursion (IsStrictly strict) ls → AllByRecursion (λ l. is_below c x (taken_as strict u.op) u.right l ≡ true) ls
  met_below strict u g up h [] f k s = tt
  met_below strict u g up h (l ∷ ls) f k s = (one (cases_Bool (is_lower x l)), met_below strict u g up h ls f.1 k.1 s.1)
    where
      one : (is_lower x l ≡ true) ⊎ (is_lower x l ≡ false) → is_below c x (taken_as strict u.op) u.right l ≡ true
      one (inl y) =
          let lo : op_holds l.op (atom_at c l.left) a ≡ true = sym (lower_at l.op l.left l.right f.0.0 f.0.1 y) ∙ k.0 in
          let hi : op_holds u.op a (atom_at c u.right) ≡ true = sym (upper_at u.op u.left u.right g.0 g.1 up) ∙ h in
          rw y (two_steps strict l.op u.op (atom_at c l.left) a (atom_at c u.right) (step_up l.op (l.right == x) (not (l.left == x)) y) (step_up u.op (u.left == x) (not (u.right == x)) up) lo hi (λ t. s.0 t y))
      one (inr n) = rw n refl

  pub met_remains : (strict : Bool) (cube ls : List Lit) → AllByRecursion (LitFits (x + 1)) cube → AllByRecursion (λ l. lit_holds (c ++ a ∷ []) l ≡ true) cube → AllByRecursion (IsStrictly strict) cube → AllByRecursion (LitFits (x + 1)) ls → AllByRecursion (λ l. lit_holds (c ++ a ∷ []) l ≡ true) ls → AllByRecursion (λ l. remains c x strict cube l ≡ true) ls
  met_remains strict cube [] f h s g k = tt
  met_remains strict cube (l ∷ ls) f h s g k = (one (cases_Bool (is_upper x l)) (cases_Bool ((l.left == x) || (l.right == x))), met_remains strict cube ls f h s g.1 k.1)
    where
      one : (is_upper x l ≡ true) ⊎ (is_upper x l ≡ false) → (((l.left == x) || (l.right == x)) ≡ true) ⊎ (((l.left == x) || (l.right == x)) ≡ false) → remains c x strict cube l ≡ true
      one (inl y) t =
          rw y (each_in (is_below c x (taken_as strict l.op) l.right) cube (met_below strict l g.0 y k.0 cube f h s))
      one (inr n) (inl t) = rw (n, t) refl
      one (inr n) (inr t) = rw (n, t) (sym (rest_at l.op l.left l.right g.0.0 g.0.1 t) ∙ k.0)

module _ (c : List Atom) (x : ℕ) (cube : List Lit) where
  abbrev lows : List Atom
  lows = map (λ l. atom_at c l.left) (filter (is_lower x) cube)

  abbrev ups : List Atom
  ups = map (λ l. atom_at c l.right) (filter (is_upper x) cube)

  abbrev others : List Atom
  others = map (λ l. atom_at c (other x l)) (filter (parts x) cube)

  strictly : (u l : Lit) → is_below c x Lt u.right l ≡ true → is_lower x l ≡ true → IsTrue (below (atom_at c l.left) (atom_at c u.right))
  strictly u l s lo =
      let t : op_holds (chained l.op Lt) (atom_at c l.left) (atom_at c u.right) ≡ true = rw lo at s in
      strict_below l.op (atom_at c l.left) (atom_at c u.right) t

  -- each lower bound is below each upper one
  bounds_apart : AllByRecursion (λ l. remains c x true cube l ≡ true) cube → All (IsBelow ups) lows
  bounds_apart h i d p j e q =
      (filtered_in (is_upper x) (λ l. atom_at c l.right) (IsAbove lows) cube
      (weaker
      (λ u r up. filtered_in (is_lower x) (λ l. atom_at c l.left) (λ b. IsTrue (below b (atom_at c u.right))) cube
      (weaker (λ l s lo. strictly u l s lo) cube (each_out (is_below c x Lt u.right) cube (rw up at r))))
      cube h)) j e q i d p

  kept : (strict : Bool) (l : Lit) → remains c x strict cube l ≡ true → ((l.left == x) || (l.right == x)) ≡ false → lit_holds c l ≡ true
  kept strict l r n = elim (cases_Bool (is_upper x l)) [
    | inl y ↦ absurd (let k = and_parts (is_step l.op && (l.left == x)) (not (l.right == x)) y in
        let e = and_parts (is_step l.op) (l.left == x) k.0 in
        let d = or_parts (l.left == x) (l.right == x) n in cc)
    | inr m ↦ rw (m, n) at r
  ]

  pub step_of : (o : Op) (p q : Bool) → (is_step o && p && q) ≡ true → is_step o ≡ true
  step_of o p q h = (and_parts (is_step o) p (and_parts (is_step o && p) q h).0).0

  meets : (a : Atom) (ls : List Lit) → AllByRecursion (λ l. remains c x true cube l ≡ true) ls → AllByRecursion (λ l. is_lower x l ≡ true → IsTrue (below (atom_at c l.left) a)) ls → AllByRecursion (λ l. is_upper x l ≡ true → IsTrue (below a (atom_at c l.right))) ls → AllByRecursion (λ l. parts x l ≡ true → IsFalse (equal a (atom_at c (other x l)))) ls → AllByRecursion (Meets c a x) ls
  meets a [] r lo up ap = tt
  meets a (l ∷ ls) r lo up ap = (
    record {
      lower = λ y. below_steps l.op (atom_at c l.left) a (step_of l.op (l.right == x) (not (l.left == x)) y) (lo.0 y);
      upper = λ y. below_steps l.op a (atom_at c l.right) (step_of l.op (l.left == x) (not (l.right == x)) y) (up.0 y);
      apart = ap.0;
      rest = kept true l r.0;
    },
    meets a ls r.1 lo.1 up.1 ap.1,
  )

  module _ (size : length c ≡ x) (f : AllByRecursion (LitFits (x + 1)) cube) (na : list_any is_absurd cube ≡ false) (ne : list_any (equates x) cube ≡ false) where
    -- room between the lower and the upper bounds
    pub strict_some : list_all (remains c x true cube) cube ≡ true → (a : Atom) × IsTrue (cube_holds (c ++ a ∷ []) cube)
    strict_some h =
        let k = each_out (remains c x true cube) cube h in
        let p = one_new_between others lows ups (bounds_apart k) in (
          p.0,
          cube_met c p.0 x size cube f na ne
              (meets p.0 cube k
              (filtered_out (is_lower x) (λ l. atom_at c l.left) (λ b. IsTrue (below b p.0)) cube p.1)
              (filtered_out (is_upper x) (λ l. atom_at c l.right) (λ b. IsTrue (below p.0 b)) cube p.2)
              (filtered_out (parts x) (λ l. atom_at c (other x l)) (λ b. IsFalse (equal p.0 b)) cube p.3)),
        )

    -- no room: a lower bound that may be the atom is an upper one too
    module _ (h : list_all (remains c x false cube) cube ≡ true) (u : Picked (remains c x true cube) cube) where
      upper_is : is_upper x u.item ≡ true
      upper_is = go (cases_Bool (is_upper x u.item))
        where
          go : (is_upper x u.item ≡ true) ⊎ (is_upper x u.item ≡ false) → is_upper x u.item ≡ true
          go (inl y) = y
          go (inr n) =
              let weak : remains c x false cube u.item ≡ true = u.each (remains c x false cube) h in
              let strict : remains c x true cube u.item ≡ false = u.fails in
              let k = rw n at weak in
              let m = rw n at strict in
              absurd (cc)

      no_room : list_all (is_below c x Lt u.item.right) cube ≡ false
      no_room = let strict : remains c x true cube u.item ≡ false = u.fails in rw upper_is at strict

      weakly : list_all (is_below c x u.item.op u.item.right) cube ≡ true
      weakly = let weak : remains c x false cube u.item ≡ true = u.each (remains c x false cube) h in rw upper_is at weak

      module _ (l : Picked (is_below c x Lt u.item.right) cube) where
        lower_is : is_lower x l.item ≡ true
        lower_is = go (cases_Bool (is_lower x l.item))
          where
            go : (is_lower x l.item ≡ true) ⊎ (is_lower x l.item ≡ false) → is_lower x l.item ≡ true
            go (inl y) = y
            go (inr n) =
                let strict : is_below c x Lt u.item.right l.item ≡ false = l.fails in let k = rw n at strict in absurd (cc)

        abbrev low : Atom
        low = atom_at c l.item.left

        abbrev high : Atom
        high = atom_at c u.item.right

        not_below : op_holds (chained l.item.op Lt) low high ≡ false
        not_below = let strict : is_below c x Lt u.item.right l.item ≡ false = l.fails in rw lower_is at strict

        chain : op_holds (chained l.item.op u.item.op) low high ≡ true
        chain =
            let weak : is_below c x u.item.op u.item.right l.item ≡ true = l.each (is_below c x u.item.op u.item.right) weakly in
            rw lower_is at weak

        both_weak : (o p : Op) → is_step o ≡ true → is_step p ≡ true → op_holds (chained o Lt) low high ≡ false → op_holds (chained o p) low high ≡ true → (o ≡ AtMost) × (p ≡ AtMost)
        both_weak Eq p s t n y = absurd (cc)
        both_weak Ne p s t n y = absurd (cc)
        both_weak Lt p s t n y = absurd (cc)
        both_weak AtMost Eq s t n y = absurd (cc)
        both_weak AtMost Ne s t n y = absurd (cc)
        both_weak AtMost Lt s t n y = absurd (cc)
        both_weak AtMost AtMost s t n y = (refl, refl)

        weak_both : (l.item.op ≡ AtMost) × (u.item.op ≡ AtMost)
        weak_both =
            both_weak l.item.op u.item.op (step_of l.item.op (l.item.right == x) (not (l.item.left == x)) lower_is) (step_of u.item.op (u.item.left == x) (not (u.item.right == x)) upper_is) not_below chain

        is_weak_one : is_weak_lower x l.item ≡ true
        is_weak_one =
            let y : (is_step AtMost && (l.item.right == x) && not (l.item.left == x)) ≡ true = subst (λ o. (is_step o && (l.item.right == x) && not (l.item.left == x)) ≡ true) weak_both.0 lower_is in
            subst (λ o. (is_weak o && (l.item.right == x) && not (l.item.left == x)) ≡ true) (sym weak_both.0) y

        same : equal high low ≡ true
        same =
            let n : below low high ≡ false = subst (λ o. op_holds (chained o Lt) low high ≡ false) weak_both.0 not_below in
            let y : op_holds AtMost low high ≡ true = subst (λ o. op_holds (chained AtMost o) low high ≡ true) weak_both.1 (subst (λ o. op_holds (chained o u.item.op) low high ≡ true) weak_both.0 chain) in
            equal_in high low (not-true (below high low) y) n

        lower_met : (o : Op) (b : Atom) → is_step o ≡ true → op_holds (chained o AtMost) b high ≡ true → op_holds o b low ≡ true
        lower_met Eq b s y = absurd (cc)
        lower_met Ne b s y = absurd (cc)
        lower_met Lt b s y = sym (op_respects Lt b b high low (equal_refl b) same) ∙ y
        lower_met AtMost b s y = sym (op_respects AtMost b b high low (equal_refl b) same) ∙ y

        lower_at_low : (m : Lit) → is_below c x u.item.op u.item.right m ≡ true → is_lower x m ≡ true → op_holds m.op (atom_at c m.left) low ≡ true
        lower_at_low m b y =
            let k : op_holds (chained m.op u.item.op) (atom_at c m.left) high ≡ true = rw y at b in
            lower_met m.op (atom_at c m.left) (step_of m.op (m.right == x) (not (m.left == x)) y) (subst (λ o. op_holds (chained m.op o) (atom_at c m.left) high ≡ true) weak_both.1 k)

        upper_at_low : (m : Lit) → remains c x false cube m ≡ true → is_upper x m ≡ true → op_holds m.op low (atom_at c m.right) ≡ true
        upper_at_low m r y =
            let all : list_all (is_below c x m.op m.right) cube ≡ true = rw y at r in
            let one : is_below c x m.op m.right l.item ≡ true = l.each (is_below c x m.op m.right) all in
            let k : op_holds (chained l.item.op m.op) low (atom_at c m.right) ≡ true = rw lower_is at one in
            subst (λ o. op_holds (chained o m.op) low (atom_at c m.right) ≡ true) weak_both.0 k

        all_meet : (list_any (parts x) cube ≡ false) → (ls : List Lit) → AllByRecursion (λ m. remains c x false cube m ≡ true) ls → AllByRecursion (λ m. is_below c x u.item.op u.item.right m ≡ true) ls → list_any (parts x) ls ≡ false → AllByRecursion (Meets c low x) ls
        all_meet none [] r b n = tt
        all_meet none (m ∷ ls) r b n =
            let free = or_parts (parts x m) (list_any (parts x) ls) n in (
              record {
                lower = lower_at_low m b.0;
                upper = upper_at_low m r.0;
                apart = λ y. absurd (let no_part : parts x m ≡ false = free.0 in cc);
                rest = kept false m r.0;
              },
              all_meet none ls r.1 b.1 free.1,
            )

        at_low : list_any (parts x) cube ≡ false → (a : Atom) × IsTrue (cube_holds (c ++ a ∷ []) cube)
        at_low none = (
          low,
          cube_met c low x size cube f na ne (all_meet none cube (each_out (remains c x false cube) cube h) (each_out (is_below c x u.item.op u.item.right) cube weakly) none),
        )

    pub weak_some : (list_any (is_weak_lower x) cube && list_any (parts x) cube) ≡ false → list_all (remains c x false cube) cube ≡ true → (a : Atom) × IsTrue (cube_holds (c ++ a ∷ []) cube)
    weak_some few h = go (cases_Bool (list_all (remains c x true cube) cube))
      where
        pick : (u : Picked (remains c x true cube) cube) → Picked (is_below c x Lt u.item.right) cube → (a : Atom) × IsTrue (cube_holds (c ++ a ∷ []) cube)
        pick u l = which (cases_Bool (list_any (parts x) cube)) (cases_Bool (list_any (is_weak_lower x) cube))
          where
            which : (list_any (parts x) cube ≡ true) ⊎ (list_any (parts x) cube ≡ false) → (list_any (is_weak_lower x) cube ≡ true) ⊎ (list_any (is_weak_lower x) cube ≡ false) → (a : Atom) × IsTrue (cube_holds (c ++ a ∷ []) cube)
            which (inr none) q = at_low h u l none
            which (inl some) (inl weak) = absurd (let e = rw (weak, some) at few in cc)
            which (inl some) (inr none) =
                absurd (let is : is_weak_lower x l.item ≡ true = is_weak_one h u l in let isnt : is_weak_lower x l.item ≡ false = l.none (is_weak_lower x) none in cc)

        go : (list_all (remains c x true cube) cube ≡ true) ⊎ (list_all (remains c x true cube) cube ≡ false) → (a : Atom) × IsTrue (cube_holds (c ++ a ∷ []) cube)
        go (inl y) = strict_some y
        go (inr n) =
            let u : Picked (remains c x true cube) cube = picked (remains c x true cube) cube n in
            pick u (picked (is_below c x Lt u.item.right) cube (no_room h u))

-- ---- one cube
never : (c : List Atom) (a : Atom) (x : ℕ) (size : length c ≡ x) (ls : List Lit) → AllByRecursion (IsStrictly c a x size false) ls
never c a x size [] = tt
never c a x size (l ∷ ls) = (λ t. absurd (cc), never c a x size ls)

pub joined_projects : (x : ℕ) (cube r : List Lit) → CubeFits (x + 1) cube → list_any is_absurd cube ≡ false → list_any (equates x) cube ≡ false → (list_any (is_weak_lower x) cube && list_any (parts x) cube) ≡ false → JoinsBounds x false cube r → Projects x cube r
joined_projects x cube r fits na ne few s c e = (some, back)
  where
    f : AllByRecursion (LitFits (x + 1)) cube
    f = recursion_from_All (LitFits (x + 1)) cube fits

    some : IsTrue (cube_holds c r) → (a : Atom) × IsTrue (cube_holds (c ++ a ∷ []) cube)
    some h = weak_some c x cube e f na ne few (sym (s c) ∙ h)

    back : ((a : Atom) × IsTrue (cube_holds (c ++ a ∷ []) cube)) → IsTrue (cube_holds c r)
    back p =
        let k = each_out (lit_holds (c ++ p.0 ∷ [])) cube p.1 in
        s c ∙ each_in (remains c x false cube) cube (met_remains c p.0 x e false cube cube f k (never c p.0 x e cube) f k)
