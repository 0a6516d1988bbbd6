-- Two cubes compared literal by literal.
use Rattle.std.proofs.Common.{◌≡◌, ℕ, zero, suc, ◌+◌, ◌<◌, ◌≤◌, Bool, true, false, cond, Ordering, Less, Equal, Greater, ◌&&◌, ◌||◌, ◌==◌, nat_lt, List, [], ◌∷◌, length, get_or, drop, refl, sym, ap, ◌∙◌, subst, arith, add-one}
use Rattle.std.specs.List.{slice_get}
use Rattle.std.specs.Ordering.{is_lt, is_eq, is_ne, nat_cmp}
use Rattle.std.specs.declared.option.Option.TheVariants.{Some, None}
use Rattle.std.proofs.lemmas.List.{drop_all}
use Rattle.std.proofs.lemmas.Bool.Decides.{nat_tests}
use Rattle.lois_base.proofs.Parts.{drop_at}
use Rattle.lois_base.specs.declared.guards.Lit.{Lit}
use Rattle.lois_constraint.specs.Normalised.{lit_before, lit_same, cube_before}

cut_at : (xs : List Lit) (i : ℕ) (d : Lit) → i < length xs → drop i xs ≡ get_or xs i d ∷ drop (i + 1) xs
cut_at [] i d l = absurd (omega arith)
cut_at (y ∷ xs) zero d l = cc
cut_at (y ∷ xs) (suc i) d l = rw add-one (rw add-one at (cut_at xs i d (omega arith)))

past : (xs : List Lit) (i : ℕ) → None ≡ slice_get xs i → drop i xs ≡ []
past [] zero e = refl
past [] (suc i) e = refl
past (y ∷ xs) zero e = absurd (cc)
past (y ∷ xs) (suc i) e = past xs i e

-- nothing goes before what is left of a cube
left_over : (b : List Lit) (i : ℕ) → nat_lt i (length b) ≡ cube_before [] (drop i b)
left_over [] zero = refl
left_over [] (suc i) = grind (arith, nat_tests)
left_over (y ∷ b) zero = grind (arith, nat_tests)
left_over (y ∷ b) (suc i) =
    let e : nat_lt (suc i) (length (y ∷ b)) ≡ nat_lt i (length b) = grind (arith, nat_tests) in e ∙ left_over b i

unequal : (o : Ordering) (p s q : Bool) → is_lt o ≡ p → is_eq o ≡ s → true ≡ is_ne o → is_lt o ≡ (p || (s && q))
unequal Less p s q e f ne = ap (λ w. w || (s && q)) e
unequal Equal p s q e f ne = absurd (cc)
unequal Greater p s q e f ne = ap (λ w. w && q) f ∙ ap (λ w. w || (s && q)) e

equal : (o : Ordering) (p s : Bool) → is_lt o ≡ p → is_eq o ≡ s → false ≡ is_ne o → (false ≡ p) × (true ≡ s)
equal Less p s e f ne = absurd (cc)
equal Equal p s e f ne = (e, f)
equal Greater p s e f ne = absurd (cc)

pub lt_by_cmp : (x y : ℕ) → is_lt (nat_cmp x y) ≡ nat_lt x y
lt_by_cmp x y = go (nat_lt x y) (x == y)
  where
    go : (p q : Bool) → is_lt (cond p Less (cond q Equal Greater)) ≡ p
    go true q = refl
    go false true = refl
    go false false = refl

module _ (a b xs : List Lit) (i : ℕ) (d : Lit) (is : xs ≡ a) (l : i < length xs) (same : cube_before a b ≡ cube_before (drop i a) (drop i b)) where
  cut : drop i a ≡ get_or xs i d ∷ drop (i + 1) a
  cut = subst (λ (z : List Lit). drop i z ≡ get_or xs i d ∷ drop (i + 1) z) is (cut_at xs i d l)

  -- the second cube ends first
  pub ends_first : None ≡ slice_get b i → false ≡ cube_before a b
  ends_first e = sym (same ∙ (ap (λ z. cube_before z (drop i b)) cut ∙ ap (cube_before (get_or xs i d ∷ drop (i + 1) a)) (past b i e)))

  module _ (y : Lit) (e : Some y ≡ slice_get b i) where
    step : cube_before a b ≡ (lit_before (get_or xs i d) y || (lit_same (get_or xs i d) y && cube_before (drop (i + 1) a) (drop (i + 1) b)))
    step = same ∙ (ap (λ z. cube_before z (drop i b)) cut ∙ ap (cube_before (get_or xs i d ∷ drop (i + 1) a)) (drop_at b i y e))

    -- the literals at the index decide
    pub decided : (o : Ordering) → is_lt o ≡ lit_before (get_or xs i d) y → is_eq o ≡ lit_same (get_or xs i d) y → true ≡ is_ne o → is_lt o ≡ cube_before a b
    decided o before same_lits ne =
        unequal o (lit_before (get_or xs i d) y) (lit_same (get_or xs i d) y) (cube_before (drop (i + 1) a) (drop (i + 1) b)) before same_lits ne ∙ sym step

    pub goes_on : (o : Ordering) → is_lt o ≡ lit_before (get_or xs i d) y → is_eq o ≡ lit_same (get_or xs i d) y → false ≡ is_ne o → cube_before a b ≡ cube_before (drop (i + 1) a) (drop (i + 1) b)
    goes_on o before same_lits eq =
        let tied = equal o (lit_before (get_or xs i d) y) (lit_same (get_or xs i d) y) before same_lits eq in
        let h : false ≡ lit_before (get_or xs i d) y = tied.0 in
        let k : true ≡ lit_same (get_or xs i d) y = tied.1 in
        step ∙ (ap (λ p. p || (lit_same (get_or xs i d) y && cube_before (drop (i + 1) a) (drop (i + 1) b))) (sym h) ∙ ap (λ p. p && cube_before (drop (i + 1) a) (drop (i + 1) b)) (sym k))

pub at_end : (a b : List Lit) (i : ℕ) → i ≡ length a → cube_before a b ≡ cube_before (drop i a) (drop i b) → nat_lt (length a) (length b) ≡ cube_before a b
at_end a b i e same =
    ap (λ n. nat_lt n (length b)) (sym e) ∙ (left_over b i ∙ (ap (λ z. cube_before z (drop i b)) (sym (drop_all i a (omega arith))) ∙ sym same))

pub within_next : (b : List Lit) (i : ℕ) (y : Lit) → Some y ≡ slice_get b i → i + 1 ≤ length b
within_next [] i y e = absurd (cc)
within_next (z ∷ b) zero y e = omega arith
within_next (z ∷ b) (suc i) y e = omega (arith, within_next b i y e)
