-- Cubes without the literals that follow.
use Rattle.std.proofs.Common.{◌≡◌, ℕ, ◌+◌, ◌<◌, Bool, true, false, not, ◌&&◌, ◌||◌, ◌↔◌, List, [], ◌∷◌, ◌++◌, length, get_or, take, refl, sym, ap, ◌∙◌, arith}
use Rattle.std.specs.Bool.{IsTrue}
use Rattle.std.specs.Option.{IfSome, is_some}
use Rattle.std.specs.declared.option.Option.{Option}
use Rattle.std.specs.declared.option.Option.TheVariants.{Some, None}
use Rattle.std.specs.List.{list_all}
use Rattle.std.proofs.lemmas.List.Elements.{All-take}
use Rattle.std.proofs.lemmas.List.Folds.{list_all-append, list_any-append, list_all_more, list_any_more}
use Rattle.std.proofs.lemmas.List.Sums.{AllPass-from_list_all, list_all-from_AllPass}
use Rattle.lois_base.specs.Atom.{Atom}
use Rattle.lois_base.specs.Truth.{lit_holds, cube_holds, holds}
use Rattle.lois_base.specs.declared.guards.Lit.{Lit}
use Rattle.lois_base.proofs.Booleans.{and_implied}
use Rattle.lois_constraint.specs.Entailment.{CubeIsSatisfiable}
use Rattle.lois_constraint.specs.Tight.{some_holds}
use Rattle.lois_constraint.proofs.Linked.{not_true}

part_fails : (p : Lit → Bool) (xs : List Lit) (n : ℕ) → list_all p (take n xs) ≡ false → list_all p xs ≡ false
part_fails p xs n fails =
    not_true (list_all p xs) (λ h. let yes : list_all p (take n xs) ≡ true = list_all-from_AllPass p (take n xs) (All-take (λ x. p x ≡ true) n xs (AllPass-from_list_all p xs h)) in cc)

last_of_and : (p q : Bool) → (p && (q && true)) ≡ (p && q)
last_of_and true true = refl
last_of_and true false = refl
last_of_and false q = refl

fails : (p q : Bool) → (p ≡ true → q ≡ false) → false ≡ (p && q)
fails true q f = sym (f refl)
fails false q f = refl

-- the part of the cube that was read, with its last literal
module _ (c : List Atom) (tight xs : List Lit) (i : ℕ) (d : Lit) (b : i < length xs) (t : cube_holds c tight ≡ cube_holds c (take i xs)) where
  pub tight_grows : (r : List Lit) → r ≡ tight ++ get_or xs i d ∷ [] → cube_holds c r ≡ cube_holds c (take (i + 1) xs)
  tight_grows r e =
      ap (cube_holds c) e ∙ (list_all-append (lit_holds c) tight (get_or xs i d ∷ []) ∙ (last_of_and (cube_holds c tight) (lit_holds c (get_or xs i d)) ∙ (ap (λ p. p && lit_holds c (get_or xs i d)) t ∙ sym (list_all_more (lit_holds c) xs i d b))))

  pub tight_stays : (IsTrue (cube_holds c tight) → IsTrue (lit_holds c (get_or xs i d))) → cube_holds c tight ≡ cube_holds c (take (i + 1) xs)
  tight_stays f =
      and_implied (cube_holds c tight) (lit_holds c (get_or xs i d)) f ∙ (ap (λ p. p && lit_holds c (get_or xs i d)) t ∙ sym (list_all_more (lit_holds c) xs i d b))

pub constraint_grows : (c : List Atom) (g r xs : List (List Lit)) (x : List Lit) (i : ℕ) → i < length xs → x ≡ get_or xs i x → holds c g ≡ holds c (take i xs) → holds c r ≡ (holds c g || cube_holds c x) → holds c r ≡ holds c (take (i + 1) xs)
constraint_grows c g r xs x i b is t e =
    e ∙ (ap (λ p. p || cube_holds c x) t ∙ (ap (λ y. holds c (take i xs) || cube_holds c y) is ∙ sym (list_any_more (cube_holds c) xs i x b)))

-- what is left without the cubes that were read
pub rest_shrinks : (c : List Atom) (s : Bool) (g xs : List (List Lit)) (x : List Lit) (i : ℕ) → i < length xs → x ≡ get_or xs i x → holds c g ≡ (s && not (holds c (take i xs))) → (holds c g && not (cube_holds c x)) ≡ (s && not (holds c (take (i + 1) xs)))
rest_shrinks c s g xs x i b is t =
    rw t (neither s (holds c (take i xs)) (cube_holds c x) ∙ ap (λ p. s && not p) (ap (λ y. holds c (take i xs) || cube_holds c y) is ∙ sym (list_any_more (cube_holds c) xs i x b)))
  where
    neither : (s p q : Bool) → ((s && not p) && not q) ≡ (s && not (p || q))
    neither true true q = refl
    neither true false q = refl
    neither false p q = refl

-- a cube with the literals that were read, beside what holds where s does
module _ (c : List Atom) (s : Bool) (closed xs : List Lit) (i : ℕ) (d : Lit) (b : i < length xs) (same : cube_holds c closed ≡ (s && cube_holds c (take i xs))) where
  read_with : (cube_holds c closed && lit_holds c (get_or xs i d)) ≡ (s && cube_holds c (take (i + 1) xs))
  read_with =
      ap (λ p. p && lit_holds c (get_or xs i d)) same ∙ (grouped s (cube_holds c (take i xs)) (lit_holds c (get_or xs i d)) ∙ ap (λ p. s && p) (sym (list_all_more (lit_holds c) xs i d b)))
    where
      grouped : (p q r : Bool) → ((p && q) && r) ≡ (p && (q && r))
      grouped true q r = refl
      grouped false q r = refl

  pub both_stay : (cube_holds c closed ≡ true → lit_holds c (get_or xs i d) ≡ true) → cube_holds c closed ≡ (s && cube_holds c (take (i + 1) xs))
  both_stay f = and_implied (cube_holds c closed) (lit_holds c (get_or xs i d)) f ∙ read_with

  pub both_grow : (more : List Lit) → more ≡ closed ++ get_or xs i d ∷ [] → cube_holds c more ≡ (s && cube_holds c (take (i + 1) xs))
  both_grow more e =
      ap (cube_holds c) e ∙ (list_all-append (lit_holds c) closed (get_or xs i d ∷ []) ∙ (last_of_and (cube_holds c closed) (lit_holds c (get_or xs i d)) ∙ read_with))

  pub both_fail : (cube_holds c closed ≡ true → lit_holds c (get_or xs i d) ≡ false) → false ≡ (s && cube_holds c xs)
  both_fail f = go s (sym (fails (cube_holds c closed) (lit_holds c (get_or xs i d)) f ∙ read_with))
    where
      go : (p : Bool) → (p && cube_holds c (take (i + 1) xs)) ≡ false → false ≡ (p && cube_holds c xs)
      go true h = sym (part_fails (lit_holds c) xs (i + 1) h)
      go false h = refl

-- ---- the literals that were read and don't follow, beside what holds where k does
module _ (c : List Atom) (k : Bool) (kept xs : List Lit) (i : ℕ) (d : Lit) (b : i < length xs) (same : (k && cube_holds c kept) ≡ (k && cube_holds c (take i xs))) where
  pub beside_grows : (r : List Lit) → r ≡ kept ++ get_or xs i d ∷ [] → (k && cube_holds c r) ≡ (k && cube_holds c (take (i + 1) xs))
  beside_grows r e =
      ap (λ z. k && cube_holds c z) e ∙ (ap (λ p. k && p) (list_all-append (lit_holds c) kept (get_or xs i d ∷ [])) ∙ (split k (cube_holds c kept) (lit_holds c (get_or xs i d)) ∙ (ap (λ p. p && lit_holds c (get_or xs i d)) same ∙ (joined k (cube_holds c (take i xs)) (lit_holds c (get_or xs i d)) ∙ ap (λ p. k && p) (sym (list_all_more (lit_holds c) xs i d b))))))
    where
      split : (p q r : Bool) → (p && (q && (r && true))) ≡ ((p && q) && r)
      split true q r = last_of_and q r
      split false q r = refl

      joined : (p q r : Bool) → ((p && q) && r) ≡ (p && (q && r))
      joined true q r = refl
      joined false q r = refl

  pub beside_stays : (k ≡ true → lit_holds c (get_or xs i d) ≡ true) → (k && cube_holds c kept) ≡ (k && cube_holds c (take (i + 1) xs))
  beside_stays f =
      same ∙ (more k (cube_holds c (take i xs)) (lit_holds c (get_or xs i d)) f ∙ ap (λ p. k && p) (sym (list_all_more (lit_holds c) xs i d b)))
    where
      more : (p q r : Bool) → (p ≡ true → r ≡ true) → (p && q) ≡ (p && (q && r))
      more true true r f = sym (f refl)
      more true false r f = refl
      more false q r f = refl

-- two halves, each thinned beside the other one and what holds where k and o do
pub halves_thinned : (c : List Atom) (k o : Bool) (beside low high kept rest literals thinned : List Lit) → cube_holds c beside ≡ (k && o) → (cube_holds c beside && (cube_holds c high && cube_holds c kept)) ≡ (cube_holds c beside && (cube_holds c high && cube_holds c low)) → (cube_holds c beside && (cube_holds c kept && cube_holds c rest)) ≡ (cube_holds c beside && (cube_holds c kept && cube_holds c high)) → literals ≡ low ++ high → thinned ≡ kept ++ rest → (k && (o && cube_holds c thinned)) ≡ (k && (o && cube_holds c literals))
halves_thinned c k o beside low high kept rest literals thinned e f g is are =
    rw (is, are, list_all-append (lit_holds c) low high, list_all-append (lit_holds c) kept rest) (go k o (cube_holds c beside) (cube_holds c low) (cube_holds c high) (cube_holds c kept) (cube_holds c rest) e f g)
  where
    other_way : (p q : Bool) → (p && q) ≡ (q && p)
    other_way true true = refl
    other_way true false = refl
    other_way false true = refl
    other_way false false = refl

    go : (k o b l h x y : Bool) → b ≡ (k && o) → (b && (h && x)) ≡ (b && (h && l)) → (b && (x && y)) ≡ (b && (x && h)) → (k && (o && (x && y))) ≡ (k && (o && (l && h)))
    go true true true l h x y e f g = g ∙ (other_way x h ∙ (f ∙ other_way h l))
    go true true false l h x y e f g = absurd (cc)
    go true false b l h x y e f g = refl
    go false o b l h x y e f g = refl

-- ---- a cube with each of the cubes that were read, beside what holds where s does
pub product_grows : (c : List Atom) (s k : Bool) (g xs : List (List Lit)) (i : ℕ) (x : List Lit) → i < length xs → x ≡ get_or xs i x → holds c g ≡ (s || (k && holds c (take i xs))) → (found : Bool) → found ≡ (k && cube_holds c x) → (holds c g || found) ≡ (s || (k && holds c (take (i + 1) xs)))
product_grows c s k g xs i x b is t found e =
    rw (t, e) (spread s k (holds c (take i xs)) (cube_holds c x) ∙ ap (λ p. s || (k && p)) (ap (λ y. holds c (take i xs) || cube_holds c y) is ∙ sym (list_any_more (cube_holds c) xs i x b)))
  where
    spread : (s k p q : Bool) → ((s || (k && p)) || (k && q)) ≡ (s || (k && (p || q)))
    spread true k p q = refl
    spread false true p q = refl
    spread false false p q = refl

-- one cube more of those that are met with g, beside what holds where s does
pub met_grows : (c : List Atom) (s : Bool) (met xs g : List (List Lit)) (x : List Lit) → holds c met ≡ (s || (holds c xs && holds c g)) → (holds c met || (cube_holds c x && holds c g)) ≡ (s || (holds c (xs ++ x ∷ []) && holds c g))
met_grows c s met xs g x t = rw (t, list_any-append (cube_holds c) xs (x ∷ [])) (spread s (holds c xs) (cube_holds c x) (holds c g))
  where
    spread : (s p q r : Bool) → ((s || (p && r)) || (q && r)) ≡ (s || ((p || (q || false)) && r))
    spread true p q r = refl
    spread false true true true = refl
    spread false true true false = refl
    spread false true false true = refl
    spread false true false false = refl
    spread false false true true = refl
    spread false false true false = refl
    spread false false false r = refl

-- one cube more of those that were read, beside what holds where s does
pub met_read : (c : List Atom) (s : Bool) (g r xs : List (List Lit)) (x : List Lit) (i : ℕ) → i < length xs → x ≡ get_or xs i x → holds c g ≡ (holds c (take i xs) && s) → holds c r ≡ (holds c g || (cube_holds c x && s)) → holds c r ≡ (holds c (take (i + 1) xs) && s)
met_read c s g r xs x i b is t e =
    e ∙ (ap (λ p. p || (cube_holds c x && s)) t ∙ (spread (holds c (take i xs)) (cube_holds c x) s ∙ ap (λ p. p && s) (ap (λ y. holds c (take i xs) || cube_holds c y) is ∙ sym (list_any_more (cube_holds c) xs i x b))))
  where
    spread : (p q r : Bool) → ((p && r) || (q && r)) ≡ ((p || q) && r)
    spread true q true = refl
    spread true true false = refl
    spread true false false = refl
    spread false q r = refl

-- ---- a cube that was tightened, or that can't be met
pub none_exactly : (k : List Lit) (o : Option (List Lit)) (b : Bool) → ((c : List Atom) → some_holds c o ≡ cube_holds c k) → IfSome o CubeIsSatisfiable → is_some o ≡ not b → (b ≡ true) ↔ ((c : List Atom) → cube_holds c k ≡ false)
none_exactly k None true truth met is = (λ t c. sym (truth c), λ f. refl)
none_exactly k None false truth met is = absurd (cc)
none_exactly k (Some x) true truth met is = absurd (cc)
none_exactly k (Some x) false truth met is = (
  λ t. absurd (cc),
  λ f. let fails : cube_holds met.0 k ≡ false = f met.0 in let same : cube_holds met.0 x ≡ cube_holds met.0 k = truth met.0 in let holds : cube_holds met.0 x ≡ true = met.1 in absurd (cc),
)

pub some_met : (k : List Lit) (o : Option (List Lit)) (b : Bool) → ((c : List Atom) → some_holds c o ≡ cube_holds c k) → IfSome o CubeIsSatisfiable → is_some o ≡ not b → b ≡ false → CubeIsSatisfiable k
some_met k None true truth met is e = absurd (cc)
some_met k None false truth met is e = absurd (cc)
some_met k (Some x) b truth met is e = (met.0, sym (truth met.0) ∙ met.1)

-- a constraint of one cube alone
pub alone_holds : (c : List Atom) (g : List (List Lit)) (x : List Lit) → length g ≡ 1 → x ≡ get_or g 0 x → cube_holds c x ≡ holds c g
alone_holds c [] x l e = absurd (omega arith)
alone_holds c (k ∷ []) x l e = ap (cube_holds c) e ∙ or_none (cube_holds c k)
  where
    or_none : (b : Bool) → b ≡ (b || false)
    or_none true = refl
    or_none false = refl
alone_holds c (k ∷ (q ∷ g)) x l e = absurd (omega arith)
