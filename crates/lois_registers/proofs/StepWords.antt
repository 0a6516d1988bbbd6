-- The words of a step: they are words, and the word `store` cuts them in one way.
use Rattle.std.proofs.Common.{◌≡◌, ℕ, zero, suc, ◌+◌, ◌≤◌, ◌<◌, Bool, List, [], ◌∷◌, ◌++◌, length, map, get_or, take, drop, refl, sym, ap, subst, ◌∙◌, arith}
use Rattle.std.specs.Prelude.{codes, Option, Some, None, not, nat_eq, ◌&&◌}
use Rattle.std.specs.Bool.{IsTrue}
use Rattle.std.specs.List.{All, list_all}
use Rattle.std.proofs.lemmas.List.Folds.{list_all-append}
use Rattle.std.proofs.lemmas.List.{get_or_at, length-append, drop_more, take-append-drop, map-append}
use Rattle.std.proofs.lemmas.List.Elements.{All-nil, All-cons, All-head, All-tail, All-map, All-weaker, All-get_or, All-contains}
use Rattle.lois_answers.specs.TermText.{literal_text, op_text}
use Rattle.lois_base.specs.Names.{IsName}
use Rattle.lois_base.specs.declared.guards.Lit.{Lit}
use Rattle.lois_base.specs.declared.guards.Op.{Op}
use Rattle.lois_base.specs.declared.guards.Op.TheVariants.{Eq, Ne, Lt, AtMost}
use Rattle.lois_base.proofs.Connectives.{both_true}
use Rattle.lois_registers.specs.Reading.{is_clean, AreWords, AreOf, IsCutAt, operand_text}
use Rattle.lois_registers.specs.Texts.{operand_names, digit, joined_by_and, guard_words, stored_words, step_words}
use Rattle.lois_registers.specs.Valid.{AreIncreasing, IsLiteral, IsRegStep}
use Rattle.lois_registers.specs.declared.automata.RegStep.{RegStep}
use Rattle.lois_registers.proofs.Cuts.{clean_words, name_clean}
use Rattle.lois_registers.proofs.Literals.{literal_is, register_text}

-- ---- the first four words
module _ {X : Type 0} (f : X → List ℕ) where
  pub head_words : (slice : List X) (a b c d : List ℕ) (t : List (List ℕ)) → map f slice ≡ a ∷ b ∷ c ∷ d ∷ t →
      (4 ≤ length slice) × ((x : X) → f (get_or slice 0 x) ≡ a) × ((x : X) → f (get_or slice 1 x) ≡ b) × ((x : X) → f (get_or slice 2 x) ≡ c) × ((x : X) → f (get_or slice 3 x) ≡ d) × (map f (drop 4 slice) ≡ t)
  head_words [] a b c d t e = absurd (cc)
  head_words (w ∷ []) a b c d t e = absurd (cc)
  head_words (w ∷ v ∷ []) a b c d t e = absurd (cc)
  head_words (w ∷ v ∷ u ∷ []) a b c d t e = absurd (cc)
  head_words (w ∷ v ∷ u ∷ s ∷ rest) a b c d t e = (omega arith, λ x. cc, λ x. cc, λ x. cc, λ x. cc, cc)

  pub step_from : (slice : List X) (x0 x1 x2 x3 : X) (s : RegStep) → 4 ≤ length slice → f (get_or slice 0 x0) ≡ codes "step" → s.from ≡ f (get_or slice 1 x1) → s.to ≡ f (get_or slice 2 x2) → f (get_or slice 3 x3) ≡ codes "when" →
      map f (drop 4 slice) ≡ guard_words s.guard ++ codes "store" ∷ stored_words s.stored → map f slice ≡ step_words s
  step_from [] x0 x1 x2 x3 s l a b c d e = absurd (omega (arith, l))
  step_from (w ∷ []) x0 x1 x2 x3 s l a b c d e = absurd (omega (arith, l))
  step_from (w ∷ v ∷ []) x0 x1 x2 x3 s l a b c d e = absurd (omega (arith, l))
  step_from (w ∷ v ∷ u ∷ []) x0 x1 x2 x3 s l a b c d e = absurd (omega (arith, l))
  step_from (w ∷ v ∷ u ∷ t ∷ rest) x0 x1 x2 x3 s l a b c d e =
      ap (λ z. z ∷ f v ∷ f u ∷ f t ∷ map f rest) a ∙ (ap (λ z. codes "step" ∷ z ∷ f u ∷ f t ∷ map f rest) (sym b) ∙ (ap (λ z. codes "step" ∷ s.from ∷ z ∷ f t ∷ map f rest) (sym c) ∙
      (ap (λ z. codes "step" ∷ s.from ∷ s.to ∷ z ∷ map f rest) d ∙ ap (λ z. codes "step" ∷ s.from ∷ s.to ∷ codes "when" ∷ z) e)))

-- ---- the first place of a word
module _ {X : Type 0} (f : X → List ℕ) (slice : List X) (word : List ℕ) where
  pub cut_at : (n : ℕ) (d : X) → n < length slice → f (get_or slice n d) ≡ word → All (λ x. f x ≡ word → ⊥) (take n slice) → IsCutAt word (map f slice) (map f (take n slice)) (map f (drop (n + 1) slice))
  cut_at n d l e h = (
    ap (map f) (sym (take-append-drop n slice)) ∙ (map-append f (take n slice) (drop n slice) ∙
        ap (λ z. map f (take n slice) ++ z) (ap (map f) (drop_more slice n d l) ∙ ap (λ z. z ∷ map f (drop (n + 1) slice)) e)),
    All-map (λ w. w ≡ word → ⊥) f (take n slice) h,
  )

  pub no_cut : All (λ x. f x ≡ word → ⊥) slice → (before after : List (List ℕ)) → map f slice ≡ before ++ word ∷ after → ⊥
  no_cut h before after e =
      let all : All (λ w. w ≡ word → ⊥) (before ++ word ∷ after) = subst (All (λ w. w ≡ word → ⊥)) e (All-map (λ w. w ≡ word → ⊥) f slice h) in
      All-get_or (λ w. w ≡ word → ⊥) (before ++ word ∷ after) (length before) [] (omega (arith, length-append before (word ∷ after))) all (get_or_at before word after [] (length before) refl)

pub first_unique : (word : List ℕ) (xs ys a b : List (List ℕ)) → All (λ w. w ≡ word → ⊥) xs → All (λ w. w ≡ word → ⊥) ys → xs ++ word ∷ a ≡ ys ++ word ∷ b → (xs ≡ ys) × (a ≡ b)
first_unique word [] [] a b h k e = (refl, cc)
first_unique word [] (y ∷ ys) a b h k e = absurd (All-head (λ w. w ≡ word → ⊥) y ys k (cc))
first_unique word (x ∷ xs) [] a b h k e = absurd (All-head (λ w. w ≡ word → ⊥) x xs h (cc))
first_unique word (x ∷ xs) (y ∷ ys) a b h k e =
    let first : x ≡ y = cc in
    let rest : xs ++ word ∷ a ≡ ys ++ word ∷ b = cc in
    let r = first_unique word xs ys a b (All-tail (λ w. w ≡ word → ⊥) x xs h) (All-tail (λ w. w ≡ word → ⊥) y ys k) rest in
    (ap (λ z. z ∷ xs) first ∙ ap (λ z. y ∷ z) r.0, r.1)

-- ---- clean words
module _ {X : Type 0} (p : X → Bool) where
  both_append : (xs ys : List X) → IsTrue (list_all p xs) → IsTrue (list_all p ys) → IsTrue (list_all p (xs ++ ys))
  both_append xs ys h k = subst IsTrue (sym (list_all-append p xs ys)) ((both_true (list_all p xs) (list_all p ys)).1 (h, k))

  pub both_cons : (x : X) (xs : List X) → IsTrue (p x) → IsTrue (list_all p xs) → IsTrue (list_all p (x ∷ xs))
  both_cons x xs h k = (both_true (p x) (list_all p xs)).1 (h, k)

operand_clean : (i : ℕ) → i ≤ 4 → IsTrue (is_clean (operand_text i))
operand_clean zero l = refl
operand_clean (suc zero) l = refl
operand_clean (suc (suc zero)) l = refl
operand_clean (suc (suc (suc zero))) l = refl
operand_clean (suc (suc (suc (suc zero)))) l = refl
operand_clean (suc (suc (suc (suc (suc i))))) l = absurd (omega (arith, l))

op_clean : (op : Op) → IsTrue (is_clean (op_text op))
op_clean Eq = refl
op_clean Ne = refl
op_clean Lt = refl
op_clean AtMost = refl

pub digit_clean : (i : ℕ) → i ≤ 4 → IsTrue (is_clean (digit i))
digit_clean zero l = refl
digit_clean (suc zero) l = refl
digit_clean (suc (suc zero)) l = refl
digit_clean (suc (suc (suc zero))) l = refl
digit_clean (suc (suc (suc (suc zero)))) l = refl
digit_clean (suc (suc (suc (suc (suc i))))) l = absurd (omega (arith, l))

not_store : (i : ℕ) (t : List ℕ) → i ≤ 4 → operand_text i ++ t ≡ codes "store" → ⊥
not_store zero t l e = let bad : ◌≡◌ {A = ℕ} 120 115 = cc in absurd (omega (arith, bad))
not_store (suc i) t l e =
    let f : 114 ∷ (49 + i) ∷ t ≡ codes "store" = ap (λ z. z ++ t) (sym (register_text i (omega (arith, l)))) ∙ e in
    let bad : ◌≡◌ {A = ℕ} 114 115 = cc in absurd (omega (arith, bad))

-- clean, and not the word `store`
abbrev pub IsGuardWord : List ℕ → Type 0
IsGuardWord w = IsTrue (is_clean w) × (w ≡ codes "store" → ⊥)

literal_word : (l : Lit) → l.left ≤ 4 → l.right ≤ 4 → IsGuardWord (literal_text operand_names l)
literal_word l i j = (
  subst (λ z. IsTrue (is_clean z)) (sym (literal_is l i j))
      (both_append (λ b. not (nat_eq b 10) && not (nat_eq b 32)) (operand_text l.left) (op_text l.op ++ operand_text l.right) (operand_clean l.left i)
      (both_append (λ b. not (nat_eq b 10) && not (nat_eq b 32)) (op_text l.op) (operand_text l.right) (op_clean l.op) (operand_clean l.right j))),
  λ e. not_store l.left (op_text l.op ++ operand_text l.right) i (sym (literal_is l i j) ∙ e),
)

and_word : IsGuardWord (codes "and")
and_word = (refl, λ e. let bad : ◌≡◌ {A = ℕ} 97 115 = cc in absurd (omega (arith, bad)))

linked_guard : (ws : List (List ℕ)) → All IsGuardWord ws → All IsGuardWord (joined_by_and ws)
linked_guard [] h = h
linked_guard (w ∷ []) h = h
linked_guard (w ∷ v ∷ ws) h =
    All-cons IsGuardWord w (codes "and" ∷ joined_by_and (v ∷ ws)) (All-head IsGuardWord w (v ∷ ws) h)
    (All-cons IsGuardWord (codes "and") (joined_by_and (v ∷ ws)) and_word (linked_guard (v ∷ ws) (All-tail IsGuardWord w (v ∷ ws) h)))

pub guard_are : (ordered : Bool) (n : ℕ) (ls : List Lit) → n ≤ 4 → All (IsLiteral ordered n) ls → All IsGuardWord (guard_words ls)
guard_are ordered n [] l h = All-cons IsGuardWord (codes "true") [] (refl, λ e. let bad : ◌≡◌ {A = ℕ} 116 111 = cc in absurd (omega (arith, bad))) (All-nil IsGuardWord)
guard_are ordered n (k ∷ ks) l h =
    linked_guard (map (literal_text operand_names) (k ∷ ks)) (All-map IsGuardWord (literal_text operand_names) (k ∷ ks)
    (All-weaker (IsLiteral ordered n) (λ k. IsGuardWord (literal_text operand_names k)) (λ k i. literal_word k (omega (arith, i.left, l)) (omega (arith, i.right, l))) (k ∷ ks) h))

all_clean : (ws : List (List ℕ)) → All IsGuardWord ws → IsTrue (list_all is_clean ws)
all_clean [] h = refl
all_clean (w ∷ ws) h = both_cons is_clean w ws (All-head IsGuardWord w ws h).0 (all_clean ws (All-tail IsGuardWord w ws h))

digits_clean : (m n : ℕ) (is : List ℕ) → n ≤ 4 → AreIncreasing m n is → IsTrue (list_all is_clean (map digit is))
digits_clean m n [] l h = refl
digits_clean m n (i ∷ is) l h = both_cons is_clean (digit i) (map digit is) (digit_clean i (omega (arith, h.1, l))) (digits_clean i n is l h.2)

stored_clean : (n : ℕ) (is : List ℕ) → n ≤ 4 → AreIncreasing 0 n is → IsTrue (list_all is_clean (stored_words is))
stored_clean n [] l h = refl
stored_clean n (i ∷ is) l h = digits_clean 0 n (i ∷ is) l h

-- ---- steps
module _ (ordered : Bool) (n : ℕ) (states : List (List ℕ)) (s : RegStep) (l : n ≤ 4) (v : IsRegStep ordered n states s) where
  pub step_cut : (words before after : List (List ℕ)) → IsCutAt (codes "store") words before after → words ≡ guard_words s.guard ++ codes "store" ∷ stored_words s.stored → (before ≡ guard_words s.guard) × (after ≡ stored_words s.stored)
  step_cut words before after cut e =
      first_unique (codes "store") before (guard_words s.guard) after (stored_words s.stored) cut.1
      (All-weaker IsGuardWord (λ w. w ≡ codes "store" → ⊥) (λ w h. h.1) (guard_words s.guard) (guard_are ordered n s.guard l v.guard.literals)) (sym cut.0 ∙ e)

  pub step_are : All IsName states → AreWords (step_words s)
  step_are names =
      let tail = guard_words s.guard ++ codes "store" ∷ stored_words s.stored in
      let clean : IsTrue (list_all is_clean tail) =
      both_append is_clean (guard_words s.guard) (codes "store" ∷ stored_words s.stored) (all_clean (guard_words s.guard) (guard_are ordered n s.guard l v.guard.literals))
      (both_cons is_clean (codes "store") (stored_words s.stored) refl (stored_clean n s.stored l v.stored)) in
      clean_words (codes "step") (s.from ∷ s.to ∷ codes "when" ∷ tail)
      (both_cons is_clean (codes "step") (s.from ∷ s.to ∷ codes "when" ∷ tail) refl
      (both_cons is_clean s.from (s.to ∷ codes "when" ∷ tail) (name_clean s.from (All-contains IsName states s.from names v.from))
      (both_cons is_clean s.to (codes "when" ∷ tail) (name_clean s.to (All-contains IsName states s.to names v.to))
      (both_cons is_clean (codes "when") tail refl clean))))

-- ---- answers of the readers of parts
module _ {V : Type 0} (P : V → Type 0) (words_of : V → List (List ℕ)) (words : List (List ℕ)) (o : Option V) (is : AreOf P words_of words o) where
  pub none_of : o ≡ None → (v : V) → P v → words ≡ words_of v → ⊥
  none_of e = subst (AreOf P words_of words) e is

  pub some_of : (v : V) → o ≡ Some v → P v × (words ≡ words_of v)
  some_of v e = subst (AreOf P words_of words) e is
