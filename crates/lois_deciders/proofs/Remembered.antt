-- Answers that are right for questions that are equal.
use Rattle.std.proofs.Common.{◌≡◌, ℕ, ◌-◌, ◌<◌, ◌⊎◌, inl, inr, Bool, true, false, not, List, [], ◌∷◌, length, get_or, take, eqb, Option, Some, None, Result, Ok, Err, OnOk, OnErr, IfSome, IsNone, ◌↔◌, refl, sym, ap, ◌∙◌, subst, arith, length-take}
use Rattle.std.proofs.lemmas.Bool.{eqb-true}
use Rattle.std.proofs.lemmas.List.{get_or-take}
use Rattle.std.proofs.lemmas.List.Elements.{All-contains, Contains-get_or}
use Rattle.std.proofs.lemmas.List.Sorted.{All-permutation, IsPermutation-sym}
use Rattle.std.proofs.lemmas.List.Sums.{AllPass-from_list_all, list_all-from_AllPass}
use Rattle.std.specs.Bool.{IsTrue}
use Rattle.std.specs.Cmp.Lexicographic.{pointwise}
use Rattle.std.specs.Global.{Vec}
use Rattle.std.specs.List.{All, Contains, list_all}
use Rattle.std.specs.List.Sorted.{IsPermutation}
use Rattle.std.specs.Map.{lookup}
use Rattle.std.specs.Option.{option_map}
use Rattle.lois_base.specs.Atom.{Atom}
use Rattle.lois_base.specs.Theory.{IsSampleOf}
use Rattle.lois_base.specs.Truth.{lit_holds, cube_holds, sampled}
use Rattle.lois_base.specs.declared.guards.Lit.{Lit}
use Rattle.lois_base.proofs.Order.{same_truth}
use Rattle.lois_base.proofs.Samples.{satisfied_by}
use Rattle.lois_constraint.proofs.Alike.{lit_eq, lits_same}
use Rattle.lru.specs.LruCache.{LruCache, lru_cache, promoted, put_entries}
use Rattle.lru.proofs.CallerLemmas.{Contains-lookup, Contains-promoted, Contains-put_entries, IsPut}
use Rattle.lois_base.proofs.Booleans.{and_first, and_second}
use Rattle.lois_deciders.specs.Kept.{Answers, IsRightEntry}
use Rattle.lois_deciders.specs.Labels.{IsUnmet}
use Rattle.lois_deciders.specs.Remembering.{Kept, HasPut, IsAbout, KeepsAnswers}
use Rattle.lois_deciders.specs.contracts.questions.QuestionPartialEq.TheImpl.{eq-value}
use Rattle.lois_deciders.specs.declared.questions.Question.{Question}

pub cubes_same : (a b : List Lit) → pointwise lit_eq a b ≡ true → a ≡ b
cubes_same [] [] h = refl
cubes_same [] (y ∷ b) h = absurd (cc)
cubes_same (x ∷ a) [] h = absurd (cc)
cubes_same (x ∷ a) (y ∷ b) h =
    let e : x ≡ y = lits_same x y (and_first (lit_eq x y) (pointwise lit_eq a b) h) in
    let f : a ≡ b = cubes_same a b (and_second (lit_eq x y) (pointwise lit_eq a b) h) in
    rw (e, f) refl

pub questions_same : (q k : Question) → eq-value.it q k ≡ true → (q.literals.items ≡ k.literals.items) × (q.size ≡ k.size)
questions_same q k h =
    let first : pointwise lit_eq q.literals.items k.literals.items ≡ true = and_first (pointwise lit_eq q.literals.items k.literals.items) (eqb q.size k.size) h in
    (cubes_same q.literals.items k.literals.items first, eqb-true q.size k.size (and_second (pointwise lit_eq q.literals.items k.literals.items) (eqb q.size k.size) h))

-- ---- a literal that stands just before as well
pub stands_before : (c : List Atom) (xs : List Lit) (i : ℕ) (d : Lit) → 0 < i → i < length xs → get_or xs i d ≡ get_or xs (i - 1) d → IsTrue (cube_holds c (take i xs)) → IsTrue (lit_holds c (get_or xs i d))
stands_before c xs i d p l e h =
    let m : i - 1 < length (take i xs) = omega (arith, length-take i xs) in
    let before : lit_holds c (get_or (take i xs) (i - 1) d) ≡ true = AllPass-from_list_all (lit_holds c) (take i xs) h (i - 1) d m in
    let read : get_or (take i xs) (i - 1) d ≡ get_or xs i d = get_or-take i xs (i - 1) d (omega arith) ∙ sym e in
    subst (λ l. lit_holds c l ≡ true) read before

-- ---- literals in another order
module _ (p : Lit → Bool) where
  one_way : (xs ys : List Lit) → IsPermutation xs ys → list_all p xs ≡ true → list_all p ys ≡ true
  one_way xs ys h t =
      list_all-from_AllPass p ys (All-permutation (λ x. p x ≡ true) xs ys h (AllPass-from_list_all p xs t))

  pub all_permuted : (xs ys : List Lit) → IsPermutation xs ys → list_all p ys ≡ list_all p xs
  all_permuted xs ys h =
      same_truth (list_all p ys) (list_all p xs) (one_way ys xs (IsPermutation-sym xs ys h)) (one_way xs ys h)

-- ---- answers
abbrev pub AnswersAt : ℕ → List Lit → Option (Vec ℕ) → Type 0
AnswersAt n ls o =
    ((x : Vec ℕ) → o ≡ Some x → IsSampleOf n ls x.items) × (o ≡ None → IsUnmet n ls)

abbrev pub items_of : Option (Vec ℕ) → Option (List ℕ)
items_of o = option_map (λ v. v.items) o

-- of two answers with the same numbers
answers_copied : (n : ℕ) (ls : List Lit) (o p : Option (Vec ℕ)) → items_of o ≡ items_of p → AnswersAt n ls p → AnswersAt n ls o
answers_copied n ls (Some v) (Some w) e h =
    (λ x i. let f : w.items ≡ x.items = cc in subst (IsSampleOf n ls) f (h.0 w refl), λ i. absurd (cc))
answers_copied n ls (Some v) None e h = absurd (cc)
answers_copied n ls None (Some w) e h = absurd (cc)
answers_copied n ls None None e h = (λ x i. absurd (cc), λ i. h.1 refl)

module _ (n : ℕ) (k ls : List Lit) (same : (c : List Atom) → cube_holds c ls ≡ cube_holds c k) where
  sample_for : (s : List ℕ) → IsSampleOf n ls s → IsSampleOf n k s
  sample_for s h = record { count = h.count; small = h.small; met = sym (same (sampled s)) ∙ h.met }

  unmet_for : IsUnmet n ls → IsUnmet n k
  unmet_for f met = f (met.0, met.1, same met.0 ∙ met.2)

  pub answered_sample : (o p : Option (Vec ℕ)) → items_of o ≡ items_of p → AnswersAt n ls p → IfSome o (λ s. IsSampleOf n k s.items)
  answered_sample (Some v) p e h = sample_for v.items ((answers_copied n ls (Some v) p e h).0 v refl)
  answered_sample None p e h = tt

  pub answered_none : (o p : Option (Vec ℕ)) → items_of o ≡ items_of p → AnswersAt n ls p → IsNone o ↔ IsUnmet n k
  answered_none (Some v) p e h =
      (λ i. absurd (cc), λ f. absurd (f (satisfied_by n k v.items (sample_for v.items ((answers_copied n ls (Some v) p e h).0 v refl)))))
  answered_none None p e h = (λ i. unmet_for ((answers_copied n ls None p e h).1 refl), λ f. refl)

-- ---- entries that are right
module _ (test : Question → Bool) (q : Question) (same : (k : Question) → test k ≡ true → (q.literals.items ≡ k.literals.items) × (q.size ≡ k.size)) where
  for_same : (k : Question) (o : Option (Vec ℕ)) → test k ≡ true → Answers k o → Answers q o
  for_same k o t h =
      subst (λ n. AnswersAt n q.literals.items o) (sym (same k t).1) (subst (λ ls. AnswersAt k.size ls o) (sym (same k t).0) h)

  from_same : (k : Question) (o : Option (Vec ℕ)) → test k ≡ true → Answers q o → Answers k o
  from_same k o t h =
      subst (λ n. AnswersAt n k.literals.items o) (same k t).1 (subst (λ ls. AnswersAt q.size ls o) (same k t).0 h)

  pub found_right : (es : List (Question × Option (Vec ℕ))) (o : Option (Vec ℕ)) → All IsRightEntry es → Some o ≡ lookup test es → Answers q o
  found_right es o h e =
      let m = Contains-lookup test es o (sym e) in
      for_same m.0 o m.2 (All-contains IsRightEntry es (m.0, o) h m.1)

pub promoted_right : (test : Question → Bool) (es : List (Question × Option (Vec ℕ))) → All IsRightEntry es → All IsRightEntry (promoted test es)
promoted_right test es h = λ k d l.
    All-contains IsRightEntry es (get_or (promoted test es) k d) h (Contains-promoted test es (get_or (promoted test es) k d) (Contains-get_or (promoted test es) k d l))

module _ (eq : Question → Question → Bool) (c : LruCache Question (Option (Vec ℕ))) (q : Question) (o : Option (Vec ℕ)) (same : (k : Question) → eq q k ≡ true → (q.literals.items ≡ k.literals.items) × (q.size ≡ k.size)) (h : All IsRightEntry c.entries) (right : Answers q o) where
  put_right : (e : Question × Option (Vec ℕ)) → Contains c.entries e ⊎ IsPut eq c q o e → IsRightEntry e
  put_right e (inl was) = All-contains IsRightEntry c.entries e h was
  put_right e (inr (v, inl k)) =
      subst (λ x. Answers x e.1) (sym k) (subst (Answers q) (sym v) right)
  put_right e (inr (v, inr k)) =
      subst (Answers e.0) (sym v) (from_same (eq q) q same e.0 o k.2 right)

  all_put_right : All IsRightEntry (put_entries eq c q o)
  all_put_right = λ k d l.
      put_right (get_or (put_entries eq c q o) k d) (Contains-put_entries eq c q o (get_or (put_entries eq c q o) k d) (Contains-get_or (put_entries eq c q o) k d l))

  -- where there was memory for it, and where not
  pub kept_right : {T E : Type 0} (new : LruCache Question (Option (Vec ℕ))) (r : Result T E) → OnOk r (new ≡ lru_cache (put_entries eq c q o) c.cap) → OnErr r (new ≡ c) → All IsRightEntry new.entries
  kept_right new (Ok x) put err =
      subst (λ (d : LruCache Question (Option (Vec ℕ))). All IsRightEntry d.entries) (sym put) all_put_right
  kept_right new (Err x) put err =
      subst (λ (d : LruCache Question (Option (Vec ℕ))). All IsRightEntry d.entries) (sym err) h

pub copy_answers : (q : Question) (o p : Option (Vec ℕ)) → items_of o ≡ items_of p → Answers q p → Answers q o
copy_answers q o p e h = answers_copied q.size q.literals.items o p e h

pub answers_at : (n : ℕ) (q : Question) (o : Option (Vec ℕ)) → q.size ≡ n → Answers q o → AnswersAt n q.literals.items o
answers_at n q o e h = subst (λ m. AnswersAt m q.literals.items o) e h

-- ---- what is kept
pub put_or_not : (q : Question) (o answer : Option (Vec ℕ)) (before after : Kept) → items_of o ≡ items_of answer → {T E : Type 0} (r : Result T E) →
    OnOk r (after ≡ lru_cache (put_entries eq-value.it before q o) before.cap) → OnErr r (after ≡ before) → (after ≡ before) ⊎ HasPut q answer before after
put_or_not q o answer before after same (Ok x) put err =
    inr (record { copy = o; same = same; entries = ap (λ (d : Kept). d.entries) put })
put_or_not q o answer before after same (Err x) put err = inl err

module _ (n : ℕ) (cube : List Lit) (q : Question) (size : q.size ≡ n) (truth : (c : List Atom) → cube_holds c q.literals.items ≡ cube_holds c cube) (before after : Kept) where
  about : IsAbout n cube q
  about = record { size = size; truth = truth }

  pub used_kept : after.entries ≡ promoted (eq-value.it q) before.entries → KeepsAnswers n cube before after
  used_kept e = inr (q, about, inl e)

  pub put_kept : (answer : Option (Vec ℕ)) → (after ≡ before) ⊎ HasPut q answer before after → KeepsAnswers n cube before after
  put_kept answer (inl e) = inl (ap (λ (d : Kept). d.entries) e)
  put_kept answer (inr p) = inr (q, about, inr (p.copy, p.entries))

pub is_not : (b : Bool) → false ≡ not b → b ≡ true
is_not true h = refl
is_not false h = absurd (cc)
