-- Levels in the classes of their labels.
use Rattle.std.proofs.Common.{◌≡◌, ℕ, ◌+◌, ◌<◌, ◌⊎◌, inl, inr, Bool, true, false, List, [], ◌∷◌, ◌++◌, length, map, get_or, set, if◌then◌else◌, nat_eq, refl, sym, ap, ◌∙◌, subst, arith}
use Rattle.std.proofs.lemmas.Bool.{cases_eq, eqb-true}
use Rattle.std.proofs.lemmas.Grind.{same_number_lists}
use Rattle.std.proofs.lemmas.List.{get_or-map, length-map, length-set, get_or-set_same, get_or-set_other, get_or_default}
use Rattle.std.proofs.lemmas.List.Elements.{All-nil, All-append, All-weaker, Contains-append_left, Contains-append_right}
use Rattle.std.specs.List.{All, Contains}
use Rattle.smallvec.specs.SmallVec.{SmallVec}
use Rattle.lois_constraint.specs.Substitution.{put_level}
use Rattle.lois_deciders.specs.Labels.{AreClasses}

put_is : (x y : ℕ) → put_level x y x ≡ y
put_is x y = grind arith

put_not : (x y i : ℕ) → (i ≡ x → ⊥) → put_level x y i ≡ i
put_not x y i ne = go (nat_eq i x) (eqb-true i x)
  where
    go : (b : Bool) → (b ≡ true → i ≡ x) → (if b then y else i) ≡ i
    go true f = absurd (ne (f refl))
    go false f = refl

pub own_are_classes : (n : ℕ) (labels : List ℕ) (classes : List (SmallVec ℕ)) → length labels ≡ n → ((i : ℕ) → i < n → get_or labels i 0 ≡ i) → length classes ≡ n → ((i : ℕ) (d : SmallVec ℕ) → i < n → (get_or classes i d).items ≡ i ∷ []) → AreClasses labels classes
own_are_classes n labels classes count own many alone = record {
  count = many ∙ sym count;
  small = λ i l. omega (arith, l, own i (omega (arith, l, count)));
  sound = λ x d l. subst (All (λ i. (i < length labels) × (get_or labels i 0 ≡ x))) (sym (alone x d (omega (arith, l, count)))) (λ k e m. only x l k e m);
  complete = λ i d l. let at : get_or labels i 0 ≡ i = own i (omega (arith, l, count)) in
      subst (λ j. Contains (get_or classes j d).items i) (sym at) (subst (λ (xs : List ℕ). Contains xs i) (sym (alone i d (omega (arith, l, count)))) (0, omega arith, refl));
}
  where
    only : (x : ℕ) → x < length labels → (k e : ℕ) → k < length (x ∷ []) → (get_or (x ∷ []) k e < length labels) × (get_or labels (get_or (x ∷ []) k e) 0 ≡ x)
    only x l k e m =
        let z : 0 ≡ k = omega (arith, m) in
        subst (λ j. (get_or (x ∷ []) j e < length labels) × (get_or labels (get_or (x ∷ []) j e) 0 ≡ x)) z (l, own x (omega (arith, l, count)))

-- the levels of one class get another label, as far as they were read
pub record IsMoved (labels levels : List ℕ) (new i : ℕ) (next : List ℕ) : Type 0 where
  pub count : length next ≡ length labels
  pub read : (k : ℕ) → k < i → get_or next (get_or levels k 0) 0 ≡ new
  pub others : (j : ℕ) → ((k : ℕ) → k < i → get_or levels k 0 ≡ j → ⊥) → get_or next j 0 ≡ get_or labels j 0

pub nothing_moved : (labels levels : List ℕ) (new : ℕ) → IsMoved labels levels new 0 labels
nothing_moved labels levels new = record { count = refl; read = λ k l. absurd (omega arith); others = λ j f. refl }

pub one_moved : (labels levels : List ℕ) (new i : ℕ) (next : List ℕ) → get_or levels i 0 < length next → IsMoved labels levels new i next → IsMoved labels levels new (i + 1) (set next (get_or levels i 0) new)
one_moved labels levels new i next l h = record {
  count = length-set next (get_or levels i 0) new ∙ h.count;
  read = λ k m. at k m (cases_eq (get_or levels k 0) (get_or levels i 0));
  others = λ j f. get_or-set_other next (get_or levels i 0) j new 0 (λ e. f i (omega arith) (sym e)) ∙ h.others j (λ k m. f k (omega arith));
}
  where
    earlier : (k : ℕ) → k < i + 1 → (get_or levels k 0 ≡ get_or levels i 0 → ⊥) → (k ≡ i) ⊎ (k ≡ i → ⊥) → k < i
    earlier k m ne (inl e) = absurd (ne (ap (λ j. get_or levels j 0) e))
    earlier k m ne (inr f) = omega (arith, m, f)

    at : (k : ℕ) → k < i + 1 → (get_or levels k 0 ≡ get_or levels i 0) ⊎ (get_or levels k 0 ≡ get_or levels i 0 → ⊥) → get_or (set next (get_or levels i 0) new) (get_or levels k 0) 0 ≡ new
    at k m (inl e) =
        subst (λ j. get_or (set next (get_or levels i 0) new) j 0 ≡ new) (sym e) (get_or-set_same next (get_or levels i 0) new 0 l)
    at k m (inr ne) = get_or-set_other next (get_or levels i 0) (get_or levels k 0) new 0 ne ∙ h.read k (earlier k m ne (cases_eq k i))

module _ (labels : List ℕ) (classes : List (SmallVec ℕ)) (h : AreClasses labels classes) (old new : ℕ) (d : SmallVec ℕ) (old_small : old < length labels) (new_small : new < length labels) (apart : old ≡ new → ⊥) where
  abbrev levels : List ℕ
  levels = (get_or classes old d).items

  -- all of them
  pub all_moved : (next : List ℕ) (i : ℕ) → i ≡ length levels → IsMoved labels levels new i next → next ≡ map (put_level old new) labels
  all_moved next i l m = same_number_lists next (map (put_level old new) labels) (m.count ∙ sym (length-map labels (put_level old new))) (λ j k. at j (omega (arith, k, m.count)) (cases_eq (get_or labels j 0) old))
    where
      put : (j : ℕ) → j < length labels → get_or (map (put_level old new) labels) j 0 ≡ put_level old new (get_or labels j 0)
      put j k = get_or-map (put_level old new) labels j 0 0 k

      at : (j : ℕ) → j < length labels → (get_or labels j 0 ≡ old) ⊎ (get_or labels j 0 ≡ old → ⊥) → get_or next j 0 ≡ get_or (map (put_level old new) labels) j 0
      at j k (inl e) =
          let c : Contains levels j = subst (λ x. Contains (get_or classes x d).items j) e (h.complete j d k) in
          let r : get_or levels c.0 0 ≡ j = get_or_default levels c.0 0 j c.1 ∙ c.2 in
          subst (λ x. get_or next x 0 ≡ new) r (m.read c.0 (omega (arith, c.1, l))) ∙ sym (put j k ∙ (ap (put_level old new) e ∙ put_is old new))
      at j k (inr ne) = m.others j (λ c q e. let s : c < length levels = omega (arith, q, l) in ne (subst (λ x. get_or labels x 0 ≡ old) e (h.sound old d old_small c 0 s).1)) ∙ sym (put j k ∙ put_not old new (get_or labels j 0) ne)

  -- the class of the old label is empty then, and its levels have come to the other one
  module _ (after : List (SmallVec ℕ)) (many : length after ≡ length classes) (here : (e : SmallVec ℕ) → (get_or after new e).items ≡ (get_or classes new d).items ++ levels) (gone : (e : SmallVec ℕ) → (get_or after old e).items ≡ []) (same : (x : ℕ) (e : SmallVec ℕ) → (x ≡ old → ⊥) → (x ≡ new → ⊥) → get_or after x e ≡ get_or classes x e) where
    abbrev next : List ℕ
    next = map (put_level old new) labels

    abbrev IsOf : ℕ → ℕ → Type 0
    IsOf x i = (i < length next) × (get_or next i 0 ≡ x)

    next_at : (i : ℕ) → i < length labels → get_or next i 0 ≡ put_level old new (get_or labels i 0)
    next_at i l = get_or-map (put_level old new) labels i 0 0 l

    longer : (i : ℕ) → i < length labels → i < length next
    longer i l = omega (arith, l, length-map labels (put_level old new))

    shorter : (i : ℕ) → i < length next → i < length labels
    shorter i l = omega (arith, l, length-map labels (put_level old new))

    put_same : put_level old new new ≡ new
    put_same = put_not old new new (λ e. apart (sym e))

    stays : (x : ℕ) → (x ≡ old → ⊥) → (i : ℕ) → (i < length labels) × (get_or labels i 0 ≡ x) → IsOf x i
    stays x ne i (l, e) = (longer i l, next_at i l ∙ (ap (put_level old new) e ∙ put_not old new x ne))

    comes : (i : ℕ) → (i < length labels) × (get_or labels i 0 ≡ old) → IsOf new i
    comes i (l, e) = (longer i l, next_at i l ∙ (ap (put_level old new) e ∙ put_is old new))

    sound_now : (x : ℕ) (e : SmallVec ℕ) → x < length labels → (x ≡ old) ⊎ (x ≡ old → ⊥) → (x ≡ new) ⊎ (x ≡ new → ⊥) → All (IsOf x) (get_or after x e).items
    sound_now x e l (inl o) q =
        subst (λ j. All (IsOf x) (get_or after j e).items) (sym o) (subst (All (IsOf x)) (sym (gone e)) (All-nil (IsOf x)))
    sound_now x e l (inr ne) (inl o) =
        subst (λ j. All (IsOf j) (get_or after j e).items) (sym o) (subst (All (IsOf new)) (sym (here e)) (All-append (IsOf new) (get_or classes new d).items levels (All-weaker (λ i. (i < length labels) × (get_or labels i 0 ≡ new)) (IsOf new) (stays new (λ f. apart (sym f))) (get_or classes new d).items (h.sound new d new_small)) (All-weaker (λ i. (i < length labels) × (get_or labels i 0 ≡ old)) (IsOf new) comes levels (h.sound old d old_small))))
    sound_now x e l (inr ne) (inr nn) =
        subst (λ (c : SmallVec ℕ). All (IsOf x) c.items) (sym (same x e ne nn)) (All-weaker (λ i. (i < length labels) × (get_or labels i 0 ≡ x)) (IsOf x) (stays x ne) (get_or classes x e).items (h.sound x e l))

    complete_now : (i : ℕ) (e : SmallVec ℕ) → i < length labels → (get_or labels i 0 ≡ old) ⊎ (get_or labels i 0 ≡ old → ⊥) → (get_or labels i 0 ≡ new) ⊎ (get_or labels i 0 ≡ new → ⊥) → Contains (get_or after (put_level old new (get_or labels i 0)) e).items i
    complete_now i e l (inl o) q =
        let c : Contains levels i = subst (λ x. Contains (get_or classes x d).items i) o (h.complete i d l) in
        subst (λ j. Contains (get_or after j e).items i) (sym (ap (put_level old new) o ∙ put_is old new)) (subst (λ (xs : List ℕ). Contains xs i) (sym (here e)) (Contains-append_right (get_or classes new d).items levels i c))
    complete_now i e l (inr ne) (inl o) =
        let c : Contains (get_or classes new d).items i = subst (λ x. Contains (get_or classes x d).items i) o (h.complete i d l) in
        subst (λ j. Contains (get_or after j e).items i) (sym (ap (put_level old new) o ∙ put_same)) (subst (λ (xs : List ℕ). Contains xs i) (sym (here e)) (Contains-append_left (get_or classes new d).items levels i c))
    complete_now i e l (inr ne) (inr nn) =
        subst (λ j. Contains (get_or after j e).items i) (sym (put_not old new (get_or labels i 0) ne)) (subst (λ (c : SmallVec ℕ). Contains c.items i) (sym (same (get_or labels i 0) e ne nn)) (h.complete i e l))

    small_now : (i : ℕ) → i < length labels → (get_or labels i 0 ≡ old) ⊎ (get_or labels i 0 ≡ old → ⊥) → put_level old new (get_or labels i 0) < length labels
    small_now i l (inl o) = subst (λ x. x < length labels) (sym (ap (put_level old new) o ∙ put_is old new)) new_small
    small_now i l (inr ne) = subst (λ x. x < length labels) (sym (put_not old new (get_or labels i 0) ne)) (h.small i l)

    pub moved_classes : AreClasses next after
    moved_classes = record {
      count = many ∙ (h.count ∙ sym (length-map labels (put_level old new)));
      small = λ i l. let s = small_now i (shorter i l) (cases_eq (get_or labels i 0) old) in omega (arith, s, next_at i (shorter i l), length-map labels (put_level old new));
      sound = λ x e l. sound_now x e (shorter x l) (cases_eq x old) (cases_eq x new);
      complete = λ i e l. subst (λ j. Contains (get_or after j e).items i) (sym (next_at i (shorter i l))) (complete_now i e (shorter i l) (cases_eq (get_or labels i 0) old) (cases_eq (get_or labels i 0) new));
    }

  -- as the two classes are written
  pub moved_in_place : (emptied grown kept : SmallVec ℕ) → emptied.items ≡ [] → kept ≡ get_or (set classes old emptied) new kept → grown.items ≡ kept.items ++ levels → AreClasses (map (put_level old new) labels) (set (set classes old emptied) new grown)
  moved_in_place emptied grown kept empty was made =
      moved_classes (set (set classes old emptied) new grown) (length-set (set classes old emptied) new grown ∙ length-set classes old emptied)
      (λ e. ap (λ (c : SmallVec ℕ). c.items) (get_or-set_same (set classes old emptied) new grown e new_in) ∙ (made ∙ ap (λ (c : SmallVec ℕ). c.items ++ levels) was_there))
      (λ e. ap (λ (c : SmallVec ℕ). c.items) (get_or-set_other (set classes old emptied) new old grown e apart ∙ get_or-set_same classes old emptied e old_in) ∙ empty)
      (λ x e no nn. get_or-set_other (set classes old emptied) new x grown e nn ∙ get_or-set_other classes old x emptied e no)
    where
      old_in : old < length classes
      old_in = omega (arith, old_small, h.count)

      new_in : new < length (set classes old emptied)
      new_in = omega (arith, new_small, h.count, length-set classes old emptied)

      was_there : kept ≡ get_or classes new d
      was_there =
          was ∙ (get_or-set_other classes old new emptied kept (λ e. apart (sym e)) ∙ get_or_default classes new kept d (omega (arith, new_small, h.count)))
