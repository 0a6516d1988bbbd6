-- Families, one member after another.
use Rattle.std.proofs.Common.{◌≡◌, ℕ, zero, suc, ◌+◌, ◌<◌, ◌≤◌, nat_eq, Bool, true, false, List, [], ◌∷◌, ◌++◌, length, drop, get_or, map, refl, sym, ap, subst, ◌∙◌, arith}
use Rattle.std.specs.List.{All}
use Rattle.std.proofs.lemmas.Bool.{eqb-true, false≢true}
use Rattle.std.proofs.lemmas.List.{drop_all}
use Rattle.std.proofs.lemmas.List.Elements.{All-append}
use Rattle.lois_base.specs.Data.{TermD, CompD, comp, no_comps, more, comps_of}
use Rattle.lois_base.specs.Tree.{tree, comp_of}
use Rattle.lois_base.specs.declared.guards.Lit.{Lit}
use Rattle.lois_base.specs.declared.values.Comp.{Comp}
use Rattle.lois_base.specs.Validity.{AdmitsConstraint, AdmitsTerm, AdmitsItems, AdmitsComp}
use Rattle.lois_base.proofs.Connectives.{both_true}
use Rattle.lois_base.proofs.Viewed.{rest_is}
use Rattle.lois_base.proofs.Lists.{all_one}
use Rattle.lois_relate.proofs.Parts.{comps_from, comps_are, no_comps_left}
use Rattle.lois_rounds.specs.Families.{MemberD, FamilyD, AdmitsFamily, sizes}
use Rattle.lois_automata.specs.Built.{IsFirstMember, AreFirstMembers, IsFreshMember, AreFreshMembers, IsJoinedMember, AreJoinedMembers, IsEmptyFamily}
use Rattle.lois_automata.specs.Rounds.{is_over, held}
use Rattle.lois_automata.proofs.Lists.{Completes, completes_more, completes_end, completes_begin}

pub all_pushed : {X : Type 0} (P : X → Type 0) (xs ys : List X) (x : X) → ys ≡ xs ++ x ∷ [] → All P xs → P x → All P ys
all_pushed P xs ys x e h p = subst (λ z. All P z) (sym e) (All-append P xs (x ∷ []) h (all_one P x p))

-- ---- joined
pub record JoinedSoFar (f g : FamilyD) (i : ℕ) (done : FamilyD) : Type 0 where
  pub made : Completes (AreJoinedMembers (drop i f) (drop i g)) (AreJoinedMembers f g) done
  pub operators : (o : Bool) → AdmitsFamily o f → AdmitsFamily o g → AdmitsFamily o done

pub joined_begin : (f g done : FamilyD) → done ≡ [] → JoinedSoFar f g 0 done
joined_begin f g done e = record {
  made = completes_begin (AreJoinedMembers f g) done e;
  operators = λ o p q. subst (λ z. AdmitsFamily o z) (sym e) (λ k d l. absurd (omega arith));
}

pub joined_more : (f g done longer : FamilyD) (i : ℕ) (a b r : MemberD) → i < length f → i < length g → a ≡ get_or f i a → b ≡ get_or g i b → longer ≡ done ++ r ∷ [] → JoinedSoFar f g i done → IsJoinedMember a b r →
    ((o : Bool) → AdmitsConstraint o a.1 → AdmitsConstraint o b.1 → AdmitsConstraint o r.1) → JoinedSoFar f g (i + 1) longer
joined_more f g done longer i a b r l k is is' e h joined ops = record {
  made = completes_more (AreJoinedMembers (drop i f) (drop i g)) (AreJoinedMembers (drop (i + 1) f) (drop (i + 1) g)) (AreJoinedMembers f g) done longer r e h.made
      (λ rest t. subst (λ z. AreJoinedMembers z (drop i g) (r ∷ rest)) (sym (rest_is f i a l is)) (subst (λ z. AreJoinedMembers (a ∷ drop (i + 1) f) z (r ∷ rest)) (sym (rest_is g i b k is')) (joined, t)));
  operators = λ o p q. all_pushed (λ m. AdmitsConstraint o m.1) done longer r e (h.operators o p q)
      (ops o (subst (λ z. AdmitsConstraint o z.1) (sym is) (p i a l)) (subst (λ z. AdmitsConstraint o z.1) (sym is') (q i b k)));
}

pub joined_end : (f g done : FamilyD) (i : ℕ) → length f ≤ i → length g ≤ i → JoinedSoFar f g i done → AreJoinedMembers f g done
joined_end f g done i l k h =
    completes_end (AreJoinedMembers (drop i f) (drop i g)) (AreJoinedMembers f g) done h.made (subst (λ z. AreJoinedMembers z (drop i g) []) (sym (drop_all i f l)) (subst (λ z. AreJoinedMembers [] z []) (sym (drop_all i g k)) tt))

pub sizes_length : (f g : FamilyD) → sizes f ≡ sizes g → length f ≡ length g
sizes_length f g e = sym (len f) ∙ ap length e ∙ len g
  where
    len : (h : FamilyD) → length (sizes h) ≡ length h
    len [] = refl
    len (m ∷ h) = ap suc (len h)

pub size_at : (f g : FamilyD) (i : ℕ) (a b : MemberD) → sizes f ≡ sizes g → i < length f → a ≡ get_or f i a → b ≡ get_or g i b → a.0 ≡ b.0
size_at [] g i a b e l is is' = absurd (omega arith)
size_at (m ∷ f) [] i a b e l is is' = absurd (omega (arith, sizes_length (m ∷ f) [] e))
size_at (m ∷ f) (n ∷ g) zero a b e l is is' = ap (λ z. z.0) is ∙ first (sizes f) (sizes g) m.0 n.0 e ∙ sym (ap (λ z. z.0) is')
  where
    first : (xs ys : List ℕ) (x y : ℕ) → x ∷ xs ≡ y ∷ ys → x ≡ y
    first xs ys x y e = cc
size_at (m ∷ f) (n ∷ g) (suc i) a b e l is is' = size_at f g i a b (rest (sizes f) (sizes g) m.0 n.0 e) (omega arith) is is'
  where
    rest : (xs ys : List ℕ) (x y : ℕ) → x ∷ xs ≡ y ∷ ys → xs ≡ ys
    rest xs ys x y e = cc

-- ---- copied, and written alike
abbrev pub CopiedSoFar : FamilyD → ℕ → FamilyD → Type 0
CopiedSoFar f i done = Completes (λ rest. rest ≡ drop i f) (λ all. all ≡ f) done

pub copied_end : (f done : FamilyD) (i : ℕ) → length f ≤ i → CopiedSoFar f i done → done ≡ f
copied_end f done i l h = completes_end (λ rest. rest ≡ drop i f) (λ all. all ≡ f) done h (sym (drop_all i f l))

pub not_blank : (f : FamilyD) (i : ℕ) (m : MemberD) → i < length f → m ≡ get_or f i m → 0 < length m.1 → IsEmptyFamily f → ⊥
not_blank [] i m l is p h = absurd (omega arith)
not_blank (n ∷ f) zero m l is p h = absurd (omega (arith, ap (λ z. length z.1) is, ap length h.0))
not_blank (n ∷ f) (suc i) m l is p h = not_blank f i m (omega arith) is p h.1

-- ---- over the nodes
pub over_length : (n : ℕ) (vs : List CompD) (f : FamilyD) → is_over n (comps_of vs) f ≡ true → length f ≡ length vs
over_length n [] [] h = refl
over_length n [] (r ∷ f) h = absurd (false≢true h)
over_length n (comp m g t ∷ vs) [] h = absurd (false≢true h)
over_length n (comp m g t ∷ vs) (r ∷ f) h = ap suc (over_length n vs f ((both_true (nat_eq r.0 (n + m)) (is_over n (comps_of vs) f)).0 h).1)

pub over_at : (n : ℕ) (items : List Comp) (f : FamilyD) (i : ℕ) (k : Comp) (r : MemberD) → is_over n (comps_of (map comp_of items)) f ≡ true → i < length items → k ≡ get_or items i k → r ≡ get_or f i r → r.0 ≡ n + k.binders
over_at n [] f i k r h l is is' = absurd (omega arith)
over_at n (q ∷ items) [] i k r h l is is' = absurd (false≢true h)
over_at n (q ∷ items) (b ∷ f) zero k r h l is is' =
    ap (λ z. z.0) is' ∙ (eqb-true b.0 (n + q.binders) ((both_true (nat_eq b.0 (n + q.binders)) (is_over n (comps_of (map comp_of items)) f)).0 h).0 ∙ ap (λ z. n + z.binders) (sym is))
over_at n (q ∷ items) (b ∷ f) (suc i) k r h l is is' =
    over_at n items f i k r ((both_true (nat_eq b.0 (n + q.binders)) (is_over n (comps_of (map comp_of items)) f)).0 h).1 (omega arith) is is'

pub over_lengths : (n : ℕ) (vs : List CompD) (f : FamilyD) → (length f ≡ length vs → ⊥) → is_over n (comps_of vs) f ≡ false
over_lengths n vs f h = no_other (is_over n (comps_of vs) f) (λ e. h (over_length n vs f e))
  where
    no_other : (a : Bool) → (a ≡ true → ⊥) → a ≡ false
    no_other true h = absurd (h refl)
    no_other false h = refl

-- ---- held
abbrev pub HeldRest : List Comp → FamilyD → ℕ → List CompD → Type 0
HeldRest items f i rest = comps_of rest ≡ held (comps_from items i) (drop i f)

abbrev pub HeldSoFar : List Comp → FamilyD → ℕ → List CompD → Type 0
HeldSoFar items f i done = Completes (HeldRest items f i) (λ ks. comps_of ks ≡ held (comps_of (map comp_of items)) f) done

-- ---- fresh
module _ (n : ℕ) (u : List (List Lit)) (t : TermD) where
  pub record FreshSoFar (items : List Comp) (f : FamilyD) (i : ℕ) (done : FamilyD) : Type 0 where
    pub made : Completes (AreFreshMembers n u t (comps_from items i) (drop i f)) (AreFreshMembers n u t (comps_of (map comp_of items)) f) done
    pub operators : (o : Bool) → AdmitsItems o (comps_of (map comp_of items)) → AdmitsFamily o f → AdmitsTerm o t → AdmitsConstraint o u → AdmitsFamily o done

  pub fresh_more : (items : List Comp) (f : FamilyD) (i : ℕ) (k : Comp) (b r : MemberD) (done longer : FamilyD) → i < length items → i < length f → k ≡ get_or items i k → b ≡ get_or f i b →
      longer ≡ done ++ r ∷ [] → FreshSoFar items f i done → IsFreshMember n u t k.binders k.guard (tree k.item) b r →
      ((o : Bool) → AdmitsItems o (comps_of (map comp_of items)) → AdmitsComp o (comp_of k)) →
      ((o : Bool) → AdmitsComp o (comp_of k) → AdmitsConstraint o b.1 → AdmitsTerm o t → AdmitsConstraint o u → AdmitsConstraint o r.1) → FreshSoFar items f (i + 1) longer
  fresh_more items f i k b r done longer l l' is is' e h one admits ops = record {
    made = completes_more (AreFreshMembers n u t (comps_from items i) (drop i f)) (AreFreshMembers n u t (comps_from items (i + 1)) (drop (i + 1) f)) (AreFreshMembers n u t (comps_of (map comp_of items)) f) done longer r e h.made
        (λ rest s. subst (λ z. AreFreshMembers n u t z (drop i f) (r ∷ rest)) (sym (comps_are items i k l is)) (subst (λ z. AreFreshMembers n u t (more (comp_of k) (comps_from items (i + 1))) z (r ∷ rest)) (sym (rest_is f i b l' is')) (one, s)));
    operators = λ o a p q v. all_pushed (λ m. AdmitsConstraint o m.1) done longer r e (h.operators o a p q v)
        (ops o (admits o a) (subst (λ z. AdmitsConstraint o z.1) (sym is') (p i b l')) q v);
  }

  pub fresh_end : (items : List Comp) (f done : FamilyD) (i : ℕ) → length items ≤ i → length f ≤ i → FreshSoFar items f i done → AreFreshMembers n u t (comps_of (map comp_of items)) f done
  fresh_end items f done i l l' h =
      completes_end (AreFreshMembers n u t (comps_from items i) (drop i f)) (AreFreshMembers n u t (comps_of (map comp_of items)) f) done h.made
      (subst (λ z. AreFreshMembers n u t z (drop i f) []) (sym (no_comps_left items i l)) (subst (λ z. AreFreshMembers n u t no_comps z []) (sym (drop_all i f l')) tt))

  -- ---- first
  pub record FirstSoFar (items : List Comp) (i : ℕ) (done : FamilyD) : Type 0 where
    pub made : Completes (AreFirstMembers n u t (comps_from items i)) (AreFirstMembers n u t (comps_of (map comp_of items))) done
    pub operators : (o : Bool) → AdmitsItems o (comps_of (map comp_of items)) → AdmitsTerm o t → AdmitsConstraint o u → AdmitsFamily o done

  pub first_more : (items : List Comp) (i : ℕ) (k : Comp) (r : MemberD) (done longer : FamilyD) → i < length items → k ≡ get_or items i k →
      longer ≡ done ++ r ∷ [] → FirstSoFar items i done → IsFirstMember n u t (comp_of k) r →
      ((o : Bool) → AdmitsItems o (comps_of (map comp_of items)) → AdmitsComp o (comp_of k)) →
      ((o : Bool) → AdmitsComp o (comp_of k) → AdmitsTerm o t → AdmitsConstraint o u → AdmitsConstraint o r.1) → FirstSoFar items (i + 1) longer
  first_more items i k r done longer l is e h one admits ops = record {
    made = completes_more (AreFirstMembers n u t (comps_from items i)) (AreFirstMembers n u t (comps_from items (i + 1))) (AreFirstMembers n u t (comps_of (map comp_of items))) done longer r e h.made
        (λ rest s. subst (λ z. AreFirstMembers n u t z (r ∷ rest)) (sym (comps_are items i k l is)) (one, s));
    operators = λ o a q v. all_pushed (λ m. AdmitsConstraint o m.1) done longer r e (h.operators o a q v) (ops o (admits o a) q v);
  }

  pub first_end : (items : List Comp) (done : FamilyD) (i : ℕ) → length items ≤ i → FirstSoFar items i done → AreFirstMembers n u t (comps_of (map comp_of items)) done
  first_end items done i l h =
      completes_end (AreFirstMembers n u t (comps_from items i)) (AreFirstMembers n u t (comps_of (map comp_of items))) done h.made
      (subst (λ z. AreFirstMembers n u t z []) (sym (no_comps_left items i l)) tt)
