-- The round of the tests.
use Rattle.std.proofs.Common.{◌≡◌, ℕ, zero, suc, ◌+◌, ◌<◌, ◌≤◌, ◌⊎◌, inl, inr, Bool, true, false, ◌||◌, List, [], ◌∷◌, ◌++◌, map, length, get_or, drop, append_assoc, refl, ap, sym, ◌∙◌, subst, arith, Option, Some, None}
use Rattle.std.proofs.lemmas.List.{drop_more}
use Rattle.std.proofs.lemmas.List.Elements.{All-nil, All-cons, All-head, All-tail, All-append, All-map, AllZip-get_or}
use Rattle.std.proofs.lemmas.Bool.{cases_lt}
use Rattle.std.specs.List.{All, AllZip}
use Rattle.lois_base.proofs.Both.{holds_append, holds_both, all_both}
use Rattle.lois_base.proofs.Samples.{ranks, length_ranks, ranks_small, ranks_alike}
use Rattle.lois_base.proofs.Truths.{holds_ordered}
use Rattle.lois_base.specs.Atom.{Atom, whole}
use Rattle.lois_base.specs.Fits.{LitFits, CubeFits, ConstraintFits}
use Rattle.lois_base.specs.Normal.{both}
use Rattle.lois_base.specs.Truth.{holds, sampled}
use Rattle.lois_base.specs.Validity.{AdmitsLit, AdmitsCube, AdmitsConstraint}
use Rattle.lois_base.specs.declared.guards.Lit.{Lit}
use Rattle.lois_rounds.specs.Families.{MemberD, MemberFits, FamilyD, FamilyFits, AdmitsFamily, IsEquivalent, IsWeakened, AreEquivalent, AreWeakened}
use Rattle.lois_rounds.specs.Rounds.{LeavesEquivalent, OnlyWeakens, OnlyStrengthens}
use Rattle.lois_vectors_rounds.specs.Worked.{joined, joined_where, are_linked, linked, chained_from, chained, Chains, AgreeAt, AgreeOnSamples, MembersAgree, EachAgrees}
use Rattle.lois_vectors_rounds.specs.WorkedLaw.{and_left, linked_size}
use Rattle.lois_rounds.specs.Equivalences.{equivalent_refl, equivalent_sym, equivalent_trans}

-- ---- members grow or shrink
or_left : (p q : Bool) → p ≡ true → (p || q) ≡ true
or_left true q h = refl
or_left false q h = absurd (cc)

linked_weaker : (o : Option MemberD) (m : MemberD) → IsWeakened m (linked true o m)
linked_weaker None m = record { size = refl; truth = λ c l h. h }
linked_weaker (Some p) m = go (are_linked p m)
  where
    go : (b : Bool) → IsWeakened m (joined_where b true p m)
    go true =
        record { size = refl; truth = λ c l h. rw (holds_append c m.1 p.1) (or_left (holds c m.1) (holds c p.1) h) }
    go false = record { size = refl; truth = λ c l h. h }

linked_stronger : (o : Option MemberD) (m : MemberD) → IsWeakened (linked false o m) m
linked_stronger None m = record { size = refl; truth = λ c l h. h }
linked_stronger (Some p) m = go (are_linked p m)
  where
    go : (b : Bool) → IsWeakened (joined_where b false p m) m
    go true =
        record { size = refl; truth = λ c l h. and_left (holds c m.1) (holds c p.1) (sym (holds_both c m.1 p.1) ∙ h) }
    go false = record { size = refl; truth = λ c l h. h }

chained_weaker : (o : Option MemberD) (f : FamilyD) → AreWeakened f (chained_from true o f)
chained_weaker o [] = tt
chained_weaker o (m ∷ f) = (linked_weaker o m, chained_weaker (Some m) f)

chained_stronger : (o : Option MemberD) (f : FamilyD) → AreWeakened (chained_from false o f) f
chained_stronger o [] = tt
chained_stronger o (m ∷ f) = (linked_stronger o m, chained_stronger (Some m) f)

weakened_equivalent : (f g h : FamilyD) → AreWeakened f g → AreEquivalent g h → AreWeakened f h
weakened_equivalent [] [] [] a b = tt
weakened_equivalent [] [] (o ∷ h) a b = absurd b
weakened_equivalent [] (n ∷ g) h a b = absurd a
weakened_equivalent (m ∷ f) [] h a b = absurd a
weakened_equivalent (m ∷ f) (n ∷ g) [] a b = absurd b
weakened_equivalent (m ∷ f) (n ∷ g) (o ∷ h) a b = (
  record {
    size = a.0.size ∙ b.0.size;
    truth = λ c l x. sym (b.0.truth c (l ∙ a.0.size)) ∙ a.0.truth c l x;
  },
  weakened_equivalent f g h a.1 b.1,
)

equivalent_weakened : (f g h : FamilyD) → AreEquivalent g f → AreWeakened g h → AreWeakened f h
equivalent_weakened [] [] h a b = b
equivalent_weakened [] (n ∷ g) h a b = absurd a
equivalent_weakened (m ∷ f) [] h a b = absurd a
equivalent_weakened (m ∷ f) (n ∷ g) [] a b = absurd b
equivalent_weakened (m ∷ f) (n ∷ g) (o ∷ h) a b = (
  record {
    size = sym a.0.size ∙ b.0.size;
    truth = λ c l x. let k = l ∙ sym a.0.size in b.0.truth c k (a.0.truth c k ∙ x);
  },
  equivalent_weakened f g h a.1 b.1,
)

pub chains_weaken : OnlyWeakens (Chains true)
chains_weaken f g fits led = weakened_equivalent f (chained true f) g (chained_weaker None f) led

pub chains_strengthen : OnlyStrengthens (Chains false)
chains_strengthen f g fits led = equivalent_weakened g (chained false f) f led (chained_stronger None f)

joined_fits : (grows : Bool) (n : ℕ) (g h : List (List Lit)) → ConstraintFits n g → ConstraintFits n h → ConstraintFits n (joined grows g h)
joined_fits true n g h a b = All-append (CubeFits n) g h a b
joined_fits false n g h a b = all_both (LitFits n) g h a b

linked_fits : (grows : Bool) (p m : MemberD) → MemberFits p → MemberFits m → MemberFits (linked grows (Some p) m)
linked_fits grows p m p_fits m_fits = go (are_linked p m) (linked_size p m)
  where
    go : (b : Bool) → (b ≡ true → p.0 ≡ m.0) → MemberFits (joined_where b grows p m)
    go true same =
        joined_fits grows m.0 m.1 p.1 m_fits (subst (λ n. ConstraintFits n p.1) (same refl) p_fits)
    go false same = m_fits

abbrev pub OptionFits : Option MemberD → Type 0
OptionFits None = Unit {0}
OptionFits (Some p) = MemberFits p

pub link_fits : (grows : Bool) (o : Option MemberD) (m : MemberD) → OptionFits o → MemberFits m → MemberFits (linked grows o m)
link_fits grows None m p_fits m_fits = m_fits
link_fits grows (Some p) m p_fits m_fits = linked_fits grows p m p_fits m_fits

-- ---- samples decide whether a round changes nothing
zero_is : (x : ℕ) → x < 1 → x ≡ 0
zero_is x l = omega arith

bit_is : (x : ℕ) → x < 2 → (x ≡ 0) ⊎ (x ≡ 1)
bit_is x l = elim (cases_lt x 1) [ inl lt ↦ inl (zero_is x lt) | inr ge ↦ inr (omega arith) ]

agree_at_pair : (g h : List (List Lit)) (x y : ℕ) → x < 2 → y < 2 → AgreeOnSamples 2 g h → AgreeAt (x ∷ (y ∷ [])) g h
agree_at_pair g h x y k l a =
    elim (bit_is x k) [
      | inl e ↦ elim (bit_is y l) [ inl d ↦ rw (e, d) a.0 | inr d ↦ rw (e, d) a.1 ]
      | inr e ↦ elim (bit_is y l) [ inl d ↦ rw (e, d) a.2 | inr d ↦ rw (e, d) a.3 ]
    ]

agree_at_each : (n : ℕ) (g h : List (List Lit)) (s : List ℕ) → n ≤ 2 → length s ≡ n → All (λ i. i < n) s → AgreeOnSamples n g h → AgreeAt s g h
agree_at_each zero g h [] l e small a = a
agree_at_each zero g h (x ∷ s) l e small a = absurd (omega arith)
agree_at_each (suc zero) g h [] l e small a = absurd (omega arith)
agree_at_each (suc zero) g h (x ∷ []) l e small a = rw (zero_is x (All-head (λ i. i < 1) x [] small)) a
agree_at_each (suc zero) g h (x ∷ (y ∷ s)) l e small a = absurd (omega arith)
agree_at_each (suc (suc zero)) g h [] l e small a = absurd (omega arith)
agree_at_each (suc (suc zero)) g h (x ∷ []) l e small a = absurd (omega arith)
agree_at_each (suc (suc zero)) g h (x ∷ (y ∷ [])) l e small a =
    let below = λ (i : ℕ). i < 2 in
    agree_at_pair g h x y (All-head below x (y ∷ []) small) (All-head below y [] (All-tail below x (y ∷ []) small)) a
agree_at_each (suc (suc zero)) g h (x ∷ (y ∷ (z ∷ s))) l e small a = absurd (omega arith)
agree_at_each (suc (suc (suc n))) g h s l e small a = absurd (omega arith)

agree_everywhere : (n : ℕ) (g h : List (List Lit)) → n ≤ 2 → ConstraintFits n g → ConstraintFits n h → AgreeOnSamples n g h → (c : List Atom) → length c ≡ n → holds c g ≡ holds c h
agree_everywhere n g h l g_fits h_fits a c count =
    let small : All (λ i. i < n) (ranks c) = subst (λ k. All (λ i. i < k) (ranks c)) count (ranks_small c) in
    holds_ordered c (sampled (ranks c)) (ranks_alike c) g (subst (λ k. ConstraintFits k g) (sym count) g_fits)
    ∙ agree_at_each n g h (ranks c) l (length_ranks c ∙ count) small a
    ∙ sym (holds_ordered c (sampled (ranks c)) (ranks_alike c) h (subst (λ k. ConstraintFits k h) (sym count) h_fits))

agree_if_same : (n : ℕ) (g h : List (List Lit)) → ((c : List Atom) → length c ≡ n → holds c g ≡ holds c h) → AgreeOnSamples n g h
agree_if_same zero g h same = same [] refl
agree_if_same (suc zero) g h same = same (sampled (0 ∷ [])) refl
agree_if_same (suc (suc zero)) g h same = (
  same (sampled (0 ∷ 0 ∷ [])) refl,
  same (sampled (0 ∷ 1 ∷ [])) refl,
  same (sampled (1 ∷ 0 ∷ [])) refl,
  same (sampled (1 ∷ 1 ∷ [])) refl,
)
agree_if_same (suc (suc (suc n))) g h same = tt

linked_agrees : (grows : Bool) (o : Option MemberD) (m : MemberD) → MemberFits m → MemberFits (linked grows o m) → AgreeOnSamples m.0 m.1 (linked grows o m).1 → IsEquivalent m (linked grows o m)
linked_agrees grows None m m_fits fits a = record { size = refl; truth = λ c l. refl }
linked_agrees grows (Some p) m m_fits fits a = go (are_linked p m) (λ h. grind arith) fits a
  where
    go : (b : Bool) → (b ≡ true → m.0 ≤ 2) → MemberFits (joined_where b grows p m) → AgreeOnSamples m.0 m.1 (joined_where b grows p m).1 → IsEquivalent m (joined_where b grows p m)
    go true l fits a =
        record { size = refl; truth = agree_everywhere m.0 m.1 (joined grows m.1 p.1) (l refl) m_fits fits a }
    go false l fits a = record { size = refl; truth = λ c l. refl }

chained_agrees : (grows : Bool) (o : Option MemberD) (f : FamilyD) → FamilyFits f → FamilyFits (chained_from grows o f) → AllZip MembersAgree f (chained_from grows o f) → AreEquivalent f (chained_from grows o f)
chained_agrees grows o [] f_fits fits a = tt
chained_agrees grows o (m ∷ f) f_fits fits a = (
  linked_agrees grows o m (All-head MemberFits m f f_fits) (All-head MemberFits (linked grows o m) (chained_from grows (Some m) f) fits) a.0.1,
  chained_agrees grows (Some m) f (All-tail MemberFits m f f_fits) (All-tail MemberFits (linked grows o m) (chained_from grows (Some m) f) fits) a.1,
)

agree_if_equivalent : (f g : FamilyD) → AreEquivalent f g → AllZip MembersAgree f g
agree_if_equivalent [] [] h = tt
agree_if_equivalent [] (n ∷ g) h = absurd h
agree_if_equivalent (m ∷ f) [] h = absurd h
agree_if_equivalent (m ∷ f) (n ∷ g) h = ((h.0.size, agree_if_same m.0 m.1 n.1 h.0.truth), agree_if_equivalent f g h.1)

-- the same by index
agree-each : (f g : FamilyD) → length f ≡ length g → EachAgrees f g → AllZip MembersAgree f g
agree-each [] [] l a = tt
agree-each [] (n ∷ g) l a = absurd (omega arith)
agree-each (m ∷ f) [] l a = absurd (omega arith)
agree-each (m ∷ f) (n ∷ g) l a =
    (a 0 m (omega arith), agree-each f g (omega arith) (λ k d h. a (suc k) d (omega arith)))

length-chained_from : (grows : Bool) (o : Option MemberD) (f : FamilyD) → length (chained_from grows o f) ≡ length f
length-chained_from grows o [] = refl
length-chained_from grows o (m ∷ f) = ap suc (length-chained_from grows (Some m) f)

pub length-chained : (grows : Bool) (f : FamilyD) → length f ≡ length (chained grows f)
length-chained grows f = sym (length-chained_from grows None f)

-- a round leaves every member equivalent exactly where each agrees with what it becomes
pub leaves_where_agreed : (grows : Bool) (f : FamilyD) → FamilyFits f → FamilyFits (chained grows f) → EachAgrees f (chained grows f) → LeavesEquivalent (Chains grows) f
leaves_where_agreed grows f fits next_fits each = (
  chained grows f,
  equivalent_refl (chained grows f),
  chained_agrees grows None f fits next_fits (agree-each f (chained grows f) (length-chained grows f) each),
)

pub agreed_where_left : (grows : Bool) (f : FamilyD) → LeavesEquivalent (Chains grows) f → EachAgrees f (chained grows f)
agreed_where_left grows f leaves k d l =
    AllZip-get_or MembersAgree f (chained grows f) k d d (agree_if_equivalent f (chained grows f) (equivalent_trans f leaves.0 (chained grows f) leaves.2 (equivalent_sym (chained grows f) leaves.0 leaves.1))) l

linked-size : (grows : Bool) (o : Option MemberD) (m : MemberD) → (linked grows o m).0 ≡ m.0
linked-size grows None m = refl
linked-size grows (Some p) m = go (are_linked p m)
  where
    go : (b : Bool) → (joined_where b grows p m).0 ≡ m.0
    go true = refl
    go false = refl

pub sizes-chained_from : (grows : Bool) (o : Option MemberD) (f : FamilyD) → map (λ n. n.0) (chained_from grows o f) ≡ map (λ n. n.0) f
sizes-chained_from grows o [] = refl
sizes-chained_from grows o (m ∷ f) = rw (linked-size grows o m, sizes-chained_from grows (Some m) f)

-- ---- the operators are those of the family
joined_admitted : (ordered grows : Bool) (g h : List (List Lit)) → AdmitsConstraint ordered g → AdmitsConstraint ordered h → AdmitsConstraint ordered (joined grows g h)
joined_admitted ordered true g h a b = All-append (AdmitsCube ordered) g h a b
joined_admitted ordered false g h a b = all_both (AdmitsLit ordered) g h a b

abbrev MemberAdmits : Bool → MemberD → Type 0
MemberAdmits ordered m = AdmitsConstraint ordered m.1

abbrev OptionAdmits : Bool → Option MemberD → Type 0
OptionAdmits ordered None = Unit {0}
OptionAdmits ordered (Some p) = MemberAdmits ordered p

linked_admitted : (ordered grows : Bool) (o : Option MemberD) (m : MemberD) → OptionAdmits ordered o → MemberAdmits ordered m → MemberAdmits ordered (linked grows o m)
linked_admitted ordered grows None m before own = own
linked_admitted ordered grows (Some p) m before own = go (are_linked p m)
  where
    go : (b : Bool) → MemberAdmits ordered (joined_where b grows p m)
    go true = joined_admitted ordered grows m.1 p.1 own before
    go false = own

pub chained_admitted : (ordered grows : Bool) (o : Option MemberD) (f : FamilyD) → OptionAdmits ordered o → AdmitsFamily ordered f → AdmitsFamily ordered (chained_from grows o f)
chained_admitted ordered grows o [] before own = All-nil (MemberAdmits ordered)
chained_admitted ordered grows o (m ∷ f) before own =
    All-cons (MemberAdmits ordered) (linked grows o m) (chained_from grows (Some m) f)
    (linked_admitted ordered grows o m before (All-head (MemberAdmits ordered) m f own))
    (chained_admitted ordered grows (Some m) f (All-head (MemberAdmits ordered) m f own) (All-tail (MemberAdmits ordered) m f own))

pub chained_step : (grows : Bool) (f next whole : FamilyD) (o : Option MemberD) (i : ℕ) (m : MemberD) → i < length f → m ≡ get_or f i m → next ++ chained_from grows o (drop i f) ≡ whole → (next ++ linked grows o m ∷ []) ++ chained_from grows (Some m) (drop (i + 1) f) ≡ whole
chained_step grows f next whole o i m l is h =
    let rest : drop i f ≡ m ∷ drop (i + 1) f = drop_more f i m l ∙ ap (λ x. x ∷ drop (i + 1) f) (sym is) in
    append_assoc next (linked grows o m ∷ []) (chained_from grows (Some m) (drop (i + 1) f)) ∙ subst (λ d. next ++ chained_from grows o d ≡ whole) rest h
