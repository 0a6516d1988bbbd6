-- What one round of the code makes is one round.
use Rattle.std.proofs.Common.{◌≡◌, ℕ, ◌+◌, ◌<◌, Bool, true, false, ◌⊎◌, inl, inr, List, [], ◌∷◌, ◌++◌, length, take, drop, refl, sym, ap, subst, ◌∙◌, arith}
use Rattle.std.proofs.lemmas.List.{take-append-drop, length-take, length-drop}
use Rattle.std.proofs.lemmas.List.Elements.{All-cons, All-head, All-tail}
use Rattle.std.proofs.lemmas.Bool.{false≢true}
use Rattle.std.specs.Bool.{IsTrue}
use Rattle.lois_base.specs.Atom.{Atom}
use Rattle.lois_base.specs.Data.{TermD, coll, comp, CompsD, no_comps, more}
use Rattle.lois_base.specs.Fits.{ConstraintFits, ItemsFit}
use Rattle.lois_base.specs.Validity.{AdmitsCube, AdmitsConstraint, AdmitsItems, ItemsHaveBoundedWidths}
use Rattle.lois_base.specs.Truth.{holds}
use Rattle.lois_base.specs.Values.{PointValue, point, IsIn}
use Rattle.lois_base.specs.declared.guards.Lit.{Lit}
use Rattle.lois_base.proofs.Lists.{all_right}
use Rattle.lois_constraint.proofs.Listed.{met_at}
use Rattle.lois_algebra.specs.Gathered.{IsAmong}
use Rattle.lois_algebra.proofs.Among.{among_in}
use Rattle.lois_rounds.specs.Families.{MemberD, FamilyD, MemberFits, FamilyFits, AdmitsFamily, AreEquivalent, IsEquivalent, AreWeakened, sizes}
use Rattle.lois_rounds.specs.Equivalences.{equivalent_refl}
use Rattle.lois_rounds.specs.Rounds.{LeavesEquivalent}
use Rattle.lois_automata.specs.Built.{AreTargets, IsFreshMember, AreFreshMembers, IsJoinedMember, AreJoinedMembers, IsEmptyFamily}
use Rattle.lois_automata.specs.Rounds.{RoundParameters, is_over, held, IsLedTo, IsPropagatedMember, ArePropagated, PropagatesIf, Propagates, IsSettledMember, AreSettled, IsSettled}
use Rattle.lois_automata.specs.RoundsLaw.{IsOver, is_over_true, held_weaker, equal_weakened}
use Rattle.lois_automata.specs.Reachability.{LeadsTo}
use Rattle.lois_automata.proofs.Propagated.{spreads_where, where_spreads}

-- true or not
decide : (a : Bool) → IsTrue a ⊎ (IsTrue a → ⊥)
decide true = inl refl
decide false = inr (λ h. false≢true h)

-- what is held of f joined with r is held of one of them
held_joined : (ks : CompsD) (f r a : FamilyD) (c : List Atom) (w : PointValue) → AreJoinedMembers f r a → IsAmong (held ks a) c w → IsAmong (held ks f) c w ⊎ IsAmong (held ks r) c w
held_joined no_comps f r a c w joined h = absurd h
held_joined (more (comp m g t) ks) [] [] [] c w joined h = absurd h
held_joined (more (comp m g t) ks) (p ∷ f) (q ∷ r) (s ∷ a) c w joined h = elim h [
  | inl (e, ext, same) ↦
      elim ((joined.0.truth (c ++ e)).0 ext.guard) [
        | inl i ↦ inl (inl (e, record { count = ext.count; guard = i }, same))
        | inr i ↦ inr (inl (e, record { count = ext.count; guard = i }, same))
      ]
  | inr i ↦ elim (held_joined ks f r a c w joined.1 i) [ inl j ↦ inl (inr j) | inr j ↦ inr (inr j) ]
]
held_joined _ _ _ _ c w joined h = absurd (assumption joined)

-- the operators of r are among those of f joined with r
joined_admits : (o : Bool) (f r a : FamilyD) → AreJoinedMembers f r a → AdmitsFamily o a → AdmitsFamily o r
joined_admits o [] [] [] joined h = h
joined_admits o (p ∷ f) (q ∷ r) (s ∷ a) joined h =
    All-cons (λ m. AdmitsConstraint o m.1) q r
    (all_right (AdmitsCube o) p.1 q.1 (subst (λ z. AdmitsConstraint o z) joined.0.cubes (All-head (λ m. AdmitsConstraint o m.1) s a h)))
    (joined_admits o f r a joined.1 (All-tail (λ m. AdmitsConstraint o m.1) s a h))
joined_admits _ _ _ _ joined h = absurd (assumption joined)

pub weakened_sizes : (g f : FamilyD) → AreWeakened g f → sizes g ≡ sizes f
weakened_sizes [] [] h = refl
weakened_sizes (a ∷ g) (b ∷ f) h = rw (h.0.size, weakened_sizes g f h.1)
weakened_sizes _ _ h = absurd (assumption h)

module _ (x : RoundParameters) (f g : FamilyD) (targets : TermD) (are : AreTargets x.size x.moves (coll (held x.nodes g)) targets) (within : AreWeakened g f) (g_over : IsOver x.size x.nodes g) where
  led_from : (c : List Atom) → length c ≡ x.size → (w : PointValue) → IsIn w (point targets c) → (p : PointValue) × IsAmong (held x.nodes g) c p × LeadsTo (point x.moves c) p w
  led_from c l w i =
      let t = (are c l w).0 i in
      (t.0, (among_in (held x.nodes g) c t.0).1 t.1, t.2)

  from_led : (c : List Atom) → length c ≡ x.size → (w : PointValue) → ((p : PointValue) × IsAmong (held x.nodes g) c p × LeadsTo (point x.moves c) p w) → IsIn w (point targets c)
  from_led c l w (p, i, lead) = (are c l w).1 (p, (among_in (held x.nodes g) c p).0 i, lead)

  -- what is led to is held already or fresh
  old_or_fresh : (m : ℕ) (q : List (List Lit)) (t : TermD) (b r : MemberD) → IsFreshMember x.size x.under targets m q t b r → IsSettledMember x f g m q t b → (c e : List Atom) → length c ≡ x.size → length e ≡ m → IsLedTo x f q t c e → IsTrue (holds (c ++ e) b.1) ⊎ IsTrue (holds (c ++ e) r.1)
  old_or_fresh m q t b r fresh settled c e k l led = elim (decide (holds (c ++ e) b.1)) [
    | inl p ↦ inl p
    | inr p ↦ elim (decide (holds (c ++ e) r.1)) [
      | inl i ↦ inr i
      | inr i ↦ absurd (p (settled c e k l led (λ new. i ((fresh.truth c e k l).1 (new.admitted, new.guard, from_led c k (point t (c ++ e)) new.from, p)))))
    ]
  ]

  fresh_led : (m : ℕ) (q : List (List Lit)) (t : TermD) (b r : MemberD) → IsFreshMember x.size x.under targets m q t b r → (c e : List Atom) → length c ≡ x.size → length e ≡ m → IsTrue (holds (c ++ e) r.1) → IsLedTo x f q t c e
  fresh_led m q t b r fresh c e k l h =
      let y = (fresh.truth c e k l).0 h in
      let new = led_from c k (point t (c ++ e)) y.2 in
      record { admitted = y.0; guard = y.1; from = (new.0, held_weaker x.size x.nodes g f c new.0 k g_over within new.1, new.2) }

  joined_one : (m : ℕ) (q : List (List Lit)) (t : TermD) (b r a : MemberD) → IsFreshMember x.size x.under targets m q t b r → IsSettledMember x f g m q t b → IsJoinedMember b r a → IsPropagatedMember x f m q t b a
  joined_one m q t b r a fresh settled joined = record {
    size = joined.size;
    truth = λ c e k l. (
      λ h. elim ((joined.truth (c ++ e)).0 h) [ inl p ↦ inl p | inr p ↦ inr (fresh_led m q t b r fresh c e k l p) ],
      λ h. (joined.truth (c ++ e)).1 (elim h [ inl p ↦ inl p | inr p ↦ old_or_fresh m q t b r fresh settled c e k l p ]),
    );
  }

  joined_spread : (ks : CompsD) (b r a : FamilyD) → AreFreshMembers x.size x.under targets ks b r → AreSettled x f g ks b → AreJoinedMembers b r a → ArePropagated x f ks b a
  joined_spread no_comps [] [] [] fresh settled joined = tt
  joined_spread (more (comp m q t) ks) (p ∷ b) (o ∷ r) (s ∷ a) fresh settled joined = (joined_one m q t p o s fresh.0 settled.0 joined.0, joined_spread ks b r a fresh.1 settled.1 joined.1)
  joined_spread _ _ _ _ fresh settled joined = absurd (assumption (fresh, joined))

  blank_spread : (ks : CompsD) (b r : FamilyD) → AreFreshMembers x.size x.under targets ks b r → AreSettled x f g ks b → IsEmptyFamily r → ArePropagated x f ks b b
  blank_spread no_comps [] [] fresh settled blank = tt
  blank_spread (more (comp m q t) ks) (p ∷ b) (o ∷ r) fresh settled blank = (
    record {
      size = refl;
      truth = λ c e k l. (
        λ h. inl h,
        λ h. elim h [
          | inl y ↦ y
          | inr y ↦ elim (old_or_fresh m q t p o fresh.0 settled.0 c e k l y) [
            | inl z ↦ z
            | inr z ↦ absurd (false≢true (subst (λ w. IsTrue (holds (c ++ e) w)) blank.0 z))
          ]
        ],
      );
    },
    blank_spread ks b r fresh.1 settled.1 blank.1,
  )
  blank_spread _ _ _ fresh settled blank = absurd (assumption fresh)

  -- where a round changes nothing, nothing is fresh
  no_cubes : (m : ℕ) (q : List (List Lit)) (t : TermD) (b r a : MemberD) (ks : List (List Lit)) → r.1 ≡ ks → b.0 ≡ x.size + m → MemberFits r → IsFreshMember x.size x.under targets m q t b r → IsPropagatedMember x f m q t b a → IsEquivalent b a → ks ≡ []
  no_cubes m q t b r a [] is over fits fresh spread same = refl
  no_cubes m q t b r a (k ∷ ks) is over fits fresh spread same =
      let n = x.size + m in
      let some : 0 < length r.1 = rw is (omega arith) in
      let found = met_at n r.1 (subst (λ z. ConstraintFits z r.1) (fresh.size ∙ over) fits) fresh.pruned some in
      let d = found.0 in
      let c = take x.size d in
      let e = drop x.size d in
      let lc : length c ≡ x.size = length-take x.size d ∙ omega (arith, found.1) in
      let le : length e ≡ m = length-drop x.size d ∙ omega (arith, found.1) in
      let joint : c ++ e ≡ d = take-append-drop x.size d in
      let here : IsTrue (holds (c ++ e) r.1) = subst (λ z. IsTrue (holds z r.1)) (sym joint) found.2 in
      let all : length (c ++ e) ≡ b.0 = ap length joint ∙ (found.1 ∙ sym over) in
      let after : IsTrue (holds (c ++ e) a.1) = (spread.truth c e lc le).1 (inr (fresh_led m q t b r fresh c e lc le here)) in
      absurd (((fresh.truth c e lc le).0 here).3 (same.truth (c ++ e) all ∙ after))

  same_blank : (ks : CompsD) (b r a : FamilyD) → IsOver x.size ks b → FamilyFits r → AreFreshMembers x.size x.under targets ks b r → ArePropagated x f ks b a → AreEquivalent b a → IsEmptyFamily r
  same_blank no_comps [] [] [] over fits fresh spread same = tt
  same_blank (more (comp m q t) ks) (p ∷ b) (o ∷ r) (s ∷ a) over fits fresh spread same =
      (no_cubes m q t p o s o.1 refl over.0 (All-head MemberFits o r fits) fresh.0 spread.0 same.0, same_blank ks b r a over.1 (All-tail MemberFits o r fits) fresh.1 spread.1 same.1)
  same_blank _ _ _ _ over fits fresh spread same = absurd (assumption (over, fresh, spread))

  fresh_within : (ks : CompsD) (b r a : FamilyD) → AreFreshMembers x.size x.under targets ks b r → AreJoinedMembers b r a → AreWeakened r a
  fresh_within no_comps [] [] [] fresh joined = tt
  fresh_within (more (comp m q t) ks) (p ∷ b) (o ∷ r) (s ∷ a) fresh joined =
      (record { size = fresh.0.size ∙ sym joined.0.size; truth = λ c l h. (joined.0.truth c).1 (inr h) }, fresh_within ks b r a fresh.1 joined.1)
  fresh_within _ _ _ _ fresh joined = absurd (assumption (fresh, joined))

  module _ (over : is_over x.size x.nodes f ≡ true) (settled : AreSettled x f g x.nodes f) (fresh : FamilyD) (fits : FamilyFits fresh) (are_fresh : AreFreshMembers x.size x.under targets x.nodes f fresh) where
    pub led_on : (h : FamilyD) → AreJoinedMembers f fresh h → Propagates x f h
    led_on h joined = where_spreads x f h over (joined_spread x.nodes f fresh h are_fresh settled joined)

    pub left_alone : IsEmptyFamily fresh → LeavesEquivalent (Propagates x) f
    left_alone blank = (f, where_spreads x f f over (blank_spread x.nodes f fresh are_fresh settled blank), equivalent_refl f)

    pub changed : (IsEmptyFamily fresh → ⊥) → LeavesEquivalent (Propagates x) f → ⊥
    changed never (h, led, same) = never (same_blank x.nodes f fresh h (is_over_true x.size x.nodes f over) fits are_fresh (spreads_where x f h over led) same)

    -- moves lead from f to nothing that the round's answer doesn't hold
    pub settles : (h : FamilyD) → AreJoinedMembers f fresh h → IsSettled x h fresh
    settles h joined = record {
      within = fresh_within x.nodes f fresh h are_fresh joined;
      settled = settle x.nodes f h (joined_spread x.nodes f fresh h are_fresh settled joined);
      operators = λ o. joined_admits o f fresh h joined;
    }
      where
        settle : (ks : CompsD) (b a : FamilyD) → ArePropagated x f ks b a → AreSettled x h fresh ks a
        settle no_comps b a spread = tt
        settle (more (comp m q t) ks) b [] spread = tt
        settle (more (comp m q t) ks) [] (s ∷ a) spread = absurd spread
        settle (more (comp m q t) ks) (p ∷ b) (s ∷ a) spread = (
          λ c e k l led other. elim (held_joined x.nodes f fresh h c led.from.0 joined led.from.1) [
            | inl i ↦ (spread.0.truth c e k l).1 (inr (record { admitted = led.admitted; guard = led.guard; from = (led.from.0, i, led.from.2) }))
            | inr i ↦ absurd (other (record { admitted = led.admitted; guard = led.guard; from = (led.from.0, i, led.from.2) }))
          ],
          settle ks b a spread.1,
        )

-- of any family all may be new
pub all_new : (x : RoundParameters) (f : FamilyD) → IsSettled x f f
all_new x f = record { within = equal_weakened f f (equivalent_refl f); settled = go x.nodes f; operators = λ o h. h }
  where
    go : (ks : CompsD) (b : FamilyD) → AreSettled x f f ks b
    go no_comps b = tt
    go (more (comp m q t) ks) [] = tt
    go (more (comp m q t) ks) (r ∷ b) = (λ c e k l led other. absurd (other led), go ks b)

-- a family that isn't one over the nodes is left alone
pub other_left : (x : RoundParameters) (f : FamilyD) → is_over x.size x.nodes f ≡ false → LeavesEquivalent (Propagates x) f
other_left x f e = (f, subst (λ b. PropagatesIf b x f f) (sym e) (equivalent_refl f), equivalent_refl f)

pub fresh_sizes : (n : ℕ) (u : List (List Lit)) (t : TermD) (ks : CompsD) (b r : FamilyD) → AreFreshMembers n u t ks b r → sizes r ≡ sizes b
fresh_sizes n u t no_comps [] [] h = refl
fresh_sizes n u t (more (comp m g i) ks) (p ∷ b) (q ∷ r) h = rw (h.0.size, fresh_sizes n u t ks b r h.1)
fresh_sizes n u t _ _ _ h = absurd (assumption h)

pub joined_sizes : (f g h : FamilyD) → AreJoinedMembers f g h → sizes h ≡ sizes f
joined_sizes [] [] [] j = refl
joined_sizes (a ∷ f) (b ∷ g) (r ∷ h) j = rw (j.0.size, joined_sizes f g h j.1)
joined_sizes _ _ _ j = absurd (assumption j)

pub over_sizes : (n : ℕ) (ks : CompsD) (f g : FamilyD) → sizes f ≡ sizes g → is_over n ks f ≡ is_over n ks g
over_sizes n no_comps [] [] e = refl
over_sizes n no_comps (a ∷ f) (b ∷ g) e = refl
over_sizes n (more (comp m q t) ks) [] [] e = refl
over_sizes n (more (comp m q t) ks) (a ∷ f) (b ∷ g) e =
    let one : a.0 ≡ b.0 = cc in
    let rest : sizes f ≡ sizes g = cc in
    rw (one, over_sizes n ks f g rest)
over_sizes n ks [] (b ∷ g) e = absurd (cc)
over_sizes n ks (a ∷ f) [] e = absurd (cc)

-- what is new in a family over the nodes is a family over the nodes
pub news_over : (x : RoundParameters) (f g : FamilyD) → IsSettled x f g → is_over x.size x.nodes f ≡ true → IsOver x.size x.nodes g
news_over x f g settled over = is_over_true x.size x.nodes g (over_sizes x.size x.nodes g f (weakened_sizes g f settled.within) ∙ over)

pub held_fits : (n : ℕ) (ks : CompsD) (f : FamilyD) → IsOver n ks f → FamilyFits f → ItemsFit n ks → ItemsFit n (held ks f)
held_fits n no_comps f over fits h = tt
held_fits n (more (comp m g t) ks) [] over fits h = tt
held_fits n (more (comp m g t) ks) (r ∷ f) over fits h =
    ((h.0.0, subst (λ z. ConstraintFits z r.1) over.0 (All-head MemberFits r f fits), h.0.2), held_fits n ks f over.1 (All-tail MemberFits r f fits) h.1)

pub held_admits : (o : Bool) (ks : CompsD) (f : FamilyD) → AdmitsFamily o f → AdmitsItems o ks → AdmitsItems o (held ks f)
held_admits o no_comps f a h = tt
held_admits o (more (comp m g t) ks) [] a h = tt
held_admits o (more (comp m g t) ks) (r ∷ f) a h =
    ((All-head (λ z. AdmitsConstraint o z.1) r f a, h.0.1), held_admits o ks f (All-tail (λ z. AdmitsConstraint o z.1) r f a) h.1)

pub held_widths : (ks : CompsD) (f : FamilyD) → ItemsHaveBoundedWidths ks → ItemsHaveBoundedWidths (held ks f)
held_widths no_comps f h = tt
held_widths (more (comp m g t) ks) [] h = tt
held_widths (more (comp m g t) ks) (r ∷ f) h = (h.0, held_widths ks f h.1)
