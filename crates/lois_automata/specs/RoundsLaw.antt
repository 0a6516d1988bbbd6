-- The law of the rounds: equivalent families are led to equivalent families.
use Rattle.std.specs.Prelude.{IsTrue, ◌≡◌, ℕ, ◌+◌, nat_eq, Bool, true, false, List, [], ◌∷◌, ◌++◌, length, take, drop, refl}
use Rattle.std.proofs.Common.{inl, inr, sym, ◌∙◌, subst, arith, length-append}
use Rattle.std.specs.Coded.{×_prop, Unit-prop, Coded-set, coded_ℕ, coded_bool}
use Rattle.std.proofs.lemmas.List.{take-append-drop, length-take, length-drop}
use Rattle.std.proofs.lemmas.Bool.{eqb-true, false≢true}
use Rattle.lois_base.proofs.Connectives.{both_true}
use Rattle.lois_base.proofs.Order.{same_truth}
use Rattle.lois_base.specs.Atom.{Atom}
use Rattle.lois_base.specs.OneProof.{all_prop}
use Rattle.lois_base.specs.Validity.{is_admitted, AdmitsLit, AdmitsCube, AdmitsConstraint}
use Rattle.lois_base.specs.Data.{TermD, comp, CompsD, no_comps, more}
use Rattle.lois_base.specs.Truth.{holds}
use Rattle.lois_base.specs.Values.{PointValue}
use Rattle.lois_base.specs.declared.guards.Lit.{Lit}
use Rattle.lois_algebra.specs.Gathered.{IsAmong, IsCompMember}
use Rattle.lois_rounds.specs.Equivalences.{equivalent_sym, equivalent_trans}
use Rattle.lois_rounds.specs.Families.{MemberD, FamilyD, AdmitsFamily, IsEquivalent, AreEquivalent, IsWeakened, AreWeakened}
use Rattle.lois_rounds.specs.Rounds.{RespectsEquivalence}
use Rattle.lois_automata.specs.Rounds.{RoundParameters, is_over, held, IsLedTo, IsPropagatedMember, ArePropagated, PropagatesIf, Propagates, IsSettledMember, AreSettled, IsSettled}

-- each size is that of its comprehension
abbrev pub IsOver : ℕ → CompsD → FamilyD → Type 0
IsOver n no_comps [] = Unit {0}
IsOver n (more (comp m g t) ks) (r ∷ f) = (r.0 ≡ n + m) × IsOver n ks f
IsOver n _ _ = ⊥

pub is_over_true : (n : ℕ) (ks : CompsD) (f : FamilyD) → is_over n ks f ≡ true → IsOver n ks f
is_over_true n no_comps [] h = tt
is_over_true n (more (comp m g t) ks) (r ∷ f) h =
    let both = (both_true (nat_eq r.0 (n + m)) (is_over n ks f)).0 h in
    (eqb-true r.0 (n + m) both.0, is_over_true n ks f both.1)
is_over_true n no_comps (r ∷ f) h = false≢true h
is_over_true n (more (comp m g t) ks) [] h = false≢true h

over_same : (n : ℕ) (ks : CompsD) (f g : FamilyD) → AreEquivalent f g → is_over n ks f ≡ is_over n ks g
over_same n no_comps [] [] h = refl
over_same n no_comps [] (b ∷ g) h = absurd h
over_same n no_comps (a ∷ f) [] h = absurd h
over_same n no_comps (a ∷ f) (b ∷ g) h = refl
over_same n (more (comp m q t) ks) [] [] h = refl
over_same n (more (comp m q t) ks) [] (b ∷ g) h = absurd h
over_same n (more (comp m q t) ks) (a ∷ f) [] h = absurd h
over_same n (more (comp m q t) ks) (a ∷ f) (b ∷ g) h = rw (h.0.size, over_same n ks f g h.1)

-- what a family holds, a weaker one holds
pub held_weaker : (n : ℕ) (ks : CompsD) (f g : FamilyD) (c : List Atom) (w : PointValue) → length c ≡ n → IsOver n ks f → AreWeakened f g → IsAmong (held ks f) c w → IsAmong (held ks g) c w
held_weaker n no_comps f g c w l over weaker h = absurd h
held_weaker n (more (comp m q t) ks) [] g c w l over weaker h = absurd over
held_weaker n (more (comp m q t) ks) (a ∷ f) [] c w l over weaker h = absurd weaker
held_weaker n (more (comp m q t) ks) (a ∷ f) (b ∷ g) c w l over weaker h =
    elim h [ inl p ↦ inl (one p) | inr p ↦ inr (held_weaker n ks f g c w l over.1 weaker.1 p) ]
  where
    one : IsCompMember (comp m a.1 t) c w → IsCompMember (comp m b.1 t) c w
    one (e, x, s) =
        let k : length (c ++ e) ≡ a.0 = length-append c e ∙ (rw (l, x.count, over.0)) in
        (e, record { count = x.count; guard = weaker.0.truth (c ++ e) k x.guard }, s)

pub equal_weakened : (f g : FamilyD) → AreEquivalent f g → AreWeakened f g
equal_weakened [] [] h = tt
equal_weakened [] (b ∷ g) h = absurd h
equal_weakened (a ∷ f) [] h = absurd h
equal_weakened (a ∷ f) (b ∷ g) h = (record { size = h.0.size; truth = λ c l p. sym (h.0.truth c l) ∙ p }, equal_weakened f g h.1)

-- what a family holds, an equivalent one holds
pub held_same : (n : ℕ) (ks : CompsD) (f g : FamilyD) (c : List Atom) (w : PointValue) → length c ≡ n → IsOver n ks f → AreEquivalent f g → IsAmong (held ks f) c w → IsAmong (held ks g) c w
held_same n ks f g c w l over same h = held_weaker n ks f g c w l over (equal_weakened f g same) h

-- a value that a family led to is one that an equivalent family led to
led_same : (x : RoundParameters) (f g : FamilyD) (q : List (List Lit)) (t : TermD) (c e : List Atom) → length c ≡ x.size → IsOver x.size x.nodes f → AreEquivalent f g → IsLedTo x f q t c e → IsLedTo x g q t c e
led_same x f g q t c e l over same h = record {
  admitted = h.admitted;
  guard = h.guard;
  from = (h.from.0, held_same x.size x.nodes f g c h.from.0 l over same h.from.1, h.from.2);
}

module _ (x : RoundParameters) (f g : FamilyD) (f_over : IsOver x.size x.nodes f) (g_over : IsOver x.size x.nodes g) (there : AreEquivalent f g) (back : AreEquivalent g f) where
  member_same : (m : ℕ) (q : List (List Lit)) (t : TermD) (b b' a a' : MemberD) → b.0 ≡ x.size + m → IsEquivalent b b' → IsPropagatedMember x f m q t b a → IsPropagatedMember x g m q t b' a' → IsEquivalent a a'
  member_same m q t b b' a a' over same one two = record {
    size = one.size ∙ (same.size ∙ sym two.size);
    truth = λ d l.
        let n : length d ≡ x.size + m = l ∙ (one.size ∙ over) in
        let c = take x.size d in
        let e = drop x.size d in
        let lc : length c ≡ x.size = length-take x.size d ∙ omega arith in
        let le : length e ≡ m = length-drop x.size d ∙ omega arith in
        let whole : c ++ e ≡ d = take-append-drop x.size d in
        let k : length (c ++ e) ≡ b.0 = rw (whole, n, over) in
        subst (λ z. holds z a.1 ≡ holds z a'.1) whole (same_truth (holds (c ++ e) a.1) (holds (c ++ e) a'.1)
        (λ h. (two.truth c e lc le).1 (elim ((one.truth c e lc le).0 h) [
          | inl p ↦ inl (sym (same.truth (c ++ e) k) ∙ p)
          | inr p ↦ inr (led_same x f g q t c e lc f_over there p)
        ]))
        (λ h. (one.truth c e lc le).1 (elim ((two.truth c e lc le).0 h) [
          | inl p ↦ inl (same.truth (c ++ e) k ∙ p)
          | inr p ↦ inr (led_same x g f q t c e lc g_over back p)
        ])));
  }

  spread_same : (ks : CompsD) (b b' a a' : FamilyD) → IsOver x.size ks b → AreEquivalent b b' → ArePropagated x f ks b a → ArePropagated x g ks b' a' → AreEquivalent a a'
  spread_same no_comps [] [] [] [] over same one two = tt
  spread_same (more (comp m q t) ks) (r ∷ b) (r' ∷ b') (s ∷ a) (s' ∷ a') over same one two =
      (member_same m q t r r' s s' over.0 same.0 one.0 two.0, spread_same ks b b' a a' over.1 same.1 one.1 two.1)
  spread_same no_comps (r ∷ b) b' a a' over same one two = absurd over
  spread_same no_comps [] (r' ∷ b') a a' over same one two = absurd same
  spread_same no_comps [] [] (s ∷ a) a' over same one two = absurd one
  spread_same no_comps [] [] [] (s' ∷ a') over same one two = absurd two
  spread_same (more (comp m q t) ks) [] b' a a' over same one two = absurd over
  spread_same (more (comp m q t) ks) (r ∷ b) [] a a' over same one two = absurd same
  spread_same (more (comp m q t) ks) (r ∷ b) (r' ∷ b') [] a' over same one two = absurd one
  spread_same (more (comp m q t) ks) (r ∷ b) (r' ∷ b') (s ∷ a) [] over same one two = absurd two

pub spreads_respect : (x : RoundParameters) → RespectsEquivalence (Propagates x)
spreads_respect x f g f' g' f_fits g_fits same led led' =
    let e : is_over x.size x.nodes f ≡ is_over x.size x.nodes g = over_same x.size x.nodes f g same in
    go (is_over x.size x.nodes f) refl led (subst (λ b. PropagatesIf b x g g') (sym e) led')
  where
    go : (b : Bool) → is_over x.size x.nodes f ≡ b → PropagatesIf b x f f' → PropagatesIf b x g g' → AreEquivalent f' g'
    go true e one two =
        let f_over = is_over_true x.size x.nodes f e in
        let g_over = is_over_true x.size x.nodes g (sym (over_same x.size x.nodes f g same) ∙ e) in
        spread_same x f g f_over g_over same (equivalent_sym f g same) x.nodes f g f' g' f_over same one two
    go false e one two = equivalent_trans f' f g' (equivalent_sym f f' one) (equivalent_trans f g g' same two)

-- ---- what a round keeps has one proof at most
true_prop : (b : Bool) → IsProp (IsTrue b)
true_prop b = Coded-set coded_bool b true

admits_prop : (o : Bool) (k : List (List Lit)) → IsProp (AdmitsConstraint o k)
admits_prop o k = all_prop (AdmitsCube o) (λ q. all_prop (AdmitsLit o) (λ l. true_prop (is_admitted o l.op)) q) k

member_prop : (a b : MemberD) → IsProp (IsWeakened a b)
member_prop a b = hlevel (Coded-set coded_ℕ, true_prop)

weakened_prop : (f g : FamilyD) → IsProp (AreWeakened f g)
weakened_prop [] [] = Unit-prop
weakened_prop [] (b ∷ g) = hlevel
weakened_prop (a ∷ f) [] = hlevel
weakened_prop (a ∷ f) (b ∷ g) = ×_prop (member_prop a b) (weakened_prop f g)

settled_member_prop : (x : RoundParameters) (f g : FamilyD) (m : ℕ) (q : List (List Lit)) (t : TermD) (b : MemberD) → IsProp (IsSettledMember x f g m q t b)
settled_member_prop x f g m q t b = hlevel (true_prop)

are_settled_prop : (x : RoundParameters) (f g : FamilyD) (ks : CompsD) (b : FamilyD) → IsProp (AreSettled x f g ks b)
are_settled_prop x f g no_comps b = Unit-prop
are_settled_prop x f g (more (comp m q t) ks) [] = Unit-prop
are_settled_prop x f g (more (comp m q t) ks) (r ∷ b) = ×_prop (settled_member_prop x f g m q t r) (are_settled_prop x f g ks b)

family_prop : (o : Bool) (f : FamilyD) → IsProp (AdmitsFamily o f)
family_prop o f = all_prop (λ m. AdmitsConstraint o m.1) (λ m. admits_prop o m.1) f

pub settled_prop : (x : RoundParameters) (f g : FamilyD) → IsProp (IsSettled x f g)
settled_prop x f g = hlevel (weakened_prop g f, are_settled_prop x f g x.nodes f, family_prop)
