-- What contexts inside come to outside, one after another, and what that is where the whole loop is.
use Rattle.std.proofs.Common.{◌≡◌, ℕ, ◌+◌, ◌-◌, ◌≤◌, Bool, true, false, not as opposite, inl, inr, ◌&&◌, ◌||◌, if◌then◌else◌, List, [], ◌∷◌, ◌++◌, Some, length, length-append, map, refl, sym, subst, ◌∙◌, arith}
use Rattle.std.proofs.lemmas.Bool.{false≢true, and_parts}
use Rattle.std.proofs.lemmas.List.Elements.{All-pop, Contains-append_left, Contains-push, Contains-push_cases}
use Rattle.std.specs.Bool.{IsTrue}
use Rattle.std.specs.List.{All}
use Rattle.lois_base.specs.Atom.{Atom}
use Rattle.lois_base.specs.Data.{coll, CompD, comps_of}
use Rattle.lois_base.specs.Fits.{ConstraintFits, ItemsFit}
use Rattle.lois_base.specs.Truth.{holds}
use Rattle.lois_base.specs.Validity.{AdmitsConstraint}
use Rattle.lois_base.specs.Values.{PointValue, point, IsIn, IsSame}
use Rattle.lois_base.specs.declared.guards.Lit.{Lit}
use Rattle.lois_base.proofs.Members.{same_in}
use Rattle.lois_algebra.proofs.Among.{admits_items-append, widths-append}
use Rattle.lois_meaning.specs.Store.{NamedValues}
use Rattle.lois_base.proofs.Connectives.{either_true}
use Rattle.lois_base.proofs.Booleans.{and_true}
use Rattle.lois_base.proofs.Lists.{items_fit_append}
use Rattle.lois_base.proofs.Appended.{in_append}
use Rattle.lois_context.specs.Choices.{IsAdmitted, ContextHasBoundedWidths}
use Rattle.lois_context.specs.Slots.{store_at}
use Rattle.lois_context.specs.declared.contexts.Context.{Context}
use Rattle.lois_eval.specs.Evaluated.{IsTermOf, IsConstraintOf, HasMembersOnlyWhereAdmitted}
use Rattle.lois_elim.specs.Bound.{HoldsForSomeMore}
use Rattle.lois_eval.specs.Folded.{outward, IsSomewhereInside, IsGatheredInside, IsFoundInside}
use Rattle.lois_eval.specs.WellFormed.{IsWellFormedIn}
use Rattle.lois_eval.proofs.Outward.{in_outward, fits_outward, admits_outward, widths_outward}

-- what is true of all contexts is true of those before the last one, and of it
before_last : (Q : Context → Type 0) (ds : List Context) (d : Context) → All Q (ds ++ d ∷ []) → All Q ds × Q d
before_last Q ds d h = All-pop Q (ds ++ d ∷ []) ds (Some d) refl h

module _ (n : ℕ) (P : NamedValues → PointValue → Type 0) (stands : Bool → List (List ℕ) → Type 0) (one : (s : NamedValues) (v w : PointValue) → P s v → P s w → IsSame v w) where
  -- one context more
  pub gathered_more : (ds : List Context) (ks : List CompD) (d : Context) (ls after : List CompD) → IsGatheredInside n P stands ds (comps_of ks) → n ≤ d.size →
      IsTermOf d P stands (coll (comps_of ls)) → HasMembersOnlyWhereAdmitted d (coll (comps_of ls)) → after ≡ ks ++ map (outward (d.size - n)) ls → IsGatheredInside n P stands (ds ++ d ∷ []) (comps_of after)
  gathered_more ds ks d ls after so_far longer own within is = subst (λ z. IsGatheredInside n P stands (ds ++ d ∷ []) (comps_of z)) (sym is) (record {
    made = λ b there c a. elim (Contains-push_cases ds d b there) [
      | inl before ↦ so_far.made b before c a
      | inr same ↦ subst (λ z. IsAdmitted c z → (v : PointValue) × P (store_at c z.store) v) same (λ h. (point (coll (comps_of ls)) c, own.value c h)) a
    ];
    members = λ c l w. (to c l w, from c l w);
    levels = items_fit_append n ks (map (outward (d.size - n)) ls) so_far.levels (fits_outward n (d.size - n) ls (subst (λ z. ItemsFit z (comps_of ls)) (sym whole) own.levels));
    operators = λ o h. admits_items-append o ks (map (outward (d.size - n)) ls) (so_far.operators o (before_last (IsWellFormedIn stands o) ds d h).0) (admits_outward o (d.size - n) ls (own.operators o (before_last (IsWellFormedIn stands o) ds d h).1));
    widths = λ h. widths-append ks (map (outward (d.size - n)) ls) (so_far.widths (before_last ContextHasBoundedWidths ds d h).0) (widths_outward (d.size - n) ls (own.widths (before_last ContextHasBoundedWidths ds d h).1));
  })
    where
      whole : n + (d.size - n) ≡ d.size
      whole = omega (arith, longer)

      to : (c : List Atom) → length c ≡ n → (w : PointValue) → IsIn w (point (coll (comps_of (ks ++ map (outward (d.size - n)) ls))) c) → IsSomewhereInside (ds ++ d ∷ []) c (λ s. (v : PointValue) × P s v × IsIn w v)
      to c l w h = elim ((in_append ks (map (outward (d.size - n)) ls) c w).0 h) [
        | inl p ↦ let (b, there, e, adm, has) = (so_far.members c l w).0 p in (b, Contains-append_left ds (d ∷ []) b there, e, adm, has)
        | inr p ↦
            let (e, count, inside) = (in_outward (d.size - n) ls c w).0 p in
            let adm : IsAdmitted (c ++ e) d = within (c ++ e) (omega (arith, length-append c e, l, count, longer)) inside.0 inside.1 in
            (d, Contains-push ds d, e, adm, (point (coll (comps_of ls)) (c ++ e), own.value (c ++ e) adm, inside))
      ]

      own_in : (c e : List Atom) → length c ≡ n → (w : PointValue) → IsAdmitted (c ++ e) d → (v : PointValue) → P (store_at (c ++ e) d.store) v → IsIn w v → IsIn w (point (coll (comps_of (map (outward (d.size - n)) ls))) c)
      own_in c e l w adm v p inside =
          let count : length e ≡ d.size - n = omega (arith, length-append c e, l, adm.0) in
          (in_outward (d.size - n) ls c w).1 (e, count, same_in w v (point (coll (comps_of ls)) (c ++ e)) (one (store_at (c ++ e) d.store) v (point (coll (comps_of ls)) (c ++ e)) p (own.value (c ++ e) adm)) inside)

      from : (c : List Atom) → length c ≡ n → (w : PointValue) → IsSomewhereInside (ds ++ d ∷ []) c (λ s. (v : PointValue) × P s v × IsIn w v) → IsIn w (point (coll (comps_of (ks ++ map (outward (d.size - n)) ls))) c)
      from c l w (b, there, e, adm, (v, p, inside)) = (in_append ks (map (outward (d.size - n)) ls) c w).1 (elim (Contains-push_cases ds d b there) [
        | inl before ↦ inl ((so_far.members c l w).1 (b, before, e, adm, (v, p, inside)))
        | inr same ↦ inr (own_in c e l w (subst (λ z. IsAdmitted (c ++ e) z) (sym same) adm) v (subst (λ z. P (store_at (c ++ e) z.store) v) (sym same) p) inside)
      ])

-- ---- constraints

chosen_truth : (wanted held : Bool) → IsTrue (if wanted then held else opposite held) → held ≡ wanted
chosen_truth true true h = refl
chosen_truth true false h = h
chosen_truth false true h = absurd (false≢true h)
chosen_truth false false h = refl

truth_chosen : (wanted held : Bool) → held ≡ wanted → IsTrue (if wanted then held else opposite held)
truth_chosen true held h = h
truth_chosen false true h = absurd (false≢true (sym h))
truth_chosen false false h = refl

module _ (n : ℕ) (P : NamedValues → Bool → Type 0) (wanted : Bool) (stands : Bool → List (List ℕ) → Type 0) (one : (s : NamedValues) (a b : Bool) → P s a → P s b → a ≡ b) where
  pub found_more : (ds : List Context) (g : List (List Lit)) (d : Context) (h there some after : List (List Lit)) → IsFoundInside n P wanted stands ds g → n ≤ d.size →
      IsConstraintOf d P stands h →
      ((c : List Atom) → holds c there ≡ (holds c d.«when» && (if wanted then holds c h else opposite (holds c h)))) →
      HoldsForSomeMore n (d.size - n) there some →
      ((c : List Atom) → holds c after ≡ (holds c g || holds c some)) →
      ConstraintFits n after →
      ((o : Bool) → AdmitsConstraint o g → IsWellFormedIn stands o d → AdmitsConstraint o after) →
      IsFoundInside n P wanted stands (ds ++ d ∷ []) after
  found_more ds g d h there some after so_far longer own is for_more joined fits admits = record {
    decided = λ b at c a. elim (Contains-push_cases ds d b at) [
      | inl before ↦ so_far.decided b before c a
      | inr same ↦ subst (λ z. IsAdmitted c z → (v : Bool) × P (store_at c z.store) v) same (λ y. (holds c h, own.truth c y)) a
    ];
    found = λ c l. (to c l, from c l);
    levels = fits;
    operators = λ o y. admits o (so_far.operators o (before_last (IsWellFormedIn stands o) ds d y).0) (before_last (IsWellFormedIn stands o) ds d y).1;
  }
    where
      here : (c e : List Atom) → length c ≡ n → length e ≡ d.size - n → IsTrue (holds (c ++ e) there) → IsAdmitted (c ++ e) d × P (store_at (c ++ e) d.store) wanted
      here c e l count y =
          let both = and_parts (holds (c ++ e) d.«when») (if wanted then holds (c ++ e) h else opposite (holds (c ++ e) h)) (sym (is (c ++ e)) ∙ y) in
          let adm : IsAdmitted (c ++ e) d = (omega (arith, length-append c e, l, count, longer), both.0) in
          (adm, subst (P (store_at (c ++ e) d.store)) (chosen_truth wanted (holds (c ++ e) h) both.1) (own.truth (c ++ e) adm))

      to : (c : List Atom) → length c ≡ n → IsTrue (holds c after) → IsSomewhereInside (ds ++ d ∷ []) c (λ s. P s wanted)
      to c l y = elim ((either_true (holds c g) (holds c some)).0 (sym (joined c) ∙ y)) [
        | inl p ↦ let (b, at, e, adm, has) = (so_far.found c l).0 p in (b, Contains-append_left ds (d ∷ []) b at, e, adm, has)
        | inr p ↦ let (e, count, q) = (for_more c l).0 p in
            let at = here c e l count q in
            (d, Contains-push ds d, e, at.0, at.1)
      ]

      own_found : (c e : List Atom) → length c ≡ n → IsAdmitted (c ++ e) d → P (store_at (c ++ e) d.store) wanted → IsTrue (holds c some)
      own_found c e l adm p =
          let count : length e ≡ d.size - n = omega (arith, length-append c e, l, adm.0) in
          let held = one (store_at (c ++ e) d.store) (holds (c ++ e) h) wanted (own.truth (c ++ e) adm) p in
          (for_more c l).1 (e, count, is (c ++ e) ∙ and_true (holds (c ++ e) d.«when») (if wanted then holds (c ++ e) h else opposite (holds (c ++ e) h)) adm.1 (truth_chosen wanted (holds (c ++ e) h) held))

      from : (c : List Atom) → length c ≡ n → IsSomewhereInside (ds ++ d ∷ []) c (λ s. P s wanted) → IsTrue (holds c after)
      from c l (b, at, e, adm, p) = joined c ∙ (either_true (holds c g) (holds c some)).1 (elim (Contains-push_cases ds d b at) [
        | inl before ↦ inl ((so_far.found c l).1 (b, before, e, adm, p))
        | inr same ↦ inr (own_found c e l (subst (λ z. IsAdmitted (c ++ e) z) (sym same) adm) (subst (λ z. P (store_at (c ++ e) z.store) wanted) (sym same) p))
      ])
