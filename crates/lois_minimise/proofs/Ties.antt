-- Ties between two terms, the names that they give to levels, and what holds under names.
use Rattle.std.proofs.Common.{◌≡◌, ℕ, ◌+◌, ◌<◌, ◌≤◌, ◌⊎◌, inl, inr, ◌↔◌, Bool, ◌&&◌, ◌||◌, Some, List, [], ◌∷◌, ◌++◌, length, length-append, replicate, get_or, take, drop, map, refl, sym, ap, ◌∙◌, subst, arith}
use Rattle.std.proofs.lemmas.Bool.{cases_lt}
use Rattle.std.proofs.lemmas.List.{get_or_append_left, get_or_push, drop_all, length-take-le, get_or-take, take-append-drop, length-drop, get_or_default, get_or-map, same_lists, length-replicate}
use Rattle.std.proofs.lemmas.List.Elements.{All-nil, All-cons, All-head, All-tail, All-push, All-pop, All-weaker, All-map, All-from_get_or}
use Rattle.std.specs.Bool.{IsTrue}
use Rattle.std.specs.List.{All}
use Rattle.lois_base.specs.Atom.{Atom, equal, whole}
use Rattle.lois_base.specs.Bound.{HoldsForSome}
use Rattle.lois_elim.specs.Bound.{HoldsForSomeMore, AgreesWith}
use Rattle.lois_base.specs.Data.{TermD, var, tup, TermsD, no_terms, term, terms_of, CompD, comp, coll, comps_of, CompsD, no_comps, more}
use Rattle.lois_base.specs.FormulaData.{FormulaD}
use Rattle.lois_base.specs.Fits.{Fits, PartsFit, LitFits, CubeFits, ConstraintFits}
use Rattle.lois_base.specs.Tree.{tree}
use Rattle.lois_base.specs.Truth.{atom_at, lit_holds, cube_holds, holds}
use Rattle.lois_base.specs.AtomMaps.{AreEqual}
use Rattle.lois_base.specs.Validity.{AdmitsLit, AdmitsCube, AdmitsConstraint}
use Rattle.lois_base.specs.Values.{IsExtension, SameAt, SamePartsAt, SomeIsAt, OneIsAt}
use Rattle.lois_base.proofs.Booleans.{or_false}
use Rattle.lois_base.proofs.Connectives.{both_true, either_true}
use Rattle.lois_base.proofs.Truths.{holds_longer, holds_equal}
use Rattle.lois_base.proofs.Order.{equal_sym, equal_trans}
use Rattle.lois_base.specs.declared.guards.Lit.{Lit}
use Rattle.lois_base.specs.declared.values.Term.{Term}
use Rattle.lois_relate.specs.Named.{atoms_named, AreBelow, named_lit}
use Rattle.lois_relate.proofs.Names.{atom_chosen, length-chosen, lit_named, lit_named_fits}
use Rattle.lois_relate.specs.Relations.{HoldsWhereItemIn}
use Rattle.lois_relate.proofs.Sets.{some_is_in, some_is_member}
use Rattle.lois_relate.proofs.Places.{candidates_suffice}
use Rattle.lois_relate.specs.Candidates.{comps_at, AreCandidates}
use Rattle.lois_automata.specs.Built.{HoldsWhereMember}
use Rattle.lois_relate.proofs.Parts.{terms_from}
use Rattle.lois_minimise.specs.Ties.{IsTied, HoldsWhereTied, HoldsWhereOne, AreTied, TiesFit, AddsTies, IsName, AreNames, tie_lit, named_constraint}
use Rattle.lois_minimise.specs.declared.tying.Tie.{Tie}

-- ---- ties added
levels_tied : (i j : ℕ) (before : List Tie) → AddsTies (λ c d. SameAt (var i) c (var j) d) (λ n m. Fits n (var i) × Fits m (var j)) before (before ++ record { own = i; other = j } ∷ [])
levels_tied i j before =
    let t : Tie = record { own = i; other = j } in
    record {
      same = λ c d. (
        λ h. All-pop (IsTied c d) (before ++ t ∷ []) before (Some t) refl h,
        λ h. All-push (IsTied c d) before t h.0 h.1,
      );
      levels = λ n m f h. All-push (λ t. (t.own < n) × (t.other < m)) before t h f;
    }

pub tie_added : (s t : TermD) (i j : ℕ) → s ≡ var i → t ≡ var j → (before after : List Tie) → after ≡ before ++ record { own = i; other = j } ∷ [] → AddsTies (λ c d. SameAt s c t d) (λ n m. Fits n s × Fits m t) before after
tie_added s t i j e f before after is =
    subst (λ z. AddsTies (λ c d. SameAt z c t d) (λ n m. Fits n z × Fits m t) before after) (sym e)
    (subst (λ z. AddsTies (λ c d. SameAt (var i) c z d) (λ n m. Fits n (var i) × Fits m z) before after) (sym f)
    (subst (AddsTies (λ c d. SameAt (var i) c (var j) d) (λ n m. Fits n (var i) × Fits m (var j)) before) (sym is) (levels_tied i j before)))

pub tuple_tied : (s t : TermD) (ts us : TermsD) → s ≡ tup ts → t ≡ tup us → (before after : List Tie) → AddsTies (λ c d. SamePartsAt ts c us d) (λ n m. PartsFit n ts × PartsFit m us) before after → AddsTies (λ c d. SameAt s c t d) (λ n m. Fits n s × Fits m t) before after
tuple_tied s t ts us e f before after adds =
    subst (λ z. AddsTies (λ c d. SameAt z c t d) (λ n m. Fits n z × Fits m t) before after) (sym e)
    (subst (λ z. AddsTies (λ c d. SameAt (tup ts) c z d) (λ n m. Fits n (tup ts) × Fits m z) before after) (sym f) adds)

-- the parts before the rest are tied
pub record PartsTied (ts us rest others : TermsD) (before ties : List Tie) : Type 0 where
  pub same : (c d : List Atom) → (AreTied c d ties × SamePartsAt rest c others d) ↔ (AreTied c d before × SamePartsAt ts c us d)
  pub levels : (n m : ℕ) → PartsFit n ts → PartsFit m us → TiesFit n m before → TiesFit n m ties

pub part_tied : (ts us rest rest' others others' : TermsD) (s t : TermD) (before ties after : List Tie) → rest ≡ term s rest' → others ≡ term t others' → ((n : ℕ) → PartsFit n ts → Fits n s) → ((n : ℕ) → PartsFit n us → Fits n t) → AddsTies (λ c d. SameAt s c t d) (λ n m. Fits n s × Fits m t) ties after → PartsTied ts us rest others before ties → PartsTied ts us rest' others' before after
part_tied ts us rest rest' others others' s t before ties after e f own other adds so_far = record {
  same = λ c d. (
    λ h. let x = (adds.same c d).0 h.0 in (so_far.same c d).0 (x.0, split c d (x.1, h.1)),
    λ h. let x = (so_far.same c d).1 h in
        let y = joined c d x.1 in
        ((adds.same c d).1 (x.0, y.0), y.1),
  );
  levels = λ n m p q h. adds.levels n m (own n p, other m q) (so_far.levels n m p q h);
}
  where
    split : (c d : List Atom) → SameAt s c t d × SamePartsAt rest' c others' d → SamePartsAt rest c others d
    split c d h = subst (λ z. SamePartsAt z c others d) (sym e) (subst (λ z. SamePartsAt (term s rest') c z d) (sym f) h)

    joined : (c d : List Atom) → SamePartsAt rest c others d → SameAt s c t d × SamePartsAt rest' c others' d
    joined c d h = subst (λ z. SamePartsAt (term s rest') c z d) f (subst (λ z. SamePartsAt z c others d) e h)

pub parts_tied : (ts us rest others : TermsD) (before ties : List Tie) → rest ≡ no_terms → others ≡ no_terms → PartsTied ts us rest others before ties → AddsTies (λ c d. SamePartsAt ts c us d) (λ n m. PartsFit n ts × PartsFit m us) before ties
parts_tied ts us rest others before ties e f all = record {
  same = λ c d. (
    λ h. (all.same c d).0 (h, subst (λ z. SamePartsAt z c others d) (sym e) (subst (λ z. SamePartsAt no_terms c z d) (sym f) tt)),
    λ h. ((all.same c d).1 h).0,
  );
  levels = λ n m f h. all.levels n m f.0 f.1 h;
}

pub no_terms_left : (ts : List Term) (i : ℕ) → length ts ≤ i → terms_from ts i ≡ no_terms
no_terms_left ts i l = ap (λ xs. terms_of (map tree xs)) (drop_all i ts l)

-- ---- names
module _ (n m : ℕ) (ties : List Tie) where
  pub name_pushed : (names : List ℕ) (level x : ℕ) → length names ≡ level → ((i : ℕ) → i < level → IsName n m ties i (get_or names i 0)) → IsName n m ties level x → (i : ℕ) → i < level + 1 → IsName n m ties i (get_or (names ++ x ∷ []) i 0)
  name_pushed names level x count each one i l = go (cases_lt i level)
    where
      go : i < level ⊎ level ≤ i → IsName n m ties i (get_or (names ++ x ∷ []) i 0)
      go (inl k) = subst (IsName n m ties i) (sym (get_or_append_left names (x ∷ []) 0 i (omega arith))) (each i k)
      go (inr k) =
          let e : level ≡ i = omega arith in
          subst (IsName n m ties i) (sym (get_or_push names x 0 i (count ∙ e))) (subst (λ z. IsName n m ties z x) e one)

-- ---- levels that aren't used
pub unused_level : (n : ℕ) (g : List (List Lit)) → ConstraintFits n g → HoldsForSome n g g
unused_level n g fits c l =
    let own : ConstraintFits (length c) g = subst (λ z. ConstraintFits z g) (sym l) fits in (
      λ h. (whole 0, subst IsTrue (sym (holds_longer c (whole 0 ∷ []) g own)) h),
      λ h. subst IsTrue (holds_longer c (h.0 ∷ []) g own) h.1,
    )

pub unused_levels : (n m : ℕ) (g : List (List Lit)) → ConstraintFits n g → HoldsForSomeMore n m g g
unused_levels n m g fits c l =
    let more : (e : List Atom) → holds (c ++ e) g ≡ holds c g = λ e. holds_longer c e g (subst (λ z. ConstraintFits z g) (sym l) fits) in (
      λ t. (replicate m (whole 0), length-replicate m (whole 0), more (replicate m (whole 0)) ∙ t),
      λ h. sym (more h.0) ∙ h.2,
    )

-- ---- what holds under names
module _ (names : List ℕ) (x : List Atom) where
  cube_named : (k : List Lit) → CubeFits (length names) k → cube_holds x (map (named_lit names) k) ≡ cube_holds (atoms_named names x) k
  cube_named [] h = refl
  cube_named (l ∷ k) h =
      rw (lit_named names x l (All-head (LitFits (length names)) l k h), cube_named k (All-tail (LitFits (length names)) l k h))

  pub holds_named : (g : List (List Lit)) → ConstraintFits (length names) g → holds x (named_constraint names g) ≡ holds (atoms_named names x) g
  holds_named [] h = refl
  holds_named (k ∷ g) h =
      rw (cube_named k (All-head (CubeFits (length names)) k g h), holds_named g (All-tail (CubeFits (length names)) k g h))

  -- the level's name and the level that it is tied to have the same atom
  abbrev pub IsMet : Tie → Type 0
  IsMet t = IsTrue (equal (atom_at x (get_or names t.own 0)) (atom_at x t.other))

  pub ties_met : (ties : List Tie) → IsTrue (cube_holds x (map (tie_lit names) ties)) → All IsMet ties
  ties_met [] h = All-nil IsMet
  ties_met (t ∷ ties) h =
      let p = (both_true (lit_holds x (tie_lit names t)) (cube_holds x (map (tie_lit names) ties))).0 h in
      All-cons IsMet t ties p.0 (ties_met ties p.1)

  pub met_ties : (ties : List Tie) → All IsMet ties → IsTrue (cube_holds x (map (tie_lit names) ties))
  met_ties [] h = refl
  met_ties (t ∷ ties) h =
      (both_true (lit_holds x (tie_lit names t)) (cube_holds x (map (tie_lit names) ties))).1 (All-head IsMet t ties h, met_ties ties (All-tail IsMet t ties h))

pub named_fits : (n : ℕ) (names : List ℕ) → AreBelow n names → (g : List (List Lit)) → ConstraintFits (length names) g → ConstraintFits n (named_constraint names g)
named_fits n names below g h =
    All-map (CubeFits n) (map (named_lit names)) g (All-weaker (CubeFits (length names)) (λ k. CubeFits n (map (named_lit names) k)) (λ k f. All-map (LitFits n) (named_lit names) k (All-weaker (LitFits (length names)) (λ l. LitFits n (named_lit names l)) (λ l p. lit_named_fits n names l p below) k f)) g h)

pub named_admits : (o : Bool) (names : List ℕ) (g : List (List Lit)) → AdmitsConstraint o g → AdmitsConstraint o (named_constraint names g)
named_admits o names g h =
    All-map (AdmitsCube o) (map (named_lit names)) g (All-weaker (AdmitsCube o) (λ k. AdmitsCube o (map (named_lit names) k)) (λ k f. All-map (AdmitsLit o) (named_lit names) k f) g h)

pub tied_fits : (n : ℕ) (names : List ℕ) (ties : List Tie) → AreBelow n names → All (λ t. (t.own < length names) × (t.other < n)) ties → CubeFits n (map (tie_lit names) ties)
tied_fits n names ties below h =
    All-map (LitFits n) (tie_lit names) ties (All-weaker (λ t. (t.own < length names) × (t.other < n)) (λ t. LitFits n (tie_lit names t)) (λ t p. (below t.own 0 p.0, p.1)) ties h)

pub tied_admits : (o : Bool) (names : List ℕ) (ties : List Tie) → AdmitsCube o (map (tie_lit names) ties)
tied_admits o names ties = All-map (AdmitsLit o) (tie_lit names) ties (λ i d l. refl)

-- ---- the binders that a tie names
module _ (n m k : ℕ) (ties : List Tie) (names : List ℕ) (are : AreNames n m k ties names) (fit : TiesFit (n + k) (n + m) ties) where
  pub names_below : AreBelow (n + m + k) names
  names_below = All-from_get_or (λ i. i < n + m + k) names 0 (λ i l. (are.each i (omega (arith, l, are.count))).below k (omega (arith, l, are.count)))

  pub ties_below : All (λ t. (t.own < length names) × (t.other < n + m + k)) ties
  ties_below = All-weaker (λ t. (t.own < n + k) × (t.other < n + m)) (λ t. (t.own < length names) × (t.other < n + m + k)) (λ t p. (omega (arith, p.0, are.count), omega (arith, p.1))) ties fit

  module _ (c e d : List Atom) (cn : length c ≡ n) (em : length e ≡ m) (dk : length d ≡ k) where
    -- where the ties hold, the names give the binders
    pub tied_are_named : AreTied (c ++ d) (c ++ e) ties → AreEqual (c ++ d) (atoms_named names ((c ++ e) ++ d))
    tied_are_named tied =
        let long : length (c ++ d) ≡ n + k = length-append c d ∙ omega arith in
        let named : length (atoms_named names ((c ++ e) ++ d)) ≡ length names = length-chosen names ((c ++ e) ++ d) in
        record {
          count = omega (arith, long, named, are.count);
          atoms = λ i p l.
              let within : i < n + k = omega (arith, l, long) in
              subst (λ z. IsTrue (equal (atom_at (c ++ d) i) z)) (sym (atom_chosen names ((c ++ e) ++ d) i (omega (arith, within, are.count)))) ((are.each i within).tied c e d cn em (omega arith) tied);
        }

    pub tied_are_met : AreTied (c ++ d) (c ++ e) ties → All (IsMet names ((c ++ e) ++ d)) ties
    tied_are_met tied i t l =
        let u = get_or ties i t in
        let p = fit i t l in
        let one : IsTrue (equal (atom_at (c ++ d) u.own) (atom_at ((c ++ e) ++ d) (get_or names u.own 0))) = (are.each u.own p.0).tied c e d cn em (omega (arith, p.0)) tied in
        let other : atom_at ((c ++ e) ++ d) u.other ≡ atom_at (c ++ e) u.other = get_or_append_left (c ++ e) d (whole 0) u.other (omega (arith, p.1, length-append c e)) in
        equal_trans _ (atom_at (c ++ d) u.own) _ (equal_sym (atom_at (c ++ d) u.own) _ one) (rw other (tied i t l))

    -- the first names are the levels themselves, so that the others give binders
    first_own : (i : ℕ) (a : Atom) → i < n → get_or (atoms_named names ((c ++ e) ++ d)) i a ≡ get_or c i a
    first_own i a l =
        let x = (c ++ e) ++ d in
        let within : i < n + k = omega (arith, l) in
        let here : i < length names = omega (arith, within, are.count) in
        let name : get_or names i 0 ≡ i = (are.each i within).own l in
        let long : i < length (c ++ e) = omega (arith, l, cn, length-append c e) in
        let short : i < length c = omega (arith, l, cn) in
        get_or-map (λ j. atom_at x j) names i 0 a here ∙ ap (atom_at x) name ∙ get_or_append_left (c ++ e) d (whole 0) i long ∙ get_or_append_left c e (whole 0) i short ∙ get_or_default c i (whole 0) a short

    abbrev pub binders : List Atom
    binders = drop n (atoms_named names ((c ++ e) ++ d))

    named_count : length (atoms_named names ((c ++ e) ++ d)) ≡ n + k
    named_count = length-chosen names ((c ++ e) ++ d) ∙ are.count

    pub binders_count : length binders ≡ k
    binders_count = length-drop n (atoms_named names ((c ++ e) ++ d)) ∙ omega (arith, named_count)

    pub whole_named : c ++ binders ≡ atoms_named names ((c ++ e) ++ d)
    whole_named =
        let y = atoms_named names ((c ++ e) ++ d) in
        let long : length (take n y) ≡ n = length-take-le n y (omega (arith, named_count)) in
        let first : take n y ≡ c = same_lists (take n y) c (long ∙ sym cn) (λ i a l. get_or-take n y i a (omega (arith, l, long)) ∙ first_own i a (omega (arith, l, long))) in
        ap (λ z. z ++ binders) (sym first) ∙ take-append-drop n y

    -- and where the ties are met, they hold with these binders
    pub met_are_tied : All (IsMet names ((c ++ e) ++ d)) ties → AreTied (c ++ binders) (c ++ e) ties
    met_are_tied met i t l =
        let x = (c ++ e) ++ d in
        let u = get_or ties i t in
        let p = fit i t l in
        let own : atom_at (c ++ binders) u.own ≡ atom_at x (get_or names u.own 0) = ap (λ z. atom_at z u.own) whole_named ∙ atom_chosen names x u.own (omega (arith, p.0, are.count)) in
        let other : atom_at x u.other ≡ atom_at (c ++ e) u.other = get_or_append_left (c ++ e) d (whole 0) u.other (omega (arith, p.1, cn, em, length-append c e)) in
        rw (own, sym other) (met i t l)

  -- what the guard and the ties admit, under names
  module _ (g met r : List (List Lit)) (fits : ConstraintFits (n + k) g) (truth : (x : List Atom) → holds x met ≡ (holds x (named_constraint names g) && holds x (map (tie_lit names) ties ∷ []))) (some : HoldsForSomeMore (n + m) k met r) where
    own_fits : ConstraintFits (length names) g
    own_fits = subst (λ z. ConstraintFits z g) (sym are.count) fits

    both_met : (x : List Atom) → IsTrue (holds x met) ↔ (IsTrue (holds (atoms_named names x) g) × All (IsMet names x) ties)
    both_met x =
        let tie = cube_holds x (map (tie_lit names) ties) in
        let is : holds x met ≡ (holds (atoms_named names x) g && tie) = rw (truth x, holds_named names x g own_fits, or_false tie) refl in
        let both = both_true (holds (atoms_named names x) g) tie in (
          λ h. let p = both.0 (subst IsTrue is h) in (p.0, ties_met names x ties p.1),
          λ p. subst IsTrue (sym is) (both.1 (p.0, met_ties names x ties p.1)),
        )

    pub holds_where_tied : HoldsWhereTied n m k g ties r
    holds_where_tied c e cn em = (to, from)
      where
        long : length (c ++ e) ≡ n + m
        long = length-append c e ∙ omega (arith, cn, em)

        to : IsTrue (holds (c ++ e) r) → (b : List Atom) × IsExtension c k g b × AreTied (c ++ b) (c ++ e) ties
        to h =
            let found = (some (c ++ e) long).0 h in
            let d = found.0 in
            let p = (both_met ((c ++ e) ++ d)).0 found.2 in (
              binders c e d cn em found.1,
              record { count = binders_count c e d cn em found.1; guard = subst (λ z. IsTrue (holds z g)) (sym (whole_named c e d cn em found.1)) p.0 },
              met_are_tied c e d cn em found.1 p.1,
            )

        from : (b : List Atom) × IsExtension c k g b × AreTied (c ++ b) (c ++ e) ties → IsTrue (holds (c ++ e) r)
        from (b, ext, tied) =
            let equal_choices = tied_are_named c e b cn em ext.count tied in
            (some (c ++ e) long).1 (b, ext.count, (both_met ((c ++ e) ++ b)).1 (subst IsTrue (holds_equal (c ++ b) (atoms_named names ((c ++ e) ++ b)) equal_choices g) ext.guard, tied_are_met c e b cn em ext.count tied))

-- ---- a member of a comprehension
-- ties that say where the item of a comprehension has a value say where one of its members has it
pub one_where_tied : (n m : ℕ) (item : TermD) (k : ℕ) (g : List (List Lit)) (body : TermD) (ties : List Tie) (r : List (List Lit)) → AddsTies (λ c d. SameAt body c item d) (λ i j. Fits i body × Fits j item) [] ties → HoldsWhereTied n m k g ties r → HoldsWhereOne n m item (comp k g body) r
one_where_tied n m item k g body ties r adds where_tied c e cn em =
    let tied = where_tied c e cn em in (
      λ h. let p = tied.0 h in (p.0, p.1, ((adds.same (c ++ p.0) (c ++ e)).0 p.2).1),
      λ p. tied.1 (p.0, p.1, (adds.same (c ++ p.0) (c ++ e)).1 (All-nil (IsTied (c ++ p.0) (c ++ e)), p.2)),
    )

-- so does a formula of the set that has no other comprehension
pub one_where_listed : (n m : ℕ) (item : TermD) (k : CompD) (f : FormulaD) (r : List (List Lit)) → HoldsWhereItemIn n m item (more k no_comps) f → AgreesWith (n + m) f r → HoldsWhereOne n m item k r
one_where_listed n m item k f r listed agrees c e cn em =
    let long : length (c ++ e) ≡ n + m = length-append c e ∙ omega (arith, cn, em) in
    let one = agrees (c ++ e) long in
    let two = listed c e cn em in
    let three = some_is_in item (c ++ e) (more k no_comps) c in (
      λ h. alone (three.1 (two.0 (one.0 h))),
      λ h. one.1 (two.1 (three.0 (inl h))),
    )
  where
    alone : SomeIsAt (more k no_comps) c item (c ++ e) → OneIsAt k c item (c ++ e)
    alone (inl h) = h
    alone (inr h) = absurd h

-- ---- members of comprehensions at places
-- what was found, or is at the places left, is what is at all places
pub record FoundSoFar (n m : ℕ) (item : TermD) (A : Bool → Type 0) (rest all : CompsD) (r : List (List Lit)) : Type 0 where
  pub truth : (c e : List Atom) → length c ≡ n → length e ≡ m → (IsTrue (holds (c ++ e) r) ⊎ SomeIsAt rest c item (c ++ e)) ↔ SomeIsAt all c item (c ++ e)
  pub fits : ConstraintFits (n + m) r
  pub operators : (o : Bool) → A o → AdmitsConstraint o r

module _ (n m : ℕ) (item : TermD) (A : Bool → Type 0) where
  pub found_more : (k : CompD) (rest rest' all : CompsD) (found one r : List (List Lit)) → rest ≡ more k rest' → HoldsWhereOne n m item k one → ((x : List Atom) → holds x r ≡ (holds x found || holds x one)) → ConstraintFits (n + m) r → ((o : Bool) → A o → AdmitsConstraint o r) → FoundSoFar n m item A rest all found → FoundSoFar n m item A rest' all r
  found_more k rest rest' all found one r e is either fits admits so_far = record {
    truth = λ c d cn em. (
      λ h. (so_far.truth c d cn em).0 (there c d cn em h),
      λ h. back c d cn em ((so_far.truth c d cn em).1 h),
    );
    fits = fits;
    operators = admits;
  }
    where
      there : (c d : List Atom) → length c ≡ n → length d ≡ m → IsTrue (holds (c ++ d) r) ⊎ SomeIsAt rest' c item (c ++ d) → IsTrue (holds (c ++ d) found) ⊎ SomeIsAt rest c item (c ++ d)
      there c d cn em (inl h) = elim ((either_true (holds (c ++ d) found) (holds (c ++ d) one)).0 (subst IsTrue (either (c ++ d)) h)) [
        | inl p ↦ inl p
        | inr p ↦ inr (subst (λ z. SomeIsAt z c item (c ++ d)) (sym e) (inl ((is c d cn em).0 p)))
      ]
      there c d cn em (inr h) = inr (subst (λ z. SomeIsAt z c item (c ++ d)) (sym e) (inr h))

      split : (c d : List Atom) → length c ≡ n → length d ≡ m → SomeIsAt (more k rest') c item (c ++ d) → IsTrue (holds (c ++ d) r) ⊎ SomeIsAt rest' c item (c ++ d)
      split c d cn em (inl h) = inl (subst IsTrue (sym (either (c ++ d))) ((either_true (holds (c ++ d) found) (holds (c ++ d) one)).1 (inr ((is c d cn em).1 h))))
      split c d cn em (inr h) = inr h

      back : (c d : List Atom) → length c ≡ n → length d ≡ m → IsTrue (holds (c ++ d) found) ⊎ SomeIsAt rest c item (c ++ d) → IsTrue (holds (c ++ d) r) ⊎ SomeIsAt rest' c item (c ++ d)
      back c d cn em (inl h) = inl (subst IsTrue (sym (either (c ++ d))) ((either_true (holds (c ++ d) found) (holds (c ++ d) one)).1 (inl h)))
      back c d cn em (inr h) = split c d cn em (subst (λ z. SomeIsAt z c item (c ++ d)) e h)

  pub found_all : (ks : List CompD) (places : List ℕ) (rest : CompsD) (found : List (List Lit)) → AreCandidates ks item places → rest ≡ no_comps → FoundSoFar n m item A rest (comps_at ks places) found → HoldsWhereMember n m item (coll (comps_of ks)) found
  found_all ks places rest found all e so_far c d cn em =
      let here = so_far.truth c d cn em in
      let whole = candidates_suffice ks item places all c (c ++ d) in
      let member = some_is_member item (c ++ d) (comps_of ks) c in (
        λ h. member.0 (whole.0 (here.0 (inl h))),
        λ h. elim (here.1 (whole.1 (member.1 h))) [
          | inl p ↦ p
          | inr p ↦ absurd (subst (λ z. SomeIsAt z c item (c ++ d)) e p)
        ],
      )

  -- where one of them is everywhere, the others aren't asked
  pub found_everywhere : (ks : List CompD) (places : List ℕ) (k : CompD) (rest rest' : CompsD) (found one : List (List Lit)) → AreCandidates ks item places → rest ≡ more k rest' → HoldsWhereOne n m item k one → ((x : List Atom) → IsTrue (holds x one)) → FoundSoFar n m item A rest (comps_at ks places) found → HoldsWhereMember n m item (coll (comps_of ks)) one
  found_everywhere ks places k rest rest' found one all e is everywhere so_far c d cn em =
      let here = so_far.truth c d cn em in
      let whole = candidates_suffice ks item places all c (c ++ d) in
      let member = some_is_member item (c ++ d) (comps_of ks) c in (
        λ h. member.0 (whole.0 (here.0 (inr (subst (λ z. SomeIsAt z c item (c ++ d)) (sym e) (inl ((is c d cn em).0 h)))))),
        λ h. everywhere (c ++ d),
      )
