-- One context more among those that are merged.
use Rattle.std.proofs.Common.{◌≡◌, ℕ, ◌+◌, ◌<◌, ◌≤◌, ◌⊎◌, inl, inr, Bool, true, false, ◌&&◌, ◌||◌, cond, List, [], ◌∷◌, ◌++◌, length, map, set, get_or, nat_eq, refl, sym, ap, ◌∙◌, subst, arith}
use Rattle.std.proofs.Math.Seq.{map-set_same}
use Rattle.std.proofs.lemmas.List.{map-append, get_or-map, get_or_default, get_or-set_same, get_or-set_other, length-map, length-set}
use Rattle.std.proofs.lemmas.Bool.{cases_eq, false≢true}
use Rattle.std.proofs.lemmas.List.Elements.{All-push, All-set, All-weaker, All-append, Contains-append_left, Contains-push, Contains-get_or}
use Rattle.std.proofs.lemmas.List.Quantifiers.{all_pairs_push}
use Rattle.std.proofs.lemmas.List.Sums.{sum_by-set}
use Rattle.std.specs.Bool.{IsTrue}
use Rattle.std.specs.List.{All, AllPairs, Contains, HoldsAt}
use Rattle.std.specs.Prelude.{Option, Some, None, is_some, IsSome}
use Rattle.lois_base.specs.Atom.{Atom}
use Rattle.lois_base.specs.Truth.{holds}
use Rattle.lois_base.specs.Validity.{AdmitsCube, AdmitsConstraint, AdmitsTerm, HasBoundedWidths}
use Rattle.lois_base.proofs.Both.{holds_append}
use Rattle.lois_base.proofs.Lists.{all_before, all_last}
use Rattle.lois_context.specs.Choices.{IsAdmitted, AdmitsContext, ContextHasBoundedWidths}
use Rattle.lois_context.specs.Counted.{admits, times}
use Rattle.lois_context.specs.Merged.{AreDisjoint, contents_of, HasSameContents, HasSameContentsAsOne, HasSampleOfOne, AreMerged, IsMergedInto}
use Rattle.lois_context.specs.Hash.{hash_of_contents, context_hash}
use Rattle.lois_context.specs.declared.contexts.Context.{Context}
use Rattle.lois_context.proofs.Counts.{admits_is, times_append, times_of}

-- ---- tests
and_or : (a b c : Bool) → (a && (b || c)) ≡ ((a && b) || (a && c))
and_or true b c = refl
and_or false b c = refl

either : (p q : Bool) → (p || q) ≡ true → IsTrue p ⊎ IsTrue q
either true q h = inl refl
either false q h = inr h

or_true : (b : Bool) → (b || true) ≡ true
or_true true = refl
or_true false = refl

counted_either : (p q r : Bool) → r ≡ (p || q) → cond {A = ℕ} p 1 0 + cond q 1 0 ≤ 1 → cond {A = ℕ} r 1 0 ≡ cond p 1 0 + cond q 1 0
counted_either true true r e l = absurd (omega (arith, l))
counted_either true false r e l = ap (λ b. cond {A = ℕ} b 1 0) e
counted_either false q r e l = ap (λ b. cond {A = ℕ} b 1 0) e ∙ sym (zero_more (cond {A = ℕ} q 1 0))
  where
    zero_more : (n : ℕ) → 0 + n ≡ n
    zero_more n = omega arith

module _ (ks : List Context) (k : Context) where
  like_later : (c : List Atom) (d : Context) → HasSameContentsAsOne ks c d → HasSameContentsAsOne (ks ++ k ∷ []) c d
  like_later c d (q, there, adm, like) = (q, Contains-append_left ks (k ∷ []) q there, adm, like)

  like_last : (c : List Atom) (d : Context) → IsAdmitted c k → HasSameContents k d → HasSameContentsAsOne (ks ++ k ∷ []) c d
  like_last c d adm like = (k, Contains-push ks k, adm, like)

  sample_later : (d : Context) → HasSampleOfOne ks d → HasSampleOfOne (ks ++ k ∷ []) d
  sample_later d (q, there, e) = (q, Contains-append_left ks (k ∷ []) q there, e)

-- fewer contexts are apart where more are
pub apart_before : (ks : List Context) (k : Context) → AreDisjoint (ks ++ k ∷ []) → AreDisjoint ks
apart_before ks k h = λ c. omega (arith, h c, times_append c ks (k ∷ []))

-- ---- a place where another context is put
Contains-set_cases : (ds : List Context) (i : ℕ) (d r : Context) → i < length ds → d ≡ get_or ds i d → (e : Context) → Contains ds e → (d ≡ e) ⊎ Contains (set ds i r) e
Contains-set_cases ds i d r l is e (j, m, at) = go (cases_eq j i)
  where
    go : (j ≡ i) ⊎ (j ≡ i → ⊥) → (d ≡ e) ⊎ Contains (set ds i r) e
    go (inl same) = inl (is ∙ (get_or_default ds i d e l ∙ (ap (λ z. get_or ds z e) (sym same) ∙ (sym (get_or_default ds j e e m) ∙ at))))
    go (inr apart) = inr (j, omega (arith, m, length-set ds i r), get_or-set_other ds i j r e apart ∙ at)

own_like : (ks : List Context) (k : Context) (c : List Atom) → IsAdmitted c k → HasSameContentsAsOne (ks ++ k ∷ []) c k
own_like ks k c a = like_last ks k c k a refl

all_like_later : (ks : List Context) (k : Context) (ds : List Context) → All (λ d. (c : List Atom) → IsAdmitted c d → HasSameContentsAsOne ks c d) ds → All (λ d. (c : List Atom) → IsAdmitted c d → HasSameContentsAsOne (ks ++ k ∷ []) c d) ds
all_like_later ks k ds h = λ i e l c a. like_later ks k c (get_or ds i e) (h i e l c a)

-- ---- a context that is like none of those before it
module _ (ks ds : List Context) (k : Context) (h : AreMerged ks ds) where
  pub merged_new : All (λ d. HasSameContents k d → ⊥) ds → AreMerged (ks ++ k ∷ []) (ds ++ k ∷ [])
  merged_new new = record {
    choices = λ apart c. omega (arith, h.choices (apart_before ks k apart) c, times_append c ds (k ∷ []), times_append c ks (k ∷ []));
    like = All-push (λ d. (c : List Atom) → IsAdmitted c d → HasSameContentsAsOne (ks ++ k ∷ []) c d) ds k (all_like_later ks k ds h.like) (own_like ks k);
    kept = All-push (λ q. (c : List Atom) → IsAdmitted c q → HasSameContentsAsOne (ds ++ k ∷ []) c q) ks k (all_like_later ds k ks h.kept) (own_like ds k);
    different = subst (AllPairs (λ x y. x ≡ y → ⊥)) (sym (map-append contents_of ds (k ∷ [])))
        (all_pairs_push (λ x y. x ≡ y → ⊥) (map contents_of ds) (contents_of k) h.different
        (λ i e l is. let m : i < length ds = omega (arith, l, length-map ds contents_of) in
        new i k m (sym (get_or-map contents_of ds i k e m) ∙ is)));
    samples = All-push (HasSampleOfOne (ks ++ k ∷ [])) ds k (All-weaker (HasSampleOfOne ks) _ (sample_later ks k) ds h.samples) (k, Contains-push ks k, refl);
    operators = λ ordered a. All-push (AdmitsContext ordered) ds k (h.operators ordered (all_before (AdmitsContext ordered) ks k a)) (all_last (AdmitsContext ordered) ks k a);
    widths = λ a. All-push ContextHasBoundedWidths ds k (h.widths (all_before ContextHasBoundedWidths ks k a)) (all_last ContextHasBoundedWidths ks k a);
  }

  -- ---- a context that is taken into one of those before it
  module _ (i : ℕ) (d r : Context) (l : i < length ds) (is : d ≡ get_or ds i d) (same : HasSameContents k d) (taken : IsMergedInto k d r) where
    here : (P : Context → Type 0) → All P ds → P d
    here P all = subst P (sym is) (all i d l)

    there : Contains ds d
    there = subst (Contains ds) (sym is) (Contains-get_or ds i d l)

    put_there : Contains (set ds i r) r
    put_there = subst (Contains (set ds i r)) (get_or-set_same ds i r r l) (Contains-get_or (set ds i r) i r (omega (arith, l, length-set ds i r)))

    size : d.size ≡ k.size
    size = ap (λ p. p.0) same

    size_taken : r.size ≡ d.size
    size_taken = ap (λ p. p.0) taken.like

    holds_either : (c : List Atom) → holds c r.«when» ≡ (holds c d.«when» || holds c k.«when»)
    holds_either c = ap (holds c) taken.cubes ∙ holds_append c d.«when» k.«when»

    admits_either : (c : List Atom) → admits c r ≡ (admits c d || admits c k)
    admits_either c =
        ap (λ n. nat_eq (length c) n && holds c r.«when») size_taken
        ∙ (ap (λ b. nat_eq (length c) d.size && b) (holds_either c)
        ∙ (and_or (nat_eq (length c) d.size) (holds c d.«when») (holds c k.«when»)
        ∙ ap (λ n. (nat_eq (length c) d.size && holds c d.«when») || (nat_eq (length c) n && holds c k.«when»)) size))

    not_both : AreDisjoint (ks ++ k ∷ []) → (c : List Atom) → cond {A = ℕ} (admits c d) 1 0 + cond (admits c k) 1 0 ≤ 1
    not_both apart c = go (admits c d) refl
      where
        once : times c ks + cond {A = ℕ} (admits c k) 1 0 ≤ 1
        once = omega (arith, apart c, times_append c ks (k ∷ []))

        go : (b : Bool) → admits c d ≡ b → cond {A = ℕ} b 1 0 + cond (admits c k) 1 0 ≤ 1
        go true e =
            let some : 0 < times c ds = times_of c ds d there (admits_is c d e) in
            omega (arith, some, h.choices (apart_before ks k apart) c, once)
        go false e = omega (arith, once)

    counted : AreDisjoint (ks ++ k ∷ []) → (c : List Atom) → cond {A = ℕ} (admits c r) 1 0 ≡ cond (admits c d) 1 0 + cond (admits c k) 1 0
    counted apart c = counted_either (admits c d) (admits c k) (admits c r) (admits_either c) (not_both apart c)

    like_taken : (c : List Atom) → IsAdmitted c r → HasSameContentsAsOne (ks ++ k ∷ []) c r
    like_taken c a = go (either (holds c d.«when») (holds c k.«when») (sym (holds_either c) ∙ a.1))
      where
        go : IsTrue (holds c d.«when») ⊎ IsTrue (holds c k.«when») → HasSameContentsAsOne (ks ++ k ∷ []) c r
        go (inl t) =
            let one = here (λ d. (c : List Atom) → IsAdmitted c d → HasSameContentsAsOne ks c d) h.like c (a.0 ∙ size_taken, t) in
            like_later ks k c r (one.0, one.1, one.2, taken.like ∙ one.3)
        go (inr t) = like_last ks k c r (a.0 ∙ (size_taken ∙ size), t) (taken.like ∙ same)

    admitted_first : (c : List Atom) → IsAdmitted c d → IsAdmitted c r
    admitted_first c a = (a.0 ∙ sym size_taken, holds_either c ∙ ap (λ b. b || holds c k.«when») a.1)

    admitted_second : (c : List Atom) → IsAdmitted c k → IsAdmitted c r
    admitted_second c a = (a.0 ∙ sym (size_taken ∙ size), holds_either c ∙ (ap (λ b. holds c d.«when» || b) a.1 ∙ or_true (holds c d.«when»)))

    -- one that is like a context is still there, or was taken in
    kept_before : (c : List Atom) (q : Context) → HasSameContentsAsOne ds c q → HasSameContentsAsOne (set ds i r) c q
    kept_before c q (e, where_it_is, adm, like) = go (Contains-set_cases ds i d r l is e where_it_is)
      where
        go : (d ≡ e) ⊎ Contains (set ds i r) e → HasSameContentsAsOne (set ds i r) c q
        go (inl was) = (r, put_there, admitted_first c (subst (IsAdmitted c) (sym was) adm), like ∙ (ap contents_of (sym was) ∙ sym taken.like))
        go (inr still) = (e, still, adm, like)

    own_kept : (c : List Atom) → IsAdmitted c k → HasSameContentsAsOne (set ds i r) c k
    own_kept c a = (r, put_there, admitted_second c a, sym (taken.like ∙ same))

    stores : r.store ≡ d.store
    stores = ap (λ p. p.1) taken.like

    own_lines : r.lines ≡ d.lines
    own_lines = ap (λ p. p.2) taken.like

    admitted_in : (ordered : Bool) → AdmitsContext ordered d → AdmitsContext ordered k → AdmitsContext ordered r
    admitted_in ordered p q = record {
      «when» = subst (AdmitsConstraint ordered) (sym taken.cubes) (All-append (AdmitsCube ordered) d.«when» k.«when» p.«when» q.«when»);
      store = subst (All (λ s. AdmitsTerm ordered s.term)) (sym stores) p.store;
      lines = subst (All (λ s. AdmitsTerm ordered s.term)) (sym own_lines) p.lines;
    }

    wide_in : ContextHasBoundedWidths d → ContextHasBoundedWidths r
    wide_in p = record {
      store = subst (All (λ s. HasBoundedWidths s.term)) (sym stores) p.store;
      lines = subst (All (λ s. HasBoundedWidths s.term)) (sym own_lines) p.lines;
    }

    pub merged_in : AreMerged (ks ++ k ∷ []) (set ds i r)
    merged_in = record {
      choices = λ apart c.
          let put = sum_by-set (λ x. cond {A = ℕ} (admits c x) 1 0) ds i r d l in
          let was : cond {A = ℕ} (admits c d) 1 0 ≡ cond (admits c (get_or ds i d)) 1 0 = ap (λ x. cond {A = ℕ} (admits c x) 1 0) is in
          omega (arith, put, was, counted apart c, h.choices (apart_before ks k apart) c, times_append c ks (k ∷ []));
      like = All-set (λ d. (c : List Atom) → IsAdmitted c d → HasSameContentsAsOne (ks ++ k ∷ []) c d) ds i r like_taken
          (all_like_later ks k ds h.like);
      kept = All-push (λ q. (c : List Atom) → IsAdmitted c q → HasSameContentsAsOne (set ds i r) c q) ks k
          (λ j e m c a. kept_before c (get_or ks j e) (h.kept j e m c a)) own_kept;
      different = subst (AllPairs (λ x y. x ≡ y → ⊥)) (sym (map-set_same contents_of ds i r d (taken.like ∙ ap contents_of is))) h.different;
      samples =
          let one = here (HasSampleOfOne ks) h.samples in
          All-set (HasSampleOfOne (ks ++ k ∷ [])) ds i r (sample_later ks k r (one.0, one.1, taken.sample ∙ one.2)) (All-weaker (HasSampleOfOne ks) _ (sample_later ks k) ds h.samples);
      operators = λ ordered a.
          let all = h.operators ordered (all_before (AdmitsContext ordered) ks k a) in
          All-set (AdmitsContext ordered) ds i r (admitted_in ordered (here (AdmitsContext ordered) all) (all_last (AdmitsContext ordered) ks k a)) all;
      widths = λ a.
          let all = h.widths (all_before ContextHasBoundedWidths ks k a) in
          All-set ContextHasBoundedWidths ds i r (wide_in (here ContextHasBoundedWidths all)) all;
    }

-- nothing is merged yet
pub merged_none : AreMerged [] []
merged_none = record {
  choices = λ apart c. refl;
  like = λ i d l. absurd (omega (arith, l));
  kept = λ i d l. absurd (omega (arith, l));
  samples = λ i d l. absurd (omega (arith, l));
  different = λ i j d l m. absurd (omega (arith, m));
  operators = λ ordered h. λ i d l. absurd (omega (arith, l));
  widths = λ h. λ i d l. absurd (omega (arith, l));
}

-- the context at a place where there is one like another
pub like_at : (k : Context) (xs ds : List Context) (i : ℕ) (d : Context) → xs ≡ ds → HoldsAt (HasSameContents k) xs i → d ≡ get_or ds i d → HasSameContents k d
like_at k xs ds i d e h is = subst (HasSameContents k) (ap (λ z. get_or z i d) e ∙ sym is) (h d)

-- ---- cubes that stand behind others

-- one context, or none, is already merged
pub merged_few : (ks : List Context) → length ks ≤ 1 → AreMerged ks ks
merged_few [] l = merged_none
merged_few (k ∷ []) l = merged_new [] [] k merged_none (λ i d m. absurd (omega (arith, m)))
merged_few (k ∷ q ∷ ks) l = absurd (omega (arith, l))

-- ---- hashes
pub hashes_agree : (k d : Context) → HasSameContents k d → context_hash d ≡ context_hash k
hashes_agree k d like = ap hash_of_contents like

-- where each hash is found, and one isn't, no context with that hash is there
pub none_placed : (find : ℕ → Option ℕ) (ps : List ℕ) (ds : List Context) (k : Context) (p : ℕ) → All (λ q. IsSome (find q)) ps → ps ≡ map context_hash ds → p ≡ context_hash k → find p ≡ None → All (λ d. HasSameContents k d → ⊥) ds
none_placed find ps ds k p all e own none = λ i d l like.
    let inside : i < length ps = omega (arith, l, ap length e, length-map ds context_hash) in
    let at : get_or ps i (context_hash d) ≡ p = ap (λ xs. get_or xs i (context_hash d)) e ∙ (get_or-map context_hash ds i d (context_hash d) l ∙ (hashes_agree k (get_or ds i d) like ∙ sym own)) in
    let there : IsSome (find p) = subst (λ q. IsSome (find q)) at (all i (context_hash d) inside) in
    absurd (false≢true (subst IsSome none there))

some_still : (b : Bool) (v : ℕ) (o : Option ℕ) → IsSome o → IsSome (cond b (Some v) o)
some_still true v o h = refl
some_still false v o h = h

-- one hash more has its place, and the others still have one
pub all_placed : (was found : ℕ → Option ℕ) (ps : List ℕ) (p v : ℕ) → ((q : ℕ) → found q ≡ cond (nat_eq p q) (Some v) (was q)) → found p ≡ Some v → All (λ q. IsSome (was q)) ps → All (λ q. IsSome (found q)) (ps ++ p ∷ [])
all_placed was found ps p v each own all =
    All-push (λ q. IsSome (found q)) ps p
    (All-weaker (λ q. IsSome (was q)) (λ q. IsSome (found q)) (λ q h. subst IsSome (sym (each q)) (some_still (nat_eq p q) v (was q) h)) ps all)
    (ap is_some own)

-- the hashes stay where a context is taken into another
pub prints_taken : (ps : List ℕ) (ds : List Context) (i : ℕ) (k d r : Context) → ps ≡ map context_hash ds → d ≡ get_or ds i d → IsMergedInto k d r → ps ≡ map context_hash (set ds i r)
prints_taken ps ds i k d r e is taken = e ∙ sym (map-set_same context_hash ds i r d (hashes_agree d r taken.like ∙ ap context_hash is))
