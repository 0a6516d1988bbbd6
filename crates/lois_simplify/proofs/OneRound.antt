-- One comprehension in the place of another, round by round.
use Rattle.std.proofs.Common.{◌≡◌, ℕ, suc, ◌+◌, ◌<◌, ◌≤◌, ◌⊎◌, inl, inr, ◌&&◌, List, [], ◌∷◌, sym, ap, ◌∙◌, subst, arith}
use Rattle.std.specs.Prelude.{Bool}
use Rattle.std.specs.Bool.{IsTrue}
use Rattle.std.proofs.lemmas.Bool.{cases_order}
use Rattle.std.proofs.lemmas.List.Elements.{All-nil}
use Rattle.lois_base.specs.Atom.{Atom}
use Rattle.lois_base.specs.Data.{TermD, CompD, comp, depth_of_comp}
use Rattle.lois_base.specs.Fits.{CubeFits, ConstraintFits, CompFits}
use Rattle.lois_base.specs.Normal.{both, Occurs, IsNormal}
use Rattle.lois_base.specs.Rename.{rename, rename_constraint}
use Rattle.lois_base.specs.Tree.{tree, comp_of}
use Rattle.lois_base.specs.Truth.{holds}
use Rattle.lois_base.specs.Validity.{AdmitsConstraint, AdmitsComp, CompHasBoundedWidths}
use Rattle.lois_base.specs.declared.guards.Lit.{Lit}
use Rattle.lois_base.specs.declared.values.Comp.{Comp}
use Rattle.lois_base.proofs.Both.{holds_both}
use Rattle.lois_base.proofs.RenamedForm.{NamesFit, depth_renamed, widths_renamed, admits_renamed, fits_renamed}
use Rattle.lois_constraint.specs.Normalised.{IsNormalised}
use Rattle.lois_deciders.specs.Satisfiability.{ConstraintIsSatisfiable}
use Rattle.lois_base.specs.Bound.{HoldsForSome}
use Rattle.lois_simplify.specs.Fixed.{IsFixed}
use Rattle.lois_simplify.specs.Simplification.{IsSameWhere, IsSimplification, set_of}
use Rattle.lois_simplify.specs.Irredundant.{HasNormalGuards}
use Rattle.lois_simplify.specs.Lean.{IsIrredundantAlone, IsLeanComp}
use Rattle.lois_simplify.specs.Moved.{moved}
use Rattle.lois_simplify.specs.Plain.{HasPlainGuards, CompHasPlainGuards}
use Rattle.lois_simplify.specs.Rounds.{only, IsRoundOf, IsOpen, IsOpeningOf, IsClosingOf, IsKeptEverywhere}
use Rattle.lois_simplify.specs.declared.rounds.Opening.{Opening}
use Rattle.lois_simplify.specs.declared.rounds.Opening.TheVariants.{Over, Open}
use Rattle.lois_simplify.specs.declared.rounds.Round.{Round}
use Rattle.lois_simplify.specs.declared.rounds.Round.TheVariants.{Lean, Empty, Shorter}
use Rattle.lois_simplify.proofs.Always.{always_adds_nothing, always_is_normalised}
use Rattle.lois_simplify.proofs.Inserted.{moved_below, moved_at, moved_above}
use Rattle.lois_simplify.proofs.Kept.{kept_refl, kept_trans}
use Rattle.lois_simplify.proofs.Plain.{always_is_plain, plain_under}
use Rattle.lois_simplify.proofs.Single.{guard_changed, item_changed, nothing_there, CanLeave, binder_left_out}
use Rattle.lois_simplify.proofs.Under.{normal_under}

module _ (u : List (List Lit)) (n : ℕ) where
  comp_kept : (k r : CompD) → IsSameWhere u n (set_of (only k)) (set_of (only r)) → (CompFits n k → CompFits n r) → ((o : Bool) → AdmitsComp o k → AdmitsComp o r) → (CompHasBoundedWidths k → CompHasBoundedWidths r) → depth_of_comp r ≤ depth_of_comp k → IsSimplification u n (set_of (only k)) (set_of (only r))
  comp_kept k r value levels operators widths deep = record {
    value = value;
    levels = λ f. (levels f.0, tt);
    operators = λ o f. (operators o f.0, tt);
    widths = λ f. (widths f.0, tt);
    depth = omega (arith, deep);
  }

  -- no members
  pub nothing_kept : (m : ℕ) (g h : List (List Lit)) (t : TermD) → ConstraintFits n u → ((d : List Atom) → holds d h ≡ (holds d u && holds d g)) → (ConstraintIsSatisfiable (n + m) h → ⊥) → IsSimplification u n (set_of (only (comp m g t))) (set_of [])
  nothing_kept m g h t fits here none = record {
    value = nothing_there u h n m g t fits here none;
    levels = λ f. tt;
    operators = λ o f. tt;
    widths = λ f. tt;
    depth = omega arith;
  }

  -- another guard that is equally true where u holds
  pub guard_kept : (m : ℕ) (g h : List (List Lit)) (t : TermD) → ConstraintFits n u → ((c : List Atom) → IsTrue (holds c u) → holds c h ≡ holds c g) → ((k : ℕ) → ConstraintFits k g → ConstraintFits k h) → ((o : Bool) → AdmitsConstraint o g → AdmitsConstraint o h) → IsSimplification u n (set_of (only (comp m g t))) (set_of (only (comp m h t)))
  guard_kept m g h t whole same fits admits =
      comp_kept (comp m g t) (comp m h t) (guard_changed u n m g h t whole (λ c o. sym (same c o))) (λ f. (f.0, fits (n + m) f.1, f.2)) (λ o f. (admits o f.0, f.1)) (λ f. f) (omega arith)

  -- another item
  pub item_kept : (m : ℕ) (g h : List (List Lit)) (t s : TermD) → ConstraintFits n u → ((d : List Atom) → holds d h ≡ (holds d u && holds d g)) → IsSimplification h (n + m) t s → IsSimplification u n (set_of (only (comp m g t))) (set_of (only (comp m g s)))
  item_kept m g h t s fits here kept =
      comp_kept (comp m g t) (comp m g s) (item_changed u h n m g t s fits here kept.value) (λ f. (f.0, f.1, kept.levels f.2)) (λ o f. (f.0, kept.operators o f.1)) kept.widths kept.depth

  -- a binder less
  names_fit : (m b a : ℕ) (t : TermD) → b < n + suc m → n ≤ b → (Occurs b t → a < b) → NamesFit (moved b a) (λ i. Occurs i t) (n + suc m) (n + m)
  names_fit m b a t below from place = record { within = within; after = after }
    where
      within : (i : ℕ) → Occurs i t → i < n + suc m → moved b a i < n + m
      within i o l = go (cases_order i b)
        where
          go : (i ≡ b) ⊎ ((i < b) ⊎ (b < i)) → moved b a i < n + m
          go (inl e) =
              let p : a < b = place (subst (λ j. Occurs j t) e o) in
              subst (λ j. moved b a j < n + m) (sym e) (omega (arith, moved_at b a, p))
          go (inr (inl k)) = omega (arith, moved_below b a i k)
          go (inr (inr k)) = omega (arith, moved_above b a i k)

      after : (j : ℕ) → moved b a (n + suc m + j) ≡ n + m + j
      after j =
          let k : b < n + suc m + j = omega arith in
          moved_above b a (n + suc m + j) k ∙ omega arith

  one_less : (m b a : ℕ) (g h : List (List Lit)) (t : TermD) → ConstraintFits n u → n ≤ b → b < n + suc m → HoldsForSome (n + m) (rename_constraint (moved b (n + m)) g) h → ConstraintFits (n + m) h → ((o : Bool) → AdmitsConstraint o g → AdmitsConstraint o h) → CompFits n (comp (suc m) g t) → CanLeave u g (n + suc m) b a t → IsSimplification u n (set_of (only (comp (suc m) g t))) (set_of (only (comp m h (rename (moved b a) t))))
  one_less m b a g h t fits from below some levels admits whole leave =
      comp_kept (comp (suc m) g t) (comp m h (rename (moved b a) t)) (binder_left_out u n m b a g h t fits from below whole.1 some leave)
      (λ f. (omega (arith, f.0), levels, fits_renamed (moved b a) t (n + suc m) (n + m) (omega arith) (names_fit m b a t below from leave.place) f.2))
      (λ o f. (admits o f.0, admits_renamed (moved b a) o t f.1)) (widths_renamed (moved b a) t) (omega (arith, depth_renamed (moved b a) t))

  pub binder_less : (m m' b a : ℕ) (g h : List (List Lit)) (t s : TermD) → m' + 1 ≡ m → s ≡ rename (moved b a) t → ConstraintFits n u → n ≤ b → b < n + m → HoldsForSome (n + m') (rename_constraint (moved b (n + m')) g) h → ConstraintFits (n + m') h → ((o : Bool) → AdmitsConstraint o g → AdmitsConstraint o h) → CompFits n (comp m g t) → CanLeave u g (n + m) b a t → IsSimplification u n (set_of (only (comp m g t))) (set_of (only (comp m' h s)))
  binder_less m m' b a g h t s count e fits from below some levels admits whole leave =
      let up : m ≡ suc m' = omega arith in
      subst (λ z. IsSimplification u n (set_of (only (comp m g t))) (set_of (only (comp m' h z)))) (sym e)
      (subst (λ j. IsSimplification u n (set_of (only (comp j g t))) (set_of (only (comp m' h (rename (moved b a) t))))) (sym up)
      (one_less m' b a g h t fits from (omega arith) some levels admits (subst (λ j. CompFits n (comp j g t)) up whole) (subst (λ j. CanLeave u g (n + j) b a t) up leave)))

  pub fixed_can_leave : (k b a : ℕ) (g h : List (List Lit)) (t : TermD) → ((d : List Atom) → holds d h ≡ (holds d u && holds d g)) → a < b → IsFixed k h b a → CanLeave u g k b a t
  fixed_can_leave k b a g h t here below fixed = record {
    place = λ o. below;
    atom = λ o d l p q. fixed d l (here d ∙ (ap (λ z. z && holds d g) p ∙ q));
  }

  pub tied_can_leave : (k b a : ℕ) (g : List (List Lit)) (t : TermD) → a < b → IsFixed k g b a → CanLeave u g k b a t
  tied_can_leave k b a g t below fixed = record { place = λ o. below; atom = λ o d l p q. fixed d l q }

  pub unused_can_leave : (k b a : ℕ) (g : List (List Lit)) (t : TermD) → (Occurs b t → ⊥) → CanLeave u g k b a t
  unused_can_leave k b a g t unused =
      record { place = λ o. absurd (unused o); atom = λ o d l p q. absurd (unused o) }

  -- where nothing is left to do
  pub open_is_lean : (brief : Bool) (m : ℕ) (g h : List (List Lit)) (s : TermD) → IsOpen brief u n m g h → IsNormal s h (n + m) → HasNormalGuards s → ((b : ℕ) → n ≤ b → b < n + m → Occurs b s) → IsIrredundantAlone u n m g s
  open_is_lean brief m g h s o normal guards used = record {
    met = (o.met.0, record { count = o.met.1; met = subst IsTrue (same o.met.0) o.met.2 });
    used = used;
    free = λ b a p q r. let f = o.free b p q a r in (f.0, record { count = f.1; met = subst IsTrue (same f.0) f.2 }, f.3);
    guard = o.guard;
    item = normal_under s h (both u g) (n + m) same normal;
    guards = guards;
  }
    where
      same : (c : List Atom) → holds c h ≡ holds c (both u g)
      same c = o.here c ∙ sym (holds_both c u g)

  pub open_is_plain : (brief : Bool) (m : ℕ) (g h : List (List Lit)) (s : TermD) → IsOpen brief u n m g h → (IsTrue brief → HasPlainGuards s h (n + m)) → IsTrue brief → CompHasPlainGuards (comp m g s) u n
  open_is_plain brief m g h s o plain read =
      (o.plain read, plain_under s h (both u g) (n + m) (λ c. o.here c ∙ sym (holds_both c u g)) (plain read))

-- the round is over
pub round_closed : (brief : Bool) (u : List (List Lit)) (n : ℕ) (k r : Comp) (h : List (List Lit)) (x : Round) → ConstraintFits n u → IsSimplification u n (set_of (only (comp_of k))) (set_of (only (comp_of r))) → r.binders ≤ k.binders → IsOpen brief u n r.binders r.guard h → IsNormal (tree r.item) h (n + r.binders) → HasNormalGuards (tree r.item) → (IsTrue brief → HasPlainGuards (tree r.item) h (n + r.binders)) → IsClosingOf n r x → IsRoundOf brief u n k x
round_closed brief u n k r h (Lean s) fits kept less o normal guards plain (e, used) = (
  subst (λ z. IsSimplification u n (set_of (only (comp_of k))) (set_of (only z))) (sym e) kept,
  subst (IsLeanComp brief u n) (sym e) (open_is_lean u n brief r.binders r.guard h (tree r.item) o normal guards used, open_is_plain u n brief r.binders r.guard h (tree r.item) o plain),
)
round_closed brief u n k r h Empty fits kept less o normal guards plain y = absurd y
round_closed brief u n k r h (Shorter s) fits kept less o normal guards plain y = (
  kept_trans u n (set_of (only (comp_of k))) (set_of (only (comp_of r))) (set_of (only (comp_of s))) kept (y.0 u fits),
  omega (arith, y.1),
)

-- ---- whatever holds
module _ (n : ℕ) where
  pub everywhere_refl : (k : CompD) → IsKeptEverywhere n k k
  everywhere_refl k u f = kept_refl u n (set_of (only k))

  pub everywhere_trans : (k s r : CompD) → IsKeptEverywhere n k s → IsKeptEverywhere n s r → IsKeptEverywhere n k r
  everywhere_trans k s r p q u f =
      kept_trans u n (set_of (only k)) (set_of (only s)) (set_of (only r)) (p u f) (q u f)

  pub everywhere_fits : (k r : CompD) → IsKeptEverywhere n k r → CompFits n k → CompFits n r
  everywhere_fits k r p f = ((p [] (All-nil (CubeFits n))).levels (f, tt)).0

  pub everywhere_admits : (k r : CompD) → IsKeptEverywhere n k r → (o : Bool) → AdmitsComp o k → AdmitsComp o r
  everywhere_admits k r p o f = ((p [] (All-nil (CubeFits n))).operators o (f, tt)).0

  -- an unused binder is left out
  pub unused_less : (m m' b : ℕ) (g h : List (List Lit)) (t s : TermD) → m' + 1 ≡ m → s ≡ rename (moved b 0) t → n ≤ b → b < n + m → HoldsForSome (n + m') (rename_constraint (moved b (n + m')) g) h → ConstraintFits (n + m') h → ((o : Bool) → AdmitsConstraint o g → AdmitsConstraint o h) → CompFits n (comp m g t) → (Occurs b t → ⊥) → IsKeptEverywhere n (comp m g t) (comp m' h s)
  unused_less m m' b g h t s count e from below some levels admits whole unused u f =
      binder_less u n m m' b 0 g h t s count e f from below some levels admits whole (unused_can_leave u n (n + m) b 0 g t unused)

  -- a binder is left out that the guard ties to an earlier level
  pub tied_less : (m m' b a : ℕ) (g h : List (List Lit)) (t s : TermD) → m' + 1 ≡ m → s ≡ rename (moved b a) t → n ≤ b → b < n + m → HoldsForSome (n + m') (rename_constraint (moved b (n + m')) g) h → ConstraintFits (n + m') h → ((o : Bool) → AdmitsConstraint o g → AdmitsConstraint o h) → CompFits n (comp m g t) → a < b → IsFixed (n + m) g b a → IsKeptEverywhere n (comp m g t) (comp m' h s)
  tied_less m m' b a g h t s count e from below some levels admits whole lower fixed u f =
      binder_less u n m m' b a g h t s count e f from below some levels admits whole (tied_can_leave u n (n + m) b a g t lower fixed)

-- ---- a comprehension without binders, whose guard always holds
pub always_open : (brief : Bool) (u : List (List Lit)) (n m : ℕ) (g : List (List Lit)) → m ≡ 0 → g ≡ [] ∷ [] → ConstraintFits n u → ConstraintIsSatisfiable n u → IsOpen brief u n m g u
always_open brief u n m g none always fits met =
    let same : n ≡ n + m = omega (arith, none) in
    record {
      levels = subst (λ j. ConstraintFits j u) same fits;
      operators = λ o a b. a;
      here = always_adds_nothing u g always;
      guard = subst IsNormalised (sym always) always_is_normalised;
      plain = λ read. always_is_plain g u (n + m) always;
      met = subst (λ j. ConstraintIsSatisfiable j u) same met;
      free = λ b from below. absurd (omega (arith, none, from, below));
    }

-- ---- what is made of the comprehension without its unused binders is made of the comprehension
pub opened_without_unused : (brief : Bool) (u : List (List Lit)) (n : ℕ) (k s : Comp) (x : Opening) → ConstraintFits n u → IsKeptEverywhere n (comp_of k) (comp_of s) → s.binders ≤ k.binders → IsOpeningOf brief u n s x → IsOpeningOf brief u n k x
opened_without_unused brief u n k s (Over (Lean r)) fits kept less o = (
  kept_trans u n (set_of (only (comp_of k))) (set_of (only (comp_of s))) (set_of (only (comp_of r))) (kept u fits) o.0,
  o.1,
)
opened_without_unused brief u n k s (Over Empty) fits kept less o =
    kept_trans u n (set_of (only (comp_of k))) (set_of (only (comp_of s))) (set_of []) (kept u fits) o
opened_without_unused brief u n k s (Over (Shorter r)) fits kept less o = (
  kept_trans u n (set_of (only (comp_of k))) (set_of (only (comp_of s))) (set_of (only (comp_of r))) (kept u fits) o.0,
  omega (arith, o.1, less),
)
opened_without_unused brief u n k s (Open r) fits kept less o = (
  kept_trans u n (set_of (only (comp_of k))) (set_of (only (comp_of s))) (set_of (only (comp_of r.comp))) (kept u fits) o.0,
  omega (arith, o.1, less),
  o.2,
)

-- binders are left out
pub record ShorterSoFar (n : ℕ) (k r : Comp) : Type 0 where
  pub kept : IsKeptEverywhere n (comp_of k) (comp_of r)
  pub binders : r.binders ≤ k.binders
