-- Statements that lead from a context to one context.
use Rattle.std.proofs.Common.{◌≡◌, ℕ, zero, suc, ◌<◌, ◌≤◌, inl, inr, Bool, true, false, List, [], ◌∷◌, ◌++◌, length, take, map, get_or, set, IsTrue, if◌then◌else◌, bytes_eq, refl, sym, ap, ◌∙◌, subst, append-nil, arith}
use Rattle.std.specs.Bool.{IsFalse}
use Rattle.std.specs.List.{All, AllByRecursion, IsDistinct}
use Rattle.std.proofs.lemmas.List.{map-append, take-append-le, get_or_default}
use Rattle.std.proofs.lemmas.List.Elements.{Contains-push, All-head, All-tail, All-cons, All-append, All-contains}
use Rattle.std.proofs.lemmas.Slice.Eq.{bytes_eq-Decides}
use Rattle.lois_base.specs.Atom.{Atom}
use Rattle.lois_base.specs.Data.{TermD, coll, CompsD, comps_of}
use Rattle.lois_base.specs.Truth.{holds}
use Rattle.lois_base.specs.Validity.{AdmitsConstraint, AdmitsTerm, HasBoundedWidths}
use Rattle.lois_base.specs.Values.{point, IsIn, IsIncluded}
use Rattle.lois_base.proofs.Members.{same_refl}
use Rattle.lois_base.proofs.Lists.{all_one}
use Rattle.lois_answers.specs.ResultsData.{LineD}
use Rattle.lois_script.specs.Tree.{ExprD, CondD, «let», assign, add, assert, print}
use Rattle.lois_meaning.specs.Expressions.{Gives, HasTruth}
use Rattle.lois_meaning.specs.Runs.{IsSetWith}
use Rattle.lois_meaning.specs.Store.{named, stored, AreSameNamed, IsShallow}
use Rattle.lois_meaning.proofs.Stores.{named_refl}
use Rattle.lois_context.specs.Choices.{IsAdmitted, AdmitsContext, ContextHasBoundedWidths}
use Rattle.lois_context.specs.Entered.{items_listed, carried, element_slot}
use Rattle.lois_context.specs.Kept.{IsSlot, HasDistinctNames}
use Rattle.lois_context.specs.Slots.{SlotD, IsNew, slot_name, slot_at, store_at}
use Rattle.lois_context.specs.LineValues.{line_values}
use Rattle.lois_context.specs.ItemCounts.{comps_in, count_of_items}
use Rattle.lois_context.specs.declared.contexts.Context.{Context}
use Rattle.lois_context.proofs.Carried.{count_of, distinct_more}
use Rattle.lois_context.proofs.Counts.{times_like, admits_like}
use Rattle.lois_context.proofs.Entered.{listed_of}
use Rattle.lois_context.proofs.Joined.{of_listed}
use Rattle.lois_eval.specs.Made.{bare, IsHeldBy}
use Rattle.lois_eval.specs.WellFormed.{IsWellFormedIn}
use Rattle.lois_eval.proofs.Names.{held_at, held_value}
use Rattle.lois_interp.specs.Assigned.{StmtAssigns}
use Rattle.lois_interp.specs.Leaves.{IsWithStore}
use Rattle.lois_interp.specs.Looped.{Holds}
use Rattle.lois_interp.specs.Members.{IsWithItem}
use Rattle.lois_interp.specs.Reached.{EndsAt, IsReachedAt, RunsAs}
use Rattle.lois_interp.specs.Run.{Run, stmt_run}
use Rattle.lois_interp.specs.Slots.{IsKeptTerm, IsKeptSlot, AreKept}
use Rattle.lois_interp.proofs.Kept.{kept_weaker}
use Rattle.lois_interp.proofs.PutOnce.{item_kept, item_included, set_with}
use Rattle.lois_interp.proofs.Lists.{only_one, of_one}
use Rattle.lois_interp.proofs.Sequence.{kept_refl}

-- one context, where the first one admits
module _ (run : Run) (k d : Context) (size : d.size ≡ k.size) (is : d.«when» ≡ k.«when») where
  pub one_runs : ((a : List Atom) → IsAdmitted a k → EndsAt run.ends k d a) → AreKept run.assigns (λ a. IsAdmitted a k) k.store d.store → map slot_name d.store ≡ run.behind (map slot_name k.store) →
      ((o : Bool) → IsWellFormedIn run.stands o k → AdmitsContext o d) → (ContextHasBoundedWidths k → ContextHasBoundedWidths d) → RunsAs run k (d ∷ [])
  one_runs ends kept names operators widths = record {
    choices = λ a. times_like a k d (admits_like a k d size is);
    reached = λ q there a adm. (k, Contains-push [] k, subst (λ z. IsReachedAt run k z a) (only_one d q there) (at a (subst (λ z. IsAdmitted a z) (sym (only_one d q there)) adm)));
    operators = λ o h. all_one (AdmitsContext o) d (operators o (of_one (IsWellFormedIn run.stands o) k h));
    widths = λ h. all_one ContextHasBoundedWidths d (widths (of_one ContextHasBoundedWidths k h));
  }
    where
      at : (a : List Atom) → IsAdmitted a d → IsReachedAt run k d a
      at a adm =
          let before : IsAdmitted a k = (adm.0 ∙ size, subst (λ g. IsTrue (holds a g)) is adm.1) in
          record {
            size = size;
            admitted = before;
            slots = kept_weaker run.assigns (λ x. IsAdmitted x k) (λ x. x ≡ a) k.store d.store (λ x e. subst (λ z. IsAdmitted z k) (sym e) before) kept;
            named = names;
            ends_there = ends a before;
          }

  -- where the store alone is other than before
  pub with_store : d.lines ≡ k.lines → ((a : List Atom) → IsAdmitted a k → run.ends (store_at a k.store) (store_at a d.store) []) → AreKept run.assigns (λ a. IsAdmitted a k) k.store d.store → map slot_name d.store ≡ run.behind (map slot_name k.store) →
      ((o : Bool) → IsWellFormedIn run.stands o k → All (λ (s : SlotD). AdmitsTerm o s.term) d.store) → (ContextHasBoundedWidths k → All (λ (s : SlotD). HasBoundedWidths s.term) d.store) → RunsAs run k (d ∷ [])
  with_store lines ends kept names operators widths =
      one_runs (λ a adm. record { printed = []; run = ends a adm; lines = ap (line_values a) lines ∙ sym (append-nil (line_values a k.lines)) }) kept names
      (λ o h. record {
        «when» = subst (AdmitsConstraint o) (sym is) h.operators.«when»;
        store = operators o h;
        lines = subst (λ z. All (λ (l : LineD). AdmitsTerm o l.term) z) (sym lines) h.operators.lines;
      })
      (λ w. record { store = widths w; lines = subst (λ z. All (λ (l : LineD). HasBoundedWidths l.term) z) (sym lines) w.lines })

-- ---- a new name comes last
kept_more_slots : (A : List ℕ → Type 0) (P : List Atom → Type 0) (ss more : List SlotD) → AreKept A P ss (ss ++ more)
kept_more_slots A P [] more = tt
kept_more_slots A P (s ∷ ss) more = let one = kept_refl A P (s ∷ []) in (refl, one.1, kept_more_slots A P ss more)

stored_last : (s : SlotD) (a : List Atom) (ss : List SlotD) → IsNew s.name ss → store_at a (ss ++ s ∷ []) ≡ stored s.name (point s.term a) (store_at a ss)
stored_last s a [] h = refl
stored_last s a (q ∷ ss) h =
    ap (λ z. slot_at a q ∷ z) (stored_last s a ss (All-tail (λ (r : SlotD). IsFalse (bytes_eq r.name s.name)) q ss h))
    ∙ sym (ap (λ p. if p then (named s.name (point s.term a) ∷ store_at a ss) else (slot_at a q ∷ stored s.name (point s.term a) (store_at a ss))) (All-head (λ (r : SlotD). IsFalse (bytes_eq r.name s.name)) q ss h))

pub distinct_last : (s : SlotD) (ss : List SlotD) → HasDistinctNames ss → IsNew s.name ss → HasDistinctNames (ss ++ s ∷ [])
distinct_last s ss h new = subst (IsDistinct bytes_eq) (names ss) (distinct_more 0 0 s.name s.term ss h new)
  where
    names : (qs : List SlotD) → map slot_name (map (carried 0 0) qs ++ element_slot s.name s.term ∷ []) ≡ map slot_name (qs ++ s ∷ [])
    names [] = refl
    names (q ∷ qs) = ap (λ z. q.name ∷ z) (names qs)

pub let_runs : (p : ℕ) (e : ExprD) (s : SlotD) (k d : Context) → IsWithStore (k.store ++ s ∷ []) k d → IsNew s.name k.store → ((a : List Atom) → IsAdmitted a k → Gives e (store_at a k.store) (point s.term a)) →
    ((o : Bool) → IsWellFormedIn ((stmt_run («let» p s.name e)).stands) o k → AdmitsTerm o s.term) → (ContextHasBoundedWidths k → HasBoundedWidths s.term) → RunsAs (stmt_run («let» p s.name e)) k (d ∷ [])
let_runs p e s k d is new gives operators widths =
    with_store (stmt_run («let» p s.name e)) k d is.size is.«when» is.lines
    (λ a adm. (
      point s.term a,
      gives a adm,
      subst (λ z. AreSameNamed z (stored s.name (point s.term a) (store_at a k.store))) (sym (ap (store_at a) is.stored ∙ stored_last s a k.store new)) (named_refl (stored s.name (point s.term a) (store_at a k.store))),
      refl,
    ))
    (subst (λ z. AreKept (StmtAssigns («let» p s.name e)) (λ a. IsAdmitted a k) k.store z) (sym is.stored) (kept_more_slots (StmtAssigns («let» p s.name e)) (λ a. IsAdmitted a k) k.store (s ∷ [])))
    (ap (map slot_name) is.stored ∙ map-append slot_name k.store (s ∷ []))
    (λ o h. subst (λ z. All (λ (q : SlotD). AdmitsTerm o q.term) z) (sym is.stored) (All-append (λ (q : SlotD). AdmitsTerm o q.term) k.store (s ∷ []) h.operators.store (all_one (λ (q : SlotD). AdmitsTerm o q.term) s (operators o h))))
    (λ w. subst (λ z. All (λ (q : SlotD). HasBoundedWidths q.term) z) (sym is.stored) (All-append (λ (q : SlotD). HasBoundedWidths q.term) k.store (s ∷ []) w.store (all_one (λ (q : SlotD). HasBoundedWidths q.term) s (widths w))))

-- ---- a slot in the place of one with the same name
stored_at : (s : SlotD) (a : List Atom) (ss : List SlotD) (i : ℕ) → HasDistinctNames ss → i < length ss → ((q : SlotD) → (get_or ss i q).name ≡ s.name) → store_at a (set ss i s) ≡ stored s.name (point s.term a) (store_at a ss)
unfolding IsDistinct
stored_at s a [] i distinct lt at = absurd (omega arith)
stored_at s a (q ∷ ss) zero distinct lt at =
    let same : bytes_eq q.name s.name ≡ true = (bytes_eq-Decides q.name s.name).1 (at q) in
    sym (ap (λ p. if p then (named s.name (point s.term a) ∷ store_at a ss) else (slot_at a q ∷ stored s.name (point s.term a) (store_at a ss))) same)
stored_at s a (q ∷ ss) (suc i) distinct lt at =
    let later = stored_at s a ss i distinct.1 (omega arith) at in
    let other : bytes_eq q.name s.name ≡ false = apart ss i distinct.0 (omega arith) at in
    ap (λ z. slot_at a q ∷ z) later ∙ sym (ap (λ p. if p then (named s.name (point s.term a) ∷ store_at a ss) else (slot_at a q ∷ stored s.name (point s.term a) (store_at a ss))) other)
  where
    apart : (rs : List SlotD) (j : ℕ) → AllByRecursion (λ y. bytes_eq q.name y ≡ false) (map slot_name rs) → j < length rs → ((r : SlotD) → (get_or rs j r).name ≡ s.name) → bytes_eq q.name s.name ≡ false
    apart [] j h lt at = absurd (omega arith)
    apart (r ∷ rs) zero h lt at = ap (bytes_eq q.name) (sym (at r)) ∙ h.0
    apart (r ∷ rs) (suc j) h lt at = apart rs j h.1 (omega arith) at

set_names : (s : SlotD) (ss : List SlotD) (i : ℕ) → ((q : SlotD) → (get_or ss i q).name ≡ s.name) → map slot_name (set ss i s) ≡ map slot_name ss
set_names s [] i at = refl
set_names s (q ∷ ss) zero at = ap (λ z. z ∷ map slot_name ss) (sym (at q))
set_names s (q ∷ ss) (suc i) at = ap (λ z. q.name ∷ z) (set_names s ss i at)

pub distinct_set : (s : SlotD) (ss : List SlotD) (i : ℕ) → ((q : SlotD) → (get_or ss i q).name ≡ s.name) → HasDistinctNames ss → HasDistinctNames (set ss i s)
distinct_set s ss i at h = subst (IsDistinct bytes_eq) (sym (set_names s ss i at)) h

pub set_has : (P : SlotD → Type 0) (s : SlotD) (ss : List SlotD) (i : ℕ) → P s → All P ss → All P (set ss i s)
set_has P s [] i one h = h
set_has P s (q ∷ ss) zero one h = All-cons P s ss one (All-tail P q ss h)
set_has P s (q ∷ ss) (suc i) one h = All-cons P q (set ss i s) (All-head P q ss h) (set_has P s ss i one (All-tail P q ss h))

-- the others are kept, and that one too where it must be
set_kept : (A : List ℕ → Type 0) (P : List Atom → Type 0) (s : SlotD) (ss : List SlotD) (i : ℕ) → i < length ss → ((q : SlotD) → (get_or ss i q).name ≡ s.name) → ((A s.name → ⊥) → IsKeptSlot P (get_or ss i s) s) → AreKept A P ss (set ss i s)
set_kept A P s [] i lt at one = tt
set_kept A P s (q ∷ ss) zero lt at one = (sym (at q), λ free. one (λ bad. free (subst A (sym (at q)) bad)), kept_refl A P ss)
set_kept A P s (q ∷ ss) (suc i) lt at one = let own = kept_refl A P (q ∷ []) in (refl, own.1, set_kept A P s ss i (omega arith) at one)

module _ (s : SlotD) (i : ℕ) (k d : Context) (is : IsWithStore (set k.store i s) k d) (lt : i < length k.store) (at : (q : SlotD) → (get_or k.store i q).name ≡ s.name) where
  pub stored_there : (a : List Atom) → store_at a d.store ≡ stored s.name (point s.term a) (store_at a k.store)
  stored_there a = ap (store_at a) is.stored ∙ stored_at s a k.store i k.names lt at

  pub assign_runs : (p : ℕ) (e : ExprD) → ((a : List Atom) → IsAdmitted a k → Gives e (store_at a k.store) (point s.term a)) →
      ((o : Bool) → IsWellFormedIn ((stmt_run (assign p s.name e)).stands) o k → AdmitsTerm o s.term) → (ContextHasBoundedWidths k → HasBoundedWidths s.term) → RunsAs (stmt_run (assign p s.name e)) k (d ∷ [])
  assign_runs p e gives operators widths =
      with_store (stmt_run (assign p s.name e)) k d is.size is.«when» is.lines
      (λ a adm. (point s.term a, gives a adm, subst (λ z. AreSameNamed z (stored s.name (point s.term a) (store_at a k.store))) (sym (stored_there a)) (named_refl (stored s.name (point s.term a) (store_at a k.store))), refl))
      (subst (λ z. AreKept (StmtAssigns (assign p s.name e)) (λ a. IsAdmitted a k) k.store z) (sym is.stored) (set_kept (StmtAssigns (assign p s.name e)) (λ a. IsAdmitted a k) s k.store i lt at (λ free. absurd (free refl))))
      (ap (map slot_name) is.stored ∙ set_names s k.store i at)
      (λ o h. subst (λ z. All (λ (q : SlotD). AdmitsTerm o q.term) z) (sym is.stored) (set_has (λ (q : SlotD). AdmitsTerm o q.term) s k.store i (operators o h) h.operators.store))
      (λ w. subst (λ z. All (λ (q : SlotD). HasBoundedWidths q.term) z) (sym is.stored) (set_has (λ (q : SlotD). HasBoundedWidths q.term) s k.store i (widths w) w.store))

-- ---- what changes nothing
pub assert_runs : (p : ℕ) (c : CondD) (k : Context) → ((a : List Atom) → IsAdmitted a k → HasTruth c (store_at a k.store) true) → RunsAs (stmt_run (assert p c)) k (k ∷ [])
assert_runs p c k truth =
    one_runs (stmt_run (assert p c)) k k refl refl
    (λ a adm. record { printed = []; run = (truth a adm, named_refl (store_at a k.store), refl); lines = sym (append-nil (line_values a k.lines)) })
    (kept_refl (StmtAssigns (assert p c)) (λ a. IsAdmitted a k) k.store) refl (λ o h. h.operators) (λ w. w)

pub print_runs : (p q : ℕ) (l : LineD) (k d : Context) → d.size ≡ k.size → d.«when» ≡ k.«when» → d.store ≡ k.store → d.lines ≡ k.lines ++ l ∷ [] → Holds l.name k.store l.term → RunsAs (stmt_run (print p q l.name)) k (d ∷ [])
print_runs p q l k d size is store lines held =
    one_runs (stmt_run (print p q l.name)) k d size is
    (λ a adm. record {
      printed = named l.name (point l.term a) ∷ [];
      run = (point l.term a, point l.term a, held.value a, same_refl (point l.term a), subst (λ z. AreSameNamed (store_at a z) (store_at a k.store)) (sym store) (named_refl (store_at a k.store)), refl);
      lines = ap (line_values a) lines ∙ map-append _ k.lines _;
    })
    (subst (λ z. AreKept (StmtAssigns (print p q l.name)) (λ a. IsAdmitted a k) k.store z) (sym store) (kept_refl (StmtAssigns (print p q l.name)) (λ a. IsAdmitted a k) k.store))
    (ap (map slot_name) store)
    (λ o h. record {
      «when» = subst (AdmitsConstraint o) (sym is) h.operators.«when»;
      store = subst (λ z. All (λ (s : SlotD). AdmitsTerm o s.term) z) (sym store) h.operators.store;
      lines = subst (λ z. All (λ (r : LineD). AdmitsTerm o r.term) z) (sym lines)
          (All-append (λ (r : LineD). AdmitsTerm o r.term) k.lines (l ∷ []) h.operators.lines (all_one (λ (r : LineD). AdmitsTerm o r.term) l (held_has (AdmitsTerm o) h.operators.store)));
    })
    (λ w. record {
      store = subst (λ z. All (λ (s : SlotD). HasBoundedWidths s.term) z) (sym store) w.store;
      lines = subst (λ z. All (λ (r : LineD). HasBoundedWidths r.term) z) (sym lines)
          (All-append (λ (r : LineD). HasBoundedWidths r.term) k.lines (l ∷ []) w.lines (all_one (λ (r : LineD). HasBoundedWidths r.term) l (held_has HasBoundedWidths w.store)));
    })
  where
    held_has : (P : TermD → Type 0) → All (λ (q : SlotD). P q.term) k.store → P l.term
    held_has P all = subst P held.slot.2 (All-contains (λ (q : SlotD). P q.term) k.store held.slot.0 all held.slot.1)

-- ---- a member more
module _ (q s : SlotD) (item : TermD) (i : ℕ) (k d : Context) (is : IsWithStore (set k.store i s) k d) (lt : i < length k.store) (at : (r : SlotD) → (get_or k.store i r).name ≡ s.name)
    (old : q ≡ get_or k.store i q) (ks : CompsD) (set_is : q.term ≡ coll ks) (from : s.from ≡ q.from) (more : IsWithItem q.term item s.term) where
  old_held : IsHeldBy s.name k.store q.term
  old_held = subst (λ (r : SlotD). IsHeldBy s.name k.store r.term) (sym old) (held_at s.name k.store i q k.names lt (at q))

  old_slot : IsSlot k.size q
  old_slot = subst (IsSlot k.size) (sym old) (k.slots i q lt)

  kept_slot : IsKeptSlot (λ a. IsAdmitted a k) (get_or k.store i s) s
  kept_slot = subst (λ z. IsKeptSlot (λ a. IsAdmitted a k) z s) (old ∙ get_or_default k.store i q s lt) (record {
    from = from;
    term = item_kept q.term item s.term ks set_is more q.from old_slot.1;
    members = λ c p. item_included q.term item s.term ks set_is more c;
  })

  pub add_runs : (p : ℕ) (e : ExprD) → ((a : List Atom) → IsAdmitted a k → Gives e (store_at a k.store) (point item a)) → ((a : List Atom) → IsAdmitted a k → IsShallow (point s.term a)) →
      ((o : Bool) → IsWellFormedIn ((stmt_run (add e p s.name)).stands) o k → AdmitsTerm o s.term) → (ContextHasBoundedWidths k → HasBoundedWidths s.term) → RunsAs (stmt_run (add e p s.name)) k (d ∷ [])
  add_runs p e gives shallow operators widths =
      with_store (stmt_run (add e p s.name)) k d is.size is.«when» is.lines
      (λ a adm. (
        point q.term a,
        point item a,
        point s.term a,
        held_value s.name k.store q.term a old_held,
        gives a adm,
        set_with q.term item s.term ks set_is more a,
        shallow a adm,
        subst (λ z. AreSameNamed z (stored s.name (point s.term a) (store_at a k.store))) (sym (stored_there s i k d is lt at a)) (named_refl (stored s.name (point s.term a) (store_at a k.store))),
        refl,
      ))
      (subst (λ z. AreKept (StmtAssigns (add e p s.name)) (λ a. IsAdmitted a k) k.store z) (sym is.stored) (set_kept (StmtAssigns (add e p s.name)) (λ a. IsAdmitted a k) s k.store i lt at (λ free. kept_slot)))
      (ap (map slot_name) is.stored ∙ set_names s k.store i at)
      (λ o h. subst (λ z. All (λ (r : SlotD). AdmitsTerm o r.term) z) (sym is.stored) (set_has (λ (r : SlotD). AdmitsTerm o r.term) s k.store i (operators o h) h.operators.store))
      (λ w. subst (λ z. All (λ (r : SlotD). HasBoundedWidths r.term) z) (sym is.stored) (set_has (λ (r : SlotD). HasBoundedWidths r.term) s k.store i (widths w) w.store))
