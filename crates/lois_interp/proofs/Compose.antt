-- Runs one after another, and runs from several contexts.
use Rattle.std.proofs.Common.{◌≡◌, ℕ, inl, inr, Bool, List, [], ◌∷◌, ◌++◌, length, take, map, refl, sym, ap, ◌∙◌, subst, arith}
use Rattle.std.specs.List.{All, Contains}
use Rattle.std.proofs.lemmas.List.{append_assoc}
use Rattle.std.proofs.lemmas.List.Elements.{Contains-append_left, Contains-append_right, Contains-append_cases, All-contains, All-append, All-nil, All-weaker}
use Rattle.std.proofs.lemmas.List.Sums.{count_by-le-length}
use Rattle.lois_base.specs.Atom.{Atom}
use Rattle.lois_base.specs.Data.{TermD, var, tag, tup, coll}
use Rattle.lois_base.specs.Truth.{sampled}
use Rattle.lois_base.specs.Values.{point}
use Rattle.lois_base.proofs.Members.{included_trans}
use Rattle.lois_base.proofs.Validity.{all_that_are}
use Rattle.lois_base.proofs.Lists.{all_right}
use Rattle.lois_context.specs.Choices.{IsAdmitted, AdmitsContext, ContextHasBoundedWidths}
use Rattle.lois_context.specs.Slots.{SlotD, slot_name, store_at}
use Rattle.lois_context.specs.LineValues.{line_values}
use Rattle.lois_context.specs.declared.contexts.Context.{Context}
use Rattle.lois_context.specs.Counted.{admits}
use Rattle.lois_simplify.proofs.Members.{contains_none}
use Rattle.lois_eval.proofs.FaultsAt.{own_sample}
use Rattle.lois_interp.specs.Failed.{AreElements, FailsWithin}
use Rattle.lois_context.specs.Merged.{AreDisjoint, HasSameContents, HasSameContentsAsOne, AreMerged}
use Rattle.lois_answers.specs.ResultsData.{LineD}
use Rattle.lois_eval.specs.WellFormed.{names_of, IsWellFormedIn}
use Rattle.lois_interp.specs.Reached.{IsReachedAt, ComesFrom, RunsFrom}
use Rattle.lois_interp.specs.Run.{Run}
use Rattle.lois_interp.specs.Slots.{IsKeptTerm, IsKeptSlot, AreKept}
use Rattle.lois_context.proofs.Counts.{times_append}
use Rattle.lois_interp.proofs.Lists.{only_one, all_left}
use Rattle.lois_meaning.specs.Store.{NamedValues}
use Rattle.lois_meaning.specs.declared.faults.Fault.{Fault}
use Rattle.lois_answers.specs.declared.faults.FaultKind.{FaultKind}

-- ---- from several contexts
pub comes_more : (run : Run) (ks more : List Context) (d : Context) → ComesFrom run ks d → ComesFrom run (ks ++ more) d
comes_more run ks more d h c adm = let r = h c adm in (r.0, Contains-append_left ks more r.0 r.1, r.2)

pub comes_later : (run : Run) (ks more : List Context) (d : Context) → ComesFrom run more d → ComesFrom run (ks ++ more) d
comes_later run ks more d h c adm = let r = h c adm in (r.0, Contains-append_right ks more r.0 r.1, r.2)

module _ (run : Run) where
  pub from_none : RunsFrom run [] []
  from_none = record {
    choices = λ c. refl;
    reached = λ d h. absurd (contains_none d h);
    operators = λ o h. All-nil (AdmitsContext o);
    widths = λ h. All-nil ContextHasBoundedWidths;
  }

  pub from_more : (ds es : List Context) (ks fs : List Context) → RunsFrom run ds es → RunsFrom run ks fs → RunsFrom run (ds ++ ks) (es ++ fs)
  from_more ds es ks fs h k = record {
    choices = λ c. omega (arith, times_append c ds ks, times_append c es fs, h.choices c, k.choices c);
    reached = λ d there. elim (Contains-append_cases es fs d there) [
      | inl p ↦ comes_more run ds ks d (h.reached d p)
      | inr p ↦ comes_later run ds ks d (k.reached d p)
    ];
    operators = λ o q. All-append (AdmitsContext o) es fs (h.operators o (all_left (IsWellFormedIn run.stands o) ds ks q)) (k.operators o (all_right (IsWellFormedIn run.stands o) ds ks q));
    widths = λ q. All-append ContextHasBoundedWidths es fs (h.widths (all_left ContextHasBoundedWidths ds ks q)) (k.widths (all_right ContextHasBoundedWidths ds ks q));
  }

  -- ---- contexts that are put together
  -- what has the contents of a context that has come from somewhere has come from there
  pub comes_like : (ks : List Context) (m : Context) (c : List Atom) (d : Context) → HasSameContents d m → (k : Context) × Contains ks k × IsReachedAt run k d c → (k : Context) × Contains ks k × IsReachedAt run k m c
  comes_like ks m c d like (k, there, at) =
      let size : m.size ≡ d.size = ap (λ z. z.0) like in
      let store : m.store ≡ d.store = ap (λ z. z.1) like in
      let lines : m.lines ≡ d.lines = ap (λ z. z.2) like in (
        k,
        there,
        record {
          size = size ∙ at.size;
          admitted = at.admitted;
          slots = subst (λ z. AreKept run.assigns (λ x. x ≡ c) k.store z) (sym store) at.slots;
          named = ap (map slot_name) store ∙ at.named;
          ends_there = record {
            printed = at.ends_there.printed;
            run = subst (λ z. run.ends (store_at c k.store) (store_at c z) at.ends_there.printed) (sym store) at.ends_there.run;
            lines = ap (line_values c) lines ∙ at.ends_there.lines;
          };
        },
      )

  pub comes_merged : (ks ds ms : List Context) → ((d : Context) → Contains ds d → ComesFrom run ks d) → AreMerged ds ms → (m : Context) → Contains ms m → ComesFrom run ks m
  comes_merged ks ds ms h merged m there c adm =
      let like = All-contains (λ d. (c : List Atom) → IsAdmitted c d → HasSameContentsAsOne ds c d) ms m merged.like there c adm in
      comes_like ks m c like.0 like.3 (h like.0 like.1 c like.2)

  pub from_merged : (ks ds ms : List Context) → AreDisjoint ds → RunsFrom run ks ds → AreMerged ds ms → RunsFrom run ks ms
  from_merged ks ds ms apart h merged = record {
    choices = λ c. merged.choices apart c ∙ h.choices c;
    reached = comes_merged ks ds ms h.reached merged;
    operators = λ o q. merged.operators o (h.operators o q);
    widths = λ q. merged.widths (h.widths q);
  }

  -- what comes from contexts that are apart is apart
  pub from_apart : (ks ds : List Context) → RunsFrom run ks ds → AreDisjoint ks → AreDisjoint ds
  from_apart ks ds h apart c = omega (arith, h.choices c, apart c)

pub one_apart : (k : Context) → AreDisjoint (k ∷ [])
one_apart k c = count_by-le-length (admits c) (k ∷ [])

-- ---- one run and then another
pub kept_term_trans : (from : ℕ) (s t u : TermD) → IsKeptTerm from s t → IsKeptTerm from t u → IsKeptTerm from s u
kept_term_trans from (coll ks) t u (ls, e, first) k =
    let more : IsKeptTerm from (coll ls) u = subst (λ z. IsKeptTerm from z u) e k in (more.0, more.1, more.2 ∙ first)
kept_term_trans from (var i) t u h k = subst (λ z. IsKeptTerm from z u) h k
kept_term_trans from (tag x) t u h k = subst (λ z. IsKeptTerm from z u) h k
kept_term_trans from (tup ts) t u h k = subst (λ z. IsKeptTerm from z u) h k

pub kept_trans : (A B C : List ℕ → Type 0) (P : List Atom → Type 0) (ss ts us : List SlotD) → ((x : List ℕ) → A x → C x) → ((x : List ℕ) → B x → C x) → AreKept A P ss ts → AreKept B P ts us → AreKept C P ss us
kept_trans A B C P [] ts us f g h k = tt
kept_trans A B C P (s ∷ ss) [] us f g h k = absurd h
kept_trans A B C P (s ∷ ss) (t ∷ ts) [] f g h k = absurd k
kept_trans A B C P (s ∷ ss) (t ∷ ts) (u ∷ us) f g h k = (
  k.0 ∙ h.0,
  λ free.
      let one : IsKeptSlot P s t = h.1 (λ bad. free (f s.name bad)) in
      let two : IsKeptSlot P t u = k.1 (λ bad. free (subst C h.0 (g t.name bad))) in
      record {
        from = two.from ∙ one.from;
        term = kept_term_trans s.from s.term t.term u.term one.term (subst (λ n. IsKeptTerm n t.term u.term) one.from two.term);
        members = λ c p. included_trans (point s.term c) (point t.term c) (point u.term c) (one.members c p) (two.members c p);
      },
  kept_trans A B C P ss ts us f g h.2 k.2,
)

module _ (one two both : Run)
    (ends : (s t u l m : NamedValues) → one.ends s t l → two.ends t u m → both.ends s u (l ++ m))
    (first_assigns : (x : List ℕ) → one.assigns x → both.assigns x) (then_assigns : (x : List ℕ) → two.assigns x → both.assigns x)
    (behind : (names : List (List ℕ)) → two.behind (one.behind names) ≡ both.behind names) where
  pub comes_both : (ks ds : List Context) (e : Context) → ((d : Context) → Contains ds d → ComesFrom one ks d) → ComesFrom two ds e → ComesFrom both ks e
  comes_both ks ds e h k c adm =
      let r = k c adm in
      let later = r.2 in
      let q = h r.0 r.1 c later.admitted in
      let before = q.2 in (
        q.0,
        q.1,
        record {
          size = later.size ∙ before.size;
          admitted = before.admitted;
          slots = kept_trans one.assigns two.assigns both.assigns (λ x. x ≡ c) q.0.store r.0.store e.store first_assigns then_assigns before.slots later.slots;
          named = later.named ∙ (ap two.behind before.named ∙ behind (map slot_name q.0.store));
          ends_there = record {
            printed = before.ends_there.printed ++ later.ends_there.printed;
            run = ends (store_at c q.0.store) (store_at c r.0.store) (store_at c e.store) before.ends_there.printed later.ends_there.printed before.ends_there.run later.ends_there.run;
            lines = later.ends_there.lines ∙ (ap (λ z. z ++ later.ends_there.printed) before.ends_there.lines ∙ append_assoc (line_values c q.0.lines) before.ends_there.printed later.ends_there.printed);
          };
        },
      )

  module _ (first_stands : (o : Bool) (names : List (List ℕ)) → both.stands o names → one.stands o names)
      (then_stands : (o : Bool) (names : List (List ℕ)) → both.stands o names → two.stands o (one.behind names)) where
    both_placed : (o : Bool) (ks ds : List Context) → RunsFrom one ks ds → All (IsWellFormedIn both.stands o) ks → All (IsWellFormedIn two.stands o) ds
    both_placed o ks ds h placed =
        let firsts = All-weaker (IsWellFormedIn both.stands o) (IsWellFormedIn one.stands o) (λ k p. record { names = first_stands o (names_of k.store) p.names; operators = p.operators }) ks placed in
        let admit = h.operators o firsts in
        all_that_are (IsWellFormedIn two.stands o) ds (λ d there.
        let r = h.reached d there (sampled d.sample) (own_sample d) in
        let own = All-contains (IsWellFormedIn both.stands o) ks r.0 placed r.1 in
        record { names = subst (two.stands o) (sym r.2.named) (then_stands o (names_of r.0.store) own.names); operators = All-contains (AdmitsContext o) ds d admit there })

    pub from_both : (ks ds es : List Context) → RunsFrom one ks ds → RunsFrom two ds es → RunsFrom both ks es
    from_both ks ds es h k = record {
      choices = λ c. k.choices c ∙ h.choices c;
      reached = λ e there. comes_both ks ds e h.reached (k.reached e there);
      operators = λ o placed. k.operators o (both_placed o ks ds h placed);
      widths = λ q. k.widths (h.widths q);
    }

-- elements of one context are those of another, of which it has the operators and widths
pub elements_from : (one two : Bool → List (List ℕ) → Type 0) (k d : Context) (n : ℕ) (elements : List LineD) →
    ((o : Bool) → IsWellFormedIn two o k → IsWellFormedIn one o d) → (ContextHasBoundedWidths k → ContextHasBoundedWidths d) → AreElements one d n elements → AreElements two k n elements
elements_from one two k d n elements placed widths h = record {
  levels = h.levels;
  brackets = h.brackets;
  operators = λ o p. h.operators o (placed o p);
  widths = λ w. h.widths (widths w);
}

-- the second fails where the first has come to
module _ (one two both : Run) (k d : Context) (f : Fault)
    (leads : (s t l : NamedValues) (at : ℕ) (kind : FaultKind) (path : NamedValues) → one.ends s t l → two.fails t at kind path → both.fails s at kind path)
    (placed : (o : Bool) → IsWellFormedIn both.stands o k → IsWellFormedIn two.stands o d) (widths : ContextHasBoundedWidths k → ContextHasBoundedWidths d) where
  pub fails_later : (ordered : Bool) → ComesFrom one (k ∷ []) d → FailsWithin ordered two d f → FailsWithin ordered both k f
  fails_later ordered from bad = record {
    fails_at = λ s stand.
        let there = bad.fails_at s stand in
        let a = take d.size s in
        let r = from a there.admitted in
        let at : IsReachedAt one k d a = subst (λ z. IsReachedAt one z d a) (sym (only_one k r.0 r.1)) r.2 in
        let first : a ≡ take k.size s = ap (λ n. take n s) at.size in
        record {
          admitted = subst (λ z. IsAdmitted z k) first at.admitted;
          path = there.path;
          failed = subst (λ z. both.fails (store_at z k.store) f.pos.offset f.kind there.path) first
              (leads (store_at a k.store) (store_at a d.store) at.ends_there.printed f.pos.offset f.kind there.path at.ends_there.run there.failed);
          named = there.named;
        };
    elements = elements_from two.stands both.stands k d (length f.sample.items) f.elements placed widths bad.elements;
  }
