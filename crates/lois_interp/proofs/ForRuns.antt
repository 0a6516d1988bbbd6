-- What stands behind a loop is what the loop comes to.
use Rattle.std.proofs.Common.{◌≡◌, ℕ, ◌≤◌, inl, Bool, List, [], ◌∷◌, ◌++◌, length, take, map, Some, IsTrue, refl, sym, ap, ◌∙◌, subst, arith, append-nil}
use Rattle.std.specs.List.{All}
use Rattle.std.proofs.lemmas.List.{take-append-le}
use Rattle.std.proofs.lemmas.List.Elements.{All-contains, All-head, All-tail, Contains-push}
use Rattle.lois_base.specs.Atom.{Atom}
use Rattle.lois_base.specs.Data.{TermD, var, tag, tup, coll, comps_of}
use Rattle.lois_base.specs.Truth.{holds}
use Rattle.lois_base.specs.Values.{PointValue, point, IsIn, IsIncluded}
use Rattle.lois_base.proofs.Members.{member_in}
use Rattle.lois_base.proofs.Validity.{all_that_are}
use Rattle.lois_context.specs.Choices.{IsAdmitted, AdmitsContext, ContextHasBoundedWidths}
use Rattle.lois_context.specs.Entered.{items_listed}
use Rattle.lois_context.specs.Joined.{AreJoined, IsEnd, HasJoined}
use Rattle.lois_context.specs.Kept.{IsSlot, AreSlots}
use Rattle.lois_context.specs.Slots.{SlotD, slot_name, store_at}
use Rattle.lois_context.specs.ItemCounts.{comps_in, count_of_items}
use Rattle.lois_context.specs.LineValues.{line_values}
use Rattle.lois_context.specs.declared.contexts.Context.{Context}
use Rattle.lois_context.proofs.Carried.{count_of}
use Rattle.lois_context.proofs.Entered.{listed_of}
use Rattle.lois_context.proofs.Joined.{of_listed}
use Rattle.lois_interp.specs.Assigned.{StmtAssigns, ListAssigns}
use Rattle.lois_interp.specs.Looped.{LoopRuns}
use Rattle.lois_interp.specs.Reached.{IsReachedContext, IsReachedAt, RunsAs}
use Rattle.lois_interp.specs.Run.{stmt_run}
use Rattle.lois_interp.specs.Slots.{IsKeptTerm, AreKept}
use Rattle.lois_context.proofs.Counts.{times_like, admits_like}
use Rattle.lois_context.proofs.Joined.{of_listed}
use Rattle.lois_eval.specs.WellFormed.{IsWellFormedIn}
use Rattle.lois_interp.specs.WellScoped.{StmtIsWellScoped}
use Rattle.lois_base.specs.declared.guards.Lit.{Lit}
use Rattle.lois_base.proofs.Members.{same_in}
use Rattle.lois_base.proofs.Lists.{all_one}
use Rattle.lois_meaning.specs.Store.{AreSameNamed}
use Rattle.lois_meaning.proofs.Ends.{stmt_to}
use Rattle.lois_interp.specs.Tidied.{AreTidied, counts_in}
use Rattle.lois_interp.proofs.Compose.{kept_term_trans}
use Rattle.lois_interp.proofs.ForFails.{take_in}
use Rattle.lois_interp.proofs.Lists.{only_one, of_one}
use Rattle.lois_interp.proofs.EndsAreEnds.{NoneAssigned, end_further}
use Rattle.lois_interp.proofs.ForEnds.{IsLoop, loop_ends}
use Rattle.lois_interp.proofs.Kept.{reached_at}
use Rattle.lois_interp.proofs.Longer.{ArePaired, IsLongerTerm, AreLonger, AreFound, paired_with, all_found, joined_longer}
use Rattle.lois_meaning.specs.Runs.{StmtEnds, BlockEnds, ListEnds}
use Rattle.lois_meaning.specs.Store.{looked_up}
use Rattle.lois_script.specs.Tree.{ExprD, CondD, StmtsD, binding, for}
use Rattle.lois_meaning.proofs.Stores.{some_same}

-- all that the body comes to can be joined
pub all_ends : (c : CondD) (body : StmtsD) (before : Context) (inside ends : List Context) → NoneAssigned (ListAssigns body) before.store → All (IsEnd before) inside → LoopRuns c body inside ends → All (IsEnd before) ends
all_ends c body before inside ends none are runs =
    all_that_are (IsEnd before) ends (λ f h.
    let start = runs.started f h in
    end_further (BlockEnds (ListEnds body)) (ListAssigns body) before start.0 f none (All-contains (IsEnd before) inside start.0 are start.1) start.2.reached)

-- ---- slots that are longer are kept
longer_kept : (from : ℕ) (s t : TermD) → from ≤ comps_in s → IsLongerTerm s t → IsKeptTerm from s t
longer_kept from (coll ks) t le (added, is) =
    let count : comps_in (coll ks) ≡ length (items_listed ks) = ap count_of_items (sym (of_listed ks)) ∙ count_of (items_listed ks) in
    let short : from ≤ length (items_listed ks) = omega arith in
    (comps_of (items_listed ks ++ added), is, ap (take from) (listed_of (items_listed ks ++ added)) ∙ take-append-le from (items_listed ks) added short)
longer_kept from (var i) t le is = is
longer_kept from (tag x) t le is = is
longer_kept from (tup ts) t le is = is

all_kept : (Assigned : List ℕ → Type 0) (P : List Atom → Type 0) (n : ℕ) (ss rs : List SlotD) → AreSlots n ss → AreLonger ss rs → ArePaired (λ s r. (c : List Atom) → P c → IsIncluded (point s.term c) (point r.term c)) ss rs → AreKept Assigned P ss rs
all_kept Assigned P n [] rs fit longer h = tt
all_kept Assigned P n (s ∷ ss) [] fit longer h = absurd longer
all_kept Assigned P n (s ∷ ss) (r ∷ rs) fit longer h = (
  longer.0.name,
  λ free. record {
    from = longer.0.from;
    term = longer_kept s.from s.term r.term (All-head (IsSlot n) s ss fit).1 longer.0.term;
    members = h.0;
  },
  all_kept Assigned P n ss rs (All-tail (IsSlot n) s ss fit) longer.1 h.1,
)

longer_names : (ss rs : List SlotD) → AreLonger ss rs → map slot_name rs ≡ map slot_name ss
longer_names [] [] h = refl
longer_names (s ∷ ss) (r ∷ rs) h = let one = h.0.name in let rest = longer_names ss rs h.1 in cc
longer_names [] (r ∷ rs) h = absurd h
longer_names (s ∷ ss) [] h = absurd h

-- ---- slots that are tidied
pub tidied_names : (n : ℕ) (g : List (List Lit)) (ns : List ℕ) (ss es : List SlotD) → AreTidied n g ns ss es → map slot_name es ≡ map slot_name ss
tidied_names n g [] [] [] h = refl
tidied_names n g (i ∷ ns) (s ∷ ss) (e ∷ es) h = let one = h.0.name in let rest = tidied_names n g ns ss es h.1 in cc
tidied_names n g _ _ _ h = absurd (assumption h)

pub tidied_same : (n : ℕ) (g : List (List Lit)) (ns : List ℕ) (ss es : List SlotD) → AreTidied n g ns ss es → (c : List Atom) → (length c ≡ n) × IsTrue (holds c g) → AreSameNamed (store_at c ss) (store_at c es)
tidied_same n g [] [] [] h c adm = tt
tidied_same n g (i ∷ ns) (s ∷ ss) (e ∷ es) h c adm = (sym h.0.name, h.0.term.value c adm.0 adm.1, tidied_same n g ns ss es h.1 c adm)
tidied_same n g _ _ _ h c adm = absurd (assumption h)

-- fewer of the first ones are the same too
kept_less : (from n : ℕ) (t u : TermD) → from ≤ n → IsKeptTerm n t u → IsKeptTerm from t u
kept_less from n (coll ks) u le (ls, is, first) =
    (ls, is, sym (take_in from n (items_listed ls) le) ∙ (ap (take from) first ∙ take_in from n (items_listed ks) le))
kept_less from n (var i) u le h = h
kept_less from n (tag i) u le h = h
kept_less from n (tup i) u le h = h

all_tidy : (Assigned : List ℕ → Type 0) (P : List Atom → Type 0) (n : ℕ) (g : List (List Lit)) (ss js es : List SlotD) → AreSlots n ss → ((c : List Atom) → P c → (length c ≡ n) × IsTrue (holds c g)) →
    AreKept Assigned P ss js → AreTidied n g (counts_in ss) js es → AreKept Assigned P ss es
all_tidy Assigned P n g [] js es fit to kept tidied = tt
all_tidy Assigned P n g (s ∷ ss) (j ∷ js) (e ∷ es) fit to kept tidied = (
  tidied.0.name ∙ kept.0,
  λ free.
      let one = kept.1 free in
      let short : s.from ≤ comps_in s.term = (All-head (IsSlot n) s ss fit).1 in
      record {
        from = tidied.0.from ∙ one.from;
        term = kept_term_trans s.from s.term j.term e.term one.term (kept_less s.from (comps_in s.term) j.term e.term short tidied.0.term.kept);
        members = λ c p u m. same_in u (point j.term c) (point e.term c) (tidied.0.term.value c (to c p).0 (to c p).1) (one.members c p u m);
      },
  all_tidy Assigned P n g ss js es (All-tail (IsSlot n) s ss fit) to kept.2 tidied.1,
)
all_tidy Assigned P n g (s ∷ ss) [] es fit to kept tidied = absurd kept
all_tidy Assigned P n g (s ∷ ss) (j ∷ js) [] fit to kept tidied = absurd tidied

module _ (e : ExprD) (x : List ℕ) (c : CondD) (body : StmtsD) (p : ℕ) (before r : Context) (js : List SlotD) (t : TermD) (inside ends : List Context) (loop : IsLoop e x c body before t inside ends) where
  module _ (joined : AreJoined before.size ends before.store js) (members : (a : List Atom) → IsAdmitted a before → (y : List ℕ) (v : PointValue) → looked_up y (store_at a before.store) ≡ Some v → HasJoined ends y a v js) where
    longer : AreLonger before.store js
    longer = joined_longer before.size ends before.store js joined

    -- at each choice the members from before are still there
    included : (a : List Atom) → IsAdmitted a before → (s q : SlotD) → AreFound a before.store js s q → IsIncluded (point s.term a) (point q.term a)
    included a adm s q found u m =
        let own = members a adm s.name (point s.term a) found.0 in
        let is : own.value ≡ point q.term a = some_same own.value (point q.term a) (sym own.held ∙ found.1) in
        subst (λ z. IsIn u z) is ((own.members u).1 (inl (member_in u (point s.term a) m)))

    all_included : (bs qs : List SlotD) → AreLonger bs qs → ((a : List Atom) → ArePaired (AreFound a before.store js) bs qs) → ArePaired (λ s q. (a : List Atom) → IsAdmitted a before → IsIncluded (point s.term a) (point q.term a)) bs qs
    all_included [] [] h k = tt
    all_included (b ∷ bs) (q ∷ qs) h k = (λ a adm. included a adm b q (k a).0, all_included bs qs h.1 (λ a. (k a).1))
    all_included [] (q ∷ qs) h k = absurd h
    all_included (b ∷ bs) [] h k = absurd h

    module _ (tidied : AreTidied before.size before.«when» (counts_in before.store) js r.store) where
      pub loop_runs : r.size ≡ before.size → r.«when» ≡ before.«when» → r.lines ≡ before.lines → ((o : Bool) → IsWellFormedIn (StmtIsWellScoped (for (binding p x e) c body)) o before → AdmitsContext o r) → (ContextHasBoundedWidths before → ContextHasBoundedWidths r) →
          RunsAs (stmt_run (for (binding p x e) c body)) before (r ∷ [])
      loop_runs size is lines operators widths = record {
        choices = λ a. times_like a before r (admits_like a before r size is);
        reached = λ d h a adm. (
          before,
          Contains-push [] before,
          subst (λ z. IsReachedAt (stmt_run (for (binding p x e) c body)) before z a) (only_one r d h)
              (reached_at (stmt_run (for (binding p x e) c body)) before r a reached (tidied_names before.size before.«when» (counts_in before.store) js r.store tidied ∙ longer_names before.store js longer) (subst (λ z. IsAdmitted a z) (sym (only_one r d h)) adm)),
        );
        operators = λ o h. all_one (AdmitsContext o) r (operators o (of_one (IsWellFormedIn (StmtIsWellScoped (for (binding p x e) c body)) o) before h));
        widths = λ h. all_one ContextHasBoundedWidths r (widths (of_one ContextHasBoundedWidths before h));
      }
        where
          outside : (a : List Atom) → IsAdmitted a r → IsAdmitted a before
          outside a h = (h.0 ∙ size, subst (λ g. IsTrue (holds a g)) is h.1)

          reached : IsReachedContext (StmtEnds (for (binding p x e) c body)) (StmtAssigns (for (binding p x e) c body)) before r
          reached = record {
            size = size;
            within = outside;
            slots = all_tidy (StmtAssigns (for (binding p x e) c body)) (λ a. IsAdmitted a r) before.size before.«when» before.store js r.store before.slots outside
                (all_kept (StmtAssigns (for (binding p x e) c body)) (λ a. IsAdmitted a r) before.size before.store js before.slots longer
                (paired_with _ _ (λ s q. (a : List Atom) → IsAdmitted a r → IsIncluded (point s.term a) (point q.term a)) before.store js (λ b q k l. λ a adm. k a (outside a adm))
                (all_included before.store js longer (λ a. all_found a before.store js before.names longer)) longer)) tidied;
            ends_there = λ a adm. record {
              printed = [];
              run = stmt_to (for (binding p x e) c body) (store_at a before.store) (store_at a js) (store_at a r.store) [] []
                  (tidied_same before.size before.«when» (counts_in before.store) js r.store tidied a (outside a adm)) tt
                  (loop_ends e x c body before t inside ends loop a (outside a adm) js (members a (outside a adm)) p longer before.names);
              lines = ap (line_values a) lines ∙ sym (append-nil (line_values a before.lines));
            };
          }
