-- Lists of statements, and blocks.
use Rattle.std.proofs.Common.{◌≡◌, ℕ, zero, suc, ◌+◌, ◌<◌, ◌⊎◌, inl, inr, Bool, List, [], ◌∷◌, ◌++◌, length, take, map, cond, IsTrue, refl, sym, ap, ◌∙◌, subst, append-nil, false, bytes_eq}
use Rattle.std.specs.List.{All, Contains, AllByRecursion, IsDistinct}
use Rattle.std.proofs.lemmas.List.{append_assoc, take-map, length-map, map-append}
use Rattle.std.proofs.lemmas.List.Elements.{Contains-append_left, Contains-append_right, Contains-push, All-contains, All-head, All-tail, All-cons, All-nil}
use Rattle.lois_base.specs.Atom.{Atom}
use Rattle.lois_base.specs.Data.{TermD, var, tag, tup, coll}
use Rattle.lois_base.specs.Truth.{holds}
use Rattle.lois_base.specs.Validity.{AdmitsConstraint, AdmitsTerm, HasBoundedWidths}
use Rattle.lois_base.specs.Values.{point}
use Rattle.lois_base.proofs.Members.{included_refl}
use Rattle.lois_base.proofs.Validity.{all_that_are}
use Rattle.lois_base.proofs.Lists.{all_one}
use Rattle.lois_answers.specs.ResultsData.{LineD}
use Rattle.lois_answers.specs.declared.faults.FaultKind.{FaultKind}
use Rattle.lois_script.specs.Scope.{RuleD, ScopeD, scope_behind, StmtBreaks, StmtsBreak}
use Rattle.lois_script.specs.Tree.{StmtD, «let», assign, add, for, if, while, assert, print}
use Rattle.lois_script.specs.View.{stmts_of}
use Rattle.lois_meaning.specs.Runs.{StmtEnds, ListEnds, StmtFails, ListFails}
use Rattle.lois_meaning.specs.Store.{NamedValues, AreSameNamed}
use Rattle.lois_meaning.specs.declared.faults.Fault.{Fault}
use Rattle.lois_meaning.proofs.Ends.{stmt_from}
use Rattle.lois_meaning.proofs.Runs.{stmt_fails_move}
use Rattle.lois_meaning.proofs.Stores.{named_refl}
use Rattle.lois_context.specs.Choices.{IsAdmitted, AdmitsContext, ContextHasBoundedWidths}
use Rattle.lois_context.specs.Counted.{times}
use Rattle.lois_context.specs.Slots.{SlotD, slot_name, slot_at, store_at}
use Rattle.lois_context.specs.LineValues.{line_values}
use Rattle.lois_context.specs.declared.contexts.Context.{Context}
use Rattle.lois_context.proofs.Counts.{times_of, times_some, times_cons, admits_like}
use Rattle.lois_context.specs.Counted.{admits}
use Rattle.lois_context.proofs.Later.{first_or_later}
use Rattle.lois_simplify.proofs.Members.{contains_none}
use Rattle.lois_eval.specs.WellFormed.{names_of, IsWellFormedIn}
use Rattle.lois_scope.proofs.Lists.{behind_all}
use Rattle.lois_interp.specs.Assigned.{StmtAssigns, ListAssigns}
use Rattle.lois_interp.specs.Failed.{FailsWithin, FailsBehind, FailsFrom}
use Rattle.lois_interp.specs.WithinLimits.{StmtIsWithinLimits, StmtsAreWithinLimits}
use Rattle.lois_interp.specs.Merged.{IsTruncatedContext, AreTruncatedContexts}
use Rattle.lois_interp.specs.Reached.{IsReachedAt, RunsFrom, RunsAs}
use Rattle.lois_interp.specs.Run.{Run, names_behind, names_behind_all, stmt_run, list_run, block_run, block_run_at}
use Rattle.lois_interp.specs.Slots.{IsKeptTerm, AreKept}
use Rattle.lois_interp.specs.WellScoped.{declared_name, StmtIsWellScoped, BlockIsWellScoped}
use Rattle.lois_interp.proofs.Compose.{from_both, fails_later}
use Rattle.lois_interp.proofs.Kept.{as_named, as_reached}
use Rattle.lois_interp.proofs.Lists.{only_one, of_one}
use Rattle.lois_context.specs.Kept.{HasDistinctNames}

-- ---- the statements before an index, and one more
pub ends_snoc : (done : List StmtD) (a : StmtD) (s t u l m : NamedValues) → ListEnds (stmts_of done) s t l → StmtEnds a t u m → ListEnds (stmts_of (done ++ a ∷ [])) s u (l ++ m)
ends_snoc [] a s t u l m (same, none) h =
    (u, m, [], ap (λ z. z ++ m) none ∙ sym (append-nil m), stmt_from a t s u m same h, (named_refl u, refl))
ends_snoc (b ∷ done) a s t u l m (v, first, more, e, one, rest) h =
    (v, first, more ++ m, ap (λ z. z ++ m) e ∙ append_assoc first more m, one, ends_snoc done a v t u more m rest h)

pub fails_snoc : (done : List StmtD) (a : StmtD) (rest : List StmtD) (s t l : NamedValues) (at : ℕ) (kind : FaultKind) (path : NamedValues) → ListEnds (stmts_of done) s t l → StmtFails a t at kind path → ListFails (stmts_of (done ++ a ∷ rest)) s at kind path
fails_snoc [] a rest s t l at kind path (same, none) bad = inl (stmt_fails_move a t s at kind path same bad)
fails_snoc (b ∷ done) a rest s t l at kind path (v, first, more, e, one, others) bad = inr (v, first, one, fails_snoc done a rest v t more at kind path others bad)

assigns_first : (done : List StmtD) (rest : List StmtD) (x : List ℕ) → ListAssigns (stmts_of done) x → ListAssigns (stmts_of (done ++ rest)) x
assigns_first [] rest x h = absurd h
assigns_first (b ∷ done) rest x (inl h) = inl h
assigns_first (b ∷ done) rest x (inr h) = inr (assigns_first done rest x h)

assigns_last : (done : List StmtD) (a : StmtD) (x : List ℕ) → StmtAssigns a x → ListAssigns (stmts_of (done ++ a ∷ [])) x
assigns_last [] a x h = inl h
assigns_last (b ∷ done) a x h = inr (assigns_last done a x h)

behind_snoc : (done : List StmtD) (a : StmtD) (names : List (List ℕ)) → names_behind a (names_behind_all done names) ≡ names_behind_all (done ++ a ∷ []) names
behind_snoc [] a names = refl
behind_snoc (b ∷ done) a names = behind_snoc done a (names_behind b names)

names_one : (a : StmtD) (s : ScopeD) → map declared_name (scope_behind a s).names ≡ names_behind a (map declared_name s.names)
names_one («let» p x e) s = map-append declared_name s.names _
names_one (assign p x e) s = refl
names_one (add e p x) s = refl
names_one (for b c body) s = refl
names_one ((if) c yes_block no_block) s = refl
names_one (while p c n body) s = refl
names_one (assert p c) s = refl
names_one (print p q x) s = refl

order_one : (a : StmtD) (s : ScopeD) → (scope_behind a s).ordered ≡ s.ordered
order_one («let» p x e) s = refl
order_one (assign p x e) s = refl
order_one (add e p x) s = refl
order_one (for b c body) s = refl
order_one ((if) c yes_block no_block) s = refl
order_one (while p c n body) s = refl
order_one (assert p c) s = refl
order_one (print p q x) s = refl

names_all : (l : List StmtD) (s : ScopeD) → map declared_name (behind_all l s).names ≡ names_behind_all l (map declared_name s.names)
names_all [] s = refl
names_all (a ∷ l) s = names_all l (scope_behind a s) ∙ ap (names_behind_all l) (names_one a s)

order_all : (l : List StmtD) (s : ScopeD) → (behind_all l s).ordered ≡ s.ordered
order_all [] s = refl
order_all (a ∷ l) s = order_all l (scope_behind a s) ∙ order_one a s

breaks_at : (done : List StmtD) (a : StmtD) (rest : List StmtD) (s : ScopeD) (rule : RuleD) (at : ℕ) → StmtBreaks a (behind_all done s) rule at → StmtsBreak (stmts_of (done ++ a ∷ rest)) s rule at
breaks_at [] a rest s rule at h = inl h
breaks_at (b ∷ done) a rest s rule at h = inr (breaks_at done a rest (scope_behind b s) rule at h)

form_at : (done : List StmtD) (a : StmtD) (rest : List StmtD) → StmtsAreWithinLimits (stmts_of (done ++ a ∷ rest)) → StmtIsWithinLimits a
form_at [] a rest h = h.0
form_at (b ∷ done) a rest h = form_at done a rest h.1

breaks_first : (done rest : List StmtD) (s : ScopeD) (rule : RuleD) (at : ℕ) → StmtsBreak (stmts_of done) s rule at → StmtsBreak (stmts_of (done ++ rest)) s rule at
breaks_first [] rest s rule at h = absurd h
breaks_first (b ∷ done) rest s rule at (inl h) = inl h
breaks_first (b ∷ done) rest s rule at (inr h) = inr (breaks_first done rest (scope_behind b s) rule at h)

form_first : (done rest : List StmtD) → StmtsAreWithinLimits (stmts_of (done ++ rest)) → StmtsAreWithinLimits (stmts_of done)
form_first [] rest h = tt
form_first (b ∷ done) rest h = (h.0, form_first done rest h.1)

first_stands : (done rest : List StmtD) (o : Bool) (names : List (List ℕ)) → BlockIsWellScoped (stmts_of (done ++ rest)) o names → BlockIsWellScoped (stmts_of done) o names
first_stands done rest o names h = record {
  scope = h.scope;
  named = h.named;
  order = h.order;
  unbroken = λ rule at bad. h.unbroken rule at (breaks_first done rest h.scope rule at bad);
  form = form_first done rest h.form;
}

-- a statement stands behind those before it
pub stands_at : (done : List StmtD) (a : StmtD) (rest : List StmtD) (o : Bool) (names : List (List ℕ)) → BlockIsWellScoped (stmts_of (done ++ a ∷ rest)) o names → StmtIsWellScoped a o (names_behind_all done names)
stands_at done a rest o names h = record {
  scope = behind_all done h.scope;
  named = names_all done h.scope ∙ ap (names_behind_all done) h.named;
  order = order_all done h.scope ∙ h.order;
  unbroken = λ rule at bad. h.unbroken rule at (breaks_at done a rest h.scope rule at bad);
  form = form_at done a rest h.form;
}

pub list_more : (done : List StmtD) (a : StmtD) (ks ds es : List Context) → RunsFrom (list_run done) ks ds → RunsFrom (stmt_run a) ds es → RunsFrom (list_run (done ++ a ∷ [])) ks es
list_more done a ks ds es h k =
    from_both (list_run done) (stmt_run a) (list_run (done ++ a ∷ [])) (ends_snoc done a) (assigns_first done (a ∷ [])) (assigns_last done a) (behind_snoc done a)
    (first_stands done (a ∷ [])) (stands_at done a []) ks ds es h k

module _ (done : List StmtD) (a : StmtD) (rest : List StmtD) (k : Context) (ds : List Context) (runs : RunsAs (list_run done) k ds) where
  -- where the block is placed, what its first statements come to is placed for the next one
  pub may_at : (o : Bool) → IsWellFormedIn (BlockIsWellScoped (stmts_of (done ++ a ∷ rest))) o k → All (IsWellFormedIn (StmtIsWellScoped a) o) ds
  may_at o placed =
      let admit = runs.operators o (all_one (IsWellFormedIn (BlockIsWellScoped (stmts_of done)) o) k (record { names = first_stands done (a ∷ rest) o (names_of k.store) placed.names; operators = placed.operators })) in
      all_that_are (IsWellFormedIn (StmtIsWellScoped a) o) ds (λ d there. record {
        names = subst (StmtIsWellScoped a o) (sym (as_named (list_run done) k ds runs d there)) (stands_at done a rest o (names_of k.store) placed.names);
        operators = All-contains (AdmitsContext o) ds d admit there;
      })

  pub list_fails_at : (ordered : Bool) (f : Fault) → FailsFrom ordered (stmt_run a) ds f → FailsBehind ordered (done ++ a ∷ rest) k f
  list_fails_at ordered f (d, there, bad) = record {
    before = done;
    one = a;
    behind = rest;
    whole = refl;
    end_always = λ c adm.
        let some = times_some c ds (subst (λ n. 0 < n) (sym (runs.choices c)) (times_of c (k ∷ []) k (Contains-push [] k) adm)) in
        let end = (as_reached (list_run done) k ds runs some.0 some.1).ends_there c some.2 in
        (store_at c some.0.store, end.printed, end.run);
    within = fails_later (list_run done) (stmt_run a) (block_run_at done a rest) k d f (λ s t l at kind path ends fails. (t, l, ends, fails))
        (λ o placed. All-contains (IsWellFormedIn (StmtIsWellScoped a) o) ds d (may_at o placed) there)
        (λ w. All-contains ContextHasBoundedWidths ds d (runs.widths (all_one ContextHasBoundedWidths k w)) there)
        ordered (runs.reached d there) bad;
  }

-- a block fails where one of its statements does
pub fails_whole : (ordered : Bool) (block : List StmtD) (k : Context) (f : Fault) → FailsBehind ordered block k f → FailsWithin ordered (block_run (stmts_of block)) k f
fails_whole ordered block k f h =
    let bad = h.within in
    subst (λ z. FailsWithin ordered (block_run (stmts_of z)) k f) (sym h.whole)
    (record {
      fails_at = λ c stand.
          let there = bad.fails_at c stand in
          let store = store_at (take k.size c) k.store in
          record {
            admitted = there.admitted;
            path = there.path;
            failed = fails_snoc h.before h.one h.behind store there.failed.0 there.failed.1 f.pos.offset f.kind there.path there.failed.2 there.failed.3;
            named = there.named;
          };
      elements = record { levels = bad.elements.levels; brackets = bad.elements.brackets; operators = bad.elements.operators; widths = bad.elements.widths };
    })

-- ---- before the first statement
kept_term_refl : (from : ℕ) (t : TermD) → IsKeptTerm from t t
kept_term_refl from (coll ks) = (ks, refl, refl)
kept_term_refl from (var i) = refl
kept_term_refl from (tag x) = refl
kept_term_refl from (tup ts) = refl

pub kept_refl : (A : List ℕ → Type 0) (P : List Atom → Type 0) (ss : List SlotD) → AreKept A P ss ss
kept_refl A P [] = tt
kept_refl A P (s ∷ ss) = (refl, λ free. record { from = refl; term = kept_term_refl s.from s.term; members = λ c p. included_refl (point s.term c) }, kept_refl A P ss)

-- a context that nothing has changed
pub stays_at : (run : Run) (k : Context) → ((s : NamedValues) → run.ends s s []) → ((names : List (List ℕ)) → run.behind names ≡ names) → (c : List Atom) → IsAdmitted c k → IsReachedAt run k k c
stays_at run k ends behind c adm = record {
  size = refl;
  admitted = adm;
  slots = kept_refl run.assigns (λ x. x ≡ c) k.store;
  named = sym (behind (map slot_name k.store));
  ends_there = record { printed = []; run = ends (store_at c k.store); lines = sym (append-nil (line_values c k.lines)) };
}

pub stays : (run : Run) (k : Context) → ((s : NamedValues) → run.ends s s []) → ((names : List (List ℕ)) → run.behind names ≡ names) → RunsAs run k (k ∷ [])
stays run k ends behind = record {
  choices = λ c. refl;
  reached = λ q there c adm. (
    k,
    Contains-push [] k,
    subst (λ z. IsReachedAt run k z c) (only_one k q there) (stays_at run k ends behind c (subst (λ z. IsAdmitted c z) (sym (only_one k q there)) adm)),
  );
  operators = λ o h. all_one (AdmitsContext o) k (of_one (IsWellFormedIn run.stands o) k h).operators;
  widths = λ h. h;
}

pub list_none : (k : Context) → RunsAs (list_run []) k (k ∷ [])
list_none k = stays (list_run []) k (λ s. (named_refl s, refl)) (λ names. refl)

-- ---- the end of a block
kept_front : (A : List ℕ → Type 0) (P : List Atom → Type 0) (ss es : List SlotD) → AreKept A P ss es → AreKept A P ss (take (length ss) es)
kept_front A P [] es h = tt
kept_front A P (s ∷ ss) [] h = absurd h
kept_front A P (s ∷ ss) (e ∷ es) h = (h.0, h.1, kept_front A P ss es h.2)

front_names : (A : List ℕ → Type 0) (P : List Atom → Type 0) (ss es : List SlotD) → AreKept A P ss es → map slot_name (take (length ss) es) ≡ map slot_name ss
front_names A P [] es h = refl
front_names A P (s ∷ ss) [] h = absurd h
front_names A P (s ∷ ss) (e ∷ es) h = let one : e.name ≡ s.name = h.0 in let rest = front_names A P ss es h.2 in cc

pub all_front : {X : Type 0} (P : X → Type 0) (n : ℕ) (xs : List X) → All P xs → All P (take n xs)
all_front P zero xs h = All-nil P
all_front P (suc n) [] h = h
all_front P (suc n) (x ∷ xs) h = All-cons P x (take n xs) (All-head P x xs h) (all_front P n xs (All-tail P x xs h))

cut_from : (n : ℕ) (ds cs : List Context) → AreTruncatedContexts n ds cs → (c : Context) → Contains cs c → (d : Context) × Contains ds d × IsTruncatedContext n d c
cut_from n [] [] h c there = absurd (contains_none c there)
cut_from n (d ∷ ds) (q ∷ cs) h c there = go (first_or_later q cs c there) (cut_from n ds cs h.1 c)
  where
    go : (q ≡ c) ⊎ Contains cs c → (Contains cs c → (d : Context) × Contains ds d × IsTruncatedContext n d c) → (z : Context) × Contains (d ∷ ds) z × IsTruncatedContext n z c
    go (inl is) later = (d, Contains-append_left (d ∷ []) ds d (Contains-push [] d), subst (λ z. IsTruncatedContext n d z) is h.0)
    go (inr l) later = let r = later l in (r.0, Contains-append_right (d ∷ []) ds r.0 r.1, r.2)
cut_from n [] (q ∷ cs) h c there = absurd h
cut_from n (d ∷ ds) [] h c there = absurd h

cut_times : (n : ℕ) (ds cs : List Context) → AreTruncatedContexts n ds cs → (x : List Atom) → times x cs ≡ times x ds
cut_times n [] [] h x = refl
cut_times n (d ∷ ds) (q ∷ cs) h x =
    times_cons x q cs ∙ (ap (λ b. cond b 1 0 + times x cs) (admits_like x d q h.0.size h.0.«when») ∙ (ap (λ m. cond (admits x d) 1 0 + m) (cut_times n ds cs h.1 x) ∙ sym (times_cons x d ds)))
cut_times n [] (q ∷ cs) h x = absurd h
cut_times n (d ∷ ds) [] h x = absurd h

-- what is true of each context is true of those that are cut from them
cut_all_have : (P : Context → Type 0) → ((n : ℕ) (k d : Context) → IsTruncatedContext n k d → P k → P d) → (n : ℕ) (ds cs : List Context) → AreTruncatedContexts n ds cs → All P ds → All P cs
cut_all_have P keeps n ds cs cut h =
    all_that_are P cs (λ q there. let from = cut_from n ds cs cut q there in keeps n from.0 q from.2 (All-contains P ds from.0 h from.1))

cut_admits : (o : Bool) (n : ℕ) (k d : Context) → IsTruncatedContext n k d → AdmitsContext o k → AdmitsContext o d
cut_admits o n k d cut own = record {
  «when» = subst (AdmitsConstraint o) (sym cut.«when») own.«when»;
  store = subst (λ z. All (λ (s : SlotD). AdmitsTerm o s.term) z) (sym cut.store) (all_front (λ (s : SlotD). AdmitsTerm o s.term) n k.store own.store);
  lines = subst (λ z. All (λ (s : LineD). AdmitsTerm o s.term) z) (sym cut.lines) own.lines;
}

cut_widths : (n : ℕ) (k d : Context) → IsTruncatedContext n k d → ContextHasBoundedWidths k → ContextHasBoundedWidths d
cut_widths n k d cut own = record {
  store = subst (λ z. All (λ (s : SlotD). HasBoundedWidths s.term) z) (sym cut.store) (all_front (λ (s : SlotD). HasBoundedWidths s.term) n k.store own.store);
  lines = subst (λ z. All (λ (s : LineD). HasBoundedWidths s.term) z) (sym cut.lines) own.lines;
}

pub block_cut : (l : List StmtD) (k : Context) (n : ℕ) (ds cs : List Context) → n ≡ length k.store → RunsAs (list_run l) k ds → AreTruncatedContexts n ds cs → RunsAs (block_run (stmts_of l)) k cs
block_cut l k n ds cs e h cut = record {
  choices = λ x. cut_times n ds cs cut x ∙ h.choices x;
  reached = λ q there x adm.
      let from = cut_from n ds cs cut q there in
      let d = from.0 in
      let is : IsTruncatedContext n d q = from.2 in
      let adm_d : IsAdmitted x d = (adm.0 ∙ is.size, subst (λ g. IsTrue (holds x g)) is.«when» adm.1) in
      let r = h.reached d from.1 x adm_d in
      let at : IsReachedAt (list_run l) k d x = subst (λ z. IsReachedAt (list_run l) z d x) (sym (only_one k r.0 r.1)) r.2 in
      let store : q.store ≡ take (length k.store) d.store = is.store ∙ ap (λ m. take m d.store) e in
      let values : take (length (store_at x k.store)) (store_at x d.store) ≡ store_at x q.store =
      ap (λ m. take m (store_at x d.store)) (length-map k.store (slot_at x)) ∙ (take-map (slot_at x) (length k.store) d.store ∙ ap (store_at x) (sym store)) in (
        k,
        Contains-push [] k,
        record {
          size = is.size ∙ at.size;
          admitted = at.admitted;
          slots = subst (λ z. AreKept (ListAssigns (stmts_of l)) (λ y. y ≡ x) k.store z) (sym store) (kept_front (ListAssigns (stmts_of l)) (λ y. y ≡ x) k.store d.store at.slots);
          named = ap (map slot_name) store ∙ front_names (ListAssigns (stmts_of l)) (λ y. y ≡ x) k.store d.store at.slots;
          ends_there = record {
            printed = at.ends_there.printed;
            run = (store_at x d.store, at.ends_there.run, subst (λ z. AreSameNamed (store_at x q.store) z) (sym values) (named_refl (store_at x q.store)));
            lines = ap (line_values x) is.lines ∙ at.ends_there.lines;
          };
        },
      );
  operators = λ o placed. cut_all_have (AdmitsContext o) (cut_admits o) n ds cs cut (h.operators o placed);
  widths = λ w. cut_all_have ContextHasBoundedWidths cut_widths n ds cs cut (h.widths w);
}

-- ---- the first slots
pub distinct_front : (n : ℕ) (ss : List SlotD) → HasDistinctNames ss → HasDistinctNames (take n ss)
unfolding IsDistinct
distinct_front zero ss h = tt
distinct_front (suc n) [] h = h
distinct_front (suc n) (s ∷ ss) h = (apart n ss h.0, distinct_front n ss h.1)
  where
    apart : (n : ℕ) (ss : List SlotD) → AllByRecursion (λ y. bytes_eq s.name y ≡ false) (map slot_name ss) → AllByRecursion (λ y. bytes_eq s.name y ≡ false) (map slot_name (take n ss))
    apart zero ss h = tt
    apart (suc n) [] h = h
    apart (suc n) (q ∷ ss) h = (h.0, apart n ss h.1)

pub cut_more : (n : ℕ) (ks ds : List Context) (k d : Context) → AreTruncatedContexts n ks ds → IsTruncatedContext n k d → AreTruncatedContexts n (ks ++ k ∷ []) (ds ++ d ∷ [])
cut_more n [] [] k d h one = (one, tt)
cut_more n (q ∷ ks) (r ∷ ds) k d h one = (h.0, cut_more n ks ds k d h.1 one)
cut_more n [] (r ∷ ds) k d h one = absurd h
cut_more n (q ∷ ks) [] k d h one = absurd h
