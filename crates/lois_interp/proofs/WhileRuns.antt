-- The turns of a loop, one after another.
use Rattle.std.proofs.Common.{◌≡◌, ℕ, zero, suc, ◌<◌, ◌≤◌, inl, inr, Bool, true, false, List, [], ◌∷◌, ◌++◌, Option, None, IfSome, refl, sym, ap, ◌∙◌, subst, arith, append-nil}
use Rattle.std.specs.List.{All}
use Rattle.std.proofs.lemmas.List.{append_assoc}
use Rattle.std.proofs.lemmas.List.Elements.{All-append, All-contains, All-nil, All-weaker, Contains-append_cases, Contains-push}
use Rattle.lois_base.specs.Truth.{sampled}
use Rattle.lois_base.proofs.Validity.{all_that_are}
use Rattle.lois_base.proofs.Lists.{all_one, all_right}
use Rattle.lois_answers.specs.declared.faults.FaultKind.{FaultKind}
use Rattle.lois_answers.specs.declared.faults.FaultKind.TheVariants.{TurnLimit}
use Rattle.lois_script.specs.Tree.{CondD, StmtsD, while}
use Rattle.lois_script.specs.declared.syntax.Pos.{Pos}
use Rattle.lois_meaning.specs.Expressions.{HasTruth}
use Rattle.lois_meaning.specs.Faults.{CondFails}
use Rattle.lois_meaning.specs.Runs.{BlockEnds, ListEnds, StmtEnds, StmtFails}
use Rattle.lois_meaning.specs.Store.{NamedValues, AreSameNamed}
use Rattle.lois_meaning.specs.declared.faults.Fault.{Fault}
use Rattle.lois_meaning.proofs.Ends.{block_from, block_to, turns_to, list_from, list_to}
use Rattle.lois_meaning.proofs.Moves.{truth_from}
use Rattle.lois_meaning.proofs.Stores.{named_refl, named_sym}
use Rattle.lois_context.specs.Choices.{IsAdmitted, AdmitsContext, ContextHasBoundedWidths}
use Rattle.lois_context.specs.Counted.{times}
use Rattle.lois_context.specs.Merged.{AreDisjoint, AreMerged}
use Rattle.lois_context.specs.declared.contexts.Context.{Context}
use Rattle.lois_context.specs.declared.contexts.Split.{Split}
use Rattle.lois_context.proofs.Counts.{times_append}
use Rattle.lois_simplify.proofs.Members.{contains_none}
use Rattle.lois_eval.specs.WellFormed.{names_of, IsWellFormedIn, CondIsWellFormed}
use Rattle.lois_eval.specs.Throughout.{IsFaultOf}
use Rattle.lois_eval.specs.Checks.{IsFaultWith}
use Rattle.lois_eval.proofs.FaultsAt.{own_sample, admitted_alike}
use Rattle.lois_eval.specs.Checks.{IsFaultWith}
use Rattle.lois_interp.specs.Decided.{listed_context, IsTrueSide, IsDecided}
use Rattle.lois_interp.specs.Failed.{FailsWithin, FailsFrom}
use Rattle.lois_interp.specs.Reached.{IsReachedAt, ComesFrom, RunsFrom, RunsAs}
use Rattle.lois_interp.specs.Run.{Run, stmt_run, block_run, turn_run, turns_run, leave_run}
use Rattle.lois_interp.specs.WellScoped.{CondIsWellScoped, StmtIsWellScoped, BlockIsWellScoped, TurnIsWellScoped}
use Rattle.lois_interp.specs.Turned.{Parts}
use Rattle.lois_interp.proofs.Compose.{comes_more, comes_later, comes_merged, comes_both, fails_later, one_apart}
use Rattle.lois_interp.proofs.ForFails.{bare_within}
use Rattle.lois_interp.proofs.IfRuns.{all_sides, some_side}
use Rattle.lois_interp.proofs.Lists.{only_one, of_one, all_left}
use Rattle.lois_interp.proofs.Parted.{turn_cond, turn_block, cond_placed, listed_side, side_placed, from_side, side_fails}
use Rattle.lois_interp.proofs.Sequence.{stays_at}

-- nothing changes
abbrev still_run : ℕ → CondD → Run
still_run p c = record { ends = λ s t l. AreSameNamed t s × (l ≡ []); fails = (leave_run p c).fails; assigns = λ x. ⊥; stands = CondIsWellScoped c; behind = λ names. names }

module _ (c : CondD) (body : StmtsD) where
  -- one turn more, at the end
  pub turns_snoc : (i : ℕ) (s t u l m : NamedValues) → (turns_run c body i).ends s t l → (turn_run c body).ends t u m → (turns_run c body (suc i)).ends s u (l ++ m)
  turns_snoc zero s t u l m (same, none) (truth, ends) =
      (u, m, [], ap (λ z. z ++ m) none ∙ sym (append-nil m), truth_from c t s true same truth, block_from (ListEnds body) (list_from body) t s u m same ends, (named_refl u, refl))
  turns_snoc (suc i) s t u l m (v, first, more, e, y, b, rest) turn =
      (v, first, more ++ m, ap (λ z. z ++ m) e ∙ append_assoc first more m, y, b, turns_snoc i v t u more m rest turn)

  -- the loop is left after some turns
  pub turns_leave : (p n i : ℕ) → i ≤ n → (s t u l m : NamedValues) → (turns_run c body i).ends s t l → (leave_run p c).ends t u m → StmtEnds (while p c n body) s u (l ++ m)
  turns_leave p n i le s t u l m turns (truth, same, none) =
      let lines : l ++ m ≡ l = ap (λ z. l ++ z) none ∙ append-nil l in
      let back = named_sym u t same in (
        i,
        le,
        turns_to c (BlockEnds (ListEnds body)) i (block_to (ListEnds body) (list_to body)) s t u l (l ++ m) back (subst (λ z. AreSameNamed l z) (sym lines) (named_refl l)) turns,
        truth_from c t u false back truth,
      )

  -- the condition or the body fails in a turn
  pub turns_fail : (p n i : ℕ) → i < n → (s t l : NamedValues) (at : ℕ) (kind : FaultKind) (path : NamedValues) → (turns_run c body i).ends s t l → (turn_run c body).fails t at kind path → StmtFails (while p c n body) s at kind path
  turns_fail p n i lt s t l at kind path turns (inl bad) = (i, t, l, omega arith, turns, inl bad)
  turns_fail p n i lt s t l at kind path turns (inr bad) = (i, t, l, omega arith, turns, inr (inl (lt, bad.0, bad.1)))

  -- the condition fails after the last turn, or is true still
  pub leave_fails : (p n : ℕ) (s t l : NamedValues) (at : ℕ) (kind : FaultKind) (path : NamedValues) → (turns_run c body n).ends s t l → (leave_run p c).fails t at kind path → StmtFails (while p c n body) s at kind path
  leave_fails p n s t l at kind path turns (inl bad) = (n, t, l, omega arith, turns, inl bad)
  leave_fails p n s t l at kind path turns (inr bad) = (n, t, l, omega arith, turns, inr (inr (refl, bad.0, bad.1, bad.2, bad.3)))

  -- ---- where the parts stand
  pub while_turn : (p n : ℕ) (o : Bool) (names : List (List ℕ)) → StmtIsWellScoped (while p c n body) o names → TurnIsWellScoped c body o names
  while_turn p n o names h = record { scope = h.scope; named = h.named; order = h.order; unbroken = h.unbroken; form = (h.form.1, h.form.2) }

  -- ---- one turn from one context
  module _ (k : Context) where
    pub turn_placed : (o : Bool) → IsWellFormedIn (TurnIsWellScoped c body) o k → IsWellFormedIn (CondIsWellFormed c) o k
    turn_placed o h = cond_placed c (TurnIsWellScoped c body) o k (turn_cond c body o (names_of k.store)) h

    pub body_placed : (o : Bool) (y : Context) → IsWellFormedIn (TurnIsWellScoped c body) o k → IsTrueSide c true k y → IsWellFormedIn (BlockIsWellScoped body) o y
    body_placed o y h side = side_placed c true k (TurnIsWellScoped c body) (BlockIsWellScoped body) o y side (turn_cond c body o) (turn_block c body o) h

    pub turn_may : (o : Bool) (side : Option Context) → IsWellFormedIn (TurnIsWellScoped c body) o k → IfSome side (IsTrueSide c true k) → IfSome side (IsWellFormedIn (BlockIsWellScoped body) o)
    turn_may o side h s = some_side (IsTrueSide c true k) (IsWellFormedIn (BlockIsWellScoped body) o) side (λ y. body_placed o y h) s

    -- the side on which the condition is false leaves the loop
    left_from : (p : ℕ) (y : Context) → IsTrueSide c false k y → ComesFrom (leave_run p c) (k ∷ []) y
    left_from p y side x adm = (
      k,
      Contains-push [] k,
      from_side c false k (still_run p c) (leave_run p c) y y x side (λ s t l truth e. (truth, e.0, e.1)) (λ z w. w) (λ names. refl) (stays_at (still_run p c) y (λ s. (named_refl s, refl)) (λ names. refl) x adm),
    )

    pub turn_parts : (s : Split) (es : List Context) → IsDecided c k s → RunsFrom (block_run body) (listed_context s.yes) es → Parts (leave_run 0 c) (turn_run c body) (TurnIsWellScoped c body) (k ∷ []) (listed_context s.no) es
    turn_parts s es decided h = record {
      choices = λ x. omega (arith, times_append x (listed_context s.no) es, h.choices x, times_append x (listed_context s.yes) (listed_context s.no), decided.choices x);
      left = λ d there. left_from 0 d (listed_side c false k s.no d decided.no there);
      going = λ d there x adm.
          let r = h.reached d there x adm in (
            k,
            Contains-push [] k,
            from_side c true k (block_run body) (turn_run c body) r.0 d x (listed_side c true k s.yes r.0 decided.yes r.1) (λ a t l truth e. (truth, e)) (λ z w. w) (λ names. refl) r.2,
          );
      operators = λ o placed.
          let own = of_one (IsWellFormedIn (TurnIsWellScoped c body) o) k placed in
          All-append (AdmitsContext o) (listed_context s.no) es
          (all_sides (AdmitsContext o) s.no (some_side (IsTrueSide c false k) (AdmitsContext o) s.no (λ y side. side.operators o (turn_placed o own)) decided.no))
          (h.operators o (all_sides (IsWellFormedIn (BlockIsWellScoped body) o) s.yes (turn_may o s.yes own decided.yes)));
      widths = λ w.
          let own = of_one ContextHasBoundedWidths k w in
          All-append ContextHasBoundedWidths (listed_context s.no) es
          (all_sides ContextHasBoundedWidths s.no (some_side (IsTrueSide c false k) ContextHasBoundedWidths s.no (λ y side. side.widths own) decided.no))
          (h.widths (all_sides ContextHasBoundedWidths s.yes (some_side (IsTrueSide c true k) ContextHasBoundedWidths s.yes (λ y side. side.widths own) decided.yes)));
    }

    pub turn_cond_fails : (ordered : Bool) (f : Fault) → IsFaultOf ordered k (CondFails c) f → FailsWithin ordered (turn_run c body) k f
    turn_cond_fails ordered f h = bare_within ordered (CondFails c) (turn_run c body) k f (λ s at kind bad. inl (bad, refl)) h

    pub turn_body_fails : (ordered : Bool) (s : Split) (f : Fault) → IsDecided c k s → FailsFrom ordered (block_run body) (listed_context s.yes) f → FailsWithin ordered (turn_run c body) k f
    turn_body_fails ordered s f decided (y, there, h) =
        let side = listed_side c true k s.yes y decided.yes there in
        side_fails c true k ordered (block_run body) (turn_run c body) y f side (λ a at kind path truth bad. inr (truth, bad)) (λ o p. body_placed o y p side) h

    -- ---- the loop is left
    pub leave_placed : (o : Bool) → IsWellFormedIn (CondIsWellScoped c) o k → IsWellFormedIn (CondIsWellFormed c) o k
    leave_placed o h = cond_placed c (CondIsWellScoped c) o k (λ q. q) h

    pub leave_runs : (p : ℕ) (s : Split) → IsDecided c k s → s.yes ≡ None → RunsAs (leave_run p c) k (listed_context s.no)
    leave_runs p s decided none = record {
      choices = λ x. omega (arith, times_append x (listed_context s.yes) (listed_context s.no), decided.choices x, ap (λ o. times x (listed_context o)) none);
      reached = λ d there. left_from p d (listed_side c false k s.no d decided.no there);
      operators = λ o placed. all_sides (AdmitsContext o) s.no (some_side (IsTrueSide c false k) (AdmitsContext o) s.no (λ y side. side.operators o (leave_placed o (of_one (IsWellFormedIn (CondIsWellScoped c) o) k placed))) decided.no);
      widths = λ w. all_sides ContextHasBoundedWidths s.no (some_side (IsTrueSide c false k) ContextHasBoundedWidths s.no (λ y side. side.widths (of_one ContextHasBoundedWidths k w)) decided.no);
    }

    pub leave_cond_fails : (ordered : Bool) (p : ℕ) (f : Fault) → IsFaultOf ordered k (CondFails c) f → FailsWithin ordered (leave_run p c) k f
    leave_cond_fails ordered p f h = bare_within ordered (CondFails c) (leave_run p c) k f (λ s at kind bad. inl (bad, refl)) h

    pub limit_fails : (ordered : Bool) (at : Pos) (y : Context) (f : Fault) → AdmitsContext ordered y → IsTrueSide c true k y → IsFaultWith at TurnLimit y.sample f → FailsWithin ordered (leave_run at.offset c) k f
    limit_fails ordered at y f admits side h =
        let adm_y : IsAdmitted (sampled f.sample.items) y = subst (λ z. IsAdmitted (sampled z) y) (sym h.sample) (own_sample y) in
        bare_within ordered (λ s place kind. HasTruth c s true × (place ≡ at.offset) × (kind ≡ TurnLimit)) (leave_run at.offset c) k f (λ s place kind bad. inr (bad.0, bad.1, bad.2, refl)) (record {
          admitted = λ a stand. side.within a (admitted_alike ordered y f.sample.items a admits stand adm_y);
          failure = λ a stand. (side.truth a (admitted_alike ordered y f.sample.items a admits stand adm_y), ap (λ z. z.offset) h.place, h.kind);
          elements = h.elements;
        })

-- ---- one turn from several contexts
module _ (leaves goes : Run) (stands : Bool → List (List ℕ) → Type 0) where
  pub parts_none : Parts leaves goes stands [] [] []
  parts_none = record {
    choices = λ c. refl;
    left = λ d h. absurd (contains_none d h);
    going = λ d h. absurd (contains_none d h);
    operators = λ o h. All-nil (AdmitsContext o);
    widths = λ h. All-nil ContextHasBoundedWidths;
  }

  pub parts_more : (ks ls gs more l g : List Context) → Parts leaves goes stands ks ls gs → Parts leaves goes stands more l g → Parts leaves goes stands (ks ++ more) (ls ++ l) (gs ++ g)
  parts_more ks ls gs more l g h q = record {
    choices = λ c. omega (arith, times_append c (ls ++ l) (gs ++ g), times_append c ls l, times_append c gs g, times_append c ks more, h.choices c, q.choices c, times_append c ls gs, times_append c l g);
    left = λ d there. elim (Contains-append_cases ls l d there) [ inl p ↦ comes_more leaves ks more d (h.left d p) | inr p ↦ comes_later leaves ks more d (q.left d p) ];
    going = λ d there. elim (Contains-append_cases gs g d there) [ inl p ↦ comes_more goes ks more d (h.going d p) | inr p ↦ comes_later goes ks more d (q.going d p) ];
    operators = λ o placed. crossed (AdmitsContext o) (h.operators o (all_left (IsWellFormedIn stands o) ks more placed)) (q.operators o (all_right (IsWellFormedIn stands o) ks more placed));
    widths = λ w. crossed ContextHasBoundedWidths (h.widths (all_left ContextHasBoundedWidths ks more w)) (q.widths (all_right ContextHasBoundedWidths ks more w));
  }
    where
      crossed : (P : Context → Type 0) → All P (ls ++ gs) → All P (l ++ g) → All P ((ls ++ l) ++ (gs ++ g))
      crossed P a b = All-append P (ls ++ l) (gs ++ g) (All-append P ls l (all_left P ls gs a) (all_left P l g b)) (All-append P gs g (all_right P ls gs a) (all_right P l g b))

  pub parts_apart : (ks ls gs : List Context) → AreDisjoint ks → Parts leaves goes stands ks ls gs → AreDisjoint gs
  parts_apart ks ls gs apart h c = omega (arith, times_append c ls gs, h.choices c, apart c)

  -- those that go on are put together
  pub parts_merged : (ks ls gs ms : List Context) → AreDisjoint ks → Parts leaves goes stands ks ls gs → AreMerged gs ms → Parts leaves goes stands ks ls ms
  parts_merged ks ls gs ms apart h merged = record {
    choices = λ c. omega (arith, times_append c ls ms, times_append c ls gs, merged.choices (λ x. parts_apart ks ls gs apart h x) c, h.choices c);
    left = h.left;
    going = comes_merged goes ks gs ms h.going merged;
    operators = λ o placed. let all = h.operators o placed in All-append (AdmitsContext o) ls ms (all_left (AdmitsContext o) ls gs all) (merged.operators o (all_right (AdmitsContext o) ls gs all));
    widths = λ w. let all = h.widths w in All-append ContextHasBoundedWidths ls ms (all_left ContextHasBoundedWidths ls gs all) (merged.widths (all_right ContextHasBoundedWidths ls gs all));
  }

-- ---- so many turns from one context
module _ (p : ℕ) (c : CondD) (n : ℕ) (body : StmtsD) (k : Context) where
  -- those that have left the loop, and those behind i turns
  abbrev pub HasTurned : ℕ → List Context → List Context → Type 0
  HasTurned i done rest = Parts (stmt_run (while p c n body)) (turns_run c body i) (StmtIsWellScoped (while p c n body)) (k ∷ []) done rest

  pub turned_none : HasTurned 0 [] (k ∷ [])
  turned_none = record {
    choices = λ x. refl;
    left = λ d h. absurd (contains_none d h);
    going = λ d there x adm. (
      k,
      Contains-push [] k,
      subst (λ z. IsReachedAt (turns_run c body 0) k z x) (only_one k d there) (stays_at (turns_run c body 0) k (λ s. (named_refl s, refl)) (λ names. refl) x (subst (λ z. IsAdmitted x z) (sym (only_one k d there)) adm)),
    );
    operators = λ o h. all_one (AdmitsContext o) k (of_one (IsWellFormedIn (StmtIsWellScoped (while p c n body)) o) k h).operators;
    widths = λ h. h;
  }

  -- those that go on are placed for the next turn
  pub turned_placed : (i : ℕ) (done rest : List Context) → HasTurned i done rest → (o : Bool) → IsWellFormedIn (StmtIsWellScoped (while p c n body)) o k → All (IsWellFormedIn (TurnIsWellScoped c body) o) rest
  turned_placed i done rest h o placed =
      let admit = all_right (AdmitsContext o) done rest (h.operators o (all_one (IsWellFormedIn (StmtIsWellScoped (while p c n body)) o) k placed)) in
      all_that_are (IsWellFormedIn (TurnIsWellScoped c body) o) rest (λ d there.
      let r = h.going d there (sampled d.sample) (own_sample d) in
      let named : names_of d.store ≡ names_of k.store = subst (λ z. names_of d.store ≡ names_of z.store) (sym (only_one k r.0 r.1)) r.2.named in
      record { names = subst (TurnIsWellScoped c body o) (sym named) (while_turn c body p n o (names_of k.store) placed.names); operators = All-contains (AdmitsContext o) rest d admit there })

  -- and to leave the loop
  pub turned_leaves : (i : ℕ) (done rest : List Context) → HasTurned i done rest → (o : Bool) → IsWellFormedIn (StmtIsWellScoped (while p c n body)) o k → All (IsWellFormedIn (CondIsWellScoped c) o) rest
  turned_leaves i done rest h o placed =
      All-weaker (IsWellFormedIn (TurnIsWellScoped c body) o) (IsWellFormedIn (CondIsWellScoped c) o) (λ d q. record { names = turn_cond c body o (names_of d.store) q.names; operators = q.operators }) rest (turned_placed i done rest h o placed)

  pub turned_apart : (i : ℕ) (done rest : List Context) → HasTurned i done rest → AreDisjoint rest
  turned_apart i done rest h = parts_apart (stmt_run (while p c n body)) (turns_run c body i) (StmtIsWellScoped (while p c n body)) (k ∷ []) done rest (one_apart k) h

  turned_widths : (i : ℕ) (done rest : List Context) → HasTurned i done rest → ContextHasBoundedWidths k → All ContextHasBoundedWidths rest
  turned_widths i done rest h w = all_right ContextHasBoundedWidths done rest (h.widths (all_one ContextHasBoundedWidths k w))

  pub turned_more : (i : ℕ) → i < n → (done rest l g : List Context) → HasTurned i done rest → Parts (leave_run 0 c) (turn_run c body) (TurnIsWellScoped c body) rest l g → HasTurned (suc i) (done ++ l) g
  turned_more i lt done rest l g h turn = record {
    choices = λ x. omega (arith, times_append x (done ++ l) g, times_append x done l, times_append x done rest, times_append x l g, h.choices x, turn.choices x);
    left = λ d there. elim (Contains-append_cases done l d there) [
      | inl q ↦ h.left d q
      | inr q ↦ comes_both (turns_run c body i) (leave_run 0 c) (stmt_run (while p c n body)) (turns_leave c body p n i (omega arith)) (λ x w. w) (λ x w. absurd w) (λ names. refl) (k ∷ []) rest d h.going (turn.left d q)
    ];
    going = λ d there. comes_both (turns_run c body i) (turn_run c body) (turns_run c body (suc i)) (turns_snoc c body i) (λ x w. w) (λ x w. w) (λ names. refl) (k ∷ []) rest d h.going (turn.going d there);
    operators = λ o placed.
        let own = of_one (IsWellFormedIn (StmtIsWellScoped (while p c n body)) o) k placed in
        moved (AdmitsContext o) (h.operators o placed) (turn.operators o (turned_placed i done rest h o own));
    widths = λ w. moved ContextHasBoundedWidths (h.widths w) (turn.widths (turned_widths i done rest h (of_one ContextHasBoundedWidths k w)));
  }
    where
      moved : (P : Context → Type 0) → All P (done ++ rest) → All P (l ++ g) → All P ((done ++ l) ++ g)
      moved P a b = All-append P (done ++ l) g (All-append P done l (all_left P done rest a) (all_left P l g b)) (all_right P l g b)

  -- ---- the loop as a whole
  pub turned_all : (done left : List Context) (rest : List Context) → HasTurned n done rest → RunsFrom (leave_run p c) rest left → RunsAs (stmt_run (while p c n body)) k (done ++ left)
  turned_all done left rest h last = record {
    choices = λ x. omega (arith, times_append x done left, times_append x done rest, h.choices x, last.choices x);
    reached = λ d there. elim (Contains-append_cases done left d there) [
      | inl q ↦ h.left d q
      | inr q ↦ comes_both (turns_run c body n) (leave_run p c) (stmt_run (while p c n body)) (turns_leave c body p n n (omega arith)) (λ x w. w) (λ x w. absurd w) (λ names. refl) (k ∷ []) rest d h.going (last.reached d q)
    ];
    operators = λ o placed.
        let own = of_one (IsWellFormedIn (StmtIsWellScoped (while p c n body)) o) k placed in
        All-append (AdmitsContext o) done left (all_left (AdmitsContext o) done rest (h.operators o placed))
        (last.operators o (turned_leaves n done rest h o own));
    widths = λ w. All-append ContextHasBoundedWidths done left (all_left ContextHasBoundedWidths done rest (h.widths w)) (last.widths (turned_widths n done rest h (of_one ContextHasBoundedWidths k w)));
  }

  -- nothing is left that goes on
  pub turned_out : (i : ℕ) (done rest : List Context) → HasTurned i done rest → rest ≡ [] → RunsAs (stmt_run (while p c n body)) k done
  turned_out i done rest h none = record {
    choices = λ x. omega (arith, times_append x done rest, h.choices x, ap (times x) none);
    reached = h.left;
    operators = λ o placed. all_left (AdmitsContext o) done rest (h.operators o placed);
    widths = λ w. all_left ContextHasBoundedWidths done rest (h.widths w);
  }

  pub turn_fails_at : (ordered : Bool) (i : ℕ) → i < n → (done rest : List Context) (f : Fault) → HasTurned i done rest → FailsFrom ordered (turn_run c body) rest f → FailsWithin ordered (stmt_run (while p c n body)) k f
  turn_fails_at ordered i lt done rest f h (d, there, bad) =
      fails_later (turns_run c body i) (turn_run c body) (stmt_run (while p c n body)) k d f (turns_fail c body p n i lt)
      (λ o placed. All-contains (IsWellFormedIn (TurnIsWellScoped c body) o) rest d (turned_placed i done rest h o placed) there)
      (λ w. All-contains ContextHasBoundedWidths rest d (turned_widths i done rest h w) there) ordered (h.going d there) bad

  pub leave_fails_at : (ordered : Bool) (done rest : List Context) (f : Fault) → HasTurned n done rest → FailsFrom ordered (leave_run p c) rest f → FailsWithin ordered (stmt_run (while p c n body)) k f
  leave_fails_at ordered done rest f h (d, there, bad) =
      fails_later (turns_run c body n) (leave_run p c) (stmt_run (while p c n body)) k d f (leave_fails c body p n)
      (λ o placed. All-contains (IsWellFormedIn (CondIsWellScoped c) o) rest d (turned_leaves n done rest h o placed) there)
      (λ w. All-contains ContextHasBoundedWidths rest d (turned_widths n done rest h w) there) ordered (h.going d there) bad
