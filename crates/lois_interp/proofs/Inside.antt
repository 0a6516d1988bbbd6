-- The contexts inside of a loop, one after another, and what a fault names there.
use Rattle.std.proofs.Common.{◌≡◌, ℕ, ◌-◌, ◌≤◌, inl, inr, Bool, true, false, List, [], ◌∷◌, ◌++◌, length, take, drop, Option, Some, None, IfSome, refl, sym, ap, ◌∙◌, subst, arith}
use Rattle.std.specs.List.{All, Contains}
use Rattle.std.proofs.lemmas.List.{length-map, length-drop, take-append-drop, length-take}
use Rattle.std.proofs.lemmas.List.Elements.{Contains-append_left, Contains-append_right, Contains-append_cases, Contains-push, All-contains, All-cons, All-append, All-nil}
use Rattle.lois_base.specs.Atom.{Atom, whole}
use Rattle.lois_base.specs.Data.{TermD, depth}
use Rattle.lois_base.specs.Fits.{Fits}
use Rattle.lois_base.specs.Patterns.{AreAlike}
use Rattle.lois_base.specs.Shift.{shift, shift_level}
use Rattle.lois_base.specs.Truth.{sampled}
use Rattle.lois_base.specs.Validity.{AdmitsTerm, HasBoundedWidths}
use Rattle.lois_base.specs.Values.{point, IsSame, PointValue}
use Rattle.lois_base.proofs.Members.{same_sym}
use Rattle.lois_base.proofs.RenamedForm.{depth_renamed, admits_renamed, widths_renamed}
use Rattle.lois_base.proofs.Lists.{all_one, all_right}
use Rattle.lois_answers.specs.ResultsData.{LineD}
use Rattle.lois_script.specs.Tree.{CondD, StmtsD}
use Rattle.lois_script.specs.declared.syntax.Pos.{Pos}
use Rattle.lois_meaning.specs.Expressions.{HasTruth}
use Rattle.lois_meaning.specs.Faults.{CondFails}
use Rattle.lois_meaning.specs.Runs.{BlockEnds, ListEnds}
use Rattle.lois_meaning.specs.Store.{NamedValues, named, AreSameNamed}
use Rattle.lois_meaning.specs.declared.faults.Fault.{Fault}
use Rattle.lois_meaning.proofs.Determined.{truth_same}
use Rattle.lois_context.specs.Choices.{IsAdmitted, AdmitsContext, ContextHasBoundedWidths}
use Rattle.lois_context.specs.Slots.{SlotD, store_at}
use Rattle.lois_context.specs.LineValues.{line_values}
use Rattle.lois_context.specs.declared.contexts.Context.{Context}
use Rattle.lois_context.specs.declared.contexts.Split.{Split}
use Rattle.lois_context.proofs.Carried.{raised_same}
use Rattle.lois_context.proofs.Counts.{times_of, times_some}
use Rattle.lois_simplify.proofs.Members.{contains_none}
use Rattle.lois_eval.specs.WellFormed.{IsWellFormedIn}
use Rattle.lois_eval.specs.Throughout.{IsFaultOf, IfFault}
use Rattle.lois_eval.proofs.FaultsAt.{alike_itself}
use Rattle.lois_interp.specs.Assigned.{ListAssigns}
use Rattle.lois_interp.specs.Decided.{listed_context, IsTrueSide, IsDecided}
use Rattle.lois_interp.specs.Elements.{NamesElement, StopNamesElement}
use Rattle.lois_interp.specs.Failed.{AreElements, FailsWithin}
use Rattle.lois_interp.specs.Looped.{IsPassed, LoopRuns, FailsInside, Holds, HoldsElement}
use Rattle.lois_interp.specs.Reached.{IsReachedContext, RunsAs}
use Rattle.lois_interp.specs.Run.{block_run, turn_run, Run}
use Rattle.lois_interp.specs.Slots.{AreKept}
use Rattle.lois_interp.specs.WellScoped.{BlockIsWellScoped, TurnIsWellScoped}
use Rattle.lois_interp.proofs.ForFails.{bare_within}
use Rattle.lois_interp.proofs.Kept.{as_reached}
use Rattle.lois_interp.proofs.Lists.{only_one, of_one, all_left}
use Rattle.lois_interp.proofs.Parted.{turn_cond, turn_block, side_placed, side_fails}
use Rattle.lois_meaning.specs.declared.faults.Stop.{Stop}
use Rattle.lois_meaning.specs.declared.faults.Stop.TheVariants.{Fault as Faulted, NoMemory}
use Rattle.lois_meaning.proofs.Stores.{some_same}
use Rattle.lois_context.specs.Kept.{IsSlot}

module _ (c : CondD) (body : StmtsD) where
  -- ---- no context, and one more
  pub runs_none : LoopRuns c body [] []
  runs_none = record {
    decided = λ d h. absurd (contains_none d h);
    ended = λ d h. absurd (contains_none d h);
    started = λ f h. absurd (contains_none f h);
    operators = λ o h. All-nil (AdmitsContext o);
    widths = λ h. All-nil ContextHasBoundedWidths;
  }

  pub runs_more : (ds es : List Context) (d : Context) (fs : List Context) → LoopRuns c body ds es → LoopRuns c body (d ∷ []) fs → LoopRuns c body (ds ++ d ∷ []) (es ++ fs)
  runs_more ds es d fs h k = record {
    decided = λ q there. elim (Contains-append_cases ds (d ∷ []) q there) [ inl p ↦ h.decided q p | inr p ↦ k.decided q p ];
    ended = λ q there x adm true_there. elim (Contains-append_cases ds (d ∷ []) q there) [
      | inl p ↦ let r = h.ended q p x adm true_there in (r.0, Contains-append_left es fs r.0 r.1, r.2, r.3)
      | inr p ↦ let r = k.ended q p x adm true_there in (r.0, Contains-append_right es fs r.0 r.1, r.2, r.3)
    ];
    started = λ f there. elim (Contains-append_cases es fs f there) [
      | inl p ↦ let r = h.started f p in (r.0, Contains-append_left ds (d ∷ []) r.0 r.1, r.2)
      | inr p ↦ let r = k.started f p in (r.0, Contains-append_right ds (d ∷ []) r.0 r.1, r.2)
    ];
    operators = λ o q. All-append (AdmitsContext o) es fs (h.operators o (all_left (IsWellFormedIn (TurnIsWellScoped c body) o) ds (d ∷ []) q)) (k.operators o (all_right (IsWellFormedIn (TurnIsWellScoped c body) o) ds (d ∷ []) q));
    widths = λ q. All-append ContextHasBoundedWidths es fs (h.widths (all_left ContextHasBoundedWidths ds (d ∷ []) q)) (k.widths (all_right ContextHasBoundedWidths ds (d ∷ []) q));
  }

  -- ---- the side on which the condition holds
  -- what is reached from a side is reached from the context itself
  pub side_reached : (b : Bool) (d y f : Context) → IsTrueSide c b d y → IsReachedContext (BlockEnds (ListEnds body)) (ListAssigns body) y f → IsReachedContext (BlockEnds (ListEnds body)) (ListAssigns body) d f
  side_reached b d y f side h = record {
    size = h.size ∙ side.like.size;
    within = λ x adm. side.within x (h.within x adm);
    slots = subst (λ z. AreKept (ListAssigns body) (λ x. IsAdmitted x f) z f.store) side.like.store h.slots;
    ends_there = λ x adm.
        let e = h.ends_there x adm in
        record {
          printed = e.printed;
          run = subst (λ z. BlockEnds (ListEnds body) (store_at x z) (store_at x f.store) e.printed) side.like.store e.run;
          lines = e.lines ∙ ap (λ z. line_values x z ++ e.printed) side.like.lines;
        };
  }

  truths_apart : (s : NamedValues) → HasTruth c s true → HasTruth c s false → ⊥
  truths_apart s h k = let e : true ≡ false = truth_same c s true false h k in cc

  pub passing_runs : (d : Context) (s : Split) (y : Context) (fs : List Context) → IsDecided c d s → s.yes ≡ Some y → RunsAs (block_run body) y fs → LoopRuns c body (d ∷ []) fs
  passing_runs d s y fs h is runs =
      let side : IsTrueSide c true d y = subst (λ z. IfSome z (IsTrueSide c true d)) is h.yes in
      let from_side : (f : Context) → Contains fs f → IsPassed c body d f = λ f there.
      let own : IsReachedContext (BlockEnds (ListEnds body)) (ListAssigns body) y f = as_reached (block_run body) y fs runs f there in
      record { reached = side_reached true d y f side own; passes = λ x adm. side.truth x (own.within x adm) } in
      record {
        decided = λ q there x adm. let e = only_one d q there in
            subst (λ z. (b : Bool) × HasTruth c (store_at x z.store) b) e (h.decided x (subst (λ z. IsAdmitted x z) (sym e) adm));
        ended = λ q there x adm true_there.
            let e = only_one d q there in
            let adm_d : IsAdmitted x d = subst (λ z. IsAdmitted x z) (sym e) adm in
            let truth : HasTruth c (store_at x d.store) true = subst (λ z. HasTruth c (store_at x z.store) true) (sym e) true_there in
            let adm_y : IsAdmitted x y = admitted_side d s y x h is side adm_d truth in
            let some = times_of x (y ∷ []) y (Contains-push [] y) adm_y in
            let found = times_some x fs (omega (arith, runs.choices x)) in
            (found.0, found.1, found.2, subst (λ z. IsPassed c body z found.0) e (from_side found.0 found.1));
        started = λ f there. (d, Contains-push [] d, from_side f there);
        operators = λ o q. runs.operators o (all_one (IsWellFormedIn (BlockIsWellScoped body) o) y (side_placed c true d (TurnIsWellScoped c body) (BlockIsWellScoped body) o y side (turn_cond c body o) (turn_block c body o) (of_one (IsWellFormedIn (TurnIsWellScoped c body) o) d q)));
        widths = λ q. runs.widths (all_one ContextHasBoundedWidths y (side.widths (of_one ContextHasBoundedWidths d q)));
      }
    where
      other_side : (d : Context) (o : Option Context) (q : Context) (x : List Atom) → IfSome o (IsTrueSide c false d) → Contains (listed_context o) q → IsAdmitted x q → HasTruth c (store_at x d.store) false
      other_side d None q x h there adm = absurd (contains_none q there)
      other_side d (Some k) q x h there adm = h.truth x (subst (λ z. IsAdmitted x z) (sym (only_one k q there)) adm)

      admitted_side : (d : Context) (s : Split) (y : Context) (x : List Atom) → IsDecided c d s → s.yes ≡ Some y → IsTrueSide c true d y → IsAdmitted x d → HasTruth c (store_at x d.store) true → IsAdmitted x y
      admitted_side d s y x h is side adm truth =
          let some = times_of x (d ∷ []) d (Contains-push [] d) adm in
          let found = times_some x (listed_context s.yes ++ listed_context s.no) (omega (arith, h.choices x)) in
          elim (Contains-append_cases (listed_context s.yes) (listed_context s.no) found.0 found.1) [
            | inl p ↦ subst (λ z. IsAdmitted x z) (sym (only_one y found.0 (subst (λ z. Contains (listed_context z) found.0) is p))) found.2
            | inr p ↦ absurd (truths_apart (store_at x d.store) truth (other_side d s.no found.0 x h.no p found.2))
          ]

  -- where no side is left on which the condition holds, nothing runs
  pub passing_none : (d : Context) (s : Split) → IsDecided c d s → s.yes ≡ None → LoopRuns c body (d ∷ []) []
  passing_none d s h is = record {
    decided = λ q there x adm. let e = only_one d q there in
        subst (λ z. (b : Bool) × HasTruth c (store_at x z.store) b) e (h.decided x (subst (λ z. IsAdmitted x z) (sym e) adm));
    ended = λ q there x adm true_there.
        let e = only_one d q there in
        let adm_d : IsAdmitted x d = subst (λ z. IsAdmitted x z) (sym e) adm in
        let truth : HasTruth c (store_at x d.store) true = subst (λ z. HasTruth c (store_at x z.store) true) (sym e) true_there in
        let some = times_of x (d ∷ []) d (Contains-push [] d) adm_d in
        let found = times_some x (listed_context s.yes ++ listed_context s.no) (omega (arith, h.choices x)) in
        absurd (elim (Contains-append_cases (listed_context s.yes) (listed_context s.no) found.0 found.1) [
          | inl p ↦ contains_none found.0 (subst (λ z. Contains (listed_context z) found.0) is p)
          | inr p ↦ truths_apart (store_at x d.store) truth (no_side d s.no found.0 x h.no p found.2)
        ]);
    started = λ f there. absurd (contains_none f there);
    operators = λ o q. All-nil (AdmitsContext o);
    widths = λ q. All-nil ContextHasBoundedWidths;
  }
    where
      no_side : (d : Context) (o : Option Context) (q : Context) (x : List Atom) → IfSome o (IsTrueSide c false d) → Contains (listed_context o) q → IsAdmitted x q → HasTruth c (store_at x d.store) false
      no_side d None q x h there adm = absurd (contains_none q there)
      no_side d (Some k) q x h there adm = h.truth x (subst (λ z. IsAdmitted x z) (sym (only_one k q there)) adm)

  -- ---- faults
  pub cond_within : (ordered : Bool) (d : Context) (f : Fault) → IsFaultOf ordered d (CondFails c) f → FailsWithin ordered (turn_run c body) d f
  cond_within ordered d f h = bare_within ordered (CondFails c) (turn_run c body) d f (λ s at k bad. inl (bad, refl)) h

  pub side_within : (ordered : Bool) (d y : Context) (f : Fault) → IsTrueSide c true d y → FailsWithin ordered (block_run body) y f → FailsWithin ordered (turn_run c body) d f
  side_within ordered d y f side h =
      side_fails c true d ordered (block_run body) (turn_run c body) y f side (λ s at kind path truth bad. inr (truth, bad))
      (λ o p. side_placed c true d (TurnIsWellScoped c body) (BlockIsWellScoped body) o y side (turn_cond c body o) (turn_block c body o) p) h

  -- the member is named before the rest of the path
  pub member_named : (ordered : Bool) (x : List ℕ) (item : TermD) (d : Context) (f g : Fault) → Holds x d.store item → depth item ≤ 64 → FailsWithin ordered (turn_run c body) d f → NamesElement x item d.size f g → FailsInside ordered x c body d g
  member_named ordered x item d f g held brackets h so =
      let s = f.sample.items in
      let n = d.size in
      let item_now = shift n (length s - n) item in
      let line : LineD = record { name = x; term = item_now } in
      let elements : AreElements (TurnIsWellScoped c body) d (length s) (line ∷ f.elements) = record {
        levels = All-cons (λ (l : LineD). Fits (length s) l.term) line f.elements so.levels h.elements.levels;
        brackets = All-cons (λ (l : LineD). depth l.term ≤ 64) line f.elements (subst (λ z. z ≤ 64) (sym (depth_renamed (shift_level n (length s - n)) item)) brackets) h.elements.brackets;
        operators = λ o p. All-cons (λ (l : LineD). AdmitsTerm o l.term) line f.elements
            (admits_renamed (shift_level n (length s - n)) o item (held_has (AdmitsTerm o) p.operators.store)) (h.elements.operators o p);
        widths = λ w. All-cons (λ (l : LineD). HasBoundedWidths l.term) line f.elements
            (widths_renamed (shift_level n (length s - n)) item (held_has HasBoundedWidths w.store)) (h.elements.widths w);
      } in
      record {
        fails_at = λ z stand.
            let alike : AreAlike ordered (sampled s) z = subst (λ y. AreAlike ordered (sampled y) z) so.sample stand in
            let there = h.fails_at z alike in
            let a = take n z in
            let further = drop n z in
            let count : length further ≡ length s - n = length-drop n z ∙ ap (λ m. m - n) (sym alike.count ∙ length-map s whole) in
            let same : IsSame (point item a) (point item_now z) =
            same_sym (point item_now z) (point item a) (subst (λ y. IsSame (point item_now y) (point item a)) (take-append-drop n z) (raised_same n (length s - n) item a further there.admitted.0 count)) in
            record {
              admitted = there.admitted;
              member = point item a;
              rest = there.path;
              held = held.value a;
              failed = subst (λ (y : Pos). (turn_run c body).fails (store_at a d.store) y.offset g.kind there.path) (sym so.pos)
                  (subst (λ y. (turn_run c body).fails (store_at a d.store) f.pos.offset y there.path) (sym so.kind) there.failed);
              path = subst (λ y. AreSameNamed (named x (point item a) ∷ there.path) (line_values z y)) (sym so.elements) (refl, same, there.named);
            };
        elements = subst (λ z. AreElements (TurnIsWellScoped c body) d (length z) g.elements) (sym so.sample)
            (subst (AreElements (TurnIsWellScoped c body) d (length s)) (sym so.elements) elements);
      }
    where
      held_has : (P : TermD → Type 0) → All (λ (q : SlotD). P q.term) d.store → P item
      held_has P all = subst P held.slot.2 (All-contains (λ (q : SlotD). P q.term) d.store held.slot.0 all held.slot.1)

-- a name holds one term
pub holds_one : (x : List ℕ) (ss : List SlotD) (t u : TermD) → Holds x ss t → Holds x ss u → t ≡ u
holds_one x ss t u h k = ap (λ (v : PointValue). v.term_of) (some_same (point t []) (point u []) (sym (h.value []) ∙ k.value []))

pub named_stop : (ordered : Bool) (x : List ℕ) (item : TermD) (c : CondD) (body : StmtsD) (k : Context) (s r : Stop) → HoldsElement x k.store → Holds x k.store item → IfFault s (FailsWithin ordered (turn_run c body) k) → StopNamesElement x item k.size s r → IfFault r (FailsInside ordered x c body k)
named_stop ordered x item c body k (Faulted f) (Faulted g) element held h so =
    member_named c body ordered x item k f g held (subst (λ z. depth z ≤ 64) (holds_one x k.store element.item item element.held held) element.brackets) h so
named_stop ordered x item c body k (Faulted f) NoMemory element held h so = tt
named_stop ordered x item c body k NoMemory (Faulted g) element held h so = absurd so
named_stop ordered x item c body k NoMemory NoMemory element held h so = tt

pub long_enough : (ordered : Bool) (run : Run) (k : Context) (f : Fault) → FailsWithin ordered run k f → k.size ≤ length f.sample.items
long_enough ordered run k f h =
    let numbers = sampled f.sample.items in
    let e : length (take k.size numbers) ≡ k.size = (h.fails_at numbers (alike_itself ordered f.sample.items)).admitted.0 in
    omega (arith, length-map f.sample.items whole, length-take k.size numbers)

pub held_fits : (x : List ℕ) (k : Context) (t : TermD) → Holds x k.store t → Fits k.size t
held_fits x k t h = subst (λ z. Fits k.size z) h.slot.2 (All-contains (IsSlot k.size) k.store h.slot.0 k.slots h.slot.1).0
