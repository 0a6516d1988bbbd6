-- A loop ends as it should: its sets have in addition what each run of its body has added, and no run is left out.
use Rattle.std.proofs.Common.{◌≡◌, ℕ, ◌⊎◌, inl, inr, ◌↔◌, Bool, true, List, [], ◌∷◌, ◌++◌, length, take, Some, refl, sym, ◌∙◌, subst}
use Rattle.std.specs.List.{All, Contains}
use Rattle.std.proofs.lemmas.List.Elements.{All-contains}
use Rattle.lois_base.specs.Atom.{Atom}
use Rattle.lois_base.specs.Data.{TermD, var, tag, tup, coll}
use Rattle.lois_base.specs.Values.{PointValue, point, IsSame, IsIn, IsMember}
use Rattle.lois_base.proofs.Members.{same_refl, same_in}
use Rattle.lois_context.specs.Choices.{IsAdmitted}
use Rattle.lois_context.specs.Entered.{IsHeldInside, ExtendsContext}
use Rattle.lois_context.specs.Joined.{IsAddedInside, HasJoined}
use Rattle.lois_context.specs.Kept.{HasDistinctNames}
use Rattle.lois_context.specs.Slots.{SlotD, slot_at, store_at}
use Rattle.lois_context.specs.declared.contexts.Context.{Context}
use Rattle.lois_interp.specs.Looped.{IsPassed, LoopRuns}
use Rattle.lois_interp.specs.Reached.{EndsAt}
use Rattle.lois_interp.proofs.Longer.{ArePaired, IsLonger, IsLongerTerm, AreLonger, AreFound, all_found}
use Rattle.lois_interp.proofs.Lookups.{looked_up_take, looked_up_front, held_still}
use Rattle.lois_meaning.specs.Expressions.{Gives, HasTruth}
use Rattle.lois_meaning.specs.Kinds.{IsSet, IsSetTerm}
use Rattle.lois_meaning.specs.Runs.{IsEndOf, IsInAtSomeEnd, IsGathered, AreGathered, BlockEnds, StmtEnds, ListEnds}
use Rattle.lois_meaning.specs.Store.{NamedValues, looked_up, stored, AreSameNamed}
use Rattle.lois_script.specs.Tree.{ExprD, CondD, StmtsD, binding, for}
use Rattle.lois_meaning.proofs.Ends.{list_from}
use Rattle.lois_meaning.proofs.Moves.{truth_from}
use Rattle.lois_meaning.proofs.NamesKept.{keeps_names}
use Rattle.lois_meaning.proofs.Runs.{list_same}
use Rattle.lois_meaning.proofs.Stores.{named_sym, looked_up_same, some_same}

-- What is known of a loop over the members of the set t, which x names: the contexts inside stand for the members, and the
-- body came to `ends` from them.
pub record IsLoop (e : ExprD) (x : List ℕ) (c : CondD) (body : StmtsD) (before : Context) (t : TermD) (inside ends : List Context) : Type 0 where
  pub gives : (d : List Atom) → IsAdmitted d before → Gives e (store_at d before.store) (point t d)
  pub set : IsSetTerm t
  pub members : (d : List Atom) → IsAdmitted d before → (u : PointValue) → IsMember u (point t d) ↔ IsHeldInside inside x d u
  pub goes_on : All (ExtendsContext before x) inside
  pub named : (d : Context) → Contains inside d → (y : List Atom) → (u : PointValue) × (looked_up x (store_at y d.store) ≡ Some u)
  pub runs : LoopRuns c body inside ends

-- a member of the set at a choice: the context that stands for it there, and the store inside
record IsInside (x : List ℕ) (before : Context) (inside : List Context) (a : List Atom) (m : PointValue) : Type 0 where
  pub at : Context
  pub in_list : Contains inside at
  pub further : List Atom
  pub admitted : IsAdmitted (a ++ further) at
  pub same : AreSameNamed (store_at (a ++ further) at.store) (stored x m (store_at a before.store))

module _ (e : ExprD) (x : List ℕ) (c : CondD) (body : StmtsD) (before : Context) (t : TermD) (inside ends : List Context) (loop : IsLoop e x c body before t inside ends) (a : List Atom) (adm : IsAdmitted a before) where
  -- the store outside, and the end of some run of the body
  abbrev outer : NamedValues
  outer = store_at a before.store

  abbrev AtEnd : NamedValues → Type 0
  AtEnd u = IsEndOf u (HasTruth c) (ListEnds body) x (point t a) outer

  found_inside : (m : PointValue) → IsMember m (point t a) → IsInside x before inside a m
  found_inside m h =
      let there : IsHeldInside inside x a m = (loop.members a adm m).0 h in
      let goes : ExtendsContext before x there.0 = All-contains (ExtendsContext before x) inside there.0 loop.goes_on there.1 in
      record { at = there.0; in_list = there.1; further = there.2; admitted = there.3; same = goes.store a there.2 adm.0 there.3 m there.4 }

  decided : (m : PointValue) → IsMember m (point t a) → (b : Bool) × HasTruth c (stored x m outer) b
  decided m h =
      let i = found_inside m h in
      let d = loop.runs.decided i.at i.in_list (a ++ i.further) i.admitted in
      (d.0, truth_from c (store_at (a ++ i.further) i.at.store) (stored x m outer) d.0 i.same d.1)

  -- where the condition is true the body ends, and one of the contexts is at that end
  record IsRun (m : PointValue) (i : IsInside x before inside a m) : Type 0 where
    pub at : Context
    pub in_list : Contains ends at
    pub admitted : IsAdmitted (a ++ i.further) at
    pub whole : NamedValues
    pub lines : NamedValues
    pub inner : ListEnds body (store_at (a ++ i.further) i.at.store) whole lines
    pub run : ListEnds body (stored x m outer) whole lines
    pub same : AreSameNamed (store_at (a ++ i.further) at.store) (take (length (store_at (a ++ i.further) i.at.store)) whole)

  runs : (m : PointValue) (i : IsInside x before inside a m) → HasTruth c (stored x m outer) true → IsRun m i
  runs m i h =
      let y = a ++ i.further in
      let true_there : HasTruth c (store_at y i.at.store) true = truth_from c (stored x m outer) (store_at y i.at.store) true (named_sym (store_at y i.at.store) (stored x m outer) i.same) h in
      let found = loop.runs.ended i.at i.in_list y i.admitted true_there in
      let there : EndsAt (BlockEnds (ListEnds body)) i.at found.0 y = found.3.reached.ends_there y found.2 in
      record {
        at = found.0;
        in_list = found.1;
        admitted = found.2;
        whole = there.run.0;
        lines = there.printed;
        inner = there.run.1;
        run = list_from body (store_at y i.at.store) (stored x m outer) there.run.0 there.printed i.same there.run.1;
        same = there.run.2;
      }

  body_ends : (m : PointValue) → IsMember m (point t a) → HasTruth c (stored x m outer) true → (u : NamedValues) × (ls : NamedValues) × ListEnds body (stored x m outer) u ls
  body_ends m h true_here =
      let r = runs m (found_inside m h) true_here in (r.whole, r.lines, r.run)

  -- what was added inside stands at some end
  added_at_end : (y : List ℕ) (w : PointValue) → IsAddedInside ends y a w → IsInAtSomeEnd w y AtEnd
  added_at_end y w (f, in_list, further, at_f, u, held, is_in) =
      let z = a ++ further in
      let start = loop.runs.started f in_list in
      let d = start.0 in
      let passed : IsPassed c body d f = start.2 in
      let at_d : IsAdmitted z d = passed.reached.within z at_f in
      let m = loop.named d start.1 z in
      let member : IsMember m.0 (point t a) = (loop.members a adm m.0).1 (d, start.1, further, at_d, m.1) in
      let goes : ExtendsContext before x d = All-contains (ExtendsContext before x) inside d loop.goes_on start.1 in
      let same : AreSameNamed (store_at z d.store) (stored x m.0 outer) = goes.store a further adm.0 at_d m.0 m.1 in
      let there : EndsAt (BlockEnds (ListEnds body)) d f z = passed.reached.ends_there z at_f in
      let whole = there.run.0 in
      let front : (q : PointValue) × (looked_up y (take (length (store_at z d.store)) whole) ≡ Some q) × IsSame u q =
      looked_up_same y (store_at z f.store) (take (length (store_at z d.store)) whole) u there.run.2 held in (
        whole,
        front.0,
        (m.0, there.printed, member, truth_from c (store_at z d.store) (stored x m.0 outer) true same (passed.passes z at_f), list_from body (store_at z d.store) (stored x m.0 outer) whole there.printed same there.run.1),
        looked_up_take y (length (store_at z d.store)) whole front.0 front.1,
        same_in w u front.0 front.2 is_in,
      )

  -- and what stands at some end was added inside: the run that was made ends as this one does
  at_end_added : (y : List ℕ) (v w : PointValue) → looked_up y outer ≡ Some v → IsInAtSomeEnd w y AtEnd → IsAddedInside ends y a w
  at_end_added y v w outside (u, q, (m, lines, member, true_here, run), held, is_in) =
      let i = found_inside m member in
      let r = runs m i true_here in
      let z = a ++ i.further in
      let inner = store_at z i.at.store in
      let ends_alike : AreSameNamed u r.whole = (list_same body (stored x m outer) u r.whole lines r.lines run r.run).0 in
      let here : (p : PointValue) × (looked_up y r.whole ≡ Some p) × IsSame q p = looked_up_same y u r.whole q ends_alike held in
      let still = held_still y x m outer v outside in
      let known : (p : PointValue) × (looked_up y inner ≡ Some p) × IsSame still.0 p = looked_up_same y (stored x m outer) inner still.0 (named_sym inner (stored x m outer) i.same) still.1 in
      let kept = keeps_names body inner r.whole r.lines r.inner in
      let front : looked_up y (take (length inner) r.whole) ≡ Some here.0 = looked_up_front y inner r.whole kept.0 here.0 known.0 kept.1 known.1 here.1 in
      let found : (p : PointValue) × (looked_up y (store_at z r.at.store) ≡ Some p) × IsSame here.0 p =
      looked_up_same y (take (length inner) r.whole) (store_at z r.at.store) here.0 (named_sym (store_at z r.at.store) (take (length inner) r.whole) r.same) front in
      (r.at, r.in_list, i.further, r.admitted, found.0, found.1, same_in w here.0 found.0 found.2 (same_in w q here.0 here.2 is_in))

  -- ---- one slot behind the loop
  gathered : (b r : SlotD) → IsLongerTerm b.term r.term → looked_up b.name outer ≡ Some (point b.term a) →
      ((w : PointValue) → IsIn w (point r.term a) ↔ (IsIn w (point b.term a) ⊎ IsAddedInside ends b.name a w)) → IsGathered (point r.term a) (slot_at a b) AtEnd
  gathered b r longer here members = go b.term refl longer
    where
      go : (s : TermD) → s ≡ b.term → IsLongerTerm s r.term → IsGathered (point r.term a) (slot_at a b) AtEnd
      go (coll ks) is k =
          let set : IsSet (point b.term a) = subst IsSetTerm is tt in
          inl (
            set,
            (
              subst IsSetTerm (sym k.1) tt,
              λ w. (
                λ h. elim ((members w).0 h) [ inl p ↦ inl p | inr p ↦ inr (added_at_end b.name w p) ],
                λ h. elim h [ inl p ↦ (members w).1 (inl p) | inr p ↦ (members w).1 (inr (at_end_added b.name (point b.term a) w here p)) ],
              ),
            ),
          )
      go (var i) is k = inr ((λ set. subst IsSetTerm (sym is) set), subst (λ z. IsSame (point z a) (point b.term a)) (sym (k ∙ is)) (same_refl (point b.term a)))
      go (tag i) is k = inr ((λ set. subst IsSetTerm (sym is) set), subst (λ z. IsSame (point z a) (point b.term a)) (sym (k ∙ is)) (same_refl (point b.term a)))
      go (tup i) is k = inr ((λ set. subst IsSetTerm (sym is) set), subst (λ z. IsSame (point z a) (point b.term a)) (sym (k ∙ is)) (same_refl (point b.term a)))

  module _ (rs : List SlotD) (joined : (y : List ℕ) (v : PointValue) → looked_up y outer ≡ Some v → HasJoined ends y a v rs) where
    one_gathered : (b r : SlotD) → IsLonger b r → AreFound a before.store rs b r → IsGathered (point r.term a) (slot_at a b) AtEnd
    one_gathered b r longer found =
        let own = joined b.name (point b.term a) found.0 in
        let is : own.value ≡ point r.term a = some_same own.value (point r.term a) (sym own.held ∙ found.1) in
        gathered b r longer.term found.0 (subst (λ z. (w : PointValue) → IsIn w z ↔ (IsIn w (point b.term a) ⊎ IsAddedInside ends b.name a w)) is own.members)

    all_gathered : (bs qs : List SlotD) → AreLonger bs qs → ArePaired (AreFound a before.store rs) bs qs → AreGathered (store_at a qs) (store_at a bs) AtEnd
    all_gathered [] [] h k = tt
    all_gathered (b ∷ bs) (q ∷ qs) h k = (h.0.name, one_gathered b q h.0 k.0, all_gathered bs qs h.1 k.1)
    all_gathered [] (q ∷ qs) h k = absurd h
    all_gathered (b ∷ bs) [] h k = absurd h

    -- the loop ends in the store behind it
    pub loop_ends : (p : ℕ) → AreLonger before.store rs → HasDistinctNames before.store → StmtEnds (for (binding p x e) c body) outer (store_at a rs) []
    loop_ends p longer distinct = (
      point t a,
      loop.gives a adm,
      loop.set,
      decided,
      body_ends,
      all_gathered before.store rs longer (all_found a before.store rs distinct longer),
      refl,
    )
