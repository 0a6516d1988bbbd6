-- The contexts inside of a loop, from what `enter_loop` answers.
use Rattle.std.proofs.Common.{◌≡◌, ℕ, ◌<◌, ◌≤◌, ◌⊎◌, inl, inr, Bool, List, map, refl, sym, ap, ◌∙◌, subst, arith}
use Rattle.std.specs.List.{All, Contains}
use Rattle.std.proofs.lemmas.List.Elements.{All-contains, All-contains_itself, Contains-push}
use Rattle.lois_base.specs.Atom.{Atom}
use Rattle.lois_base.specs.Data.{TermD, coll, CompD, comp, CompsD, no_comps, more, depth}
use Rattle.lois_base.specs.Truth.{sampled}
use Rattle.lois_base.specs.Validity.{AdmitsTerm, HasBoundedWidths}
use Rattle.lois_base.specs.Values.{point}
use Rattle.lois_base.proofs.Validity.{all_that_are}
use Rattle.lois_answers.specs.declared.faults.FaultKind.TheVariants.{NotASet}
use Rattle.lois_script.specs.Tree.{ExprD, pos}
use Rattle.lois_script.specs.declared.syntax.Pos.{Pos}
use Rattle.lois_meaning.specs.Expressions.{Gives}
use Rattle.lois_meaning.specs.Kinds.{IsSetTerm}
use Rattle.lois_meaning.specs.Store.{looked_up}
use Rattle.lois_meaning.specs.declared.faults.Fault.{Fault}
use Rattle.lois_terms.specs.Collections.{IsColl}
use Rattle.lois_context.specs.Choices.{IsAdmitted, AdmitsContext, ContextHasBoundedWidths}
use Rattle.lois_context.specs.Entered.{carried, element_slot, binders_of, item_of, items_listed, comps_listed, IsMemberContext, AreMemberContexts, AreEntered, ExtendsContext, IsLoopContext}
use Rattle.lois_context.specs.Joined.{IsEnd}
use Rattle.lois_context.specs.Slots.{IsNew, store_at}
use Rattle.lois_context.specs.declared.contexts.Context.{Context}
use Rattle.lois_context.proofs.Carried.{carried_new, held_last}
use Rattle.lois_context.proofs.Entered.{all_entries}
use Rattle.lois_context.proofs.Joined.{entries_are_ends}
use Rattle.lois_context.proofs.Later.{first_or_later}
use Rattle.lois_simplify.proofs.Members.{contains_none}
use Rattle.lois_eval.specs.WellFormed.{IsWellFormedIn, IsWellFormed}
use Rattle.lois_eval.specs.Throughout.{IsValueThroughout, IsFaultOf}
use Rattle.lois_eval.specs.Checks.{IsFaultWith}
use Rattle.lois_eval.proofs.FaultsAt.{own_sample, admitted_alike}
use Rattle.lois_interp.specs.Elements.{SetFails}
use Rattle.lois_interp.specs.Entered.{StandsInside, IsEntered}
use Rattle.lois_base.specs.Tree.{tree}
use Rattle.lois_base.specs.declared.values.Term.{Term}
use Rattle.lois_base.specs.declared.values.Term.TheVariants.{Var, Tag, Tup, Coll}

each_entry : (k : Context) (x : List ℕ) (ks : List CompD) (ds : List Context) → AreMemberContexts k x ks ds → All (λ d. (q : CompD) × Contains ks q × IsMemberContext k x q d) ds
each_entry k x ks ds h = all_entries k x (Contains ks) (λ d. (q : CompD) × Contains ks q × IsMemberContext k x q d) (λ q d there e. (q, there, e)) ks ds (All-contains_itself ks) h

-- an item is written less deep than its set
comps_less : (ks : CompsD) (q : CompD) → Contains (items_listed ks) q → depth (item_of q) < depth (coll ks)
comps_less no_comps q h = absurd (contains_none q h)
comps_less (more (comp m g t) ks) q h = go (first_or_later (comp m g t) (items_listed ks) q h) (comps_less ks q)
  where
    go : (comp m g t ≡ q) ⊎ Contains (items_listed ks) q → (Contains (items_listed ks) q → depth (item_of q) < depth (coll ks)) → depth (item_of q) < depth (coll (more (comp m g t) ks))
    go (inl e) later = subst (λ z. depth (item_of z) < depth (coll (more (comp m g t) ks))) e (omega arith)
    go (inr there) later = let l = later there in omega arith

less_deep : (t : TermD) (q : CompD) → IsColl t → depth t ≤ 64 → Contains (comps_listed t) q → depth (item_of q) ≤ 64
less_deep (coll ks) q set l there = let less = comps_less ks q there in omega arith
less_deep t q set l there = absurd (contains_none q there)

pub entered_all : (e : ExprD) (x : List ℕ) (k : Context) (t : TermD) (inside : List Context) → IsNew x k.store →
    ((a : List Atom) → IsAdmitted a k → Gives e (store_at a k.store) (point t a)) → IsColl t → depth t ≤ 64 →
    ((o : Bool) → IsWellFormedIn (IsWellFormed e) o k → AdmitsTerm o t) → (ContextHasBoundedWidths k → HasBoundedWidths t) → AreEntered k x t inside → IsEntered e x k inside
entered_all e x k t inside new gives set brackets operators widths entered = record {
  elements = t;
  gives = gives;
  set = subst IsSetTerm (sym set.1) tt;
  members = entered.members;
  stand = all_that_are (StandsInside e x k) inside (λ d there.
      let entry = All-contains (λ d. (q : CompD) × Contains (comps_listed t) q × IsMemberContext k x q d) inside d (each_entry k x (comps_listed t) inside entered.entries) there in
      let q = entry.0 in
      let n = k.size in
      let by = binders_of q in
      let store = entry.2.store in
      record {
        goes_on = All-contains (ExtendsContext k x) inside d entered.outside there;
        end = All-contains (IsEnd k) inside d (entries_are_ends k x (comps_listed t) inside new entered.entries) there;
        named = (All-contains (IsLoopContext k x) inside d entered.inside there).names;
        element = record {
          item = item_of q;
          held = record {
            value = λ y. ap (λ z. looked_up x (store_at y z)) store ∙ held_last x (item_of q) y (map (carried n by) k.store) (carried_new n by x k.store new);
            slot = (element_slot x (item_of q), subst (λ z. Contains z (element_slot x (item_of q))) (sym store) (Contains-push (map (carried n by) k.store) (element_slot x (item_of q))), refl);
          };
          brackets = less_deep t q set brackets entry.1;
        };
        operators = λ o p. All-contains (AdmitsContext o) inside d (entered.operators o p.operators (operators o p)) there;
        widths = λ w. All-contains ContextHasBoundedWidths inside d (entered.widths w (widths w)) there;
      });
}

-- what the expression gives is no set
pub no_set_fails : (ordered : Bool) (e : ExprD) (k : Context) (at : Pos) (t : TermD) (f : Fault) → AdmitsContext ordered k → IsValueThroughout k e t → (IsSetTerm t → ⊥) → at.offset ≡ pos e → IsFaultWith at NotASet k.sample f → IsFaultOf ordered k (SetFails e) f
no_set_fails ordered e k at t f admits gives none place h =
    let adm : IsAdmitted (sampled f.sample.items) k = subst (λ z. IsAdmitted (sampled z) k) (sym h.sample) (own_sample k) in
    record {
      admitted = λ a stand. admitted_alike ordered k f.sample.items a admits stand adm;
      failure = λ a stand. inr (ap (λ z. z.offset) h.place ∙ place, point t a, gives a (admitted_alike ordered k f.sample.items a admits stand adm), (h.kind, none));
      elements = h.elements;
    }

pub not_coll : (t : Term) → ((ks : List CompD) → t ≡ Coll ks → ⊥) → IsSetTerm (tree t) → ⊥
not_coll (Var i) h s = s
not_coll (Tag n) h s = s
not_coll (Tup ts) h s = s
not_coll (Coll ks) h s = h ks refl
