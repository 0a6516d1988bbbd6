-- From the contexts inside of a loop to the store outside with a member under the loop's name, and back.
use Rattle.std.proofs.Common.{◌≡◌, ℕ, ◌≤◌, Bool, List, ◌++◌, length, take, sym, ◌∙◌, arith}
use Rattle.std.proofs.lemmas.List.{length-map}
use Rattle.std.proofs.lemmas.List.Elements.{All-contains}
use Rattle.lois_base.specs.Atom.{Atom, whole}
use Rattle.lois_base.specs.Data.{TermD}
use Rattle.lois_base.specs.Patterns.{AreAlike}
use Rattle.lois_base.specs.Truth.{sampled}
use Rattle.lois_base.specs.Values.{PointValue, point, IsMember}
use Rattle.lois_meaning.specs.Store.{NamedValues, stored, AreSameNamed}
use Rattle.lois_context.specs.Choices.{IsAdmitted}
use Rattle.lois_context.specs.Entered.{AreEntered, IsLoopContext, ExtendsContext}
use Rattle.lois_context.specs.Slots.{store_at}
use Rattle.lois_context.specs.declared.contexts.Context.{Context}
use Rattle.lois_eval.specs.Folded.{IsSomewhereInside, IsFaultInside}
use Rattle.lois_eval.specs.Throughout.{Failure}
use Rattle.lois_eval.proofs.FaultsAt.{sampled_start, alike_longer}

module _ (before : Context) (x : List ℕ) (t : TermD) (ds : List Context) (entered : AreEntered before x t ds) where
  -- each member is the one of some context inside
  pub to_inside : (c : List Atom) → IsAdmitted c before → (m : PointValue) → IsMember m (point t c) → IsSomewhereInside ds c (λ s. AreSameNamed s (stored x m (store_at c before.store)))
  to_inside c a m is =
      let (d, there, e, adm, held) = (entered.members c a m).0 is in
      let on : ExtendsContext before x d = All-contains (ExtendsContext before x) ds d entered.outside there in
      (d, there, e, adm, on.store c e a.0 adm m held)

  -- what holds inside of the stores that are the same holds outside for some member
  pub from_inside : (R : NamedValues → Type 0) → ((s t : NamedValues) → AreSameNamed s t → R s → R t) → (c : List Atom) → IsAdmitted c before → IsSomewhereInside ds c R → (m : PointValue) × IsMember m (point t c) × R (stored x m (store_at c before.store))
  from_inside R move c a (d, there, e, adm, r) =
      let on : ExtendsContext before x d = All-contains (ExtendsContext before x) ds d entered.outside there in
      let (u, held) = (All-contains (IsLoopContext before x) ds d entered.inside there).held (c ++ e) in
      (u, (entered.members c a u).1 (d, there, e, adm, held), move (store_at (c ++ e) d.store) (stored x u (store_at c before.store)) (on.store c e a.0 adm u held) r)

  pub admitted_outside : (c : List Atom) → length c ≡ before.size → (R : NamedValues → Type 0) → IsSomewhereInside ds c R → IsAdmitted c before
  admitted_outside c l R (d, there, e, adm, r) =
      let on : ExtendsContext before x d = All-contains (ExtendsContext before x) ds d entered.outside there in
      on.outside c e l adm

  -- a failure inside, at atoms that stand as the first numbers of its sample do
  pub fails_outside : (o : Bool) (fails : Failure) → ((s t : NamedValues) (at : ℕ) (k : _) → AreSameNamed s t → fails s at k → fails t at k) →
      (f : _) → IsFaultInside o ds fails f → (c : List Atom) → AreAlike o (sampled (take before.size f.sample.items)) c →
      IsAdmitted c before × ((m : PointValue) × IsMember m (point t c) × fails (stored x m (store_at c before.store)) f.pos.offset f.kind)
  fails_outside o fails move f (d, there, fault) c alike =
      let (e, stand) = alike_longer o before.size f.sample.items c alike in
      let longer : before.size ≤ d.size = (All-contains (IsLoopContext before x) ds d entered.inside there).longer in
      let adm : IsAdmitted (c ++ e) d = fault.admitted (c ++ e) stand in
      let l : length c ≡ before.size = sym alike.count ∙ sampled_start before.size f.sample.items (omega (arith, longer, adm.0, stand.count, length-map f.sample.items whole)) in
      let there_fails : IsSomewhereInside ds c (λ s. fails s f.pos.offset f.kind) = (d, there, e, adm, fault.failure (c ++ e) stand) in
      let a = admitted_outside c l (λ s. fails s f.pos.offset f.kind) there_fails in
      (a, from_inside (λ s. fails s f.pos.offset f.kind) (λ s t h r. move s t f.pos.offset f.kind h r) c a there_fails)
