use Rattle.std.proofs.Common.{bytes_eq, sym, subst, ◌∙◌, rules}
use Rattle.std.specs.List.{IsDistinct}
use Rattle.lois_base.specs.Truth.{sampled}
use Rattle.lois_base.specs.Validity.{AdmitsTerm, HasBoundedWidths}
use Rattle.lois_interp.specs.Tidied.{AreCounted, AreTidied}
use Rattle.lois_interp.proofs.ForRuns.{tidied_names}
use Rattle.lois_eval.proofs.FaultsAt.{own_sample}
use Rattle.lois_interp.proofs.Longer.{joined_longer}
use Rattle.lois_interp.proofs.Tidying.{joined_counted, tidied_slots, tidied_have}
use Rattle.lois_interp.proofs.joining.behind_loop.Goals as goal

pub tidied_store-requires-clause-counted : goal.tidied_store-requires-clause-counted
tidied_store-requires-clause-counted g c =
    let k = c.args.before in let j = c.in_ok-joined.joined in
    subst (λ z. AreCounted z j.store) (sym (c.deref.ensures.value ∙ c.in_ok-counts.ensures)) (joined_counted k.size k.store j.store k.slots (joined_longer k.size c.args.ends.items k.store j.store c.in_ok-joined.ensures.joined))

pub tidied_store-requires-clause-met : goal.tidied_store-requires-clause-met
tidied_store-requires-clause-met g c = let j = c.in_ok-joined.joined in let own = own_sample j in (sampled j.sample, own.0, own.1)

pub tidied_store-requires-clause-operators : goal.tidied_store-requires-clause-operators
tidied_store-requires-clause-operators g c = (c.in_ok-joined.ensures.operators g.T.Structure.ordered c.requires.operators c.requires.end_operators).store

pub tidied_store-requires-clause-when : goal.tidied_store-requires-clause-when
tidied_store-requires-clause-when g c =
    record {
      levels = search rules;
      operators = (c.in_ok-joined.ensures.operators g.T.Structure.ordered c.requires.operators c.requires.end_operators).«when»;
    }

pub invariant_of-result-clause-slots : goal.invariant_of-result-clause-slots
invariant_of-result-clause-slots g c =
    let k = c.args.before in let j = c.in_ok-joined.joined in
    let counted = subst (λ z. AreCounted z j.store) (sym (c.deref.ensures.value ∙ c.in_ok-counts.ensures)) (joined_counted k.size k.store j.store k.slots (joined_longer k.size c.args.ends.items k.store j.store c.in_ok-joined.ensures.joined)) in
    tidied_slots j.size j.«when» c.deref.result.now j.store c.in_ok-store.store counted c.in_ok-store.ensures.tidied

pub invariant_of-result-clause-names : goal.invariant_of-result-clause-names
invariant_of-result-clause-names g c =
    let j = c.in_ok-joined.joined in
    subst (λ z. IsDistinct bytes_eq z) (sym (tidied_names j.size j.«when» c.deref.result.now j.store c.in_ok-store.store c.in_ok-store.ensures.tidied)) j.names

pub returns-clause-behind : goal.returns-clause-behind
returns-clause-behind g c =
    let k = c.args.before in let j = c.in_ok-joined.joined in let E = c.in_ok-joined.ensures in
    let s = c.in_ok-store.store in
    let T = c.in_ok-store.ensures.tidied in
    let counts = c.deref.ensures.value ∙ c.in_ok-counts.ensures in
    let here = subst (λ z. AreTidied z j.«when» c.deref.result.now j.store s) E.size T in
    let there = subst (λ z. AreTidied k.size z c.deref.result.now j.store s) E.«when» here in
    record {
      store = j.store;
      size = E.size;
      «when» = E.«when»;
      lines = E.lines;
      joined = E.joined;
      members = E.members;
      tidied = subst (λ z. AreTidied k.size k.«when» z j.store s) counts there;
      operators = λ o p q. let own = E.operators o p q in record {
        «when» = own.«when»;
        store = tidied_have (AdmitsTerm o) j.size j.«when» c.deref.result.now j.store s (λ i a b h. h.operators o) T own.store;
        lines = own.lines;
      };
      widths = λ p q. let own = E.widths p q in record {
        store = tidied_have HasBoundedWidths j.size j.«when» c.deref.result.now j.store s (λ i a b h. h.widths) T own.store;
        lines = own.lines;
      };
    }
