-- What is run from a side of a context is run from the context.
use Rattle.std.proofs.Common.{◌≡◌, ℕ, inl, inr, Bool, List, ◌++◌, length, take, map, Option, Some, None, IfSome, sym, ap, ◌∙◌, subst}
use Rattle.std.specs.List.{Contains}
use Rattle.lois_base.specs.Atom.{Atom}
use Rattle.lois_answers.specs.declared.faults.FaultKind.{FaultKind}
use Rattle.lois_script.specs.Tree.{CondD, StmtsD}
use Rattle.lois_meaning.specs.Expressions.{HasTruth}
use Rattle.lois_meaning.specs.Store.{NamedValues}
use Rattle.lois_meaning.specs.declared.faults.Fault.{Fault}
use Rattle.lois_context.specs.Choices.{IsAdmitted}
use Rattle.lois_context.specs.Slots.{slot_name, store_at}
use Rattle.lois_context.specs.LineValues.{line_values}
use Rattle.lois_context.specs.declared.contexts.Context.{Context}
use Rattle.lois_simplify.proofs.Members.{contains_none}
use Rattle.lois_eval.specs.WellFormed.{names_of, IsWellFormedIn, CondIsWellFormed}
use Rattle.lois_interp.specs.Decided.{listed_context, IsTrueSide}
use Rattle.lois_interp.specs.Failed.{FailsWithin}
use Rattle.lois_interp.specs.Reached.{IsReachedAt}
use Rattle.lois_interp.specs.Run.{Run}
use Rattle.lois_interp.specs.Slots.{AreKept}
use Rattle.lois_interp.specs.WellScoped.{BlockIsWellScoped, CondIsWellScoped, TurnIsWellScoped}
use Rattle.lois_interp.proofs.Compose.{kept_trans, elements_from}
use Rattle.lois_interp.proofs.Lists.{only_one}
use Rattle.lois_interp.proofs.Sequence.{kept_refl}
use Rattle.lois_interp.proofs.WellFormed.{cond_may}

-- ---- a condition and a block in one scope
pub turn_cond : (c : CondD) (body : StmtsD) (o : Bool) (names : List (List ℕ)) → TurnIsWellScoped c body o names → CondIsWellScoped c o names
turn_cond c body o names h = record { scope = h.scope; named = h.named; order = h.order; unbroken = λ rule at bad. h.unbroken rule at (inl bad); form = h.form.0 }

pub turn_block : (c : CondD) (body : StmtsD) (o : Bool) (names : List (List ℕ)) → TurnIsWellScoped c body o names → BlockIsWellScoped body o names
turn_block c body o names h = record { scope = h.scope; named = h.named; order = h.order; unbroken = λ rule at bad. h.unbroken rule at (inr bad); form = h.form.1 }

pub cond_placed : (c : CondD) (stands : Bool → List (List ℕ) → Type 0) (o : Bool) (k : Context) → (stands o (names_of k.store) → CondIsWellScoped c o (names_of k.store)) → IsWellFormedIn stands o k → IsWellFormedIn (CondIsWellFormed c) o k
cond_placed c stands o k to h = record { names = cond_may c o (names_of k.store) (to h.names); operators = h.operators }

module _ (c : CondD) (b : Bool) (k : Context) where
  pub listed_side : (o : Option Context) (y : Context) → IfSome o (IsTrueSide c b k) → Contains (listed_context o) y → IsTrueSide c b k y
  listed_side None y h there = absurd (contains_none y there)
  listed_side (Some q) y h there = subst (IsTrueSide c b k) (only_one q y there) h

  -- what stands at the context, with the condition, stands at the side
  pub side_placed : (outer inner : Bool → List (List ℕ) → Type 0) (o : Bool) (y : Context) → IsTrueSide c b k y →
      ((names : List (List ℕ)) → outer o names → CondIsWellScoped c o names) → ((names : List (List ℕ)) → outer o names → inner o names) → IsWellFormedIn outer o k → IsWellFormedIn inner o y
  side_placed outer inner o y side conds to h = record {
    names = subst (λ z. inner o (names_of z)) (sym side.like.store) (to (names_of k.store) h.names);
    operators = side.operators o (cond_placed c outer o k (conds (names_of k.store)) h);
  }

  -- what is reached from a side is reached from the context
  pub from_side : (one both : Run) (y d : Context) (x : List Atom) → IsTrueSide c b k y →
      ((s t l : NamedValues) → HasTruth c s b → one.ends s t l → both.ends s t l) → ((z : List ℕ) → one.assigns z → both.assigns z) → ((names : List (List ℕ)) → one.behind names ≡ both.behind names) →
      IsReachedAt one y d x → IsReachedAt both k d x
  from_side one both y d x side ends more behind at =
      let run : one.ends (store_at x k.store) (store_at x d.store) at.ends_there.printed = subst (λ z. one.ends (store_at x z) (store_at x d.store) at.ends_there.printed) side.like.store at.ends_there.run in
      record {
        size = at.size ∙ side.like.size;
        admitted = side.within x at.admitted;
        slots = subst (λ z. AreKept both.assigns (λ w. w ≡ x) z d.store) side.like.store
            (kept_trans one.assigns one.assigns both.assigns (λ w. w ≡ x) y.store y.store d.store more more (kept_refl one.assigns (λ w. w ≡ x) y.store) at.slots);
        named = at.named ∙ (ap (λ z. one.behind (map slot_name z)) side.like.store ∙ behind (map slot_name k.store));
        ends_there = record {
          printed = at.ends_there.printed;
          run = ends (store_at x k.store) (store_at x d.store) at.ends_there.printed (side.truth x at.admitted) run;
          lines = at.ends_there.lines ∙ ap (λ z. line_values x z ++ at.ends_there.printed) side.like.lines;
        };
      }

  -- a failure on a side is one from the context
  pub side_fails : (ordered : Bool) (one both : Run) (y : Context) (f : Fault) → IsTrueSide c b k y →
      ((s : NamedValues) (at : ℕ) (kind : FaultKind) (path : NamedValues) → HasTruth c s b → one.fails s at kind path → both.fails s at kind path) →
      ((o : Bool) → IsWellFormedIn both.stands o k → IsWellFormedIn one.stands o y) → FailsWithin ordered one y f → FailsWithin ordered both k f
  side_fails ordered one both y f side leads placed h = record {
    fails_at = λ s stand.
        let there = h.fails_at s stand in
        let a = take y.size s in
        let first : a ≡ take k.size s = ap (λ n. take n s) side.like.size in
        let own : one.fails (store_at a k.store) f.pos.offset f.kind there.path = subst (λ z. one.fails (store_at a z) f.pos.offset f.kind there.path) side.like.store there.failed in
        record {
          admitted = subst (λ z. IsAdmitted z k) first (side.within a there.admitted);
          path = there.path;
          failed = subst (λ z. both.fails (store_at z k.store) f.pos.offset f.kind there.path) first (leads (store_at a k.store) f.pos.offset f.kind there.path (side.truth a there.admitted) own);
          named = there.named;
        };
    elements = elements_from one.stands both.stands k y (length f.sample.items) f.elements placed side.widths h.elements;
  }
