-- Both sides of a condition.
use Rattle.std.proofs.Common.{ℕ, inl, inr, Bool, true, false, List, [], ◌++◌, Option, Some, None, IfSome, refl, arith}
use Rattle.std.specs.List.{All}
use Rattle.std.proofs.lemmas.List.Elements.{Contains-append_cases, Contains-push, All-append, All-nil}
use Rattle.lois_base.proofs.Lists.{all_one}
use Rattle.lois_script.specs.Tree.{CondD, StmtsD, if}
use Rattle.lois_meaning.specs.Faults.{CondFails}
use Rattle.lois_meaning.specs.declared.faults.Fault.{Fault}
use Rattle.lois_context.specs.Choices.{AdmitsContext, ContextHasBoundedWidths}
use Rattle.lois_context.specs.declared.contexts.Context.{Context}
use Rattle.lois_context.specs.declared.contexts.Split.{Split}
use Rattle.lois_context.proofs.Counts.{times_append}
use Rattle.lois_eval.specs.WellFormed.{names_of, IsWellFormedIn, CondIsWellFormed}
use Rattle.lois_eval.specs.Throughout.{IsFaultOf}
use Rattle.lois_interp.specs.Decided.{listed_context, IsTrueSide, IsDecided}
use Rattle.lois_interp.specs.Failed.{FailsWithin, FailsFrom}
use Rattle.lois_interp.specs.Reached.{RunsFrom, RunsAs}
use Rattle.lois_interp.specs.Run.{stmt_run, block_run}
use Rattle.lois_interp.specs.WellScoped.{CondIsWellScoped, StmtIsWellScoped, BlockIsWellScoped}
use Rattle.lois_interp.proofs.ForFails.{bare_within}
use Rattle.lois_interp.proofs.Lists.{of_one}
use Rattle.lois_interp.proofs.Parted.{cond_placed, listed_side, side_placed, from_side, side_fails}

-- what is true of each side that there is
pub all_sides : (P : Context → Type 0) (o : Option Context) → IfSome o P → All P (listed_context o)
all_sides P None h = All-nil P
all_sides P (Some y) h = all_one P y h

pub some_side : (P Q : Context → Type 0) (o : Option Context) → ((y : Context) → P y → Q y) → IfSome o P → IfSome o Q
some_side P Q None to h = tt
some_side P Q (Some y) to h = to y h

module _ (c : CondD) (first second : StmtsD) where
  if_cond : (o : Bool) (names : List (List ℕ)) → StmtIsWellScoped ((if) c first second) o names → CondIsWellScoped c o names
  if_cond o names h = record { scope = h.scope; named = h.named; order = h.order; unbroken = λ rule at bad. h.unbroken rule at (inl bad); form = h.form.0 }

  if_first : (o : Bool) (names : List (List ℕ)) → StmtIsWellScoped ((if) c first second) o names → BlockIsWellScoped first o names
  if_first o names h = record { scope = h.scope; named = h.named; order = h.order; unbroken = λ rule at bad. h.unbroken rule at (inr (inl bad)); form = h.form.1 }

  if_second : (o : Bool) (names : List (List ℕ)) → StmtIsWellScoped ((if) c first second) o names → BlockIsWellScoped second o names
  if_second o names h = record { scope = h.scope; named = h.named; order = h.order; unbroken = λ rule at bad. h.unbroken rule at (inr (inr bad)); form = h.form.2 }

  module _ (k : Context) where
    pub if_placed : (o : Bool) → IsWellFormedIn (StmtIsWellScoped ((if) c first second)) o k → IsWellFormedIn (CondIsWellFormed c) o k
    if_placed o h = cond_placed c (StmtIsWellScoped ((if) c first second)) o k (if_cond o (names_of k.store)) h

    yes_placed : (o : Bool) (y : Context) → IsWellFormedIn (StmtIsWellScoped ((if) c first second)) o k → IsTrueSide c true k y → IsWellFormedIn (BlockIsWellScoped first) o y
    yes_placed o y h side = side_placed c true k (StmtIsWellScoped ((if) c first second)) (BlockIsWellScoped first) o y side (if_cond o) (if_first o) h

    no_placed : (o : Bool) (y : Context) → IsWellFormedIn (StmtIsWellScoped ((if) c first second)) o k → IsTrueSide c false k y → IsWellFormedIn (BlockIsWellScoped second) o y
    no_placed o y h side = side_placed c false k (StmtIsWellScoped ((if) c first second)) (BlockIsWellScoped second) o y side (if_cond o) (if_second o) h

    pub if_may_yes : (o : Bool) (side : Option Context) → IsWellFormedIn (StmtIsWellScoped ((if) c first second)) o k → IfSome side (IsTrueSide c true k) → IfSome side (IsWellFormedIn (BlockIsWellScoped first) o)
    if_may_yes o side h s = some_side (IsTrueSide c true k) (IsWellFormedIn (BlockIsWellScoped first) o) side (λ y. yes_placed o y h) s

    pub if_may_no : (o : Bool) (side : Option Context) → IsWellFormedIn (StmtIsWellScoped ((if) c first second)) o k → IfSome side (IsTrueSide c false k) → IfSome side (IsWellFormedIn (BlockIsWellScoped second) o)
    if_may_no o side h s = some_side (IsTrueSide c false k) (IsWellFormedIn (BlockIsWellScoped second) o) side (λ y. no_placed o y h) s

    pub if_runs : (s : Split) (es fs : List Context) → IsDecided c k s → RunsFrom (block_run first) (listed_context s.yes) es → RunsFrom (block_run second) (listed_context s.no) fs → RunsAs (stmt_run ((if) c first second)) k (es ++ fs)
    if_runs s es fs decided h q = record {
      choices = λ x. omega (arith, times_append x es fs, h.choices x, q.choices x, times_append x (listed_context s.yes) (listed_context s.no), decided.choices x);
      reached = λ d there x adm. (
        k,
        Contains-push [] k,
        elim (Contains-append_cases es fs d there) [
          | inl p ↦ let r = h.reached d p x adm in
              from_side c true k (block_run first) (stmt_run ((if) c first second)) r.0 d x (listed_side c true k s.yes r.0 decided.yes r.1) (λ a t l truth e. inl (truth, e)) (λ z w. inl w) (λ names. refl) r.2
          | inr p ↦ let r = q.reached d p x adm in
              from_side c false k (block_run second) (stmt_run ((if) c first second)) r.0 d x (listed_side c false k s.no r.0 decided.no r.1) (λ a t l truth e. inr (truth, e)) (λ z w. inr w) (λ names. refl) r.2
        ],
      );
      operators = λ o placed.
          let own = of_one (IsWellFormedIn (StmtIsWellScoped ((if) c first second)) o) k placed in
          All-append (AdmitsContext o) es fs
          (h.operators o (all_sides (IsWellFormedIn (BlockIsWellScoped first) o) s.yes (if_may_yes o s.yes own decided.yes)))
          (q.operators o (all_sides (IsWellFormedIn (BlockIsWellScoped second) o) s.no (if_may_no o s.no own decided.no)));
      widths = λ w.
          let own = of_one ContextHasBoundedWidths k w in
          All-append ContextHasBoundedWidths es fs
          (h.widths (all_sides ContextHasBoundedWidths s.yes (some_side (IsTrueSide c true k) ContextHasBoundedWidths s.yes (λ y side. side.widths own) decided.yes)))
          (q.widths (all_sides ContextHasBoundedWidths s.no (some_side (IsTrueSide c false k) ContextHasBoundedWidths s.no (λ y side. side.widths own) decided.no)));
    }

    pub if_cond_fails : (ordered : Bool) (f : Fault) → IsFaultOf ordered k (CondFails c) f → FailsWithin ordered (stmt_run ((if) c first second)) k f
    if_cond_fails ordered f h = bare_within ordered (CondFails c) (stmt_run ((if) c first second)) k f (λ s at kind bad. inl (bad, refl)) h

    pub if_yes_fails : (ordered : Bool) (s : Split) (f : Fault) → IsDecided c k s → FailsFrom ordered (block_run first) (listed_context s.yes) f → FailsWithin ordered (stmt_run ((if) c first second)) k f
    if_yes_fails ordered s f decided (y, there, h) =
        let side = listed_side c true k s.yes y decided.yes there in
        side_fails c true k ordered (block_run first) (stmt_run ((if) c first second)) y f side (λ a at kind path truth bad. inr (inl (truth, bad))) (λ o p. yes_placed o y p side) h

    pub if_no_fails : (ordered : Bool) (s : Split) (f : Fault) → IsDecided c k s → FailsFrom ordered (block_run second) (listed_context s.no) f → FailsWithin ordered (stmt_run ((if) c first second)) k f
    if_no_fails ordered s f decided (y, there, h) =
        let side = listed_side c false k s.no y decided.no there in
        side_fails c false k ordered (block_run second) (stmt_run ((if) c first second)) y f side (λ a at kind path truth bad. inr (inr (truth, bad))) (λ o p. no_placed o y p side) h
