-- The contexts before and behind a turn of a loop.
use Rattle.std.specs.Prelude.{ℕ, Bool, List, ◌++◌}
use Rattle.std.specs.List.{All, Contains}
use Rattle.lois_script.specs.Tree.{CondD, StmtsD}
use Rattle.lois_context.specs.Choices.{AdmitsContext, ContextHasBoundedWidths}
use Rattle.lois_context.specs.Counted.{AdmitAlike}
use Rattle.lois_context.specs.declared.contexts.Context.{Context}
use Rattle.lois_eval.specs.WellFormed.{IsWellFormedIn}
use Rattle.lois_interp.specs.Reached.{ComesFrom}
use Rattle.lois_interp.specs.Run.{Run, turn_run, leave_run}
use Rattle.lois_interp.specs.WellScoped.{TurnIsWellScoped}
use Rattle.lois_interp.specs.declared.turns.Turn.{Turn}

-- Of the contexts before, some have come to those that are done by one run, the others to the rest by another: each choice is
-- admitted by as many as before. They have no operator that the contexts before haven't and what stands there.
pub record Parts (leaves goes : Run) (stands : Bool → List (List ℕ) → Type 0) (before done rest : List Context) : Type 0 where
  pub choices : AdmitAlike before (done ++ rest)
  pub left : (d : Context) → Contains done d → ComesFrom leaves before d
  pub going : (d : Context) → Contains rest d → ComesFrom goes before d
  pub operators : (ordered : Bool) → All (IsWellFormedIn stands ordered) before → All (AdmitsContext ordered) (done ++ rest)
  pub widths : All ContextHasBoundedWidths before → All ContextHasBoundedWidths (done ++ rest)

-- Those that leave a loop before a turn, where the condition is false, and those behind the turn. Whatever place a loop has is
-- nothing to those that leave it.
abbrev pub IsTurn : CondD → StmtsD → List Context → Turn → Type 0
IsTurn c body before t = Parts (leave_run 0 c) (turn_run c body) (TurnIsWellScoped c body) before t.left.items t.going.items
