-- What is run from a store.
use Rattle.std.specs.Prelude.{◌≡◌, ℕ, ◌⊎◌, Bool, true, false, List, [], ◌∷◌, ◌++◌}
use Rattle.lois_answers.specs.declared.faults.FaultKind.{FaultKind}
use Rattle.lois_answers.specs.declared.faults.FaultKind.TheVariants.{TurnLimit}
use Rattle.lois_script.specs.Tree.{CondD, StmtD, «let», StmtsD}
use Rattle.lois_script.specs.View.{stmts_of}
use Rattle.lois_meaning.specs.Expressions.{HasTruth}
use Rattle.lois_meaning.specs.Faults.{CondFails}
use Rattle.lois_meaning.specs.Runs.{Ending, BlockEnds, TurnsEnd, StmtEnds, ListEnds, StmtFails, ListFails}
use Rattle.lois_meaning.specs.Store.{NamedValues, AreSameNamed}
use Rattle.lois_interp.specs.Assigned.{StmtAssigns, ListAssigns}
use Rattle.lois_interp.specs.WellScoped.{CondIsWellScoped, StmtIsWellScoped, BlockIsWellScoped, TurnIsWellScoped}

-- How a run fails from a store: place, kind and path.
abbrev pub FailureRelation : Type 1
FailureRelation = NamedValues → ℕ → FaultKind → NamedValues → Type 0

-- How it ends and fails from one store, which names it assigns, where it may stand, and the names of the store behind it.
pub record Run : Type 1 where
  pub ends : Ending
  pub fails : FailureRelation
  pub assigns : List ℕ → Type 0
  pub stands : Bool → List (List ℕ) → Type 0
  pub behind : List (List ℕ) → List (List ℕ)

-- `let` alone adds a name
abbrev pub names_behind : StmtD → List (List ℕ) → List (List ℕ)
names_behind («let» p x e) names = names ++ x ∷ []
names_behind _ names = names

abbrev pub names_behind_all : List StmtD → List (List ℕ) → List (List ℕ)
names_behind_all [] names = names
names_behind_all (a ∷ rest) names = names_behind_all rest (names_behind a names)

abbrev pub stmt_run : StmtD → Run
stmt_run a = record { ends = StmtEnds a; fails = StmtFails a; assigns = StmtAssigns a; stands = StmtIsWellScoped a; behind = names_behind a }

-- statements one after another, whose names stay
abbrev pub list_run : List StmtD → Run
list_run l = record {
  ends = ListEnds (stmts_of l);
  fails = ListFails (stmts_of l);
  assigns = ListAssigns (stmts_of l);
  stands = BlockIsWellScoped (stmts_of l);
  behind = names_behind_all l;
}

-- a block, whose names are removed at its end
abbrev pub block_run : StmtsD → Run
block_run body = record {
  ends = BlockEnds (ListEnds body);
  fails = ListFails body;
  assigns = ListAssigns body;
  stands = BlockIsWellScoped body;
  behind = λ names. names;
}

-- a block that fails at one of its statements, behind those that have ended
abbrev pub block_run_at : List StmtD → StmtD → List StmtD → Run
block_run_at before one behind = record {
  ends = BlockEnds (ListEnds (stmts_of (before ++ one ∷ behind)));
  fails = λ s at kind path. (t lines : NamedValues) × ListEnds (stmts_of before) s t lines × StmtFails one t at kind path;
  assigns = ListAssigns (stmts_of (before ++ one ∷ behind));
  stands = BlockIsWellScoped (stmts_of (before ++ one ∷ behind));
  behind = λ names. names;
}

-- one turn: the condition is true, and the body ends
abbrev pub turn_run : CondD → StmtsD → Run
turn_run c body = record {
  ends = λ s t lines. HasTruth c s true × BlockEnds (ListEnds body) s t lines;
  fails = λ s at kind path. (CondFails c s at kind × (path ≡ [])) ⊎ (HasTruth c s true × ListFails body s at kind path);
  assigns = ListAssigns body;
  stands = TurnIsWellScoped c body;
  behind = λ names. names;
}

-- so many turns of a loop, which fails where it does in the turns after them
abbrev pub turns_run : CondD → StmtsD → ℕ → Run
turns_run c body k = record {
  ends = TurnsEnd (HasTruth c) (BlockEnds (ListEnds body)) k;
  fails = λ s at kind path. ⊥;
  assigns = ListAssigns body;
  stands = TurnIsWellScoped c body;
  behind = λ names. names;
}

-- A loop is left: the condition is false, and nothing changes. It fails where the condition does, or is true still.
abbrev pub leave_run : ℕ → CondD → Run
leave_run p c = record {
  ends = λ s t lines. HasTruth c s false × AreSameNamed t s × (lines ≡ []);
  fails = λ s at kind path. (CondFails c s at kind × (path ≡ [])) ⊎ (HasTruth c s true × (at ≡ p) × (kind ≡ TurnLimit) × (path ≡ []));
  assigns = λ x. ⊥;
  stands = CondIsWellScoped c;
  behind = λ names. names;
}
