-- Functions that do the steps of a run by asking a decider of any type: what they have to answer, and whereto they lead.
use Rattle.std.specs.Prelude.{◌≡◌, ℕ, Bool, List, Result, IfOk, IfErr}
use Rattle.std.specs.Borrow.{Bor, MutBor}
use Rattle.std.specs.Global.{Vec}
use Rattle.std.specs.List.{All}
use Rattle.std.specs.declared.alloc.Global.{Global}
use Rattle.lois_base.specs.declared.NoMemory.{NoMemory}
use Rattle.lois_script.specs.View.{tree, cond_tree}
use Rattle.lois_script.specs.Lists.{stmt_tree}
use Rattle.lois_script.specs.declared.script.Stmt.{Stmt}
use Rattle.lois_script.specs.declared.syntax.Cond.{Cond}
use Rattle.lois_script.specs.declared.syntax.Expr.{Expr}
use Rattle.lois_meaning.specs.Faults.{CondFails}
use Rattle.lois_meaning.specs.declared.faults.Stop.{Stop}
use Rattle.lois_context.specs.Choices.{AdmitsContext}
use Rattle.lois_context.specs.Joined.{IsEnd}
use Rattle.lois_context.specs.Slots.{IsNew}
use Rattle.lois_context.specs.declared.contexts.Context.{Context}
use Rattle.lois_context.specs.declared.contexts.Split.{Split}
use Rattle.lois_eval.specs.WellFormed.{IsWellFormedIn, IsWellFormed, CondIsWellFormed}
use Rattle.lois_eval.specs.Throughout.{IfFault, IsFaultOf}
use Rattle.lois_interp.specs.Decided.{IsDecided}
use Rattle.lois_interp.specs.Elements.{SetFails}
use Rattle.lois_interp.specs.Entered.{IsEntered}
use Rattle.lois_interp.specs.Failed.{FailsWithin}
use Rattle.lois_interp.specs.Leaves.{IsLeaf}
use Rattle.lois_interp.specs.Reached.{RunsAs}
use Rattle.lois_interp.specs.Run.{stmt_run}
use Rattle.lois_interp.specs.WellScoped.{StmtIsWellScoped}
use Rattle.lois_interp.specs.Tidied.{IsBehindLoop}

-- what a call of f is given and leaves
abbrev pub EnterCalls : Type 0 → Type 0 → Type 1
EnterCalls F D =
    (f : F) (before : MutBor D) → Global → Bor Expr → Bor (List ℕ) → Bor Context → Result (Vec Context) Stop → (after : MutBor D) → Type 0

abbrev pub SidesCalls : Type 0 → Type 0 → Type 1
SidesCalls F D = (f : F) (before : MutBor D) → Global → Bor Cond → Context → Result Split Stop → (after : MutBor D) → Type 0

abbrev pub SimpleCalls : Type 0 → Type 0 → Type 1
SimpleCalls F D = (f : F) (before : MutBor D) → Global → Bor Stmt → Context → Result (Vec Context) Stop → (after : MutBor D) → Type 0

abbrev pub JoinCalls : Type 0 → Type 0 → Type 1
JoinCalls F D = (f : F) (before : MutBor D) → Global → Context → Vec Context → Result Context NoMemory → (after : MutBor D) → Type 0

-- it may be called for an expression that stands there and a new name, and answers with the contexts for its members
pub record EntersMembers {F D : Type 0} (o : Bool) (pre : F → MutBor D → Global → Bor Expr → Bor (List ℕ) → Bor Context → Type 0) (post : EnterCalls F D) : Type 0 where
  pub callable : (f : F) (d : MutBor D) (m : Global) (e : Bor Expr) (x : Bor (List ℕ)) (k : Bor Context) → IsWellFormedIn (IsWellFormed (tree e.now)) o k.now → IsNew x.now k.now.store → pre f d m e x k
  pub entered : (f : F) (d g : MutBor D) (m : Global) (e : Bor Expr) (x : Bor (List ℕ)) (k : Bor Context) (r : Result (Vec Context) Stop) → IsWellFormedIn (IsWellFormed (tree e.now)) o k.now → IsNew x.now k.now.store → post f d m e x k r g → IfOk r (λ inside. IsEntered (tree e.now) x.now k.now inside.items)
  pub fault : (f : F) (d g : MutBor D) (m : Global) (e : Bor Expr) (x : Bor (List ℕ)) (k : Bor Context) (r : Result (Vec Context) Stop) → IsWellFormedIn (IsWellFormed (tree e.now)) o k.now → IsNew x.now k.now.store → post f d m e x k r g → IfErr r (λ s. IfFault s (IsFaultOf o k.now (SetFails (tree e.now))))

-- it may be called for a condition that stands there, and answers with both sides
pub record DecidesSides {F D : Type 0} (o : Bool) (pre : F → MutBor D → Global → Bor Cond → Context → Type 0) (post : SidesCalls F D) : Type 0 where
  pub callable : (f : F) (d : MutBor D) (m : Global) (c : Bor Cond) (k : Context) → IsWellFormedIn (CondIsWellFormed (cond_tree c.now)) o k → pre f d m c k
  pub decided : (f : F) (d g : MutBor D) (m : Global) (c : Bor Cond) (k : Context) (r : Result Split Stop) → IsWellFormedIn (CondIsWellFormed (cond_tree c.now)) o k → post f d m c k r g → IfOk r (IsDecided (cond_tree c.now) k)
  pub fault : (f : F) (d g : MutBor D) (m : Global) (c : Bor Cond) (k : Context) (r : Result Split Stop) → IsWellFormedIn (CondIsWellFormed (cond_tree c.now)) o k → post f d m c k r g → IfErr r (λ s. IfFault s (IsFaultOf o k (CondFails (cond_tree c.now))))

-- it may be called for a statement that may stand there, and runs it
pub record RunsStatements {F D : Type 0} (o : Bool) (pre : F → MutBor D → Global → Bor Stmt → Context → Type 0) (post : SimpleCalls F D) : Type 0 where
  pub callable : (f : F) (d : MutBor D) (m : Global) (a : Bor Stmt) (k : Context) → IsLeaf (stmt_tree a.now) → IsWellFormedIn (StmtIsWellScoped (stmt_tree a.now)) o k → pre f d m a k
  pub runs : (f : F) (d g : MutBor D) (m : Global) (a : Bor Stmt) (k : Context) (r : Result (Vec Context) Stop) → IsLeaf (stmt_tree a.now) → IsWellFormedIn (StmtIsWellScoped (stmt_tree a.now)) o k → post f d m a k r g → IfOk r (λ ds. RunsAs (stmt_run (stmt_tree a.now)) k ds.items)
  pub fault : (f : F) (d g : MutBor D) (m : Global) (a : Bor Stmt) (k : Context) (r : Result (Vec Context) Stop) → IsLeaf (stmt_tree a.now) → IsWellFormedIn (StmtIsWellScoped (stmt_tree a.now)) o k → post f d m a k r g → IfErr r (λ s. IfFault s (FailsWithin o (stmt_run (stmt_tree a.now)) k))

-- it may be called for a context and ends of a loop from it, and answers with what stands behind the loop
pub record JoinsLoops {F D : Type 0} (o : Bool) (pre : F → MutBor D → Global → Context → Vec Context → Type 0) (post : JoinCalls F D) : Type 0 where
  pub callable : (f : F) (d : MutBor D) (m : Global) (k : Context) (ends : Vec Context) → All (IsEnd k) ends.items → AdmitsContext o k → All (AdmitsContext o) ends.items → pre f d m k ends
  pub behind : (f : F) (d g : MutBor D) (m : Global) (k : Context) (ends : Vec Context) (r : Result Context NoMemory) → All (IsEnd k) ends.items → AdmitsContext o k → All (AdmitsContext o) ends.items → post f d m k ends r g → IfOk r (IsBehindLoop k ends.items)

-- a call may leave q of p
pub record LeadsByEnter {F D : Type 0} (post : EnterCalls F D) (p q : D) : Type 0 where
  pub asked : F
  pub before : MutBor D
  pub after : MutBor D
  pub memory : Global
  pub expression : Bor Expr
  pub name : Bor (List ℕ)
  pub context : Bor Context
  pub answer : Result (Vec Context) Stop
  pub call : post asked before memory expression name context answer after
  pub from : before.now ≡ p
  pub to : after.now ≡ q

pub record LeadsBySides {F D : Type 0} (post : SidesCalls F D) (p q : D) : Type 0 where
  pub asked : F
  pub before : MutBor D
  pub after : MutBor D
  pub memory : Global
  pub condition : Bor Cond
  pub context : Context
  pub answer : Result Split Stop
  pub call : post asked before memory condition context answer after
  pub from : before.now ≡ p
  pub to : after.now ≡ q

pub record LeadsByStatement {F D : Type 0} (post : SimpleCalls F D) (p q : D) : Type 0 where
  pub asked : F
  pub before : MutBor D
  pub after : MutBor D
  pub memory : Global
  pub statement : Bor Stmt
  pub context : Context
  pub answer : Result (Vec Context) Stop
  pub call : post asked before memory statement context answer after
  pub from : before.now ≡ p
  pub to : after.now ≡ q

pub record LeadsByJoin {F D : Type 0} (post : JoinCalls F D) (p q : D) : Type 0 where
  pub asked : F
  pub before : MutBor D
  pub after : MutBor D
  pub memory : Global
  pub context : Context
  pub ends : Vec Context
  pub answer : Result Context NoMemory
  pub call : post asked before memory context ends answer after
  pub from : before.now ≡ p
  pub to : after.now ≡ q
