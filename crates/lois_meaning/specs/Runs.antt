-- How statements and scripts end and fail, one store at a time.
use Rattle.std.specs.Prelude.{◌≡◌, ℕ, zero, suc, ◌<◌, ◌≤◌, Bool, true, false, List, [], ◌∷◌, ◌++◌, length, take, ◌⊎◌, Some}
use Rattle.lois_base.specs.Atom.{Atom}
use Rattle.lois_base.specs.Values.{PointValue, IsMember, IsSame, IsIn, IsDeeper}
use Rattle.lois_meaning.specs.Expressions.{Gives, HasTruth}
use Rattle.lois_meaning.specs.Faults.{IsNoSet, OperandFails, Fails, CondFails}
use Rattle.lois_meaning.specs.Kinds.{IsSet, IsSetOf}
use Rattle.lois_meaning.specs.Store.{NamedValue, named, NamedValues, looked_up, stored, AreSameNamed, opening, depth_limit, IsShallow}
use Rattle.lois_script.specs.Tree.{binding, StmtD, «let», assign, add, for, if, while, assert, print, StmtsD, no_stmts, stmt, ScriptD}
use Rattle.lois_answers.specs.declared.faults.FaultKind.{FaultKind}
use Rattle.lois_answers.specs.declared.faults.FaultKind.TheVariants.{Assertion, TurnLimit, DepthLimit}

-- new is a set of the members of the set old, and v
abbrev pub IsSetWith : PointValue → PointValue → PointValue → Type 0
IsSetWith new old v = IsSet old × IsSetOf new (λ w. IsIn w old ⊎ IsSame w v)

-- w is in what the name x holds at some end
abbrev pub IsInAtSomeEnd : PointValue → List ℕ → (NamedValues → Type 0) → Type 0
IsInAtSomeEnd w x AtEnd = (t : NamedValues) × (v : PointValue) × AtEnd t × (looked_up x t ≡ Some v) × IsIn w v

-- After a loop a variable that holds a set has its old members and those that it has at some end; each other one is as before.
abbrev pub IsGathered : PointValue → NamedValue → (NamedValues → Type 0) → Type 0
IsGathered new b AtEnd =
    (IsSet b.holds × IsSetOf new (λ w. IsIn w b.holds ⊎ IsInAtSomeEnd w b.name AtEnd)) ⊎
    ((IsSet b.holds → ⊥) × IsSame new b.holds)

-- t is the store after a loop from s whose bodies end as said
abbrev pub AreGathered : NamedValues → NamedValues → (NamedValues → Type 0) → Type 0
AreGathered [] [] AtEnd = Unit {0}
AreGathered (e ∷ t) (b ∷ s) AtEnd = (e.name ≡ b.name) × IsGathered e.holds b AtEnd × AreGathered t s AtEnd
AreGathered _ _ AtEnd = ⊥

-- A statement, a list of statements and a block relate the store before, the store after and the lines that are printed.
abbrev pub Ending : Type 1
Ending = NamedValues → NamedValues → NamedValues → Type 0

-- u is an end of a loop's body: some member of v, as x, passes the condition, and the body ends there from the store s with x
abbrev pub IsEndOf : NamedValues → (NamedValues → Bool → Type 0) → Ending → List ℕ → PointValue → NamedValues → Type 0
IsEndOf u decides body x v s =
    (m : PointValue) × (lines : NamedValues) × IsMember m v × decides (stored x m s) true × body (stored x m s) u lines

-- a block ends where its list does, and the names made in it are removed: names are only added, at the end
abbrev pub BlockEnds : Ending → Ending
BlockEnds ends s t lines = (u : NamedValues) × ends s u lines × AreSameNamed t (take (length s) u)

-- k turns of a loop: its condition is true before each, and its body ends in each
abbrev pub TurnsEnd : (NamedValues → Bool → Type 0) → Ending → ℕ → Ending
TurnsEnd decides body zero s t lines = AreSameNamed t s × (lines ≡ [])
TurnsEnd decides body (suc k) s t lines =
    (u : NamedValues) × (first more : NamedValues) × (lines ≡ first ++ more) ×
    decides s true × body s u first × TurnsEnd decides body k u t more

abbrev mutual
  -- the statement ends, from the store s, in the store t and with these lines
  pub StmtEnds : StmtD → NamedValues → NamedValues → NamedValues → Type 0
  StmtEnds («let» p x e) s t lines = (v : PointValue) × Gives e s v × AreSameNamed t (stored x v s) × (lines ≡ [])
  StmtEnds (assign p x e) s t lines = (v : PointValue) × Gives e s v × AreSameNamed t (stored x v s) × (lines ≡ [])
  StmtEnds (add e p x) s t lines =
      (old v new : PointValue) × (looked_up x s ≡ Some old) × Gives e s v × IsSetWith new old v × IsShallow new ×
      AreSameNamed t (stored x new s) × (lines ≡ [])
  StmtEnds (for (binding p x e) c body) s t lines =
      (v : PointValue) × Gives e s v × IsSet v ×
      ((m : PointValue) → IsMember m v → (b : Bool) × HasTruth c (stored x m s) b) ×
      ((m : PointValue) → IsMember m v → HasTruth c (stored x m s) true →
      (u : NamedValues) × (ls : NamedValues) × ListEnds body (stored x m s) u ls) ×
      AreGathered t s (λ u. IsEndOf u (HasTruth c) (ListEnds body) x v s) × (lines ≡ [])
  StmtEnds (if c yes_block no_block) s t lines =
      (HasTruth c s true × BlockEnds (ListEnds yes_block) s t lines) ⊎
      (HasTruth c s false × BlockEnds (ListEnds no_block) s t lines)
  StmtEnds (while p c n body) s t lines =
      (k : ℕ) × (k ≤ n) × TurnsEnd (HasTruth c) (BlockEnds (ListEnds body)) k s t lines × HasTruth c t false
  StmtEnds (assert p c) s t lines = HasTruth c s true × AreSameNamed t s × (lines ≡ [])
  StmtEnds (print p q x) s t lines =
      (v w : PointValue) × (looked_up x s ≡ Some v) × IsSame w v × AreSameNamed t s × (lines ≡ named x w ∷ [])

  -- each statement ends from the store of the one before; the lines follow each other
  pub ListEnds : StmtsD → NamedValues → NamedValues → NamedValues → Type 0
  ListEnds no_stmts s t lines = AreSameNamed t s × (lines ≡ [])
  ListEnds (stmt a rest) s t lines =
      (u : NamedValues) × (first more : NamedValues) × (lines ≡ first ++ more) × StmtEnds a s u first × ListEnds rest u t more

-- A path names the elements of the loops around a place, the outermost first.
abbrev mutual
  -- the statement fails, from the store s, with this place, kind and path
  pub StmtFails : StmtD → NamedValues → ℕ → FaultKind → NamedValues → Type 0
  StmtFails («let» p x e) s at k path = Fails e s at k × (path ≡ [])
  StmtFails (assign p x e) s at k path = Fails e s at k × (path ≡ [])
  StmtFails (add e p x) s at k path =
      (path ≡ []) ×
      (Fails e s at k ⊎
      ((at ≡ p) × (old v : PointValue) × (looked_up x s ≡ Some old) × Gives e s v × IsNoSet old k) ⊎
      ((at ≡ p) × (k ≡ DepthLimit) × (old v new : PointValue) × (looked_up x s ≡ Some old) × Gives e s v ×
      IsSetWith new old v × IsDeeper new depth_limit))
  StmtFails (for (binding p x e) c body) s at k path =
      (Fails e s at k × (path ≡ [])) ⊎
      (OperandFails IsNoSet e s at k × (path ≡ [])) ⊎
      ((v m : PointValue) × Gives e s v × IsMember m v × CondFails c (stored x m s) at k × (path ≡ named x m ∷ [])) ⊎
      ((v m : PointValue) × (inner : NamedValues) × Gives e s v × IsMember m v × HasTruth c (stored x m s) true ×
      ListFails body (stored x m s) at k inner × (path ≡ named x m ∷ inner))
  StmtFails (if c yes_block no_block) s at k path =
      (CondFails c s at k × (path ≡ [])) ⊎
      (HasTruth c s true × ListFails yes_block s at k path) ⊎
      (HasTruth c s false × ListFails no_block s at k path)
  StmtFails (while p c n body) s at k path =
      (i : ℕ) × (t ls : NamedValues) × (i ≤ n) × TurnsEnd (HasTruth c) (BlockEnds (ListEnds body)) i s t ls ×
      ((CondFails c t at k × (path ≡ [])) ⊎
      ((i < n) × HasTruth c t true × ListFails body t at k path) ⊎
      ((i ≡ n) × HasTruth c t true × (at ≡ p) × (k ≡ TurnLimit) × (path ≡ [])))
  StmtFails (assert p c) s at k path =
      (CondFails c s at k × (path ≡ [])) ⊎ (HasTruth c s false × (at ≡ p) × (k ≡ Assertion) × (path ≡ []))
  StmtFails (print p q x) s at k path = ⊥

  -- the first statement fails, or a later one after all before it have ended
  pub ListFails : StmtsD → NamedValues → ℕ → FaultKind → NamedValues → Type 0
  ListFails no_stmts s at k path = ⊥
  ListFails (stmt a rest) s at k path =
      StmtFails a s at k path ⊎
      ((u ls : NamedValues) × StmtEnds a s u ls × ListFails rest u at k path)

-- The script, run for one choice of atoms for its parameters, ends and has printed these lines.
abbrev pub ScriptEnds : ScriptD → List Atom → NamedValues → Type 0
ScriptEnds script choice lines = (t : NamedValues) × ListEnds script.body (opening script.parameters choice) t lines

-- The script, run for one choice of atoms for its parameters, fails with this place, kind and path.
abbrev pub ScriptFails : ScriptD → List Atom → ℕ → FaultKind → NamedValues → Type 0
ScriptFails script choice at k path = ListFails script.body (opening script.parameters choice) at k path
