-- Which scripts are well scoped: the five rules, each with the places that break it.
use Rattle.std.specs.Prelude.{◌≡◌, ℕ, ◌≤◌, ◌⊎◌, Bool, true, false, List, [], ◌∷◌, ◌++◌, map, Option, Some, None, if◌then◌else◌, bytes_eq}
use Rattle.lois_script.specs.Tree.{ExprD, atoms, var, tag, tuple, listed, each, part, apply, ExprsD, no_exprs, expr, BindingD, binding, BindingsD, no_bindings, bind, CondD, truth, falsity, same, differ, below, member, included, empty, not, all, any, exists, every, CondsD, no_conds, cond, StmtD, «let», assign, add, for, if, while, assert, print, StmtsD, no_stmts, stmt, ParamD, ScriptD}

-- The rules, in the order of their numbers.
pub data RuleD : Type 0 where
  -- a used name is not in scope; the place is the name's
  unknown : RuleD
  -- a declared name is in scope already; the place is the name's
  again : RuleD
  -- `:=` names something that is no variable made inside the innermost `for` around it (outside every `for`: no variable),
  -- or `add` names a parameter, a loop's name or a binder; the place is the name's
  outer_assign : RuleD
  -- a `print` stands inside a `for`; the place is that of `print`
  print_in_loop : RuleD
  -- `<` stands in a script over atoms with equality alone; the place is that of `<`
  order_in_equality : RuleD

-- What a name in scope is: a variable made by `let` inside the innermost `for` around the place (or outside every `for`,
-- where there is none), a variable made farther out, or a parameter, a loop's name or a binder.
pub data RoleD : Type 0 where
  inner : RoleD
  outer : RoleD
  fixed : RoleD

pub record DeclaredD : Type 0 where
  pub name : List ℕ
  pub role : RoleD

-- What is in scope at a place, whether the place is inside a `for`, and whether the script has an order.
pub record ScopeD : Type 0 where
  pub names : List DeclaredD
  pub in_loop : Bool
  pub ordered : Bool

abbrev pub role_of : List ℕ → List DeclaredD → Option RoleD
role_of x [] = None
role_of x (d ∷ ds) = if (bytes_eq d.name x) then (Some d.role) else (role_of x ds)

abbrev pub declare : List ℕ → RoleD → ScopeD → ScopeD
declare x role s = record { names = s.names ++ record { name = x; role = role } ∷ []; in_loop = s.in_loop; ordered = s.ordered }

abbrev pub farther : DeclaredD → DeclaredD
farther d = record { name = d.name; role = elim d.role as (λ r. RoleD) [ inner ↦ outer | outer ↦ outer | fixed ↦ fixed ] }

-- the scope inside a `for`, before its name
abbrev pub entered : ScopeD → ScopeD
entered s = record { names = map farther s.names; in_loop = true; ordered = s.ordered }

-- A break of a rule: the rule and the place.
abbrev pub Broken : Type 1
Broken = RuleD → ℕ → Type 0

abbrev pub UseBreaks : List ℕ → ℕ → ScopeD → Broken
UseBreaks x p s rule at = (rule ≡ unknown) × (at ≡ p) × (role_of x s.names ≡ None)

abbrev pub DeclarationBreaks : List ℕ → ℕ → ScopeD → Broken
DeclarationBreaks x p s rule at = (rule ≡ again) × (at ≡ p) × (role : RoleD) × (role_of x s.names ≡ Some role)

abbrev pub AssignBreaks : List ℕ → ℕ → ScopeD → Broken
AssignBreaks x p s rule at =
    UseBreaks x p s rule at ⊎
    ((rule ≡ outer_assign) × (at ≡ p) × (role : RoleD) × (role_of x s.names ≡ Some role) × (role ≡ inner → ⊥))

abbrev pub AddBreaks : List ℕ → ℕ → ScopeD → Broken
AddBreaks x p s rule at =
    UseBreaks x p s rule at ⊎ ((rule ≡ outer_assign) × (at ≡ p) × (role_of x s.names ≡ Some fixed))

-- with the names of the binders
abbrev pub with_binder : BindingD → ScopeD → ScopeD
with_binder (binding p x e) s = declare x fixed s

abbrev pub bound : BindingsD → ScopeD → ScopeD
bound no_bindings s = s
bound (bind b bs) s = bound bs (with_binder b s)

abbrev mutual
  pub ExprBreaks : ExprD → ScopeD → Broken
  ExprBreaks (atoms p) s rule at = ⊥
  ExprBreaks (var p x) s rule at = UseBreaks x p s rule at
  ExprBreaks (tag p x) s rule at = ⊥
  ExprBreaks (tuple p es) s rule at = ExprsBreak es s rule at
  ExprBreaks (listed p es) s rule at = ExprsBreak es s rule at
  ExprBreaks (each p e bs c) s rule at =
      BindingsBreak bs s rule at ⊎ ExprBreaks e (bound bs s) rule at ⊎ CondBreaks c (bound bs s) rule at
  ExprBreaks (part p e n) s rule at = ExprBreaks e s rule at
  ExprBreaks (apply p op es) s rule at = ExprsBreak es s rule at

  pub ExprsBreak : ExprsD → ScopeD → Broken
  ExprsBreak no_exprs s rule at = ⊥
  ExprsBreak (expr e es) s rule at = ExprBreaks e s rule at ⊎ ExprsBreak es s rule at

  -- a binder is in scope behind its own set: at the names and in the sets of the binders after it
  pub BindingsBreak : BindingsD → ScopeD → Broken
  BindingsBreak no_bindings s rule at = ⊥
  BindingsBreak (bind b bs) s rule at = BindingBreaks b s rule at ⊎ BindingsBreak bs (with_binder b s) rule at

  pub BindingBreaks : BindingD → ScopeD → Broken
  BindingBreaks (binding p x e) s rule at = DeclarationBreaks x p s rule at ⊎ ExprBreaks e s rule at

  pub CondBreaks : CondD → ScopeD → Broken
  CondBreaks truth s rule at = ⊥
  CondBreaks falsity s rule at = ⊥
  CondBreaks (same e f) s rule at = ExprBreaks e s rule at ⊎ ExprBreaks f s rule at
  CondBreaks (differ e f) s rule at = ExprBreaks e s rule at ⊎ ExprBreaks f s rule at
  CondBreaks (below p e f) s rule at =
      ExprBreaks e s rule at ⊎ ((rule ≡ order_in_equality) × (at ≡ p) × (s.ordered ≡ false)) ⊎ ExprBreaks f s rule at
  CondBreaks (member e f) s rule at = ExprBreaks e s rule at ⊎ ExprBreaks f s rule at
  CondBreaks (included e f) s rule at = ExprBreaks e s rule at ⊎ ExprBreaks f s rule at
  CondBreaks (empty e) s rule at = ExprBreaks e s rule at
  CondBreaks (not c) s rule at = CondBreaks c s rule at
  CondBreaks (all cs) s rule at = CondsBreak cs s rule at
  CondBreaks (any cs) s rule at = CondsBreak cs s rule at
  CondBreaks (exists b c) s rule at = BindingBreaks b s rule at ⊎ CondBreaks c (with_binder b s) rule at
  CondBreaks (every b c) s rule at = BindingBreaks b s rule at ⊎ CondBreaks c (with_binder b s) rule at

  pub CondsBreak : CondsD → ScopeD → Broken
  CondsBreak no_conds s rule at = ⊥
  CondsBreak (cond c cs) s rule at = CondBreaks c s rule at ⊎ CondsBreak cs s rule at

-- what is in scope behind a statement: `let` alone adds a name
abbrev pub scope_behind : StmtD → ScopeD → ScopeD
scope_behind («let» p x e) s = declare x inner s
scope_behind _ s = s

abbrev mutual
  pub StmtBreaks : StmtD → ScopeD → Broken
  StmtBreaks («let» p x e) s rule at = DeclarationBreaks x p s rule at ⊎ ExprBreaks e s rule at
  StmtBreaks (assign p x e) s rule at = AssignBreaks x p s rule at ⊎ ExprBreaks e s rule at
  StmtBreaks (add e p x) s rule at = ExprBreaks e s rule at ⊎ AddBreaks x p s rule at
  StmtBreaks (for b c body) s rule at =
      BindingBreaks b s rule at ⊎ CondBreaks c (with_binder b (entered s)) rule at ⊎ StmtsBreak body (with_binder b (entered s)) rule at
  StmtBreaks ((if) c yes_block no_block) s rule at =
      CondBreaks c s rule at ⊎ StmtsBreak yes_block s rule at ⊎ StmtsBreak no_block s rule at
  StmtBreaks (while p c n body) s rule at = CondBreaks c s rule at ⊎ StmtsBreak body s rule at
  StmtBreaks (assert p c) s rule at = CondBreaks c s rule at
  StmtBreaks (print p q x) s rule at = ((rule ≡ print_in_loop) × (at ≡ p) × (s.in_loop ≡ true)) ⊎ UseBreaks x q s rule at

  pub StmtsBreak : StmtsD → ScopeD → Broken
  StmtsBreak no_stmts s rule at = ⊥
  StmtsBreak (stmt a rest) s rule at = StmtBreaks a s rule at ⊎ StmtsBreak rest (scope_behind a s) rule at

-- each parameter is in scope at the names of those after it and in the body
abbrev pub ParametersBreak : List ParamD → ScopeD → Broken
ParametersBreak [] s rule at = ⊥
ParametersBreak (x ∷ xs) s rule at = DeclarationBreaks x.name x.place s rule at ⊎ ParametersBreak xs (declare x.name fixed s) rule at

abbrev pub opening_scope : Bool → ScopeD
opening_scope ordered = record { names = []; in_loop = false; ordered = ordered }

abbrev pub with_parameters : List ParamD → ScopeD → ScopeD
with_parameters [] s = s
with_parameters (x ∷ xs) s = with_parameters xs (declare x.name fixed s)

abbrev pub ScriptBreaks : ScriptD → Broken
ScriptBreaks script rule at =
    ParametersBreak script.parameters (opening_scope script.ordered) rule at ⊎
    StmtsBreak script.body (with_parameters script.parameters (opening_scope script.ordered)) rule at

abbrev pub IsWellScoped : ScriptD → Type 0
IsWellScoped script = (rule : RuleD) (at : ℕ) → ScriptBreaks script rule at → ⊥

abbrev pub rule_number : RuleD → ℕ
rule_number unknown = 1
rule_number again = 2
rule_number outer_assign = 3
rule_number print_in_loop = 4
rule_number order_in_equality = 5

-- The rule is broken at the place, no rule is broken at an earlier place, and none of a lower number at the same one.
pub record BreaksFirst (script : ScriptD) (rule : RuleD) (at : ℕ) : Type 0 where
  pub broken : ScriptBreaks script rule at
  pub earliest : (other : RuleD) (before : ℕ) → ScriptBreaks script other before → at ≤ before
  pub lowest : (other : RuleD) → ScriptBreaks script other at → rule_number rule ≤ rule_number other
