-- Walks over lists of expressions, conditions, bindings and statements.
use Rattle.std.proofs.Common.{◌≡◌, ℕ, ◌+◌, ◌≤◌, ◌<◌, List, [], ◌∷◌, map, length, get_or, refl}
use Rattle.lois_script.specs.Scope.{ScopeD, declare, fixed, with_parameters, DeclarationBreaks, ParametersBreak, with_binder, bound, scope_behind, ExprBreaks, ExprsBreak, BindingBreaks, BindingsBreak, CondBreaks, CondsBreak, StmtBreaks, StmtsBreak}
use Rattle.lois_script.specs.Tree.{ExprD, BindingD, CondD, StmtD, ParamD}
use Rattle.lois_script.specs.View.{tree, exprs_of, binding_tree, bindings_of, cond_tree, conds_of, stmts_of, param_tree}
use Rattle.lois_script.specs.Lists.{stmt_tree}
use Rattle.lois_script.specs.declared.syntax.Expr.{Expr}
use Rattle.lois_script.specs.declared.syntax.Cond.{Cond}
use Rattle.lois_script.specs.declared.syntax.Binding.{Binding}
use Rattle.lois_script.specs.declared.script.Param.{Param}
use Rattle.lois_script.specs.declared.script.Stmt.{Stmt}
use Rattle.lois_scope.specs.Walks.{SeenD, Walks, AdvancesScope}
use Rattle.lois_scope.proofs.Alike.{Part, alike_bound, alike_behind, bindings_steady, stmts_steady, alike_parameters, parameters_steady}
use Rattle.lois_scope.proofs.Walked.{LeadsOn, WalksOn, KeepsAlike, walks_on, walks_to_end, leads_on, leads_to_end}

abbrev pub expressions_break : List ExprD → Part
expressions_break es = ExprsBreak (exprs_of es)

abbrev pub conditions_break : List CondD → Part
conditions_break cs = CondsBreak (conds_of cs)

abbrev pub bindings_break : List BindingD → Part
bindings_break bs = BindingsBreak (bindings_of bs)

abbrev pub bound_by : List BindingD → ScopeD → ScopeD
bound_by bs = bound (bindings_of bs)

abbrev pub statements_break : List StmtD → Part
statements_break l = StmtsBreak (stmts_of l)

abbrev pub behind_all : List StmtD → ScopeD → ScopeD
behind_all [] s = s
behind_all (a ∷ l) s = behind_all l (scope_behind a s)

pub expressions_on : (items : List Expr) (i : ℕ) (x : Expr) (first now next : SeenD) → i < length items → x ≡ get_or items i x
    → Walks (ExprBreaks (tree x)) now next → WalksOn tree expressions_break items i first now → WalksOn tree expressions_break items (i + 1) first next
expressions_on = walks_on tree ExprBreaks expressions_break refl (λ x xs. refl)

pub expressions_end : (items : List Expr) (i : ℕ) (first now : SeenD) → length items ≤ i → WalksOn tree expressions_break items i first now → Walks (expressions_break (map tree items)) first now
expressions_end = walks_to_end tree ExprBreaks expressions_break refl (λ x xs. refl)

pub conditions_on : (items : List Cond) (i : ℕ) (x : Cond) (first now next : SeenD) → i < length items → x ≡ get_or items i x
    → Walks (CondBreaks (cond_tree x)) now next → WalksOn cond_tree conditions_break items i first now → WalksOn cond_tree conditions_break items (i + 1) first next
conditions_on = walks_on cond_tree CondBreaks conditions_break refl (λ x xs. refl)

pub conditions_end : (items : List Cond) (i : ℕ) (first now : SeenD) → length items ≤ i → WalksOn cond_tree conditions_break items i first now → Walks (conditions_break (map cond_tree items)) first now
conditions_end = walks_to_end cond_tree CondBreaks conditions_break refl (λ x xs. refl)

pub bindings_on : (items : List Binding) (i : ℕ) (x : Binding) (first now next : SeenD) → i < length items → x ≡ get_or items i x
    → AdvancesScope (BindingBreaks (binding_tree x)) (with_binder (binding_tree x)) now next → LeadsOn binding_tree bindings_break bound_by items i first now → LeadsOn binding_tree bindings_break bound_by items (i + 1) first next
bindings_on = leads_on binding_tree BindingBreaks with_binder bindings_break bound_by refl (λ x xs. refl) refl (λ x xs. refl) (λ xs. bindings_steady (bindings_of xs)) (λ xs. alike_bound (bindings_of xs))

pub bindings_end : (items : List Binding) (i : ℕ) (first now : SeenD) → length items ≤ i → LeadsOn binding_tree bindings_break bound_by items i first now
    → AdvancesScope (bindings_break (map binding_tree items)) (bound_by (map binding_tree items)) first now
bindings_end = leads_to_end binding_tree BindingBreaks with_binder bindings_break bound_by refl (λ x xs. refl) refl (λ x xs. refl) (λ xs. bindings_steady (bindings_of xs)) (λ xs. alike_bound (bindings_of xs))

alike_behind_all : (l : List StmtD) → KeepsAlike (behind_all l)
alike_behind_all [] s t h = h
alike_behind_all (a ∷ l) s t h = alike_behind_all l (scope_behind a s) (scope_behind a t) (alike_behind a s t h)

pub statements_on : (items : List Stmt) (i : ℕ) (x : Stmt) (first now next : SeenD) → i < length items → x ≡ get_or items i x
    → AdvancesScope (StmtBreaks (stmt_tree x)) (scope_behind (stmt_tree x)) now next → LeadsOn stmt_tree statements_break behind_all items i first now → LeadsOn stmt_tree statements_break behind_all items (i + 1) first next
statements_on = leads_on stmt_tree StmtBreaks scope_behind statements_break behind_all refl (λ x xs. refl) refl (λ x xs. refl) (λ xs. stmts_steady (stmts_of xs)) alike_behind_all

pub statements_end : (items : List Stmt) (i : ℕ) (first now : SeenD) → length items ≤ i → LeadsOn stmt_tree statements_break behind_all items i first now
    → AdvancesScope (statements_break (map stmt_tree items)) (behind_all (map stmt_tree items)) first now
statements_end = leads_to_end stmt_tree StmtBreaks scope_behind statements_break behind_all refl (λ x xs. refl) refl (λ x xs. refl) (λ xs. stmts_steady (stmts_of xs)) alike_behind_all

abbrev pub parameter_breaks : ParamD → Part
parameter_breaks p = DeclarationBreaks p.name p.place

abbrev pub with_parameter : ParamD → ScopeD → ScopeD
with_parameter p = declare p.name fixed

pub parameters_on : (items : List Param) (i : ℕ) (x : Param) (first now next : SeenD) → i < length items → x ≡ get_or items i x
    → AdvancesScope (parameter_breaks (param_tree x)) (with_parameter (param_tree x)) now next → LeadsOn param_tree ParametersBreak with_parameters items i first now → LeadsOn param_tree ParametersBreak with_parameters items (i + 1) first next
parameters_on = leads_on param_tree parameter_breaks with_parameter ParametersBreak with_parameters refl (λ x xs. refl) refl (λ x xs. refl) parameters_steady alike_parameters

pub parameters_end : (items : List Param) (i : ℕ) (first now : SeenD) → length items ≤ i → LeadsOn param_tree ParametersBreak with_parameters items i first now
    → AdvancesScope (ParametersBreak (map param_tree items)) (with_parameters (map param_tree items)) first now
parameters_end = leads_to_end param_tree parameter_breaks with_parameter ParametersBreak with_parameters refl (λ x xs. refl) refl (λ x xs. refl) parameters_steady alike_parameters
