-- What doesn't change when places are set to 0.
use Rattle.std.proofs.Common.{◌≡◌, ℕ, suc, ◌≤◌, refl, ap, sym, ◌∙◌, subst}
use Rattle.lois_script.specs.declared.syntax.Operation.{Operation}
use Rattle.lois_script.specs.declared.syntax.Operation.TheVariants.{Union, Inter, Minus, Flatten, Reach, Product, Complement, Minimise}
use Rattle.lois_script.specs.Tree.{ExprD, atoms, var, tag, tuple, listed, each, part, apply, ExprsD, no_exprs, expr, BindingD, binding, BindingsD, no_bindings, bind, CondD, truth, falsity, same, differ, below, member, included, empty, not, all, any, exists, every, CondsD, no_conds, cond, StmtD, «let», assign, add, for, if, while, assert, print, StmtsD, no_stmts, stmt}
use Rattle.lois_script.specs.Grammar.{IsWide, AreMany, HasArity, is_base, is_unit, is_conjunction}
use Rattle.lois_script.specs.Limits.{width, IsNarrow, AreNarrow, BindingIsNarrow, BindingsAreNarrow, CondIsNarrow, CondsAreNarrow, StmtIsWithin, StmtsAreWithin}
use Rattle.lois_script_printer.specs.Unplaced.{unplaced_expr, unplaced_exprs, unplaced_binding, unplaced_bindings, unplaced_cond, unplaced_conds, unplaced_stmt, unplaced_stmts}

-- a fact moves along an equality of facts
pub moved : {A B : Type 0} → A ≡ B → A → B
moved {A} {B} e h = let P : Type 0 → Type 0 = λ X. X in subst P e h

-- between trees that are the same with positions left aside
pub carried : {X : Type 0} (P : X → Type 0) (un : X → X) → ((x : X) → P (un x) ≡ P x) → (x y : X) → un y ≡ un x → P x → P y
carried P un same_fact x y e h = moved (sym (same_fact x) ∙ ap P (sym e) ∙ same_fact y) h

pub wide_un : (es : ExprsD) → IsWide (unplaced_exprs es) ≡ IsWide es
wide_un no_exprs = refl
wide_un (expr e no_exprs) = refl
wide_un (expr e (expr f rest)) = refl

pub many_un : (cs : CondsD) → AreMany (unplaced_conds cs) ≡ AreMany cs
many_un no_conds = refl
many_un (cond c no_conds) = refl
many_un (cond c (cond d rest)) = refl

pub arity_un : (op : Operation) (es : ExprsD) → HasArity op (unplaced_exprs es) ≡ HasArity op es
arity_un Union no_exprs = refl
arity_un Union (expr e no_exprs) = refl
arity_un Union (expr e (expr f no_exprs)) = refl
arity_un Union (expr e (expr f (expr g rest))) = refl
arity_un Inter no_exprs = refl
arity_un Inter (expr e no_exprs) = refl
arity_un Inter (expr e (expr f no_exprs)) = refl
arity_un Inter (expr e (expr f (expr g rest))) = refl
arity_un Minus no_exprs = refl
arity_un Minus (expr e no_exprs) = refl
arity_un Minus (expr e (expr f no_exprs)) = refl
arity_un Minus (expr e (expr f (expr g rest))) = refl
arity_un Flatten no_exprs = refl
arity_un Flatten (expr e no_exprs) = refl
arity_un Flatten (expr e (expr f no_exprs)) = refl
arity_un Flatten (expr e (expr f (expr g rest))) = refl
arity_un Reach no_exprs = refl
arity_un Reach (expr e no_exprs) = refl
arity_un Reach (expr e (expr f no_exprs)) = refl
arity_un Reach (expr e (expr f (expr g rest))) = refl
arity_un Product no_exprs = refl
arity_un Product (expr e no_exprs) = refl
arity_un Product (expr e (expr f no_exprs)) = refl
arity_un Product (expr e (expr f (expr g rest))) = refl
arity_un Complement no_exprs = refl
arity_un Complement (expr e no_exprs) = refl
arity_un Complement (expr e (expr f no_exprs)) = refl
arity_un Complement (expr e (expr f (expr g rest))) = refl
arity_un Minimise no_exprs = refl
arity_un Minimise (expr e no_exprs) = refl
arity_un Minimise (expr e (expr f no_exprs)) = refl
arity_un Minimise (expr e (expr f (expr g rest))) = refl

pub is_base_un : (c : CondD) → is_base (unplaced_cond c) ≡ is_base c
is_base_un truth = refl
is_base_un falsity = refl
is_base_un (same e f) = refl
is_base_un (differ e f) = refl
is_base_un (below p e f) = refl
is_base_un (member e f) = refl
is_base_un (included e f) = refl
is_base_un (empty e) = refl
is_base_un (not c) = refl
is_base_un (all cs) = refl
is_base_un (any cs) = refl
is_base_un (exists b c) = refl
is_base_un (every b c) = refl

pub is_unit_un : (c : CondD) → is_unit (unplaced_cond c) ≡ is_unit c
is_unit_un truth = refl
is_unit_un falsity = refl
is_unit_un (same e f) = refl
is_unit_un (differ e f) = refl
is_unit_un (below p e f) = refl
is_unit_un (member e f) = refl
is_unit_un (included e f) = refl
is_unit_un (empty e) = refl
is_unit_un (not c) = refl
is_unit_un (all cs) = refl
is_unit_un (any cs) = refl
is_unit_un (exists b c) = refl
is_unit_un (every b c) = refl

pub is_conjunction_un : (c : CondD) → is_conjunction (unplaced_cond c) ≡ is_conjunction c
is_conjunction_un truth = refl
is_conjunction_un falsity = refl
is_conjunction_un (same e f) = refl
is_conjunction_un (differ e f) = refl
is_conjunction_un (below p e f) = refl
is_conjunction_un (member e f) = refl
is_conjunction_un (included e f) = refl
is_conjunction_un (empty e) = refl
is_conjunction_un (not c) = refl
is_conjunction_un (all cs) = refl
is_conjunction_un (any cs) = refl
is_conjunction_un (exists b c) = refl
is_conjunction_un (every b c) = refl

width_un : (es : ExprsD) → width (unplaced_exprs es) ≡ width es
width_un no_exprs = refl
width_un (expr e rest) = ap suc (width_un rest)

both_same : {A B C D : Type 0} → A ≡ B → C ≡ D → (A × C) ≡ (B × D)
both_same p q = λ i. p i × q i

three_same : {A B C D E F : Type 0} → A ≡ B → C ≡ D → E ≡ F → (A × C × E) ≡ (B × D × F)
three_same p q r = λ i. p i × q i × r i

at_most_same : (k : ℕ) {m n : ℕ} → m ≡ n → (m ≤ k) ≡ (n ≤ k)
at_most_same k e = ap (λ (j : ℕ). j ≤ k) e

mutual
  narrow_un : (e : ExprD) → IsNarrow (unplaced_expr e) ≡ IsNarrow e
  narrow_un (atoms p) = refl
  narrow_un (var p x) = refl
  narrow_un (tag p x) = refl
  narrow_un (tuple p es) = both_same (at_most_same 8 (width_un es)) (narrows_un es)
  narrow_un (listed p es) = narrows_un es
  narrow_un (each p e bs c) = three_same (narrow_un e) (bindings_un bs) (cond_un c)
  narrow_un (part p e n) = narrow_un e
  narrow_un (apply p op es) = narrows_un es

  narrows_un : (es : ExprsD) → AreNarrow (unplaced_exprs es) ≡ AreNarrow es
  narrows_un no_exprs = refl
  narrows_un (expr e rest) = both_same (narrow_un e) (narrows_un rest)

  binding_un : (b : BindingD) → BindingIsNarrow (unplaced_binding b) ≡ BindingIsNarrow b
  binding_un (binding p x e) = narrow_un e

  bindings_un : (bs : BindingsD) → BindingsAreNarrow (unplaced_bindings bs) ≡ BindingsAreNarrow bs
  bindings_un no_bindings = refl
  bindings_un (bind b rest) = both_same (binding_un b) (bindings_un rest)

  cond_un : (c : CondD) → CondIsNarrow (unplaced_cond c) ≡ CondIsNarrow c
  cond_un truth = refl
  cond_un falsity = refl
  cond_un (same e f) = both_same (narrow_un e) (narrow_un f)
  cond_un (differ e f) = both_same (narrow_un e) (narrow_un f)
  cond_un (below p e f) = both_same (narrow_un e) (narrow_un f)
  cond_un (member e f) = both_same (narrow_un e) (narrow_un f)
  cond_un (included e f) = both_same (narrow_un e) (narrow_un f)
  cond_un (empty e) = narrow_un e
  cond_un (not c) = cond_un c
  cond_un (all cs) = conds_un cs
  cond_un (any cs) = conds_un cs
  cond_un (exists b c) = both_same (binding_un b) (cond_un c)
  cond_un (every b c) = both_same (binding_un b) (cond_un c)

  conds_un : (cs : CondsD) → CondsAreNarrow (unplaced_conds cs) ≡ CondsAreNarrow cs
  conds_un no_conds = refl
  conds_un (cond c rest) = both_same (cond_un c) (conds_un rest)

mutual
  stmt_un : (a : StmtD) → StmtIsWithin (unplaced_stmt a) ≡ StmtIsWithin a
  stmt_un («let» p x e) = narrow_un e
  stmt_un (assign p x e) = narrow_un e
  stmt_un (add e p x) = narrow_un e
  stmt_un (for b c body) = three_same (binding_un b) (cond_un c) (stmts_un body)
  stmt_un ((if) c one other) = three_same (cond_un c) (stmts_un one) (stmts_un other)
  stmt_un (while p c n body) = three_same refl (cond_un c) (stmts_un body)
  stmt_un (assert p c) = cond_un c
  stmt_un (print p q x) = refl

  pub stmts_un : (l : StmtsD) → StmtsAreWithin (unplaced_stmts l) ≡ StmtsAreWithin l
  stmts_un no_stmts = refl
  stmts_un (stmt a rest) = both_same (stmt_un a) (stmts_un rest)
