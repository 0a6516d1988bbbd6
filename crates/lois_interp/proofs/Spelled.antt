-- A script that some text spells is formed as statements have to be.
use Rattle.std.proofs.Common.{◌≡◌, ℕ, suc, ◌≤◌, Bool, true, false, List, length, map, refl, ap, subst, arith}
use Rattle.lois_lexer.proofs.OneReading.{tokens_of_cut}
use Rattle.lois_script.specs.Grammar.{token_at_place, IsWide, HasArity, is_base, is_unit, is_conjunction}
use Rattle.lois_script.specs.Limits.{Spells, width, IsNarrow, AreNarrow, BindingIsNarrow, BindingsAreNarrow, CondIsNarrow, CondsAreNarrow, StmtIsWithin, StmtsAreWithin}
use Rattle.lois_script.specs.Tree.{ExprD, atoms, var, tag, tuple, listed, each, part, apply, ExprsD, no_exprs, expr, BindingD, binding, BindingsD, no_bindings, bind, CondD, truth, falsity, same, differ, below, member, included, empty, not, all, any, exists, every, CondsD, no_conds, cond, StmtD, «let», assign, add, for, if, while, assert, print, StmtsD, no_stmts, stmt, ScriptD}
use Rattle.lois_script.specs.declared.syntax.Operation.{Operation}
use Rattle.lois_script.specs.declared.syntax.Operation.TheVariants.{Union, Inter, Minus, Flatten, Reach, Product, Complement, Minimise}
use Rattle.lois_script.proofs.Printable.{EnclosedPrints, ExprPrints, ExprsPrint, BindingPrints, BindingsPrint, CondPrints, UnitsPrint, ConjunctionsPrint, StmtPrints, StmtsPrint, ScriptPrints, are_tokens, script_prints}
use Rattle.lois_eval.specs.WellFormed.{count_of, arity}
use Rattle.lois_interp.specs.WithinLimits.{IsWithinLimits, AreWithinLimits, BindingIsWithinLimits, BindingsAreWithinLimits, CondIsWithinLimits, CondsAreWithinLimits, StmtIsWithinLimits, StmtsAreWithinLimits}

width_is : (es : ExprsD) → width es ≡ count_of es
width_is no_exprs = refl
width_is (expr e es) = ap suc (width_is es)

wide_is : (es : ExprsD) → IsWide es → 2 ≤ count_of es
wide_is no_exprs h = absurd h
wide_is (expr e no_exprs) h = absurd h
wide_is (expr e (expr f es)) h = omega arith

arity_one : (es : ExprsD) (op : Operation) → ((e : ExprD) → HasArity op (expr e no_exprs) → 1 ≡ arity op) → (HasArity op no_exprs → ⊥) → ((e f : ExprD) (rest : ExprsD) → HasArity op (expr e (expr f rest)) → count_of (expr e (expr f rest)) ≡ arity op) → HasArity op es → count_of es ≡ arity op
arity_one no_exprs op one none more h = absurd (none h)
arity_one (expr e no_exprs) op one none more h = one e h
arity_one (expr e (expr f rest)) op one none more h = more e f rest h

two_more : (op : Operation) → ((e f g : ExprD) (rest : ExprsD) → HasArity op (expr e (expr f (expr g rest))) → ⊥) → ((e f : ExprD) → HasArity op (expr e (expr f no_exprs)) → 2 ≡ arity op) → (e f : ExprD) (rest : ExprsD) → HasArity op (expr e (expr f rest)) → count_of (expr e (expr f rest)) ≡ arity op
two_more op three two e f no_exprs h = two e f h
two_more op three two e f (expr g rest) h = absurd (three e f g rest h)

arity_is : (op : Operation) (es : ExprsD) → HasArity op es → count_of es ≡ arity op
arity_is Union es h = arity_one es Union (λ e h. absurd h) (λ h. h) (two_more Union (λ e f g rest h. h) (λ e f h. refl)) h
arity_is Inter es h = arity_one es Inter (λ e h. absurd h) (λ h. h) (two_more Inter (λ e f g rest h. h) (λ e f h. refl)) h
arity_is Minus es h = arity_one es Minus (λ e h. absurd h) (λ h. h) (two_more Minus (λ e f g rest h. h) (λ e f h. refl)) h
arity_is Product es h = arity_one es Product (λ e h. absurd h) (λ h. h) (two_more Product (λ e f g rest h. h) (λ e f h. refl)) h
arity_is Flatten es h = arity_one es Flatten (λ e h. refl) (λ h. h) (two_more Flatten (λ e f g rest h. h) (λ e f h. absurd h)) h
arity_is Reach es h = arity_one es Reach (λ e h. refl) (λ h. h) (two_more Reach (λ e f g rest h. h) (λ e f h. absurd h)) h
arity_is Complement es h = arity_one es Complement (λ e h. refl) (λ h. h) (two_more Complement (λ e f g rest h. h) (λ e f h. absurd h)) h
arity_is Minimise es h = arity_one es Minimise (λ e h. refl) (λ h. h) (two_more Minimise (λ e f g rest h. h) (λ e f h. absurd h)) h

enclosed_formed : (b : Bool) (n : ℕ) (P : ℕ → Type 0) (Q : Type 0) → ((k : ℕ) → P k → Q) → EnclosedPrints b n P → Q
enclosed_formed true n P Q to h = to n h
enclosed_formed false n P Q to h = to (suc n) h.1

mutual
  expr_formed : (e : ExprD) (n : ℕ) → ExprPrints e n → IsNarrow e → IsWithinLimits e
  expr_formed (atoms p) n h narrow = tt
  expr_formed (var p x) n h narrow = tt
  expr_formed (tag p x) n h narrow = tt
  expr_formed (tuple p es) n h narrow = (wide_is es h.0, subst (λ k. k ≤ 8) (width_is es) narrow.0, exprs_formed es (suc n) h.2 narrow.1)
  expr_formed (listed p es) n h narrow = exprs_formed es (suc n) h.1 narrow
  expr_formed (each p e bs c) n h narrow = (expr_formed e (suc n) h.1 narrow.0, bindings_formed bs (suc n) h.3 narrow.1, cond_formed c (suc n) h.4 narrow.2)
  expr_formed (part p e i) n h narrow = expr_formed e (suc n) h.1 narrow
  expr_formed (apply p op es) n h narrow = (arity_is op es h.0, exprs_formed es (suc n) h.3 narrow)

  exprs_formed : (es : ExprsD) (n : ℕ) → ExprsPrint es n → AreNarrow es → AreWithinLimits es
  exprs_formed no_exprs n h narrow = tt
  exprs_formed (expr e es) n h narrow = (expr_formed e n h.0 narrow.0, exprs_formed es n h.1 narrow.1)

  binding_formed : (b : BindingD) (n : ℕ) → BindingPrints b n → BindingIsNarrow b → BindingIsWithinLimits b
  binding_formed (binding p x e) n h narrow = expr_formed e n h.1 narrow

  bindings_formed : (bs : BindingsD) (n : ℕ) → BindingsPrint bs n → BindingsAreNarrow bs → BindingsAreWithinLimits bs
  bindings_formed no_bindings n h narrow = tt
  bindings_formed (bind b bs) n h narrow = (binding_formed b n h.0 narrow.0, bindings_formed bs n h.1 narrow.1)

  cond_formed : (c : CondD) (n : ℕ) → CondPrints c n → CondIsNarrow c → CondIsWithinLimits c
  cond_formed truth n h narrow = tt
  cond_formed falsity n h narrow = tt
  cond_formed (same e f) n h narrow = (expr_formed e n h.0 narrow.0, expr_formed f n h.1 narrow.1)
  cond_formed (differ e f) n h narrow = (expr_formed e n h.0 narrow.0, expr_formed f n h.1 narrow.1)
  cond_formed (below p e f) n h narrow = (expr_formed e n h.0 narrow.0, expr_formed f n h.1 narrow.1)
  cond_formed (member e f) n h narrow = (expr_formed e n h.0 narrow.0, expr_formed f n h.1 narrow.1)
  cond_formed (included e f) n h narrow = (expr_formed e n h.0 narrow.0, expr_formed f n h.1 narrow.1)
  cond_formed (empty e) n h narrow = expr_formed e (suc n) h.1 narrow
  cond_formed (not c) n h narrow = enclosed_formed (is_base c) n (CondPrints c) (CondIsWithinLimits c) (λ k q. cond_formed c k q narrow) h
  cond_formed (all cs) n h narrow = units_formed cs n h.1 narrow
  cond_formed (any cs) n h narrow = conjunctions_formed cs n h.1 narrow
  cond_formed (exists b c) n h narrow = (binding_formed b n h.0 narrow.0, enclosed_formed (is_base c) n (CondPrints c) (CondIsWithinLimits c) (λ k q. cond_formed c k q narrow.1) h.1)
  cond_formed (every b c) n h narrow = (binding_formed b n h.0 narrow.0, enclosed_formed (is_base c) n (CondPrints c) (CondIsWithinLimits c) (λ k q. cond_formed c k q narrow.1) h.1)

  units_formed : (cs : CondsD) (n : ℕ) → UnitsPrint cs n → CondsAreNarrow cs → CondsAreWithinLimits cs
  units_formed no_conds n h narrow = tt
  units_formed (cond c cs) n h narrow = (enclosed_formed (is_unit c) n (CondPrints c) (CondIsWithinLimits c) (λ k q. cond_formed c k q narrow.0) h.0, units_formed cs n h.1 narrow.1)

  conjunctions_formed : (cs : CondsD) (n : ℕ) → ConjunctionsPrint cs n → CondsAreNarrow cs → CondsAreWithinLimits cs
  conjunctions_formed no_conds n h narrow = tt
  conjunctions_formed (cond c cs) n h narrow = (enclosed_formed (is_conjunction c) n (CondPrints c) (CondIsWithinLimits c) (λ k q. cond_formed c k q narrow.0) h.0, conjunctions_formed cs n h.1 narrow.1)

mutual
  stmt_formed : (a : StmtD) (n : ℕ) → StmtPrints a n → StmtIsWithin a → StmtIsWithinLimits a
  stmt_formed («let» p x e) n h within = expr_formed e n h.1 within
  stmt_formed (assign p x e) n h within = expr_formed e n h.1 within
  stmt_formed (add e p x) n h within = expr_formed e n h.0 within
  stmt_formed (for b c body) n h within = (binding_formed b n h.0 within.0, cond_formed c n h.1 within.1, stmts_formed body (suc n) h.3 within.2)
  stmt_formed ((if) c one other) n h within = (cond_formed c n h.0 within.0, stmts_formed one (suc n) h.2 within.1, stmts_formed other (suc n) h.3 within.2)
  stmt_formed (while p c k body) n h within = (within.0, cond_formed c n h.0 within.1, stmts_formed body (suc n) h.3 within.2)
  stmt_formed (assert p c) n h within = cond_formed c n h within
  stmt_formed (print p q x) n h within = tt

  stmts_formed : (l : StmtsD) (n : ℕ) → StmtsPrint l n → StmtsAreWithin l → StmtsAreWithinLimits l
  stmts_formed no_stmts n h within = tt
  stmts_formed (stmt a rest) n h within = (stmt_formed a n h.0 within.0, stmts_formed rest n h.1 within.1)

-- what a text spells prints again
pub spelled_prints : (text : List ℕ) (s : ScriptD) → Spells text s → ScriptPrints s
spelled_prints text s h =
    let tokens = are_tokens text h.tokens (tokens_of_cut text (length text) h.tokens h.cut) in
    script_prints s (map (token_at_place text) h.tokens) h.script (record { nested = h.nesting; tokens = tokens })

pub spelled_formed : (text : List ℕ) (s : ScriptD) → Spells text s → StmtsAreWithinLimits s.body
spelled_formed text s h = stmts_formed s.body 0 (spelled_prints text s h).body h.forms
