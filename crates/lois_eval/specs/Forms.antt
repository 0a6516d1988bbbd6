-- Forms of expressions and conditions that the steps of the evaluation go through.
use Rattle.std.specs.Prelude.{ℕ, Bool, true, false, List, drop, map}
use Rattle.lois_script.specs.Tree.{ExprD, atoms, var, tag, tuple, listed, each, apply, ExprsD, no_exprs, expr, BindingD, CondD, same, differ, below, member, included, all, any, exists, every, CondsD}
use Rattle.lois_script.specs.View.{tree, cond_tree, binding_tree, bindings_of}
use Rattle.lois_script.specs.declared.syntax.Binding.{Binding}
use Rattle.lois_script.specs.declared.syntax.Cond.{Cond}
use Rattle.lois_script.specs.declared.syntax.Expr.{Expr}

-- the set of the item for the bindings from an index on; what it makes doesn't depend on the place
abbrev pub each_from : Expr → List Binding → ℕ → Cond → ExprD
each_from item bs i c = each 0 (tree item) (bindings_of (map binding_tree (drop i bs))) (cond_tree c)

-- all of the conditions, or one of them
abbrev pub joint : Bool → CondsD → CondD
joint true cs = all cs
joint false cs = any cs

-- for some member, or for every one
abbrev pub quantifier : Bool → BindingD → CondD → CondD
quantifier true b c = exists b c
quantifier false b c = every b c

-- two expressions
abbrev pub two : ExprD → ExprD → ExprsD
two e f = expr e (expr f no_exprs)

-- the operands of a tuple, a list, an operation, and of a comparison; nothing else has any
abbrev pub parts_of : ExprD → ExprsD
parts_of (tuple p es) = es
parts_of (listed p es) = es
parts_of (apply p op es) = es
parts_of _ = no_exprs

abbrev pub sides_of : CondD → ExprsD
sides_of (same e f) = two e f
sides_of (differ e f) = two e f
sides_of (below p e f) = two e f
sides_of (member e f) = two e f
sides_of (included e f) = two e f
sides_of _ = no_exprs

-- a name; an expression without parts; one of the three with operands; a comparison
abbrev pub IsName : ExprD → Type 0
IsName (var p x) = Unit {0}
IsName _ = ⊥

abbrev pub IsSimple : ExprD → Type 0
IsSimple (atoms p) = Unit {0}
IsSimple (var p x) = Unit {0}
IsSimple (tag p x) = Unit {0}
IsSimple _ = ⊥

abbrev pub IsComposed : ExprD → Type 0
IsComposed (tuple p es) = Unit {0}
IsComposed (listed p es) = Unit {0}
IsComposed (apply p op es) = Unit {0}
IsComposed _ = ⊥

abbrev pub IsComparisonCond : CondD → Type 0
IsComparisonCond (same e f) = Unit {0}
IsComparisonCond (differ e f) = Unit {0}
IsComparisonCond (below p e f) = Unit {0}
IsComparisonCond (member e f) = Unit {0}
IsComparisonCond (included e f) = Unit {0}
IsComparisonCond _ = ⊥
