-- Tokens are those of one expression, binding, condition and clause at most, with one end.
use Rattle.std.proofs.Common.{◌≡◌, suc, length, arith}
use Rattle.lois_script.specs.Tree.{ExprD, BindingD, CondD}
use Rattle.lois_script.specs.Grammar.{WhereClause, SpellsExpr, SpellsBinding, SpellsCond}
use Rattle.lois_descent.proofs.Lengths.{Tokens}
use Rattle.lois_descent.proofs.FirstTokens.{Avoids}
use Rattle.lois_descent.proofs.OneExpression.{is_where, EndsCond, Condition, binding_once, condition_once, where_once}
use Rattle.lois_descent.proofs.OneCondition.{decided}

pub one_expr : (e f : ExprD) (b m n : Tokens) → SpellsExpr e b m → SpellsExpr f b n → (e ≡ f) × (m ≡ n)
one_expr e f b m n g h = (decided (suc (length b))).exprs e f b m n (omega arith) g h

pub one_binding : (x y : BindingD) (b m n : Tokens) → SpellsBinding x b m → SpellsBinding y b n → (x ≡ y) × (m ≡ n)
one_binding x y b m n = binding_once (suc (length b)) (decided (suc (length b))) x y b m n (omega arith)

pub one_condition : (c d : CondD) (b m n : Tokens) → EndsCond m → EndsCond n → Condition c b m → Condition d b n → (c ≡ d) × (m ≡ n)
one_condition c d b m n = condition_once (suc (length b)) (decided (suc (length b))) c d b m n (omega arith)

pub one_where : (c d : CondD) (b m n : Tokens) → Avoids is_where m → Avoids is_where n → EndsCond m → EndsCond n → WhereClause c (SpellsCond c) b m → WhereClause d (SpellsCond d) b n → (c ≡ d) × (m ≡ n)
one_where c d b m n = where_once (suc (length b)) (decided (suc (length b))) c d b m n (omega arith)
