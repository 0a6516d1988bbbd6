-- What stands in one bracket more.
use Rattle.std.proofs.Common.{◌≡◌, ℕ, zero, suc, Result, Ok, Err, refl, ap}
use Rattle.lois_script.specs.Tree as trees
use Rattle.lois_script.specs.Tree.{ExprD}
use Rattle.lois_descent.specs.declared.parse_error.ParseError.{ParseError}
use Rattle.lois_descent.specs.declared.lexemes.Terminal.TheVariants as terminals
use Rattle.lois_descent.specs.Descent.{Tokens, Read, ◌>>=◌, name, pass, binding, expr_here, cond_here, expr_of, cond_of, block_of, statement, statements, inner_expr, inner_cond, inner_block}

pub inner_expr_is : (depth_left inner : ℕ) (s : Tokens) → depth_left ≡ suc inner → inner_expr depth_left s ≡ expr_of inner s
unfolding inner_expr
inner_expr_is depth_left inner s e = ap (λ r. inner_expr r s) e

pub inner_cond_is : (depth_left inner : ℕ) (s : Tokens) → depth_left ≡ suc inner → inner_cond depth_left s ≡ cond_of inner s
unfolding inner_cond
inner_cond_is depth_left inner s e = ap (λ r. inner_cond r s) e

pub inner_block_is : (depth_left inner : ℕ) (s : Tokens) → depth_left ≡ suc inner → inner_block depth_left s ≡ block_of inner s
unfolding inner_block
inner_block_is depth_left inner s e = ap (λ r. inner_block r s) e

pub expr_of_is : (depth_left : ℕ) (s : Tokens) → expr_of depth_left s ≡ expr_here depth_left s
unfolding expr_of expr_here inner_expr inner_cond
expr_of_is zero s = refl
expr_of_is (suc depth_left) s = refl

pub cond_of_is : (depth_left : ℕ) (s : Tokens) → cond_of depth_left s ≡ cond_here depth_left s
unfolding expr_of cond_of expr_here inner_expr inner_cond
cond_of_is zero s = refl
cond_of_is (suc depth_left) s = refl

pub block_of_is : (depth_left : ℕ) (s : Tokens) → block_of depth_left s ≡ statements (statement depth_left (inner_block depth_left)) s
unfolding block_of inner_block
block_of_is zero s = refl
block_of_is (suc depth_left) s = refl

on_same : {A B : Type 0} (r : Result A ParseError) (f g : A → Result B ParseError) → ((x : A) → f x ≡ g x) → (r >>= f) ≡ (r >>= g)
on_same (Ok x) f g same = same x
on_same (Err e) f g same = refl

-- a binding, as its set is read
pub binding_is : (e f : Read ExprD) → ((s : Tokens) → e s ≡ f s) → (s : Tokens) → binding e s ≡ binding f s
unfolding binding
binding_is e f same s = on_same (name s) _ _ (λ x. on_same (pass terminals.In x.1) _ _ (λ set. ap (λ r. r >>= λ from. Ok (trees.binding x.0.place x.0.name from.0, from.1)) (same set)))
