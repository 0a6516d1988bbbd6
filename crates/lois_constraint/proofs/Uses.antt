-- What holds of a cube of a constraint, and of an answer.
use Rattle.std.proofs.Common.{◌≡◌, ℕ, ◌<◌, List, length, get_or, Result, IfOk, subst, sym}
use Rattle.std.proofs.lemmas.Result.{IfOk-weaker}
use Rattle.std.proofs.lemmas.List.Elements.{All-get_or}
use Rattle.lois_base.specs.declared.guards.Lit.{Lit}
use Rattle.lois_constraint.specs.Rules.{Rule, CubeObeys, ConstraintObeys}

pub item_obeys : (rule : Rule) (g xs : List (List Lit)) (i : ℕ) (x : List Lit) → xs ≡ g → i < length xs → x ≡ get_or xs i x → ConstraintObeys rule g → CubeObeys rule x
item_obeys rule g xs i x e b is h =
    subst (CubeObeys rule) (sym is) (All-get_or (CubeObeys rule) xs i x b (subst (ConstraintObeys rule) (sym e) h))

-- what holds of the value that is the answer
pub same_answer : {X E : Type 0} (result : Result X E) (x : X) (P : X → Type 0) → IfOk result (λ r. r ≡ x) → P x → IfOk result P
same_answer result x P same h = IfOk-weaker result (λ r. r ≡ x) P (λ r e. subst P (sym e) h) same
