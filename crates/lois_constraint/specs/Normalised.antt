-- When a constraint is normalised.
use Rattle.std.specs.Prelude.{ℕ, ◌≤◌, ◌≢◌, Bool, true, false, ◌&&◌, ◌||◌, ◌==◌, nat_lt, List, [], ◌∷◌, IsTrue, IsFalse}
use Rattle.std.specs.List.{All, AllPairs, list_all, list_any}
use Rattle.lois_base.specs.declared.guards.Lit.{Lit}
use Rattle.lois_base.specs.declared.guards.Op.{Op}
use Rattle.lois_base.specs.declared.guards.Op.TheVariants.{Eq, Ne, Lt, AtMost}

-- `=`, then `!=`, then `<`, then `<=`
abbrev pub op_rank : Op → ℕ
op_rank Eq = 0
op_rank Ne = 1
op_rank Lt = 2
op_rank AtMost = 3

-- literals go by their left level, then by their right level, then by their operator
abbrev pub lit_before : Lit → Lit → Bool
lit_before a b =
    nat_lt a.left b.left || (a.left == b.left && (nat_lt a.right b.right || (a.right == b.right && nat_lt (op_rank a.op) (op_rank b.op))))

abbrev pub lit_same : Lit → Lit → Bool
lit_same a b = a.left == b.left && (a.right == b.right && op_rank a.op == op_rank b.op)

-- cubes go by their first literals, then by the others; a shorter cube goes before those that it begins
abbrev pub cube_before : List Lit → List Lit → Bool
cube_before [] [] = false
cube_before [] (y ∷ ys) = true
cube_before (x ∷ xs) [] = false
cube_before (x ∷ xs) (y ∷ ys) = lit_before x y || (lit_same x y && cube_before xs ys)

-- `=` and `!=` have the lower level on the left
abbrev pub IsOriented : Op → ℕ → ℕ → Type 0
IsOriented Eq x y = x ≤ y
IsOriented Ne x y = x ≤ y
IsOriented Lt x y = Unit {0}
IsOriented AtMost x y = Unit {0}

-- each literal of the one cube stands in the other
abbrev pub is_part : List Lit → List Lit → Bool
is_part a b = list_all (λ l. list_any (λ m. lit_same m l) b) a

pub record IsNormalCube (k : List Lit) : Type 0 where
  pub apart : All (λ l. l.left ≢ l.right) k
  pub turned : All (λ l. IsOriented l.op l.left l.right) k
  pub increasing : AllPairs (λ l m. IsTrue (lit_before l m)) k

pub record IsNormalised (g : List (List Lit)) : Type 0 where
  pub cubes : All IsNormalCube g
  pub increasing : AllPairs (λ a b. IsTrue (cube_before a b)) g
  pub lean : AllPairs (λ a b. IsFalse (is_part a b) × IsFalse (is_part b a)) g
