-- Where expressions and conditions may stand: which names are in scope there, and which operators and forms are allowed.
use Rattle.std.specs.Prelude.{◌≡◌, ℕ, suc, ◌≤◌, ◌⊎◌, Bool, true, List, [], ◌∷◌, ◌++◌, map, IsTrue, IsFalse, bytes_eq}
use Rattle.std.specs.List.{All}
use Rattle.lois_script.specs.Tree.{ExprD, atoms, var, tag, tuple, listed, each, part, apply, ExprsD, no_exprs, expr, binding, BindingsD, no_bindings, bind, CondD, truth, falsity, same, differ, below, member, included, empty, not, all, any, exists, every, CondsD, no_conds, cond}
use Rattle.lois_script.specs.declared.syntax.Operation.{Operation}
use Rattle.lois_script.specs.declared.syntax.Operation.TheVariants.{Union, Inter, Minus, Flatten, Reach, Product, Complement, Minimise}
use Rattle.lois_context.specs.Choices.{AdmitsContext}
use Rattle.lois_context.specs.Slots.{SlotD, slot_name}
use Rattle.lois_context.specs.declared.contexts.Context.{Context}

-- the names of a store, in order
abbrev pub names_of : List SlotD → List (List ℕ)
names_of = map slot_name

-- the name is one of these
abbrev pub IsNamed : List ℕ → List (List ℕ) → Type 0
IsNamed x [] = ⊥
IsNamed x (y ∷ ys) = IsTrue (bytes_eq y x) ⊎ IsNamed x ys

-- the name is none of these
abbrev pub IsUnnamed : List ℕ → List (List ℕ) → Type 0
IsUnnamed x = All (λ y. IsFalse (bytes_eq y x))

abbrev pub count_of : ExprsD → ℕ
count_of no_exprs = 0
count_of (expr e es) = suc (count_of es)

-- how many operands the operation has
abbrev pub arity : Operation → ℕ
arity Union = 2
arity Inter = 2
arity Minus = 2
arity Flatten = 1
arity Reach = 1
arity Product = 2
arity Complement = 1
arity Minimise = 1

-- the names in scope behind the binders
abbrev pub names_behind_bindings : BindingsD → List (List ℕ) → List (List ℕ)
names_behind_bindings no_bindings xs = xs
names_behind_bindings (bind (binding p x e) bs) xs = names_behind_bindings bs (xs ++ x ∷ [])

-- An expression stands where exactly the names xs are in scope, over atoms with an order or without one: each name that it
-- uses is one of them, each name that it binds is new there, `<` needs an order, a tuple has 2 to 8 parts, and an operation
-- has as many operands as it takes.
abbrev mutual
  pub IsWellFormed : ExprD → Bool → List (List ℕ) → Type 0
  IsWellFormed (atoms p) o xs = Unit {0}
  IsWellFormed (var p x) o xs = IsNamed x xs
  IsWellFormed (tag p name) o xs = Unit {0}
  IsWellFormed (tuple p es) o xs = (2 ≤ count_of es) × (count_of es ≤ 8) × AreWellFormed es o xs
  IsWellFormed (listed p es) o xs = AreWellFormed es o xs
  IsWellFormed (each p item bs c) o xs =
      BindersAreWellFormed bs o xs × IsWellFormed item o (names_behind_bindings bs xs) × CondIsWellFormed c o (names_behind_bindings bs xs)
  IsWellFormed (part p e n) o xs = IsWellFormed e o xs
  IsWellFormed (apply p op es) o xs = (count_of es ≡ arity op) × AreWellFormed es o xs

  pub AreWellFormed : ExprsD → Bool → List (List ℕ) → Type 0
  AreWellFormed no_exprs o xs = Unit {0}
  AreWellFormed (expr e es) o xs = IsWellFormed e o xs × AreWellFormed es o xs

  pub BindersAreWellFormed : BindingsD → Bool → List (List ℕ) → Type 0
  BindersAreWellFormed no_bindings o xs = Unit {0}
  BindersAreWellFormed (bind (binding p x e) bs) o xs = IsWellFormed e o xs × IsUnnamed x xs × BindersAreWellFormed bs o (xs ++ x ∷ [])

  pub CondIsWellFormed : CondD → Bool → List (List ℕ) → Type 0
  CondIsWellFormed truth o xs = Unit {0}
  CondIsWellFormed falsity o xs = Unit {0}
  CondIsWellFormed (same e f) o xs = IsWellFormed e o xs × IsWellFormed f o xs
  CondIsWellFormed (differ e f) o xs = IsWellFormed e o xs × IsWellFormed f o xs
  CondIsWellFormed (below p e f) o xs = (o ≡ true) × IsWellFormed e o xs × IsWellFormed f o xs
  CondIsWellFormed (member e f) o xs = IsWellFormed e o xs × IsWellFormed f o xs
  CondIsWellFormed (included e f) o xs = IsWellFormed e o xs × IsWellFormed f o xs
  CondIsWellFormed (empty e) o xs = IsWellFormed e o xs
  CondIsWellFormed (not c) o xs = CondIsWellFormed c o xs
  CondIsWellFormed (all cs) o xs = CondsAreWellFormed cs o xs
  CondIsWellFormed (any cs) o xs = CondsAreWellFormed cs o xs
  CondIsWellFormed (exists (binding p x e) c) o xs = IsWellFormed e o xs × IsUnnamed x xs × CondIsWellFormed c o (xs ++ x ∷ [])
  CondIsWellFormed (every (binding p x e) c) o xs = IsWellFormed e o xs × IsUnnamed x xs × CondIsWellFormed c o (xs ++ x ∷ [])

  pub CondsAreWellFormed : CondsD → Bool → List (List ℕ) → Type 0
  CondsAreWellFormed no_conds o xs = Unit {0}
  CondsAreWellFormed (cond c cs) o xs = CondIsWellFormed c o xs × CondsAreWellFormed cs o xs

-- What stands in this way where exactly the names of the context's store are in scope; the context has the same operators.
pub record IsWellFormedIn (stands : Bool → List (List ℕ) → Type 0) (o : Bool) (k : Context) : Type 0 where
  pub names : stands o (names_of k.store)
  pub operators : AdmitsContext o k
