-- What a cube says of the order of its levels.
use Rattle.std.specs.Prelude.{ℕ, ◌/◌, ◌%◌, Bool, true, false, ◌&&◌, ◌||◌, ◌==◌, List, [], get_or, IsTrue, IsFalse}
use Rattle.std.specs.Int.{bit_at}
use Rattle.std.specs.List.{All, list_any}
use Rattle.lois_base.specs.Atom.{Atom, below}
use Rattle.lois_base.specs.Truth.{atom_at, cube_holds}
use Rattle.lois_base.specs.declared.guards.Lit.{Lit}
use Rattle.lois_base.specs.declared.guards.Op.{Op}
use Rattle.lois_base.specs.declared.guards.Op.TheVariants.{Eq, Ne, Lt, AtMost}
use Rattle.lois_constraint.specs.Alternatives.{denial_of}

-- which levels are at least as high as one level, a bit for each, in words of 64; those beyond the end aren't
abbrev pub Row : Type 0
Row = List ℕ

unfoldable pub reaches : Row → ℕ → Bool
reaches r b = bit_at (get_or r (b / 64) 0) (b % 64) == 1

-- the row of a level, which has nothing beyond the last row, has the other one
abbrev pub are_at_most : List Row → ℕ → ℕ → Bool
are_at_most rows a b = reaches (get_or rows a []) b

-- each level is at most itself
abbrev pub at_most : List Row → ℕ → ℕ → Bool
at_most rows a b = a == b || are_at_most rows a b

-- one level more is at most another one, and so are those at most the one to those that the other is at most
abbrev pub linked : ℕ → ℕ → (ℕ → ℕ → Bool) → ℕ → ℕ → Bool
linked x y le a b = le a b || (le a x && le y b)

abbrev pub is_tied : (ℕ → ℕ → Bool) → ℕ → ℕ → Bool
is_tied le x y = le x y && le y x

-- the operator says that its levels differ
abbrev pub is_apart : Op → Bool
is_apart Eq = false
is_apart Ne = true
is_apart Lt = true
is_apart AtMost = false

-- both levels of the literal lie from x on up to y
abbrev pub lies_between : (ℕ → ℕ → Bool) → ℕ → ℕ → Lit → Bool
lies_between le x y l = (le x l.left && le l.left y) && (le x l.right && le l.right y)

-- the left level of the literal is tied to x, and the right one to y
abbrev pub joins : (ℕ → ℕ → Bool) → ℕ → ℕ → Lit → Bool
joins le x y l = is_tied le l.left x && is_tied le l.right y

-- The literal says that its levels differ, and they couldn't if x and y were one: they lie between x and y, or are tied to them.
abbrev pub sets_apart : (ℕ → ℕ → Bool) → ℕ → ℕ → Lit → Bool
sets_apart le x y l =
    is_apart l.op && ((lies_between le x y l || lies_between le y x l) || (joins le x y l || joins le y x l))

-- some literal of the cube sets them apart
abbrev pub are_apart : (ℕ → ℕ → Bool) → List Lit → ℕ → ℕ → Bool
are_apart le k x y = list_any (sets_apart le x y) k

-- the literal stands so in the order
abbrev pub HoldsInOrder : (ℕ → ℕ → Bool) → Op → ℕ → ℕ → Type 0
HoldsInOrder le Eq x y = IsTrue (le x y) × IsTrue (le y x)
HoldsInOrder le Ne x y = IsFalse (is_tied le x y)
HoldsInOrder le Lt x y = IsTrue (le x y) × IsFalse (le y x)
HoldsInOrder le AtMost x y = IsTrue (le x y)

-- an order of levels in which each literal of the cube stands, and which says no more than the cube
pub record IsOrderClosure (le : ℕ → ℕ → Bool) (k : List Lit) : Type 0 where
  pub itself : (a : ℕ) → IsTrue (le a a)
  pub trans : (a b c : ℕ) → IsTrue (le a b) → IsTrue (le b c) → IsTrue (le a c)
  pub stands : All (λ l. HoldsInOrder le l.op l.left l.right) k
  pub at_most : (c : List Atom) → IsTrue (cube_holds c k) → (a b : ℕ) → IsTrue (le a b) → IsFalse (below (atom_at c b) (atom_at c a))

-- a literal follows, by the order and the literals that set levels apart
abbrev pub is_implied : (ℕ → ℕ → Bool) → List Lit → Op → ℕ → ℕ → Bool
is_implied le k Eq x y = is_tied le x y
is_implied le k Ne x y = are_apart le k x y
is_implied le k Lt x y = le x y && are_apart le k x y
is_implied le k AtMost x y = le x y

-- a literal fails, since what denies it follows
abbrev pub is_refuted : (ℕ → ℕ → Bool) → List Lit → Op → ℕ → ℕ → Bool
is_refuted le k o x y = is_implied le k (denial_of o x y).op (denial_of o x y).left (denial_of o x y).right

-- the order with one literal more
abbrev pub extended : Op → ℕ → ℕ → (ℕ → ℕ → Bool) → ℕ → ℕ → Bool
extended Eq x y le = linked y x (linked x y le)
extended Ne x y le = le
extended Lt x y le = linked x y le
extended AtMost x y le = linked x y le
