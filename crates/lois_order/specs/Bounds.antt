-- The bounds of a level, and what they say without it.
use Rattle.std.specs.Prelude.{◌≡◌, ℕ, Bool, true, false, not, ◌&&◌, ◌||◌, ◌==◌, if◌then◌else◌, List, map}
use Rattle.std.specs.List.{list_all}
use Rattle.lois_base.specs.Atom.{Atom}
use Rattle.lois_base.specs.Truth.{atom_at, op_holds, lit_holds, cube_holds}
use Rattle.lois_base.specs.declared.guards.Lit.{Lit}
use Rattle.lois_base.specs.declared.guards.Op.{Op}
use Rattle.lois_base.specs.declared.guards.Op.TheVariants.{Eq, Ne, Lt, AtMost}
use Rattle.lois_order.specs.Equations.{renamed}

-- `<` and `<=` go upward
abbrev pub is_step : Op → Bool
is_step Eq = false
is_step Ne = false
is_step Lt = true
is_step AtMost = true

abbrev pub is_weak : Op → Bool
is_weak Eq = false
is_weak Ne = false
is_weak Lt = false
is_weak AtMost = true

abbrev pub is_ne : Op → Bool
is_ne Eq = false
is_ne Ne = true
is_ne Lt = false
is_ne AtMost = false

-- y < x or y <= x with another level y
abbrev pub is_lower : ℕ → Lit → Bool
is_lower x l = is_step l.op && (l.right == x) && not (l.left == x)

-- x < y or x <= y with another level y
abbrev pub is_upper : ℕ → Lit → Bool
is_upper x l = is_step l.op && (l.left == x) && not (l.right == x)

-- y <= x with another level y
abbrev pub is_weak_lower : ℕ → Lit → Bool
is_weak_lower x l = is_weak l.op && (l.right == x) && not (l.left == x)

-- x != y or y != x
abbrev pub parts : ℕ → Lit → Bool
parts x l = is_ne l.op && ((l.left == x) || (l.right == x))

-- what two steps in a row say: `<=` where both are `<=`
abbrev pub chained : Op → Op → Op
chained Eq o = Lt
chained Ne o = Lt
chained Lt o = Lt
chained AtMost o = o

-- a step taken as a strict one, if so wanted
abbrev pub taken_as : Bool → Op → Op
taken_as true o = Lt
taken_as false o = o

-- where the literal bounds x from below, that bound and a step up from x say so of the level `upper`
abbrev pub is_below : List Atom → ℕ → Op → ℕ → Lit → Bool
is_below c x step upper l =
    if is_lower x l then op_holds (chained l.op step) (atom_at c l.left) (atom_at c upper) else true

-- what a literal of the cube says without x: an upper bound of x is above each lower one,
-- a literal that doesn't speak of x is as it was, and any other says nothing
abbrev pub remains : List Atom → ℕ → Bool → List Lit → Lit → Bool
remains c x strict cube l =
    if is_upper x l then list_all (is_below c x (taken_as strict l.op) l.right) cube else (if (l.left == x) || (l.right == x) then true else lit_holds c l)

-- r says what remains of all literals, the lower bounds taken as strict ones if so wanted
abbrev pub JoinsBounds : ℕ → Bool → List Lit → List Lit → Type 0
JoinsBounds x strict cube r = (c : List Atom) → cube_holds c r ≡ list_all (remains c x strict cube) cube

-- the new cube says what the old one does, and what the lower bounds of x and a step from x say of the level `upper`
abbrev pub AddsLowerBounds : ℕ → Op → ℕ → List Lit → List Lit → List Lit → Type 0
AddsLowerBounds x step upper cube old new =
    (c : List Atom) → cube_holds c new ≡ (cube_holds c old && list_all (is_below c x step upper) cube)

-- the literal bounds x weakly from below, and the cube holds with that bound in place of x
abbrev pub is_met : List Atom → ℕ → List Lit → Lit → Bool
is_met c x cube l = is_weak_lower x l && cube_holds c (map (renamed x l.left) cube)
