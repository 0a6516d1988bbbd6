-- Stores: the names in scope with their values, in the order in which they were made.
use Rattle.std.specs.Prelude.{◌≡◌, ℕ, ◌+◌, List, [], ◌∷◌, Option, Some, None, if◌then◌else◌, bytes_eq}
use Rattle.lois_base.specs.Atom.{Atom}
use Rattle.lois_base.specs.Data.{var}
use Rattle.lois_base.specs.Values.{PointValue, point, IsSame, IsDeeper}
use Rattle.lois_script.specs.Tree.{ParamD}

-- A name with a value: a name of a store, a line that was printed, or a loop's name with the element it stands for.
pub record NamedValue : Type 0 where
  pub name : List ℕ
  pub holds : PointValue

abbrev pub named : List ℕ → PointValue → NamedValue
named x v = record { name = x; holds = v }

abbrev pub NamedValues : Type 0
NamedValues = List NamedValue

-- what a name holds
abbrev pub looked_up : List ℕ → NamedValues → Option PointValue
looked_up x [] = None
looked_up x (b ∷ s) = if (bytes_eq b.name x) then Some b.holds else looked_up x s

-- x now holds v, as a new last name if it is none of them; every other name is as before
abbrev pub stored : List ℕ → PointValue → NamedValues → NamedValues
stored x v [] = named x v ∷ []
stored x v (b ∷ s) = if (bytes_eq b.name x) then named x v ∷ s else (b ∷ stored x v s)

-- equal names in the same order, with values that are the same one by one
abbrev pub AreSameNamed : NamedValues → NamedValues → Type 0
AreSameNamed [] [] = Unit {0}
AreSameNamed (b ∷ s) (e ∷ t) = (b.name ≡ e.name) × IsSame b.holds e.holds × AreSameNamed s t
AreSameNamed _ _ = ⊥

-- the parameters from number i on hold the choice's atoms from i on
abbrev pub opening_from : List ParamD → List Atom → ℕ → NamedValues
opening_from [] c i = []
opening_from (p ∷ ps) c i = named p.name (point (var i) c) ∷ opening_from ps c (i + 1)

-- the opening store for a choice of the parameters: parameter i holds atom i, and nothing else is in it
abbrev pub opening : List ParamD → List Atom → NamedValues
opening ps c = opening_from ps c 0

-- no value on the way is deeper than this
abbrev pub depth_limit : ℕ
depth_limit = 64

abbrev pub IsShallow : PointValue → Type 0
IsShallow v = IsDeeper v depth_limit → ⊥
