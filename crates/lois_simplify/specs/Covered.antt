-- Comprehensions whose members others have.
use Rattle.std.specs.Prelude.{◌≡◌, ℕ, List, ◌++◌, length, IsTrue}
use Rattle.lois_base.specs.Atom.{Atom}
use Rattle.lois_base.specs.Data.{CompD, comp, comps_of}
use Rattle.lois_base.specs.Truth.{holds}
use Rattle.lois_base.specs.Values.{IsExtension, InAt}
use Rattle.lois_base.specs.declared.guards.Lit.{Lit}

-- at each choice of n atoms at which u holds, each member of the comprehension is in the set of the others
abbrev pub IsCovered : List (List Lit) → ℕ → List CompD → CompD → Type 0
IsCovered u n others (comp m g t) =
    (c e : List Atom) → length c ≡ n → IsTrue (holds c u) → IsExtension c m g e → InAt t (c ++ e) (comps_of others) c
