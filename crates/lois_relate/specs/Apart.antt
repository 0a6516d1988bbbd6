-- Terms that differ at all choices.
use Rattle.std.specs.Prelude.{List, IsTrue}
use Rattle.lois_base.specs.Atom.{Atom}
use Rattle.lois_base.specs.Data.{TermD, CompD, comp}
use Rattle.lois_base.specs.Truth.{holds}
use Rattle.lois_base.specs.Values.{point, IsSame, SameAt}

-- the terms have the same value at no two choices
abbrev pub AreNeverSame : TermD → TermD → Type 0
AreNeverSame s t = (c d : List Atom) → IsSame (point s c) (point t d) → ⊥

-- wherever the guard of the comprehension holds, its item has another value than s
abbrev pub LeavesOut : CompD → TermD → Type 0
LeavesOut (comp m g t) s = (c d : List Atom) → IsTrue (holds c g) → SameAt t c s d → ⊥
