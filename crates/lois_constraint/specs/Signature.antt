-- What cubes show at a glance: the order of the levels below eight, in one word.
use Rattle.std.specs.Prelude.{◌≡◌, ℕ, ◌+◌, ◌*◌, ◌<◌, List, IsTrue, ⊤}
use Rattle.std.specs.Int.{bit_at}
use Rattle.lois_base.specs.Atom.{Atom}
use Rattle.lois_base.specs.Truth.{lit_holds, cube_holds}
use Rattle.lois_base.specs.declared.guards.Lit.{Lit}
use Rattle.lois_base.specs.declared.guards.Op.{Op}
use Rattle.lois_base.specs.declared.guards.Op.TheVariants.{Eq, Ne, Lt, AtMost}

-- the bit that says whether one level is at most another, of levels below eight
abbrev pub bit_index : ℕ → ℕ → ℕ
bit_index low high = 8 * low + high

-- the literal holds wherever the cube does
abbrev pub EntailsLit : List Lit → Lit → Type 0
EntailsLit k l = (c : List Atom) → IsTrue (cube_holds c k) → IsTrue (lit_holds c l)

-- an order of the levels below eight in which the operator stands between two levels; of '!=' it says nothing
abbrev pub HasOrderBits : ℕ → Op → ℕ → ℕ → Type 0
HasOrderBits order Eq a b = (bit_at order (bit_index a b) ≡ 1) × (bit_at order (bit_index b a) ≡ 1)
HasOrderBits order Ne a b = ⊤
HasOrderBits order Lt a b = (bit_at order (bit_index a b) ≡ 1) × (bit_at order (bit_index b a) ≡ 0)
HasOrderBits order AtMost a b = bit_at order (bit_index a b) ≡ 1

-- the same of a literal, if its levels are below eight
abbrev pub RecordsLit : ℕ → Lit → Type 0
RecordsLit order l = l.left < 8 → l.right < 8 → HasOrderBits order l.op l.left l.right

-- the order has all of some bits and none of others
abbrev pub MatchesMask : ℕ → ℕ → ℕ → Type 0
MatchesMask order needed refused =
    ((i : ℕ) → bit_at needed i ≡ 1 → bit_at order i ≡ 1) × ((i : ℕ) → bit_at refused i ≡ 1 → bit_at order i ≡ 0)
