-- Literals that say nothing new, and literals that can't hold.
use Rattle.std.specs.Prelude.{◌≡◌, ◌⊎◌, Bool, true, false, ◌&&◌, ◌==◌, List, [], ◌∷◌, ◌++◌, IsTrue}
use Rattle.lois_base.specs.Atom.{Atom}
use Rattle.lois_base.specs.Truth.{lit_holds, cube_holds}
use Rattle.lois_base.specs.declared.guards.Lit.{Lit}
use Rattle.lois_base.specs.declared.guards.Op.{Op}
use Rattle.lois_base.specs.declared.guards.Op.TheVariants.{Eq, Ne, Lt, AtMost}

abbrev pub is_eq : Op → Bool
is_eq Eq = true
is_eq Ne = false
is_eq Lt = false
is_eq AtMost = false

-- the operator says that its levels differ
abbrev pub is_apart : Op → Bool
is_apart Eq = false
is_apart Ne = true
is_apart Lt = true
is_apart AtMost = false

-- a level below itself, or apart from itself
abbrev pub is_absurd : Lit → Bool
is_absurd l = (l.left == l.right) && is_apart l.op

-- the literal holds wherever the cube does
abbrev pub EntailsLiteral : List Lit → Lit → Type 0
EntailsLiteral cube l = (c : List Atom) → IsTrue (cube_holds c cube) → IsTrue (lit_holds c l)

-- the cube with one more literal, or as it was where it entails that one
abbrev pub IsWith : List Lit → List Lit → Lit → Type 0
IsWith old new l = (new ≡ old ++ l ∷ []) ⊎ ((new ≡ old) × EntailsLiteral old l)
