-- A cube with one more literal.
use Rattle.std.proofs.Common.{◌≡◌, true, false, not, List, ap}
use Rattle.std.proofs.lemmas.List.Elements.{All-contains}
use Rattle.std.proofs.lemmas.List.Sums.{AllPass-from_list_all}
use Rattle.std.specs.List.{Contains}
use Rattle.lois_base.specs.Atom.{Atom}
use Rattle.lois_base.specs.Truth.{atom_at, op_holds, lit_holds}
use Rattle.lois_base.specs.declared.guards.Lit.{Lit}
use Rattle.lois_base.specs.declared.guards.Op.{Op}
use Rattle.lois_base.specs.declared.guards.Op.TheVariants.{Eq, Ne, Lt, AtMost}
use Rattle.lois_base.proofs.Order.{equal_refl, below_irrefl}
use Rattle.lois_order.specs.Cubes.{is_apart, EntailsLiteral}

pub contained_entails : (cube : List Lit) (l : Lit) → Contains cube l → EntailsLiteral cube l
contained_entails cube l k c h = All-contains (λ x. lit_holds c x ≡ true) cube l (AllPass-from_list_all (lit_holds c) cube h) k

holds_itself : (o : Op) (a : Atom) → is_apart o ≡ false → op_holds o a a ≡ true
holds_itself Eq a h = equal_refl a
holds_itself Ne a h = absurd (cc)
holds_itself Lt a h = absurd (cc)
holds_itself AtMost a h = ap not (below_irrefl a)

pub same_entails : (cube : List Lit) (l : Lit) → is_apart l.op ≡ false → l.left ≡ l.right → EntailsLiteral cube l
same_entails cube l e k c h = rw k (holds_itself l.op (atom_at c l.right) e)
