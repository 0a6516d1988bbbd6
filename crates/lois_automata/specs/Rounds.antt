-- The rounds that spread over moves. A family has a member for each comprehension of a set of nodes: where the member holds, the
-- item is known to be reached.
use Rattle.std.specs.Prelude.{◌≡◌, ℕ, ◌+◌, nat_eq, Bool, true, false, ◌&&◌, List, [], ◌∷◌, ◌++◌, length, IsTrue, ◌↔◌, ◌⊎◌}
use Rattle.lois_base.specs.Atom.{Atom}
use Rattle.lois_base.specs.Data.{TermD, comp, CompsD, no_comps, more}
use Rattle.lois_base.specs.Truth.{holds}
use Rattle.lois_base.specs.Values.{PointValue, point}
use Rattle.lois_base.specs.declared.guards.Lit.{Lit}
use Rattle.lois_algebra.specs.Gathered.{IsAmong}
use Rattle.lois_rounds.specs.Families.{MemberD, FamilyD, AdmitsFamily, AreEquivalent, AreWeakened}
use Rattle.lois_automata.specs.Reachability.{LeadsTo}

-- what a round goes over: the number of levels, which choices are admitted, the nodes, and the set of the moves
pub record RoundParameters : Type 0 where
  pub size : ℕ
  pub under : List (List Lit)
  pub nodes : CompsD
  pub moves : TermD

-- the family has a member for each comprehension, whose levels are the first n and the comprehension's binders
abbrev pub is_over : ℕ → CompsD → FamilyD → Bool
is_over n no_comps [] = true
is_over n (more (comp m g t) ks) (r ∷ f) = nat_eq r.0 (n + m) && is_over n ks f
is_over n _ _ = false

-- the comprehensions with the members of the family in place of their guards: their values are held by the family
abbrev pub held : CompsD → FamilyD → CompsD
held (more (comp m g t) ks) (r ∷ f) = more (comp m r.1 t) (held ks f)
held _ _ = no_comps

-- the choice is admitted, the guard holds, and a move leads to the item from a value that the family holds
pub record IsLedTo (x : RoundParameters) (f : FamilyD) (g : List (List Lit)) (t : TermD) (c e : List Atom) : Type 0 where
  pub admitted : IsTrue (holds c x.under)
  pub guard : IsTrue (holds (c ++ e) g)
  pub from : (p : PointValue) × IsAmong (held x.nodes f) c p × LeadsTo (point x.moves c) p (point t (c ++ e))

-- after a round the member for a comprehension holds where it held, and where a move leads to the item
pub record IsPropagatedMember (x : RoundParameters) (f : FamilyD) (m : ℕ) (g : List (List Lit)) (t : TermD) (before after : MemberD) : Type 0 where
  pub size : after.0 ≡ before.0
  pub truth : (c e : List Atom) → length c ≡ x.size → length e ≡ m →
      IsTrue (holds (c ++ e) after.1) ↔ (IsTrue (holds (c ++ e) before.1) ⊎ IsLedTo x f g t c e)

abbrev pub ArePropagated : RoundParameters → FamilyD → CompsD → FamilyD → FamilyD → Type 0
ArePropagated x f no_comps [] [] = Unit {0}
ArePropagated x f (more (comp m g t) ks) (b ∷ before) (a ∷ after) =
    IsPropagatedMember x f m g t b a × ArePropagated x f ks before after
ArePropagated x f _ _ _ = ⊥

abbrev pub PropagatesIf : Bool → RoundParameters → FamilyD → FamilyD → Type 0
PropagatesIf true x f g = ArePropagated x f x.nodes f g
PropagatesIf false x f g = AreEquivalent f g

-- one round; a family that isn't one over the nodes is left as it is
abbrev pub Propagates : RoundParameters → FamilyD → FamilyD → Type 0
Propagates x f g = PropagatesIf (is_over x.size x.nodes f) x f g

-- where a move leads to the item from what f holds, the member for it holds, or a move leads to it from what g holds
abbrev pub IsSettledMember : RoundParameters → FamilyD → FamilyD → ℕ → List (List Lit) → TermD → MemberD → Type 0
IsSettledMember x f g m q t b =
    (c e : List Atom) → length c ≡ x.size → length e ≡ m → IsLedTo x f q t c e → (IsLedTo x g q t c e → ⊥) → IsTrue (holds (c ++ e) b.1)

abbrev pub AreSettled : RoundParameters → FamilyD → FamilyD → CompsD → FamilyD → Type 0
AreSettled x f g no_comps b = Unit {0}
AreSettled x f g (more (comp m q t) ks) [] = Unit {0}
AreSettled x f g (more (comp m q t) ks) (r ∷ b) = IsSettledMember x f g m q t r × AreSettled x f g ks b

-- f holds all that g does, and moves lead from the rest of f to nothing that f doesn't hold; g has `<` only where f has it
pub record IsSettled (x : RoundParameters) (f g : FamilyD) : Type 0 where
  pub within : AreWeakened g f
  pub settled : AreSettled x f g x.nodes f
  pub operators : (o : Bool) → AdmitsFamily o f → AdmitsFamily o g
