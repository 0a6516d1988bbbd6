-- The law of the tests' round: equivalent families are led to equivalent families.
use Rattle.std.specs.Prelude.{◌≡◌, Bool, true, false, ◌&&◌, nat_eq, nat_le, List, [], ◌∷◌, refl}
use Rattle.std.specs.declared.option.Option.{Option}
use Rattle.std.specs.declared.option.Option.TheVariants.{Some, None}
use Rattle.std.proofs.Common.{sym, ◌∙◌, subst}
use Rattle.std.proofs.lemmas.Bool.{eqb-true}
use Rattle.lois_base.proofs.Both.{holds_append, holds_both}
use Rattle.lois_base.specs.Atom.{Atom}
use Rattle.lois_base.specs.Truth.{holds}
use Rattle.lois_base.specs.declared.guards.Lit.{Lit}
use Rattle.lois_rounds.specs.Equivalences.{equivalent_sym, equivalent_trans}
use Rattle.lois_rounds.specs.Families.{MemberD, FamilyD, IsEquivalent, AreEquivalent}
use Rattle.lois_rounds.specs.Rounds.{RespectsEquivalence}
use Rattle.lois_vectors_rounds.specs.Worked.{joined, joined_where, are_linked, linked, chained_from, chained, Chains}

joined_same : (grows : Bool) (c : List Atom) (g h g' h' : List (List Lit)) → holds c g ≡ holds c g' → holds c h ≡ holds c h' → holds c (joined grows g h) ≡ holds c (joined grows g' h')
joined_same true c g h g' h' d e = rw (holds_append c g h, holds_append c g' h', d, e)
joined_same false c g h g' h' d e = rw (holds_both c g h, holds_both c g' h', d, e)

joined_where_same : (b grows : Bool) (p q m n : MemberD) → (b ≡ true → p.0 ≡ m.0) → IsEquivalent p q → IsEquivalent m n → IsEquivalent (joined_where b grows p m) (joined_where b grows q n)
joined_where_same true grows p q m n same before own =
    record {
      size = own.size;
      truth = λ c l. joined_same grows c m.1 p.1 n.1 q.1 (own.truth c l) (before.truth c (l ∙ sym (same refl)));
    }
joined_where_same false grows p q m n same before own = own

pub and_left : (p q : Bool) → (p && q) ≡ true → p ≡ true
and_left true q h = refl
and_left false q h = h

pub linked_size : (p m : MemberD) → are_linked p m ≡ true → p.0 ≡ m.0
linked_size p m h = eqb-true p.0 m.0 (and_left (nat_eq p.0 m.0) (nat_le m.0 2) h)

-- both are there and equivalent, or neither
abbrev OptionsAre : Option MemberD → Option MemberD → Type 0
OptionsAre None None = Unit {0}
OptionsAre None (Some q) = ⊥
OptionsAre (Some p) None = ⊥
OptionsAre (Some p) (Some q) = IsEquivalent p q

linked_same : (grows : Bool) (o r : Option MemberD) (m n : MemberD) → OptionsAre o r → IsEquivalent m n → IsEquivalent (linked grows o m) (linked grows r n)
linked_same grows None None m n before own = own
linked_same grows None (Some q) m n before own = absurd before
linked_same grows (Some p) None m n before own = absurd before
linked_same grows (Some p) (Some q) m n before own =
    let e : are_linked p m ≡ are_linked q n = rw (before.size, own.size) in
    subst (λ b. IsEquivalent (linked grows (Some p) m) (joined_where b grows q n)) e (joined_where_same (are_linked p m) grows p q m n (linked_size p m) before own)

chained_same : (grows : Bool) (o r : Option MemberD) (f g : FamilyD) → OptionsAre o r → AreEquivalent f g → AreEquivalent (chained_from grows o f) (chained_from grows r g)
chained_same grows o r [] [] before h = tt
chained_same grows o r [] (n ∷ g) before h = absurd h
chained_same grows o r (m ∷ f) [] before h = absurd h
chained_same grows o r (m ∷ f) (n ∷ g) before h =
    (linked_same grows o r m n before h.0, chained_same grows (Some m) (Some n) f g h.0 h.1)

pub chains_respect : (grows : Bool) → RespectsEquivalence (Chains grows)
chains_respect grows f g f' g' f_fits g_fits same led led' =
    equivalent_trans f' (chained grows f) g' (equivalent_sym (chained grows f) f' led) (equivalent_trans (chained grows f) (chained grows g) g' (chained_same grows None None f g tt same) led')
