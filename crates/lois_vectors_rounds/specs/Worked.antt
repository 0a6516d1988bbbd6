-- The round of the tests: each member takes from the one before it.
use Rattle.std.specs.Prelude.{◌≡◌, ℕ, zero, suc, Bool, true, false, ◌&&◌, nat_eq, nat_le, ◌<◌, List, [], ◌∷◌, ◌++◌, length, slice_index_or}
use Rattle.std.specs.declared.option.Option.{Option}
use Rattle.std.specs.declared.option.Option.TheVariants.{Some, None}
use Rattle.lois_base.specs.Normal.{both}
use Rattle.lois_base.specs.Truth.{holds, sampled}
use Rattle.lois_base.specs.declared.guards.Lit.{Lit}
use Rattle.lois_rounds.specs.Families.{MemberD, FamilyD, AreEquivalent}

-- either constraint where members grow, and else both
abbrev pub joined : Bool → List (List Lit) → List (List Lit) → List (List Lit)
joined true g h = g ++ h
joined false g h = both g h

abbrev pub joined_where : Bool → Bool → MemberD → MemberD → MemberD
joined_where true grows p m = (m.0, joined grows m.1 p.1)
joined_where false grows p m = m

-- members of one size, of at most 2
abbrev pub are_linked : MemberD → MemberD → Bool
are_linked p m = nat_eq p.0 m.0 && nat_le m.0 2

-- a member after the one before it, if there is one
abbrev pub linked : Bool → Option MemberD → MemberD → MemberD
linked grows None m = m
linked grows (Some p) m = joined_where (are_linked p m) grows p m

abbrev pub chained_from : Bool → Option MemberD → FamilyD → FamilyD
chained_from grows o [] = []
chained_from grows o (m ∷ f) = linked grows o m ∷ chained_from grows (Some m) f

abbrev pub chained : Bool → FamilyD → FamilyD
chained grows = chained_from grows None

abbrev pub Chains : Bool → FamilyD → FamilyD → Type 0
Chains grows f g = AreEquivalent (chained grows f) g

abbrev pub AgreeAt : List ℕ → List (List Lit) → List (List Lit) → Type 0
AgreeAt s g h = holds (sampled s) g ≡ holds (sampled s) h

-- at each list of n numbers below n, where n is at most 2
abbrev pub AgreeOnSamples : ℕ → List (List Lit) → List (List Lit) → Type 0
AgreeOnSamples zero g h = AgreeAt [] g h
AgreeOnSamples (suc zero) g h = AgreeAt (0 ∷ []) g h
AgreeOnSamples (suc (suc zero)) g h =
    AgreeAt (0 ∷ 0 ∷ []) g h × AgreeAt (0 ∷ 1 ∷ []) g h × AgreeAt (1 ∷ 0 ∷ []) g h × AgreeAt (1 ∷ 1 ∷ []) g h
AgreeOnSamples (suc (suc (suc n))) g h = Unit {0}

-- members of one size that agree there
abbrev pub MembersAgree : MemberD → MemberD → Type 0
MembersAgree m n = (m.0 ≡ n.0) × AgreeOnSamples m.0 m.1 n.1

abbrev pub EachAgrees : FamilyD → FamilyD → Type 0
EachAgrees f g =
    (k : ℕ) (d : MemberD) → k < length f → MembersAgree (slice_index_or f k d) (slice_index_or g k d)
