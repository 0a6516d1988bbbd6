-- Terms that are written alike: one of them is the other with its levels under other names.
use Rattle.std.specs.Prelude.{◌≡◌, ℕ, ◌-◌, ◌<◌, ◌≤◌, List, [], ◌∷◌, length, slice_index, nat_lt, MatchBool, ◌⊎◌}
use Rattle.lois_base.specs.Data.{TermD, var, tag, tup, coll, TermsD, no_terms, term, CompD, comp, CompsD, no_comps, more}
use Rattle.lois_base.specs.declared.guards.Lit.{Lit}

-- both levels have the same name, or both are the same binder inside of the terms
abbrev pub LevelsMatch : List ℕ → List ℕ → ℕ → ℕ → Type 0
LevelsMatch sn tn i j =
    MatchBool (nat_lt i (length sn)) ((j < length tn) × (slice_index sn i ≡ slice_index tn j)) ((length tn ≤ j) × (i - length sn ≡ j - length tn))

abbrev pub LitsMatch : List ℕ → List ℕ → Lit → Lit → Type 0
LitsMatch sn tn l m = (l.op ≡ m.op) × LevelsMatch sn tn l.left m.left × LevelsMatch sn tn l.right m.right

abbrev pub CubesMatch : List ℕ → List ℕ → List Lit → List Lit → Type 0
CubesMatch sn tn [] [] = Unit {0}
CubesMatch sn tn (l ∷ k) (m ∷ q) = LitsMatch sn tn l m × CubesMatch sn tn k q
CubesMatch sn tn _ _ = ⊥

abbrev pub GuardsMatch : List ℕ → List ℕ → List (List Lit) → List (List Lit) → Type 0
GuardsMatch sn tn [] [] = Unit {0}
GuardsMatch sn tn (k ∷ g) (q ∷ h) = CubesMatch sn tn k q × GuardsMatch sn tn g h
GuardsMatch sn tn _ _ = ⊥

abbrev mutual
  pub TermsAlike : List ℕ → List ℕ → TermD → TermD → Type 0
  TermsAlike sn tn (var i) (var j) = LevelsMatch sn tn i j
  TermsAlike sn tn (tag n) (tag k) = n ≡ k
  TermsAlike sn tn (tup ts) (tup ss) = PartsAlike sn tn ts ss
  TermsAlike sn tn (coll cs) (coll ks) = ItemsAlike sn tn cs ks
  TermsAlike sn tn _ _ = ⊥

  pub PartsAlike : List ℕ → List ℕ → TermsD → TermsD → Type 0
  PartsAlike sn tn no_terms no_terms = Unit {0}
  PartsAlike sn tn (term t ts) (term s ss) = TermsAlike sn tn t s × PartsAlike sn tn ts ss
  PartsAlike sn tn _ _ = ⊥

  pub CompsAlike : List ℕ → List ℕ → CompD → CompD → Type 0
  CompsAlike sn tn (comp m g t) (comp n h s) = (m ≡ n) × GuardsMatch sn tn g h × TermsAlike sn tn t s

  pub ItemsAlike : List ℕ → List ℕ → CompsD → CompsD → Type 0
  ItemsAlike sn tn no_comps no_comps = Unit {0}
  ItemsAlike sn tn (more k ks) (more q qs) = CompsAlike sn tn k q × ItemsAlike sn tn ks qs
  ItemsAlike sn tn _ _ = ⊥

-- some comprehension of the list is written as k is
abbrev pub IsListed : List ℕ → List ℕ → CompD → CompsD → Type 0
IsListed sn tn k no_comps = ⊥
IsListed sn tn k (more q qs) = CompsAlike sn tn k q ⊎ IsListed sn tn k qs
