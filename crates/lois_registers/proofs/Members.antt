-- What is in a set of comprehensions that are listed.
use Rattle.std.proofs.Common.{◌≡◌, zero, suc, List, [], ◌∷◌, ◌++◌, map, refl, sym, subst, ◌⊎◌, inl, inr, arith}
use Rattle.std.specs.List.{Contains, flat_map}
use Rattle.lois_base.specs.Atom.{Atom}
use Rattle.lois_base.specs.Data.{TermD, CompD, comps_of}
use Rattle.lois_base.specs.Values.{MakesAt, MemberAt}
use Rattle.lois_base.proofs.Appended.{member_append}

module _ {X : Type 0} (x : X) (xs : List X) where
  pub contains_first : Contains (x ∷ xs) x
  contains_first = (0, omega arith, refl)

  pub contains_later : (y : X) → Contains xs y → Contains (x ∷ xs) y
  contains_later y (k, l, e) = (suc k, omega (arith, l), e)

  pub contains_cases : (y : X) → Contains (x ∷ xs) y → (x ≡ y) ⊎ Contains xs y
  contains_cases y (zero, l, e) = inl e
  contains_cases y (suc k, l, e) = inr (k, omega (arith, l), e)

module _ (w : TermD) (x c : List Atom) where
  module _ {X : Type 0} (f : X → CompD) where
    pub member_map : (xs : List X) → MemberAt w x (comps_of (map f xs)) c → (a : X) × Contains xs a × MakesAt w x (f a) c
    member_map [] h = absurd h
    member_map (a ∷ xs) (inl h) = (a, contains_first a xs, h)
    member_map (a ∷ xs) (inr h) = let r = member_map xs h in (r.0, contains_later a xs r.0 r.1, r.2)

    pub map_member : (xs : List X) (a : X) → Contains xs a → MakesAt w x (f a) c → MemberAt w x (comps_of (map f xs)) c
    map_member [] a (k, l, e) h = absurd (omega (arith, l))
    map_member (b ∷ xs) a i h = go (contains_cases b xs a i) (λ j. map_member xs a j h)
      where
        go : (b ≡ a) ⊎ Contains xs a → (Contains xs a → MemberAt w x (comps_of (map f xs)) c) → MemberAt w x (comps_of (map f (b ∷ xs))) c
        go (inl e) r = inl (subst (λ z. MakesAt w x (f z) c) (sym e) h)
        go (inr j) r = inr (r j)

  module _ {X : Type 0} (f : X → List CompD) where
    pub member_flat : (xs : List X) → MemberAt w x (comps_of (flat_map f xs)) c → (a : X) × Contains xs a × MemberAt w x (comps_of (f a)) c
    member_flat [] h = absurd h
    member_flat (a ∷ xs) h = go ((member_append w x c (f a) (flat_map f xs)).0 h) (λ j. member_flat xs j)
      where
        go : MemberAt w x (comps_of (f a)) c ⊎ MemberAt w x (comps_of (flat_map f xs)) c → (MemberAt w x (comps_of (flat_map f xs)) c → (b : X) × Contains xs b × MemberAt w x (comps_of (f b)) c) → (b : X) × Contains (a ∷ xs) b × MemberAt w x (comps_of (f b)) c
        go (inl i) more = (a, contains_first a xs, i)
        go (inr j) more = let r = more j in (r.0, contains_later a xs r.0 r.1, r.2)

    pub flat_member : (xs : List X) (a : X) → Contains xs a → MemberAt w x (comps_of (f a)) c → MemberAt w x (comps_of (flat_map f xs)) c
    flat_member [] a (k, l, e) h = absurd (omega (arith, l))
    flat_member (b ∷ xs) a i h = go (contains_cases b xs a i) (λ j. flat_member xs a j h)
      where
        go : (b ≡ a) ⊎ Contains xs a → (Contains xs a → MemberAt w x (comps_of (flat_map f xs)) c) → MemberAt w x (comps_of (flat_map f (b ∷ xs))) c
        go (inl e) r = (member_append w x c (f b) (flat_map f xs)).1 (inl (subst (λ z. MemberAt w x (comps_of (f z)) c) (sym e) h))
        go (inr j) r = (member_append w x c (f b) (flat_map f xs)).1 (inr (r j))

-- a fact of each comprehension of a list, where the list's fact is one of the items one by one
module _ (P : CompD → Type 0) where
  abbrev pub Each : List CompD → Type 0
  Each [] = Unit {0}
  Each (k ∷ ks) = P k × Each ks

  pub each_append : (ks ls : List CompD) → Each ks → Each ls → Each (ks ++ ls)
  each_append [] ls h i = i
  each_append (k ∷ ks) ls h i = (h.0, each_append ks ls h.1 i)

  pub each_map : {X : Type 0} (f : X → CompD) (xs : List X) → ((a : X) → Contains xs a → P (f a)) → Each (map f xs)
  each_map f [] h = tt
  each_map f (a ∷ xs) h = (h a (contains_first a xs), each_map f xs (λ b i. h b (contains_later a xs b i)))

  pub each_flat : {X : Type 0} (f : X → List CompD) (xs : List X) → ((a : X) → Contains xs a → Each (f a)) → Each (flat_map f xs)
  each_flat f [] h = tt
  each_flat f (a ∷ xs) h = each_append (f a) (flat_map f xs) (h a (contains_first a xs)) (each_flat f xs (λ b i. h b (contains_later a xs b i)))
