-- A normal set of tagged pairs has one comprehension for each tag.
use Rattle.std.proofs.Common.{◌≡◌, ℕ, zero, suc, ◌+◌, ◌%◌, ◌<◌, ◌≤◌, min, Bool, true, false, ◌||◌, List, [], ◌∷◌, length, ◌⊎◌, refl, ap, subst, arith}
use mathlib.Core.Logic.{inl, inr}
use Rattle.std.specs.Prelude.{IsFalse, eqb}
use Rattle.std.specs.List.{IsDistinct, AllByRecursion, list_any}
use Rattle.std.proofs.lemmas.Bool.{eqb-true, eq-eqb, ne_eqb, or_left, or_right}
use Rattle.std.proofs.lemmas.Map.Steps.{length-le_from_distinct_below, le-length_from_below}
use Rattle.lois_base.specs.Atom.{Atom, equal, whole}
use Rattle.lois_base.specs.Data.{var, tag, tup, coll, CompD, comp, CompsD, no_comps, more}
use Rattle.lois_base.specs.Fits.{ItemsFit}
use Rattle.lois_base.specs.Normal.{concatenated, EachIsNormal}
use Rattle.lois_base.specs.Validity.{AdmitsItems}
use Rattle.lois_base.specs.Values.{PointValue, point, MakesAt, IsSame, IsIn}
use Rattle.lois_base.specs.declared.guards.Lit.{Lit}
use Rattle.lois_base.proofs.Members.{same_refl, same_trans}
use Rattle.lois_context.specs.ItemCounts.{count_of_items}
use Rattle.lois_meaning.specs.Kinds.{IsSetOf}
use Rattle.lois_make.specs.Laws.{NormalHasOneForEach}
use Rattle.lois_make.specs.MadeTree.{made_tag}
use Rattle.lois_make.specs.MadeValue.{tagged, IsTagged, IsMade}
use Rattle.lois_make.proofs.MadeOrbits.{IsOrbit, own_tag}
use Rattle.lois_make.proofs.MadeSets.{in_more, in_rest}

-- the comprehensions are orbits of these seven tags, one by one
abbrev AreOrbits : List ℕ → CompsD → Type 0
AreOrbits [] no_comps = Unit {0}
AreOrbits (r ∷ rs) (more k ks) = (r < 7) × (IsOrbit (made_tag r) k × AreOrbits rs ks)
AreOrbits _ _ = ⊥

last_digit : List ℕ → ℕ
last_digit (b ∷ d ∷ []) = d
last_digit _ = 0

one_rank : (q r : ℕ) → q < 7 → r < 7 → made_tag q ≡ made_tag r → q ≡ r
unfolding last_digit
one_rank q r q_low r_low e = let same : 48 + q % 7 ≡ 48 + r % 7 = ap last_digit e in omega (arith, same)

in_joined : (bs ks : CompsD) (w : PointValue) → IsIn w (point (coll ks) []) → IsIn w (point (coll (concatenated bs ks)) [])
in_joined no_comps ks w h = h
in_joined (more b bs) ks w h = in_rest b (concatenated bs ks) [] w (in_joined bs ks w h)

-- a pair whose tag is that of an orbit is in it
in_orbit : (name : List ℕ) (k : CompD) (ks : CompsD) (w : PointValue) → IsOrbit name k → IsTagged name w → IsIn w (point (coll (more k ks)) [])
in_orbit name k ks w orbit (a, (b, (differ, s))) =
    let made = orbit.all a b differ in
    (made.0, inl made.1, same_trans w (tagged name a b) made.0 s made.2)

-- the tag of a pair in the set is the tag of some comprehension
rank_found : (rs : List ℕ) (ks : CompsD) (q : ℕ) (a b : Atom) → AreOrbits rs ks → q < 7 → IsIn (tagged (made_tag q) a b) (point (coll ks) []) → list_any (eqb q) rs ≡ true
rank_found [] no_comps q a b orbits low h = absurd h.1
rank_found (r ∷ rs) (more k ks) q a b orbits low h = go (rank_found rs ks q a b orbits.1.1 low) (in_more k ks [] (tagged (made_tag q) a b) h)
  where
    go : (IsIn (tagged (made_tag q) a b) (point (coll ks) []) → list_any (eqb q) rs ≡ true) → ((u : PointValue) × MakesAt u.term_of u.choice k [] × IsSame (tagged (made_tag q) a b) u) ⊎ IsIn (tagged (made_tag q) a b) (point (coll ks) []) → list_any (eqb q) (r ∷ rs) ≡ true
    go later (inl (u, makes, s)) =
        let same : q ≡ r = one_rank q r low orbits.0 (orbits.1.0.only (made_tag q) a b u makes s) in
        or_left (eqb q r) (list_any (eqb q) rs) (eq-eqb q r same)
    go later (inr rest) = or_right (eqb q r) (list_any (eqb q) rs) (later rest)
rank_found [] (more k ks) q a b orbits low h = absurd orbits
rank_found (r ∷ rs) no_comps q a b orbits low h = absurd orbits

-- a pair that is in no comprehension has none of their tags
new_rank : (rs : List ℕ) (ks : CompsD) (r : ℕ) (w : PointValue) → AreOrbits rs ks → IsTagged (made_tag r) w → (IsIn w (point (coll ks) []) → ⊥) → AllByRecursion (λ y. eqb r y ≡ false) rs
new_rank [] no_comps r w orbits tagged out = tt
new_rank (y ∷ rs) (more k ks) r w orbits tagged out = (
  ne_eqb r y (λ same. out (in_orbit (made_tag y) k ks w orbits.1.0 (subst (λ z. IsTagged (made_tag z) w) same tagged))),
  new_rank rs ks r w orbits.1.1 tagged (λ h. out (in_rest k ks [] w h)),
)
new_rank [] (more k ks) r w orbits tagged out = absurd orbits
new_rank (y ∷ rs) no_comps r w orbits tagged out = absurd orbits

-- the tags of the comprehensions, no two of them equal
pub record HasRanks (n : ℕ) (ks : CompsD) : Type 0 where
  pub ranks : List ℕ
  pub orbits : AreOrbits ranks ks
  pub count : length ranks ≡ count_of_items ks
  pub early : (q : ℕ) → list_any (eqb q) ranks ≡ true → q < min n 7
  pub distinct : IsDistinct eqb ranks

ranks_of : (n : ℕ) (ks before : CompsD) (u : List (List Lit)) → EachIsNormal ks before u 0 → ItemsFit 0 ks → AdmitsItems false ks → ((w : PointValue) → IsIn w (point (coll ks) []) → IsMade n w) → HasRanks n ks
unfolding IsDistinct
ranks_of n no_comps before u normal fits admits made = record { ranks = []; orbits = tt; count = refl; early = λ q h. absurd (cc); distinct = tt }
ranks_of n (more (comp m g t) ks) before u normal fits admits made =
    let one = own_tag n m g t (concatenated before ks) u normal.0.0 fits.0 admits.0 (λ w makes. made w (w, inl makes, same_refl w)) in
    let rest = ranks_of n ks (concatenated before (more (comp m g t) no_comps)) u normal.1 fits.1 admits.1 (λ w h. made w (in_rest (comp m g t) ks [] w h)) in
    record {
      ranks = one.rank ∷ rest.ranks;
      orbits = (one.low, (one.orbit, rest.orbits));
      count = ap suc rest.count;
      early = λ q h. early_or q one.rank rest.ranks one.low one.early rest.early h;
      distinct = (new_rank rest.ranks ks one.rank one.own rest.orbits one.tagged (λ h. one.alone (in_joined before ks one.own h)), rest.distinct);
    }
  where
    early_or : (q r : ℕ) (rs : List ℕ) → r < 7 → r < n → ((p : ℕ) → list_any (eqb p) rs ≡ true → p < min n 7) → list_any (eqb q) (r ∷ rs) ≡ true → q < min n 7
    early_or q r rs low early later h = go (eqb q r) refl h
      where
        go : (b : Bool) → eqb q r ≡ b → (b || list_any (eqb q) rs) ≡ true → q < min n 7
        go true is h = omega (arith, eqb-true q r is)
        go false is h = later q h

below_other : (q n : ℕ) → q ≤ n → eqb q n ≡ false → q < n
below_other q n most other = grind arith

made_pair : (n q : ℕ) → q < n → (a b : Atom) → IsFalse (equal a b) → IsMade n (tagged (made_tag q) a b)
made_pair zero q below a b differ = absurd (omega (arith, below))
made_pair (suc n) q below a b differ = go (λ less. made_pair n q less a b differ) (eqb q n) refl
  where
    go : (q < n → IsMade n (tagged (made_tag q) a b)) → (x : Bool) → eqb q n ≡ x → IsMade (suc n) (tagged (made_tag q) a b)
    go earlier true is = inr (a, (b, (differ, subst (λ z. IsSame (tagged (made_tag q) a b) (tagged (made_tag z) a b)) (eqb-true q n is) (same_refl (tagged (made_tag q) a b)))))
    go earlier false is = inl (earlier (below_other q n (omega (arith, below)) is))

count_is : (n : ℕ) (ks : CompsD) (u : List (List Lit)) → ItemsFit 0 ks → AdmitsItems false ks → EachIsNormal ks no_comps u 0 → IsSetOf (point (coll ks) []) (IsMade n) → count_of_items ks ≡ min n 7
count_is n ks u fits admits normal set =
    let tags = ranks_of n ks no_comps u normal fits admits (λ w. (set.1 w).0) in
    let a = whole 0 in let b = whole 1 in
    let most : length tags.ranks ≤ min n 7 = length-le_from_distinct_below tags.ranks (min n 7) tags.distinct tags.early in
    let least : min n 7 ≤ length tags.ranks =
    le-length_from_below tags.ranks (min n 7) (λ q low. rank_found tags.ranks ks q a b tags.orbits (omega (arith, low)) ((set.1 (tagged (made_tag q) a b)).1 (made_pair n q (omega (arith, low)) a b refl))) in
    omega (arith, most, least, tags.count)

pub normal_has_one_for_each : NormalHasOneForEach
normal_has_one_for_each n (coll ks) u fits admits normal set = count_is n ks u fits admits normal set
normal_has_one_for_each n (var i) u fits admits normal set = absurd set.0
normal_has_one_for_each n (tag x) u fits admits normal set = absurd set.0
normal_has_one_for_each n (tup ts) u fits admits normal set = absurd set.0
