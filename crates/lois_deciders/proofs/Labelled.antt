-- How the levels of a cube are labelled.
use Rattle.std.proofs.Common.{◌≡◌, ℕ, ◌+◌, ◌<◌, inl, inr, Bool, true, false, List, length, map, get_or, if◌then◌else◌, nat_eq, refl, sym, ap, ◌∙◌, subst, arith}
use Rattle.std.proofs.lemmas.Bool.{eqb-true}
use Rattle.std.proofs.lemmas.List.{get_or-map, length-map, get_or_default}
use Rattle.lois_base.specs.Fits.{CubeFits}
use Rattle.lois_base.specs.declared.guards.Lit.{Lit}
use Rattle.lois_base.specs.declared.guards.Op.TheVariants.{Eq, Ne}
use Rattle.lois_base.proofs.Booleans.{never_both}
use Rattle.lois_constraint.specs.Substitution.{put_level}
use Rattle.lois_deciders.specs.Labels.{IsLabelling, IsJoined, IsUnmet, Follows, Joins}
use Rattle.lois_deciders.proofs.Following.{up_to, literal_follows, follows_refl, follows_sym, follows_trans}

pub own_labelling : (n : ℕ) (cube : List Lit) (labels : List ℕ) → length labels ≡ n → ((i : ℕ) → i < n → get_or labels i 0 ≡ i) → IsLabelling n cube 0 labels
own_labelling n cube labels count own = record {
  count = count;
  small = λ i l. omega (arith, l, own i l);
  equal = λ i l. subst (Follows cube Eq i) (sym (own i l)) (follows_refl cube i);
  joined = λ k d l. absurd (omega arith);
}

-- the next literal is joined already
pub labelling_same : (n : ℕ) (xs cube : List Lit) (k : ℕ) (labels : List ℕ) (d : Lit) → xs ≡ cube → k < length xs → IsJoined labels (get_or xs k d) → IsLabelling n cube k labels → IsLabelling n cube (k + 1) labels
labelling_same n xs cube k labels d e b at =
    subst (λ (ys : List Lit). IsLabelling n ys k labels → IsLabelling n ys (k + 1) labels) e (λ h. record {
      count = h.count;
      small = h.small;
      equal = h.equal;
      joined = λ j c. up_to (λ j. IsJoined labels (get_or xs j c)) k (λ i l. h.joined i c l) (subst (IsJoined labels) (get_or_default xs k d c b) at) j;
    })

module _ (x y : ℕ) where
  pub put_small : (n i : ℕ) → y < n → i < n → put_level x y i < n
  put_small n i l m = go (nat_eq i x)
    where
      go : (b : Bool) → (if b then y else i) < n
      go true = l
      go false = m

  pub put_equal : (cube : List Lit) (i : ℕ) → Follows cube Eq x y → Follows cube Eq i (put_level x y i)
  put_equal cube i f = go (nat_eq i x) (eqb-true i x)
    where
      go : (b : Bool) → (b ≡ true → i ≡ x) → Follows cube Eq i (if b then y else i)
      go true e = subst (λ j. Follows cube Eq j y) (sym (e refl)) f
      go false e = follows_refl cube i

  put_new : put_level x y y ≡ y
  put_new = go (nat_eq y x)
    where
      go : (b : Bool) → (if b then y else y) ≡ y
      go true = refl
      go false = refl

  put_old : put_level x y x ≡ y
  put_old = grind arith

-- the next literal is an equation, and the label of one of its levels is put for that of the other
module _ (n : ℕ) (xs : List Lit) (k : ℕ) (labels : List ℕ) (d : Lit) (b : k < length xs) (fits : CubeFits n xs) (h : IsLabelling n xs k labels) (old new : ℕ) (new_small : new < n) (old_is_new : Follows xs Eq old new) (at_next : put_level old new (get_or labels (get_or xs k d).left 0) ≡ put_level old new (get_or labels (get_or xs k d).right 0)) where
  abbrev relabelled : List ℕ
  relabelled = map (put_level old new) labels

  label_put : (i : ℕ) → i < n → get_or relabelled i 0 ≡ put_level old new (get_or labels i 0)
  label_put i l = let m : i < length labels = omega (arith, h.count) in get_or-map (put_level old new) labels i 0 0 m

  before : (i : ℕ) (c : Lit) → i < k → IsJoined relabelled (get_or xs i c)
  before i c l = λ q.
      let m : Lit = get_or xs i c in
      let s : i < length xs = omega (arith, l, b) in
      label_put m.left (fits i c s).0 ∙ (ap (put_level old new) (h.joined i c l q) ∙ sym (label_put m.right (fits i c s).1))

  joined_now : get_or relabelled (get_or xs k d).left 0 ≡ get_or relabelled (get_or xs k d).right 0
  joined_now =
      label_put (get_or xs k d).left (fits k d b).0 ∙ (at_next ∙ sym (label_put (get_or xs k d).right (fits k d b).1))

  joined_labelling : IsLabelling n xs (k + 1) relabelled
  joined_labelling = record {
    count = length-map labels (put_level old new) ∙ h.count;
    small = λ i l. let s : put_level old new (get_or labels i 0) < n = put_small old new n (get_or labels i 0) new_small (h.small i l) in subst (λ x. x < n) (sym (label_put i l)) s;
    equal = λ i l. subst (Follows xs Eq i) (sym (label_put i l)) (follows_trans xs i (get_or labels i 0) (put_level old new (get_or labels i 0)) (h.equal i l) (put_equal old new xs (get_or labels i 0) old_is_new));
    joined = λ j c. up_to (λ j. IsJoined relabelled (get_or xs j c)) k (λ i l. before i c l) (subst (IsJoined relabelled) (get_or_default xs k d c b) (λ q. joined_now)) j;
  }

module _ (n : ℕ) (xs : List Lit) (k : ℕ) (labels : List ℕ) (d : Lit) (b : k < length xs) (e : (get_or xs k d).op ≡ Eq) (fits : CubeFits n xs) (h : IsLabelling n xs k labels) where
  abbrev left : ℕ
  left = get_or labels (get_or xs k d).left 0

  abbrev right : ℕ
  right = get_or labels (get_or xs k d).right 0

  left_is_right : Follows xs Eq left right
  left_is_right =
      let l : Lit = get_or xs k d in
      follows_trans xs left l.left right (follows_sym xs l.left left (h.equal l.left (fits k d b).0)) (follows_trans xs l.left l.right right (literal_follows xs k d Eq b e) (h.equal l.right (fits k d b).1))

  either_way : (next : List ℕ) → Joins (get_or xs k d).left (get_or xs k d).right labels next → IsLabelling n xs (k + 1) next
  either_way next (inl is) =
      subst (IsLabelling n xs (k + 1)) (sym is) (joined_labelling n xs k labels d b fits h left right (h.small (get_or xs k d).right (fits k d b).1) left_is_right (put_old left right ∙ sym (put_new left right)))
  either_way next (inr is) =
      subst (IsLabelling n xs (k + 1)) (sym is) (joined_labelling n xs k labels d b fits h right left (h.small (get_or xs k d).left (fits k d b).0) (follows_sym xs left right left_is_right) (put_new right left ∙ sym (put_old right left)))

pub labelling_joined : (n : ℕ) (xs cube : List Lit) (k : ℕ) (labels next : List ℕ) (d : Lit) → xs ≡ cube → k < length xs → (get_or xs k d).op ≡ Eq → Joins (get_or xs k d).left (get_or xs k d).right labels next → CubeFits n cube → IsLabelling n cube k labels → IsLabelling n cube (k + 1) next
labelling_joined n xs cube k labels next d e b q j =
    subst (λ (ys : List Lit). CubeFits n ys → IsLabelling n ys k labels → IsLabelling n ys (k + 1) next) e (λ fits h. either_way n xs k labels d b q fits h next j)

-- a `!=` between levels of one label
pub parted : (n first : ℕ) (xs cube : List Lit) (k : ℕ) (labels : List ℕ) (d : Lit) → xs ≡ cube → k < length xs → (get_or xs k d).op ≡ Ne → get_or labels (get_or xs k d).left 0 ≡ get_or labels (get_or xs k d).right 0 → CubeFits n cube → IsLabelling n cube first labels → IsUnmet n cube
parted n first xs cube k labels d e b q same =
    subst (λ (ys : List Lit). CubeFits n ys → IsLabelling n ys first labels → IsUnmet n ys) e (λ fits h sat. let l : Lit = get_or xs k d in
    let right : Follows xs Eq l.right (get_or labels l.left 0) = subst (Follows xs Eq l.right) (sym same) (h.equal l.right (fits k d b).1) in
    let equal_levels : Follows xs Eq l.left l.right = follows_trans xs l.left (get_or labels l.left 0) l.right (h.equal l.left (fits k d b).0) (follows_sym xs l.right (get_or labels l.left 0) right) in
    never_both _ (literal_follows xs k d Ne b q sat.0 sat.2) (equal_levels sat.0 sat.2))
