-- What follows from a cube.
use Rattle.std.proofs.Common.{◌≡◌, ℕ, ◌+◌, ◌<◌, ◌≤◌, ◌⊎◌, inl, inr, true, List, length, get_or, subst, arith}
use Rattle.std.proofs.lemmas.Bool.{cases_lt}
use Rattle.std.proofs.lemmas.List.Sums.{AllPass-from_list_all}
use Rattle.std.specs.Bool.{IsTrue}
use Rattle.lois_base.proofs.Order.{equal_refl, equal_sym, equal_trans, below_respects}
use Rattle.lois_base.specs.Truth.{atom_at, op_holds, lit_holds}
use Rattle.lois_base.specs.declared.guards.Lit.{Lit}
use Rattle.lois_base.specs.declared.guards.Op.{Op}
use Rattle.lois_base.specs.declared.guards.Op.TheVariants.{Eq, Lt}
use Rattle.lois_deciders.specs.Labels.{Follows}

-- what holds below k and at k holds below k + 1
pub up_to : (P : ℕ → Type 0) (k : ℕ) → ((j : ℕ) → j < k → P j) → P k → (j : ℕ) → j < k + 1 → P j
up_to P k before at j l = go (cases_lt j k)
  where
    go : (j < k) ⊎ (k ≤ j) → P j
    go (inl b) = before j b
    go (inr b) = let e : k ≡ j = omega arith in subst P e at

pub literal_follows : (cube : List Lit) (k : ℕ) (d : Lit) (o : Op) → k < length cube → (get_or cube k d).op ≡ o → Follows cube o (get_or cube k d).left (get_or cube k d).right
literal_follows cube k d o b e = λ c h.
    let l : Lit = get_or cube k d in
    let here : lit_holds c l ≡ true = AllPass-from_list_all (lit_holds c) cube h k d b in
    subst (λ (p : Op). IsTrue (op_holds p (atom_at c l.left) (atom_at c l.right))) e here

module _ (cube : List Lit) where
  pub follows_refl : (i : ℕ) → Follows cube Eq i i
  follows_refl i = λ c h. equal_refl (atom_at c i)

  pub follows_sym : (i j : ℕ) → Follows cube Eq i j → Follows cube Eq j i
  follows_sym i j f = λ c h. equal_sym (atom_at c i) (atom_at c j) (f c h)

  pub follows_trans : (i j k : ℕ) → Follows cube Eq i j → Follows cube Eq j k → Follows cube Eq i k
  follows_trans i j k f g = λ c h. equal_trans (atom_at c i) (atom_at c j) (atom_at c k) (f c h) (g c h)

  -- equal levels stand below equal levels
  pub follows_below : (i i' j j' : ℕ) → Follows cube Eq i i' → Follows cube Eq j j' → Follows cube Lt i j → Follows cube Lt i' j'
  follows_below i i' j j' f g b = λ c h.
      subst IsTrue (below_respects (atom_at c i) (atom_at c i') (atom_at c j) (atom_at c j') (f c h) (g c h)) (b c h)
