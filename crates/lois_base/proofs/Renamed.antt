-- A term and a constraint mean the same where their levels are renamed and the atoms stand at the new levels.
use Rattle.std.proofs.Common.{◌≡◌, ℕ, ◌+◌, ◌-◌, ◌<◌, ◌≤◌, ◌⊎◌, inl, inr, List, [], ◌∷◌, ◌++◌, length, length-append, refl, sym, ap, ◌∙◌, subst, arith}
use Rattle.std.proofs.lemmas.Bool.{cases_lt}
use Rattle.std.proofs.lemmas.List.{get_or_past, get_or_append_left, get_or-append-add}
use Rattle.std.proofs.lemmas.List.Elements.{All-head, All-tail}
use Rattle.std.specs.Bool.{IsTrue}
use Rattle.std.specs.List.{All}
use Rattle.lois_base.specs.Atom.{Atom, equal, whole}
use Rattle.lois_base.specs.Data.{TermD, var, tag, tup, coll, TermsD, no_terms, term, CompD, comp, CompsD, no_comps, more}
use Rattle.lois_base.specs.Normal.{GuardUses, Occurs, OccursInPart, OccursInComp, OccursInItem}
use Rattle.lois_base.specs.Rename.{rename, rename_parts, rename_comp, rename_items, rename_lit, rename_cube, rename_constraint}
use Rattle.lois_base.specs.Truth.{atom_at, lit_holds, cube_holds, holds}
use Rattle.lois_base.specs.Values.{IsExtension, MakesAt, MemberAt, SameAt, SamePartsAt, AllInAt, EachInAt, SomeIsAt, OneIsAt}
use Rattle.lois_base.specs.declared.guards.Lit.{Lit}
use Rattle.lois_base.proofs.Order.{equal_refl}
use Rattle.lois_base.proofs.Truths.{op_respects}
use Rattle.lois_base.proofs.Validity.{used_at}

-- d has the atoms of c at the new names of the levels of which P holds, and the levels after c are those after d
pub record Renames (name : ℕ → ℕ) (P : ℕ → Type 0) (c d : List Atom) : Type 0 where
  pub within : (i : ℕ) → P i → i < length c → name i < length d
  pub atoms : (i : ℕ) → P i → i < length c → IsTrue (equal (atom_at c i) (atom_at d (name i)))
  pub after : (j : ℕ) → name (length c + j) ≡ length d + j

module _ (name : ℕ → ℕ) where
  name_after : (P : ℕ → Type 0) (c d : List Atom) → Renames name P c d → (i : ℕ) → length c ≤ i → name i ≡ length d + (i - length c)
  name_after P c d h i l = let e : length c + (i - length c) ≡ i = omega arith in ap name (sym e) ∙ h.after (i - length c)

  atom_renamed : (P : ℕ → Type 0) (c d : List Atom) → Renames name P c d → (i : ℕ) → P i → IsTrue (equal (atom_at c i) (atom_at d (name i)))
  atom_renamed P c d h i p = go (cases_lt i (length c))
    where
      go : i < length c ⊎ length c ≤ i → IsTrue (equal (atom_at c i) (atom_at d (name i)))
      go (inl l) = h.atoms i p l
      go (inr l) =
          let m : length d ≤ name i = omega (arith, name_after P c d h i l) in
          rw (get_or_past c i (whole 0) l, get_or_past d (name i) (whole 0) m) (equal_refl (whole 0))

  pub renames_less : (P Q : ℕ → Type 0) (c d : List Atom) → ((i : ℕ) → Q i → P i) → Renames name P c d → Renames name Q c d
  renames_less P Q c d w h = record { within = λ i q l. h.within i (w i q) l; atoms = λ i q l. h.atoms i (w i q) l; after = h.after }

  renames_longer : (P : ℕ → Type 0) (c d e : List Atom) → Renames name P c d → Renames name P (c ++ e) (d ++ e)
  renames_longer P c d e h = record {
    within = λ i p l. inside i p l (cases_lt i (length c));
    atoms = λ i p l. each i p l (cases_lt i (length c));
    after = λ j. let k : length (c ++ e) + j ≡ length c + (length e + j) = omega (arith, length-append c e) in
        let m : length d + (length e + j) ≡ length (d ++ e) + j = omega (arith, length-append d e) in
        ap name k ∙ h.after (length e + j) ∙ m;
  }
    where
      inside : (i : ℕ) → P i → i < length (c ++ e) → i < length c ⊎ length c ≤ i → name i < length (d ++ e)
      inside i p l (inl m) = omega (arith, h.within i p m, length-append d e)
      inside i p l (inr m) = omega (arith, name_after P c d h i m, length-append c e, length-append d e)

      each : (i : ℕ) → P i → i < length (c ++ e) → i < length c ⊎ length c ≤ i → IsTrue (equal (atom_at (c ++ e) i) (atom_at (d ++ e) (name i)))
      each i p l (inl m) =
          let k : name i < length d = h.within i p m in
          rw (get_or_append_left c e (whole 0) i m, get_or_append_left d e (whole 0) (name i) k) (h.atoms i p m)
      each i p l (inr m) =
          let k : i ≡ length c + (i - length c) = omega arith in
          let left : atom_at (c ++ e) i ≡ atom_at e (i - length c) = ap (λ z. atom_at (c ++ e) z) k ∙ get_or-append-add c e (i - length c) (whole 0) in
          let right : atom_at (d ++ e) (name i) ≡ atom_at e (i - length c) = ap (λ z. atom_at (d ++ e) z) (name_after P c d h i m) ∙ get_or-append-add d e (i - length c) (whole 0) in
          subst (λ z. IsTrue (equal z (atom_at (d ++ e) (name i)))) (sym left) (subst (λ z. IsTrue (equal (atom_at e (i - length c)) z)) (sym right) (equal_refl (atom_at e (i - length c))))

  lit_renamed : (P : ℕ → Type 0) (c d : List Atom) → Renames name P c d → (l : Lit) → P l.left × P l.right → lit_holds c l ≡ lit_holds d (rename_lit name l)
  lit_renamed P c d h l p =
      op_respects l.op (atom_at c l.left) (atom_at d (name l.left)) (atom_at c l.right) (atom_at d (name l.right)) (atom_renamed P c d h l.left p.0) (atom_renamed P c d h l.right p.1)

  pub cube_renamed : (P : ℕ → Type 0) (c d : List Atom) → Renames name P c d → (k : List Lit) → All (λ l. P l.left × P l.right) k → cube_holds c k ≡ cube_holds d (rename_cube name k)
  cube_renamed P c d h [] p = refl
  cube_renamed P c d h (l ∷ k) p =
      rw (lit_renamed P c d h l (All-head (λ l. P l.left × P l.right) l k p), cube_renamed P c d h k (All-tail (λ l. P l.left × P l.right) l k p))

  pub holds_renamed : (P : ℕ → Type 0) (c d : List Atom) → Renames name P c d → (g : List (List Lit)) → All (All (λ l. P l.left × P l.right)) g → holds c g ≡ holds d (rename_constraint name g)
  holds_renamed P c d h [] p = refl
  holds_renamed P c d h (k ∷ g) p =
      rw (cube_renamed P c d h k (All-head (All (λ l. P l.left × P l.right)) k g p), holds_renamed P c d h g (All-tail (All (λ l. P l.left × P l.right)) k g p))

  -- only the levels that a guard uses count
  pub guard_renamed : (c d : List Atom) (g : List (List Lit)) → Renames name (λ b. GuardUses b g) c d → holds c g ≡ holds d (rename_constraint name g)
  guard_renamed c d g h =
      holds_renamed (λ b. GuardUses b g) c d h g (used_at (λ b. GuardUses b g) g (λ i u. u))

  longer_guard : (c d e : List Atom) (m : ℕ) (g : List (List Lit)) (t : TermD) → Renames name (λ b. OccursInComp b (comp m g t)) c d → holds (c ++ e) g ≡ holds (d ++ e) (rename_constraint name g)
  longer_guard c d e m g t h =
      guard_renamed (c ++ e) (d ++ e) g (renames_longer (λ b. GuardUses b g) c d e (renames_less (λ b. OccursInComp b (comp m g t)) (λ b. GuardUses b g) c d (λ b o. inl o) h))

  longer_item : (c d e : List Atom) (m : ℕ) (g : List (List Lit)) (t : TermD) → Renames name (λ b. OccursInComp b (comp m g t)) c d → Renames name (λ b. Occurs b t) (c ++ e) (d ++ e)
  longer_item c d e m g t h =
      renames_longer (λ b. Occurs b t) c d e (renames_less (λ b. OccursInComp b (comp m g t)) (λ b. Occurs b t) c d (λ b o. inr o) h)

  mutual
    pub same_renamed : (t : TermD) (c d : List Atom) → Renames name (λ b. Occurs b t) c d → SameAt t c (rename name t) d
    same_renamed (var i) c d h = atom_renamed (λ b. i ≡ b) c d h i refl
    same_renamed (tag n) c d h = refl
    same_renamed (tup ts) c d h = parts_renamed ts c d h
    same_renamed (coll cs) c d h = (all_renamed cs c d h (rename_items name cs) (λ w x m. m), some_renamed cs c d h)

    parts_renamed : (ts : TermsD) (c d : List Atom) → Renames name (λ b. OccursInPart b ts) c d → SamePartsAt ts c (rename_parts name ts) d
    parts_renamed no_terms c d h = tt
    parts_renamed (term t ts) c d h = (
      same_renamed t c d (renames_less (λ b. OccursInPart b (term t ts)) (λ b. Occurs b t) c d (λ b o. inl o) h),
      parts_renamed ts c d (renames_less (λ b. OccursInPart b (term t ts)) (λ b. OccursInPart b ts) c d (λ b o. inr o) h),
    )

    all_renamed : (ks : CompsD) (c d : List Atom) → Renames name (λ b. OccursInItem b ks) c d → (ss : CompsD) → ((w : TermD) (x : List Atom) → MemberAt w x (rename_items name ks) d → MemberAt w x ss d) → AllInAt ks c ss d
    all_renamed no_comps c d h ss within = tt
    all_renamed (more k ks) c d h ss within = (
      each_renamed k c d (renames_less (λ b. OccursInItem b (more k ks)) (λ b. OccursInComp b k) c d (λ b o. inl o) h) ss (λ w x m. within w x (inl m)),
      all_renamed ks c d (renames_less (λ b. OccursInItem b (more k ks)) (λ b. OccursInItem b ks) c d (λ b o. inr o) h) ss (λ w x m. within w x (inr m)),
    )

    each_renamed : (k : CompD) (c d : List Atom) → Renames name (λ b. OccursInComp b k) c d → (ss : CompsD) → ((w : TermD) (x : List Atom) → MakesAt w x (rename_comp name k) d → MemberAt w x ss d) → EachInAt k c ss d
    each_renamed (comp m g t) c d h ss within = λ e x.
        let y : IsExtension d m (rename_constraint name g) e = record { count = x.count; guard = subst IsTrue (longer_guard c d e m g t h) x.guard } in
        (rename name t, d ++ e, within (rename name t) (d ++ e) (e, y, refl, refl), same_renamed t (c ++ e) (d ++ e) (longer_item c d e m g t h))

    some_renamed : (ks : CompsD) (c d : List Atom) → Renames name (λ b. OccursInItem b ks) c d → (w : TermD) (x : List Atom) → MemberAt w x (rename_items name ks) d → SomeIsAt ks c w x
    some_renamed no_comps c d h w x m = m
    some_renamed (more k ks) c d h w x (inl m) =
        inl (one_renamed k c d (renames_less (λ b. OccursInItem b (more k ks)) (λ b. OccursInComp b k) c d (λ b o. inl o) h) w x m)
    some_renamed (more k ks) c d h w x (inr m) =
        inr (some_renamed ks c d (renames_less (λ b. OccursInItem b (more k ks)) (λ b. OccursInItem b ks) c d (λ b o. inr o) h) w x m)

    one_renamed : (k : CompD) (c d : List Atom) → Renames name (λ b. OccursInComp b k) c d → (w : TermD) (x : List Atom) → MakesAt w x (rename_comp name k) d → OneIsAt k c w x
    one_renamed (comp m g t) c d h w x (e, y, p, q) =
        let s : SameAt t (c ++ e) (rename name t) (d ++ e) = same_renamed t (c ++ e) (d ++ e) (longer_item c d e m g t h) in
        (e, record { count = y.count; guard = subst IsTrue (sym (longer_guard c d e m g t h)) y.guard }, subst (λ z. SameAt t (c ++ e) z x) (sym p) (subst (λ z. SameAt t (c ++ e) (rename name t) z) (sym q) s))
