-- What is normal under a constraint is normal under each with the same truth; and sets whose comprehensions are lean and have
-- members of their own are normal.
use Rattle.std.proofs.Common.{◌≡◌, ℕ, ◌+◌, ◌&&◌, List, [], ◌∷◌, ◌++◌, refl, sym, ap, ◌∙◌, subst, append-nil}
use Rattle.std.specs.Bool.{IsTrue}
use Rattle.std.specs.List.{Contains}
use Rattle.lois_base.specs.Atom.{Atom}
use Rattle.lois_base.specs.Data.{TermD, var, tag, tup, coll, TermsD, no_terms, term, CompD, comp, CompsD, no_comps, more, comps_of}
use Rattle.lois_base.specs.Normal.{both, concatenated, Satisfies, IsIrredundant, IsNormal, PartsAreNormal, EachIsNormal, IsNormalComp}
use Rattle.lois_base.specs.Truth.{holds}
use Rattle.lois_base.specs.declared.guards.Lit.{Lit}
use Rattle.lois_base.proofs.Both.{holds_both}
use Rattle.lois_simplify.specs.Irredundant.{CompHasNormalGuards, ItemsHaveNormalGuards}
use Rattle.lois_simplify.specs.Lean.{IsIrredundantComp, HasOwn, EachHasOwn}
use Rattle.lois_simplify.proofs.Members.{contains_first, contains_later}

module _ (u v : List (List Lit)) (same : (c : List Atom) → holds c u ≡ holds c v) where
  pub both_same : (g : List (List Lit)) (c : List Atom) → holds c (both u g) ≡ holds c (both v g)
  both_same g c = holds_both c u g ∙ (ap (λ b. b && holds c g) (same c) ∙ sym (holds_both c v g))

  meets_same : (n : ℕ) (g : List (List Lit)) (c : List Atom) → Satisfies n (both u g) c → Satisfies n (both v g) c
  meets_same n g c m = record { count = m.count; met = subst IsTrue (both_same g c) m.met }

  lean_same : (m : ℕ) (g : List (List Lit)) (t : TermD) (others : CompsD) (n : ℕ) → IsIrredundant m g t others u n → IsIrredundant m g t others v n
  lean_same m g t others n l = record {
    met = (l.met.0, meets_same (n + m) g l.met.0 l.met.1);
    used = l.used;
    free = λ b a p q r. let f = l.free b a p q r in (f.0, meets_same (n + m) g f.0 f.1, f.2);
    own = let o = l.own in (o.0, o.1, record { count = o.2.count; met = subst IsTrue (same o.0) o.2.met }, o.3, o.4);
  }

mutual
  pub normal_under : (t : TermD) (u v : List (List Lit)) (n : ℕ) → ((c : List Atom) → holds c u ≡ holds c v) → IsNormal t u n → IsNormal t v n
  normal_under (var i) u v n same h = tt
  normal_under (tag t) u v n same h = tt
  normal_under (tup ts) u v n same h = parts_under ts u v n same h
  normal_under (coll cs) u v n same h = each_under cs no_comps u v n same h

  parts_under : (ts : TermsD) (u v : List (List Lit)) (n : ℕ) → ((c : List Atom) → holds c u ≡ holds c v) → PartsAreNormal ts u n → PartsAreNormal ts v n
  parts_under no_terms u v n same h = tt
  parts_under (term t ts) u v n same h = (normal_under t u v n same h.0, parts_under ts u v n same h.1)

  each_under : (cs before : CompsD) (u v : List (List Lit)) (n : ℕ) → ((c : List Atom) → holds c u ≡ holds c v) → EachIsNormal cs before u n → EachIsNormal cs before v n
  each_under no_comps before u v n same h = tt
  each_under (more k ks) before u v n same h =
      (comp_under k (concatenated before ks) u v n same h.0, each_under ks (concatenated before (more k no_comps)) u v n same h.1)

  comp_under : (k : CompD) (others : CompsD) (u v : List (List Lit)) (n : ℕ) → ((c : List Atom) → holds c u ≡ holds c v) → IsNormalComp k others u n → IsNormalComp k others v n
  comp_under (comp m g t) others u v n same h =
      (lean_same u v same m g t others n h.0, normal_under t (both u g) (both v g) (n + m) (both_same u v same g) h.1)

-- ---- from comprehensions to sets
joined_lists : (xs ys : List CompD) → concatenated (comps_of xs) (comps_of ys) ≡ comps_of (xs ++ ys)
joined_lists [] ys = refl
joined_lists (x ∷ xs) ys = ap (more x) (joined_lists xs ys)

normal_comp : (u : List (List Lit)) (n : ℕ) (others : List CompD) (k : CompD) → IsIrredundantComp u n k → HasOwn u n others k → IsNormalComp k (comps_of others) u n
normal_comp u n others (comp m g t) l o =
    (record { met = l.met; used = l.used; free = l.free; own = o }, l.item)

each_normal : (u : List (List Lit)) (n : ℕ) (before cs : List CompD) → ((k : CompD) → Contains cs k → IsIrredundantComp u n k) → EachHasOwn u n before cs [] → EachIsNormal (comps_of cs) (comps_of before) u n
each_normal u n before [] lean own = tt
each_normal u n before (k ∷ ks) lean own = (
  subst (λ os. IsNormalComp k os u n) (sym (joined_lists before ks))
      (normal_comp u n (before ++ ks) k (lean k (contains_first k ks)) (subst (λ os. HasOwn u n (before ++ os) k) (append-nil ks) own.0)),
  subst (λ bs. EachIsNormal (comps_of ks) bs u n) (sym (joined_lists before (k ∷ [])))
      (each_normal u n (before ++ k ∷ []) ks (λ j h. lean j (contains_later k j ks h)) own.1),
)

pub set_is_normal : (u : List (List Lit)) (n : ℕ) (cs : List CompD) → ((k : CompD) → Contains cs k → IsIrredundantComp u n k) → EachHasOwn u n [] cs [] → IsNormal (coll (comps_of cs)) u n
set_is_normal u n cs lean own = each_normal u n [] cs lean own

guards_of_comp : (u : List (List Lit)) (n : ℕ) (k : CompD) → IsIrredundantComp u n k → CompHasNormalGuards k
guards_of_comp u n (comp m g t) l = (l.guard, l.guards)

pub set_has_normal_guards : (u : List (List Lit)) (n : ℕ) (cs : List CompD) → ((k : CompD) → Contains cs k → IsIrredundantComp u n k) → ItemsHaveNormalGuards (comps_of cs)
set_has_normal_guards u n [] lean = tt
set_has_normal_guards u n (k ∷ ks) lean =
    (guards_of_comp u n k (lean k (contains_first k ks)), set_has_normal_guards u n ks (λ j h. lean j (contains_later k j ks h)))
