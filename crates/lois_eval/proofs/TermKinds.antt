-- Of which kinds terms are, and their values.
use Rattle.std.proofs.Common.{◌≡◌, ℕ, List, refl, sym, subst}
use Rattle.lois_base.specs.Atom.{Atom}
use Rattle.lois_base.specs.Data.{TermD, var, tag, tup, coll}
use Rattle.lois_base.specs.Tree.{tree}
use Rattle.lois_base.specs.Values.{point}
use Rattle.lois_base.specs.declared.values.Term.{Term}
use Rattle.lois_base.specs.declared.values.Term.TheVariants.{Var, Tag, Tup, Coll}
use Rattle.lois_meaning.specs.Kinds.{IsSet, IsSetTerm as IsSetOfTerm, IsAtomAt}
use Rattle.lois_terms.specs.Collections.{IsColl as IsSetTerm}

pub no_coll : (t : Term) → ((x : _) → t ≡ Coll x → ⊥) → IsSetTerm (tree t) → ⊥
no_coll (Var i) n (ks, e) = cc
no_coll (Tag x) n (ks, e) = cc
no_coll (Tup ts) n (ks, e) = cc
no_coll (Coll cs) n h = n cs refl

pub no_var : (t : Term) → ((x : ℕ) → t ≡ Var x → ⊥) → (i : ℕ) → tree t ≡ var i → ⊥
no_var (Var i) n j e = n i refl
no_var (Tag x) n j e = cc
no_var (Tup ts) n j e = cc
no_var (Coll cs) n j e = cc

-- a value is a set, or an atom, exactly where its term is
pub set_at : (t : TermD) (c : List Atom) → IsSetTerm t → IsSet (point t c)
set_at t c (ks, e) = subst (λ z. IsSet (point z c)) (sym e) tt

pub no_set_at : (t : TermD) (c : List Atom) → (IsSetTerm t → ⊥) → IsSet (point t c) → ⊥
no_set_at t c none h = none (of t h)
  where
    of : (t : TermD) → IsSetOfTerm t → IsSetTerm t
    of (coll ks) h = (ks, refl)
    of (var i) h = absurd h
    of (tag x) h = absurd h
    of (tup ts) h = absurd h

pub atom_term : (t : TermD) (c : List Atom) (a : Atom) → IsAtomAt t c a → (i : ℕ) × (t ≡ var i)
atom_term (var i) c a h = (i, refl)
atom_term (tag x) c a h = absurd h
atom_term (tup ts) c a h = absurd h
atom_term (coll ks) c a h = absurd h
