-- What `IsSame` does to kinds of value, to parts, and to sets that are given by what is in them.
use Rattle.std.proofs.Common.{◌≡◌, ℕ, List, [], ◌∷◌, refl, sym, ◌∙◌, subst}
use Rattle.std.specs.Bool.{IsTrue}
use Rattle.lois_base.specs.Atom.{Atom, equal}
use Rattle.lois_base.specs.Data.{TermD, var, tag, tup, coll, TermsD, no_terms, term, CompsD}
use Rattle.lois_base.specs.Truth.{atom_at}
use Rattle.lois_base.specs.Values.{PointValue, IsSame, IsIncluded, SameAt, SamePartsAt}
use Rattle.lois_base.proofs.Members.{same_refl, same_sym, same_trans, member_in, same_in, same_sets}
use Rattle.lois_base.proofs.Order.{equal_sym, equal_trans}
use Rattle.lois_meaning.specs.Kinds.{IsAtomAt, IsTagTerm, IsSetTerm, part_values, HasPartsAt, IsAtomValue, IsTagValue, HasParts, IsSet, IsSetOf, AreSame}

set_at : (t : TermD) (c : List Atom) (s : TermD) (d : List Atom) → SameAt t c s d → IsSetTerm t → IsSetTerm s
set_at (coll ks) c (coll ls) d h k = tt
set_at _ c _ d h k = absurd (assumption (h, k))

pub is_set_same : (v w : PointValue) → IsSame v w → IsSet v → IsSet w
is_set_same v w s k = set_at v.term_of v.choice w.term_of w.choice s k

pub set_term : (t : TermD) → IsSetTerm t → (ks : CompsD) × (t ≡ coll ks)
set_term (coll ks) h = (ks, refl)
set_term _ h = absurd h

-- sets with the same members are the same
pub sets_same : (v w : PointValue) → IsSet v → IsSet w → IsIncluded v w → IsIncluded w v → IsSame v w
sets_same v w h k there back =
    let one = set_term v.term_of h in let two = set_term w.term_of k in
    same_sets v w one.0 two.0 one.1 two.1 there back

pub set_of_same : (P : PointValue → Type 0) (v w : PointValue) → IsSetOf v P → IsSetOf w P → IsSame v w
set_of_same P v w a b =
    sets_same v w a.0 b.0 (λ u m. (b.1 u).1 ((a.1 u).0 (member_in u v m))) (λ u m. (a.1 u).1 ((b.1 u).0 (member_in u w m)))

pub set_of_move : (P Q : PointValue → Type 0) (v w : PointValue) → IsSame v w → ((x : PointValue) → P x → Q x) → ((x : PointValue) → Q x → P x) → IsSetOf v P → IsSetOf w Q
set_of_move P Q v w s there back a = (
  is_set_same v w s a.0,
  λ x. ((λ m. there x ((a.1 x).0 (same_in x w v (same_sym v w s) m))), (λ q. same_in x v w s ((a.1 x).1 (back x q)))),
)

-- the set is the same, said in other words
pub set_of_shift : (P Q : PointValue → Type 0) (v : PointValue) → ((x : PointValue) → P x → Q x) → ((x : PointValue) → Q x → P x) → IsSetOf v P → IsSetOf v Q
set_of_shift P Q v there back a = set_of_move P Q v v (same_refl v) there back a

pub set_of_to : (P : PointValue → Type 0) (v w : PointValue) → IsSame v w → IsSetOf v P → IsSetOf w P
set_of_to P v w s a = set_of_move P P v w s (λ x p. p) (λ x p. p) a

atom_to : (t : TermD) (c : List Atom) (s : TermD) (d : List Atom) (a : Atom) → SameAt t c s d → IsAtomAt t c a → IsAtomAt s d a
atom_to (var i) c (var j) d a h k = equal_trans (atom_at d j) (atom_at c i) a (equal_sym (atom_at c i) (atom_at d j) h) k
atom_to _ c _ d a h k = absurd (assumption (h, k))

pub is_atom_same : (v w : PointValue) (a : Atom) → IsSame v w → IsAtomValue v a → IsAtomValue w a
is_atom_same v w a s k = atom_to v.term_of v.choice w.term_of w.choice a s k

pub atom_one : (t : TermD) (c : List Atom) (a b : Atom) → IsAtomAt t c a → IsAtomAt t c b → IsTrue (equal a b)
atom_one (var i) c a b h k = equal_trans a (atom_at c i) b (equal_sym (atom_at c i) a h) k
atom_one _ c a b h k = absurd h

-- a value is one atom at most
pub is_atom_both : (v w : PointValue) (a b : Atom) → IsSame v w → IsAtomValue v a → IsAtomValue w b → IsTrue (equal a b)
is_atom_both v w a b s p q = atom_one w.term_of w.choice a b (is_atom_same v w a s p) q

atoms_at : (t : TermD) (c : List Atom) (s : TermD) (d : List Atom) (a : Atom) → IsAtomAt t c a → IsAtomAt s d a → SameAt t c s d
atoms_at (var i) c (var j) d a h k = equal_trans (atom_at c i) a (atom_at d j) h (equal_sym (atom_at d j) a k)
atoms_at _ c _ d a h k = absurd (assumption (h, k))

-- values that are one atom are the same
pub atoms_same : (v w : PointValue) (a : Atom) → IsAtomValue v a → IsAtomValue w a → IsSame v w
atoms_same v w a h k = atoms_at v.term_of v.choice w.term_of w.choice a h k

equal_at : (t : TermD) (c : List Atom) (a b : Atom) → IsTrue (equal a b) → IsAtomAt t c b → IsAtomAt t c a
equal_at (var i) c a b h k = equal_trans (atom_at c i) b a k (equal_sym a b h)
equal_at _ c a b h k = absurd k

-- what is an atom is each atom that is equal
pub atom_equal : (v : PointValue) (a b : Atom) → IsTrue (equal a b) → IsAtomValue v b → IsAtomValue v a
atom_equal v a b h k = equal_at v.term_of v.choice a b h k

tag_to : (t : TermD) (c : List Atom) (s : TermD) (d : List Atom) (n : List ℕ) → SameAt t c s d → IsTagTerm t n → IsTagTerm s n
tag_to (tag k) c (tag l) d n h e = sym h ∙ e
tag_to _ c _ d n h e = absurd (assumption (h, e))

pub is_tag_same : (v w : PointValue) (n : List ℕ) → IsSame v w → IsTagValue v n → IsTagValue w n
is_tag_same v w n s e = tag_to v.term_of v.choice w.term_of w.choice n s e

tags_at : (t : TermD) (c : List Atom) (s : TermD) (d : List Atom) (n : List ℕ) → IsTagTerm t n → IsTagTerm s n → SameAt t c s d
tags_at (tag k) c (tag l) d n h e = h ∙ sym e
tags_at _ c _ d n h e = absurd (assumption (h, e))

-- values that are one tag are the same
pub tags_same : (v w : PointValue) (n : List ℕ) → IsTagValue v n → IsTagValue w n → IsSame v w
tags_same v w n h e = tags_at v.term_of v.choice w.term_of w.choice n h e

pub are_same_refl : (vs : List PointValue) → AreSame vs vs
are_same_refl [] = tt
are_same_refl (v ∷ vs) = (same_refl v, are_same_refl vs)

pub are_same_sym : (vs ws : List PointValue) → AreSame vs ws → AreSame ws vs
are_same_sym [] [] h = tt
are_same_sym (v ∷ vs) (w ∷ ws) h = (same_sym v w h.0, are_same_sym vs ws h.1)
are_same_sym _ _ h = absurd h

pub are_same_trans : (us vs ws : List PointValue) → AreSame us vs → AreSame vs ws → AreSame us ws
are_same_trans [] [] [] h k = tt
are_same_trans (u ∷ us) (v ∷ vs) (w ∷ ws) h k = (same_trans u v w h.0 k.0, are_same_trans us vs ws h.1 k.1)
are_same_trans _ _ _ h k = absurd (assumption (h, k))

pub parts_parts : (ts : TermsD) (c : List Atom) (ss : TermsD) (d : List Atom) → SamePartsAt ts c ss d → AreSame (part_values ts c) (part_values ss d)
parts_parts no_terms c no_terms d h = tt
parts_parts (term t ts) c (term s ss) d h = (h.0, parts_parts ts c ss d h.1)
parts_parts _ c _ d h = absurd h

parts_make : (ts : TermsD) (c : List Atom) (ss : TermsD) (d : List Atom) → AreSame (part_values ts c) (part_values ss d) → SamePartsAt ts c ss d
parts_make no_terms c no_terms d h = tt
parts_make (term t ts) c (term s ss) d h = (h.0, parts_make ts c ss d h.1)
parts_make _ c _ d h = absurd h

parts_to : (t : TermD) (c : List Atom) (s : TermD) (d : List Atom) (us : List PointValue) → SameAt t c s d → HasPartsAt t c us → (ws : List PointValue) × HasPartsAt s d ws × AreSame us ws
parts_to (tup ts) c (tup ss) d us h e =
    (part_values ss d, refl, subst (λ x. AreSame x (part_values ss d)) (sym e) (parts_parts ts c ss d h))
parts_to _ c _ d us h e = absurd (assumption (h, e))

pub parts_same : (v w : PointValue) (us : List PointValue) → IsSame v w → HasParts v us → (ws : List PointValue) × HasParts w ws × AreSame us ws
parts_same v w us s e = parts_to v.term_of v.choice w.term_of w.choice us s e

pub parts_one : (t : TermD) (c : List Atom) (us ws : List PointValue) → HasPartsAt t c us → HasPartsAt t c ws → us ≡ ws
parts_one (tup ts) c us ws e f = e ∙ sym f
parts_one _ c us ws e f = absurd e

pub parts_both : (v w : PointValue) (us ws : List PointValue) → IsSame v w → HasParts v us → HasParts w ws → AreSame us ws
parts_both v w us ws s e f =
    let found : (xs : List PointValue) × HasParts w xs × AreSame us xs = parts_same v w us s e in
    subst (λ x. AreSame us x) (parts_one w.term_of w.choice found.0 ws found.1 f) found.2

tuples_at : (t : TermD) (c : List Atom) (s : TermD) (d : List Atom) (vs ws : List PointValue) → HasPartsAt t c vs → HasPartsAt s d ws → AreSame vs ws → SameAt t c s d
tuples_at (tup ts) c (tup ss) d vs ws e f h =
    parts_make ts c ss d (subst (λ x. AreSame x (part_values ss d)) e (subst (λ x. AreSame vs x) f h))
tuples_at _ c _ d vs ws e f h = absurd (assumption (e, f))

-- tuples whose parts are the same one by one are the same
pub tuples_same : (v w : PointValue) (vs ws : List PointValue) → HasParts v vs → HasParts w ws → AreSame vs ws → IsSame v w
tuples_same v w vs ws e f h = tuples_at v.term_of v.choice w.term_of w.choice vs ws e f h

pub tag_one : (t : TermD) (m n : List ℕ) → IsTagTerm t m → IsTagTerm t n → m ≡ n
tag_one (TermD.tag k) m n h e = sym h ∙ e
tag_one _ m n h e = absurd h
