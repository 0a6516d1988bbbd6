-- What a slot holds: a term, and comprehensions behind those of its set.
use Rattle.std.specs.Prelude.{◌≡◌, ℕ, List, [], ◌∷◌, ◌++◌, length, refl}
use Rattle.std.specs.Coded.{Coded, code_by}
use Rattle.std.proofs.Common.{ap}
use Rattle.lois_base.specs.Codes.{term_code}
use Rattle.lois_base.specs.Data.{TermD, var, tag, tup, coll, TermsD, no_terms, term, terms_of, CompD, CompsD, no_comps, more, comps_of}
use Rattle.lois_base.specs.Tree.{tree}
use Rattle.lois_base.specs.declared.values.Term.{Term}
use Rattle.lois_base.specs.declared.values.Term.TheVariants.{Var, Tag, Tup, Coll}

-- ---- the code by which contracts tell what slots hold apart

abbrev terms_back : TermsD → List TermD
terms_back no_terms = []
terms_back (term t ts) = t ∷ terms_back ts

terms_back-of : (ts : List TermD) → terms_back (terms_of ts) ≡ ts
terms_back-of [] = refl
terms_back-of (t ∷ ts) = ap (λ z. t ∷ z) (terms_back-of ts)

abbrev comps_back : CompsD → List CompD
comps_back no_comps = []
comps_back (more k ks) = k ∷ comps_back ks

comps_back-of : (ks : List CompD) → comps_back (comps_of ks) ≡ ks
comps_back-of [] = refl
comps_back-of (k ∷ ks) = ap (λ z. k ∷ z) (comps_back-of ks)

abbrev pub of_tree : TermD → Term
of_tree (var i) = Var i
of_tree (tag t) = Tag t
of_tree (tup ts) = Tup (terms_back ts)
of_tree (coll ks) = Coll (comps_back ks)

pub of_tree-tree : (t : Term) → of_tree (tree t) ≡ t
of_tree-tree (Var i) = refl
of_tree-tree (Tag t) = refl
of_tree-tree (Tup ts) = ap Tup (terms_back-of ts)
of_tree-tree (Coll ks) = ap Coll (comps_back-of ks)

abbrev pub content_code : Coded Term
content_code = code_by TermD term_code tree of_tree of_tree-tree

-- ---- what a slot holds

-- how many comprehensions a term has of its own
abbrev pub own_count : Term → ℕ
own_count (Coll ks) = length ks
own_count _ = 0

-- a term whose set has further comprehensions at its end; what is no set stays as it is
abbrev pub with_comps : Term → List CompD → Term
with_comps (Coll ks) ls = Coll (ks ++ ls)
with_comps t ls = t
