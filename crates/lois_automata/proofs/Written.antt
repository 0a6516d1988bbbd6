-- Tuples of two, three and five parts as their terms are written.
use Rattle.std.proofs.Common.{◌≡◌, suc, List, [], ◌∷◌, length, get_or, map, refl, sym, ap, subst, ◌∙◌, arith}
use Rattle.std.proofs.lemmas.List.{length-map}
use Rattle.lois_base.specs.Atom.{Atom}
use Rattle.lois_base.specs.Data.{TermD, var, tag, tup, coll, TermsD, no_terms, term, terms_of}
use Rattle.lois_base.specs.Tree.{tree}
use Rattle.lois_base.specs.Validity.{count_of_parts}
use Rattle.lois_base.specs.Values.{PointValue, point, IsSame}
use Rattle.lois_base.specs.declared.values.Term.{Term}
use Rattle.lois_base.proofs.Members.{same_refl, same_sym}
use Rattle.lois_base.proofs.Lists.{parts_counted}
use Rattle.lois_meaning.specs.Automata.{IsPair, IsTriple}
use Rattle.lois_meaning.specs.Kinds.{part_values}
use Rattle.lois_automata.specs.Projections.{pair_of, triple_of}
use Rattle.lois_automata.specs.Machines.{IsAutomatonAt}

abbrev parts_of_term : TermD → TermsD
parts_of_term (tup ts) = ts
parts_of_term _ = no_terms

pub not_two : (ts : List Term) (vs : List TermD) (a b : TermD) → map tree ts ≡ vs → (length ts ≡ 2 → ⊥) → tup (terms_of vs) ≡ pair_of a b → ⊥
not_two ts vs a b m never e =
    let parts : terms_of vs ≡ term a (term b no_terms) = ap parts_of_term e in
    never (sym (length-map ts tree) ∙ (ap length m ∙ (sym (parts_counted vs) ∙ ap count_of_parts parts)))

pub two_parts : (ts : List Term) (vs : List TermD) (a b : Term) → map tree ts ≡ vs → length ts ≡ 2 → a ≡ get_or ts 0 a → b ≡ get_or ts 1 b → tup (terms_of vs) ≡ pair_of (tree a) (tree b)
two_parts ts vs a b m l is is' = ap tup (ap terms_of (sym m) ∙ go ts l is is')
  where
    go : (xs : List Term) → length xs ≡ 2 → a ≡ get_or xs 0 a → b ≡ get_or xs 1 b → terms_of (map tree xs) ≡ term (tree a) (term (tree b) no_terms)
    go (x ∷ y ∷ []) l is is' = ap (λ z. term (tree z) (term (tree y) no_terms)) (sym is) ∙ ap (λ z. term (tree a) (term (tree z) no_terms)) (sym is')
    go [] l is is' = absurd (omega arith)
    go (x ∷ []) l is is' = absurd (omega arith)
    go (x ∷ y ∷ z ∷ zs) l is is' = absurd (omega arith)

pub not_three : (ts : List Term) (vs : List TermD) (p l q : TermD) → map tree ts ≡ vs → (length ts ≡ 3 → ⊥) → tup (terms_of vs) ≡ triple_of p l q → ⊥
not_three ts vs p l q m never e =
    let parts : terms_of vs ≡ term p (term l (term q no_terms)) = ap parts_of_term e in
    never (sym (length-map ts tree) ∙ (ap length m ∙ (sym (parts_counted vs) ∙ ap count_of_parts parts)))

pub three_parts : (ts : List Term) (vs : List TermD) (a b e : Term) → map tree ts ≡ vs → length ts ≡ 3 → a ≡ get_or ts 0 a → b ≡ get_or ts 1 b → e ≡ get_or ts 2 e → tup (terms_of vs) ≡ triple_of (tree a) (tree b) (tree e)
three_parts ts vs a b e m l is is' is2 = ap tup (ap terms_of (sym m) ∙ go ts l is is' is2)
  where
    go : (xs : List Term) → length xs ≡ 3 → a ≡ get_or xs 0 a → b ≡ get_or xs 1 b → e ≡ get_or xs 2 e → terms_of (map tree xs) ≡ term (tree a) (term (tree b) (term (tree e) no_terms))
    go (x ∷ y ∷ z ∷ []) l is is' is2 = rw (is, is', is2)
    go [] l is is' is2 = absurd (omega arith)
    go (x ∷ []) l is is' is2 = absurd (omega arith)
    go (x ∷ y ∷ []) l is is' is2 = absurd (omega arith)
    go (x ∷ y ∷ z ∷ u ∷ zs) l is is' is2 = absurd (omega arith)

-- the term of an automaton is a tuple of five
count_at : (ts : TermsD) (c : List Atom) (us : List PointValue) → us ≡ part_values ts c → count_of_parts ts ≡ length us
count_at ts c us e = count ts ∙ sym (ap length e)
  where
    count : (ts : TermsD) → count_of_parts ts ≡ length (part_values ts c)
    count no_terms = refl
    count (term t ts) = ap suc (count ts)

pub five_parts : (ts : TermsD) (c : List Atom) → IsAutomatonAt (tup ts) c → count_of_parts ts ≡ 5
five_parts ts c (a, is) = count_at ts c (a.states ∷ a.letters ∷ a.steps ∷ a.initial ∷ a.final ∷ []) is.five

pub not_five : (ts : List Term) (vs : List TermD) (c : List Atom) → map tree ts ≡ vs → (length ts ≡ 5 → ⊥) → IsAutomatonAt (tup (terms_of vs)) c → ⊥
not_five ts vs c m never h = never (sym (length-map ts tree) ∙ (ap length m ∙ (sym (parts_counted vs) ∙ five_parts (terms_of vs) c h)))

-- the term of a pair is a tuple of two, whose items are its parts
pub pair_term : (t : TermD) (d : List Atom) (p w : PointValue) → IsPair (point t d) p w → (a b : TermD) × (t ≡ pair_of a b) × IsSame p (point a d) × IsSame w (point b d)
pair_term (tup (term a (term b no_terms))) d p w (a', b', h, s, s') =
    let one : a' ≡ point a d = cc in
    let two : b' ≡ point b d = cc in
    (a, b, refl, subst (λ z. IsSame p z) one s, subst (λ z. IsSame w z) two s')
pair_term (tup no_terms) d p w (a', b', h, s, s') = absurd (cc)
pair_term (tup (term a no_terms)) d p w (a', b', h, s, s') = absurd (cc)
pair_term (tup (term a (term b (term e ts)))) d p w (a', b', h, s, s') = absurd (cc)
pair_term (var i) d p w (a', b', h, s, s') = absurd h
pair_term (tag n) d p w (a', b', h, s, s') = absurd h
pair_term (coll ks) d p w (a', b', h, s, s') = absurd h

-- the term of a triple is a tuple of three, whose items are its parts
pub triple_term : (t : TermD) (d : List Atom) (P L Q : PointValue) → IsTriple (point t d) P L Q → (p l q : TermD) × (t ≡ triple_of p l q) × IsSame P (point p d) × IsSame L (point l d) × IsSame Q (point q d)
triple_term (tup (term a (term b (term e no_terms)))) d P L Q (a', b', e', h, s, s', s2) =
    let one : a' ≡ point a d = cc in
    let two : b' ≡ point b d = cc in
    let three : e' ≡ point e d = cc in
    (a, b, e, refl, subst (λ z. IsSame P z) one s, subst (λ z. IsSame L z) two s', subst (λ z. IsSame Q z) three s2)
triple_term (tup no_terms) d P L Q (a', b', e', h, s, s', s2) = absurd (cc)
triple_term (tup (term a no_terms)) d P L Q (a', b', e', h, s, s', s2) = absurd (cc)
triple_term (tup (term a (term b no_terms))) d P L Q (a', b', e', h, s, s', s2) = absurd (cc)
triple_term (tup (term a (term b (term e (term f ts))))) d P L Q (a', b', e', h, s, s', s2) = absurd (cc)
triple_term (var i) d P L Q (a', b', e', h, s, s', s2) = absurd h
triple_term (tag n) d P L Q (a', b', e', h, s, s', s2) = absurd h
triple_term (coll ks) d P L Q (a', b', e', h, s, s', s2) = absurd h

-- a pair as it is written
pub pair_is : (a b : TermD) (d : List Atom) → IsPair (point (pair_of a b) d) (point a d) (point b d)
pair_is a b d = (point a d, point b d, refl, same_refl (point a d), same_refl (point b d))

pub pair_at : (a b : TermD) (d : List Atom) (w : PointValue) → IsSame (point b d) w → IsPair (point (pair_of a b) d) (point a d) w
pair_at a b d w s = (point a d, point b d, refl, same_refl (point a d), same_sym (point b d) w s)

pub pair_here : (a b : TermD) (d : List Atom) (p w : PointValue) → IsPair (point (pair_of a b) d) p w → IsSame p (point a d) × IsSame w (point b d)
pair_here a b d p w (a', b', h, s, s') =
    let one : a' ≡ point a d = cc in
    let two : b' ≡ point b d = cc in
    (subst (λ z. IsSame p z) one s, subst (λ z. IsSame w z) two s')

pub triple_is : (p l q : TermD) (d : List Atom) → IsTriple (point (triple_of p l q) d) (point p d) (point l d) (point q d)
triple_is p l q d = (point p d, point l d, point q d, refl, same_refl (point p d), same_refl (point l d), same_refl (point q d))

pub triple_here : (p l q : TermD) (d : List Atom) (P L Q : PointValue) → IsTriple (point (triple_of p l q) d) P L Q → IsSame P (point p d) × IsSame L (point l d) × IsSame Q (point q d)
triple_here p l q d P L Q (a', b', e', h, s, s', s2) =
    let one : a' ≡ point p d = cc in
    let two : b' ≡ point l d = cc in
    let three : e' ≡ point q d = cc in
    (subst (λ z. IsSame P z) one s, subst (λ z. IsSame L z) two s', subst (λ z. IsSame Q z) three s2)
