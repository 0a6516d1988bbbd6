-- The term of an automaton is a tuple of five sets.
use Rattle.std.proofs.Common.{◌≡◌, List, [], ◌∷◌, refl, subst}
use Rattle.lois_base.specs.Atom.{Atom}
use Rattle.lois_base.specs.Data.{TermD, tup, coll, no_terms, term, CompsD}
use Rattle.lois_base.specs.Values.{point}
use Rattle.lois_meaning.specs.Kinds.{IsSet, part_values}
use Rattle.lois_meaning.proofs.Alike.{set_term}
use Rattle.lois_automata.specs.Machines.{IsAutomatonAt}
use Rattle.lois_automata.specs.Projections.{five_of}

five_written : (v w x y z : TermD) (s l u i f : CompsD) → v ≡ coll s → w ≡ coll l → x ≡ coll u → y ≡ coll i → z ≡ coll f → tup (term v (term w (term x (term y (term z no_terms))))) ≡ five_of s l u i f
five_written v w x y z s l u i f p q r k m = rw (p, q, r, k, m) refl

pub five_sets : (t : TermD) (c : List Atom) → IsAutomatonAt t c → (s l u i f : CompsD) × (t ≡ five_of s l u i f)
five_sets (tup (term v (term w (term x (term y (term z no_terms)))))) c (m, is) =
    let one = set_term v (subst IsSet (parts.0) is.states_set) in
    let two = set_term w (subst IsSet (parts.1) is.letters_set) in
    let three = set_term x (subst IsSet (parts.2) is.steps_set) in
    let four = set_term y (subst IsSet (parts.3) is.initial_set) in
    let five = set_term z (subst IsSet (parts.4) is.final_set) in
    (one.0, two.0, three.0, four.0, five.0, five_written v w x y z one.0 two.0 three.0 four.0 five.0 one.1 two.1 three.1 four.1 five.1)
  where
    parts : (m.states ≡ point v c) × (m.letters ≡ point w c) × (m.steps ≡ point x c) × (m.initial ≡ point y c) × (m.final ≡ point z c)
    parts = let five : m.states ∷ m.letters ∷ m.steps ∷ m.initial ∷ m.final ∷ [] ≡ point v c ∷ point w c ∷ point x c ∷ point y c ∷ point z c ∷ [] = is.five in (cc, cc, cc, cc, cc)
five_sets (tup no_terms) c (m, is) = absurd (let five : m.states ∷ m.letters ∷ m.steps ∷ m.initial ∷ m.final ∷ [] ≡ [] = is.five in cc)
five_sets (tup (term v no_terms)) c (m, is) = absurd (let five : m.states ∷ m.letters ∷ m.steps ∷ m.initial ∷ m.final ∷ [] ≡ point v c ∷ [] = is.five in cc)
five_sets (tup (term v (term w no_terms))) c (m, is) = absurd (let five : m.states ∷ m.letters ∷ m.steps ∷ m.initial ∷ m.final ∷ [] ≡ point v c ∷ point w c ∷ [] = is.five in cc)
five_sets (tup (term v (term w (term x no_terms)))) c (m, is) = absurd (let five : m.states ∷ m.letters ∷ m.steps ∷ m.initial ∷ m.final ∷ [] ≡ point v c ∷ point w c ∷ point x c ∷ [] = is.five in cc)
five_sets (tup (term v (term w (term x (term y no_terms))))) c (m, is) = absurd (let five : m.states ∷ m.letters ∷ m.steps ∷ m.initial ∷ m.final ∷ [] ≡ point v c ∷ point w c ∷ point x c ∷ point y c ∷ [] = is.five in cc)
five_sets (tup (term v (term w (term x (term y (term z (term k ks))))))) c (m, is) = absurd (let five : m.states ∷ m.letters ∷ m.steps ∷ m.initial ∷ m.final ∷ [] ≡ point v c ∷ point w c ∷ point x c ∷ point y c ∷ point z c ∷ point k c ∷ part_values ks c = is.five in cc)
five_sets _ c (m, is) = absurd is.five
