-- Sets that are made of the steps of an automaton, and sets of pairs.
use Rattle.std.specs.Prelude.{◌≡◌, ℕ, List, length, ◌↔◌}
use Rattle.lois_base.specs.Atom.{Atom}
use Rattle.lois_base.specs.Data.{TermD, tup, no_terms, term, coll, CompD, CompsD}
use Rattle.lois_base.specs.Fits.{CompFits}
use Rattle.lois_base.specs.Validity.{AdmitsComp, CompHasBoundedWidths}
use Rattle.lois_algebra.specs.Gathered.{IsCompMember}
use Rattle.lois_base.specs.Values.{PointValue, point, IsIn, IsSame}
use Rattle.lois_meaning.specs.Automata.{Automaton, IsPair, IsTriple}
use Rattle.lois_automata.specs.Adding.{Adds, IsMadeOfOne}
use Rattle.lois_automata.specs.declared.projections.Projection.{Projection}
use Rattle.lois_automata.specs.declared.projections.Projection.TheVariants.{Source, Label, Target, Outgoing, Move, Back, Keyed}

abbrev pub five_terms : TermD → TermD → TermD → TermD → TermD → TermD
five_terms states letters steps initial final =
    tup (term states (term letters (term steps (term initial (term final no_terms)))))

-- the term of an automaton with these five sets
abbrev pub five_of : CompsD → CompsD → CompsD → CompsD → CompsD → TermD
five_of states letters steps initial final = five_terms (coll states) (coll letters) (coll steps) (coll initial) (coll final)

-- the sets of an automaton's term at a choice
abbrev pub automaton_at : CompsD → CompsD → CompsD → CompsD → CompsD → List Atom → Automaton
automaton_at states letters steps initial final c = record {
  states = point (coll states) c;
  letters = point (coll letters) c;
  steps = point (coll steps) c;
  initial = point (coll initial) c;
  final = point (coll final) c;
}

-- what a shape makes of a step's three parts
abbrev pub IsProjected : Projection → PointValue → PointValue → PointValue → PointValue → Type 0
IsProjected Source w p l q = IsSame w p
IsProjected Label w p l q = IsSame w l
IsProjected Target w p l q = IsSame w q
IsProjected Outgoing w p l q = IsPair w p l
IsProjected Move w p l q = IsPair w p q
IsProjected Back w p l q = IsPair w q p
IsProjected Keyed w p l q = (k : PointValue) × IsPair k p l × IsPair w k q

-- a triple of these values is among the steps
abbrev pub HasStepIn : PointValue → PointValue → PointValue → PointValue → Type 0
HasStepIn steps p l q = (x : PointValue) × IsIn x steps × IsTriple x p l q

-- r has exactly what the shape makes of the triples among the steps
abbrev pub AreProjected : ℕ → Projection → TermD → TermD → Type 0
AreProjected n shape steps r =
    (c : List Atom) → length c ≡ n → (w : PointValue) → IsIn w (point r c) ↔ ((p l q : PointValue) × HasStepIn (point steps c) p l q × IsProjected shape w p l q)

-- r has exactly the members of the steps that are no triples
abbrev pub AreNonTriples : ℕ → TermD → TermD → Type 0
AreNonTriples n steps r =
    (c : List Atom) → length c ≡ n → (w : PointValue) → IsIn w (point r c) ↔ (IsIn w (point steps c) × ((p l q : PointValue) → IsTriple w p l q → ⊥))

-- pairs of the one kind and of the other with the same first part have the same second part
abbrev pub AllAgree : (PointValue → Type 0) → (PointValue → Type 0) → Type 0
AllAgree P Q = (x y k v v' : PointValue) → P x → Q y → IsPair x k v → IsPair y k v' → IsSame v v'

-- so among the pairs of a set
abbrev pub IsFunction : PointValue → Type 0
IsFunction s = AllAgree (λ x. IsIn x s) (λ x. IsIn x s)

-- any two members are the same
abbrev pub HasOneAtMost : PointValue → Type 0
HasOneAtMost s = (p q : PointValue) → IsIn p s → IsIn q s → IsSame p q

-- steps with the same source and letter have the same target
abbrev pub HasUniqueTargets : PointValue → Type 0
HasUniqueTargets steps = (p a q r : PointValue) → HasStepIn steps p a q → HasStepIn steps p a r → IsSame q r

-- each member is a triple
abbrev pub AreTriples : PointValue → Type 0
AreTriples steps = (x : PointValue) → IsIn x steps → (p l q : PointValue) × IsTriple x p l q

-- all that the shape makes of the triples among the steps is in the set
abbrev pub ArePartsIn : Projection → PointValue → PointValue → Type 0
ArePartsIn shape steps set = (w p l q : PointValue) → HasStepIn steps p l q → IsProjected shape w p l q → IsIn w set

-- each step is a triple of a state, a letter and a state
abbrev pub StepsJoin : PointValue → PointValue → PointValue → Type 0
StepsJoin states letters steps =
    (x : PointValue) → IsIn x steps → (p l q : PointValue) × IsTriple x p l q × IsIn p states × IsIn l letters × IsIn q states

-- r has a step for each two steps of s and t with the same letter, from the pair of the sources to the pair of the targets
abbrev pub AreSideBySide : ℕ → TermD → TermD → TermD → Type 0
AreSideBySide n s t r =
    (c : List Atom) → length c ≡ n → (w : PointValue) → IsIn w (point r c) ↔ ((p l p' q q' x x' : PointValue) × HasStepIn (point s c) p l p' × HasStepIn (point t c) q l q' × IsPair x p q × IsPair x' p' q' × IsTriple w x l x')

abbrev pub pair_of : TermD → TermD → TermD
pair_of s t = tup (term s (term t no_terms))

abbrev pub triple_of : TermD → TermD → TermD → TermD
triple_of p l q = tup (term p (term l (term q no_terms)))

abbrev pub projected_term : Projection → TermD → TermD → TermD → TermD
projected_term Source p l q = p
projected_term Label p l q = l
projected_term Target p l q = q
projected_term Outgoing p l q = pair_of p l
projected_term Move p l q = pair_of p q
projected_term Back p l q = pair_of q p
projected_term Keyed p l q = pair_of (pair_of p l) q

-- w is what the shape makes of the triple x
abbrev pub IsProjectionOf : Projection → PointValue → PointValue → Type 0
IsProjectionOf shape x w = (p l q : PointValue) × IsTriple x p l q × IsProjected shape w p l q

-- w is x, which is no triple
abbrev pub IsNonTriple : PointValue → PointValue → Type 0
IsNonTriple x w = IsSame x w × ((p l q : PointValue) → IsTriple x p l q → ⊥)

-- what R makes of the members of a comprehension is added
abbrev pub AddsOfOne : (PointValue → PointValue → Type 0) → ℕ → CompD → CompsD → CompsD → Type 0
AddsOfOne R n k = Adds n (λ c. IsMadeOfOne R (IsCompMember k c)) (CompFits n k) (λ o. AdmitsComp o k) (CompHasBoundedWidths k)
