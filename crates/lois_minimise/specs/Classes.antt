-- What the private contracts say: of states that words tell apart, of states with their classes, and of steps between classes.
use Rattle.std.specs.Prelude.{◌≡◌, ℕ, ◌≤◌, Bool, List, ◌++◌, length, ◌↔◌, ◌⊎◌}
use Rattle.lois_base.specs.Atom.{Atom}
use Rattle.lois_base.specs.Data.{TermD, CompD, CompsD}
use Rattle.lois_base.specs.Fits.{CompFits, ItemsFit}
use Rattle.lois_base.specs.Validity.{AdmitsTerm, AdmitsComp, AdmitsItems, HasBoundedWidths, CompHasBoundedWidths, ItemsHaveBoundedWidths}
use Rattle.lois_base.specs.Values.{PointValue, point, IsIn, IsSame}
use Rattle.lois_algebra.specs.Gathered.{IsAmong, IsCompMember}
use Rattle.lois_meaning.specs.Automata.{Automaton, IsPair, IsTriple, IsAutomatonOf, HasStep, IsReachable, IsDeterministic, IsComplete, HaveSameWords}
use Rattle.lois_meaning.specs.Kinds.{IsSetOf}
use Rattle.lois_terms.specs.Shapes.{shape_of}
use Rattle.lois_automata.specs.Adding.{Adds, IsMadeOfOne, IsMadeOfTwo, IsPairOf}
use Rattle.lois_automata.specs.Built.{IsLedFrom}
use Rattle.lois_automata.specs.Projections.{HasStepIn, five_of, automaton_at, pair_of}
use Rattle.lois_automata.specs.Reachability.{LeadsTo}

-- a complete deterministic automaton, and the set of its reachable states
pub record IsCompleteDeterministicWithReach (a : Automaton) (states : PointValue) : Type 0 where
  pub value : PointValue
  pub automaton : IsAutomatonOf value a
  pub deterministic : IsDeterministic a
  pub complete : IsComplete a
  pub reached : IsSetOf states (IsReachable a)

-- the set leads from a value to another exactly where both are reachable states from which the same words are accepted
abbrev pub AreIndistinguishable : Automaton → PointValue → Type 0
AreIndistinguishable a alike =
    (p q : PointValue) → LeadsTo alike p q ↔ (IsReachable a p × IsReachable a q × HaveSameWords a p q)

-- ---- states that are told apart by the empty word
-- one of the two is in the set, and the other isn't
abbrev pub IsSplit : PointValue → PointValue → PointValue → Type 0
IsSplit final p q = (IsIn p final × (IsIn q final → ⊥)) ⊎ (IsIn q final × (IsIn p final → ⊥))

-- both are in the set, or neither is
abbrev pub IsAlike : PointValue → PointValue → PointValue → Type 0
IsAlike final p q = (IsIn p final × IsIn q final) ⊎ ((IsIn p final → ⊥) × (IsIn q final → ⊥))

-- the nodes are partitioned into two sets: those of a third set t are inside, and the others outside
pub record IsPartition (nodes t inside outside : PointValue) : Type 0 where
  pub inner : (w : PointValue) → IsIn w inside ↔ (IsIn w nodes × IsIn w t)
  pub outer : (w : PointValue) → IsIn w outside ↔ (IsIn w nodes × (IsIn w t → ⊥))
  pub each : (w : PointValue) → IsIn w nodes → IsIn w inside ⊎ IsIn w outside

-- w is x, which is in the set; which isn't
abbrev pub IsInFirstPart : TermD → List Atom → PointValue → PointValue → Type 0
IsInFirstPart t c x w = IsSame x w × IsIn x (point t c)

abbrev pub IsInSecondPart : TermD → List Atom → PointValue → PointValue → Type 0
IsInSecondPart t c x w = IsSame x w × (IsIn x (point t c) → ⊥)

-- each member of the comprehension is added to the one list where it is in the set, and to the other where it isn't
pub record AddsPartition (n : ℕ) (k : CompD) (t : TermD) (before after others_before others_after : CompsD) : Type 0 where
  pub inside : Adds n (λ c. IsMadeOfOne (IsInFirstPart t c) (IsCompMember k c)) (CompFits n k) (λ o. AdmitsComp o k × AdmitsTerm o t) (CompHasBoundedWidths k) before after
  pub outside : Adds n (λ c. IsMadeOfOne (IsInSecondPart t c) (IsCompMember k c)) (CompFits n k) (λ o. AdmitsComp o k × AdmitsTerm o t) (CompHasBoundedWidths k) others_before others_after
  pub each : (c : List Atom) → length c ≡ n → (w : PointValue) → IsCompMember k c w → IsAmong after c w ⊎ IsAmong others_after c w

-- w is the pair of a member of s and one of t
abbrev pub IsPairFrom : PointValue → PointValue → PointValue → Type 0
IsPairFrom s t w = (p q : PointValue) × IsIn p s × IsIn q t × IsPair w p q

-- r has exactly such pairs of the first two sets and of the other two
abbrev pub ArePairsAcross : ℕ → TermD → TermD → TermD → TermD → TermD → Type 0
ArePairsAcross n a b s t r =
    (c : List Atom) → length c ≡ n → (w : PointValue) → IsIn w (point r c) ↔ (IsPairFrom (point a c) (point b c) w ⊎ IsPairFrom (point s c) (point t c) w)

-- `apart` has exactly the pairs of nodes of which one is in the set and the other isn't, `alike` the other pairs of nodes, and each
-- node is in the set or isn't
pub record AreSplitPairs (nodes final apart alike : PointValue) : Type 0 where
  pub across : (x : PointValue) → IsIn x apart ↔ ((p q : PointValue) × IsIn p nodes × IsIn q nodes × IsSplit final p q × IsPair x p q)
  pub within : (x : PointValue) → IsIn x alike ↔ ((p q : PointValue) × IsIn p nodes × IsIn q nodes × IsAlike final p q × IsPair x p q)
  pub decided : (q : PointValue) → IsIn q nodes → IsIn q final ⊎ (IsIn q final → ⊥)

-- ---- pairs in the order of the shapes of their parts
-- the shape of p isn't greater than that of q
abbrev pub IsBefore : PointValue → PointValue → Type 0
IsBefore p q = shape_of p.term_of ≤ shape_of q.term_of

-- x is the pair of the two, the one that comes before the other first
abbrev pub IsOrderedPair : PointValue → PointValue → PointValue → Type 0
IsOrderedPair x p q = (IsBefore p q × IsPair x p q) ⊎ ((IsBefore p q → ⊥) × IsPair x q p)

abbrev pub IsOrderedTerm : TermD → TermD → TermD → Type 0
IsOrderedTerm a b r =
    ((shape_of a ≤ shape_of b) × (r ≡ pair_of a b)) ⊎ ((shape_of a ≤ shape_of b → ⊥) × (r ≡ pair_of b a))

-- w is x, a pair in order
abbrev pub IsInOrder : PointValue → PointValue → Type 0
IsInOrder x w = IsSame x w × ((p q : PointValue) × IsPair x p q × IsBefore p q)

-- w is the pair x turned, which then isn't in order
abbrev pub IsTurned : PointValue → PointValue → Type 0
IsTurned x w = (p q : PointValue) × IsPair x p q × IsPair w q p × (IsBefore q p → ⊥)

-- x and y are steps with the same letter, whose sources are in order, and w leads from their targets, put in order, back to them
abbrev pub IsMoveBack : PointValue → PointValue → PointValue → Type 0
IsMoveBack x y w =
    (p l p' q q' s t : PointValue) × IsTriple x p l p' × IsTriple y q l q' × IsBefore p q × IsPair s p q × IsOrderedPair t p' q' × IsPair w t s

-- r has exactly what R makes of the members of s
abbrev pub AreMadeOf : (PointValue → PointValue → Type 0) → ℕ → TermD → TermD → Type 0
AreMadeOf R n s r =
    (c : List Atom) → length c ≡ n → (w : PointValue) → IsIn w (point r c) ↔ IsMadeOfOne R (λ x. IsIn x (point s c)) w

-- r has exactly the pairs, and the turned ones
abbrev pub AreBothWays : PointValue → PointValue → Type 0
AreBothWays pairs r =
    (w : PointValue) → IsIn w r ↔ (IsIn w pairs ⊎ IsMadeOfOne IsTurned (λ x. IsIn x pairs) w)

-- v has exactly such moves of two of the steps
abbrev pub AreBackward : PointValue → PointValue → Type 0
AreBackward steps v = (w : PointValue) → IsIn w v ↔ IsMadeOfTwo IsMoveBack (λ x. IsIn x steps) (λ y. IsIn y steps) w

-- ---- members that may be left out
-- of the values that W names those that M also names are added, and some of the others
pub record AddsMatching (n : ℕ) (W M : List Atom → PointValue → Type 0) (F : Type 0) (A : Bool → Type 0) (U : Type 0) (before after : CompsD) : Type 0 where
  pub only : (c : List Atom) → length c ≡ n → (w : PointValue) → IsAmong after c w → IsAmong before c w ⊎ W c w
  pub kept : (c : List Atom) → length c ≡ n → (w : PointValue) → IsAmong before c w → IsAmong after c w
  pub all : (c : List Atom) → length c ≡ n → (w : PointValue) → W c w → M c w → IsAmong after c w
  pub levels : F → ItemsFit n before → ItemsFit n after
  pub operators : (o : Bool) → A o → AdmitsItems o before → AdmitsItems o after
  pub widths : U → ItemsHaveBoundedWidths before → ItemsHaveBoundedWidths after

-- what the moves of k lead to from members of `held` is added, or at least what of it is in the set t
abbrev pub AddsTold : ℕ → CompD → TermD → TermD → CompsD → CompsD → Type 0
AddsTold n k held t =
    AddsMatching n (λ c. IsMadeOfOne (IsLedFrom held c) (IsCompMember k c)) (λ c w. IsIn w (point t c)) (CompFits n k) (λ o. AdmitsComp o k × AdmitsTerm o held) (CompHasBoundedWidths k)

-- r has only what moves lead to from members of `held`, and at least what of it is in the set t
pub record AreTold (n : ℕ) (moves held t r : TermD) : Type 0 where
  pub only : (c : List Atom) → length c ≡ n → (w : PointValue) → IsIn w (point r c) → (p : PointValue) × IsIn p (point held c) × LeadsTo (point moves c) p w
  pub all : (c : List Atom) → length c ≡ n → (p w : PointValue) → IsIn p (point held c) → LeadsTo (point moves c) p w → IsIn w (point t c) → IsIn w (point r c)

-- w is a pair whose first part has the shape s
abbrev pub HasFirstOfShape : ℕ → PointValue → Type 0
HasFirstOfShape s w = (p q : PointValue) × IsPair w p q × (shape_of p.term_of ≡ s)

-- the members of k are added, or at least those pairs whose first part has the shape
abbrev pub AddsOfShape : ℕ → ℕ → CompD → CompsD → CompsD → Type 0
AddsOfShape n s k =
    AddsMatching n (λ c. IsMadeOfOne IsSame (IsCompMember k c)) (λ _. HasFirstOfShape s) (CompFits n k) (λ o. AdmitsComp o k) (CompHasBoundedWidths k)

-- r has only members of the set, and at least those pairs whose first part has the shape s
pub record ArePairsOfShape (n s : ℕ) (pairs r : TermD) : Type 0 where
  pub only : (c : List Atom) → length c ≡ n → (w : PointValue) → IsIn w (point r c) → IsIn w (point pairs c)
  pub all : (c : List Atom) → length c ≡ n → (w : PointValue) → IsIn w (point pairs c) → HasFirstOfShape s w → IsIn w (point r c)

-- ---- states with their classes
-- x is the set of what p is led to
abbrev pub IsSetOfLed : PointValue → PointValue → PointValue → Type 0
IsSetOfLed alike p x = IsSetOf x (LeadsTo alike p)

-- y is the pair of p and the set of what p is led to
abbrev pub IsClassed : PointValue → PointValue → PointValue → Type 0
IsClassed alike p y = (x : PointValue) × IsPair y p x × IsSetOfLed alike p x

-- v has such a pair for each node, and no others
pub record AreClassed (nodes alike v : PointValue) : Type 0 where
  pub classed : (y : PointValue) → IsIn y v → (p : PointValue) × IsIn p nodes × IsClassed alike p y
  pub each : (p : PointValue) → IsIn p nodes → (y : PointValue) × IsIn y v × IsClassed alike p y

-- the term r of n + m levels has exactly what the item is led to
abbrev pub IsClassTerm : ℕ → ℕ → TermD → TermD → TermD → Type 0
IsClassTerm n m alike item r =
    (c e : List Atom) → length c ≡ n → length e ≡ m → (q : PointValue) → IsIn q (point r (c ++ e)) ↔ LeadsTo (point alike c) (point item (c ++ e)) q

-- r has the item as its only member
abbrev pub IsSingletonOf : TermD → TermD → Type 0
IsSingletonOf item r = (c : List Atom) (w : PointValue) → IsIn w (point r c) ↔ IsSame w (point item c)

-- members of pairs of a comprehension's members with their classes are added
abbrev pub IsClassedAt : TermD → List Atom → PointValue → PointValue → Type 0
IsClassedAt alike c = IsClassed (point alike c)

-- each member of the comprehension is added in a pair with its class
pub record AddsClass (n : ℕ) (k : CompD) (alike : TermD) (before after : CompsD) : Type 0 where
  pub adds : Adds n (λ c. IsMadeOfOne (IsClassedAt alike c) (IsCompMember k c)) (CompFits n k) (λ o. AdmitsComp o k × AdmitsTerm o alike) (CompHasBoundedWidths k × HasBoundedWidths alike) before after
  pub each : (c : List Atom) → length c ≡ n → (p : PointValue) → IsCompMember k c p → (y : PointValue) × IsAmong after c y × IsClassedAt alike c p y

-- ---- the automaton of classes
-- r has exactly the second parts of the pairs
abbrev pub AreSeconds : ℕ → TermD → TermD → Type 0
AreSeconds n pairs r =
    (c : List Atom) → length c ≡ n → (x : PointValue) → IsIn x (point r c) ↔ ((q : PointValue) × LeadsTo (point pairs c) q x)

-- w is the second part of y
abbrev pub IsSecondOf : PointValue → PointValue → Type 0
IsSecondOf y w = (q : PointValue) × IsPair y q w

-- y is ((q, x), l) with (r, z)
abbrev pub IsTransition : PointValue → PointValue → PointValue → PointValue → PointValue → PointValue → Type 0
IsTransition y q x l r z =
    (from read to : PointValue) × IsPair from q x × IsPair read from l × IsPair to r z × IsPair y read to

abbrev pub transition_of : TermD → TermD → TermD → TermD → TermD → TermD
transition_of q x l r z = pair_of (pair_of (pair_of q x) l) (pair_of r z)

-- w is a transition, and the steps have one between its states
abbrev pub HasStepOf : PointValue → PointValue → Type 0
HasStepOf steps w = (q x l r z : PointValue) × IsTransition w q x l r z × HasStepIn steps q l r

-- r has only pairs of a read, which is a pair of a state with its class and a letter, and a state with its class, and at least those
-- between whose states the steps have one
pub record AreTransitions (n : ℕ) (reads classes steps r : TermD) : Type 0 where
  pub only : (c : List Atom) → length c ≡ n → (w : PointValue) → IsIn w (point r c) → IsPairFrom (point reads c) (point classes c) w
  pub all : (c : List Atom) → length c ≡ n → (w : PointValue) → IsPairFrom (point reads c) (point classes c) w → HasStepOf (point steps c) w → IsIn w (point r c)

-- so of the pairs of a member of the comprehension and one of the other, or of the list, those between whose states there is a step
abbrev pub AddsTransition : ℕ → CompD → CompD → TermD → CompsD → CompsD → Type 0
AddsTransition n k q steps =
    AddsMatching n (λ c. IsMadeOfTwo IsPairOf (IsCompMember k c) (IsCompMember q c)) (λ c. HasStepOf (point steps c)) (CompFits n k × CompFits n q) (λ o. AdmitsComp o k × AdmitsComp o q) (CompHasBoundedWidths k × CompHasBoundedWidths q)

abbrev pub AddsTransitions : ℕ → CompD → CompsD → TermD → CompsD → CompsD → Type 0
AddsTransitions n k qs steps =
    AddsMatching n (λ c. IsMadeOfTwo IsPairOf (IsCompMember k c) (IsAmong qs c)) (λ c. HasStepOf (point steps c)) (CompFits n k × ItemsFit n qs) (λ o. AdmitsComp o k × AdmitsItems o qs) (CompHasBoundedWidths k × ItemsHaveBoundedWidths qs)

-- w leads from a step of states to the step of their classes
abbrev pub IsStepMove : PointValue → PointValue → Type 0
IsStepMove y w =
    (q x l r z s t : PointValue) × IsTransition y q x l r z × IsTriple s q l r × IsTriple t x l z × IsPair w s t

-- r has exactly such moves for members of a set
abbrev pub AreStepMoves : ℕ → TermD → TermD → Type 0
AreStepMoves n transitions r =
    (c : List Atom) → length c ≡ n → (w : PointValue) → IsIn w (point r c) ↔ ((y : PointValue) × IsIn y (point transitions c) × IsStepMove y w)

-- v has a step between what the pairs have for the source and the target of each step
abbrev pub AreClassSteps : PointValue → PointValue → PointValue → PointValue → Type 0
AreClassSteps pairs letters steps v =
    (w : PointValue) → IsIn w v ↔ ((q l r x z : PointValue) × LeadsTo pairs q x × IsIn l letters × LeadsTo pairs r z × HasStepIn steps q l r × IsTriple w x l z)

-- the five sets of m are made of the pairs (state, class)
pub record IsQuotient (m a : Automaton) (pairs : PointValue) : Type 0 where
  pub states : IsSetOf m.states (λ x. (q : PointValue) × LeadsTo pairs q x)
  pub letters : IsSame m.letters a.letters
  pub steps : IsSetOf m.steps (λ w. (q l r x z : PointValue) × LeadsTo pairs q x × IsIn l a.letters × LeadsTo pairs r z × HasStep a q l r × IsTriple w x l z)
  pub initial : IsSetOf m.initial (λ x. (q : PointValue) × IsIn q a.initial × LeadsTo pairs q x)
  pub final : IsSetOf m.final (λ x. (q : PointValue) × IsIn q a.final × LeadsTo pairs q x)

-- r is a term of five sets, which are so made of those of the other term at each choice of n atoms
pub record IsQuotientTerm (n : ℕ) (s l t i f : CompsD) (pairs r : TermD) : Type 0 where
  pub states : CompsD
  pub letters : CompsD
  pub steps : CompsD
  pub initial : CompsD
  pub final : CompsD
  pub written : r ≡ five_of states letters steps initial final
  pub quotient : (c : List Atom) → length c ≡ n → IsQuotient (automaton_at states letters steps initial final c) (automaton_at s l t i f c) (point pairs c)
