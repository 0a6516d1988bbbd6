-- Sets of states from which words of a length are accepted.
use Rattle.std.specs.Prelude.{◌≡◌, ℕ, ◌<◌, Bool, List, length, get_or, ◌↔◌}
use Rattle.lois_base.specs.Atom.{Atom}
use Rattle.lois_base.specs.Data.{TermD, CompD, CompsD}
use Rattle.lois_base.specs.Fits.{Fits, CompFits}
use Rattle.lois_base.specs.Validity.{AdmitsTerm, AdmitsComp, CompHasBoundedWidths}
use Rattle.lois_base.specs.Values.{PointValue, point, IsIn}
use Rattle.lois_algebra.specs.Gathered.{IsCompMember}
use Rattle.lois_terms.specs.Collections.{IsColl}
use Rattle.lois_meaning.specs.Automata.{Automaton, IsTriple, AcceptsFrom}
use Rattle.lois_automata.specs.Adding.{Adds, IsMadeOfOne}
use Rattle.lois_automata.specs.Projections.{HasStepIn}

-- from p some word of k letters is accepted
abbrev pub AcceptsIn : Automaton → ℕ → PointValue → Type 0
AcceptsIn a k p = (word : List PointValue) × (length word ≡ k) × AcceptsFrom a p word

-- t has exactly the values from which some word of k letters is accepted
abbrev pub IsLayer : ℕ → (List Atom → Automaton) → ℕ → TermD → Type 0
IsLayer n m k t = (c : List Atom) → length c ≡ n → (p : PointValue) → IsIn p (point t c) ↔ AcceptsIn (m c) k p

-- t is a set of n levels with admitted operators
pub record IsReadable (o : Bool) (n : ℕ) (t : TermD) : Type 0 where
  pub set : IsColl t
  pub levels : Fits n t
  pub operators : AdmitsTerm o t

-- the term at each place is the layer of as many letters
abbrev pub AreLayers : ℕ → (List Atom → Automaton) → List TermD → Type 0
AreLayers n m ts = (k : ℕ) → k < length ts → (d : TermD) → IsLayer n m k (get_or ts k d)

-- r has exactly the sources of steps to members of t
abbrev pub AreSources : ℕ → TermD → TermD → TermD → Type 0
AreSources n steps t r =
    (c : List Atom) → length c ≡ n → (p : PointValue) → IsIn p (point r c) ↔ ((l q : PointValue) × HasStepIn (point steps c) p l q × IsIn q (point t c))

-- x is a triple of w, a letter and a member of t
abbrev pub IsSourceTo : TermD → List Atom → PointValue → PointValue → Type 0
IsSourceTo t c x w = (l q : PointValue) × IsTriple x w l q × IsIn q (point t c)

-- the sources of the steps of k to members of t are added
abbrev pub AddsSource : ℕ → CompD → TermD → CompsD → CompsD → Type 0
AddsSource n k t = Adds n (λ c. IsMadeOfOne (IsSourceTo t c) (IsCompMember k c)) (CompFits n k) (λ o. AdmitsComp o k × AdmitsTerm o t) (CompHasBoundedWidths k)
