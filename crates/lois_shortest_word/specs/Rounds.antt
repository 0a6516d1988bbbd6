-- Rounds over the pairs of states that two automata reach side by side.
use Rattle.std.specs.Prelude.{◌≡◌, ℕ, ◌≤◌, Bool, List, length, ◌↔◌, ◌⊎◌, IsTrue}
use Rattle.lois_base.specs.Atom.{Atom}
use Rattle.lois_base.specs.Data.{TermD, coll, comps_of}
use Rattle.lois_base.specs.Fits.{ItemsFit}
use Rattle.lois_base.specs.Truth.{holds}
use Rattle.lois_base.specs.Validity.{AdmitsItems}
use Rattle.lois_base.specs.Values.{PointValue, point, IsIn}
use Rattle.lois_base.specs.declared.guards.Lit.{Lit}
use Rattle.lois_meaning.specs.Automata.{Automaton, IsTriple, Accepts}
use Rattle.lois_automata.specs.Throughout.{HoldsThroughout}
use Rattle.lois_shortest_word.specs.Pairs.{IsJointStep}
use Rattle.lois_shortest_word.specs.declared.rounds.Reached.{Reached}

pub record HasReachedLevels (n : ℕ) (r : Reached) : Type 0 where
  pub steps : ItemsFit n (comps_of r.steps)
  pub seen : ItemsFit n (comps_of r.seen)
  pub frontier : ItemsFit n (comps_of r.frontier)

pub record AdmitsReached (o : Bool) (r : Reached) : Type 0 where
  pub steps : AdmitsItems o (comps_of r.steps)
  pub seen : AdmitsItems o (comps_of r.seen)
  pub frontier : AdmitsItems o (comps_of r.frontier)

-- the values of the three sets at a choice
abbrev pub steps_at : Reached → List Atom → PointValue
steps_at r c = point (coll (comps_of r.steps)) c

abbrev pub seen_at : Reached → List Atom → PointValue
seen_at r c = point (coll (comps_of r.seen)) c

abbrev pub frontier_at : Reached → List Atom → PointValue
frontier_at r c = point (coll (comps_of r.frontier)) c

-- a step of both automata leads to w from a member of the set
abbrev pub IsNext : PointValue → PointValue → PointValue → PointValue → Type 0
IsNext one other pairs w = (x y l : PointValue) × IsIn x pairs × IsJointStep one other x y × IsTriple y x l w

-- the steps of both from what the last round found are added, and what they lead to is seen; what is new in it is kept apart
pub record IsRound (n : ℕ) (one other : TermD) (r r' : Reached) : Type 0 where
  pub steps : (c : List Atom) → length c ≡ n → (y : PointValue) →
      IsIn y (steps_at r' c) ↔ (IsIn y (steps_at r c) ⊎ ((x : PointValue) × IsIn x (frontier_at r c) × IsJointStep (point one c) (point other c) x y))
  pub seen : (c : List Atom) → length c ≡ n → (w : PointValue) → IsIn w (seen_at r' c) ↔ (IsIn w (seen_at r c) ⊎ IsNext (point one c) (point other c) (frontier_at r c) w)
  pub new : (c : List Atom) → length c ≡ n → (w : PointValue) → IsIn w (seen_at r' c) → IsIn w (seen_at r c) ⊎ IsIn w (frontier_at r' c)
  pub only : (c : List Atom) → length c ≡ n → (w : PointValue) → IsIn w (frontier_at r' c) → IsNext (point one c) (point other c) (frontier_at r c) w

-- all that the steps lead to from what the last round found was seen before
abbrev pub IsLastRound : ℕ → TermD → TermD → Reached → Type 0
IsLastRound n one other r =
    (c : List Atom) → length c ≡ n → (w : PointValue) → IsNext (point one c) (point other c) (frontier_at r c) w → IsIn w (seen_at r c)

-- at no choice that u admits a word is accepted by both automata
abbrev pub HaveNoCommonWord : ℕ → List (List Lit) → (List Atom → Automaton) → (List Atom → Automaton) → Type 0
HaveNoCommonWord n u a b = HoldsThroughout n u (λ c. (word : List PointValue) → Accepts (a c) word → Accepts (b c) word → ⊥)

-- each word that m accepts is accepted by both; m accepts some word of k letters at a choice that u admits, and none that both accept
-- at such a choice is shorter
pub record LeadsToCommon (n : ℕ) (u : List (List Lit)) (a b m : List Atom → Automaton) : Type 0 where
  pub words : (c : List Atom) → length c ≡ n → (word : List PointValue) → Accepts (m c) word → Accepts (a c) word × Accepts (b c) word
  pub count : ℕ
  pub some : (c : List Atom) × (length c ≡ n) × IsTrue (holds c u) × ((word : List PointValue) × (length word ≡ count) × Accepts (m c) word)
  pub least : HoldsThroughout n u (λ c. (word : List PointValue) → Accepts (a c) word → Accepts (b c) word → count ≤ length word)
