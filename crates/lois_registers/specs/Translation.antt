-- The orbit-finite automaton of a register automaton.
use Rattle.std.specs.Prelude.{List, [], ◌∷◌, Option, Some, None, codes, ◌↔◌}
use Rattle.std.specs.List.{Contains, AllZip}
use Rattle.lois_base.specs.Atom.{Atom}
use Rattle.lois_base.specs.Data.{TermD}
use Rattle.lois_base.specs.Values.{PointValue, point}
use Rattle.lois_meaning.specs.Automata.{Automaton, IsAutomatonOf, IsTriple, Accepts}
use Rattle.lois_meaning.specs.Kinds.{IsAtomValue, IsTagValue, HasParts, IsSetOf}
use Rattle.lois_registers.specs.Runs.{Configuration, IsConfigurationOf, first, Leads, AcceptsAtoms}
use Rattle.lois_registers.specs.declared.automata.Registers.{Registers}

-- the value of a register's content; the tag `'none` stands for an empty register
abbrev pub IsContent : PointValue → Option Atom → Type 0
IsContent v None = IsTagValue v (codes "none")
IsContent v (Some a) = IsAtomValue v a

-- v is the tuple of a tag for the state and the contents
abbrev pub IsValueOf : PointValue → Configuration → Type 0
IsValueOf v p =
    (t : PointValue) × (us : List PointValue) × HasParts v (t ∷ us) × IsTagValue t p.state × AllZip IsContent us p.contents

-- v is a triple of a configuration, an atom and a configuration to which reading the atom leads
abbrev pub IsStepValue : Registers → PointValue → Type 0
IsStepValue r v =
    (p q : Configuration) × (x : Atom) × (c l d : PointValue) × IsConfigurationOf r p × Leads r p x q ×
    IsValueOf c p × IsAtomValue l x × IsValueOf d q × IsTriple v c l d

-- the automaton m does what the register automaton r does
pub record IsTranslation (r : Registers) (m : Automaton) : Type 0 where
  pub states : IsSetOf m.states (λ v. (p : Configuration) × IsConfigurationOf r p × IsValueOf v p)
  pub letters : IsSetOf m.letters (λ v. (x : Atom) × IsAtomValue v x)
  pub steps : IsSetOf m.steps (IsStepValue r)
  pub initial : IsSetOf m.initial (λ v. IsValueOf v (first r))
  pub final : IsSetOf m.final (λ v. (p : Configuration) × IsConfigurationOf r p × Contains r.finals p.state × IsValueOf v p)
  pub words : (word : List PointValue) → Accepts m word ↔ ((xs : List Atom) × AllZip IsAtomValue word xs × AcceptsAtoms r xs)

-- the value of the term is the automaton of r
abbrev pub IsTranslatedTo : Registers → TermD → Type 0
IsTranslatedTo r t = (m : Automaton) × IsAutomatonOf (point t []) m × IsTranslation r m
