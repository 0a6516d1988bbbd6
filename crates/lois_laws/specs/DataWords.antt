-- `registers`, then `equal`: which lists of atoms two register automata accept.
use Rattle.std.specs.Prelude.{◌≤◌, Bool, true, false, List, [], ◌∷◌, length, ◌⊎◌}
use Rattle.std.specs.List.{AllZip}
use Rattle.lois_base.specs.Atom.{Atom}
use Rattle.lois_base.specs.Data.{TermD}
use Rattle.lois_base.specs.Truth.{sampled}
use Rattle.lois_equal.specs.Differing.{HaveSameLanguage, IsDistinguishingWord}
use Rattle.lois_equal.specs.declared.differing.Difference.{Difference}
use Rattle.lois_meaning.specs.Kinds.{IsAtomValue}
use Rattle.lois_registers.specs.Runs.{AcceptsAtoms}
use Rattle.lois_registers.specs.Translation.{IsTranslatedTo}
use Rattle.lois_registers.specs.declared.automata.Registers.{Registers}
use Rattle.lois_shortest_word.specs.Words.{values_at}

-- the first register automaton accepts the list of atoms, and the second doesn't
abbrev pub AcceptsAtomsOnlyFirst : Registers → Registers → List Atom → Type 0
AcceptsAtomsOnlyFirst r q xs = AcceptsAtoms r xs × (AcceptsAtoms q xs → ⊥)

-- exactly one of the two accepts it
abbrev pub TellAtomsApart : Registers → Registers → List Atom → Type 0
TellAtomsApart r q xs = AcceptsAtomsOnlyFirst r q xs ⊎ AcceptsAtomsOnlyFirst q r xs

-- the first alone where `left` says so, and otherwise the second alone
abbrev pub AcceptsAtomsOnlyOne : Bool → Registers → Registers → List Atom → Type 0
AcceptsAtomsOnlyOne true r q xs = AcceptsAtomsOnlyFirst r q xs
AcceptsAtomsOnlyOne false r q xs = AcceptsAtomsOnlyFirst q r xs

-- no word tells the two terms apart: no list of atoms is accepted by one of the two register automata alone
abbrev pub EqualIsOfDataWords : Type 0
EqualIsOfDataWords = (r q : Registers) (t u : TermD) → IsTranslatedTo r t → IsTranslatedTo q u → HaveSameLanguage 0 ([] ∷ []) t u →
    (xs : List Atom) → TellAtomsApart r q xs → ⊥

-- a difference is a list of atoms that one of them alone accepts, and no shorter list is one
abbrev pub DifferenceIsOfDataWords : Type 0
DifferenceIsOfDataWords = (r q : Registers) (t u : TermD) (d : Difference) → IsTranslatedTo r t → IsTranslatedTo q u →
    IsDistinguishingWord 0 ([] ∷ []) t u d →
    ((xs : List Atom) × AllZip IsAtomValue (values_at (sampled d.sample) d.word) xs × AcceptsAtomsOnlyOne d.left r q xs) ×
    ((ys : List Atom) → TellAtomsApart r q ys → length d.word ≤ length ys)
