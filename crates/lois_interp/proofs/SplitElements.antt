-- Lines whose terms are split: what holds of each, and the values that they name.
use Rattle.std.proofs.Common.{◌≡◌, List, [], ◌∷◌, sym, ◌∙◌}
use Rattle.std.specs.List.{All, AllZip}
use Rattle.std.proofs.lemmas.List.Elements.{All-nil, All-cons, All-head, All-tail}
use Rattle.lois_base.specs.Atom.{Atom}
use Rattle.lois_base.specs.Validity.{IsStrictTerm}
use Rattle.lois_base.specs.Values.{point}
use Rattle.lois_base.proofs.Members.{same_trans}
use Rattle.lois_answers.specs.ResultsData.{LineD}
use Rattle.lois_meaning.specs.Store.{NamedValues, AreSameNamed}
use Rattle.lois_meaning.specs.declared.faults.Fault.{Fault}
use Rattle.lois_meaning.specs.declared.faults.Stop.{Stop}
use Rattle.lois_meaning.specs.declared.faults.Stop.TheVariants.{Fault as Faulted, NoMemory}
use Rattle.lois_context.specs.LineValues.{line_values}
use Rattle.lois_eval.specs.Throughout.{IfFault}
use Rattle.lois_interp.specs.Split.{IsSplitLine, IsSplitStop, IsSplitFrom}

pub split_all : (P Q : LineD → Type 0) → ((l r : LineD) → IsSplitLine l r → P l → Q r) → (ls rs : List LineD) → AllZip IsSplitLine ls rs → All P ls → All Q rs
split_all P Q to [] [] h all = All-nil Q
split_all P Q to [] (r ∷ rs) h all = absurd h
split_all P Q to (l ∷ ls) [] h all = absurd h
split_all P Q to (l ∷ ls) (r ∷ rs) h all = All-cons Q r rs (to l r h.0 (All-head P l ls all)) (split_all P Q to ls rs h.1 (All-tail P l ls all))

pub split_strict : (ls rs : List LineD) → AllZip IsSplitLine ls rs → All (λ r. IsStrictTerm r.term) rs
split_strict [] [] h = All-nil (λ r. IsStrictTerm r.term)
split_strict [] (r ∷ rs) h = absurd h
split_strict (l ∷ ls) [] h = absurd h
split_strict (l ∷ ls) (r ∷ rs) h = All-cons (λ r. IsStrictTerm r.term) r rs h.0.strict (split_strict ls rs h.1)

pub split_named : (c : List Atom) (path : NamedValues) (ls rs : List LineD) → AllZip IsSplitLine ls rs → AreSameNamed path (line_values c ls) → AreSameNamed path (line_values c rs)
split_named c [] [] [] h e = tt
split_named c [] [] (r ∷ rs) h e = absurd h
split_named c [] (l ∷ ls) rs h e = absurd e
split_named c (b ∷ path) [] rs h e = absurd e
split_named c (b ∷ path) (l ∷ ls) [] h e = absurd h
split_named c (b ∷ path) (l ∷ ls) (r ∷ rs) h e =
    (e.0 ∙ sym h.0.name, same_trans b.holds (point l.term c) (point r.term c) e.1 (h.0.value c), split_named c path ls rs h.1 e.2)

pub split_from : (t u : Stop) (P : Fault → Type 0) → IfFault t P → IsSplitStop t u → IfFault u (IsSplitFrom P)
split_from (Faulted f) (Faulted g) P h split = (f, h, split)
split_from NoMemory (Faulted g) P h split = absurd split
split_from t NoMemory P h split = tt
