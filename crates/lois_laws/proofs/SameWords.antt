-- Values that are the same accept the same words.
use Rattle.std.proofs.Common.{Bool, true, false, List, inl, inr}
use Rattle.lois_base.specs.Atom.{Atom}
use Rattle.lois_base.specs.Data.{TermD}
use Rattle.lois_base.specs.Values.{PointValue, point, IsSame}
use Rattle.lois_base.proofs.Members.{same_sym}
use Rattle.lois_equal.specs.Differing.{IsAcceptedByOne}
use Rattle.lois_meaning.proofs.Automata.{automaton_same, automaton_to}
use Rattle.lois_laws.specs.Printed.{AcceptsWord, AcceptsWordOnlyFirst, AreToldApart, AcceptsWordOnlyOne}

pub accepts_same : (v w : PointValue) (word : List PointValue) → IsSame v w → AcceptsWord v word → AcceptsWord w word
accepts_same v w word s (a, is, h) =
    let to = automaton_to v w a s is in
    (to.0, to.1, automaton_same v w a to.0 s is to.1 word h)

pub only_first_same : (v w x y : PointValue) (word : List PointValue) → IsSame v x → IsSame w y → AcceptsWordOnlyFirst v w word → AcceptsWordOnlyFirst x y word
only_first_same v w x y word s t h = (accepts_same v x word s h.0, λ k. h.1 (accepts_same y w word (same_sym w y t) k))

pub told_same : (v w x y : PointValue) (word : List PointValue) → IsSame v x → IsSame w y → AreToldApart v w word → AreToldApart x y word
told_same v w x y word s t (inl h) = inl (only_first_same v w x y word s t h)
told_same v w x y word s t (inr h) = inr (only_first_same w v y x word t s h)

pub told_by : (left : Bool) (t u : TermD) (c : List Atom) (v w : PointValue) (word : List PointValue) → IsSame (point t c) v → IsSame (point u c) w → IsAcceptedByOne left t u c word → AcceptsWordOnlyOne left v w word
told_by true t u c v w word s k h = only_first_same (point t c) (point u c) v w word s k h
told_by false t u c v w word s k h = only_first_same (point u c) (point t c) w v word k s h
