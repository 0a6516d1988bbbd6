-- Words that are the same letter by letter, and their letters.
use Rattle.std.proofs.Common.{List, [], ◌∷◌, ◌++◌}
use Rattle.lois_base.specs.Values.{PointValue}
use Rattle.lois_base.proofs.Members.{same_refl}
use Rattle.lois_meaning.specs.Automata.{Automaton, IsAutomatonOf, Reads, Accepts}
use Rattle.lois_meaning.specs.Kinds.{AreSame}
use Rattle.lois_meaning.specs.Operations.{AreLetters}
use Rattle.lois_meaning.proofs.Operations.{step_move, letters_of}
use Rattle.lois_meaning.proofs.Alike.{are_same_refl}

reads_alike : (a : Automaton) (ws vs : List PointValue) (p q : PointValue) → AreSame ws vs → Reads a ws p q → Reads a vs p q
reads_alike a [] [] p q same h = h
reads_alike a [] (v ∷ vs) p q same h = absurd same
reads_alike a (w ∷ ws) [] p q same h = absurd same
reads_alike a (w ∷ ws) (v ∷ vs) p q same (r, step, rest) =
    (r, step_move a p w r p v r (same_refl p) same.0 (same_refl r) step, reads_alike a ws vs r q same.1 rest)

pub accepts_alike : (a : Automaton) (ws vs : List PointValue) → AreSame ws vs → Accepts a ws → Accepts a vs
accepts_alike a ws vs same (p, i, (q, j, reads)) = (p, i, (q, j, reads_alike a ws vs p q same reads))

-- words that begin alike and end with the same letters
pub same_rest : (ws vs rest : List PointValue) → AreSame ws vs → AreSame (ws ++ rest) (vs ++ rest)
same_rest [] [] rest same = are_same_refl rest
same_rest [] (v ∷ vs) rest same = absurd same
same_rest (w ∷ ws) [] rest same = absurd same
same_rest (w ∷ ws) (v ∷ vs) rest same = (same.0, same_rest ws vs rest same.1)

-- what an automaton accepts are letters of its
pub accepted_letters : (v : PointValue) (a : Automaton) (word : List PointValue) → IsAutomatonOf v a → Accepts a word → AreLetters a word
accepted_letters v a word is (p, i, (q, j, reads)) = letters_of v a word p q is reads
