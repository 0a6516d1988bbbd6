-- Lists of atoms that register automata accept.
use Rattle.std.proofs.Common.{◌≤◌, Bool, true, false, List, [], ◌∷◌, length, map, refl, subst, inl, inr}
use Rattle.std.specs.Bool.{IsTrue}
use Rattle.std.specs.List.{AllZip, Contains}
use Rattle.std.proofs.lemmas.List.{length-map}
use Rattle.lois_base.specs.Atom.{Atom, equal}
use Rattle.lois_base.specs.Data.{TermD, var}
use Rattle.lois_base.specs.Truth.{sampled, atom_at}
use Rattle.lois_base.specs.Values.{PointValue, point}
use Rattle.lois_base.proofs.Order.{equal_refl, equal_sym, equal_trans}
use Rattle.lois_base.proofs.Members.{same_refl}
use Rattle.lois_equal.specs.Differing.{IsAcceptedByOne}
use Rattle.lois_equal.specs.Distinguishing.{AcceptsOnlyFirst}
use Rattle.lois_meaning.specs.Kinds.{IsAtomAt, IsAtomValue}
use Rattle.lois_meaning.proofs.Automata.{automaton_same}
use Rattle.lois_registers.proofs.Configurations.{IsAlike, step_like, are_like_refl}
use Rattle.lois_registers.specs.Runs.{Configuration, Runs, AcceptsAtoms, first}
use Rattle.lois_registers.specs.Translation.{IsTranslatedTo}
use Rattle.lois_registers.specs.declared.automata.Registers.{Registers}
use Rattle.lois_shortest_word.specs.Words.{AcceptsAt, values_at}
use Rattle.lois_laws.specs.DataWords.{AcceptsAtomsOnlyFirst, TellAtomsApart, AcceptsAtomsOnlyOne, EqualIsOfDataWords, DifferenceIsOfDataWords}

abbrev AreEqualAtoms : List Atom → List Atom → Type 0
AreEqualAtoms = AllZip (λ x y. IsTrue (equal x y))

runs_like : (r : Registers) (xs ys : List Atom) (p p' q : Configuration) → AreEqualAtoms xs ys → IsAlike p p' → Runs r p xs q → (q' : Configuration) × Runs r p' ys q' × IsAlike q q'
runs_like r [] [] p p' q e a h = (p', refl, subst (λ z. IsAlike z p') h a)
runs_like r [] (y ∷ ys) p p' q e a h = absurd e
runs_like r (x ∷ xs) [] p p' q e a h = absurd e
runs_like r (x ∷ xs) (y ∷ ys) p p' q e a (m, (s, there, step), rest) =
    let next = step_like s p p' m x y a e.0 step in
    let after = runs_like r xs ys m next.0 q e.1 next.2 rest in
    (after.0, (next.0, (s, there, next.1), after.1), after.2)

accepts_like : (r : Registers) (xs ys : List Atom) → AreEqualAtoms xs ys → AcceptsAtoms r xs → AcceptsAtoms r ys
accepts_like r xs ys e (q, run, final) =
    let to = runs_like r xs ys (first r) (first r) q e (record { state = refl; contents = are_like_refl (first r).contents }) run in
    (to.0, to.1, subst (λ z. Contains r.finals z) to.2.state final)

abbrev word_of : List Atom → List PointValue
word_of xs = map (λ x. point (var 0) (x ∷ [])) xs

atoms_of : (xs : List Atom) → AllZip IsAtomValue (word_of xs) xs
atoms_of [] = tt
atoms_of (x ∷ xs) = (equal_refl x, atoms_of xs)

one_atom : (t : TermD) (c : List Atom) (a b : Atom) → IsAtomAt t c a → IsAtomAt t c b → IsTrue (equal a b)
one_atom (var i) c a b h k = equal_trans a (atom_at c i) b (equal_sym (atom_at c i) a h) k
one_atom _ c a b h k = absurd h

equal_atoms : (word : List PointValue) (xs ys : List Atom) → AllZip IsAtomValue word xs → AllZip IsAtomValue word ys → AreEqualAtoms xs ys
equal_atoms [] [] [] h k = tt
equal_atoms (v ∷ word) (x ∷ xs) (y ∷ ys) h k = (one_atom v.term_of v.choice x y h.0 k.0, equal_atoms word xs ys h.1 k.1)
equal_atoms [] (x ∷ xs) ys h k = absurd h
equal_atoms [] [] (y ∷ ys) h k = absurd k
equal_atoms (v ∷ word) [] ys h k = absurd h
equal_atoms (v ∷ word) (x ∷ xs) [] h k = absurd k

module _ (r : Registers) (t : TermD) (is : IsTranslatedTo r t) where
  accepts_word : (word : List PointValue) (xs : List Atom) → AllZip IsAtomValue word xs → AcceptsAtoms r xs → AcceptsAt t [] word
  accepts_word word xs h k = (is.0, is.1, (is.2.words word).1 (xs, h, k))

  accepts_atoms : (word : List PointValue) (xs : List Atom) → AllZip IsAtomValue word xs → AcceptsAt t [] word → AcceptsAtoms r xs
  accepts_atoms word xs h k =
      let found = (is.2.words word).0 (automaton_same (point t []) (point t []) k.0 is.0 (same_refl (point t [])) k.1 is.1 word k.2) in
      accepts_like r found.0 xs (equal_atoms word found.0 xs found.1 h) found.2

alone_to : (r q : Registers) (t u : TermD) → IsTranslatedTo r t → IsTranslatedTo q u → (xs : List Atom) → AcceptsAtomsOnlyFirst r q xs → AcceptsOnlyFirst t u [] (word_of xs)
alone_to r q t u one other xs h = (accepts_word r t one (word_of xs) xs (atoms_of xs) h.0, λ k. h.1 (accepts_atoms q u other (word_of xs) xs (atoms_of xs) k))

pub equal_is_of_data_words : EqualIsOfDataWords
equal_is_of_data_words r q t u one other never xs (inl h) = never [] refl refl (word_of xs) (inl (alone_to r q t u one other xs h))
equal_is_of_data_words r q t u one other never xs (inr h) = never [] refl refl (word_of xs) (inr (alone_to q r u t other one xs h))

alone_back : (r q : Registers) (t u : TermD) → IsTranslatedTo r t → IsTranslatedTo q u → (word : List PointValue) → AcceptsOnlyFirst t u [] word → (xs : List Atom) × AllZip IsAtomValue word xs × AcceptsAtomsOnlyFirst r q xs
alone_back r q t u one other word h =
    let found = (one.2.words word).0 (automaton_same (point t []) (point t []) h.0.0 one.0 (same_refl (point t [])) h.0.1 one.1 word h.0.2) in
    (found.0, found.1, (found.2, λ k. h.1 (accepts_word q u other word found.0 found.1 k)))

pub difference_is_of_data_words : DifferenceIsOfDataWords
difference_is_of_data_words r q t u d one other difference = (side d.left difference.apart, short)
  where
    word : List PointValue
    word = values_at (sampled d.sample) d.word

    side : (left : Bool) → IsAcceptedByOne left t u [] word → (xs : List Atom) × AllZip IsAtomValue word xs × AcceptsAtomsOnlyOne left r q xs
    side true h = alone_back r q t u one other word h
    side false h = alone_back q r u t other one word h

    short : (ys : List Atom) → TellAtomsApart r q ys → length d.word ≤ length ys
    short ys (inl h) = subst (λ z. length d.word ≤ z) (length-map ys (λ x. point (var 0) (x ∷ []))) (difference.shortest [] refl refl (word_of ys) (inl (alone_to r q t u one other ys h)))
    short ys (inr h) = subst (λ z. length d.word ≤ z) (length-map ys (λ x. point (var 0) (x ∷ []))) (difference.shortest [] refl refl (word_of ys) (inr (alone_to q r u t other one ys h)))
