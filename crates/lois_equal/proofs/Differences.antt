-- Words that one automaton accepts and another one doesn't.
use Rattle.std.proofs.Common.{◌≡◌, ℕ, inr, ◌↔◌, Bool, List, [], ◌∷◌, length, subst}
use Rattle.std.specs.List.{All}
use Rattle.std.proofs.lemmas.List.Elements.{All-nil, All-cons, All-head, All-tail}
use Rattle.lois_base.specs.Atom.{Atom}
use Rattle.lois_base.specs.Data.{TermD, coll, CompsD}
use Rattle.lois_base.specs.Values.{PointValue, point, IsIn}
use Rattle.lois_base.specs.Validity.{AdmitsTerm, AdmitsItems, HasBoundedWidths, ItemsHaveBoundedWidths}
use Rattle.lois_base.specs.declared.guards.Lit.{Lit}
use Rattle.lois_base.proofs.Members.{same_refl, same_in}
use Rattle.lois_meaning.specs.Automata.{Automaton, IsAutomatonOf, Reads, Accepts}
use Rattle.lois_meaning.specs.Operations.{AreLetters}
use Rattle.lois_meaning.proofs.Automata.{automaton_both, automaton_same}
use Rattle.lois_automata.specs.Projections.{five_of}
use Rattle.lois_automata.specs.Machines.{IsAutomatonAt, IsCompleteDeterministicAt, AcceptsOthersAt}
use Rattle.lois_automata.specs.Deterministic.{IsDeterministicAt}
use Rattle.lois_automata.specs.Throughout.{HoldsThroughout}
use Rattle.lois_automata.proofs.FiveMachine.{five_equal}
use Rattle.lois_automata.proofs.Paths.{letter_in}
use Rattle.lois_shortest_word.specs.Words.{AcceptsAt}
use Rattle.lois_shortest_word.specs.Common.{AcceptBothAt}
use Rattle.lois_equal.specs.Completed.{IsCompletionAt}
use Rattle.lois_equal.specs.Distinguishing.{AcceptsOnlyFirst, HasLetterAt}

-- a term has one automaton at a choice
pub accepts_of : (t : TermD) (c : List Atom) (a : Automaton) → IsAutomatonOf (point t c) a → (word : List PointValue) → AcceptsAt t c word → Accepts a word
accepts_of t c a is word h = automaton_same (point t c) (point t c) h.0 a (same_refl (point t c)) h.1 is word h.2

pub letter_of : (t : TermD) (c : List Atom) (a : Automaton) → IsAutomatonOf (point t c) a → (x : PointValue) → HasLetterAt t c x → IsIn x a.letters
letter_of t c a is x h = same_in x h.0.letters a.letters (automaton_both (point t c) (point t c) h.0 a (same_refl (point t c)) h.1 is).letters h.2

-- the values of an accepted word are letters
module _ (t : TermD) (c : List Atom) (a : Automaton) (is : IsAutomatonOf (point t c) a) where
  all_read : (P : PointValue → Type 0) → ((x : PointValue) → HasLetterAt t c x → P x) → (word : List PointValue) (p q : PointValue) → Reads a word p q → All P word
  all_read P each [] p q h = All-nil P
  all_read P each (l ∷ word) p q (r, step, rest) = All-cons P l word (each l (a, is, letter_in (point t c) a is p l r step)) (all_read P each word r q rest)

pub all_letters : (t : TermD) (c : List Atom) (P : PointValue → Type 0) → ((x : PointValue) → HasLetterAt t c x → P x) → (word : List PointValue) → AcceptsAt t c word → All P word
all_letters t c P each word (a, is, (p, i, (q, j, reads))) = all_read t c a is P each word p q reads

pub are_letters : (a : Automaton) (word : List PointValue) → All (λ x. IsIn x a.letters) word → AreLetters a word
are_letters a [] h = tt
are_letters a (l ∷ word) h = (All-head (λ x. IsIn x a.letters) l word h, are_letters a word (All-tail (λ x. IsIn x a.letters) l word h))

-- s is made complete over the letters of t
module _ (t s whole others more : TermD) (c : List Atom) (letters : (x : PointValue) → HasLetterAt t c x → IsIn x (point more c)) (complete : IsCompletionAt s more whole c) (denied : AcceptsOthersAt whole others c) where
  common_alone : (word : List PointValue) → AcceptBothAt t others c word ↔ AcceptsOnlyFirst t s c word
  common_alone word = (there, back)
    where
      there : AcceptBothAt t others c word → AcceptsOnlyFirst t s c word
      there (h, g) =
          let denies = (denied.words word).0 (accepts_of others c denied.made denied.made_is word g) in
          (h, λ k. denies.1 (accepts_of whole c denied.first denied.first_is word ((complete.words word).1 k)))

      own : (x : PointValue) → HasLetterAt t c x → IsIn x denied.first.letters
      own x h = letter_of whole c denied.first denied.first_is x ((complete.letters x).1 (inr (letters x h)))

      back : AcceptsOnlyFirst t s c word → AcceptBothAt t others c word
      back (h, never) =
          let over : AreLetters denied.first word = are_letters denied.first word (all_letters t c (λ x. IsIn x denied.first.letters) own word h) in
          let denies = (denied.words word).1 (over, λ g. never ((complete.words word).0 (denied.first, denied.first_is, g))) in
          (h, (denied.made, denied.made_is, denies))

-- ---- throughout the choices that a constraint admits
module _ (n : ℕ) (u : List (List Lit)) (t s whole : TermD) (ks l st i f : CompsD) (is : t ≡ five_of ks l st i f) (only : HoldsThroughout n u (IsDeterministicAt s)) (complete : (c : List Atom) → length c ≡ n → IsDeterministicAt s c → IsCompletionAt s (coll l) whole c) where
  pub whole_throughout : HoldsThroughout n u (IsCompleteDeterministicAt whole)
  whole_throughout c k h = (complete c k (only c k h)).whole

  pub alone_throughout : (others : TermD) → HoldsThroughout n u (AcceptsOthersAt whole others) → HoldsThroughout n u (λ c. (word : List PointValue) → AcceptBothAt t others c word ↔ AcceptsOnlyFirst t s c word)
  alone_throughout others denied c k h = common_alone t s whole others (coll l) c letters (complete c k (only c k h)) (denied c k h)
    where
      letters : (x : PointValue) → HasLetterAt t c x → IsIn x (point (coll l) c)
      letters x j = go (subst (λ z. HasLetterAt z c x) is j)
        where
          go : HasLetterAt (five_of ks l st i f) c x → IsIn x (point (coll l) c)
          go (m, own, g) = subst (λ z. IsIn x z.letters) (five_equal ks l st i f c m own) g

pub others_automaton : (n : ℕ) (u : List (List Lit)) (whole others : TermD) → HoldsThroughout n u (AcceptsOthersAt whole others) → HoldsThroughout n u (IsAutomatonAt others)
others_automaton n u whole others denied c k h = let at = denied c k h in (at.made, at.made_is)

-- the letters of a term of five sets
module _ (t : TermD) (ks l st i f : CompsD) (is : t ≡ five_of ks l st i f) where
  pub letters_admit : (o : Bool) → AdmitsTerm o t → AdmitsItems o l
  letters_admit o h =
      let five : AdmitsTerm o (five_of ks l st i f) = subst (AdmitsTerm o) is h in
      five.1.0

  pub letters_bounded : HasBoundedWidths t → ItemsHaveBoundedWidths l
  letters_bounded h =
      let five : HasBoundedWidths (five_of ks l st i f) = subst HasBoundedWidths is h in
      five.2.1.0
