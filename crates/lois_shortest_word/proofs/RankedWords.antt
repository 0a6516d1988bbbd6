-- Words whose numbers are ranks: what is said of a word is said of it with other numbers that stand alike.
use Rattle.std.proofs.Common.{◌≡◌, ℕ, ◌≤◌, Bool, List, length, take, sym, subst, arith}
use Rattle.std.proofs.lemmas.List.{length-map, take-map}
use Rattle.std.specs.Bool.{IsTrue}
use Rattle.std.specs.List.{All}
use Rattle.std.specs.Prelude.{IfSome, IsNone, Option, Some, None}
use Rattle.lois_base.specs.Atom.{whole}
use Rattle.lois_base.specs.Data.{TermD}
use Rattle.lois_base.specs.Fits.{ConstraintFits, Fits}
use Rattle.lois_base.specs.Patterns.{AreAlike}
use Rattle.lois_base.specs.Truth.{holds, sampled}
use Rattle.lois_base.specs.Validity.{AdmitsConstraint, AdmitsTerm}
use Rattle.lois_base.specs.Values.{point}
use Rattle.lois_base.specs.declared.guards.Lit.{Lit}
use Rattle.lois_base.proofs.Moves.{alike_sym}
use Rattle.lois_base.proofs.Truths.{holds_alike}
use Rattle.lois_ranks.specs.Ranks.{AreRanks}
use Rattle.lois_automata.specs.Machines.{IsAutomatonAt}
use Rattle.lois_automata.specs.Throughout.{HoldsThroughout}
use Rattle.lois_shortest_word.specs.Ranked.{IsRankedWord, IsRankedOrNone}
use Rattle.lois_shortest_word.specs.Words.{AcceptsAt, values_at, first_sampled, AreUsedBetween}
use Rattle.lois_shortest_word.specs.Shortest.{IsShortestWord}
use Rattle.lois_shortest_word.specs.declared.words.Word.{Word}
use Rattle.lois_shortest_word.proofs.Choices.{first_count}
use Rattle.lois_shortest_word.proofs.Readings.{accepted_letters}
use Rattle.lois_shortest_word.proofs.AlikeWords.{alike_first, accepts_by_pattern}

first_of : (n : ℕ) (s : List ℕ) → take n (sampled s) ≡ first_sampled n s
first_of n s = take-map whole n s

module _ (o : Bool) (n : ℕ) (w r : Word) (is : IsRankedWord o w r) (count : n ≤ length w.sample) where
  same_count : length r.sample ≡ length w.sample
  same_count = omega (arith, is.alike.count, length-map w.sample whole, length-map r.sample whole)

  long : n ≤ length (sampled w.sample)
  long = omega (arith, count, length-map w.sample whole)

  long_other : n ≤ length (sampled r.sample)
  long_other = omega (arith, count, same_count, length-map r.sample whole)

  pub ranked_count : n ≤ length r.sample
  ranked_count = omega (arith, same_count)

  pub ranked_levels : All (Fits (length w.sample)) w.letters → All (Fits (length r.sample)) r.letters
  ranked_levels h = subst (λ z. All (Fits (length r.sample)) z) (sym is.letters) (subst (λ z. All (Fits z) w.letters) (sym same_count) h)

  pub ranked_used : AreUsedBetween n (length w.sample) w.letters → AreUsedBetween n (length r.sample) r.letters
  ranked_used h = subst (λ z. AreUsedBetween n (length r.sample) z) (sym is.letters) (subst (λ z. AreUsedBetween n z w.letters) (sym same_count) h)

  first_alike : AreAlike o (first_sampled n w.sample) (first_sampled n r.sample)
  first_alike =
      subst (λ z. AreAlike o z (first_sampled n r.sample)) (first_of n w.sample) (subst (λ z. AreAlike o (take n (sampled w.sample)) z) (first_of n r.sample) (alike_first o n (sampled w.sample) (sampled r.sample) long is.alike))

  pub ranked_admitted : (u : List (List Lit)) → ConstraintFits n u → AdmitsConstraint o u → length (first_sampled n w.sample) ≡ n → IsTrue (holds (first_sampled n w.sample) u) → IsTrue (holds (first_sampled n r.sample) u)
  ranked_admitted u fits admits long h =
      subst IsTrue (holds_alike o (first_sampled n w.sample) (first_sampled n r.sample) first_alike u (subst (λ z. ConstraintFits z u) (sym long) fits) admits) h

  module _ (t : TermD) (fits : Fits n t) (admits : AdmitsTerm o t) (levels : All (Fits (length w.sample)) w.letters) (operators : All (AdmitsTerm o) w.letters) where
    at_first : (s : List ℕ) → IsAutomatonAt t (first_sampled n s) → IsAutomatonAt t (take n (sampled s))
    at_first s h = subst (IsAutomatonAt t) (sym (first_of n s)) h

    pub ranked_accepted : IsAutomatonAt t (first_sampled n r.sample) → AcceptsAt t (first_sampled n w.sample) (values_at (sampled w.sample) w.letters) → AcceptsAt t (first_sampled n r.sample) (values_at (sampled r.sample) r.letters)
    ranked_accepted there h =
        let fit : All (Fits (length (sampled w.sample))) w.letters = subst (λ z. All (Fits z) w.letters) (sym (length-map w.sample whole)) levels in
        let before : AcceptsAt t (take n (sampled w.sample)) (values_at (sampled w.sample) w.letters) = subst (λ z. AcceptsAt t z (values_at (sampled w.sample) w.letters)) (sym (first_of n w.sample)) h in
        let after = accepts_by_pattern o n (sampled w.sample) (sampled r.sample) long is.alike t fits admits w.letters fit operators (at_first r.sample there) before in
        subst (λ z. AcceptsAt t (first_sampled n r.sample) (values_at (sampled r.sample) z)) (sym is.letters) (subst (λ z. AcceptsAt t z (values_at (sampled r.sample) w.letters)) (first_of n r.sample) after)

    pub ranked_refused : IsAutomatonAt t (first_sampled n w.sample) → (AcceptsAt t (first_sampled n w.sample) (values_at (sampled w.sample) w.letters) → ⊥) → AcceptsAt t (first_sampled n r.sample) (values_at (sampled r.sample) r.letters) → ⊥
    ranked_refused here never h =
        let fit : All (Fits (length (sampled r.sample))) w.letters = subst (λ z. All (Fits z) w.letters) (omega (arith, same_count, length-map r.sample whole)) levels in
        let before : AcceptsAt t (take n (sampled r.sample)) (values_at (sampled r.sample) w.letters) = subst (λ z. AcceptsAt t z (values_at (sampled r.sample) w.letters)) (sym (first_of n r.sample)) (subst (λ z. AcceptsAt t (first_sampled n r.sample) (values_at (sampled r.sample) z)) is.letters h) in
        let after = accepts_by_pattern o n (sampled r.sample) (sampled w.sample) long_other (alike_sym o (sampled w.sample) (sampled r.sample) is.alike) t fits admits w.letters fit operators (at_first w.sample here) before in
        never (subst (λ z. AcceptsAt t z (values_at (sampled w.sample) w.letters)) (first_of n w.sample) after)

-- ---- a shortest word
module _ (o : Bool) (n : ℕ) (u : List (List Lit)) (t : TermD) (u_fits : ConstraintFits n u) (u_admits : AdmitsConstraint o u) (fits : Fits n t) (admits : AdmitsTerm o t) (automaton : HoldsThroughout n u (IsAutomatonAt t)) where
  pub ranked_word : (w r : Word) → IsShortestWord n u t w × All (AdmitsTerm o) w.letters → IsRankedWord o w r → IsShortestWord n u t r
  ranked_word w r (is, operators) ranked =
      let here = ranked_admitted o n w r ranked is.count u u_fits u_admits (first_count n w.sample is.count) is.admitted in
      let count = ranked_count o n w r ranked is.count in
      let c = first_sampled n r.sample in
      let word = values_at (sampled r.sample) r.letters in
      let accepted = ranked_accepted o n w r ranked is.count t fits admits is.levels operators (automaton c (first_count n r.sample count) here) is.accepted in
      record {
        count = count;
        admitted = here;
        levels = ranked_levels o n w r ranked is.count is.levels;
        letters = (accepted.0, accepted.1, accepted_letters (point t c) accepted.0 word accepted.1 accepted.2);
        accepted = accepted;
        shortest = λ d l h v a. subst (λ z. length z ≤ length v) (sym ranked.letters) (is.shortest d l h v a);
        used = ranked_used o n w r ranked is.count is.used;
      }

-- ---- words that there may be
module _ (o : Bool) where
  pub ranked_none : (found r : Option Word) → IsRankedOrNone o found r → IsNone r → IsNone found
  ranked_none None None is h = h
  ranked_none (Some w) (Some v) is h = h
  ranked_none None (Some v) is h = absurd is
  ranked_none (Some w) None is h = absurd is

  pub ranked_some : (P Q : Word → Type 0) → ((w r : Word) → P w → IsRankedWord o w r → Q r) → (found r : Option Word) → IsRankedOrNone o found r → IfSome found P → IfSome r Q
  ranked_some P Q each None None is h = tt
  ranked_some P Q each (Some w) (Some v) is h = each w v h is
  ranked_some P Q each None (Some v) is h = absurd is
  ranked_some P Q each (Some w) None is h = absurd is

  pub ranked_are : (found r : Option Word) → IsRankedOrNone o found r → IfSome r (λ w. AreRanks o w.sample)
  ranked_are None None is = tt
  ranked_are (Some w) (Some v) is = is.ranked
  ranked_are None (Some v) is = absurd is
  ranked_are (Some w) None is = absurd is
