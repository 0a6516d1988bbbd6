-- Words whose letters are split, and whose numbers are then ranks.
use Rattle.std.proofs.Common.{ℕ, Bool, List, length, sym, subst, ◌≤◌}
use Rattle.std.specs.List.{All}
use Rattle.std.specs.Prelude.{IfSome, IsNone, Option, Some, None}
use Rattle.lois_base.specs.Data.{TermD}
use Rattle.lois_base.specs.Fits.{ConstraintFits, Fits}
use Rattle.lois_base.specs.Validity.{AdmitsConstraint, AdmitsTerm}
use Rattle.lois_base.specs.declared.guards.Lit.{Lit}
use Rattle.lois_automata.specs.Machines.{IsAutomatonAt}
use Rattle.lois_automata.specs.Throughout.{HoldsThroughout}
use Rattle.lois_shortest_word.specs.Ranked.{IsRankedWord, IsRankedOrNone}
use Rattle.lois_shortest_word.specs.Words.{first_sampled}
use Rattle.lois_shortest_word.specs.declared.words.Word.{Word}
use Rattle.lois_shortest_word.proofs.Choices.{first_count}
use Rattle.lois_shortest_word.proofs.RankedWords.{ranked_count, ranked_levels, ranked_used, ranked_admitted, ranked_accepted, ranked_refused, ranked_none, ranked_some}
use Rattle.lois_equal.specs.Differences.{IsShortestDifference}
use Rattle.lois_equal.specs.SplitWords.{IsSplitWord, IsSplitOrNone}
use Rattle.lois_equal.proofs.SplitLetters.{split_none, split_some}

-- a word that t alone accepts, with other numbers that stand alike
module _ (o : Bool) (n : ℕ) (u : List (List Lit)) (t s : TermD) (u_fits : ConstraintFits n u) (u_admits : AdmitsConstraint o u) (t_fits : Fits n t) (t_admits : AdmitsTerm o t) (s_fits : Fits n s) (s_admits : AdmitsTerm o s) (t_automaton : HoldsThroughout n u (IsAutomatonAt t)) (s_automaton : HoldsThroughout n u (IsAutomatonAt s)) where
  pub ranked_difference : (w r : Word) → IsShortestDifference n u t s w × All (AdmitsTerm o) w.letters → IsRankedWord o w r → IsShortestDifference n u t s r
  ranked_difference w r (is, operators) ranked =
      let count = ranked_count o n w r ranked is.count in
      let before = first_count n w.sample is.count in
      let here = ranked_admitted o n w r ranked is.count u u_fits u_admits before is.admitted in
      record {
        count = count;
        admitted = here;
        levels = ranked_levels o n w r ranked is.count is.levels;
        accepted = (
          ranked_accepted o n w r ranked is.count t t_fits t_admits is.levels operators (t_automaton (first_sampled n r.sample) (first_count n r.sample count) here) is.accepted.0,
          ranked_refused o n w r ranked is.count s s_fits s_admits is.levels operators (s_automaton (first_sampled n w.sample) before is.admitted) is.accepted.1,
        );
        shortest = λ c l h word alone. subst (λ z. length z ≤ length word) (sym ranked.letters) (is.shortest c l h word alone);
        used = ranked_used o n w r ranked is.count is.used;
      }

-- ---- a word that may be missing
module _ (o : Bool) (n : ℕ) (found split r : Option Word) (is : IsSplitOrNone n found split) (ranked : IsRankedOrNone o split r) where
  pub settled_none : IsNone r → IsNone found
  settled_none h = split_none n found split is (ranked_none o split r ranked h)

  pub settled_some : (P Q R : Word → Type 0) → ((w v : Word) → P w → IsSplitWord n w v → Q v) → ((v w : Word) → Q v → IsRankedWord o v w → R w) → IfSome found P → IfSome r R
  settled_some P Q R first second h = ranked_some o Q R second split r ranked (split_some n P Q first found split is h)

  -- what holds of the letters
  pub settled_letters : (P : Word → Type 0) (Q : List TermD → Type 0) → ((w v : Word) → P w → IsSplitWord n w v → Q v.letters) → IfSome found P → IfSome r (λ w. Q w.letters)
  settled_letters P Q first h = settled_some P (λ w. Q w.letters) (λ w. Q w.letters) first (λ v w q k. subst Q (sym k.letters) q) h

-- what holds of a word in two ways
pub some_both : (P Q : Word → Type 0) (o : Option Word) → IfSome o P → IfSome o Q → IfSome o (λ w. P w × Q w)
some_both P Q None p q = tt
some_both P Q (Some w) p q = (p, q)
