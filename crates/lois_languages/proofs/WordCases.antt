-- Cases that are asked for a word, one after the other.
use Rattle.std.proofs.Common.{◌≡◌, ℕ, Bool, List, Option, Some, sym, subst}
use Rattle.std.specs.Bool.{IsTrue}
use Rattle.std.specs.List.{All}
use Rattle.lois_base.specs.Atom.{Atom}
use Rattle.lois_base.specs.Data.{TermD}
use Rattle.lois_base.specs.Truth.{holds, sampled}
use Rattle.lois_base.specs.Validity.{AdmitsTerm, HasBoundedWidths}
use Rattle.lois_base.specs.Values.{point}
use Rattle.lois_base.specs.declared.guards.Lit.{Lit}
use Rattle.lois_answers.specs.ResultsData.{CaseD}
use Rattle.lois_answers.specs.Sound.{IsSoundTerm}
use Rattle.lois_shortest_word.specs.Words.{AcceptsAt, first_sampled, values_at}
use Rattle.lois_shortest_word.specs.Shortest.{AreAsLong, IsShortestWord}
use Rattle.lois_shortest_word.specs.declared.words.Word.{Word}
use Rattle.lois_shortest_word.proofs.Readings.{accepted_letters}
use Rattle.lois_equal.specs.Differences.{AreBounded}
use Rattle.lois_equal.specs.SplitWords.{IsSplitWord}
use Rattle.lois_equal.proofs.SplitLetters.{accepted_split, as_many}
use Rattle.lois_languages.specs.Faults.{HasAutomaton}
use Rattle.lois_languages.specs.Witnesses.{IsFirstWordReason, IsFirstWord, IsWitness}
use Rattle.lois_languages.specs.declared.faults.LineFault.{LineFault}
use Rattle.lois_languages.specs.declared.witnesses.Witness.{Witness}
use Rattle.lois_languages.specs.declared.witnesses.Witness.TheVariants.{Nothing, Found, Refused}

-- ---- a word whose letters are split
pub shortest_split : (n : ℕ) (u : List (List Lit)) (t : TermD) (w r : Word) → IsShortestWord n u t w → IsSplitWord n w r → IsShortestWord n u t r
shortest_split n u t w r is split =
    let c = first_sampled n r.sample in
    let values = values_at (sampled r.sample) r.letters in
    let accepted : AcceptsAt t c values = accepted_split t n w r split.short is.accepted in
    record {
      count = split.short.count;
      admitted = subst (λ (z : List Atom). IsTrue (holds z u)) (sym split.short.first) is.admitted;
      levels = split.short.levels;
      letters = (accepted.0, accepted.1, accepted_letters (point t c) accepted.0 values accepted.1 accepted.2);
      accepted = accepted;
      shortest = subst (AreAsLong n u t) (sym (as_many n w r split.short)) is.shortest;
      used = split.used;
    }

pub bounded_letters : (o : Bool) (n : ℕ) (t : TermD) (w r : Word) → IsSoundTerm o n t → IsSplitWord n w r → ((p : Bool) → AdmitsTerm p t → All (AdmitsTerm p) w.letters) → (HasBoundedWidths t → All HasBoundedWidths w.letters) → AreBounded o r.letters
bounded_letters o n t w r sound is operators widths =
    record { operators = is.short.operators o (operators o sound.operators); strict = is.strict; widths = is.short.widths (widths sound.widths) }

-- ---- all cases
pub witness_of : (n : ℕ) (a : List ℕ) (cs : List CaseD) → All (HasAutomaton n a) cs → (r : Witness) → IsFirstWord n a cs r → IsWitness n a cs r
witness_of n a cs have Nothing h = (have, h)
witness_of n a cs have (Found k w) h = (have, h)
witness_of n a cs have (Refused r) h = absurd h

pub refused_at : (n m : ℕ) (a : List ℕ) (cs : List CaseD) (found : Option LineFault) (r : LineFault) → n ≡ m → found ≡ Some r → IsFirstWordReason n a cs found → IsFirstWordReason m a cs (Some r)
refused_at n m a cs found r e f h = subst (λ k. IsFirstWordReason k a cs (Some r)) e (subst (IsFirstWordReason n a cs) f h)
