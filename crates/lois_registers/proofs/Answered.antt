-- Results of one case with the line `automaton` are sound.
use Rattle.std.proofs.Common.{◌≡◌, ℕ, Bool, false, List, [], ◌∷◌, refl, sym, subst, inl, inr, arith}
use Rattle.std.specs.Prelude.{codes, not, bytes_eq}
use Rattle.std.specs.Bool.{IsTrue}
use Rattle.std.specs.List.{Contains, list_all}
use Rattle.std.proofs.lemmas.List.Elements.{All-nil, All-cons}
use Rattle.lois_answers.specs.ResultsData.{CaseD}
use Rattle.lois_answers.specs.Sound.{IsFreeName, IsSoundTerm, IsSoundLine, IsSoundCase, IsSound}
use Rattle.lois_base.proofs.Connectives.{both_true}
use Rattle.lois_base.specs.Data.{TermD}
use Rattle.lois_base.specs.Fits.{CubeFits, LitFits}
use Rattle.lois_base.specs.Validity.{AdmitsCube, AdmitsLit, IsStrictCube, IsStrictLit}
use Rattle.lois_lexer.specs.Words.{reserved}
use Rattle.lois_registers.proofs.Members.{contains_cases}

passes_at : (p : List ℕ → Bool) (xs : List (List ℕ)) (x : List ℕ) → IsTrue (list_all p xs) → Contains xs x → IsTrue (p x)
passes_at p [] x h (k, l, e) = absurd (omega (arith, l))
passes_at p (y ∷ ys) x h i =
    let both = (both_true (p y) (list_all p ys)).0 h in
    elim (contains_cases y ys x i) [ inl e ↦ subst (λ z. IsTrue (p z)) e both.0 | inr j ↦ passes_at p ys x both.1 j ]

is_other : IsTrue (list_all (λ w. not (bytes_eq w (codes "automaton"))) reserved)
unfolding reserved
is_other = refl

free_name : IsFreeName (codes "automaton")
free_name = record {
  form = record { short = omega arith; letter = refl; bytes = refl };
  free = λ i. let h : IsTrue false = passes_at (λ w. not (bytes_eq w (codes "automaton"))) reserved (codes "automaton") is_other i in absurd (cc);
}

pub one_line_sound : (o : Bool) (t : TermD) (parameters : List (List ℕ)) (cases : List CaseD) → IsSoundTerm o 0 t → parameters ≡ [] → cases ≡ record { «when» = [] ∷ []; lines = record { name = codes "automaton"; term = t } ∷ [] } ∷ [] →
    IsSound (record { order = o; parameters = parameters; cases = cases })
one_line_sound o t parameters cases sound none is =
    let line : IsSoundLine o 0 (record { name = codes "automaton"; term = t }) = record { name = free_name; term = sound } in
    let case : CaseD = record { «when» = [] ∷ []; lines = record { name = codes "automaton"; term = t } ∷ [] } in
    let good : IsSoundCase o 0 case = record {
      levels = All-cons (CubeFits 0) [] [] (All-nil (LitFits 0)) (All-nil (CubeFits 0));
      operators = All-cons (AdmitsCube o) [] [] (All-nil (AdmitsLit o)) (All-nil (AdmitsCube o));
      strict = All-cons IsStrictCube [] [] (All-nil IsStrictLit) (All-nil IsStrictCube);
      lines = All-cons (IsSoundLine o 0) (record { name = codes "automaton"; term = t }) [] line (All-nil (IsSoundLine o 0));
    } in
    subst (λ z. IsSound (record { order = o; parameters = z; cases = cases })) (sym none)
    (subst (λ z. IsSound (record { order = o; parameters = []; cases = z })) (sym is) (record {
      parameters = record { free = All-nil IsFreeName; distinct = tt };
      cases = All-cons (IsSoundCase o 0) case [] good (All-nil (IsSoundCase o 0));
    }))
