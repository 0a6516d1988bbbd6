-- What private contracts say: of the lines of two cases, of one case with all of the other results, and of all cases.
use Rattle.std.specs.Prelude.{◌≡◌, ℕ, ◌≤◌, List, length, slice_index_or, Option, Some, None}
use Rattle.std.specs.List.{All}
use Rattle.lois_base.specs.Atom.{Atom}
use Rattle.lois_base.specs.declared.guards.Lit.{Lit}
use Rattle.lois_answers.specs.ResultsData.{LineD, CaseD}
use Rattle.lois_automata.specs.Throughout.{HoldsThroughout}
use Rattle.lois_cases.specs.Cases.{HoldsAt, IsCase, IsTheCaseAt}
use Rattle.lois_context.specs.LineValues.{line_values}
use Rattle.lois_deciders.specs.Satisfaction.{IsEntailed}
use Rattle.lois_meaning.specs.Store.{AreSameNamed}
use Rattle.lois_shortest_word.specs.Words.{first_sampled}
use Rattle.lois_same.specs.Contrasts.{LinesContrast, IsDetail}
use Rattle.lois_same.specs.Members.{IsAdmittedSample, AreSameUnder}
use Rattle.lois_same.specs.Same.{HaveSameLinesAt}
use Rattle.lois_same.specs.declared.contrasts.Contrast.{Contrast}
use Rattle.lois_same.specs.declared.contrasts.Detail.{Detail}
use Rattle.lois_same.specs.declared.contrasts.Detail.TheVariants.{Count, Names, Values, Member}
use Rattle.lois_same.specs.declared.lines.LinesContrast.{LinesContrast as Found}
use Rattle.lois_same.specs.declared.rows.RowContrast.{RowContrast}
use Rattle.lois_same.specs.declared.values.ValueContrast.{ValueContrast}
use Rattle.lois_same.specs.declared.values.ValueContrast.TheVariants.{Values as OtherValues, Member as MemberOfOne}

-- ---- two lines
-- the detail is of the line at i
abbrev pub IsOfLine : ℕ → Detail → Type 0
IsOfLine i (Count k j) = ⊥
IsOfLine i (Names k a b) = k ≡ i
IsOfLine i (Values k a) = k ≡ i
IsOfLine i (Member k a t first) = k ≡ i

-- how the lines l and m at i differ at a choice that u admits
pub record IsLineContrast (n : ℕ) (u : List (List Lit)) (i : ℕ) (l m : LineD) (d : Found) : Type 0 where
  pub sample : IsAdmittedSample n u d.sample
  pub line : IsOfLine i d.detail
  pub detail : LinesContrast n d.sample l m d.detail

-- equal names, and the same values at each choice of n atoms that u admits
abbrev pub AreSameLines : ℕ → List (List Lit) → LineD → LineD → Type 0
AreSameLines n u l m = (l.name ≡ m.name) × AreSameUnder n u l.term m.term

abbrev pub IsLineContrastOrNone : ℕ → List (List Lit) → ℕ → LineD → LineD → Option Found → Type 0
IsLineContrastOrNone n u i l m None = AreSameLines n u l m
IsLineContrastOrNone n u i l m (Some d) = IsLineContrast n u i l m d

-- a contrast of values as one of lines
abbrev pub line_contrast : ℕ → List ℕ → ValueContrast → Found
line_contrast i name (OtherValues s) = record { sample = s; detail = Values i name }
line_contrast i name (MemberOfOne s t first) = record { sample = s; detail = Member i name t first }

abbrev pub names_contrast : ℕ → List ℕ → List ℕ → List ℕ → Found
names_contrast i a b s = record { sample = s; detail = Names i a b }

-- ---- the lines of two cases
pub record AreLinesContrast (n : ℕ) (u : List (List Lit)) (ls ms : List LineD) (d : Found) : Type 0 where
  pub sample : IsAdmittedSample n u d.sample
  pub detail : IsDetail n d.sample ls ms d.detail

abbrev pub AreLinesContrastOrNone : ℕ → List (List Lit) → List LineD → List LineD → Option Found → Type 0
AreLinesContrastOrNone n u ls ms None = HoldsThroughout n u (λ c. AreSameNamed (line_values c ls) (line_values c ms))
AreLinesContrastOrNone n u ls ms (Some d) = AreLinesContrast n u ls ms d

-- two cases that hold at a choice and whose lines differ there
pub record IsPairContrast (n : ℕ) (k l : CaseD) (d : Found) : Type 0 where
  pub count : n ≤ length d.sample
  pub first_holds : HoldsAt (first_sampled n d.sample) k
  pub second_holds : HoldsAt (first_sampled n d.sample) l
  pub detail : IsDetail n d.sample k.lines l.lines d.detail

-- the two have the same lines at each choice of n atoms at which both hold
abbrev pub HaveSameLines : ℕ → CaseD → CaseD → Type 0
HaveSameLines n k l = (c : List Atom) → length c ≡ n → HoldsAt c k → HoldsAt c l → HaveSameLinesAt c k l

abbrev pub IsPairContrastOrNone : ℕ → CaseD → CaseD → Option Found → Type 0
IsPairContrastOrNone n k l None = HaveSameLines n k l
IsPairContrastOrNone n k l (Some d) = IsPairContrast n k l d

-- ---- one case, and all of the other results
-- at each choice of n atoms at which k holds the case that holds there has the same lines
abbrev pub HasSameLinesAsCases : ℕ → List CaseD → CaseD → Type 0
HasSameLinesAsCases n cases k = (c : List Atom) → length c ≡ n → HoldsAt c k → (j : ℕ) (l : CaseD) → IsTheCaseAt c cases j l → HaveSameLinesAt c k l

abbrev pub IsRowContrast : ℕ → List CaseD → CaseD → RowContrast → Type 0
IsRowContrast n cases k d = (l : CaseD) × IsCase cases d.second l × IsPairContrast n k l d.contrast

abbrev pub IsRowContrastOrNone : ℕ → List CaseD → CaseD → Option RowContrast → Type 0
IsRowContrastOrNone n cases k None = HasSameLinesAsCases n cases k
IsRowContrastOrNone n cases k (Some d) = IsRowContrast n cases k d

-- the case at this index, counted from 0, holds wherever u does
abbrev pub IsEntailedCase : ℕ → List (List Lit) → List CaseD → ℕ → Type 0
IsEntailedCase n u cases i = (d : CaseD) → IsEntailed n u (slice_index_or cases i d).«when»

-- ---- all cases
abbrev pub IsCasesContrast : ℕ → List CaseD → List CaseD → Contrast → Type 0
IsCasesContrast n cs ds d = (k : CaseD) × IsCase cs d.first k × IsRowContrast n ds k (record { second = d.second; contrast = record { sample = d.sample; detail = d.detail } })

abbrev pub IsCasesContrastOrNone : ℕ → List CaseD → List CaseD → Option Contrast → Type 0
IsCasesContrastOrNone n cs ds None = All (HasSameLinesAsCases n ds) cs
IsCasesContrastOrNone n cs ds (Some d) = IsCasesContrast n cs ds d
