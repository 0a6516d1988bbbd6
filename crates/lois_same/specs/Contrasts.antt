-- Where two results differ.
use Rattle.std.specs.Prelude.{◌≡◌, ℕ, ◌+◌, ◌≤◌, Bool, true, false, List, ◌∷◌, ◌++◌, length}
use Rattle.lois_base.specs.Fits.{Fits}
use Rattle.lois_base.specs.Tree.{tree}
use Rattle.lois_base.specs.Truth.{sampled}
use Rattle.lois_base.specs.Validity.{IsStrictTerm}
use Rattle.lois_base.specs.Values.{PointValue, point, IsIn, IsMember, IsSame}
use Rattle.lois_answers.specs.ResultsData.{LineD, CaseD}
use Rattle.lois_answers.specs.declared.results.Results.{Results}
use Rattle.lois_cases.specs.Cases.{HoldsAt, IsCase}
use Rattle.lois_meaning.specs.Kinds.{IsSet}
use Rattle.lois_shortest_word.specs.Words.{first_sampled}
use Rattle.lois_same.specs.declared.contrasts.Contrast.{Contrast}
use Rattle.lois_same.specs.declared.contrasts.Detail.{Detail}
use Rattle.lois_same.specs.declared.contrasts.Detail.TheVariants.{Count, Names, Values, Member}

-- counted from 1, the line at i is l
pub record IsLine (lines : List LineD) (i : ℕ) (l : LineD) : Type 0 where
  pub before : List LineD
  pub behind : List LineD
  pub among : lines ≡ before ++ l ∷ behind
  pub number : i ≡ length before + 1

-- u is a member of the set v, and no member of w is the same; where `first` is false, the other way round
abbrev pub IsInOneAlone : Bool → PointValue → PointValue → PointValue → Type 0
IsInOneAlone true u v w = IsMember u v × (IsIn u w → ⊥)
IsInOneAlone false u v w = IsMember u w × (IsIn u v → ⊥)

-- two values that aren't the same, of which one at least is no set
abbrev pub AreOtherValues : PointValue → PointValue → Type 0
AreOtherValues v w = (IsSame v w → ⊥) × (IsSet v × IsSet w → ⊥)

-- how two lines differ at the choice of the first n numbers of the sample s; a member is read at the whole sample
abbrev pub LinesContrast : ℕ → List ℕ → LineD → LineD → Detail → Type 0
LinesContrast n s l m (Count k j) = ⊥
LinesContrast n s l m (Names i a b) = (l.name ≡ a) × (m.name ≡ b) × (a ≡ b → ⊥)
LinesContrast n s l m (Values i a) = (l.name ≡ a) × (m.name ≡ a) × AreOtherValues (point l.term (first_sampled n s)) (point m.term (first_sampled n s))
LinesContrast n s l m (Member i a t first) =
    (l.name ≡ a) × (m.name ≡ a) × Fits (length s) (tree t) × IsInOneAlone first (point (tree t) (sampled s)) (point l.term (first_sampled n s)) (point m.term (first_sampled n s))

-- so do the two lines at i
abbrev pub LinesContrastAt : ℕ → List ℕ → List LineD → List LineD → ℕ → Detail → Type 0
LinesContrastAt n s ls ms i d = (l m : LineD) × IsLine ls i l × IsLine ms i m × LinesContrast n s l m d

abbrev pub IsDetail : ℕ → List ℕ → List LineD → List LineD → Detail → Type 0
IsDetail n s ls ms (Count k j) = (k ≡ length ls) × (j ≡ length ms) × (k ≡ j → ⊥)
IsDetail n s ls ms (Names i a b) = LinesContrastAt n s ls ms i (Names i a b)
IsDetail n s ls ms (Values i a) = LinesContrastAt n s ls ms i (Values i a)
IsDetail n s ls ms (Member i a t first) = LinesContrastAt n s ls ms i (Member i a t first)

-- two cases that hold at the choice of the sample's first numbers, one for each parameter, and how their lines differ there
pub record IsContrast (r q : Results) (d : Contrast) : Type 0 where
  pub first : CaseD
  pub second : CaseD
  pub first_case : IsCase r.cases d.first first
  pub second_case : IsCase q.cases d.second second
  pub count : length r.parameters ≤ length d.sample
  pub first_holds : HoldsAt (first_sampled (length r.parameters) d.sample) first
  pub second_holds : HoldsAt (first_sampled (length r.parameters) d.sample) second
  pub detail : IsDetail (length r.parameters) d.sample first.lines second.lines d.detail

-- the member's guards have no `<=`
abbrev pub DetailIsStrict : Detail → Type 0
DetailIsStrict (Count k j) = Unit {0}
DetailIsStrict (Names i a b) = Unit {0}
DetailIsStrict (Values i a) = Unit {0}
DetailIsStrict (Member i a t first) = IsStrictTerm (tree t)

abbrev pub ContrastIsStrict : Contrast → Type 0
ContrastIsStrict d = DetailIsStrict d.detail
