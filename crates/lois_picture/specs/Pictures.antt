-- The picture of a name's line in results, and why there is none.
use Rattle.std.specs.Prelude.{◌≡◌, ℕ, ◌<◌, Bool, List, [], length, ◌⊎◌, Some, None}
use Rattle.lois_base.specs.Values.{point}
use Rattle.lois_answers.specs.LastNamed.{last_named}
use Rattle.lois_answers.specs.ResultsData.{LineD, CaseD}
use Rattle.lois_answers.specs.declared.results.Results.{Results}
use Rattle.lois_automata.specs.Machines.{IsAutomatonAt}
use Rattle.lois_cases.specs.Cases.{NoneHoldsAt, IsTheCaseAt, BothHoldAt}
use Rattle.lois_picture.specs.Graphs.{IsRelation, IsAutomatonGraph, IsRelationGraph, HasGraphText}
use Rattle.lois_picture.specs.declared.pictures.Picture.{Picture}
use Rattle.lois_picture.specs.declared.pictures.Picture.TheVariants.{Drawn, Refused}
use Rattle.lois_picture.specs.declared.pictures.PictureFault.{PictureFault}
use Rattle.lois_picture.specs.declared.pictures.PictureFault.TheVariants.{HasParameters, NoCase, TwoCases, NoLine, NotGraph}

-- Without parameters there is one choice. There the case at i alone holds, and the last of its lines of that name is l.
pub record IsTheLine (name : List ℕ) (cases : List CaseD) (i : ℕ) (l : LineD) : Type 0 where
  pub case : CaseD
  pub holding : IsTheCaseAt [] cases i case
  pub line : last_named name case.lines ≡ Some l

-- The causes exclude each other.
abbrev pub IsPictureRefusal : Results → List ℕ → PictureFault → Type 0
IsPictureRefusal r name HasParameters = 0 < length r.parameters
IsPictureRefusal r name NoCase = (r.parameters ≡ []) × NoneHoldsAt [] r.cases
IsPictureRefusal r name (TwoCases i j) = (r.parameters ≡ []) × BothHoldAt [] r.cases i j
IsPictureRefusal r name (NoLine n i) =
    (r.parameters ≡ []) × (n ≡ name) × ((k : CaseD) × IsTheCaseAt [] r.cases i k × (last_named name k.lines ≡ None))
IsPictureRefusal r name (NotGraph n i) =
    (r.parameters ≡ []) × (n ≡ name) × ((l : LineD) × IsTheLine name r.cases i l × (IsAutomatonAt l.term [] → ⊥) × (IsRelation (point l.term []) → ⊥))

-- the graph of an automaton or of a set of pairs, which the line of the name holds in the one case that holds
abbrev pub IsPicture : Bool → Results → List ℕ → Picture → Type 0
IsPicture ordered r name (Drawn g) =
    (r.parameters ≡ []) × ((i : ℕ) × (l : LineD) × IsTheLine name r.cases i l × (IsAutomatonGraph ordered l.term g ⊎ IsRelationGraph ordered l.term g))
IsPicture ordered r name (Refused cause) = IsPictureRefusal r name cause

abbrev pub HasPictureText : Picture → Type 0
HasPictureText (Drawn g) = HasGraphText g
HasPictureText (Refused cause) = Unit {0}
