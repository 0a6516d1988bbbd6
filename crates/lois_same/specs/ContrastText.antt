-- The text of a contrast.
use Rattle.std.specs.Prelude.{ℕ, Bool, true, false, List, ◌++◌, length, codes}
use Rattle.std.specs.Fmt.{decimal}
use Rattle.lois_base.specs.Fits.{Fits}
use Rattle.lois_base.specs.Tree.{tree}
use Rattle.lois_answers.specs.ResultsText.{lined}
use Rattle.lois_answers.specs.TermText.{term_text}
use Rattle.lois_answers.specs.TraceText.{choice_text}
use Rattle.lois_same.specs.declared.contrasts.Contrast.{Contrast}
use Rattle.lois_same.specs.declared.contrasts.Detail.{Detail}
use Rattle.lois_same.specs.declared.contrasts.Detail.TheVariants.{Count, Names, Values, Member}

-- which of the two results has the member
abbrev pub side_text : Bool → List ℕ
side_text true = lined (codes "of the first")
side_text false = lined (codes "of the second")

-- the number of a line, and its name
abbrev pub place_text : ℕ → List ℕ → List ℕ
place_text i name = codes "line " ++ decimal i ++ codes ": " ++ name

-- a member is inside n levels
abbrev pub detail_text : List (List ℕ) → ℕ → Detail → List ℕ
detail_text parameters n (Count k j) = lined (codes "lines " ++ decimal k ++ codes " and " ++ decimal j)
detail_text parameters n (Names i a b) = lined (place_text i a ++ codes " and " ++ b)
detail_text parameters n (Values i a) = lined (place_text i a)
detail_text parameters n (Member i a t first) = lined (place_text i a) ++ lined (codes "member " ++ term_text parameters n (tree t)) ++ side_text first

-- a member is inside as many levels as the choice has numbers
abbrev pub contrast_text : List (List ℕ) → Contrast → List ℕ
contrast_text parameters d =
    lined (codes "differ in cases " ++ decimal d.first ++ codes " and " ++ decimal d.second) ++ choice_text d.sample
    ++ detail_text parameters (length d.sample) d.detail

-- the member's levels are below n
abbrev pub DetailFits : ℕ → Detail → Type 0
DetailFits n (Count k j) = Unit {0}
DetailFits n (Names i a b) = Unit {0}
DetailFits n (Values i a) = Unit {0}
DetailFits n (Member i a t first) = Fits n (tree t)

abbrev pub ContrastFits : Contrast → Type 0
ContrastFits d = DetailFits (length d.sample) d.detail
