-- Laws of two results.
use Rattle.lois_answers.specs.declared.results.Results.{Results}
use Rattle.lois_same.specs.Contrasts.{IsContrast}
use Rattle.lois_same.specs.Likenesses.{ArePartitions}
use Rattle.lois_same.specs.Same.{AreSameResults}
use Rattle.lois_same.specs.declared.contrasts.Contrast.{Contrast}

-- results that differ aren't the same
abbrev pub ContrastsAreDifferences : Type 0
ContrastsAreDifferences = (r q : Results) (d : Contrast) → ArePartitions r q → IsContrast r q d → AreSameResults r q → ⊥
