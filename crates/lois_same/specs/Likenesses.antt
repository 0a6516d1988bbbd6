-- What is found where two results are compared.
use Rattle.std.specs.Prelude.{◌≡◌, length}
use Rattle.lois_answers.specs.declared.results.Results.{Results}
use Rattle.lois_cases.specs.Partitions.{ArePartition, IsPartitioned}
use Rattle.lois_cases.specs.declared.partitions.Partition.{Partition}
use Rattle.lois_cases.specs.declared.partitions.Partition.TheVariants.{Whole, Overlap, Gap}
use Rattle.lois_same.specs.Contrasts.{IsContrast}
use Rattle.lois_same.specs.Same.{AreSameResults}
use Rattle.lois_same.specs.declared.comparing.Likeness.{Likeness}
use Rattle.lois_same.specs.declared.comparing.Likeness.TheVariants.{Same, Structure, Parameters, Differ, First, Second}
use Rattle.lois_same.specs.declared.contrasts.Contrast.{Contrast}

-- exactly one case holds at each choice of the parameters
abbrev pub IsPartition : Results → Type 0
IsPartition r = ArePartition (length r.parameters) r.cases

-- two cases that overlap, or a gap between them
abbrev pub IsFlaw : Results → Partition → Type 0
IsFlaw r Whole = ⊥
IsFlaw r (Overlap i j s) = IsPartitioned (length r.parameters) r.cases (Overlap i j s)
IsFlaw r (Gap s) = IsPartitioned (length r.parameters) r.cases (Gap s)

abbrev pub ArePartitions : Results → Results → Type 0
ArePartitions r q = IsPartition r × IsPartition q

-- a flaw of the first is told first, then one of the second; only then are structures looked at, then parameters, then lines
abbrev pub IsLikeness : Results → Results → Likeness → Type 0
IsLikeness r q (First p) = IsFlaw r p
IsLikeness r q (Second p) = IsPartition r × IsFlaw q p
IsLikeness r q Structure = ArePartitions r q × (r.order ≡ q.order → ⊥)
IsLikeness r q Parameters = ArePartitions r q × (r.order ≡ q.order) × (r.parameters ≡ q.parameters → ⊥)
IsLikeness r q (Differ d) = ArePartitions r q × (r.order ≡ q.order) × (r.parameters ≡ q.parameters) × IsContrast r q d
IsLikeness r q Same = ArePartitions r q × AreSameResults r q

abbrev pub IfDiffer : (Contrast → Type 0) → Likeness → Type 0
IfDiffer P Same = Unit {0}
IfDiffer P Structure = Unit {0}
IfDiffer P Parameters = Unit {0}
IfDiffer P (Differ d) = P d
IfDiffer P (First p) = Unit {0}
IfDiffer P (Second p) = Unit {0}
