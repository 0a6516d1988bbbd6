use Rattle.std.proofs.Common.{sym, subst}
use Rattle.lois_vectors_rounds.proofs.Worked.{chains_weaken, chains_strengthen}
use Rattle.lois_rounds.specs.Rounds.{OnlyWeakens, OnlyStrengthens}
use Rattle.lois_vectors_rounds.specs.Worked.{Chains}
use Rattle.lois_vectors_rounds.proofs.rounds.settled.Goals as goal

pub grow-requires : goal.grow-requires
grow-requires c = subst (λ b. OnlyWeakens (Chains b)) (sym c.if-grows.true) chains_weaken

pub shrink-requires : goal.shrink-requires
shrink-requires c = subst (λ b. OnlyStrengthens (Chains b)) (sym c.if-grows.false) chains_strengthen
