use Rattle.std.proofs.Common.{List, sym, subst}
use Rattle.lois_base.specs.declared.guards.Lit.{Lit}
use Rattle.lois_constraint.specs.Entailment.{Entails}
use Rattle.lois_constraint.proofs.SignatureBits.{meets_within}
use Rattle.lois_constraint.proofs.signature.IndexedCube.entails_cube.Goals as goal

pub returns-else-are_met : goal.returns-else-are_met
returns-else-are_met c =
    let k : List Lit = c.self.inside.closed.value in
    let j : List Lit = c.other.inside.closed.value in (
      λ yes. absurd (let no = c.if-are_met.false in cc),
      λ within. c.are_met.ensures (meets_within k j c.self.inside.order c.other.inside.demands.needed c.other.inside.demands.refused c.self.invariant.1 c.other.invariant.2 (subst (Entails k) (sym c.other.view_is) (subst (λ z. Entails z c.args.other.now) (sym c.self.view_is) within))),
    )
