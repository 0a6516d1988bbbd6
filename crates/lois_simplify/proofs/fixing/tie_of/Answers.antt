use Rattle.std.proofs.Common.{◌≡◌, ◌⊎◌, List, rules}
use Rattle.std.specs.Bool.{IsTrue}
use Rattle.lois_base.specs.Atom.{Atom, equal}
use Rattle.lois_base.specs.Truth.{atom_at, lit_holds}
use Rattle.lois_base.specs.declared.guards.Op.TheVariants.{Eq}
use Rattle.lois_deciders.proofs.Oracle.{some_weaker}
use Rattle.lois_simplify.proofs.Tied.{tied_atoms}
use Rattle.lois_simplify.proofs.fixing.tie_of.Goals as goal

pub returns-clause-tied : goal.returns-clause-tied
returns-clause-tied c =
    let l = c.args.lit in
    let equated : l.op ≡ Eq = search rules in
    some_weaker (λ f. ((f.binder ≡ l.left) × (f.level ≡ l.right)) ⊎ ((f.binder ≡ l.right) × (f.level ≡ l.left))) _ c.higher_of.result
    (λ f levels a t. tied_atoms a l f.binder f.level equated levels t) c.higher_of.ensures.levels
