use Rattle.std.proofs.Common.{◌≡◌, true, false, sym, ◌∙◌, arith}
use Rattle.lois_base.specs.Atom.{whole}
use Rattle.lois_base.specs.Truth.{atom_at}
use Rattle.lois_base.proofs.Order.{numbers_differ}
use Rattle.lois_ranks.proofs.Alike.{same_numbers}
use Rattle.lois_census.proofs.Standing.{same_stand, apart_stand, below_stand, above_stand, lower_number, higher_number}
use Rattle.lois_census.proofs.alike.related.Goals as goal

pub returns-then-number-other-clause-truth : goal.returns-then-number-other-clause-truth
returns-then-number-other-clause-truth g c = λ u.
    same_stand g.T.Structure.ordered (whole c.args.number) (whole c.args.other) (atom_at u c.args.left) (atom_at u c.args.right) (same_numbers c.args.number c.args.other c.if-number-other.true)

pub returns-then-not-admits-clause-truth : goal.returns-then-not-admits-clause-truth
returns-then-not-admits-clause-truth g c = λ u.
    let none : g.T.Structure.ordered ≡ false = sym c.admits.ensures ∙ c.if-not-admits.true in
    apart_stand g.T.Structure.ordered (whole c.args.number) (whole c.args.other) (atom_at u c.args.left) (atom_at u c.args.right) none (numbers_differ c.args.number c.args.other c.if-number-other.false)

pub returns-then-number-other-2-clause-truth : goal.returns-then-number-other-2-clause-truth
returns-then-number-other-2-clause-truth g c = λ u.
    let some : g.T.Structure.ordered ≡ true = sym c.admits.ensures ∙ c.if-not-admits.false in
    below_stand g.T.Structure.ordered (whole c.args.number) (whole c.args.other) (atom_at u c.args.left) (atom_at u c.args.right) some (lower_number c.args.number c.args.other c.if-number-other-2.true)

pub returns-clause-truth : goal.returns-clause-truth
returns-clause-truth g c = λ u.
    let some : g.T.Structure.ordered ≡ true = sym c.admits.ensures ∙ c.if-not-admits.false in
    above_stand g.T.Structure.ordered (whole c.args.number) (whole c.args.other) (atom_at u c.args.left) (atom_at u c.args.right) some (lower_number c.args.other c.args.number (higher_number c.args.number c.args.other c.if-number-other.false (omega arith)))
