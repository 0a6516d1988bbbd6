use Rattle.std.proofs.Common.{◌≡◌, ◌+◌, ◌-◌, ◌≤◌, sym, subst, arith}
use Rattle.lois_base.specs.Fits.{ConstraintFits, Fits}
use Rattle.lois_base.specs.Shift.{shift_level}
use Rattle.lois_base.specs.Tree.{tree, comp_of}
use Rattle.lois_base.specs.Validity.{AdmitsConstraint, AdmitsTerm, HasBoundedWidths}
use Rattle.lois_base.proofs.RenamedForm.{constraint_admits_renamed, admits_renamed, widths_renamed}
use Rattle.lois_terms.specs.Shifted.{IsPlacedGuard, IsPlacedItem}
use Rattle.lois_terms.proofs.MoreAtoms.{is_placed_guard, is_placed_item}
use Rattle.lois_terms.proofs.ShiftedFits.{constraint_fits, item_fits}
use Rattle.lois_terms.proofs.Tops.{top_of_comp_raised}
use Rattle.lois_terms.proofs.placing.instantiate.Goals as goal

pub shifted_constraint-requires : goal.shifted_constraint-requires
shifted_constraint-requires c =
    let h = top_of_comp_raised (c.args.at - c.args.size) (comp_of c.args.comp.now) c.args.size c.args.at (omega (arith, c.requires.order)) c.requires.levels c.requires.moved in
    omega (arith, h)

pub shifted_term-requires : goal.shifted_term-requires
shifted_term-requires c =
    let h = top_of_comp_raised (c.args.at - c.args.size) (comp_of c.args.comp.now) c.args.size c.args.at (omega (arith, c.requires.order)) c.requires.levels c.requires.moved in
    omega (arith, h)

pub returns-clause-guard : goal.returns-clause-guard
returns-clause-guard c =
    subst (IsPlacedGuard c.args.size c.args.at c.args.comp.now.guard) (sym c.in_ok-shifted_constraint.ensures) (is_placed_guard c.args.size c.args.at c.args.comp.now.guard)

pub returns-clause-item : goal.returns-clause-item
returns-clause-item c =
    subst (IsPlacedItem c.args.size c.args.at (tree c.args.comp.now.item)) (sym c.in_ok-shifted_term.ensures) (is_placed_item c.args.size c.args.at (tree c.args.comp.now.item))

pub returns-clause-guard_levels : goal.returns-clause-guard_levels
returns-clause-guard_levels c =
    let m = c.args.comp.now.binders in
    let l : c.args.size ≤ c.args.size + m = omega arith in
    let e : (c.args.size + m) + (c.args.at - c.args.size) ≡ c.args.at + m = omega (arith, c.requires.order) in
    subst (ConstraintFits (c.args.at + m)) (sym c.in_ok-shifted_constraint.ensures) (constraint_fits c.args.size (c.args.at - c.args.size) c.args.comp.now.guard (c.args.size + m) (c.args.at + m) l e c.requires.levels.1)

pub returns-clause-item_levels : goal.returns-clause-item_levels
returns-clause-item_levels c =
    let m = c.args.comp.now.binders in
    let l : c.args.size ≤ c.args.size + m = omega arith in
    let e : (c.args.size + m) + (c.args.at - c.args.size) ≡ c.args.at + m = omega (arith, c.requires.order) in
    subst (Fits (c.args.at + m)) (sym c.in_ok-shifted_term.ensures) (item_fits c.args.size (c.args.at - c.args.size) (tree c.args.comp.now.item) (c.args.size + m) (c.args.at + m) l e c.requires.levels.2 c.requires.moved.2)

pub returns-clause-guard_operators : goal.returns-clause-guard_operators
returns-clause-guard_operators c = λ o f.
    subst (AdmitsConstraint o) (sym c.in_ok-shifted_constraint.ensures) (constraint_admits_renamed (shift_level c.args.size (c.args.at - c.args.size)) o c.args.comp.now.guard f)

pub returns-clause-item_operators : goal.returns-clause-item_operators
returns-clause-item_operators c = λ o f.
    subst (AdmitsTerm o) (sym c.in_ok-shifted_term.ensures) (admits_renamed (shift_level c.args.size (c.args.at - c.args.size)) o (tree c.args.comp.now.item) f)

pub returns-clause-widths : goal.returns-clause-widths
returns-clause-widths c = λ f.
    subst HasBoundedWidths (sym c.in_ok-shifted_term.ensures) (widths_renamed (shift_level c.args.size (c.args.at - c.args.size)) (tree c.args.comp.now.item) f)
