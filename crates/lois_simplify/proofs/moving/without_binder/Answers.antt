use Rattle.std.proofs.Common.{◌≡◌, ◌+◌, ◌-◌, suc, sym, subst, arith}
use Rattle.lois_base.specs.Fits.{ConstraintFits}
use Rattle.lois_base.specs.Validity.{AdmitsConstraint}
use Rattle.lois_base.proofs.RenamedForm.{constraint_admits_renamed}
use Rattle.lois_simplify.specs.Moved.{moved}
use Rattle.lois_simplify.proofs.Inserted.{constraint_moved_fits}
use Rattle.lois_simplify.proofs.moving.without_binder.Goals as goal

pub for_some-requires : goal.for_some-requires
for_some-requires g c =
    let top = c.args.size + (c.args.comp.now.binders - 1) in
    let more : c.args.size + c.args.comp.now.binders ≡ suc top = omega arith in
    let same : suc top ≡ top + 1 = omega arith in
    record {
      over = record {
        levels =
            subst (λ n. ConstraintFits n c.in_ok-turned.turned) same
            (subst (ConstraintFits (suc top)) (sym c.in_ok-turned.ensures)
            (constraint_moved_fits c.args.binder top c.args.comp.now.guard (omega arith) (subst (λ n. ConstraintFits n c.args.comp.now.guard) more c.requires.levels.1)));
        operators =
            subst (AdmitsConstraint g.T.Structure.ordered) (sym c.in_ok-turned.ensures)
            (constraint_admits_renamed (moved c.args.binder (c.args.size + (c.args.comp.now.binders - 1))) g.T.Structure.ordered c.args.comp.now.guard c.requires.operators);
      };
    }

pub returns-clause-guard_operators : goal.returns-clause-guard_operators
returns-clause-guard_operators g c =
    λ o h. c.in_ok-for_some.ensures.operators o
    (subst (AdmitsConstraint o) (sym c.in_ok-turned.ensures) (constraint_admits_renamed (moved c.args.binder (c.args.size + (c.args.comp.now.binders - 1))) o c.args.comp.now.guard h))
