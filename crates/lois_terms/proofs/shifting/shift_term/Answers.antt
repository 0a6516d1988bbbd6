use Rattle.std.proofs.Common.{◌+◌, sym, subst}
use Rattle.std.proofs.lemmas.Result.{IfOk-weaker}
use Rattle.lois_base.specs.Fits.{Fits}
use Rattle.lois_base.specs.Shift.{shift_level}
use Rattle.lois_base.specs.Tree.{tree}
use Rattle.lois_base.specs.Validity.{AdmitsTerm, HasBoundedWidths}
use Rattle.lois_base.proofs.RenamedForm.{admits_renamed, widths_renamed}
use Rattle.lois_terms.specs.Shifted.{IsShifted}
use Rattle.lois_terms.proofs.MoreAtoms.{is_raised}
use Rattle.lois_terms.proofs.ShiftedFits.{shifted_fits}
use Rattle.lois_terms.proofs.Tops.{can_shift-top}
use Rattle.lois_terms.proofs.shifting.shift_term.Goals as goal

pub shifted_term-requires : goal.shifted_term-requires
shifted_term-requires c = can_shift-top c.args.from c.args.by (tree c.args.t.now) c.requires

pub returns-clause-value : goal.returns-clause-value
returns-clause-value c =
    IfOk-weaker c.shifted_term.result _ _ (λ r e. subst (IsShifted c.args.from c.args.by (tree c.args.t.now)) (sym e) (is_raised c.args.from c.args.by (tree c.args.t.now))) c.shifted_term.ensures

pub returns-clause-levels : goal.returns-clause-levels
returns-clause-levels c =
    IfOk-weaker c.shifted_term.result _ _ (λ r e n s f h. subst (Fits (n + c.args.by)) (sym e) (shifted_fits c.args.from c.args.by (tree c.args.t.now) n s f h)) c.shifted_term.ensures

pub returns-clause-operators : goal.returns-clause-operators
returns-clause-operators c =
    IfOk-weaker c.shifted_term.result _ _ (λ r e o f. subst (AdmitsTerm o) (sym e) (admits_renamed (shift_level c.args.from c.args.by) o (tree c.args.t.now) f)) c.shifted_term.ensures

pub returns-clause-widths : goal.returns-clause-widths
returns-clause-widths c =
    IfOk-weaker c.shifted_term.result _ _ (λ r e f. subst HasBoundedWidths (sym e) (widths_renamed (shift_level c.args.from c.args.by) (tree c.args.t.now) f)) c.shifted_term.ensures
