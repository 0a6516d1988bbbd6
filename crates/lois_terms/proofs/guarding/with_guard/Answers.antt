use Rattle.std.proofs.Common.{◌≡◌, sym, subst}
use Rattle.std.proofs.lemmas.Result.{IfOk-weaker}
use Rattle.lois_base.specs.Data.{depth}
use Rattle.lois_base.specs.Fits.{Fits}
use Rattle.lois_base.specs.Tree.{tree}
use Rattle.lois_base.specs.Validity.{AdmitsTerm, HasBoundedWidths}
use Rattle.lois_terms.specs.Guarded.{KeepsWhere, IsEmptyElsewhere}
use Rattle.lois_terms.specs.Collections.{IsColl}
use Rattle.lois_terms.proofs.UnderGuard.{keeps_where, is_empty_elsewhere, is_set_guarded, fits_guarded, admits_guarded, widths_guarded, depth_guarded}
use Rattle.lois_terms.proofs.guarding.with_guard.Goals as goal

pub returns-clause-kept : goal.returns-clause-kept
returns-clause-kept c =
    IfOk-weaker c.guarded_set.result _ _ (λ r e. subst (KeepsWhere c.args.c.now (tree c.args.t.now)) (sym e) (keeps_where c.args.c.now (tree c.args.t.now))) c.guarded_set.ensures

pub returns-clause-empty : goal.returns-clause-empty
returns-clause-empty c =
    IfOk-weaker c.guarded_set.result _ _ (λ r e. subst (IsEmptyElsewhere c.args.c.now) (sym e) (is_empty_elsewhere c.args.c.now (tree c.args.t.now) c.requires)) c.guarded_set.ensures

pub returns-clause-set : goal.returns-clause-set
returns-clause-set c =
    IfOk-weaker c.guarded_set.result _ _ (λ r e. subst IsColl (sym e) (is_set_guarded c.args.c.now (tree c.args.t.now) c.requires)) c.guarded_set.ensures

pub returns-clause-levels : goal.returns-clause-levels
returns-clause-levels c =
    IfOk-weaker c.guarded_set.result _ _ (λ r e n f h. subst (Fits n) (sym e) (fits_guarded c.args.c.now (tree c.args.t.now) n f h)) c.guarded_set.ensures

pub returns-clause-operators : goal.returns-clause-operators
returns-clause-operators c =
    IfOk-weaker c.guarded_set.result _ _ (λ r e o f h. subst (AdmitsTerm o) (sym e) (admits_guarded c.args.c.now (tree c.args.t.now) o f h)) c.guarded_set.ensures

pub returns-clause-widths : goal.returns-clause-widths
returns-clause-widths c =
    IfOk-weaker c.guarded_set.result _ _ (λ r e f. subst HasBoundedWidths (sym e) (widths_guarded c.args.c.now (tree c.args.t.now) f)) c.guarded_set.ensures

pub returns-clause-height : goal.returns-clause-height
returns-clause-height c =
    IfOk-weaker c.guarded_set.result _ _ (λ r e. subst (λ t. depth t ≡ depth (tree c.args.t.now)) (sym e) (depth_guarded c.args.c.now (tree c.args.t.now))) c.guarded_set.ensures
