use Rattle.std.proofs.Common.{sym, ◌∙◌, arith}
use Rattle.std.specs.Prelude.{codes}
use Rattle.lois_base.specs.Tree.{tree, comp_of}
use Rattle.lois_reader.specs.Reading.{begins}
use Rattle.lois_reader.specs.Ends.{term_end}
use Rattle.lois_reader.specs.TermValues.{parts_at, comps_at, comp_at, term_at}
use Rattle.lois_reader.proofs.Lists.{list_next, list_last}
use Rattle.lois_reader.proofs.terms.+terms.Goals as goal

pub parts_at-returns-then-not-begins-clause-parts : goal.parts_at-returns-then-not-begins-clause-parts
parts_at-returns-then-not-begins-clause-parts t c = rw c.in_ok-push.ensures.ok (list_last (begins 44) (codes ", ") (term_at c.args.brackets c.args.scope.now c.args.levels) c.loop-parts.parts c.loop-parts.rest.now (tree c.in_ok-part.part) c.in_ok-part.after.now (parts_at (term_at c.args.brackets c.args.scope.now c.args.levels) c.args.bytes.now) c.in_ok-part.ensures.term (sym c.begins.ensures ∙ c.if-not-begins.true) c.loop-parts.invariant.parts)

pub parts_at-loop-parts-preserved : goal.parts_at-loop-parts-preserved
parts_at-loop-parts-preserved t c = record {
  parts = rw c.in_ok-push.ensures.ok (list_next (begins 44) (codes ", ") (term_at c.args.brackets c.args.scope.now c.args.levels) c.loop-parts.parts c.loop-parts.rest.now (tree c.in_ok-part.part) c.in_ok-part.after.now c.in_ok-rest.rest.now (parts_at (term_at c.args.brackets c.args.scope.now c.args.levels) c.args.bytes.now) c.in_ok-part.ensures.term (sym c.begins.ensures ∙ c.if-not-begins.false) c.in_ok-rest.ensures.end (omega (arith, c.in_ok-part.ensures.shorter, c.in_ok-rest.ensures.shorter)) c.loop-parts.invariant.parts);
  shorter = omega (arith, c.in_ok-part.ensures.shorter, c.in_ok-rest.ensures.shorter);
}

pub comps_at-returns-then-not-begins-clause-comps : goal.comps_at-returns-then-not-begins-clause-comps
comps_at-returns-then-not-begins-clause-comps t c = rw c.in_ok-push.ensures.ok (list_last (begins 44) (codes ", ") (comp_at (term_end c.args.brackets) (term_at c.args.brackets c.args.scope.now) c.args.scope.now c.args.levels) c.loop-comps.comps c.loop-comps.rest.now (comp_of c.in_ok-comp.comp) c.in_ok-comp.after.now (comps_at (comp_at (term_end c.args.brackets) (term_at c.args.brackets c.args.scope.now) c.args.scope.now c.args.levels) c.args.bytes.now) c.in_ok-comp.ensures.comp (sym c.begins.ensures ∙ c.if-not-begins.true) c.loop-comps.invariant.comps)

pub comps_at-loop-comps-preserved : goal.comps_at-loop-comps-preserved
comps_at-loop-comps-preserved t c = record {
  comps = rw c.in_ok-push.ensures.ok (list_next (begins 44) (codes ", ") (comp_at (term_end c.args.brackets) (term_at c.args.brackets c.args.scope.now) c.args.scope.now c.args.levels) c.loop-comps.comps c.loop-comps.rest.now (comp_of c.in_ok-comp.comp) c.in_ok-comp.after.now c.in_ok-rest.rest.now (comps_at (comp_at (term_end c.args.brackets) (term_at c.args.brackets c.args.scope.now) c.args.scope.now c.args.levels) c.args.bytes.now) c.in_ok-comp.ensures.comp (sym c.begins.ensures ∙ c.if-not-begins.false) c.in_ok-rest.ensures.end (omega (arith, c.in_ok-comp.ensures.shorter, c.in_ok-rest.ensures.shorter)) c.loop-comps.invariant.comps);
  shorter = omega (arith, c.in_ok-comp.ensures.shorter, c.in_ok-rest.ensures.shorter);
}
