use Rattle.std.proofs.Common.{◌≡◌, IsTrue, not, sym, ap, ◌∙◌}
use Rattle.lois_base.specs.Tree.{tree}
use Rattle.lois_interp.proofs.Retold.{line_as_it_is, named_alike}
use Rattle.lois_interp.proofs.retelling.tells_line.Goals as goal

pub returns-then-is_equal-clause-same : goal.returns-then-is_equal-clause-same
returns-then-is_equal-clause-same g c = λ _.
    let l = c.args.line.now in
    let r = c.args.other.now in
    let name : r.name ≡ l.name = named_alike r.name l.name (sym c.ne.ensures ∙ c.if-ne.false) in
    let term : tree l.term ≡ tree r.term = sym (c.is_equal.ensures.0 c.if-is_equal.true) in
    line_as_it_is _ _ _ _ name (sym term)

-- no counterexample: wherever the context holds the formula does, and there the values are the same
pub returns-clause-same : goal.returns-clause-same
returns-clause-same g c = λ (none : IsTrue c.is_none.result).
    let l = c.args.line.now in
    let r = c.args.other.now in
    let name : r.name ≡ l.name = named_alike r.name l.name (sym c.ne.ensures ∙ c.if-ne.false) in
    record {
      name = name;
      value = λ a count met.
          let holding = c.in_ok-counter.ensures.none.0 (c.is_none.ensures ∙ ap not none) a count met in
          (c.in_ok-formula.ensures.truth a count).0 ((c.in_ok-same.ensures.truth a count).0 holding);
    }
