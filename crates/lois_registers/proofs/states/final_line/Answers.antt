use Rattle.std.proofs.Common.{◌≡◌, true, refl, sym, subst, ◌∙◌}
use Rattle.std.specs.List.{All, Contains}
use Rattle.std.proofs.lemmas.List.Elements.{All-weaker, All-contains}
use Rattle.lois_answers.specs.Sound.{AreDistinct}
use Rattle.lois_base.specs.Names.{IsName}
use Rattle.lois_registers.proofs.Cuts.{left_weaker, err_left}
use Rattle.lois_registers.proofs.states.final_line.Goals as goal
use Rattle.lois_registers.proofs.states.final_line.Goals.{then-not-are_among-via-then-not-are_among, then-not-are_among-via-else-not-are_among+then-not-are_distinct}

pub returns-in_err-names-clause-left : goal.returns-in_err-names-clause-left
returns-in_err-names-clause-left c =
    err_left c.from_residual.result c.in_err-names.field-0.0 _ c.from_residual.ensures.1
    (left_weaker c.args.text.now _ _ c.in_err-names.field-0.0 (λ none v more p e. none v (All-weaker (Contains c.args.states.now) IsName (λ n i. All-contains IsName c.args.states.now n c.requires.form i) v p.listed, (more, e))) c.in_err-names.ensures.left)

pub returns-then-not-are_among-clause-left : goal.returns-then-not-are_among-clause-left
returns-then-not-are_among-clause-left c = (
  refl,
  λ v more p e.
      let same : v ≡ c.in_ok-names.names = c.in_ok-names.ensures.only v (All-weaker (Contains c.args.states.now) IsName (λ n i. All-contains IsName c.args.states.now n c.requires.form i) v p.listed, (more, e)) in
      elim c.then-not-are_among.branch [
        | then-not-are_among-via-then-not-are_among w ↦
            let yes : c.are_among.result ≡ true = c.are_among.ensures.1 (subst (All (Contains c.args.states.now)) (same ∙ sym c.as_slice.ensures) p.listed) in
            let no = w.if-not-are_among.true in absurd (cc)
        | then-not-are_among-via-else-not-are_among+then-not-are_distinct w ↦
            let yes : w.are_distinct.result ≡ true = w.are_distinct.ensures.1 (subst AreDistinct (same ∙ sym w.as_slice-else-not-are_among.ensures) p.distinct) in
            let no = w.if-not-are_distinct.true in absurd (cc)
      ],
)

pub returns-clause-read : goal.returns-clause-read
returns-clause-read c = (
  record {
    listed = subst (All (Contains c.args.states.now)) c.as_slice.ensures (c.are_among.ensures.0 c.if-not-are_among.false);
    distinct = subst AreDistinct c.as_slice-else-not-are_among.ensures (c.are_distinct.ensures.0 c.if-not-are_distinct.false);
  },
  c.in_ok-names.ensures.read.1,
)
