use Rattle.std.proofs.Common.{◌≡◌, [], ◌∷◌, true, get_or, length, refl, sym, subst, ap, ◌∙◌, arith}
use Rattle.std.specs.List.{Contains}
use Rattle.std.proofs.lemmas.List.Elements.{All-cons, All-nil, All-contains}
use Rattle.lois_base.specs.Names.{IsName}
use Rattle.lois_registers.proofs.Cuts.{left_weaker, err_left}
use Rattle.lois_registers.proofs.states.initial_line.Goals as goal
use Rattle.lois_registers.proofs.states.initial_line.Goals.{then-names-ne1-via-then-names-ne1, then-names-ne1-via-else-names-ne1+then-not-is_among}

pub returns-in_err-names-clause-left : goal.returns-in_err-names-clause-left
returns-in_err-names-clause-left c =
    err_left c.from_residual.result c.in_err-names.field-0.0 _ c.from_residual.ensures.1
    (left_weaker c.args.text.now _ _ c.in_err-names.field-0.0 (λ none v more p e. none (v ∷ []) (All-cons IsName v [] (All-contains IsName c.args.states.now v c.requires.form p) (All-nil IsName), (more, e))) c.in_err-names.ensures.left)

pub returns-then-names-ne1-clause-left : goal.returns-then-names-ne1-clause-left
returns-then-names-ne1-clause-left c = (
  refl,
  λ v more p e.
      let one : v ∷ [] ≡ c.in_ok-names.names = c.in_ok-names.ensures.only (v ∷ []) (All-cons IsName v [] (All-contains IsName c.args.states.now v c.requires.form p) (All-nil IsName), (more, e)) in
      let same : v ∷ [] ≡ c.as_slice-names.result.now = one ∙ sym c.as_slice-names.ensures in
      elim c.then-names-ne1.branch [
        | then-names-ne1-via-then-names-ne1 w ↦ absurd (omega (arith, ap length same, w.if-names-ne1.true))
        | then-names-ne1-via-else-names-ne1+then-not-is_among w ↦
            let item : w.index-names-0.result ≡ v = w.index-names-0.is ∙ ap (λ z. get_or z 0 w.index-names-0.result) (sym same) in
            let yes : w.is_among.result ≡ true = w.is_among.ensures.1 (subst (Contains c.args.states.now) (sym (w.bytes.ensures.same ∙ item)) p) in
            let no = w.if-not-is_among.true in absurd (cc)
      ],
)
