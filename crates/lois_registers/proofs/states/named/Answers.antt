use Rattle.std.proofs.Common.{◌≡◌, ◌∷◌, ◌++◌, true, map, refl, sym, subst, ap, ◌∙◌}
use Rattle.std.specs.List.{All}
use Rattle.std.proofs.lemmas.List.Elements.{All-map}
use Rattle.lois_base.specs.Names.{IsName}
use Rattle.lois_registers.specs.Texts.{text_of_words}
use Rattle.lois_registers.proofs.Cuts.{named_only, left_weaker, err_left, behind_first, all_behind, with_first}
use Rattle.lois_registers.proofs.states.named.Goals as goal
use Rattle.lois_registers.proofs.states.named.Goals.{then-not-begins-via-then-not-begins, then-not-begins-via-else-not-begins+then-not-are_names}

pub returns-in_err-words-clause-left : goal.returns-in_err-words-clause-left
returns-in_err-words-clause-left c =
    err_left c.from_residual.result c.in_err-words.field-0.0 _ c.from_residual.ensures.1
    (left_weaker c.args.text.now _ _ c.in_err-words.field-0.0 (λ none names h. none (c.args.first.now ∷ names) h.1.0 h.1.1) c.in_err-words.ensures.left)

pub returns-then-not-begins-clause-left : goal.returns-then-not-begins-clause-left
returns-then-not-begins-clause-left c = (
  refl,
  λ names h.
      let same : map (λ w. w.now) c.as_slice-words.result.now ≡ map (λ w. w.now) c.in_ok-words.words.items = ap (map (λ w. w.now)) c.as_slice-words.ensures.value in
      let e : map (λ w. w.now) c.in_ok-words.words.items ≡ c.args.first.now ∷ names = named_only c.args.first.now c.args.text.now c.in_ok-words.rest.now (map (λ w. w.now) c.in_ok-words.words.items) c.requires.clean c.in_ok-words.ensures.read.0 c.in_ok-words.ensures.read.1 names h in
      elim c.then-not-begins.branch [
        | then-not-begins-via-then-not-begins w ↦ c.begins.ensures.none w.if-not-begins.true names (same ∙ e)
        | then-not-begins-via-else-not-begins+then-not-are_names w ↦
            let m = (c.begins.ensures.some w.if-not-begins.false).1 in
            let yes : w.are_names.result ≡ true = w.are_names.ensures.1 (all_behind (λ w. w.now) c.as_slice-words.result.now c.args.first.now m names (same ∙ e) h.0) in
            let no = w.if-not-are_names.true in absurd (cc)
      ],
)

pub returns-clause-read : goal.returns-clause-read
returns-clause-read c =
    let same : map (λ w. w.now) c.as_slice-words.result.now ≡ map (λ w. w.now) c.in_ok-words.words.items = ap (map (λ w. w.now)) c.as_slice-words.ensures.value in
    let m = (c.begins.ensures.some c.if-not-begins.false).1 in
    let whole = sym same ∙ with_first (λ w. w.now) c.as_slice-words.result.now c.args.first.now m c.in_ok-names_of.field-0 c.in_ok-names_of.ensures in (
      subst (All IsName) (sym c.in_ok-names_of.ensures) (All-map IsName (λ w. w.now) _ (c.are_names.ensures.0 c.if-not-are_names.false)),
      subst (λ z. c.args.text.now ≡ text_of_words z ++ c.in_ok-words.rest.now) whole c.in_ok-words.ensures.read.1,
    )

pub returns-clause-only : goal.returns-clause-only
returns-clause-only c = λ names h.
    let same : map (λ w. w.now) c.as_slice-words.result.now ≡ map (λ w. w.now) c.in_ok-words.words.items = ap (map (λ w. w.now)) c.as_slice-words.ensures.value in
    let m = (c.begins.ensures.some c.if-not-begins.false).1 in
    let e : map (λ w. w.now) c.in_ok-words.words.items ≡ c.args.first.now ∷ names = named_only c.args.first.now c.args.text.now c.in_ok-words.rest.now (map (λ w. w.now) c.in_ok-words.words.items) c.requires.clean c.in_ok-words.ensures.read.0 c.in_ok-words.ensures.read.1 names h in
    behind_first (λ w. w.now) c.as_slice-words.result.now c.args.first.now m names (same ∙ e) ∙ sym c.in_ok-names_of.ensures
