use Rattle.std.proofs.Common.{◌≡◌, sym, subst, ◌∙◌}
use Rattle.std.specs.Prelude.{Some}
use Rattle.std.proofs.lemmas.Bool.{false≢true}
use Rattle.std.proofs.lemmas.Result.{IfOk-weaker}
use Rattle.std.proofs.lemmas.Slice.Eq.{bytes_eq-Decides}
use Rattle.lois_answers.specs.LineView.{line_of}
use Rattle.lois_same.specs.Members.{IsValueContrastOrNone}
use Rattle.lois_same.specs.Rows.{line_contrast, names_contrast}
use Rattle.lois_same.proofs.SameLines.{contrast_of_names, contrast_of_values}
use Rattle.lois_same.proofs.lines.compare_line.Goals as goal

pub returns-in-Some-clause-contrast : goal.returns-in-Some-clause-contrast
returns-in-Some-clause-contrast g c =
    let n = c.args.size in
    let u = c.args.under.now.constraint in
    let l = line_of c.args.line.now in
    let m = line_of c.args.other.now in
    let same : l.name ≡ m.name = (bytes_eq-Decides l.name m.name).0 (sym c.eq.ensures ∙ c.if-eq.true) in
    let is = subst (IsValueContrastOrNone n u l.term m.term) c.in-Some.is c.in_ok-found.ensures.contrast in
    IfOk-weaker c.contrast_values.result (λ o. o ≡ Some (line_contrast c.args.number l.name c.in-Some.contrast)) _ (λ o e. contrast_of_values n u c.args.number l m c.in-Some.contrast o same is e) c.contrast_values.ensures

pub returns-in-None-clause-contrast : goal.returns-in-None-clause-contrast
returns-in-None-clause-contrast g c =
    let l = line_of c.args.line.now in
    let m = line_of c.args.other.now in
    let same : l.name ≡ m.name = (bytes_eq-Decides l.name m.name).0 (sym c.eq.ensures ∙ c.if-eq.true) in
    (same, subst (IsValueContrastOrNone c.args.size c.args.under.now.constraint l.term m.term) c.in-None.is c.in_ok-found.ensures.contrast)

pub returns-clause-contrast : goal.returns-clause-contrast
returns-clause-contrast g c =
    let n = c.args.size in
    let l = line_of c.args.line.now in
    let m = line_of c.args.other.now in
    let apart : l.name ≡ m.name → ⊥ = λ e. false≢true (sym c.if-eq.false ∙ (c.eq.ensures ∙ (bytes_eq-Decides l.name m.name).1 e)) in
    IfOk-weaker c.contrast_names.result (λ o. o ≡ Some (names_contrast c.args.number l.name m.name c.args.under.now.sample)) _ (λ o e. contrast_of_names n c.args.under.now.constraint c.args.number l m c.args.under.now.sample o c.requires.sample apart e) c.contrast_names.ensures
