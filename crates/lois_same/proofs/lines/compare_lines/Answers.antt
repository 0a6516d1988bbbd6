use Rattle.std.proofs.Common.{◌≡◌, ◌+◌, ◌≤◌, length, sym, ap, subst, ◌∙◌, arith}
use Rattle.std.proofs.lemmas.List.{length-map}
use Rattle.std.proofs.lemmas.List.Elements.{All-get_or}
use Rattle.lois_answers.specs.LineView.{line_of}
use Rattle.lois_answers.specs.Sound.{IsSoundLine}
use Rattle.lois_deciders.proofs.OnlyAsked.{only_asked_then}
use Rattle.lois_printer.proofs.Fitting.{holds_of_each}
use Rattle.lois_same.specs.Rows.{IsLineContrastOrNone}
use Rattle.lois_same.proofs.SameLines.{lines_at, contrast_of_counts, image_at, got_at, none_at, same_further, all_same}
use Rattle.lois_same.proofs.lines.compare_lines.Goals as goal

pub returns-in_default-clause-contrast : goal.returns-in_default-clause-contrast
returns-in_default-clause-contrast g c =
    let ls = c.args.lines.now in
    let ms = c.args.others.now in
    let xs = c.as_slice-line-items.result.now in
    let as_many : length xs ≡ length ls = sym (length-map xs line_of) ∙ ap length c.as_slice-line-items.ensures.items in
    let ends : length ms ≤ c.loop-index.index = none_at ms c.loop-index.index c.in_default.ensures.item in
    contrast_of_counts c.args.size c.args.under.now.constraint ls ms c.args.under.now.sample c.contrast_counts.result c.requires.sample (λ e. absurd (omega (arith, e, as_many, ends, c.loop-index-test.true))) c.contrast_counts.ensures.sample c.contrast_counts.ensures.detail c.contrast_counts.ensures.some

pub compare_line-requires-clause-first : goal.compare_line-requires-clause-first
compare_line-requires-clause-first g c =
    holds_of_each (IsSoundLine g.T.Structure.ordered c.args.size) line_of c.args.lines.now c.as_slice-line-items.result.now c.loop-index.index c.line-item.result c.as_slice-line-items.ensures.items c.loop-index-test.true c.line-item.is c.requires.first

pub compare_line-requires-clause-second : goal.compare_line-requires-clause-second
compare_line-requires-clause-second g c =
    let P = IsSoundLine g.T.Structure.ordered c.args.size in
    let ms = c.args.others.now in
    let m = line_of c.in-Some.other.now in
    let got = got_at ms c.loop-index.index m c.in-Some.ensures.item in
    subst P (sym got.1) (All-get_or P ms c.loop-index.index m got.0 c.requires.second)

pub returns-in-Some-found-clause-contrast : goal.returns-in-Some-found-clause-contrast
returns-in-Some-found-clause-contrast g c =
    let n = c.args.size in
    let u = c.args.under.now.constraint in
    let ls = c.args.lines.now in
    let ms = c.args.others.now in
    let xs = c.as_slice-line-items.result.now in
    let i = c.loop-index.index in
    let x = c.line-item.result in
    let l = line_of x in
    let m = line_of c.in-Some.other.now in
    let as_many : length xs ≡ length ls = sym (length-map xs line_of) ∙ ap length c.as_slice-line-items.ensures.items in
    let got = got_at ms i m c.in-Some.ensures.item in
    lines_at n u ls ms i l m c.in-Some-found.contrast (omega (arith, as_many, c.loop-index-test.true)) got.0 (sym (image_at line_of ls xs i x c.as_slice-line-items.ensures.items c.loop-index-test.true c.line-item.is l)) got.1
    (subst (IsLineContrastOrNone n u (i + 1) l m) c.in-Some-found.is c.in_ok-found.ensures.contrast)

pub loop-index-preserved : goal.loop-index-preserved
loop-index-preserved g c =
    let n = c.args.size in
    let u = c.args.under.now.constraint in
    let ls = c.args.lines.now in
    let ms = c.args.others.now in
    let xs = c.as_slice-line-items.result.now in
    let i = c.loop-index.index in
    let x = c.line-item.result in
    let l = line_of x in
    let m = line_of c.in-Some.other.now in
    let as_many : length xs ≡ length ls = sym (length-map xs line_of) ∙ ap length c.as_slice-line-items.ensures.items in
    let got = got_at ms i m c.in-Some.ensures.item in
    record {
      sofar =
          same_further n u ls ms i l m (omega (arith, as_many, c.loop-index-test.true)) got.0 (sym (image_at line_of ls xs i x c.as_slice-line-items.ensures.items c.loop-index-test.true c.line-item.is l)) got.1 c.loop-index.invariant.sofar
          (subst (IsLineContrastOrNone n u (i + 1) l m) c.in_default-found.is c.in_ok-found.ensures.contrast);
      within = omega (arith, got.0);
      only_asked = only_asked_then (λ d. (goal.Decider-dyn g (d.vtable, d.value)).kind_of d.value) (λ d. (goal.Decider-dyn g (d.vtable, d.value)).questions d.value) c.args.chosen.now c.loop-index.chosen c.compare_line.new.chosen c.loop-index.invariant.only_asked c.compare_line.ensures.only_asked;
    }

pub returns-then-len-clause-contrast : goal.returns-then-len-clause-contrast
returns-then-len-clause-contrast g c =
    let ls = c.args.lines.now in
    let ms = c.args.others.now in
    contrast_of_counts c.args.size c.args.under.now.constraint ls ms c.args.under.now.sample c.contrast_counts-then-len.result c.requires.sample (λ e. absurd (omega (arith, e, c.if-len.true, c.len.ensures.counted, c.len-2.ensures.counted))) c.contrast_counts-then-len.ensures.sample c.contrast_counts-then-len.ensures.detail c.contrast_counts-then-len.ensures.some

pub returns-clause-contrast : goal.returns-clause-contrast
returns-clause-contrast g c =
    let ls = c.args.lines.now in
    let ms = c.args.others.now in
    let xs = c.as_slice-line-items.result.now in
    let as_many : length xs ≡ length ls = sym (length-map xs line_of) ∙ ap length c.as_slice-line-items.ensures.items in
    let same : length ls ≡ length ms = omega (arith, as_many, c.loop-index-test.false, c.loop-index.invariant.within, c.if-len.false, c.len.ensures.counted, c.len-2.ensures.counted) in
    all_same c.args.size c.args.under.now.constraint ls ms same (λ k l m less. c.loop-index.invariant.sofar k l m (omega (arith, less, as_many, c.loop-index-test.false)))
