use Rattle.std.proofs.Common.{◌≡◌, ◌<◌, ◌^◌, length, map, refl, sym, ap, subst, ◌∙◌}
use Rattle.std.proofs.lemmas.List.Elements.{All-map}
use Rattle.std.specs.List.{All}
use Rattle.lois_base.specs.Fits.{Fits}
use Rattle.lois_base.specs.Patterns.{AreAlike}
use Rattle.lois_base.specs.Truth.{sampled}
use Rattle.lois_script.specs.View.{script_tree}
use Rattle.lois_script.specs.declared.script.Script.{Script}
use Rattle.lois_interp.specs.Interpreted.{parameter_name}
use Rattle.lois_ranks.specs.Ranks.{AreRanks}
use Rattle.lois_shortest_word.specs.Shortened.{IsShortenedWord, IsShortenedEverywhere}
use Rattle.lois_shortest_word.specs.Words.{AreUsedBetween}
use Rattle.lois_shortest_word.specs.declared.words.Word.{Word}
use Rattle.lois_run.proofs.Traced.{traced}
use Rattle.lois_run.proofs.running.trace.Goals as goal

pub drop_unused_numbers-requires-clause-levels : goal.drop_unused_numbers-requires-clause-levels
drop_unused_numbers-requires-clause-levels c =
    let f = c.args.fault in
    subst (λ k. All (Fits (length k)) c.in_ok-terms_of.field-0) (sym c.from_vec.ensures)
    (subst (All (Fits (length f.sample.items))) (sym c.in_ok-terms_of.ensures.terms) (All-map (Fits (length f.sample.items)) (λ l. l.term) f.elements c.requires.fault.levels))

pub returns : goal.returns
returns c =
    let same = c.script-script.ensures.same in
    let count : c.len.result ≡ length (script_tree c.args.script.now).parameters = c.len.ensures.counted ∙ ap (λ (x : Script). length (script_tree x).parameters) same in
    let order = ap (λ (x : Script). (script_tree x).ordered) same in
    let w : Word = record { sample = c.from_vec.result; letters = c.in_ok-terms_of.field-0 } in
    let r = c.in_ok-short.short in
    traced c.args.text.now (script_tree c.args.script.now) c.requires.spelled c.script-script.ensures.scoped c.requires.fits c.args.fault c.requires.fault w r c.from_vec.ensures c.in_ok-terms_of.ensures.terms
    (subst (λ k. IsShortenedWord k w r) count c.in_ok-short.ensures.shortened)
    (subst (λ k. IsShortenedEverywhere k w r) count c.in_ok-short.ensures.everywhere)
    c.in_ok-sample.sample (subst (λ k. AreAlike (script_tree c.args.script.now).ordered (sampled k) (sampled c.in_ok-sample.sample)) c.as_slice.ensures (subst (λ o. AreAlike o (sampled c.as_slice.result.now) (sampled c.in_ok-sample.sample)) order c.in_ok-sample.ensures.alike)) (subst (λ o. AreRanks o c.in_ok-sample.sample) order c.in_ok-sample.ensures.ranked)
    c.in_ok-elements.elements c.in_ok-elements.ensures.names c.in_ok-elements.ensures.terms c.place_at-place.result _ c.place_at-place.ensures
    order
    (c.in_ok-parameter_names.ensures.names ∙ ap (λ (x : Script). map parameter_name (script_tree x).parameters) same)
    refl refl refl refl refl c.element_tags_are_names.ensures (subst (All (λ a. a < 2 ^ 64)) c.as_slice-numbers.ensures c.numbers_are_small.ensures)
    (subst (λ k. AreUsedBetween k (length r.sample) r.letters) count c.in_ok-short.ensures.used)
