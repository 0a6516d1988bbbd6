-- Merged contexts of one size have different contents.
use Rattle.std.proofs.Common.{◌≡◌, ℕ, ◌<◌, List, [], ◌∷◌, length, map, get_or, sym, ap, ◌∙◌, arith}
use Rattle.std.specs.List.{All}
use Rattle.std.proofs.lemmas.List.{get_or-map, length-map}
use Rattle.lois_base.proofs.Validity.{all_that_are}
use Rattle.lois_answers.specs.ResultsData.{LineD}
use Rattle.lois_context.specs.Merged.{contents_of, HaveDistinctContents}
use Rattle.lois_context.specs.Slots.{SlotD}
use Rattle.lois_context.specs.declared.contexts.Context.{Context}
use Rattle.lois_interp.specs.Reached.{RunsAs, held_in, HaveDifferentContents}
use Rattle.lois_interp.specs.Run.{Run}
use Rattle.lois_interp.proofs.Kept.{as_reached}

held_alike : (x y : Context) → x.size ≡ y.size → held_in x ≡ held_in y → contents_of x ≡ contents_of y
held_alike x y size same =
    ap (λ (z : ℕ). (z, x.store, x.lines)) size ∙ (ap (λ (z : List SlotD). (y.size, z, x.lines)) (ap (λ z. z.0) same) ∙ ap (λ (z : List LineD). (y.size, y.store, z)) (ap (λ z. z.1) same))

different_contents : (n : ℕ) (ms : List Context) → All (λ d. d.size ≡ n) ms → HaveDistinctContents ms → HaveDifferentContents ms
different_contents n [] sizes h = λ i j d l m. absurd (omega arith)
different_contents n (q ∷ ms) sizes h = λ i j d l m same.
    let count : length (map held_in (q ∷ ms)) ≡ length (q ∷ ms) = length-map (q ∷ ms) held_in in
    let counted : length (map contents_of (q ∷ ms)) ≡ length (q ∷ ms) = length-map (q ∷ ms) contents_of in
    let in_j : j < length (q ∷ ms) = omega (arith, count, m) in
    let in_i : i < length (q ∷ ms) = omega (arith, l, in_j) in
    let x = get_or (q ∷ ms) i q in
    let y = get_or (q ∷ ms) j q in
    let alike : held_in x ≡ held_in y = sym (get_or-map held_in (q ∷ ms) i q d in_i) ∙ (same ∙ get_or-map held_in (q ∷ ms) j q d in_j) in
    let size : x.size ≡ y.size = sizes i q in_i ∙ sym (sizes j q in_j) in
    h i j (contents_of q) l (omega (arith, counted, in_j))
    (get_or-map contents_of (q ∷ ms) i q (contents_of q) in_i ∙ (held_alike x y size alike ∙ sym (get_or-map contents_of (q ∷ ms) j q (contents_of q) in_j)))

pub run_different : (run : Run) (k : Context) (ms : List Context) → RunsAs run k ms → HaveDistinctContents ms → HaveDifferentContents ms
run_different run k ms runs h = different_contents k.size ms (all_that_are (λ d. d.size ≡ k.size) ms (λ d there. (as_reached run k ms runs d there).size)) h
