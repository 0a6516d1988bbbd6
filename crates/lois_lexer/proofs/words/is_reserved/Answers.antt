use Rattle.std.proofs.Common.{◌≡◌, ℕ, true, List, get_or, sym, ◌∙◌}
use Rattle.std.specs.Prelude.{◌↔◌, Contains}
use Rattle.std.specs.List.{list_any}
use Rattle.std.specs.Str.{bytes_eq}
use Rattle.std.proofs.lemmas.Slice.Eq.{bytes_eq-Decides}
use Rattle.std.proofs.lemmas.List.Folds.{list_any_at}
use Rattle.std.proofs.lemmas.Map.Views.{Contains-from_any}
use Rattle.lois_lexer.specs.Words.{reserved}
use Rattle.lois_lexer.proofs.words.is_reserved.Goals as goal

-- a list of texts contains what equals one of them
found : (words : List (List ℕ)) (word : List ℕ) → (list_any (λ s. bytes_eq s word) words ≡ true) ↔ Contains words word
found words word = (
  λ e. Contains-from_any {eq = λ q s. bytes_eq s q} (λ x y h. sym ((bytes_eq-Decides y x).0 h)) word words e,
  λ h. list_any_at (λ s. bytes_eq s word) words h.0 word h.1 ((bytes_eq-Decides (get_or words h.0 word) word).1 h.2),
)

pub returns : goal.returns
unfolding reserved
returns c =
    let word = c.args.word.now in
    let answer : c.contains.result ≡ list_any (λ s. bytes_eq s c.args.word.now) reserved = c.contains.ensures.value in
    (λ e. (found reserved word).0 (sym answer ∙ e), λ h. answer ∙ (found reserved word).1 h)
