-- The words of a guard: literals with `and` between each two.
use Rattle.std.proofs.Common.{◌≡◌, ℕ, zero, suc, ◌+◌, ◌*◌, ◌≤◌, ◌<◌, ◌%◌, Bool, List, [], ◌∷◌, ◌++◌, length, map, get_or, take, refl, sym, ap, subst, ◌∙◌, arith, append_assoc}
use Rattle.std.specs.Prelude.{codes}
use Rattle.std.specs.List.{All}
use Rattle.std.proofs.lemmas.List.{append_cancel_right, length-append, length-map, map_more, map_push}
use Rattle.std.proofs.lemmas.List.Elements.{All-map, All-weaker, All-head, All-tail}
use Rattle.lois_answers.specs.TermText.{literal_text}
use Rattle.lois_base.specs.declared.guards.Lit.{Lit}
use Rattle.lois_registers.specs.Texts.{operand_names, joined_by_and, linked_words}
use Rattle.lois_registers.specs.Valid.{IsLiteral}
use Rattle.lois_registers.specs.ReadParts.{AreLiterals}

-- the words, with `and` behind each
abbrev pub anded : List (List ℕ) → List (List ℕ)
anded [] = []
anded (w ∷ ws) = w ∷ codes "and" ∷ anded ws

pub anded_push : (ws : List (List ℕ)) (w : List ℕ) → anded (ws ++ w ∷ []) ≡ anded ws ++ w ∷ codes "and" ∷ []
anded_push [] w = refl
anded_push (v ∷ ws) w = ap (λ z. v ∷ codes "and" ∷ z) (anded_push ws w)

pub linked_anded : (w : List ℕ) (ws : List (List ℕ)) → joined_by_and (w ∷ ws) ++ codes "and" ∷ [] ≡ anded (w ∷ ws)
linked_anded w [] = refl
linked_anded w (v ∷ ws) = ap (λ z. w ∷ codes "and" ∷ z) (linked_anded v ws)

linked_length : (w : List ℕ) (ws : List (List ℕ)) → length (joined_by_and (w ∷ ws)) ≡ 2 * length ws + 1
linked_length w [] = refl
linked_length w (v ∷ ws) = omega (arith, linked_length v ws)

linked_and : (ws : List (List ℕ)) (k : ℕ) (d : List ℕ) → k < length (joined_by_and ws) → k % 2 ≡ 1 → get_or (joined_by_and ws) k d ≡ codes "and"
linked_and [] k d l odd = absurd (omega (arith, l))
linked_and (w ∷ []) zero d l odd = absurd (omega (arith, odd))
linked_and (w ∷ []) (suc k) d l odd = absurd (omega (arith, l))
linked_and (w ∷ v ∷ ws) zero d l odd = absurd (omega (arith, odd))
linked_and (w ∷ v ∷ ws) (suc zero) d l odd = refl
linked_and (w ∷ v ∷ ws) (suc (suc k)) d l odd = linked_and (v ∷ ws) k d (omega (arith, l)) (omega (arith, odd))

linked_word : (P : List ℕ → Type 0) (ws : List (List ℕ)) (k : ℕ) (d : List ℕ) → All P ws → k < length (joined_by_and ws) → k % 2 ≡ 0 → P (get_or (joined_by_and ws) k d)
linked_word P [] k d h l even = absurd (omega (arith, l))
linked_word P (w ∷ []) zero d h l even = All-head P w [] h
linked_word P (w ∷ []) (suc k) d h l even = absurd (omega (arith, l))
linked_word P (w ∷ v ∷ ws) zero d h l even = All-head P w (v ∷ ws) h
linked_word P (w ∷ v ∷ ws) (suc zero) d h l even = absurd (omega (arith, even))
linked_word P (w ∷ v ∷ ws) (suc (suc k)) d h l even = linked_word P (v ∷ ws) k d (All-tail P w (v ∷ ws) h) (omega (arith, l)) (omega (arith, even))

-- an odd number of words, so many literals being spelled
pub literals_length : (ls : List Lit) → 1 ≤ length ls → length (linked_words ls) + 1 ≡ 2 * length ls
literals_length [] h = absurd (omega (arith, h))
literals_length (l ∷ ls) h = omega (arith, linked_length (literal_text operand_names l) (map (literal_text operand_names) ls), length-map ls (literal_text operand_names))

module _ (ordered : Bool) (n : ℕ) where
  abbrev pub IsSpelled : List ℕ → Type 0
  IsSpelled w = (l : Lit) × IsLiteral ordered n l × (w ≡ literal_text operand_names l)

  are_spelled : (ls : List Lit) → All (IsLiteral ordered n) ls → All IsSpelled (map (literal_text operand_names) ls)
  are_spelled ls h = All-map IsSpelled (literal_text operand_names) ls (All-weaker (IsLiteral ordered n) (λ l. IsSpelled (literal_text operand_names l)) (λ l i. (l, i, refl)) ls h)

  -- the word at an even place is a literal's
  pub word_spelled : (words : List (List ℕ)) (ls : List Lit) (k : ℕ) (d : List ℕ) → AreLiterals ordered n ls → words ≡ linked_words ls → k < length words → k % 2 ≡ 0 → IsSpelled (get_or words k d)
  word_spelled words ls k d h e l even =
      subst (λ z. IsSpelled (get_or z k d)) (sym e) (linked_word IsSpelled (map (literal_text operand_names) ls) k d (are_spelled ls h.literals) (omega (arith, ap length e, l)) even)

  -- the word at an odd place is `and`
  pub word_and : (words : List (List ℕ)) (ls : List Lit) (k : ℕ) (d : List ℕ) → words ≡ linked_words ls → k < length words → k % 2 ≡ 1 → get_or words k d ≡ codes "and"
  word_and words ls k d e l odd =
      ap (λ z. get_or z k d) e ∙ linked_and (map (literal_text operand_names) ls) k d (omega (arith, ap length e, l)) odd

  pub words_odd : (words : List (List ℕ)) (ls : List Lit) → AreLiterals ordered n ls → words ≡ linked_words ls → length words % 2 ≡ 1
  words_odd words ls h e = omega (arith, ap length e, literals_length ls h.some)

-- all words are read
pub literals_read : (words : List (List ℕ)) (ls : List Lit) → words ++ codes "and" ∷ [] ≡ anded (map (literal_text operand_names) ls) → (1 ≤ length ls) × (words ≡ linked_words ls)
literals_read words [] e = absurd (omega (arith, ap length e, length-append words (codes "and" ∷ [])))
literals_read words (l ∷ ls) e = (
  omega arith,
  append_cancel_right words (linked_words (l ∷ ls)) (codes "and" ∷ []) (e ∙ sym (linked_anded (literal_text operand_names l) (map (literal_text operand_names) ls))),
)

-- one more word is read
module _ {X : Type 0} (f : X → List ℕ) (slice : List X) (i : ℕ) (d : X) (l : i < length slice) where
  pub and_read : (ls : List Lit) → f (get_or slice i d) ≡ codes "and" → map f (take i slice) ++ codes "and" ∷ [] ≡ anded (map (literal_text operand_names) ls) → map f (take (i + 1) slice) ≡ anded (map (literal_text operand_names) ls)
  and_read ls e h = map_more f slice i d l ∙ (ap (λ z. map f (take i slice) ++ z ∷ []) e ∙ h)

  pub literal_read : (ls : List Lit) (lit : Lit) → f (get_or slice i d) ≡ literal_text operand_names lit → map f (take i slice) ≡ anded (map (literal_text operand_names) ls) →
      map f (take (i + 1) slice) ++ codes "and" ∷ [] ≡ anded (map (literal_text operand_names) (ls ++ lit ∷ []))
  literal_read ls lit e h =
      ap (λ z. z ++ codes "and" ∷ []) (map_more f slice i d l ∙ ap (λ z. map f (take i slice) ++ z ∷ []) e) ∙
      (append_assoc (map f (take i slice)) (literal_text operand_names lit ∷ []) (codes "and" ∷ []) ∙
      (ap (λ z. z ++ (literal_text operand_names lit ∷ codes "and" ∷ [])) h ∙
      (sym (anded_push (map (literal_text operand_names) ls) (literal_text operand_names lit)) ∙ ap anded (sym (map_push (literal_text operand_names) ls lit)))))
