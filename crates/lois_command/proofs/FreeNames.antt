-- Whether a word is a name that is no word of the language.
use Rattle.std.proofs.Common.{◌≡◌, ℕ, zero, suc, Bool, true, false, ◌&&◌, not, List, [], ◌∷◌, length, bytes_eq, refl, sym, ◌∙◌, nat_le, arith, ◌↔◌}
use Rattle.std.specs.Bool.{IsTrue}
use Rattle.std.specs.List.{Contains, list_all, list_any}
use Rattle.std.proofs.lemmas.Bool.{and_parts, le-leb, leb-true}
use Rattle.std.proofs.lemmas.Map.Views.{Contains-from_any}
use Rattle.std.proofs.lemmas.Slice.Eq.{bytes_eq-Decides}
use Rattle.lois_base.specs.Names.{IsName, begins_with_letter, is_name_byte}
use Rattle.lois_base.specs.declared.limits.TheConstants.{LONGEST_NAME}
use Rattle.lois_base.proofs.Booleans.{and_true, never_both, or_second}
use Rattle.lois_base.proofs.Order.{same_truth}
use Rattle.lois_lexer.specs.Words.{reserved}
use Rattle.lois_command.specs.FreeNames.{is_free}

denied : (b : Bool) → (IsTrue b → ⊥) → IsTrue (not b)
denied true h = absurd (h refl)
denied false h = refl

listed : (word : List ℕ) → IsTrue (list_any (bytes_eq word) reserved) → Contains reserved word
listed word h = Contains-from_any (λ x y e. (bytes_eq-Decides x y).0 e) word reserved h

found : (word : List ℕ) (words : List (List ℕ)) → Contains words word → IsTrue (list_any (bytes_eq word) words)
found word [] (k, l, e) = absurd (omega (arith, l))
found word (x ∷ xs) (zero, l, e) = let same : bytes_eq word x ≡ true = (bytes_eq-Decides word x).1 (sym e) in rw same refl
found word (x ∷ xs) (suc k, l, e) = or_second (bytes_eq word x) (list_any (bytes_eq word) xs) (found word xs (k, omega (arith, l), e))

module _ (word : List ℕ) where
  abbrev begin : Bool
  begin = begins_with_letter word

  abbrev short : Bool
  short = nat_le (length word) LONGEST_NAME

  abbrev all : Bool
  all = list_all is_name_byte word

  abbrev word_is : Bool
  word_is = list_any (bytes_eq word) reserved

  fits : IsName word → IsTrue short
  fits n = le-leb (length word) LONGEST_NAME n.short

  free_is : (name known : Bool) → IsTrue name ↔ IsName word → IsTrue known ↔ Contains reserved word → (name && not known) ≡ is_free word
  free_is name known named told = same_truth (name && not known) (is_free word)
      (λ h.
      let p = and_parts name (not known) h in
      let n = named.0 p.0 in
      and_true ((begin && short) && all) (not word_is) (and_true (begin && short) all (and_true begin short n.letter (fits n)) n.bytes) (denied word_is (λ k. never_both known p.1 (told.1 (listed word k)))))
      (λ h.
      let p = and_parts ((begin && short) && all) (not word_is) h in
      let q = and_parts (begin && short) all p.0 in
      let r = and_parts begin short q.0 in
      and_true name (not known) (named.1 (record { short = leb-true (length word) LONGEST_NAME r.1; letter = r.0; bytes = q.1 })) (denied known (λ k. never_both word_is p.1 (found word reserved (told.0 k)))))

  -- a word that has the form of a name is free unless it is a word of the language; another isn't
  pub formed : (name known : Bool) → IsTrue name ↔ IsName word → IsTrue known ↔ Contains reserved word → IsTrue name → not known ≡ is_free word
  formed true known named told h = free_is true known named told
  formed false known named told h = cc h

  pub unformed : (name : Bool) → IsTrue name ↔ IsName word → name ≡ false → false ≡ is_free word
  unformed name named e = same_truth false (is_free word) (λ h. cc h) (λ h.
      let p = and_parts ((begin && short) && all) (not word_is) h in
      let q = and_parts (begin && short) all p.0 in
      let r = and_parts begin short q.0 in
      sym e ∙ named.1 (record { short = leb-true (length word) LONGEST_NAME r.1; letter = r.0; bytes = q.1 }))
