-- Names and tags of a text have the form of names.
use Rattle.std.proofs.Common.{◌≡◌, ℕ, ◌≤◌, true, List, [], ◌∷◌, length, drop, arith}
use Rattle.std.proofs.lemmas.Bool.{leb-true}
use Rattle.lois_base.specs.Names.{IsName}
use Rattle.lois_base.proofs.NameForm.{name_form}
use Rattle.lois_lexer.specs.Forms.{HasForm, is_word_form, is_within_limits}
use Rattle.lois_lexer.specs.declared.TokenKind.TheVariants.{Name, Tag}

pub word_is_name : (bytes : List ℕ) → is_word_form bytes ≡ true → length bytes ≤ 64 → IsName bytes
word_is_name [] h l = absurd (cc)
word_is_name (b ∷ bs) h l = name_form b bs h l

pub is_name : (bytes : List ℕ) → HasForm Name bytes → is_within_limits Name bytes ≡ true → IsName bytes
is_name bytes h l = word_is_name bytes h.0 (leb-true (length bytes) 64 l)

pub is_tag_name : (bytes : List ℕ) → HasForm Tag bytes → is_within_limits Tag bytes ≡ true → IsName (drop 1 bytes)
is_tag_name [] h l = absurd h
is_tag_name (b ∷ bs) h l = let bound = leb-true (length (b ∷ bs)) 65 l in word_is_name bs h.1 (omega arith)
