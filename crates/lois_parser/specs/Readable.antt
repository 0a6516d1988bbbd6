-- What the reader has to know of each token so that it can take its bytes for a name or a number.
use Rattle.std.specs.Prelude.{ℕ, Bool, true, false, ◌&&◌, List, [], ◌∷◌, length, nat_eq, nat_le}
use Rattle.std.specs.List.{list_all}
use Rattle.std.specs.Char.{is_ascii_digit}
use Rattle.lois_lexer.specs.declared.TokenKind.{TokenKind}
use Rattle.lois_lexer.specs.declared.TokenKind.TheVariants.{Name, Tag, Number}
use Rattle.lois_lexer.specs.declared.Token.{Token}
use Rattle.lois_lexer.specs.Tokens.{bytes_of}
use Rattle.lois_base.specs.Names.{begins_with_letter, is_name_byte}

abbrev pub is_name : List ℕ → Bool
is_name bytes = nat_le (length bytes) 64 && (begins_with_letter bytes && list_all is_name_byte bytes)

abbrev pub is_digits : List ℕ → Bool
is_digits bytes = nat_le (length bytes) 9 && list_all is_ascii_digit bytes

-- a quote and a name
abbrev pub is_tag : List ℕ → Bool
is_tag [] = false
is_tag (b ∷ bs) = nat_eq b 39 && is_name bs

-- the bytes are those of a name, of a tag or of a number, where the kind asks for it
abbrev pub suits : TokenKind → List ℕ → Bool
suits Name bytes = is_name bytes
suits Tag bytes = is_tag bytes
suits Number bytes = is_digits bytes
suits _ bytes = true

-- the token lies in the text, and its bytes suit its kind
unfoldable pub is_readable : List ℕ → Token → Bool
is_readable text t = nat_le t.from t.to && (nat_le t.to (length text) && suits t.kind (bytes_of text t))

unfoldable pub are_readable : List ℕ → List Token → Bool
are_readable text tokens = list_all (is_readable text) tokens
