-- The classes of bytes that tokens, blanks and comments are made of.
use Rattle.std.specs.Prelude.{ℕ, Bool, ◌||◌, ◌&&◌, ◌==◌, nat_le}
use Rattle.std.specs.Char.{is_ascii_alphanumeric}

-- a letter, a digit or `_`
abbrev pub is_word_byte : ℕ → Bool
is_word_byte b = is_ascii_alphanumeric b || b == 95

-- a space, a tab, LF or CR
abbrev pub is_blank : ℕ → Bool
is_blank b = b == 32 || b == 9 || b == 10 || b == 13

-- what may stand in a comment: a tab, CR, or a byte from space to `~`
abbrev pub is_comment_byte : ℕ → Bool
is_comment_byte b = b == 9 || b == 13 || (nat_le 32 b && nat_le b 126)
