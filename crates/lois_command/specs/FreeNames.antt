-- Names of lines among the words of a command line.
use Rattle.std.specs.Prelude.{ℕ, ◌&&◌, Bool, not, List, Option, Some, None, if◌then◌else◌, bytes_eq, nat_le, length}
use Rattle.std.specs.List.{list_all, list_any}
use Rattle.lois_base.specs.Names.{begins_with_letter, is_name_byte}
use Rattle.lois_base.specs.declared.limits.TheConstants.{LONGEST_NAME}
use Rattle.lois_lexer.specs.Words.{reserved}

-- a name that is no word of the language
abbrev pub is_free : List ℕ → Bool
is_free word = begins_with_letter word && nat_le (length word) LONGEST_NAME && list_all is_name_byte word && not (list_any (bytes_eq word) reserved)

abbrev pub free_name : List ℕ → Option (List ℕ)
free_name word = if (is_free word) then (Some word) else None
