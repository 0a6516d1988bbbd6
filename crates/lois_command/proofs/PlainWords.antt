-- Words that are no options, as texts and as their bytes.
use Rattle.std.proofs.Common.{◌≡◌, List, String, map, string_bytes, sym}
use Rattle.std.proofs.lemmas.List.Folds.{list_all-map}
use Rattle.std.specs.List.{list_all}
use Rattle.lois_command.specs.CommandWords.{are_plain, is_plain}

pub mapped_plain : {Z : Type 0} (words : List (String Z)) → list_all (λ (w : String Z). is_plain (string_bytes w)) words ≡ are_plain (map string_bytes words)
mapped_plain words = sym (list_all-map is_plain string_bytes words)
