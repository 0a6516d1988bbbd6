-- Blanks and comments, as the code finds them.
use Rattle.std.proofs.Common.{◌≡◌, ℕ, ◌<◌, List, length, get_or, inl, inr, ⊎_elim, ap, arith}
use Rattle.std.specs.List.{prefix_len}
use Rattle.std.proofs.lemmas.Bool.{cases_lt}
use Rattle.std.proofs.lemmas.List.Sums.{prefix_len-le-length, prefix_len_stops}
use Rattle.lois_lexer.specs.Bytes.{is_comment_byte}
use Rattle.lois_lexer.specs.Tokens.{IsComment}
use Rattle.lois_lexer.specs.Refusals.{BreaksComment}
use Rattle.lois_lexer.proofs.Longest.{run_passes, run_nonempty}

module _ (bytes : List ℕ) (mark : get_or bytes 0 0 ≡ 35) where
  pub breaks : prefix_len is_comment_byte bytes < length bytes → (get_or bytes (prefix_len is_comment_byte bytes) 0 ≡ 10 → ⊥) → BreaksComment bytes (prefix_len is_comment_byte bytes)
  breaks below no_end = record { within = below; mark = mark; inside = run_passes is_comment_byte bytes; no_end = no_end; bad = prefix_len_stops is_comment_byte bytes 0 below }

  pub comment_ends : 0 < length bytes → (prefix_len is_comment_byte bytes < length bytes → get_or bytes (prefix_len is_comment_byte bytes) 0 ≡ 10) → IsComment bytes (prefix_len is_comment_byte bytes)
  comment_ends nonempty ends =
      let within = prefix_len-le-length is_comment_byte bytes in
      record {
        within = within;
        mark = (run_nonempty is_comment_byte bytes nonempty (ap is_comment_byte mark), mark);
        inside = run_passes is_comment_byte bytes;
        end = ⊎_elim (λ below. inr (ends below)) (λ all. inl (omega arith)) (cases_lt (prefix_len is_comment_byte bytes) (length bytes));
      }
