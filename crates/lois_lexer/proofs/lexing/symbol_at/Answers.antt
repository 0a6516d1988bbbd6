use Rattle.std.proofs.Common.{◌<◌, length, get_or, take, subst, sym, arith}
use Rattle.std.specs.Prelude.{Contains}
use Rattle.std.proofs.lemmas.Bool.{both_ways}
use Rattle.lois_lexer.specs.Words.{symbols}
use Rattle.lois_lexer.proofs.Forms.{other_class}
use Rattle.lois_lexer.proofs.Longest.{pair_longest, single_longest, no_symbol}
use Rattle.lois_lexer.proofs.Slices.{one_byte, two_bytes}
use Rattle.lois_lexer.proofs.lexing.symbol_at.Goals as goal
use Rattle.lois_lexer.proofs.lexing.symbol_at.Goals.{else-bytes-gt1-via-then-bytes-gt1+else-is_pair, else-bytes-gt1-via-else-bytes-gt1}

pub returns-then-is_pair-clause-some : goal.returns-then-is_pair-clause-some
returns-then-is_pair-clause-some c =
    let bytes = c.args.bytes.now in
    let class = other_class (get_or bytes 0 0) c.requires.no_letter c.requires.no_digit c.requires.no_quote in
    pair_longest bytes class c.if-bytes-gt1.true (subst (Contains symbols) (sym (two_bytes bytes c.if-bytes-gt1.true)) (c.is_pair.ensures.0 c.if-is_pair.true))

pub returns-then-is_symbol-clause-some : goal.returns-then-is_symbol-clause-some
returns-then-is_symbol-clause-some c =
    let bytes = c.args.bytes.now in
    let class = other_class (get_or bytes 0 0) c.requires.no_letter c.requires.no_digit c.requires.no_quote in
    let no_pair : 1 < length c.args.bytes.now → Contains symbols (take 2 c.args.bytes.now) → ⊥ = λ two pair.
    elim c.else-bytes-gt1.branch [
      | else-bytes-gt1-via-then-bytes-gt1+else-is_pair w ↦ both_ways w.is_pair.result w.if-is_pair.false (w.is_pair.ensures.1 (subst (Contains symbols) (two_bytes bytes two) pair))
      | else-bytes-gt1-via-else-bytes-gt1 w ↦ omega arith
    ] in
    single_longest bytes class c.requires.nonempty (subst (Contains symbols) (sym (one_byte bytes c.requires.nonempty)) (c.is_symbol.ensures.0 c.if-is_symbol.true)) no_pair

pub returns-else-is_symbol-clause-none : goal.returns-else-is_symbol-clause-none
returns-else-is_symbol-clause-none c =
    let bytes = c.args.bytes.now in
    let class = other_class (get_or bytes 0 0) c.requires.no_letter c.requires.no_digit c.requires.no_quote in
    let no_pair : 1 < length c.args.bytes.now → Contains symbols (take 2 c.args.bytes.now) → ⊥ = λ two pair.
    elim c.else-bytes-gt1.branch [
      | else-bytes-gt1-via-then-bytes-gt1+else-is_pair w ↦ both_ways w.is_pair.result w.if-is_pair.false (w.is_pair.ensures.1 (subst (Contains symbols) (two_bytes bytes two) pair))
      | else-bytes-gt1-via-else-bytes-gt1 w ↦ omega arith
    ] in
    no_symbol bytes class (λ single. both_ways c.is_symbol.result c.if-is_symbol.false (c.is_symbol.ensures.1 (subst (Contains symbols) (one_byte bytes c.requires.nonempty) single))) no_pair
