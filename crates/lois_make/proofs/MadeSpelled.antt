-- The made script spells its tree.
use Rattle.std.proofs.Common.{◌≡◌, ℕ, zero, suc, ◌+◌, ◌*◌, ◌%◌, Bool, true, ◌&&◌, List, [], ◌∷◌, ◌++◌, length, map, refl, sym, ap, subst, ◌∙◌, arith, append_assoc}
use mathlib.Core.Logic.{inl}
use Rattle.std.specs.Prelude.{codes, nat_le}
use Rattle.std.proofs.lemmas.Bool.{and_parts, leb-true}
use Rattle.std.proofs.lemmas.List.{map-append}
use Rattle.lois_lexer.specs.declared.TokenKind.{TokenKind}
use Rattle.lois_lexer.specs.declared.Token.{Token}
use Rattle.lois_lexer.specs.Tokens.{IsCut}
use Rattle.lois_lexer.specs.Tokens.IsCut.{at_start}
use Rattle.lois_script.specs.Grammar.{PlacedToken, token_at_place, SpellsStmt, SpellsStmts, SpellsScript}
use Rattle.lois_script.specs.Limits.{open_after, IsNestedWithin, StmtIsWithin, StmtsAreWithin}
use Rattle.lois_script.specs.Tree.{print, StmtsD, no_stmts, stmt}
use Rattle.lois_make.specs.MadeScript.{made_loop, made_loops, made_script}
use Rattle.lois_make.specs.MadeTree.{made_tag, made_loop_tree, made_loops_before, made_tree}
use Rattle.lois_make.specs.Laws.{MadeIsSpelled}
use Rattle.lois_make.proofs.MadeScript.{loops_length}
use Rattle.lois_make.proofs.Pieces.{pieces_bytes, placed_pieces, cut_pieces}
use Rattle.lois_make.proofs.MadePieces.{head_pieces, head_before, loop_pieces, loop_before, tail_pieces, tail_before, tag_form}

-- the text up to the loop of number n, and its tokens
abbrev front : ℕ → List ℕ
front n = pieces_bytes head_pieces ++ made_loops n

abbrev loop_tokens : ℕ → List PlacedToken
loop_tokens i = placed_pieces (28 + 74 * i) 0 (loop_pieces (48 + i % 7))

abbrev loops_tokens : ℕ → List PlacedToken
loops_tokens zero = []
loops_tokens (suc n) = loops_tokens n ++ loop_tokens n

abbrev head_tokens : List PlacedToken
head_tokens = placed_pieces 0 0 head_pieces

abbrev tail_tokens : ℕ → List PlacedToken
tail_tokens n = placed_pieces (28 + 74 * n) 0 tail_pieces

front_length : (n : ℕ) → length (front n) ≡ 28 + 74 * n
front_length n = omega (arith, loops_length n)

one_further : (n : ℕ) (rest : List ℕ) → front (suc n) ++ rest ≡ front n ++ (made_loop n ++ rest)
one_further n rest = ap (λ l. pieces_bytes head_pieces ++ l) (append_assoc (made_loops n) (made_loop n) rest)

-- the text is cut up to the loop of number n
abbrev AreCut : List ℕ → List ℕ → List PlacedToken → Type 0
AreCut text before tokens = (ts : List Token) × IsCut text (length before) ts × (map (token_at_place text) ts ≡ tokens)

cut_loops : (n : ℕ) (text rest : List ℕ) → text ≡ front n ++ rest → AreCut text (front n) (head_tokens ++ loops_tokens n)
cut_loops zero text rest is_text = cut_pieces head_pieces text [] rest 0 0 [] is_text refl (head_before rest) at_start
cut_loops (suc n) text rest is_text =
    let is : text ≡ front n ++ (made_loop n ++ rest) = is_text ∙ one_further n rest in
    let before = cut_loops n text (made_loop n ++ rest) is in
    let here = cut_pieces (loop_pieces (48 + n % 7)) text (front n) rest (28 + 74 * n) 0 before.0 is (omega (arith, front_length n)) (loop_before (48 + n % 7) rest (tag_form n)) before.1 in
    let all : front n ++ made_loop n ≡ front (suc n) = ap (λ l. pieces_bytes head_pieces ++ l) refl in (
      before.0 ++ here.0,
      subst (λ l. IsCut text (length l) (before.0 ++ here.0)) all here.1,
      map-append (token_at_place text) before.0 here.0 ∙ (ap (λ l. l ++ map (token_at_place text) here.0) before.2 ∙ ap (λ l. (head_tokens ++ loops_tokens n) ++ l) here.2),
    )

cut_script : (n : ℕ) → AreCut (made_script n) (made_script n) ((head_tokens ++ loops_tokens n) ++ tail_tokens n)
cut_script n =
    let text = made_script n in
    let before = cut_loops n (made_script n) (pieces_bytes tail_pieces) refl in
    let here = cut_pieces tail_pieces (made_script n) (front n) [] (28 + 74 * n) 0 before.0 refl (omega (arith, front_length n)) (tail_before []) before.1 in (
      before.0 ++ here.0,
      here.1,
      map-append (token_at_place text) before.0 here.0 ∙ (ap (λ l. l ++ map (token_at_place text) here.0) before.2 ∙ ap (λ l. (head_tokens ++ loops_tokens n) ++ l) here.2),
    )

-- some tokens, and those behind them
behind : {M : Type 0} {A B : M → Type 0} (m : M) → A m → B m → (n : M) × A n × B n
behind m first rest = (m, first, rest)

-- a word or a symbol, which may stand at any place
taken : {kind : TokenKind} {bytes : List ℕ} {place : ℕ} {after : List PlacedToken} →
    (p : ℕ) × (◌≡◌ {A = List PlacedToken} (record { kind = kind; bytes = bytes; place = place } ∷ after) (record { kind = kind; bytes = bytes; place = p } ∷ after))
taken {place = place} = (place, refl)

-- The places of the tokens are those of the tree. A line for each form: the outer loop, the inner one, the test, the addition, and then their ends.
spelled_loop : (at d : ℕ) (after : List PlacedToken) → SpellsStmt (made_loop_tree at (107 ∷ d ∷ [])) (placed_pieces at 0 (loop_pieces d) ++ after) after
spelled_loop at d after =
    behind _ taken (behind _ (behind _ refl (behind _ taken refl)) (behind _ (inl (refl, refl)) (behind _ taken (behind _ (behind _
    (behind _ taken (behind _ (behind _ refl (behind _ taken refl)) (behind _ (inl (refl, refl)) (behind _ taken (behind _ (behind _
    (behind _ taken (behind _ (0, inl refl, behind _ refl (behind _ taken refl)) (behind _ (behind _ taken (behind _ (behind _
    (behind _ taken (behind _ (tt, behind _ refl (behind _ (behind _ refl (behind _ taken (behind _ refl (behind _ taken (behind _ refl refl))))) taken)) (behind _ taken (behind _ refl taken))))
    refl) taken)) (inl (refl, refl)))))
    refl) taken)))))
    refl) taken))))

spelled_loops : (n : ℕ) (rest : StmtsD) (after : List PlacedToken) → SpellsStmts rest after [] → SpellsStmts (made_loops_before n rest) (loops_tokens n ++ after) []
spelled_loops zero rest after h = h
spelled_loops (suc n) rest after h =
    let all = spelled_loops n (stmt (made_loop_tree (28 + 74 * n) (made_tag n)) rest) (loop_tokens n ++ after) (_, spelled_loop (28 + 74 * n) (48 + n % 7) after, h) in
    subst (λ l. SpellsStmts (made_loops_before (suc n) rest) l []) (sym (append_assoc (loops_tokens n) (loop_tokens n) after)) all

spelled_tail : (n : ℕ) → SpellsStmts (stmt (print (28 + 74 * n) (28 + 74 * n + 6) (codes "s")) no_stmts) (tail_tokens n) []
spelled_tail n =
    let same : 28 + 74 * n + 0 ≡ 28 + 74 * n = omega arith in
    subst (λ p. SpellsStmts (stmt (print p (28 + 74 * n + 6) (codes "s")) no_stmts) (tail_tokens n) []) same (_, (_, refl, (_, refl, (_, refl))), refl)

spelled_script : (n : ℕ) → SpellsScript (made_tree n) (head_tokens ++ (loops_tokens n ++ tail_tokens n))
spelled_script n =
    behind _ taken (behind _ taken (behind _ taken (behind _ refl (behind _
    (behind _ taken (behind _ refl (behind _ taken (behind _ (behind _ refl (behind _ refl taken)) taken))))
    (spelled_loops n _ (tail_tokens n) (spelled_tail n))))))

-- how many brackets are open behind the tokens, and whether there are at most 64 at each place
abbrev open_behind : ℕ → List PlacedToken → ℕ
open_behind n [] = n
open_behind n (t ∷ ts) = open_behind (open_after n t) ts

abbrev is_nested : ℕ → List PlacedToken → Bool
is_nested n [] = true
is_nested n (t ∷ ts) = nat_le (open_after n t) 64 && is_nested (open_after n t) ts

nested_further : (n : ℕ) (ts after : List PlacedToken) → is_nested n ts ≡ true → IsNestedWithin (open_behind n ts) after → IsNestedWithin n (ts ++ after)
nested_further n [] after h further = further
nested_further n (t ∷ ts) after h further =
    let both = and_parts (nat_le (open_after n t) 64) (is_nested (open_after n t) ts) h in
    (leb-true (open_after n t) 64 both.0, nested_further (open_after n t) ts after both.1 further)

nested_loops : (n : ℕ) (after : List PlacedToken) → IsNestedWithin 0 after → IsNestedWithin 0 (loops_tokens n ++ after)
nested_loops zero after h = h
nested_loops (suc n) after h =
    subst (IsNestedWithin 0) (sym (append_assoc (loops_tokens n) (loop_tokens n) after)) (nested_loops n (loop_tokens n ++ after) (nested_further 0 (loop_tokens n) after refl h))

nested_script : (n : ℕ) → IsNestedWithin 0 (head_tokens ++ (loops_tokens n ++ tail_tokens n))
nested_script n = nested_further 0 head_tokens (loops_tokens n ++ tail_tokens n) refl (nested_loops n (tail_tokens n) (nested_further 0 (tail_tokens n) [] refl tt))

loops_within : (n : ℕ) (rest : StmtsD) → StmtsAreWithin rest → StmtsAreWithin (made_loops_before n rest)
loops_within zero rest h = h
loops_within (suc n) rest h = loops_within n (stmt (made_loop_tree (28 + 74 * n) (made_tag n)) rest) (loop_within, h)
  where
    loop_within : StmtIsWithin (made_loop_tree (28 + 74 * n) (made_tag n))
    loop_within = (tt, tt, ((tt, tt, (((tt, tt), ((omega arith, (tt, (tt, (tt, tt)))), tt), tt), tt)), tt))

pub made_is_spelled : MadeIsSpelled
made_is_spelled n =
    let cut = cut_script n in
    let is : map (token_at_place (made_script n)) cut.0 ≡ head_tokens ++ (loops_tokens n ++ tail_tokens n) = cut.2 ∙ append_assoc head_tokens (loops_tokens n) (tail_tokens n) in
    record {
      tokens = cut.0;
      cut = cut.1;
      script = subst (SpellsScript (made_tree n)) (sym is) (spelled_script n);
      nesting = subst (IsNestedWithin 0) (sym is) (nested_script n);
      forms = (tt, loops_within n _ (tt, tt));
    }
