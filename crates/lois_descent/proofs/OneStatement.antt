-- Tokens are those of at most one list of statements, and of at most one script.
use Rattle.std.proofs.Common.{◌≡◌, ℕ, Bool, true, false, ◌&&◌, ◌||◌, ◌==◌, List, [], ◌∷◌, map, codes, refl, sym, ap, ◌∙◌, subst, inl, inr, arith}
use Rattle.std.specs.Prelude.{nat_le}
use Rattle.std.proofs.lemmas.Bool.{false≢true}
use Rattle.lois_lexer.specs.declared.TokenKind.TheVariants.{Word}
use Rattle.lois_script.specs.Tree.{StmtD, «let», assign, add, for, if, while, assert, print, StmtsD, no_stmts, stmt, ParamD}
use Rattle.lois_script.specs.Grammar.{PlacedToken, TakesWord, TakesNumber, WhereClause, Block, ElseClause, SpellsExpr, SpellsBinding, SpellsCond, SpellsStmt, SpellsStmts, SpellsMoreNames, SpellsParameters, structure_word, SpellsScript, token_at_place}
use Rattle.lois_lexer.specs.declared.Token.{Token}
use Rattle.lois_lexer.proofs.OneReading.{one_list}
use Rattle.lois_descent.specs.Laws.{OneScript, OneScriptOfText}
use Rattle.lois_descent.proofs.Lengths.{Tokens}
use Rattle.lois_descent.proofs.FirstTokens.{is_word, Avoids, avoids, never_avoids, one_token, first_class, stmt_class, stmt_first}
use Rattle.lois_descent.proofs.OneExpression.{is_comma, is_where, EndsCond, ends_before, Condition, number_once}
use Rattle.lois_descent.proofs.OneReading.{one_expr, one_condition, one_binding, one_where}

abbrev pub is_else : PlacedToken → Bool
is_else = is_word (codes "else")

abbrev begins_stmt : ℕ → Bool
begins_stmt n = n == 1 || (nat_le 14 n && nat_le n 20)

-- no list of statements goes on here
pub record EndsStmts (b : Tokens) : Type 0 where
  pub no_stmt : begins_stmt (first_class b) ≡ false
  pub no_else : Avoids is_else b

stmt_begins : (a : StmtD) → begins_stmt (stmt_class a) ≡ true
stmt_begins («let» p x e) = refl
stmt_begins (assign p x e) = refl
stmt_begins (add e p x) = refl
stmt_begins (for b c body) = refl
stmt_begins ((if) c one other) = refl
stmt_begins (while p c n body) = refl
stmt_begins (assert p c) = refl
stmt_begins (print p q x) = refl

pub no_stmt_at : (a : StmtD) (b m : Tokens) → SpellsStmt a b m → begins_stmt (first_class b) ≡ false → ⊥
no_stmt_at a b m h other =
    false≢true (sym other ∙ ap begins_stmt (stmt_first a b m h) ∙ stmt_begins a)

stmt_no_else : (a : StmtD) (b m : Tokens) → SpellsStmt a b m → Avoids is_else b
stmt_no_else («let» p x e) b m (u, (q, s), h) = avoids is_else _ b u s refl
stmt_no_else (assign p x e) b m (u, s, h) = avoids is_else _ b u s refl
stmt_no_else (add e p x) b m (u, (q, s), h) = avoids is_else _ b u s refl
stmt_no_else (for bd c body) b m (u, (q, s), h) = avoids is_else _ b u s refl
stmt_no_else ((if) c one other) b m (u, (q, s), h) = avoids is_else _ b u s refl
stmt_no_else (while p c n body) b m (u, s, h) = avoids is_else _ b u s refl
stmt_no_else (assert p c) b m (u, s, h) = avoids is_else _ b u s refl
stmt_no_else (print p q x) b m (u, s, h) = avoids is_else _ b u s refl

stmts_no_else : (l : StmtsD) (b m : Tokens) → SpellsStmts l b m → Avoids is_else m → Avoids is_else b
stmts_no_else no_stmts b m e h = subst (Avoids is_else) (sym e) h
stmts_no_else (stmt a rest) b m (u, one, more) h = stmt_no_else a b u one

pub ends_at : (t : PlacedToken) (b m : Tokens) → b ≡ t ∷ m → begins_stmt (first_class (t ∷ m)) ≡ false → is_else t ≡ false → EndsStmts b
ends_at t b m e no_stmt no_else = record { no_stmt = ap (λ l. begins_stmt (first_class l)) e ∙ no_stmt; no_else = avoids is_else t b m e no_else }

abbrev OneList : StmtsD → StmtsD → Type 0
OneList l k = (b m n : Tokens) → EndsStmts m → EndsStmts n → SpellsStmts l b m → SpellsStmts k b n → (l ≡ k) × (m ≡ n)

block_once : (l k : StmtsD) → OneList l k → (b m n : Tokens) → Block (SpellsStmts l) b m → Block (SpellsStmts k) b n → (l ≡ k) × (m ≡ n)
block_once l k once b m n (u, (p, s), (v, one, (q, close))) (u', (p', t), (v', other, (q', close'))) =
    let opened : u ≡ u' = (one_token _ _ b u u' s t).1 in
    let inside = once u v v' (ends_at _ v m close refl refl) (ends_at _ v' n close' refl refl) one (subst (λ z. SpellsStmts k z v') (sym opened) other) in
    (inside.0, (one_token _ _ v m n close (inside.1 ∙ close')).1)

else_once : (l k : StmtsD) → OneList l k → (b m n : Tokens) → Avoids is_else m → Avoids is_else n → ElseClause l (SpellsStmts l) b m → ElseClause k (SpellsStmts k) b n → (l ≡ k) × (m ≡ n)
else_once l k once b m n p q (inl g) (inl h) = (g.0 ∙ sym h.0, sym g.1 ∙ h.1)
else_once l k once b m n p q (inl g) (inr (u, (i, t), h)) = absurd (never_avoids is_else _ m u (sym g.1 ∙ t) refl p)
else_once l k once b m n p q (inr (u, (i, s), g)) (inl h) = absurd (never_avoids is_else _ n u (sym h.1 ∙ s) refl q)
else_once l k once b m n p q (inr (u, (i, s), g)) (inr (v, (j, t), h)) =
    let word : u ≡ v = (one_token _ _ b u v s t).1 in
    block_once l k once u m n g (subst (λ z. Block (SpellsStmts k) z n) (sym word) h)

block_ends : (l : StmtsD) (b m : Tokens) → Block (SpellsStmts l) b m → EndsCond b
block_ends l b m (u, (p, s), h) = ends_before _ b u s refl refl

block_no_where : (l : StmtsD) (b m : Tokens) → Block (SpellsStmts l) b m → Avoids is_where b
block_no_where l b m (u, (p, s), h) = avoids is_where _ b u s refl

mutual
  pub one_stmt : (a c : StmtD) (b m n : Tokens) → Avoids is_else m → Avoids is_else n → SpellsStmt a b m → SpellsStmt c b n → (a ≡ c) × (m ≡ n)
  one_stmt («let» p x e) («let» q y f) b m n i j (u, (p0, s0), (v, s1, (w, (p2, s2), (z, one, (p3, s3))))) (u', (q0, t0), (v', t1, (w', (q2, t2), (z', other, (q3, t3))))) =
      let at_u : u ≡ u' = (one_token _ _ b u u' s0 t0).1 in
      let name = one_token _ _ u v v' s1 (at_u ∙ t1) in
      let place : p ≡ q = ap (λ (t : PlacedToken). t.place) name.0 in
      let bytes : x ≡ y = ap (λ (t : PlacedToken). t.bytes) name.0 in
      let at_w : w ≡ w' = (one_token _ _ v w w' s2 (name.1 ∙ t2)).1 in
      let given = one_expr e f w z z' one (subst (λ r. SpellsExpr f r z') (sym at_w) other) in
      (cc, (one_token _ _ z m n s3 (given.1 ∙ t3)).1)
  one_stmt (assign p x e) (assign q y f) b m n i j (v, s1, (w, (p2, s2), (z, one, (p3, s3)))) (v', t1, (w', (q2, t2), (z', other, (q3, t3)))) =
      let name = one_token _ _ b v v' s1 t1 in
      let place : p ≡ q = ap (λ (t : PlacedToken). t.place) name.0 in
      let bytes : x ≡ y = ap (λ (t : PlacedToken). t.bytes) name.0 in
      let at_w : w ≡ w' = (one_token _ _ v w w' s2 (name.1 ∙ t2)).1 in
      let given = one_expr e f w z z' one (subst (λ r. SpellsExpr f r z') (sym at_w) other) in
      (cc, (one_token _ _ z m n s3 (given.1 ∙ t3)).1)
  one_stmt (add e p x) (add f q y) b m n i j (u, (p0, s0), (v, one, (w, (p1, s1), (z, s2, (p3, s3))))) (u', (q0, t0), (v', other, (w', (q1, t1), (z', t2, (q3, t3))))) =
      let at_u : u ≡ u' = (one_token _ _ b u u' s0 t0).1 in
      let given = one_expr e f u v v' one (subst (λ r. SpellsExpr f r v') (sym at_u) other) in
      let at_w : w ≡ w' = (one_token _ _ v w w' s1 (given.1 ∙ t1)).1 in
      let name = one_token _ _ w z z' s2 (at_w ∙ t2) in
      let place : p ≡ q = ap (λ (t : PlacedToken). t.place) name.0 in
      let bytes : x ≡ y = ap (λ (t : PlacedToken). t.bytes) name.0 in
      (cc, (one_token _ _ z m n s3 (name.1 ∙ t3)).1)
  one_stmt (for x c body) (for y d body') b m n i j (u, (p0, s0), (v, one, (w, clause, block))) (u', (q0, t0), (v', other, (w', clause', block'))) =
      let at_u : u ≡ u' = (one_token _ _ b u u' s0 t0).1 in
      let range = one_binding x y u v v' one (subst (λ r. SpellsBinding y r v') (sym at_u) other) in
      let guard = one_where c d v w w' (block_no_where body w m block) (block_no_where body' w' n block') (block_ends body w m block) (block_ends body' w' n block') clause (subst (λ r. WhereClause d (SpellsCond d) r w') (sym range.1) clause') in
      let rest = block_once body body' (one_stmts body body') w m n block (subst (λ r. Block (SpellsStmts body') r n) (sym guard.1) block') in
      (cc, rest.1)
  one_stmt ((if) c one other) ((if) d one' other') b m n i j (u, (p0, s0), (v, test, (w, block, more))) (u', (q0, t0), (v', test', (w', block', more'))) =
      let at_u : u ≡ u' = (one_token _ _ b u u' s0 t0).1 in
      let guard = one_condition c d u v v' (block_ends one v w block) (block_ends one' v' w' block') test (subst (λ r. Condition d r v') (sym at_u) test') in
      let first = block_once one one' (one_stmts one one') v w w' block (subst (λ r. Block (SpellsStmts one') r w') (sym guard.1) block') in
      let second = else_once other other' (one_stmts other other') w m n i j more (subst (λ r. ElseClause other' (SpellsStmts other') r n) (sym first.1) more') in
      (cc, second.1)
  one_stmt (while p c k body) (while q d k' body') b m n i j (u, s0, (v, test, (w, (p1, s1), (z, number, block)))) (u', t0, (v', test', (w', (q1, t1), (z', number', block')))) =
      let word = one_token _ _ b u u' s0 t0 in
      let place : p ≡ q = ap (λ (t : PlacedToken). t.place) word.0 in
      let guard = one_condition c d u v v' (ends_before _ v w s1 refl refl) (ends_before _ v' w' t1 refl refl) test (subst (λ r. Condition d r v') (sym word.1) test') in
      let at_w : w ≡ w' = (one_token _ _ v w w' s1 (guard.1 ∙ t1)).1 in
      let turns = number_once k k' w z z' number (subst (λ r. TakesNumber k' r z') (sym at_w) number') in
      let rest = block_once body body' (one_stmts body body') z m n block (subst (λ r. Block (SpellsStmts body') r n) (sym turns.1) block') in
      (cc, rest.1)
  one_stmt (assert p c) (assert q d) b m n i j (u, s0, (v, test, (p1, s1))) (u', t0, (v', test', (q1, t1))) =
      let word = one_token _ _ b u u' s0 t0 in
      let place : p ≡ q = ap (λ (t : PlacedToken). t.place) word.0 in
      let guard = one_condition c d u v v' (ends_before _ v m s1 refl refl) (ends_before _ v' n t1 refl refl) test (subst (λ r. Condition d r v') (sym word.1) test') in
      (cc, (one_token _ _ v m n s1 (guard.1 ∙ t1)).1)
  one_stmt (print p k x) (print q l y) b m n i j (u, s0, (v, s1, (p2, s2))) (u', t0, (v', t1, (q2, t2))) =
      let word = one_token _ _ b u u' s0 t0 in
      let place : p ≡ q = ap (λ (t : PlacedToken). t.place) word.0 in
      let name = one_token _ _ u v v' s1 (word.1 ∙ t1) in
      let name_place : k ≡ l = ap (λ (t : PlacedToken). t.place) name.0 in
      let bytes : x ≡ y = ap (λ (t : PlacedToken). t.bytes) name.0 in
      (cc, (one_token _ _ v m n s2 (name.1 ∙ t2)).1)
  one_stmt a c b m n i j g h = let same : stmt_class a ≡ stmt_class c = sym (stmt_first a b m g) ∙ stmt_first c b n h in absurd (omega arith)

  pub one_stmts : (l k : StmtsD) (b m n : Tokens) → EndsStmts m → EndsStmts n → SpellsStmts l b m → SpellsStmts k b n → (l ≡ k) × (m ≡ n)
  one_stmts no_stmts no_stmts b m n i j e f = (refl, sym e ∙ f)
  one_stmts no_stmts (stmt c more) b m n i j e (u, one, rest) = absurd (no_stmt_at c b u one (ap (λ l. begins_stmt (first_class l)) e ∙ i.no_stmt))
  one_stmts (stmt a more) no_stmts b m n i j (u, one, rest) f = absurd (no_stmt_at a b u one (ap (λ l. begins_stmt (first_class l)) f ∙ j.no_stmt))
  one_stmts (stmt a more) (stmt c most) b m n i j (u, one, rest) (v, other, rest') =
      let first = one_stmt a c b u v (stmts_no_else more u m rest i.no_else) (stmts_no_else most v n rest' j.no_else) one other in
      let others = one_stmts more most u m n i j rest (subst (λ r. SpellsStmts most r n) (sym first.1) rest') in
      (cc, others.1)

one_structure : (o r : Bool) → structure_word o ≡ structure_word r → o ≡ r
one_structure true true e = refl
one_structure false false e = refl
one_structure true false e = absurd (cc)
one_structure false true e = absurd (cc)

one_param : (x y : ParamD) → x.place ≡ y.place → x.name ≡ y.name → x ≡ y
one_param x y p q = λ i. record { place = p i; name = q i }

pub more_names_once : (ps qs : List ParamD) (b m n : Tokens) → Avoids is_comma m → Avoids is_comma n → SpellsMoreNames ps b m → SpellsMoreNames qs b n → (ps ≡ qs) × (m ≡ n)
more_names_once [] [] b m n i j e f = (refl, sym e ∙ f)
more_names_once [] (y ∷ qs) b m n i j e (u, (q, t), rest) = absurd (never_avoids is_comma _ m u (sym e ∙ t) refl i)
more_names_once (x ∷ ps) [] b m n i j (u, (p, s), rest) f = absurd (never_avoids is_comma _ n u (sym f ∙ s) refl j)
more_names_once (x ∷ ps) (y ∷ qs) b m n i j (u, (p, s), (v, s1, rest)) (u', (q, t), (v', t1, rest')) =
    let at_u : u ≡ u' = (one_token _ _ b u u' s t).1 in
    let name = one_token _ _ u v v' s1 (at_u ∙ t1) in
    let same : x ≡ y = one_param x y (ap (λ (t : PlacedToken). t.place) name.0) (ap (λ (t : PlacedToken). t.bytes) name.0) in
    let others = more_names_once ps qs v m n i j rest (subst (λ r. SpellsMoreNames qs r n) (sym name.1) rest') in
    (cc, others.1)

-- statements to the end don't begin with `parameter`
no_parameter : (l : StmtsD) (b u : Tokens) (p : ℕ) → SpellsStmts l b [] → TakesWord (codes "parameter") b u → ⊥
no_parameter no_stmts b u p e (q, s) = let none : [] ≡ record { kind = Word; bytes = codes "parameter"; place = q } ∷ u = sym e ∙ s in absurd (cc)
no_parameter (stmt a rest) b u p (v, one, more) (q, s) = no_stmt_at a b v one (ap (λ l. begins_stmt (first_class l)) s)

at_end : EndsStmts []
at_end = record { no_stmt = refl; no_else = tt }

body_once : (ps qs : List ParamD) (l k : StmtsD) (b m n : Tokens) → SpellsParameters ps b m → SpellsStmts l m [] → SpellsParameters qs b n → SpellsStmts k n [] → (ps ≡ qs) × (l ≡ k)
body_once [] [] l k b m n e one f other =
    let body = one_stmts l k b [] [] at_end at_end (subst (λ r. SpellsStmts l r []) (sym e) one) (subst (λ r. SpellsStmts k r []) (sym f) other) in
    (refl, body.0)
body_once [] (y ∷ qs) l k b m n e one (u, word, rest) other = absurd (no_parameter l b u 0 (subst (λ r. SpellsStmts l r []) (sym e) one) word)
body_once (x ∷ ps) [] l k b m n (u, word, rest) one f other = absurd (no_parameter k b u 0 (subst (λ r. SpellsStmts k r []) (sym f) other) word)
body_once (x ∷ ps) (y ∷ qs) l k b m n (u, (p, s), (v, s1, (w, more, (p3, s3)))) one (u', (q, t), (v', t1, (w', most, (q3, t3)))) other =
    let at_u : u ≡ u' = (one_token _ _ b u u' s t).1 in
    let name = one_token _ _ u v v' s1 (at_u ∙ t1) in
    let same : x ≡ y = one_param x y (ap (λ (t : PlacedToken). t.place) name.0) (ap (λ (t : PlacedToken). t.bytes) name.0) in
    let names = more_names_once ps qs v w w' (avoids is_comma _ w m s3 refl) (avoids is_comma _ w' n t3 refl) more (subst (λ r. SpellsMoreNames qs r w') (sym name.1) most) in
    let behind : m ≡ n = (one_token _ _ w m n s3 (names.1 ∙ t3)).1 in
    let body = one_stmts l k m [] [] at_end at_end one (subst (λ r. SpellsStmts k r []) (sym behind) other) in
    (cc, body.0)

pub one_script : OneScript
one_script b s t (u, (p, s0), (v, (p1, s1), (w, (p2, s2), (x, params, body)))) (u', (q, t0), (v', (q1, t1), (w', (q2, t2), (x', params', body')))) =
    let at_u : u ≡ u' = (one_token _ _ b u u' s0 t0).1 in
    let word = one_token _ _ u v v' s1 (at_u ∙ t1) in
    let structure : s.ordered ≡ t.ordered = one_structure s.ordered t.ordered (ap (λ (t : PlacedToken). t.bytes) word.0) in
    let at_w : w ≡ w' = (one_token _ _ v w w' s2 (word.1 ∙ t2)).1 in
    let rest = body_once s.parameters t.parameters s.body t.body w x x' params body (subst (λ r. SpellsParameters t.parameters r x') (sym at_w) params') body' in
    λ i. record { ordered = structure i; parameters = rest.0 i; body = rest.1 i }

pub one_script_of_text : OneScriptOfText
one_script_of_text text s t h k =
    let tokens : k.tokens ≡ h.tokens = one_list text k.tokens h.tokens k.cut h.cut in
    one_script (map (token_at_place text) h.tokens) s t h.script (subst (λ (ts : List Token). SpellsScript t (map (token_at_place text) ts)) tokens k.script)
