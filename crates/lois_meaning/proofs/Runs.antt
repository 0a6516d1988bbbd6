-- What a run ends with is determined; stores that are the same fail alike; no run both ends and fails.
use Rattle.std.proofs.Common.{◌≡◌, ℕ, zero, suc, ◌<◌, true, false, true≢false, [], ◌∷◌, ◌++◌, length, take, ◌⊎◌, refl, sym, ◌∙◌, subst, Some, arith}
use mathlib.Core.Logic.{inl, inr}
use Rattle.lois_base.specs.Values.{PointValue, IsMember, IsSame}
use Rattle.lois_base.proofs.Members.{same_refl, same_sym, same_trans, same_included, deeper_same}
use Rattle.lois_meaning.specs.Expressions.{HasTruth}
use Rattle.lois_meaning.specs.Faults.{IsNoSet}
use Rattle.lois_meaning.specs.Kinds.{IsSet}
use Rattle.lois_meaning.specs.Runs.{Ending, BlockEnds, TurnsEnd, StmtEnds, ListEnds, StmtFails, ListFails}
use Rattle.lois_meaning.specs.Store.{named, NamedValues, looked_up, stored, AreSameNamed, depth_limit}
use Rattle.lois_script.specs.Tree.{binding, CondD, StmtD, «let», assign, add, for, if, while, assert, print, StmtsD, no_stmts, stmt}
use Rattle.lois_answers.specs.declared.faults.FaultKind.{FaultKind}
use Rattle.lois_meaning.proofs.Alike.{is_set_same}
use Rattle.lois_meaning.proofs.Determined.{given_same, truth_same}
use Rattle.lois_meaning.proofs.Ends.{From, block_from, turns_from, stmt_from, list_from}
use Rattle.lois_meaning.proofs.Failures.{cond_fails_move, fails_move, operand_move}
use Rattle.lois_meaning.proofs.Gathered.{set_with_move, set_with_same, all_gathered_move, all_gathered_same}
use Rattle.lois_meaning.proofs.Moves.{truth_from, gives_from}
use Rattle.lois_meaning.proofs.NotBoth.{gives_fails, truth_fails, operand_set}
use Rattle.lois_meaning.proofs.Stores.{named_refl, named_sym, named_trans, looked_up_same, stored_in, stored_other, take_same, append_same, some_same}

no_lines : (l m : NamedValues) → l ≡ [] → m ≡ [] → AreSameNamed l m
no_lines l m e f = subst (λ x. AreSameNamed x m) (sym e) (subst (λ x. AreSameNamed [] x) (sym f) tt)

join_lines : (l m a b c d : NamedValues) → l ≡ a ++ c → m ≡ b ++ d → AreSameNamed a b → AreSameNamed c d → AreSameNamed l m
join_lines l m a b c d e f h k = subst (λ x. AreSameNamed x m) (sym e) (subst (λ x. AreSameNamed (a ++ c) x) (sym f) (append_same a b c d h k))

-- both are the same as stores that are the same
joined : (t s s' u : NamedValues) → AreSameNamed t s → AreSameNamed s s' → AreSameNamed u s' → AreSameNamed t u
joined t s s' u h m k = named_trans t s u h (named_trans s s' u m (named_sym u s' k))

-- a relation of runs that has one end for each start, up to `IsSame`
abbrev One : Ending → Type 0
One ends = (s t u l m : NamedValues) → ends s t l → ends s u m → AreSameNamed t u × AreSameNamed l m

block_same : (ends : Ending) → One ends → One (BlockEnds ends)
block_same ends one s t u l m (x, e, h) (y, f, k) =
    let both : AreSameNamed x y × AreSameNamed l m = one s x y l m e f in
    (joined t (take (length s) x) (take (length s) y) u h (take_same (length s) x y both.0) k, both.1)

not_both : (c : CondD) (s t : NamedValues) → AreSameNamed s t → HasTruth c s true → HasTruth c t false → ⊥
not_both c s t h y n = true≢false (truth_same c t true false (truth_from c s t true h y) n)

turns_same : (c : CondD) (body : Ending) → From body → One body → (i j : ℕ) (s t u l m : NamedValues) → TurnsEnd (HasTruth c) body i s t l → TurnsEnd (HasTruth c) body j s u m → HasTruth c t false → HasTruth c u false → AreSameNamed t u × AreSameNamed l m
turns_same c body from one zero zero s t u l m (h, e) (k, f) p q = (joined t s s u h (named_refl s) k, no_lines l m e f)
turns_same c body from one zero (suc j) s t u l m (h, e) (y, b, d, f, z, k, w) p q = absurd (not_both c s t (named_sym t s h) z p)
turns_same c body from one (suc i) zero s t u l m (x, a, b, e, y, h, r) (k, f) p q = absurd (not_both c s u (named_sym u s k) y q)
turns_same c body from one (suc i) (suc j) s t u l m (x, a, b, e, y, h, r) (x', a', b', e', y', h', r') p q =
    let first : AreSameNamed x x' × AreSameNamed a a' = one s x x' a a' h h' in
    let rest : AreSameNamed t u × AreSameNamed b b' = turns_same c body from one i j x' t u b b' (turns_from c body i from x x' t b first.0 r) r' p q in
    (rest.0, join_lines l m a a' b b' e e' first.1 rest.1)

mutual
  pub stmt_same : (a : StmtD) → One (StmtEnds a)
  stmt_same («let» p x e) s t u l m (v, g, h, n) (w, k, j, o) =
      (joined t (stored x v s) (stored x w s) u h (stored_other x v w s (given_same e s v w g k)) j, no_lines l m n o)
  stmt_same (assign p x e) s t u l m (v, g, h, n) (w, k, j, o) =
      (joined t (stored x v s) (stored x w s) u h (stored_other x v w s (given_same e s v w g k)) j, no_lines l m n o)
  stmt_same (add e p x) s t u l m (old, v, new, here, g, added, fine, h, n) (old', v', new', here', g', added', fine', j, o) =
      let one : old ≡ old' = some_same old old' (sym here ∙ here') in
      let both : IsSame new new' = set_with_same new old v new' old' v' (subst (λ z. IsSame old z) one (same_refl old)) (given_same e s v v' g g') added added' in
      (joined t (stored x new s) (stored x new' s) u h (stored_other x new new' s both) j, no_lines l m n o)
  stmt_same (for (binding p x e) c body) s t u l m (v, g, set, decided, ends, gathered, n) (w, k, set', decided', ends', gathered', o) =
      let one = given_same e s v w g k in (
        all_gathered_same _ s t u gathered
            (all_gathered_move _ _ s s u (named_refl s)
            (λ r q. let found : (y : PointValue) × IsMember y v × IsSame q.0 y = same_included w v (same_sym v w one) q.0 q.2 in
            let moved = stored_other x q.0 found.0 s found.2 in
            (found.0, q.1, found.1, truth_from c (stored x q.0 s) (stored x found.0 s) true moved q.3, list_from body (stored x q.0 s) (stored x found.0 s) r q.1 moved q.4))
            (λ r q. let found : (y : PointValue) × IsMember y w × IsSame q.0 y = same_included v w one q.0 q.2 in
            let moved = stored_other x q.0 found.0 s found.2 in
            (found.0, q.1, found.1, truth_from c (stored x q.0 s) (stored x found.0 s) true moved q.3, list_from body (stored x q.0 s) (stored x found.0 s) r q.1 moved q.4))
            gathered'),
        no_lines l m n o,
      )
  stmt_same (if c a b) s t u l m (inl (y, h)) (inl (z, k)) = block_same (ListEnds a) (list_same a) s t u l m h k
  stmt_same (if c a b) s t u l m (inl (y, h)) (inr (z, k)) = absurd (not_both c s s (named_refl s) y z)
  stmt_same (if c a b) s t u l m (inr (y, h)) (inl (z, k)) = absurd (not_both c s s (named_refl s) z y)
  stmt_same (if c a b) s t u l m (inr (y, h)) (inr (z, k)) = block_same (ListEnds b) (list_same b) s t u l m h k
  stmt_same (while p c n body) s t u l m (i, le, turns, last) (j, le', turns', last') =
      turns_same c (BlockEnds (ListEnds body)) (block_from (ListEnds body) (list_from body)) (block_same (ListEnds body) (list_same body)) i j s t u l m turns turns' last last'
  stmt_same (assert p c) s t u l m (y, h, n) (z, k, o) = (joined t s s u h (named_refl s) k, no_lines l m n o)
  stmt_same (print p q x) s t u l m (v, w, here, k, e, n) (v', w', here', k', e', o) =
      let one : v ≡ v' = some_same v v' (sym here ∙ here') in (
        joined t s s u e (named_refl s) e',
        subst (λ z. AreSameNamed z m) (sym n) (subst (λ z. AreSameNamed (named x w ∷ []) z) (sym o) (refl, same_trans w v w' k (same_trans v v' w' (subst (λ z. IsSame v z) one (same_refl v)) (same_sym w' v' k')), tt)),
      )

  pub list_same : (b : StmtsD) → One (ListEnds b)
  list_same no_stmts s t u l m (h, n) (k, o) = (joined t s s u h (named_refl s) k, no_lines l m n o)
  list_same (stmt a rest) s t u l m (x, f, g, n, e, r) (x', f', g', n', e', r') =
      let first : AreSameNamed x x' × AreSameNamed f f' = stmt_same a s x x' f f' e e' in
      let more : AreSameNamed t u × AreSameNamed g g' = list_same rest x' t u g g' (list_from rest x x' t g first.0 r) r' in
      (more.0, join_lines l m f f' g g' n n' first.1 more.1)

-- where the turns end, each store that fewer turns reach is one from which a further turn ends
turns_reach : (c : CondD) (body : Ending) → From body → One body → (i j : ℕ) (s t u l m : NamedValues) → TurnsEnd (HasTruth c) body i s t l → TurnsEnd (HasTruth c) body j s u m → HasTruth c t false →
    ((j < i) × HasTruth c u true × (r k : NamedValues) × body u r k) ⊎ AreSameNamed t u
turns_reach c body from one zero zero s t u l m (h, e) (k, f) p = inr (joined t s s u h (named_refl s) k)
turns_reach c body from one zero (suc j) s t u l m (h, e) (y, b, d, f, z, k, w) p = absurd (not_both c s t (named_sym t s h) z p)
turns_reach c body from one (suc i) zero s t u l m (x, a, b, e, y, h, r) (k, f) p =
    inl (omega arith, truth_from c s u true (named_sym u s k) y, x, a, from s u x a (named_sym u s k) h)
turns_reach c body from one (suc i) (suc j) s t u l m (x, a, b, e, y, h, r) (x', a', b', e', y', h', r') p =
    let first : AreSameNamed x x' × AreSameNamed a a' = one s x x' a a' h h' in
    elim (turns_reach c body from one i j x' t u b b' (turns_from c body i from x x' t b first.0 r) r' p)
    [ inl q ↦ inl (omega (arith, q.0), q.1, q.2, q.3, q.4) | inr q ↦ inr q ]

mutual
  pub stmt_fails : (a : StmtD) (s t l : NamedValues) (at : ℕ) (k : FaultKind) (path : NamedValues) → StmtEnds a s t l → StmtFails a s at k path → ⊥
  stmt_fails («let» p x e) s t l at k path (v, g, h, n) bad = gives_fails e s v at k g bad.0
  stmt_fails (assign p x e) s t l at k path (v, g, h, n) bad = gives_fails e s v at k g bad.0
  stmt_fails (add e p x) s t l at k path (old, v, new, here, g, added, fine, h, n) (z, inl bad) = gives_fails e s v at k g bad
  stmt_fails (add e p x) s t l at k path (old, v, new, here, g, added, fine, h, n) (z, inr (inl (q, old', v', here', g', bad))) =
      bad.1 (subst IsSet (some_same old old' (sym here ∙ here')) added.0)
  stmt_fails (add e p x) s t l at k path (old, v, new, here, g, added, fine, h, n) (z, inr (inr (q, y, old', v', new', here', g', added', deep))) =
      let one : old ≡ old' = some_same old old' (sym here ∙ here') in
      let both : IsSame new new' = set_with_same new old v new' old' v' (subst (λ z. IsSame old z) one (same_refl old)) (given_same e s v v' g g') added added' in
      fine (deeper_same new' new depth_limit (same_sym new new' both) deep)
  stmt_fails (for (binding p x e) c body) s t l at k path (v, g, set, decided, ends, gathered, n) (inl bad) = gives_fails e s v at k g bad.0
  stmt_fails (for (binding p x e) c body) s t l at k path (v, g, set, decided, ends, gathered, n) (inr (inl bad)) = operand_set e s v at k g set bad.0
  stmt_fails (for (binding p x e) c body) s t l at k path (v, g, set, decided, ends, gathered, n) (inr (inr (inl (w, m, h, is, bad, z)))) =
      let found : (y : PointValue) × IsMember y v × IsSame m y = same_included w v (given_same e s w v h g) m is in
      truth_fails c (stored x found.0 s) (decided found.0 found.1).0 at k (decided found.0 found.1).1 (cond_fails_move c (stored x m s) (stored x found.0 s) at k (stored_other x m found.0 s found.2) bad)
  stmt_fails (for (binding p x e) c body) s t l at k path (v, g, set, decided, ends, gathered, n) (inr (inr (inr (w, m, inner, h, is, y, bad, z)))) =
      let found : (y : PointValue) × IsMember y v × IsSame m y = same_included w v (given_same e s w v h g) m is in
      let moved = stored_other x m found.0 s found.2 in
      let end : (u ls : NamedValues) × ListEnds body (stored x found.0 s) u ls = ends found.0 found.1 (truth_from c (stored x m s) (stored x found.0 s) true moved y) in
      list_fails body (stored x m s) end.0 end.1 at k inner (list_from body (stored x found.0 s) (stored x m s) end.0 end.1 (named_sym (stored x m s) (stored x found.0 s) moved) end.2) bad
  stmt_fails (if c a b) s t l at k path (inl (y, h)) (inl bad) = truth_fails c s true at k y bad.0
  stmt_fails (if c a b) s t l at k path (inl (y, (u, e, h))) (inr (inl (z, bad))) = list_fails a s u l at k path e bad
  stmt_fails (if c a b) s t l at k path (inl (y, h)) (inr (inr (z, bad))) = not_both c s s (named_refl s) y z
  stmt_fails (if c a b) s t l at k path (inr (y, h)) (inl bad) = truth_fails c s false at k y bad.0
  stmt_fails (if c a b) s t l at k path (inr (y, h)) (inr (inl (z, bad))) = not_both c s s (named_refl s) z y
  stmt_fails (if c a b) s t l at k path (inr (y, (u, e, h))) (inr (inr (z, bad))) = list_fails b s u l at k path e bad
  stmt_fails (while p c n body) s t l at k path (i, le, turns, last) (j, u, m, le', turns', bad) =
      elim (turns_reach c (BlockEnds (ListEnds body)) (block_from (ListEnds body) (list_from body)) (block_same (ListEnds body) (list_same body)) i j s t u l m turns turns' last) [
        | inl q ↦ elim bad [
          | inl b ↦ truth_fails c u true at k q.1 b.0
          | inr b ↦ elim b [
            | inl b ↦ list_fails body u q.4.0 q.3 at k path q.4.1 b.2
            | inr b ↦ omega (arith, q.0, b.0, le)
          ]
        ]
        | inr q ↦ elim bad [
          | inl b ↦ truth_fails c u false at k (truth_from c t u false q last) b.0
          | inr b ↦ elim b [
            | inl b ↦ not_both c u t (named_sym t u q) b.1 last
            | inr b ↦ not_both c u t (named_sym t u q) b.1 last
          ]
        ]
      ]
  stmt_fails (assert p c) s t l at k path (y, h, n) (inl bad) = truth_fails c s true at k y bad.0
  stmt_fails (assert p c) s t l at k path (y, h, n) (inr (z, q, r, w)) = not_both c s s (named_refl s) y z
  stmt_fails (print p q x) s t l at k path e bad = absurd bad

  pub list_fails : (b : StmtsD) (s t l : NamedValues) (at : ℕ) (k : FaultKind) (path : NamedValues) → ListEnds b s t l → ListFails b s at k path → ⊥
  list_fails no_stmts s t l at k path e bad = absurd bad
  list_fails (stmt a rest) s t l at k path (u, f, g, n, e, r) (inl bad) = stmt_fails a s u f at k path e bad
  list_fails (stmt a rest) s t l at k path (u, f, g, n, e, r) (inr (x, m, e', bad)) =
      let one : AreSameNamed u x × AreSameNamed f m = stmt_same a s u x f m e e' in
      list_fails rest x t g at k path (list_from rest u x t g one.0 r) bad

mutual
  pub stmt_fails_move : (a : StmtD) (s r : NamedValues) (at : ℕ) (k : FaultKind) (path : NamedValues) → AreSameNamed s r → StmtFails a s at k path → StmtFails a r at k path
  stmt_fails_move («let» p x e) s r at k path h b = (fails_move e s r at k h b.0, b.1)
  stmt_fails_move (assign p x e) s r at k path h b = (fails_move e s r at k h b.0, b.1)
  stmt_fails_move (add e p x) s r at k path h (z, inl b) = (z, inl (fails_move e s r at k h b))
  stmt_fails_move (add e p x) s r at k path h (z, inr (inl (q, old, v, here, g, (y, never)))) =
      let found : (w : PointValue) × (looked_up x r ≡ Some w) × IsSame old w = looked_up_same x s r old h here in
      (z, inr (inl (q, found.0, v, found.1, gives_from e s r v h g, (y, λ set. never (is_set_same found.0 old (same_sym old found.0 found.2) set)))))
  stmt_fails_move (add e p x) s r at k path h (z, inr (inr (q, y, old, v, new, here, g, added, deep))) =
      let found : (w : PointValue) × (looked_up x r ≡ Some w) × IsSame old w = looked_up_same x s r old h here in
      (z, inr (inr (q, y, found.0, v, new, found.1, gives_from e s r v h g, set_with_move new old v found.0 v found.2 (same_refl v) added, deep)))
  stmt_fails_move (for (binding p x e) c body) s r at k path h (inl b) = inl (fails_move e s r at k h b.0, b.1)
  stmt_fails_move (for (binding p x e) c body) s r at k path h (inr (inl b)) = inr (inl (operand_move IsNoSet e s r at k h b.0, b.1))
  stmt_fails_move (for (binding p x e) c body) s r at k path h (inr (inr (inl (v, m, g, is, b, z)))) =
      inr (inr (inl (v, m, gives_from e s r v h g, is, cond_fails_move c (stored x m s) (stored x m r) at k (stored_in x m s r h) b, z)))
  stmt_fails_move (for (binding p x e) c body) s r at k path h (inr (inr (inr (v, m, inner, g, is, y, b, z)))) =
      let moved = stored_in x m s r h in
      inr (inr (inr (v, m, inner, gives_from e s r v h g, is, truth_from c (stored x m s) (stored x m r) true moved y, list_fails_move body (stored x m s) (stored x m r) at k inner moved b, z)))
  stmt_fails_move (if c a b) s r at k path h (inl q) = inl (cond_fails_move c s r at k h q.0, q.1)
  stmt_fails_move (if c a b) s r at k path h (inr (inl (y, q))) = inr (inl (truth_from c s r true h y, list_fails_move a s r at k path h q))
  stmt_fails_move (if c a b) s r at k path h (inr (inr (y, q))) = inr (inr (truth_from c s r false h y, list_fails_move b s r at k path h q))
  stmt_fails_move (while p c n body) s r at k path h (i, t, ls, le, turns, rest) =
      (i, t, ls, le, turns_from c (BlockEnds (ListEnds body)) i (block_from (ListEnds body) (list_from body)) s r t ls h turns, rest)
  stmt_fails_move (assert p c) s r at k path h (inl q) = inl (cond_fails_move c s r at k h q.0, q.1)
  stmt_fails_move (assert p c) s r at k path h (inr (y, q, z, w)) = inr (truth_from c s r false h y, q, z, w)
  stmt_fails_move (print p q x) s r at k path h b = b

  pub list_fails_move : (l : StmtsD) (s r : NamedValues) (at : ℕ) (k : FaultKind) (path : NamedValues) → AreSameNamed s r → ListFails l s at k path → ListFails l r at k path
  list_fails_move no_stmts s r at k path h b = b
  list_fails_move (stmt a rest) s r at k path h (inl b) = inl (stmt_fails_move a s r at k path h b)
  list_fails_move (stmt a rest) s r at k path h (inr (u, ls, e, b)) = inr (u, ls, stmt_from a s r u ls h e, b)
