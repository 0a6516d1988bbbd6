-- A run keeps the names of its store, first and in order.
use Rattle.std.proofs.Common.{◌≡◌, ℕ, zero, suc, List, [], ◌∷◌, ◌++◌, length, take, map, refl, sym, ap, ◌∙◌, append_assoc, append-nil}
use mathlib.Core.Logic.{inl, inr}
use Rattle.lois_base.specs.Values.{PointValue}
use Rattle.lois_meaning.specs.Expressions.{HasTruth}
use Rattle.lois_meaning.specs.Laws.{KeepsNames}
use Rattle.lois_meaning.specs.Runs.{Ending, BlockEnds, TurnsEnd, AreGathered, StmtEnds, ListEnds}
use Rattle.lois_meaning.specs.Store.{NamedValues, stored, AreSameNamed}
use Rattle.lois_meaning.specs.ProperStores.{name_of}
use Rattle.lois_script.specs.Tree.{binding, CondD, StmtD, «let», assign, add, for, if, while, assert, print, StmtsD, no_stmts, stmt}
use Rattle.lois_meaning.proofs.Stores.{stored_names}

abbrev names : NamedValues → List (List ℕ)
names s = map name_of s

-- the names of s are the first ones of t
abbrev Extends : NamedValues → NamedValues → Type 0
Extends s t = (made : List (List ℕ)) × (names t ≡ names s ++ made)

abbrev Keeps : Ending → Type 0
Keeps ends = (s t lines : NamedValues) → ends s t lines → Extends s t

same_names : (s t : NamedValues) → AreSameNamed s t → names s ≡ names t
same_names [] [] h = refl
same_names (b ∷ s) (e ∷ t) h = cc (h.0, same_names s t h.2)
same_names _ _ h = absurd h

unchanged : (s t : NamedValues) → AreSameNamed t s → Extends s t
unchanged s t h = ([], same_names t s h ∙ sym (append-nil (names s)))

onward : (s t u : NamedValues) → Extends s t → Extends t u → Extends s u
onward s t u (x, e) (y, f) = (x ++ y, f ∙ (ap (λ z. z ++ y) e ∙ append_assoc (names s) x y))

stored_keeps : (x : List ℕ) (v : PointValue) (s t : NamedValues) → AreSameNamed t (stored x v s) → Extends s t
stored_keeps x v s t h = onward s (stored x v s) t (stored_names x v s) (unchanged (stored x v s) t h)

gathered_keeps : (end : NamedValues → Type 0) (s t : NamedValues) → AreGathered t s end → names t ≡ names s
gathered_keeps end [] [] h = refl
gathered_keeps end (b ∷ s) (e ∷ t) h = cc (h.0, gathered_keeps end s t h.2)
gathered_keeps end _ _ h = absurd h

first_names : (s u : NamedValues) (made : List (List ℕ)) → names u ≡ names s ++ made → names (take (length s) u) ≡ names s
first_names [] u made e = refl
first_names (b ∷ s) [] made e = absurd (cc)
first_names (b ∷ s) (f ∷ u) made e = cc (first_names s u made (cc))

block_keeps : (ends : Ending) → Keeps ends → Keeps (BlockEnds ends)
block_keeps ends keeps s t lines (u, e, h) =
    let k : Extends s u = keeps s u lines e in
    ([], same_names t (take (length s) u) h ∙ (first_names s u k.0 k.1 ∙ sym (append-nil (names s))))

turns_keep : (c : CondD) (body : Ending) (n : ℕ) → Keeps body → Keeps (TurnsEnd (HasTruth c) body n)
turns_keep c body zero keeps s t lines (h, e) = unchanged s t h
turns_keep c body (suc n) keeps s t lines (u, first, more, e, y, b, rest) =
    onward s u t (keeps s u first b) (turns_keep c body n keeps u t more rest)

mutual
  stmt_keeps : (a : StmtD) → Keeps (StmtEnds a)
  stmt_keeps («let» p x e) s t lines (v, g, h, n) = stored_keeps x v s t h
  stmt_keeps (assign p x e) s t lines (v, g, h, n) = stored_keeps x v s t h
  stmt_keeps (add e p x) s t lines (old, v, new, here, g, added, fine, h, n) = stored_keeps x new s t h
  stmt_keeps (for (binding p x e) c body) s t lines (v, g, set, decided, ends, gathered, n) =
      ([], gathered_keeps _ s t gathered ∙ sym (append-nil (names s)))
  stmt_keeps (if c a b) s t lines (inl (y, e)) = block_keeps (ListEnds a) (list_keeps a) s t lines e
  stmt_keeps (if c a b) s t lines (inr (y, e)) = block_keeps (ListEnds b) (list_keeps b) s t lines e
  stmt_keeps (while p c n body) s t lines (k, le, turns, last) =
      turns_keep c (BlockEnds (ListEnds body)) k (block_keeps (ListEnds body) (list_keeps body)) s t lines turns
  stmt_keeps (assert p c) s t lines (y, h, n) = unchanged s t h
  stmt_keeps (print p q x) s t lines (v, w, here, k, h, n) = unchanged s t h

  list_keeps : (b : StmtsD) → Keeps (ListEnds b)
  list_keeps no_stmts s t lines (h, n) = unchanged s t h
  list_keeps (stmt a rest) s t lines (u, first, more, n, e, r) = onward s u t (stmt_keeps a s u first e) (list_keeps rest u t more r)

pub keeps_names : KeepsNames
keeps_names = list_keeps
