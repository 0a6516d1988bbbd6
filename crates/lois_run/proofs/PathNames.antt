-- The names of a path are those of loops of the script, and none is a word of the language.
use Rattle.std.proofs.Common.{ℕ, suc, inl, inr, List, [], ◌∷◌, sym, subst}
use Rattle.std.specs.List.{All}
use Rattle.std.proofs.lemmas.List.Elements.{All-nil, All-cons}
use Rattle.lois_base.specs.Atom.{Atom}
use Rattle.lois_script.specs.Limits.{Spells}
use Rattle.lois_script.specs.Tree.{binding, StmtD, «let», assign, add, for, if, while, assert, print, StmtsD, no_stmts, stmt, ScriptD}
use Rattle.lois_script.proofs.Printable.{StmtPrints, StmtsPrint}
use Rattle.lois_answers.specs.ResultsData.{LineD}
use Rattle.lois_answers.specs.Sound.{IsFreeName}
use Rattle.lois_answers.specs.declared.faults.FaultKind.{FaultKind}
use Rattle.lois_meaning.specs.Runs.{StmtFails, ListFails, ScriptFails}
use Rattle.lois_meaning.specs.Store.{NamedValues, AreSameNamed}
use Rattle.lois_context.specs.LineValues.{line_values}
use Rattle.lois_interp.proofs.FreeNames.{AreFree, free_name, none_free}
use Rattle.lois_interp.proofs.Spelled.{spelled_prints}

mutual
  stmt_free : (a : StmtD) (n : ℕ) → StmtPrints a n → (s : NamedValues) (at : ℕ) (k : FaultKind) (path : NamedValues) → StmtFails a s at k path → AreFree path
  stmt_free («let» p x e) n h s at k path (fails, none) = none_free path none
  stmt_free (assign p x e) n h s at k path (fails, none) = none_free path none
  stmt_free (add e p x) n h s at k path (none, fails) = none_free path none
  stmt_free (for (binding p x e) c body) n h s at k path (inl (fails, none)) = none_free path none
  stmt_free (for (binding p x e) c body) n h s at k path (inr (inl (fails, none))) = none_free path none
  stmt_free (for (binding p x e) c body) n h s at k path (inr (inr (inl (v, m, gives, member, fails, is)))) = subst AreFree (sym is) (free_name x h.0.0, tt)
  stmt_free (for (binding p x e) c body) n h s at k path (inr (inr (inr (v, m, inner, gives, member, truth, fails, is)))) =
      subst AreFree (sym is) (free_name x h.0.0, list_free body (suc n) h.3 _ at k inner fails)
  stmt_free ((if) c yes_block no_block) n h s at k path (inl (fails, none)) = none_free path none
  stmt_free ((if) c yes_block no_block) n h s at k path (inr (inl (truth, fails))) = list_free yes_block (suc n) h.2 s at k path fails
  stmt_free ((if) c yes_block no_block) n h s at k path (inr (inr (truth, fails))) = list_free no_block (suc n) h.3 s at k path fails
  stmt_free (while p c m body) n h s at k path (i, t, ls, le, turns, inl (fails, none)) = none_free path none
  stmt_free (while p c m body) n h s at k path (i, t, ls, le, turns, inr (inl (lt, truth, fails))) = list_free body (suc n) h.3 t at k path fails
  stmt_free (while p c m body) n h s at k path (i, t, ls, le, turns, inr (inr (last, truth, here, kind, none))) = none_free path none
  stmt_free (assert p c) n h s at k path (inl (fails, none)) = none_free path none
  stmt_free (assert p c) n h s at k path (inr (truth, here, kind, none)) = none_free path none
  stmt_free (print p q x) n h s at k path fails = absurd fails

  list_free : (b : StmtsD) (n : ℕ) → StmtsPrint b n → (s : NamedValues) (at : ℕ) (k : FaultKind) (path : NamedValues) → ListFails b s at k path → AreFree path
  list_free no_stmts n h s at k path fails = absurd fails
  list_free (stmt a rest) n h s at k path (inl fails) = stmt_free a n h.0 s at k path fails
  list_free (stmt a rest) n h s at k path (inr (u, ls, ends, fails)) = list_free rest n h.1 u at k path fails

pub path_free : (text : List ℕ) (s : ScriptD) → Spells text s → (choice : List Atom) (at : ℕ) (k : FaultKind) (path : NamedValues) → ScriptFails s choice at k path → AreFree path
path_free text s spelled choice at k path fails = list_free s.body 0 (spelled_prints text s spelled).body _ at k path fails

-- elements that a path names have its names
pub named_free : (c : List Atom) (path : NamedValues) (ls : List LineD) → AreSameNamed path (line_values c ls) → AreFree path → All (λ l. IsFreeName l.name) ls
named_free c [] [] same h = All-nil (λ l. IsFreeName l.name)
named_free c [] (l ∷ ls) same h = absurd same
named_free c (b ∷ path) [] same h = absurd same
named_free c (b ∷ path) (l ∷ ls) same h = All-cons (λ l. IsFreeName l.name) l ls (subst IsFreeName same.0 h.0) (named_free c path ls same.2 h.1)
