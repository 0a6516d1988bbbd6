-- Names of a script that some text spells, where they are printed: none is a word of the language.
use Rattle.std.proofs.Common.{◌≡◌, ℕ, zero, suc, inl, inr, Bool, true, false, List, [], ◌∷◌, ◌++◌, length, map, bytes_eq, sym, ◌∙◌, subst, arith}
use Rattle.std.specs.List.{All, AllByRecursion, Contains, IsDistinct}
use Rattle.std.proofs.lemmas.Bool.{leb-true}
use Rattle.std.proofs.lemmas.List.Elements.{All-nil, All-cons}
use Rattle.std.proofs.lemmas.Slice.Eq.{bytes_eq-Decides}
use Rattle.lois_lexer.specs.declared.TokenKind.TheVariants.{Name}
use Rattle.lois_script.specs.Limits.{Spells}
use Rattle.lois_script.specs.Scope.{IsWellScoped}
use Rattle.lois_script.specs.Tree.{ParamD, binding, StmtD, «let», assign, add, for, if, while, assert, print, StmtsD, no_stmts, stmt, ScriptD}
use Rattle.lois_script.proofs.Names.{word_is_name}
use Rattle.lois_script.proofs.Numbers.{IsToken}
use Rattle.lois_script.proofs.Printable.{NamesPrint, StmtPrints, StmtsPrint}
use Rattle.lois_answers.specs.Sound.{IsFreeName, AreDistinct, AreParameters}
use Rattle.lois_meaning.specs.Expressions.{HasTruth}
use Rattle.lois_meaning.specs.Runs.{Ending, BlockEnds, TurnsEnd, StmtEnds, ListEnds}
use Rattle.lois_meaning.specs.Store.{NamedValues}
use Rattle.lois_context.proofs.Later.{first_or_later}
use Rattle.lois_interp.specs.Interpreted.{parameter_name}
use Rattle.lois_interp.proofs.Opened.{parameters_distinct}
use Rattle.lois_interp.proofs.Spelled.{spelled_prints}

pub free_name : (bytes : List ℕ) → IsToken Name bytes → IsFreeName bytes
free_name bytes t = record { form = word_is_name bytes t.form.0 (leb-true (length bytes) 64 t.limits); free = t.form.1 }

-- ---- what is printed
abbrev pub AreFree : NamedValues → Type 0
AreFree [] = Unit {0}
AreFree (b ∷ s) = IsFreeName b.name × AreFree s

free_append : (s t : NamedValues) → AreFree s → AreFree t → AreFree (s ++ t)
free_append [] t h k = k
free_append (b ∷ s) t h k = (h.0, free_append s t h.1 k)

pub none_free : (lines : NamedValues) → lines ≡ [] → AreFree lines
none_free lines e = subst AreFree (sym e) tt

abbrev PrintsFree : Ending → Type 0
PrintsFree ends = (s t lines : NamedValues) → ends s t lines → AreFree lines

turns_free : (decides : NamedValues → Bool → Type 0) (body : Ending) (k : ℕ) → PrintsFree body → PrintsFree (TurnsEnd decides body k)
turns_free decides body zero free s t lines (same, none) = none_free lines none
turns_free decides body (suc k) free s t lines (u, first, rest, e, truth, one, turns) =
    subst AreFree (sym e) (free_append first rest (free s u first one) (turns_free decides body k free u t rest turns))

mutual
  stmt_free : (a : StmtD) (n : ℕ) → StmtPrints a n → PrintsFree (StmtEnds a)
  stmt_free («let» p x e) n h s t lines (v, gives, same, none) = none_free lines none
  stmt_free (assign p x e) n h s t lines (v, gives, same, none) = none_free lines none
  stmt_free (add e p x) n h s t lines (old, v, new, held, gives, with_it, shallow, same, none) = none_free lines none
  stmt_free (for (binding p x e) c body) n h s t lines (v, gives, set, decided, ends, gathered, none) = none_free lines none
  stmt_free ((if) c yes_block no_block) n h s t lines (inl (truth, (u, ends, same))) = list_free yes_block (suc n) h.2 s u lines ends
  stmt_free ((if) c yes_block no_block) n h s t lines (inr (truth, (u, ends, same))) = list_free no_block (suc n) h.3 s u lines ends
  stmt_free (while p c m body) n h s t lines (k, le, turns, truth) =
      turns_free (HasTruth c) (BlockEnds (ListEnds body)) k (λ a b ls (u, ends, same). list_free body (suc n) h.3 a u ls ends) s t lines turns
  stmt_free (assert p c) n h s t lines (truth, same, none) = none_free lines none
  stmt_free (print p q x) n h s t lines (v, w, held, is, same, printed) = subst AreFree (sym printed) (free_name x h, tt)

  list_free : (b : StmtsD) (n : ℕ) → StmtsPrint b n → PrintsFree (ListEnds b)
  list_free no_stmts n h s t lines (same, none) = none_free lines none
  list_free (stmt a rest) n h s t lines (u, first, later, e, one, others) =
      subst AreFree (sym e) (free_append first later (stmt_free a n h.0 s u first one) (list_free rest n h.1 u t later others))

pub script_free : (text : List ℕ) (s : ScriptD) → Spells text s → PrintsFree (ListEnds s.body)
script_free text s spelled = list_free s.body 0 (spelled_prints text s spelled).body

-- ---- parameters
parameters_free : (ps : List ParamD) → NamesPrint ps → All IsFreeName (map parameter_name ps)
parameters_free [] h = All-nil IsFreeName
parameters_free (p ∷ ps) h = All-cons IsFreeName p.name (map parameter_name ps) (free_name p.name h.0) (parameters_free ps h.1)

same_bytes : (x y : List ℕ) → y ≡ x → bytes_eq x y ≡ true
same_bytes x y is = (bytes_eq-Decides x y).1 (sym is)

not_itself : (x : List ℕ) (xs : List (List ℕ)) → AllByRecursion (λ y. bytes_eq x y ≡ false) xs → Contains xs x → ⊥
not_itself x [] h there = omega (arith, there.1)
not_itself x (y ∷ xs) h there = elim (first_or_later y xs x there) [
  | inl is ↦ let bad : true ≡ false = sym (same_bytes x y is) ∙ h.0 in absurd (cc)
  | inr later ↦ not_itself x xs h.1 later
]

are_distinct : (xs : List (List ℕ)) → IsDistinct bytes_eq xs → AreDistinct xs
unfolding IsDistinct
are_distinct [] h = tt
are_distinct (x ∷ xs) h = (not_itself x xs h.0, are_distinct xs h.1)

pub are_parameters : (text : List ℕ) (s : ScriptD) → Spells text s → IsWellScoped s → AreParameters (map parameter_name s.parameters)
are_parameters text s spelled scoped = record {
  free = parameters_free s.parameters (spelled_prints text s spelled).parameters;
  distinct = are_distinct (map parameter_name s.parameters) (parameters_distinct s scoped);
}
