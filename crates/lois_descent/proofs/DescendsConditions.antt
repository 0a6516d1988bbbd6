-- What the descent reads as a condition is one, and it stops where the machine does; and so for all expressions and
-- conditions, however many brackets may be open.
use Rattle.std.proofs.Common.{◌≡◌, ℕ, zero, suc, ◌+◌, ◌<◌, inl, inr, ⊎_elim, Bool, true, false, List, [], ◌∷◌, ◌++◌, drop, Option, Some, None, refl, subst, arith, drop-drop}
use Rattle.std.specs.Prelude.{Result, Ok, if◌then◌else◌, codes, IsTrue}
use Rattle.lois_script.specs.Grammar.{Spelling, ◌▹◌, TakesSymbol, Enclosed, AreMany, is_base, is_unit, is_conjunction, SpellsBinding, SpellsCond, SpellsMoreUnits, SpellsMoreConjunctions}
use Rattle.lois_script.specs.Limits.{BindingIsNarrow, CondIsNarrow, CondsAreNarrow}
use Rattle.lois_script.specs.Tree.{ExprD, BindingD, CondD, truth, falsity, all, any}
use Rattle.lois_script.specs.View.{conds_of}
use Rattle.lois_descent.specs.declared.parse_error.ParseError.{ParseError}
use Rattle.lois_descent.specs.declared.lexemes.BaseForm.{BaseForm}
use Rattle.lois_descent.specs.declared.lexemes.BaseForm.TheVariants as bases
use Rattle.lois_descent.specs.declared.lexemes.Connective.{Connective}
use Rattle.lois_descent.specs.declared.lexemes.Connective.TheVariants as joints
use Rattle.lois_descent.specs.declared.lexemes.Keyword.{Keyword}
use Rattle.lois_descent.specs.declared.lexemes.Keyword.TheVariants as words
use Rattle.lois_descent.specs.declared.lexemes.Lexeme.{Lexeme}
use Rattle.lois_descent.specs.declared.lexemes.Lexeme.TheVariants.{Word, Symbol}
use Rattle.lois_descent.specs.declared.lexemes.Relation.{Relation}
use Rattle.lois_descent.specs.declared.lexemes.Relation.TheVariants as relations
use Rattle.lois_descent.specs.declared.lexemes.Punctuator.TheVariants as punctuators
use Rattle.lois_descent.specs.declared.lexemes.Terminal.TheVariants as terminals
use Rattle.lois_descent.specs.declared.lexemes.UnitForm.{UnitForm}
use Rattle.lois_descent.specs.declared.lexemes.UnitForm.TheVariants as units
use Rattle.lois_descent.specs.Descent as descent
use Rattle.lois_descent.specs.Descent.{Tokens, Read, ◌>>=◌, expr_of, cond_of}
use Rattle.lois_descent.specs.Lexemes.{relation_of, base_form, unit_form, connective}
use Rattle.lois_descent.specs.Machine.{ItemEnd, token, one, Item, terminal, expression, arguments, condition, more_condition, unit, base, item_start, in_set, State, push}
use Rattle.lois_descent.specs.Steps.{lexeme_at, place_at}
use Rattle.lois_descent.proofs.Descends.{Comes, done, alike, and_then, led, told, taken, behind_word, passing, closing, entering, entering_call, relation_reads, separated_reads}
use Rattle.lois_descent.proofs.DescendsExpressions.{ReadsExpr, ReadsCond, AnExpr, ACond, binding_reads, test_reads, expression_reads}
use Rattle.lois_descent.proofs.OneExpression.{base_is_unit}
use Rattle.lois_descent.proofs.TokenForms.{base_is, unit_is, word_at, sign_at, word_moves}
use Rattle.lois_descent.proofs.TokenSteps.{same_alone, same_behind}

-- ---- what is read

-- a condition as the form that c has, from token number `at` on
abbrev pub AForm : (CondD → Bool) → Tokens → ℕ → CondD → ℕ → Type 0
AForm has_form ts at c end = (at < end) × Enclosed (has_form c) (SpellsCond c) (drop at ts) (drop end ts) × CondIsNarrow c

-- what gives such a condition, where the item x has to come
abbrev pub GivesForm : (CondD → Bool) → Item → Tokens → ℕ → ℕ → Result (CondD × Tokens) ParseError → Type 0
GivesForm has_form x ts n at read = Comes ts at n (λ s. push (x ∷ []) s) n (λ c s. s) (AForm has_form ts at) read

abbrev pub ReadsForm : (CondD → Bool) → Item → Tokens → ℕ → Read CondD → Type 0
ReadsForm has_form x ts n read = (at : ℕ) → GivesForm has_form x ts n at (read (drop at ts))

-- what needs brackets as a wider form needs them as a narrower one
enclosed : (b d : Bool) (P : Spelling) (x y : Tokens) → (IsTrue b → IsTrue d) → Enclosed b P x y → Enclosed d P x y
enclosed b d P x y wider (n, form, spelled) = (n, ⊎_elim (λ h. inl (wider h)) inr form, spelled)

-- a base is a unit too, and a unit a conjunction
unit_is_conjunction : (c : CondD) → IsTrue (is_unit c) → IsTrue (is_conjunction c)
unit_is_conjunction (all cs) h = absurd (cc)
unit_is_conjunction (any cs) h = absurd (cc)
unit_is_conjunction _ h = refl

-- ---- bases

-- the token of a relation
abbrev RelationFits : Lexeme → Option Relation → Type 0
RelationFits l None = Unit {0}
RelationFits l (Some relations.Same) = l ≡ Symbol punctuators.Equal
RelationFits l (Some relations.Differ) = l ≡ Symbol punctuators.Differs
RelationFits l (Some relations.Below) = l ≡ Symbol punctuators.Below
RelationFits l (Some relations.Member) = l ≡ Word words.In
RelationFits l (Some relations.Included) = l ≡ Word words.Subset

relation_fits : (l : Lexeme) → RelationFits l (relation_of l)
relation_fits (Symbol punctuators.Equal) = refl
relation_fits (Symbol punctuators.Differs) = refl
relation_fits (Symbol punctuators.Below) = refl
relation_fits (Word words.In) = refl
relation_fits (Word words.Subset) = refl
relation_fits _ = tt

-- the comparison by the relation at token number b
compared_is : (ts : Tokens) (at b end : ℕ) (r : Relation) (x y : ExprD) → relation_of (lexeme_at ts b) ≡ Some r → AnExpr ts at x b → AnExpr ts (b + 1) y end → AForm is_base ts at (descent.compared r (place_at ts b) x y) end
compared_is ts at b end r x y e left right = go r (subst (RelationFits (lexeme_at ts b)) e (relation_fits (lexeme_at ts b)))
  where
    further : at < end
    further = let h = left.0 in let k = right.0 in omega arith

    go : (r : Relation) → RelationFits (lexeme_at ts b) (Some r) → AForm is_base ts at (descent.compared r (place_at ts b) x y) end
    go relations.Same h = (further, (0, inl refl, (drop b ts, left.1, (drop (b + 1) ts, (place_at ts b, sign_at ts b punctuators.Equal h), right.1))), (left.2, right.2))
    go relations.Differ h = (further, (0, inl refl, (drop b ts, left.1, (drop (b + 1) ts, (place_at ts b, sign_at ts b punctuators.Differs h), right.1))), (left.2, right.2))
    go relations.Below h = (further, (0, inl refl, (drop b ts, left.1, (drop (b + 1) ts, sign_at ts b punctuators.Below h, right.1))), (left.2, right.2))
    go relations.Member h = (further, (0, inl refl, (drop b ts, left.1, (drop (b + 1) ts, (place_at ts b, word_at ts b words.In h), right.1))), (left.2, right.2))
    go relations.Included h = (further, (0, inl refl, (drop b ts, left.1, (drop (b + 1) ts, (place_at ts b, word_at ts b words.Subset h), right.1))), (left.2, right.2))

-- two expressions with a relation between them
comparison_reads : (ts : Tokens) (n : ℕ) (h : Read ExprD) → ReadsExpr ts n h → (at : ℕ) →
    Comes ts at n (λ s. push (expression ∷ terminal terminals.Relation ∷ expression ∷ []) s) n (λ c s. s) (AForm is_base ts at) (descent.comparison h (drop at ts))
unfolding descent.comparison place_at
comparison_reads ts n h reads at =
    and_then _ (λ s. push (terminal terminals.Relation ∷ expression ∷ []) s) (reads at) (λ x b forward left.
    and_then _ (λ s. push (expression ∷ []) s) (relation_reads ts b n) (λ r c next found.
    and_then _ (λ s. s) (reads c) (λ y end later right. done (compared_is ts at b end r x y found.1 left (subst (λ k. AnExpr ts k y end) found.0 right)))))

-- n brackets are open, and e and c read what stands in one more
module _ (ts : Tokens) (n depth_left : ℕ) (within : n + depth_left ≡ 64) (e : Read ExprD) (reads : 0 < depth_left → ReadsExpr ts (n + 1) e) (c : Read CondD) (tests : 0 < depth_left → ReadsCond ts (n + 1) c) where
  -- `empty` of an expression
  emptiness_reads : (at : ℕ) → lexeme_at ts at ≡ Word words.Empty → GivesForm is_base base ts n at (descent.emptiness depth_left e (drop at ts))
  unfolding descent.emptiness place_at
  emptiness_reads at here =
      rw (drop-drop 1 at ts) (behind_word words.Empty base (arguments one ∷ []) here refl (λ rest t. refl) (
      entering_call depth_left one _ within (λ opened inner.
      and_then _ (λ s. push (terminal terminals.CloseRound ∷ []) s) (reads inner (at + 1 + 1)) (λ x b forward operand.
      closing terminals.CloseRound _ refl (λ closed.
      done (
        omega arith,
        (0, inl refl, (drop (at + 1) ts, (place_at ts at, word_at ts at words.Empty here), (drop (at + 1 + 1) ts, (place_at ts (at + 1), sign_at ts (at + 1) punctuators.OpenRound opened), (drop b ts, operand.1, closed)))),
        operand.2,
      ))))))

  -- a condition in `[` and `]`
  brackets_read : (at : ℕ) → lexeme_at ts at ≡ Symbol punctuators.OpenSquare → GivesForm is_base base ts n at (descent.brackets depth_left c (drop at ts))
  unfolding descent.brackets place_at
  brackets_read at here =
      entering depth_left punctuators.OpenSquare base (condition (token terminals.CloseSquare) ∷ []) _ here refl refl (λ rest t. refl) within (λ inner.
      and_then _ (λ s. (terminals.CloseSquare, s)) (test_reads ts (n + 1) c (tests inner) (at + 1)) (λ whole b forward test.
      closing terminals.CloseSquare _ refl (λ closed.
      done (omega arith, (suc test.1.0, inr (omega arith), (drop (at + 1) ts, (place_at ts at, sign_at ts at punctuators.OpenSquare here), (drop b ts, test.1.2, closed))), test.2))))

  -- h reads the expressions of a comparison
  base_reads : (h : Read ExprD) → ReadsExpr ts n h → ReadsForm is_base base ts n (descent.base depth_left h e c)
  unfolding descent.base lexeme_at place_at
  base_reads h compares at = go (base_form (lexeme_at ts at)) refl
    where
      word : (k : Keyword) (x : CondD) → lexeme_at ts at ≡ Word k → item_start base (Word k) ≡ Some [] → Enclosed (is_base x) (SpellsCond x) (drop at ts) (drop (at + 1) ts) → CondIsNarrow x →
          GivesForm is_base base ts n at (Ok (x, drop 1 (drop at ts)))
      word k x here starts spelled narrow = rw (drop-drop 1 at ts) (behind_word k base [] here starts (λ rest t. refl) (done (omega arith, spelled, narrow)))

      go : (f : BaseForm) → f ≡ base_form (lexeme_at ts at) → GivesForm is_base base ts n at (descent.base_by f depth_left h e c (drop at ts))
      go bases.True f = let here : lexeme_at ts at ≡ Word words.True = base_is (lexeme_at ts at) bases.True f in word words.True truth here refl (0, inl refl, (place_at ts at, word_at ts at words.True here)) tt
      go bases.False f = let here : lexeme_at ts at ≡ Word words.False = base_is (lexeme_at ts at) bases.False f in word words.False falsity here refl (0, inl refl, (place_at ts at, word_at ts at words.False here)) tt
      go bases.Empty f = emptiness_reads at (base_is (lexeme_at ts at) bases.Empty f)
      go bases.Brackets f = brackets_read at (base_is (lexeme_at ts at) bases.Brackets f)
      go bases.Comparison f =
          alike (λ s. (same_behind ts at n base expression (terminal terminals.Relation ∷ expression ∷ []) (λ rest t. refl) (λ rest t. refl) (base_is (lexeme_at ts at) bases.Comparison f)).run s) (comparison_reads ts n h compares at)

-- ---- units

-- what stands behind a quantifier
abbrev AQuantified : Tokens → ℕ → BindingD × CondD → ℕ → Type 0
AQuantified ts at x end =
    (at < end) × (SpellsBinding x.0 ▹ TakesSymbol (codes ":") ▹ Enclosed (is_base x.1) (SpellsCond x.1)) (drop (at + 1) ts) (drop end ts) × BindingIsNarrow x.0 × CondIsNarrow x.1

-- h reads expressions here, and b a base
module _ (ts : Tokens) (n : ℕ) (h : Read ExprD) (compares : ReadsExpr ts n h) (b : Read CondD) (bases_read : ReadsForm is_base base ts n b) where
  -- behind the word k
  quantified_reads : (at : ℕ) (k : Keyword) → lexeme_at ts at ≡ Word k → item_start unit (Word k) ≡ Some (in_set ++ terminal terminals.Colon ∷ base ∷ []) →
      Comes ts at n (λ s. push (unit ∷ []) s) n (λ x s. s) (AQuantified ts at) (descent.quantified h b (drop at ts))
  unfolding descent.quantified
  quantified_reads at k here starts =
      rw (drop-drop 1 at ts) (behind_word k unit (in_set ++ terminal terminals.Colon ∷ base ∷ []) here starts (λ rest t. refl) (
      and_then _ (λ s. push (terminal terminals.Colon ∷ base ∷ []) s) (binding_reads ts n h compares (at + 1)) (λ variable m forward bound.
      passing terminals.Colon _ refl (λ colon.
      and_then _ (λ s. s) (bases_read (m + 1)) (λ body end later held.
      done (omega arith, (drop m ts, bound.1, (drop (m + 1) ts, colon, held.1)), bound.2, held.2))))))

  -- `not`, a quantifier or neither, and a base
  unit_reads : ReadsForm is_unit unit ts n (descent.unit h b)
  unfolding descent.unit lexeme_at place_at
  unit_reads at = go (unit_form (lexeme_at ts at)) refl
    where
      go : (f : UnitForm) → f ≡ unit_form (lexeme_at ts at) → GivesForm is_unit unit ts n at (descent.unit_by f h b (drop at ts))
      go units.Not f =
          let here : lexeme_at ts at ≡ Word words.Not = unit_is (lexeme_at ts at) units.Not f in
          rw (drop-drop 1 at ts) (behind_word words.Not unit (base ∷ []) here refl (λ rest t. refl) (
          and_then _ (λ s. s) (bases_read (at + 1)) (λ x end forward held. done (omega arith, (0, inl refl, (drop (at + 1) ts, (place_at ts at, word_at ts at words.Not here), held.1)), held.2))))
      go units.Exists f =
          let here : lexeme_at ts at ≡ Word words.Exists = unit_is (lexeme_at ts at) units.Exists f in
          and_then _ (λ s. s) (quantified_reads at words.Exists here refl) (λ x end forward held. done (held.0, (0, inl refl, (drop (at + 1) ts, (place_at ts at, word_at ts at words.Exists here), held.1)), (held.2, held.3)))
      go units.Every f =
          let here : lexeme_at ts at ≡ Word words.Forall = unit_is (lexeme_at ts at) units.Every f in
          and_then _ (λ s. s) (quantified_reads at words.Forall here refl) (λ x end forward held. done (held.0, (0, inl refl, (drop (at + 1) ts, (place_at ts at, word_at ts at words.Forall here), held.1)), (held.2, held.3)))
      go units.Base f =
          alike (λ s. (same_alone ts at n unit base (λ rest t. refl) (λ rest t. refl) (unit_is (lexeme_at ts at) units.Base f)).run s) (
          told (λ c end forward held. (held.0, enclosed (is_base c) (is_unit c) (SpellsCond c) (drop at ts) (drop end ts) (base_is_unit c) held.1, held.2)) (bases_read at))

-- ---- `and` and `or`

-- the list isn't empty
abbrev HasSome : List CondD → Type 0
HasSome [] = ⊥
HasSome (c ∷ cs) = Unit {0}

are_many : (first : CondD) (rest : List CondD) → HasSome rest → AreMany (conds_of (first ∷ rest))
are_many first [] h = absurd h
are_many first (c ∷ cs) h = tt

-- the word that a test finds
at_and : (l : Lexeme) → descent.is_and (connective l) ≡ true → l ≡ Word words.And
at_and (Word words.And) h = refl
at_and _ h = absurd (cc)

at_or : (l : Lexeme) → descent.is_or (connective l) ≡ true → l ≡ Word words.Or
at_or (Word words.Or) h = refl
at_or _ h = absurd (cc)

neither : (j : Connective) → descent.is_and j ≡ false → descent.is_or j ≡ false → j ≡ joints.NoConnective
neither joints.And h g = absurd (cc)
neither joints.Or h g = absurd (cc)
neither joints.NoConnective h g = refl

-- a unit, or several with `and` between them, and no `and` behind them
abbrev AConjunction : Tokens → ℕ → CondD → ℕ → Type 0
AConjunction ts at c end = (at < end) × Enclosed (is_conjunction c) (SpellsCond c) (drop at ts) (drop end ts) × CondIsNarrow c × (descent.begins_and (drop end ts) ≡ false)

-- units, or conjunctions, each behind its word
record MoreUnits (ts : Tokens) (cs : List CondD) (at end : ℕ) : Type 0 where
  spelled : SpellsMoreUnits (conds_of cs) (drop at ts) (drop end ts)
  narrow : CondsAreNarrow (conds_of cs)
  some : descent.begins_and (drop at ts) ≡ true → HasSome cs
  ended : descent.begins_and (drop end ts) ≡ false

record MoreConjunctions (ts : Tokens) (cs : List CondD) (at end : ℕ) : Type 0 where
  spelled : SpellsMoreConjunctions (conds_of cs) (drop at ts) (drop end ts)
  narrow : CondsAreNarrow (conds_of cs)
  some : descent.begins_or (drop at ts) ≡ true → HasSome cs
  ended : descent.begins_or (drop end ts) ≡ false
  no_and : descent.begins_and (drop at ts) ≡ false → descent.begins_and (drop end ts) ≡ false

-- what gives a part of a condition behind a unit, whatever ends the condition
abbrev GivesMore : {A : Type 0} → Tokens → ℕ → ℕ → (A → ℕ → Type 0) → Result (A × Tokens) ParseError → Type 0
GivesMore ts n at P read = Comes {X = ItemEnd × State} ts at n (λ i. push (more_condition i.0 ∷ []) i.1) n (λ x i. push (more_condition i.0 ∷ []) i.1) P read

-- u reads a unit; on the stack is a condition behind it, with whatever ends it
module _ (ts : Tokens) (n : ℕ) (u : Read CondD) (units_read : ReadsForm is_unit unit ts n u) where
  -- several with `and` between them, from the first one on
  more_units_read : (start at : ℕ) (first : CondD) → AForm is_unit ts start first at → descent.begins_and (drop at ts) ≡ true →
      GivesMore ts n at (λ cs end. AConjunction ts start (all (conds_of cs)) end) (descent.more_units u first (drop at ts))
  unfolding descent.more_units lexeme_at place_at
  more_units_read start at first begun follows =
      separated_reads {u = λ i. push (unit ∷ more_condition i.0 ∷ []) i.1} descent.begins_and u (λ x b c. AForm is_unit ts b x c) (MoreUnits ts) (λ cs end. AConjunction ts start (all (conds_of cs)) end) first at
      (λ b e. let here : lexeme_at ts b ≡ Word words.And = at_and (lexeme_at ts b) e in
      (taken ts b (Word words.And) here (λ g. cc), λ i. (word_moves ts b n words.And (more_condition i.0) (unit ∷ more_condition i.0 ∷ []) here refl (λ rest t. refl)).run i.1))
      (λ b e. record { spelled = refl; narrow = tt; some = λ g. absurd (cc); ended = e })
      (λ x xs a b c e held rest. record {
        spelled = (drop (a + 1) ts, (place_at ts a, word_at ts a words.And (at_and (lexeme_at ts a) e)), (drop b ts, held.1, rest.spelled));
        narrow = (held.2, rest.narrow);
        some = λ g. tt;
        ended = rest.ended;
      })
      (λ b. led (λ i. push (more_condition i.0 ∷ []) i.1) (λ x end held i. refl) (units_read b))
      (λ rest end forward held. let ahead = begun.0 in
      (omega arith, (0, inl refl, (are_many first rest (held.some follows), (drop at ts, begun.1, held.spelled))), (begun.2, held.narrow), held.ended))

  -- one of them or several
  conjunction_reads : (at : ℕ) → Comes {X = ItemEnd × State} ts at n (λ i. push (unit ∷ more_condition i.0 ∷ []) i.1) n (λ c i. push (more_condition i.0 ∷ []) i.1) (AConjunction ts at) (descent.conjunction u (drop at ts))
  unfolding descent.conjunction
  conjunction_reads at = and_then _ (λ i. push (more_condition i.0 ∷ []) i.1) (units_read at) (λ first b forward begun. go first b begun (descent.begins_and (drop b ts)) refl)
    where
      go : (first : CondD) (b : ℕ) → AForm is_unit ts at first b → (more : Bool) → descent.begins_and (drop b ts) ≡ more →
          GivesMore ts n b (AConjunction ts at)
          (if more then descent.more_units u first (drop b ts) >>= (λ cs. Ok (all (conds_of cs.0), cs.1)) else Ok (first, drop b ts))
      go first b begun true e = and_then _ (λ i. i) (more_units_read at b first begun e) (λ cs end later held. done held)
      go first b begun false e = done (begun.0, enclosed (is_unit first) (is_conjunction first) (SpellsCond first) (drop at ts) (drop b ts) (unit_is_conjunction first) begun.1, begun.2, e)

  -- several with `or` between them, from the first one on
  more_conjunctions_read : (start at : ℕ) (first : CondD) → AConjunction ts start first at → descent.begins_or (drop at ts) ≡ true →
      GivesMore ts n at (λ cs end. ACond ts start (any (conds_of cs)) end) (descent.more_conjunctions (descent.conjunction u) first (drop at ts))
  unfolding descent.more_conjunctions lexeme_at place_at
  more_conjunctions_read start at first begun follows =
      separated_reads {u = λ i. push (unit ∷ more_condition i.0 ∷ []) i.1} descent.begins_or (descent.conjunction u) (λ x b c. AConjunction ts b x c) (MoreConjunctions ts) (λ cs end. ACond ts start (any (conds_of cs)) end) first at
      (λ b e. let here : lexeme_at ts b ≡ Word words.Or = at_or (lexeme_at ts b) e in
      (taken ts b (Word words.Or) here (λ g. cc), λ i. (word_moves ts b n words.Or (more_condition i.0) (unit ∷ more_condition i.0 ∷ []) here refl (λ rest t. refl)).run i.1))
      (λ b e. record { spelled = refl; narrow = tt; some = λ g. absurd (cc); ended = e; no_and = λ g. g })
      (λ x xs a b c e held rest. record {
        spelled = (drop (a + 1) ts, (place_at ts a, word_at ts a words.Or (at_or (lexeme_at ts a) e)), (drop b ts, held.1, rest.spelled));
        narrow = (held.2, rest.narrow);
        some = λ g. tt;
        ended = rest.ended;
        no_and = λ g. rest.no_and held.3;
      })
      conjunction_reads
      (λ rest end forward held. let ahead = begun.0 in
      (omega arith, (0, inl refl, (are_many first rest (held.some follows), (drop at ts, begun.1, held.spelled))), (begun.2, held.narrow), neither (connective (lexeme_at ts end)) (held.no_and begun.3) held.ended))

  -- the whole condition, with neither `and` nor `or` behind it
  condition_reads : ReadsCond ts n (descent.condition (descent.conjunction u))
  unfolding descent.condition lexeme_at
  condition_reads at =
      alike (λ i. (same_behind ts at n (condition i.0) unit (more_condition i.0 ∷ []) (λ rest t. refl) (λ rest t. refl) refl).run i.1) (
      and_then _ (λ i. i) (conjunction_reads at) (λ first b forward begun. go first b begun (descent.begins_or (drop b ts)) refl))
    where
      go : (first : CondD) (b : ℕ) → AConjunction ts at first b → (more : Bool) → descent.begins_or (drop b ts) ≡ more →
          GivesMore ts n b (ACond ts at)
          (if more then descent.more_conjunctions (descent.conjunction u) first (drop b ts) >>= (λ cs. Ok (any (conds_of cs.0), cs.1)) else Ok (first, drop b ts))
      go first b begun true e = and_then _ (λ i. i) (more_conjunctions_read at b first begun e) (λ cs end later held. done held)
      go first b begun false e =
          done (begun.0, enclosed (is_conjunction first) true (SpellsCond first) (drop at ts) (drop b ts) (λ h. refl) begun.1, begun.2, neither (connective (lexeme_at ts b)) begun.3 e)

-- ---- all expressions and conditions

-- n brackets are open, and e and c read what stands in one more
level_reads : (ts : Tokens) (n depth_left : ℕ) → n + depth_left ≡ 64 → (e : Read ExprD) → (0 < depth_left → ReadsExpr ts (n + 1) e) → (c : Read CondD) → (0 < depth_left → ReadsCond ts (n + 1) c) →
    ReadsExpr ts n (descent.expression depth_left e c) × ReadsCond ts n (descent.condition_at depth_left (descent.expression depth_left e c) e c)
level_reads ts n depth_left within e reads c tests =
    let h = descent.expression depth_left e c in
    let b = descent.base depth_left h e c in
    let compares = expression_reads ts n depth_left within e reads c tests in
    (compares, condition_reads ts n (descent.unit h b) (unit_reads ts n h compares b (base_reads ts n depth_left within e reads c tests h compares)))

-- by how many brackets more may be open
both_read : (ts : Tokens) (depth_left n : ℕ) → n + depth_left ≡ 64 → ReadsExpr ts n (expr_of depth_left) × ReadsCond ts n (cond_of depth_left)
unfolding expr_of cond_of
both_read ts zero n within = level_reads ts n zero within descent.closed (λ inner. absurd (omega arith)) descent.closed (λ inner. absurd (omega arith))
both_read ts (suc depth_left) n within =
    let inside = both_read ts depth_left (n + 1) (omega arith) in level_reads ts n (suc depth_left) within (expr_of depth_left) (λ inner. inside.0) (cond_of depth_left) (λ inner. inside.1)

-- where n brackets are open and so many more may be
pub expr_reads : (ts : Tokens) (depth_left n : ℕ) → n + depth_left ≡ 64 → ReadsExpr ts n (expr_of depth_left)
expr_reads ts depth_left n within = (both_read ts depth_left n within).0

pub cond_reads : (ts : Tokens) (depth_left n : ℕ) → n + depth_left ≡ 64 → ReadsCond ts n (cond_of depth_left)
cond_reads ts depth_left n within = (both_read ts depth_left n within).1
