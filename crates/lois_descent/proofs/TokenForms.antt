-- What the form of a token says of the token, and of the machine.
use Rattle.std.proofs.Common.{◌≡◌, ℕ, ◌+◌, true, false, Some, None, List, [], ◌∷◌, drop, refl, sym, ap, subst}
use Rattle.lois_script.specs.Grammar.{PlacedToken, TakesWordAt, TakesSymbolAt, TakesName, TakesTag, TakesNumber, decimal}
use Rattle.lois_descent.specs.Lexemes.{word_of, punctuator_text}
use Rattle.lois_descent.specs.declared.lexemes.Terminal.{Terminal}
use Rattle.lois_descent.specs.declared.lexemes.Terminal.TheVariants.{Relation as relation}
use Rattle.lois_descent.specs.Lexemes.{accepts}
use Rattle.lois_descent.specs.Machine.{ItemEnd, Arguments, Item, terminal, expression, body, behind, accepted_if, expression_start, base_start, unit_start, ending, where_start, statement_start, statements_start, after_if_start, more_condition_start, arguments_start, item_start, outermost_start, bottom_start}
use Rattle.lois_descent.specs.declared.lexemes.Lexeme.{Lexeme}
use Rattle.lois_descent.specs.declared.lexemes.Lexeme.TheVariants.{End, Name, Tag, Number, Word, Symbol}
use Rattle.lois_descent.specs.declared.lexemes.Keyword.TheVariants as words
use Rattle.lois_descent.specs.declared.lexemes.Punctuator.TheVariants as punctuators
use Rattle.lois_descent.specs.Lexemes.{unit_form, expr_form, base_form, stmt_form, connective, optional_start}
use Rattle.lois_descent.specs.Steps.{lexeme_at, first_place, place_at, first_bytes, bytes_at, Moves}
use Rattle.lois_descent.specs.declared.lexemes.Keyword.{Keyword}
use Rattle.lois_descent.specs.declared.lexemes.Punctuator.{Punctuator}
use Rattle.lois_descent.specs.declared.lexemes.UnitForm.{UnitForm}
use Rattle.lois_descent.specs.declared.lexemes.UnitForm.TheVariants as units
use Rattle.lois_descent.specs.declared.lexemes.ExprForm.{ExprForm}
use Rattle.lois_descent.specs.declared.lexemes.ExprForm.TheVariants as exprs
use Rattle.lois_descent.specs.declared.lexemes.BaseForm.{BaseForm}
use Rattle.lois_descent.specs.declared.lexemes.BaseForm.TheVariants as bases
use Rattle.lois_descent.specs.declared.lexemes.StmtForm.{StmtForm}
use Rattle.lois_descent.specs.declared.lexemes.StmtForm.TheVariants as stmts
use Rattle.lois_descent.specs.declared.lexemes.Connective.{Connective}
use Rattle.lois_descent.specs.declared.lexemes.Connective.TheVariants as joints
use Rattle.lois_descent.specs.declared.lexemes.OptionalStart.{OptionalStart}
use Rattle.lois_descent.specs.declared.lexemes.OptionalStart.TheVariants as leads
use Rattle.lois_descent.proofs.Tokens.{taken_word, taken_sign, taken_name, taken_number, taken_tag}
use Rattle.lois_descent.proofs.TokenSteps.{opens_by, closes_by, is_known, Quiet, token_at, plain_moves}

abbrev pub ExprFits : Lexeme → ExprForm → Type 0
ExprFits l exprs.Atoms = l ≡ Word words.Atoms
ExprFits l exprs.Var = l ≡ Name
ExprFits l exprs.Tag = l ≡ Tag
ExprFits l exprs.Tuple = l ≡ Symbol punctuators.OpenRound
ExprFits l exprs.Braces = l ≡ Symbol punctuators.OpenCurly
ExprFits l exprs.Part = l ≡ Word words.Part
ExprFits l (exprs.Apply op) = l ≡ Word (words.Apply op)
ExprFits l exprs.NoExpr = expression_start l ≡ None

expr_fits : (l : Lexeme) → ExprFits l (expr_form l)
expr_fits (Word words.Atoms) = refl
expr_fits Name = refl
expr_fits Tag = refl
expr_fits (Symbol punctuators.OpenRound) = refl
expr_fits (Symbol punctuators.OpenCurly) = refl
expr_fits (Word words.Part) = refl
expr_fits (Word (words.Apply op)) = refl
expr_fits _ = refl

pub expr_is : (l : Lexeme) (f : ExprForm) → f ≡ expr_form l → ExprFits l f
expr_is l f e = subst (ExprFits l) (sym e) (expr_fits l)

abbrev pub BaseFits : Lexeme → BaseForm → Type 0
BaseFits l bases.True = l ≡ Word words.True
BaseFits l bases.False = l ≡ Word words.False
BaseFits l bases.Empty = l ≡ Word words.Empty
BaseFits l bases.Brackets = l ≡ Symbol punctuators.OpenSquare
BaseFits l bases.Comparison = base_start l ≡ behind (terminal relation ∷ expression ∷ []) (expression_start l)

base_fits : (l : Lexeme) → BaseFits l (base_form l)
base_fits (Word words.True) = refl
base_fits (Word words.False) = refl
base_fits (Word words.Empty) = refl
base_fits (Symbol punctuators.OpenSquare) = refl
base_fits _ = refl

pub base_is : (l : Lexeme) (f : BaseForm) → f ≡ base_form l → BaseFits l f
base_is l f e = subst (BaseFits l) (sym e) (base_fits l)

abbrev pub UnitFits : Lexeme → UnitForm → Type 0
UnitFits l units.Not = l ≡ Word words.Not
UnitFits l units.Exists = l ≡ Word words.Exists
UnitFits l units.Every = l ≡ Word words.Forall
UnitFits l units.Base = unit_start l ≡ base_start l

unit_fits : (l : Lexeme) → UnitFits l (unit_form l)
unit_fits (Word words.Not) = refl
unit_fits (Word words.Exists) = refl
unit_fits (Word words.Forall) = refl
unit_fits _ = refl

pub unit_is : (l : Lexeme) (f : UnitForm) → f ≡ unit_form l → UnitFits l f
unit_is l f e = subst (UnitFits l) (sym e) (unit_fits l)

abbrev pub StmtFits : Lexeme → StmtForm → Type 0
StmtFits l stmts.Let = l ≡ Word words.Let
StmtFits l stmts.Assign = l ≡ Name
StmtFits l stmts.Add = l ≡ Word words.Add
StmtFits l stmts.For = l ≡ Word words.For
StmtFits l stmts.If = l ≡ Word words.If
StmtFits l stmts.While = l ≡ Word words.While
StmtFits l stmts.Assert = l ≡ Word words.Assert
StmtFits l stmts.Print = l ≡ Word words.Print
StmtFits l stmts.NoStmt = statement_start l ≡ None

stmt_fits : (l : Lexeme) → StmtFits l (stmt_form l)
stmt_fits (Word words.Let) = refl
stmt_fits Name = refl
stmt_fits (Word words.Add) = refl
stmt_fits (Word words.For) = refl
stmt_fits (Word words.If) = refl
stmt_fits (Word words.While) = refl
stmt_fits (Word words.Assert) = refl
stmt_fits (Word words.Print) = refl
stmt_fits _ = refl

pub stmt_is : (l : Lexeme) (f : StmtForm) → f ≡ stmt_form l → StmtFits l f
stmt_is l f e = subst (StmtFits l) (sym e) (stmt_fits l)

abbrev pub JointFits : Lexeme → Connective → Type 0
JointFits l joints.And = l ≡ Word words.And
JointFits l joints.Or = l ≡ Word words.Or
JointFits l joints.NoConnective = (e : ItemEnd) → more_condition_start e l ≡ ending e l

joint_fits : (l : Lexeme) → JointFits l (connective l)
joint_fits (Word words.And) = refl
joint_fits (Word words.Or) = refl
joint_fits _ = λ e. refl

pub joint_is : (l : Lexeme) (f : Connective) → f ≡ connective l → JointFits l f
joint_is l f e = subst (JointFits l) (sym e) (joint_fits l)

abbrev pub LeadFits : Lexeme → OptionalStart → Type 0
LeadFits l leads.OpenRound = l ≡ Symbol punctuators.OpenRound
LeadFits l leads.Parameter = l ≡ Word words.Parameter
LeadFits l leads.For = l ≡ Word words.For
LeadFits l leads.Where = l ≡ Word words.Where
LeadFits l leads.Else = l ≡ Word words.Else
LeadFits l leads.NoOptionalStart = Unit {0}

lead_fits : (l : Lexeme) → LeadFits l (optional_start l)
lead_fits (Symbol punctuators.OpenRound) = refl
lead_fits (Word words.Parameter) = refl
lead_fits (Word words.For) = refl
lead_fits (Word words.Where) = refl
lead_fits (Word words.Else) = refl
lead_fits _ = tt

pub lead_is : (l : Lexeme) (f : OptionalStart) → f ≡ optional_start l → LeadFits l f
lead_is l f e = subst (LeadFits l) (sym e) (lead_fits l)

pub no_round : (l : Lexeme) → (optional_start l ≡ leads.OpenRound → ⊥) → (a : Arguments) → arguments_start a l ≡ None
no_round (Symbol punctuators.OpenRound) h a = absurd (h refl)
no_round _ h a = refl

pub no_where : (l : Lexeme) → (optional_start l ≡ leads.Where → ⊥) → (x : Terminal) → where_start x l ≡ accepted_if (accepts x l)
no_where (Word words.Where) h x = absurd (h refl)
no_where _ h x = refl

pub no_else : (l : Lexeme) → (optional_start l ≡ leads.Else → ⊥) → after_if_start l ≡ statements_start l
no_else (Word words.Else) h = absurd (h refl)
no_else _ h = refl

pub no_parameter : (l : Lexeme) → (optional_start l ≡ leads.Parameter → ⊥) → bottom_start body l ≡ outermost_start l
no_parameter (Word words.Parameter) h = absurd (h refl)
no_parameter _ h = refl

module _ (ts : List PlacedToken) (at : ℕ) where
  pub sign_at : (s : Punctuator) → lexeme_at ts at ≡ Symbol s → TakesSymbolAt (place_at ts at) (punctuator_text s) (drop at ts) (drop (at + 1) ts)
  unfolding place_at
  sign_at s e =
      let k = token_at ts at (Symbol s) e (λ f. cc) in
      subst (λ b. TakesSymbolAt (first_place b) (punctuator_text s) b (drop (at + 1) ts)) (sym k.here) (taken_sign k.it s k.lexeme (drop (at + 1) ts))

  pub word_at : (w : Keyword) → lexeme_at ts at ≡ Word w → TakesWordAt (place_at ts at) (word_of w) (drop at ts) (drop (at + 1) ts)
  unfolding place_at
  word_at w e =
      let k = token_at ts at (Word w) e (λ f. cc) in
      subst (λ b. TakesWordAt (first_place b) (word_of w) b (drop (at + 1) ts)) (sym k.here) (taken_word k.it w k.lexeme (drop (at + 1) ts))

  pub name_here : lexeme_at ts at ≡ Name → TakesName (place_at ts at) (bytes_at ts at) (drop at ts) (drop (at + 1) ts)
  unfolding place_at bytes_at
  name_here e =
      let k = token_at ts at Name e (λ f. cc) in
      subst (λ b. TakesName (first_place b) (first_bytes b) b (drop (at + 1) ts)) (sym k.here) (taken_name k.it k.lexeme (drop (at + 1) ts))

  pub number_here : lexeme_at ts at ≡ Number → TakesNumber (decimal (bytes_at ts at)) (drop at ts) (drop (at + 1) ts)
  unfolding bytes_at
  number_here e =
      let k = token_at ts at Number e (λ f. cc) in
      subst (λ b. TakesNumber (decimal (first_bytes b)) b (drop (at + 1) ts)) (sym k.here) (taken_number k.it k.lexeme (drop (at + 1) ts))

  pub tag_here : lexeme_at ts at ≡ Tag → TakesTag (place_at ts at) (drop 1 (bytes_at ts at)) (drop at ts) (drop (at + 1) ts)
  unfolding place_at bytes_at
  tag_here e =
      let k = token_at ts at Tag e (λ f. cc) in
      let found = taken_tag k.it k.lexeme (drop (at + 1) ts) in
      let bytes : k.it.bytes ≡ 39 ∷ found.0 = ap first_bytes found.1 in
      let named : TakesTag k.it.place (drop 1 k.it.bytes) (k.it ∷ drop (at + 1) ts) (drop (at + 1) ts) =
      subst (λ y. TakesTag k.it.place y (k.it ∷ drop (at + 1) ts) (drop (at + 1) ts)) (sym (ap (drop 1) bytes)) found.1 in
      subst (λ b. TakesTag (first_place b) (drop 1 (first_bytes b)) b (drop (at + 1) ts)) (sym k.here) named

  -- the word that begins a form
  pub word_moves : (n : ℕ) (w : Keyword) (x : Item) (v : List Item) → lexeme_at ts at ≡ Word w → item_start x (Word w) ≡ Some v → Quiet x → Moves ts at n (x ∷ []) (at + 1) n v
  word_moves n w x v e starts quiet = plain_moves ts at n x v (Word w) (token_at ts at (Word w) e (λ f. cc)) refl refl refl starts quiet

-- a token that is a whole item
pub leaf_moves : (ts : List PlacedToken) (at n : ℕ) (x : Item) (l : Lexeme) → lexeme_at ts at ≡ l → (l ≡ End → ⊥) → is_known l ≡ true → opens_by l ≡ false → closes_by l ≡ false → item_start x l ≡ Some [] → Quiet x → Moves ts at n (x ∷ []) (at + 1) n []
leaf_moves ts at n x l e some known no_opener no_closer starts quiet = plain_moves ts at n x [] l (token_at ts at l e some) known no_opener no_closer starts quiet
