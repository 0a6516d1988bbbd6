use Rattle.std.proofs.Common.{◌≡◌, ◌≢◌, ℕ, ◌⊎◌, List, length, Result, Ok, Err, inl, inr, ap, refl, ⊎_elim}
use Rattle.std.specs.Prelude.{IfOk, IfErr, IsErrOf, All}
use Rattle.lois_lexer.specs.declared.Token.{Token}
use Rattle.lois_lexer.specs.declared.LexError.{LexError}
use Rattle.lois_lexer.specs.declared.LexError.TheVariants.{BadByte, LongName, BadNumber, NoMemory}
use Rattle.lois_lexer.specs.Tokens.{HasTokens}
use Rattle.lois_lexer.specs.InText.{IsTokenOf, AreInOrder, IsPlaceInText}
use Rattle.lois_lexer.specs.Refusals.{IsLexicalRefusal}
use Rattle.lois_lexer.proofs.OneReading.{one_list, one_refusal, never_both, tokens_of_cut, cut_in_order, refused_inside}
use Rattle.lois_lexer.proofs.lexing.lex.Goals as goal

-- an error is want of memory, or it isn't
cases_error : (text : List ℕ) (error : LexError) → (error ≢ NoMemory → IsLexicalRefusal text error) → (error ≡ NoMemory) ⊎ IsLexicalRefusal text error
cases_error text NoMemory f = inl refl
cases_error text (BadByte at) f = inr (f (λ e. cc))
cases_error text (LongName at) f = inr (f (λ e. cc))
cases_error text (BadNumber at) f = inr (f (λ e. cc))

those : {V : Type 0} (items : V → List Token) (text : List ℕ) (r : Result V LexError) → IfOk r (λ v. HasTokens text (items v)) →
    (others : List Token) → HasTokens text others → IfOk r (λ v. items v ≡ others)
those items text (Ok v) has others h = one_list text (items v) others has h
those items text (Err e) has others h = tt

accepts : {V : Type 0} (text : List ℕ) (r : Result V LexError) → IfErr r (λ e. e ≢ NoMemory → IsLexicalRefusal text e) →
    (others : List Token) → HasTokens text others → IfErr r (λ e. e ≡ NoMemory)
accepts text (Ok v) wrong others h = tt
accepts text (Err e) wrong others h = ⊎_elim (λ memory. memory) (λ refused. absurd (never_both text others e h refused)) (cases_error text e wrong)

refuses : {V : Type 0} (items : V → List Token) (text : List ℕ) (r : Result V LexError) → IfOk r (λ v. HasTokens text (items v)) → IfErr r (λ e. e ≢ NoMemory → IsLexicalRefusal text e) →
    (error : LexError) → IsLexicalRefusal text error → IsErrOf r error ⊎ IsErrOf r NoMemory
refuses items text (Ok v) has wrong error h = absurd (never_both text (items v) error has h)
refuses items text (Err e) has wrong error h = ⊎_elim (λ memory. inr (ap (λ x. Err x) memory)) (λ refused. inl (ap (λ x. Err x) (one_refusal text e error refused h))) (cases_error text e wrong)

forms : {V : Type 0} (items : V → List Token) (text : List ℕ) (r : Result V LexError) → IfOk r (λ v. HasTokens text (items v)) → IfOk r (λ v. All (IsTokenOf text) (items v))
forms items text (Ok v) has = tokens_of_cut text (length text) (items v) has
forms items text (Err e) has = tt

in_order : {V : Type 0} (items : V → List Token) (text : List ℕ) (r : Result V LexError) → IfOk r (λ v. HasTokens text (items v)) → IfOk r (λ v. AreInOrder (items v))
in_order items text (Ok v) has = cut_in_order text (length text) (items v) has
in_order items text (Err e) has = tt

inside : {V : Type 0} (text : List ℕ) (r : Result V LexError) → IfErr r (λ e. e ≢ NoMemory → IsLexicalRefusal text e) → IfErr r (IsPlaceInText text)
inside text (Ok v) wrong = tt
inside text (Err NoMemory) wrong = tt
inside text (Err (BadByte at)) wrong = refused_inside text (BadByte at) (wrong (λ e. cc))
inside text (Err (LongName at)) wrong = refused_inside text (LongName at) (wrong (λ e. cc))
inside text (Err (BadNumber at)) wrong = refused_inside text (BadNumber at) (wrong (λ e. cc))

pub returns-clause-exact : goal.returns-clause-exact
returns-clause-exact c = those (λ v. v.items) c.args.text.now c.cut.result c.cut.ensures.tokens

pub returns-clause-accepts : goal.returns-clause-accepts
returns-clause-accepts c = accepts c.args.text.now c.cut.result c.cut.ensures.refused

pub returns-clause-refuses : goal.returns-clause-refuses
returns-clause-refuses c = refuses (λ v. v.items) c.args.text.now c.cut.result c.cut.ensures.tokens c.cut.ensures.refused

pub returns-clause-forms : goal.returns-clause-forms
returns-clause-forms c = forms (λ v. v.items) c.args.text.now c.cut.result c.cut.ensures.tokens

pub returns-clause-inside : goal.returns-clause-inside
returns-clause-inside c = inside c.args.text.now c.cut.result c.cut.ensures.refused

pub returns-clause-in_order : goal.returns-clause-in_order
returns-clause-in_order c = in_order (λ v. v.items) c.args.text.now c.cut.result c.cut.ensures.tokens
