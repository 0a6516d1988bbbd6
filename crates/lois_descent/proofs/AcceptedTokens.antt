-- A token that is the next part of a form.
use Rattle.std.proofs.Common.{◌≡◌, ℕ, ◌+◌, true, false, Option, Some, None, List, [], ◌∷◌, drop, refl, sym, ap, ◌∙◌, subst}
use Rattle.lois_script.specs.Grammar.{PlacedToken}
use Rattle.lois_descent.specs.declared.lexemes.Terminal.{Terminal}
use Rattle.lois_descent.specs.declared.lexemes.Terminal.TheVariants.{Atoms as the_atoms, Structure as structure, Semicolon as semicolon, Comma as comma, CloseRound as close_round, CloseSquare as close_square, CloseCurly as close_curly, Colon as colon, Equal as equal, Becomes as becomes, In as within, To as to, Relation as relation, Name as name, Number as number}
use Rattle.lois_descent.specs.Lexemes.{accepts}
use Rattle.lois_descent.specs.Machine.{terminal, accepted_if}
use Rattle.lois_descent.specs.declared.lexemes.Lexeme.{Lexeme}
use Rattle.lois_descent.specs.declared.lexemes.Lexeme.TheVariants.{End, Name, Number, Word, Symbol}
use Rattle.lois_descent.specs.declared.lexemes.Keyword.TheVariants as words
use Rattle.lois_descent.specs.declared.lexemes.Punctuator.TheVariants as punctuators
use Rattle.lois_descent.specs.Steps.{One}
use Rattle.lois_descent.specs.Lexemes.{relation_of}
use Rattle.lois_descent.specs.declared.lexemes.Relation.{Relation}
use Rattle.lois_descent.specs.Steps.{lexeme_at, Moves, Stuck, is_plain, is_closer}
use Rattle.lois_descent.specs.Refusals.{NoScript}
use Rattle.lois_descent.proofs.Sound.{one_token}
use Rattle.lois_descent.proofs.TokenSteps.{TokenAt, token_at, opens_by, closes_by, is_known, plain_moves, close_moves, missed}

plain_facts : (x : Terminal) (l : Lexeme) → is_plain x ≡ true → accepts x l ≡ true → (is_known l ≡ true) × (opens_by l ≡ false) × (closes_by l ≡ false)
plain_facts the_atoms (Word words.Atoms) p q = (refl, refl, refl)
plain_facts structure (Word words.Equality) p q = (refl, refl, refl)
plain_facts structure (Word words.Order) p q = (refl, refl, refl)
plain_facts semicolon (Symbol punctuators.Semicolon) p q = (refl, refl, refl)
plain_facts comma (Symbol punctuators.Comma) p q = (refl, refl, refl)
plain_facts colon (Symbol punctuators.Colon) p q = (refl, refl, refl)
plain_facts equal (Symbol punctuators.Equal) p q = (refl, refl, refl)
plain_facts becomes (Symbol punctuators.Becomes) p q = (refl, refl, refl)
plain_facts within (Word words.In) p q = (refl, refl, refl)
plain_facts to (Word words.To) p q = (refl, refl, refl)
plain_facts relation (Symbol punctuators.Equal) p q = (refl, refl, refl)
plain_facts relation (Symbol punctuators.Differs) p q = (refl, refl, refl)
plain_facts relation (Symbol punctuators.Below) p q = (refl, refl, refl)
plain_facts relation (Word words.In) p q = (refl, refl, refl)
plain_facts relation (Word words.Subset) p q = (refl, refl, refl)
plain_facts name Name p q = (refl, refl, refl)
plain_facts number Number p q = (refl, refl, refl)
plain_facts _ _ p q = absurd (cc)

closer_facts : (x : Terminal) (l : Lexeme) → is_closer x ≡ true → accepts x l ≡ true → (is_known l ≡ true) × (opens_by l ≡ false) × (closes_by l ≡ true)
closer_facts close_round (Symbol punctuators.CloseRound) p q = (refl, refl, refl)
closer_facts close_square (Symbol punctuators.CloseSquare) p q = (refl, refl, refl)
closer_facts close_curly (Symbol punctuators.CloseCurly) p q = (refl, refl, refl)
closer_facts _ _ p q = absurd (cc)

pub accepts_no_end : (x : Terminal) (l : Lexeme) → accepts x l ≡ true → l ≡ End → ⊥
accepts_no_end x l p e = go x (ap (accepts x) (sym e) ∙ p)
  where
    go : (y : Terminal) → accepts y End ≡ true → ⊥
    go the_atoms h = cc
    go _ h = cc

module _ (ts : List PlacedToken) (at : ℕ) (x : Terminal) (e : accepts x (lexeme_at ts at) ≡ true) where
  there : TokenAt ts at (lexeme_at ts at)
  there = token_at ts at (lexeme_at ts at) refl (accepts_no_end x (lexeme_at ts at) e)

  pub one_at : One x (drop at ts) (drop (at + 1) ts)
  one_at =
      let k = there in
      subst (λ b. One x b (drop (at + 1) ts)) (sym k.here) (one_token x k.it (ap (accepts x) k.lexeme ∙ e) (drop (at + 1) ts))

  pub pass_moves : is_plain x ≡ true → (n : ℕ) → Moves ts at n (terminal x ∷ []) (at + 1) n []
  pass_moves plain n =
      let facts = plain_facts x (lexeme_at ts at) plain e in
      plain_moves ts at n (terminal x) [] (lexeme_at ts at) there facts.0 facts.1 facts.2 (ap accepted_if e) (λ rest t. refl)

  pub close_moves_on : is_closer x ≡ true → (n : ℕ) → Moves ts at (n + 1) (terminal x ∷ []) (at + 1) n []
  close_moves_on closer n =
      let facts = closer_facts x (lexeme_at ts at) closer e in
      close_moves ts at n (terminal x) [] (lexeme_at ts at) there facts.0 facts.1 facts.2 (ap accepted_if e) (λ rest t. refl)

pub pass_stuck : (ts : List PlacedToken) (at : ℕ) (x : Terminal) → accepts x (lexeme_at ts at) ≡ false → (n : ℕ) → Stuck ts at n (terminal x ∷ []) (NoScript at)
pass_stuck ts at x e n = missed ts at n (terminal x) (ap accepted_if e)

pub name_accepted : (l : Lexeme) → accepts name l ≡ true → l ≡ Name
name_accepted Name e = refl
name_accepted _ e = absurd (cc)

pub number_accepted : (l : Lexeme) → accepts number l ≡ true → l ≡ Number
number_accepted Number e = refl
number_accepted _ e = absurd (cc)

relation_step : (l : Lexeme) → Option Relation → Type 0
relation_step l None = accepts relation l ≡ false
relation_step l (Some r) = accepts relation l ≡ true

relation_accepts : (l : Lexeme) → relation_step l (relation_of l)
unfolding relation_step
relation_accepts (Symbol punctuators.Equal) = refl
relation_accepts (Symbol punctuators.Differs) = refl
relation_accepts (Symbol punctuators.Below) = refl
relation_accepts (Word words.In) = refl
relation_accepts (Word words.Subset) = refl
relation_accepts _ = refl

pub relation_found : (l : Lexeme) (r : Relation) → relation_of l ≡ Some r → accepts relation l ≡ true
unfolding relation_step
relation_found l r e = subst (relation_step l) e (relation_accepts l)

pub relation_none : (l : Lexeme) → relation_of l ≡ None → accepts relation l ≡ false
unfolding relation_step
relation_none l e = subst (relation_step l) e (relation_accepts l)
