-- The laws of refusals, said of errors.
use Rattle.std.proofs.Common.{◌≡◌, List, refl, sym, ap, ◌∙◌}
use Rattle.lois_script.specs.Grammar.{PlacedToken}
use Rattle.lois_descent.specs.Refusals as refusals
use Rattle.lois_descent.specs.Refusals.{Refusal}
use Rattle.lois_descent.proofs.Refusing as below
use Rattle.lois_syntax.specs.Laws.{NeverBoth}
use Rattle.lois_syntax.specs.Refusals.{IsSyntaxRefusal, refusal}
use Rattle.lois_syntax.specs.declared.SyntaxError.{SyntaxError}
use Rattle.lois_syntax.specs.declared.SyntaxError.TheVariants.{NoScript, TooNested, WideTuple, TurnsTooMany, NoMemory}

-- the other way round
abbrev error_for : Refusal → SyntaxError
error_for (refusals.NoScript k) = NoScript k
error_for (refusals.TooNested k) = TooNested k
error_for (refusals.WideTuple k) = WideTuple k
error_for (refusals.TurnsTooMany k) = TurnsTooMany k
error_for refusals.NoMemory = NoMemory

back : (e : SyntaxError) → error_for (refusal e) ≡ e
back (NoScript k) = refl
back (TooNested k) = refl
back (WideTuple k) = refl
back (TurnsTooMany k) = refl
back NoMemory = refl

pub one_refusal : (ts : List PlacedToken) (a b : SyntaxError) → IsSyntaxRefusal ts a → IsSyntaxRefusal ts b → a ≡ b
one_refusal ts a b f g = sym (back a) ∙ ap error_for (below.one_refusal ts (refusal a) (refusal b) f g) ∙ back b

pub never_both : NeverBoth
never_both text tokens s e cut spelled r = below.never_both text tokens s (refusal e) cut spelled r
