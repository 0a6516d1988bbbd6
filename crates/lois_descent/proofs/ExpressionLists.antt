-- Expressions in a list that grows at its end.
use Rattle.std.proofs.Common.{◌≡◌, suc, List, [], ◌∷◌, ◌++◌, length, refl, sym, ap, subst, codes}
use Rattle.lois_script.specs.Grammar.{PlacedToken, ◌▹◌, TakesSymbol, SpellsExpr, SpellsExprs, SpellsMoreExprs}
use Rattle.lois_script.specs.Limits.{width, IsNarrow, AreNarrow}
use Rattle.lois_script.specs.Tree.{ExprD, no_exprs}
use Rattle.lois_script.specs.View.{exprs_of}

pub width_of : (es : List ExprD) → width (exprs_of es) ≡ length es
width_of [] = refl
width_of (e ∷ es) = ap suc (width_of es)

pub more_exprs : (es : List ExprD) (e : ExprD) (a b c d : List PlacedToken) → SpellsMoreExprs (exprs_of es) a b → TakesSymbol (codes ",") b c → SpellsExpr e c d → SpellsMoreExprs (exprs_of (es ++ e ∷ [])) a d
more_exprs [] e a b c d h sep s = subst (λ x. (TakesSymbol (codes ",") ▹ SpellsExpr e ▹ SpellsMoreExprs no_exprs) x d) (sym h) (c, sep, (d, s, refl))
more_exprs (x ∷ es) e a b c d (m, first, (m2, t, rest)) sep s = (m, first, (m2, t, more_exprs es e m2 b c d rest sep s))

pub exprs_grow : (es : List ExprD) (e : ExprD) (a b c d : List PlacedToken) → SpellsExprs (exprs_of es) a b → TakesSymbol (codes ",") b c → SpellsExpr e c d → SpellsExprs (exprs_of (es ++ e ∷ [])) a d
exprs_grow [] e a b c d h sep s = absurd h
exprs_grow (x ∷ es) e a b c d (m, t, rest) sep s = (m, t, more_exprs es e m b c d rest sep s)

pub narrow_grow : (es : List ExprD) (e : ExprD) → AreNarrow (exprs_of es) → IsNarrow e → AreNarrow (exprs_of (es ++ e ∷ []))
narrow_grow [] e h n = (n, tt)
narrow_grow (x ∷ es) e h n = (h.0, narrow_grow es e h.1 n)
