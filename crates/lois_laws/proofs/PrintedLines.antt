-- From the last line of a name to what was printed last under it.
use Rattle.std.proofs.Common.{◌≡◌, ℕ, Bool, true, false, List, [], ◌∷◌, cond, filter, Some, option_map, bytes_eq, refl, ap, subst}
use Rattle.lois_base.specs.Atom.{Atom}
use Rattle.lois_base.specs.Data.{TermD}
use Rattle.lois_base.specs.Values.{PointValue, point, IsSame}
use Rattle.lois_answers.specs.LastNamed.{last_line}
use Rattle.lois_answers.specs.ResultsData.{LineD, CaseD}
use Rattle.lois_context.specs.LineValues.{line_values}
use Rattle.lois_equal.specs.Comparing.{HasTerm}
use Rattle.lois_meaning.specs.Store.{NamedValue, NamedValues, AreSameNamed}
use Rattle.lois_laws.specs.Printed.{last_value, printed_as}

module _ (c : List Atom) (name : List ℕ) where
  abbrev test_line : LineD → Bool
  test_line l = bytes_eq l.name name

  abbrev test_value : NamedValue → Bool
  test_value b = bytes_eq b.name name

  filtered : (ls : List LineD) (ps : NamedValues) → AreSameNamed (line_values c ls) ps → AreSameNamed (line_values c (filter test_line ls)) (filter test_value ps)
  filtered [] [] h = tt
  filtered [] (p ∷ ps) h = absurd h
  filtered (l ∷ ls) [] h = absurd h
  filtered (l ∷ ls) (p ∷ ps) h = go (test_line l) (test_value p) (ap (λ n. bytes_eq n name) h.0) (filtered ls ps h.2)
    where
      here : (b : Bool) → AreSameNamed (line_values c (filter test_line ls)) (filter test_value ps) → AreSameNamed (line_values c (cond b (l ∷ filter test_line ls) (filter test_line ls))) (cond b (p ∷ filter test_value ps) (filter test_value ps))
      here true rest = (h.0, h.1, rest)
      here false rest = rest

      go : (b d : Bool) → b ≡ d → AreSameNamed (line_values c (filter test_line ls)) (filter test_value ps) → AreSameNamed (line_values c (cond b (l ∷ filter test_line ls) (filter test_line ls))) (cond d (p ∷ filter test_value ps) (filter test_value ps))
      go b d e rest = subst (λ x. AreSameNamed (line_values c (cond b (l ∷ filter test_line ls) (filter test_line ls))) (cond x (p ∷ filter test_value ps) (filter test_value ps))) e (here b rest)

  last : (ls : List LineD) (ps : NamedValues) (t : TermD) → AreSameNamed (line_values c ls) ps → option_map (λ l. l.term) (last_line ls) ≡ Some t → (v : PointValue) × (last_value ps ≡ Some v) × IsSame (point t c) v
  last [] ps t h e = absurd (cc)
  last (l ∷ ls) [] t h e = absurd h
  last (l ∷ []) (p ∷ []) t h e = let is : l.term ≡ t = cc in (p.holds, refl, subst (λ z. IsSame (point z c) p.holds) is h.1)
  last (l ∷ []) (p ∷ q ∷ ps) t h e = absurd h.2
  last (l ∷ m ∷ ls) (p ∷ []) t h e = absurd h.2
  last (l ∷ m ∷ ls) (p ∷ q ∷ ps) t h e = last (m ∷ ls) (q ∷ ps) t h.2 e

  -- the value that the script prints is that of the line's term
  pub found : (k : CaseD) (ps : NamedValues) (t : TermD) → HasTerm name k t → AreSameNamed (line_values c k.lines) ps → (v : PointValue) × (printed_as name ps ≡ Some v) × IsSame (point t c) v
  found k ps t h s = last (filter test_line k.lines) (filter test_value ps) t (filtered k.lines ps s) h
