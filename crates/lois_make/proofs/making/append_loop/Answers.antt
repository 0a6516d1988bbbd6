use Rattle.std.proofs.Common.{◌≡◌, List, ℕ, ◌++◌, [], ◌∷◌, ◌+◌, ◌%◌, codes, ap, ◌∙◌, append_assoc}
use Rattle.lois_answers.specs.ResultsText.{lined}
use Rattle.lois_make.proofs.making.append_loop.Goals as goal

-- three pieces behind one another
three : (old one two new a b d : List ℕ) → one ≡ old ++ a → two ≡ one ++ b → new ≡ two ++ d → new ≡ old ++ (a ++ b ++ d)
three old one two new a b d f g h =
    h ∙ (ap (λ (l : List ℕ). l ++ d) (g ∙ (ap (λ (l : List ℕ). l ++ b) f ∙ append_assoc old a b)) ∙ append_assoc old (a ++ b) d)

pub returns : goal.returns
returns c =
    three c.args.text.now.items c.extend_from_slice.new.self.items c.extend_from_slice-2.new.self.items c.extend_from_slice-3.new.self.items
    (codes "for x in atoms { for y in atoms { if x != y { add ('k") ((48 + c.args.number % 7) ∷ []) (lined (codes ", x, y) to s; } } }"))
    c.in_ok-extend_from_slice.ensures.items c.in_ok-extend_from_slice-2.ensures.items c.in_ok-extend_from_slice-3.ensures.items
