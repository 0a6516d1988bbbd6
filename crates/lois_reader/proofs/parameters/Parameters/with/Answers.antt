use Rattle.std.proofs.Common.{ℕ, List, [], ◌∷◌, ◌++◌, sym, ap, ◌∙◌}
use Rattle.lois_reader.proofs.Places.{behind}
use Rattle.lois_reader.proofs.parameters.Parameters.with.Goals as goal

pub invariant_of-result : goal.invariant_of-result
invariant_of-result c =
    let before = c.self.invariant ∙ c.self.view_is in
    behind c.args.word c.self.inside.words.keys c.insert.new.self.keys c.args.self before c.requires.new c.in_ok-insert.ensures.keys
    ∙ ap (λ (x : List ℕ). c.args.self ++ x ∷ []) (sym c.requires.same) ∙ ap (λ (xs : List (List ℕ)). xs ++ c.args.name ∷ []) (sym c.self.view_is) ∙ sym c.in_ok-push.ensures.ok
