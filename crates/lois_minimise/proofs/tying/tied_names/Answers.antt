use Rattle.std.proofs.Common.{◌≡◌, ◌+◌, ◌∷◌, ◌++◌, [], length, length-append, get_or, sym, subst, ap, ◌∙◌}
use Rattle.lois_minimise.specs.Ties.{IsName}
use Rattle.lois_minimise.proofs.Ties.{name_pushed}
use Rattle.lois_minimise.proofs.tying.tied_names.Goals as goal

pub loop-level-preserved : goal.loop-level-preserved
loop-level-preserved c =
    let names = c.loop-level.names.items in
    let level = c.loop-level.level in
    let pushed : c.push.new.self.items ≡ names ++ c.name_of.result ∷ [] = c.in_ok-push.ensures.items in
    record {
      count = ap length pushed ∙ (length-append names (c.name_of.result ∷ []) ∙ ap (λ k. k + 1) c.loop-level.invariant.count);
      each = λ i l. subst (λ z. IsName c.args.size c.args.by c.args.ties.now i (get_or z i 0)) (sym pushed) (name_pushed c.args.size c.args.by c.args.ties.now names level c.name_of.result c.loop-level.invariant.count c.loop-level.invariant.each c.name_of.ensures i l);
    }
