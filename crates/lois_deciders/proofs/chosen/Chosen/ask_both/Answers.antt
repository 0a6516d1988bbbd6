use Rattle.std.proofs.Common.{sym, ◌∙◌}
use Rattle.lois_deciders.proofs.Oracle.{sample_alike, none_alike}
use Rattle.lois_deciders.proofs.chosen.Chosen.ask_both.Goals as goal

pub ask-requires-2 : goal.ask-requires-2
ask-requires-2 g c = c.in_ok-product.ensures.fits c.args.size c.requires.first c.requires.second

pub returns-clause-sample : goal.returns-clause-sample
returns-clause-sample g c =
    sample_alike c.args.size c.in_ok-product.product c.args.pruned.now (λ d. c.requires.truth d ∙ sym (c.in_ok-product.ensures.truth d)) c.ask-2.result c.ask-2.ensures.sample

pub returns-clause-none : goal.returns-clause-none
returns-clause-none g c =
    none_alike c.args.size c.in_ok-product.product c.args.pruned.now (λ d. c.requires.truth d ∙ sym (c.in_ok-product.ensures.truth d)) c.ask-2.result c.ask-2.ensures.none
