use Rattle.std.proofs.Common.{subst}
use Rattle.lois_automata.specs.Rounds.{IsSettled}
use Rattle.lois_automata.proofs.Rounding.{all_new}
use Rattle.lois_automata.proofs.frontier.frontier_of.Goals as goal

pub returns-then-is_same_family : goal.returns-then-is_same_family
returns-then-is_same_family c x h = subst (λ z. IsSettled x z c.args.frontier.now) (c.is_same_family.ensures.0 c.if-is_same_family.true) h

pub returns : goal.returns
returns c x h = all_new x c.args.family.now
