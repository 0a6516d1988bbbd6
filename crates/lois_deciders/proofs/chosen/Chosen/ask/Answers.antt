use Rattle.std.proofs.Common.{rules, refl}
use Rattle.lois_deciders.proofs.Oracle.{on_ok, asked_at}
use Rattle.lois_deciders.proofs.OnlyAsked.{only_asked_one}
use Rattle.lois_deciders.proofs.chosen.Chosen.ask.Goals as goal

pub returns-clause-asked : goal.returns-clause-asked
returns-clause-asked g c =
    on_ok c.put.result _ _ (λ f l. asked_at (λ b. (goal.Decider-dyn g (b.vtable, b.value)).questions b.value) c.args.self.now.deciders.items c.args.self.now.position c.index_mut.result.now c.put.new.decider (search rules) c.index_mut.ensures.value (f l)) c.put.ensures.asked

pub returns-clause-only_asked : goal.returns-clause-only_asked
returns-clause-only_asked g c =
    only_asked_one (λ b. (goal.Decider-dyn g (b.vtable, b.value)).kind_of b.value) (λ b. (goal.Decider-dyn g (b.vtable, b.value)).questions b.value) c.args.self.now _ c.index_mut.result.now c.put.new.decider (search rules) c.index_mut.ensures.value refl refl c.put.ensures.kind c.put.ensures.more
