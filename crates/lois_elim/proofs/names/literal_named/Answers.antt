use Rattle.lois_elim.proofs.names.literal_named.Goals as goal

pub returns-clause-levels : goal.returns-clause-levels
returns-clause-levels c = λ n h. (c.level_named.ensures.levels n h, c.level_named-2.ensures.levels n h)
