use Rattle.std.proofs.Common.{nat_eq, sym, ap, ◌∙◌, option_copied}
use Rattle.std.specs.HashMap.{get}
use Rattle.lois_context.proofs.Merged.{none_placed}
use Rattle.lois_context.proofs.merging.partner_of.Goals as goal

pub returns-in_default-clause-none : goal.returns-in_default-clause-none
returns-in_default-clause-none c = λ _.
    none_placed (get nat_eq c.args.places.now) c.args.hashes.now c.args.contexts.now c.args.context.now c.args.hash c.requires.places c.requires.hashes c.requires.hash (sym c.get.ensures.value ∙ ap option_copied c.in_default.is)
