use Rattle.std.proofs.Common.{take, map}
use Rattle.lois_base.specs.Data.{comps_of}
use Rattle.lois_base.specs.Tree.{comp_of}
use Rattle.lois_terms.specs.Binding.{ItemsBindNothing}
use Rattle.lois_context.proofs.content.bind_nothing.Given as goal

abbrev pub invariant-loop-comp : goal.invariant-loop-comp
invariant-loop-comp l = ItemsBindNothing (comps_of (map comp_of (take l.comp-index l.comps)))
