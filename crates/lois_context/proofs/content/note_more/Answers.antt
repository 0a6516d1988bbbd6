use Rattle.std.proofs.Common.{map}
use Rattle.lois_base.specs.Tree.{comp_of}
use Rattle.lois_base.specs.declared.limits.TheConstants.{GREATEST_DEPTH}
use Rattle.lois_context.proofs.Contents.{with_depth, with_unbound}
use Rattle.lois_context.proofs.content.note_more.Goals as goal

pub returns : goal.returns
returns c = λ t h.
    let more = map comp_of c.args.more.now in (
      λ yes. let p = c.stays_unbound.ensures yes in with_unbound t more (h.0 p.0) p.1,
      λ yes. let p = c.stays_shallow.ensures yes in with_depth t more GREATEST_DEPTH (h.1 p.0) p.1,
    )
