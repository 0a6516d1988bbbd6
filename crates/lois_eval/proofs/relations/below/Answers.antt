use Rattle.std.proofs.Common.{inl, inr, ap}
use Rattle.lois_base.specs.Tree.{tree}
use Rattle.lois_answers.specs.declared.faults.FaultKind.TheVariants.{NotAtoms}
use Rattle.lois_eval.specs.Checks.{IsFaultWith}
use Rattle.lois_eval.specs.Compared.{IsBelowFault}
use Rattle.lois_eval.proofs.FaultsAt.{if_fault, own_sample, fault_at}
use Rattle.lois_eval.proofs.TermKinds.{no_var}
use Rattle.lois_eval.proofs.relations.below.Goals as goal

pub returns-in_default : goal.returns-in_default
returns-in_default c =
    let k = c.args.context.now in
    record {
      truth = tt;
      levels = tt;
      operators = tt;
      fault = if_fault c.fault_under-in_default.result (IsFaultWith c.args.s_pos NotAtoms k.sample) (IsBelowFault k (tree c.args.s.now) c.args.s_pos.offset (tree c.args.t.now) c.args.t_pos.offset) (λ f h. inl (record {
        fault = fault_at k c.args.s_pos NotAtoms k.sample (own_sample k) f h;
        kind = h.kind;
        no_atom = no_var c.args.s.now c.in_default.not-Var;
      })) c.fault_under-in_default.ensures;
    }

pub returns-in_default-t : goal.returns-in_default-t
returns-in_default-t c =
    let k = c.args.context.now in
    record {
      truth = tt;
      levels = tt;
      operators = tt;
      fault = if_fault c.fault_under.result (IsFaultWith c.args.t_pos NotAtoms k.sample) (IsBelowFault k (tree c.args.s.now) c.args.s_pos.offset (tree c.args.t.now) c.args.t_pos.offset) (λ f h. inr (
        (c.in-Var.left, ap tree c.in-Var.is),
        record {
          fault = fault_at k c.args.t_pos NotAtoms k.sample (own_sample k) f h;
          kind = h.kind;
          no_atom = no_var c.args.t.now c.in_default-t.not-Var;
        },
      )) c.fault_under.ensures;
    }
