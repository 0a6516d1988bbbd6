use Rattle.std.proofs.Common.{◌++◌, ◌∷◌, [], inl, sym, ap, ◌∙◌}
use Rattle.std.proofs.lemmas.Bool.{false≢true}
use Rattle.lois_base.specs.Tree.{comp_of}
use Rattle.lois_eval.proofs.flattening.put_set.Goals as goal

pub returns-then-is_set-clause-kept : goal.returns-then-is_set-clause-kept
returns-then-is_set-clause-kept g c =
    inl (c.is_set.ensures.0 c.if-is_set.true, c.in_ok-push.ensures.ok ∙ ap (λ z. c.args.kept.now ++ comp_of z ∷ []) c.in_ok-copy.ensures)

pub check_empty-requires : goal.check_empty-requires
check_empty-requires g c = record {
  sound = c.requires.sound;
  over = c.requires.over;
  item = λ set. false≢true (sym c.if-is_set.false ∙ c.is_set.ensures.1 set);
}
