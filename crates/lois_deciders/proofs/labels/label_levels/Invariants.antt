use Rattle.lois_deciders.specs.Labels.{IsLabelling, AreClasses}
use Rattle.lois_deciders.proofs.labels.label_levels.Given as goal

abbrev pub invariant-loop-lit : goal.invariant-loop-lit
invariant-loop-lit l = record {
  labelling : IsLabelling l.size l.cube l.lit-index l.labels.items;
  classes : AreClasses l.labels.items l.classes.items;
}
