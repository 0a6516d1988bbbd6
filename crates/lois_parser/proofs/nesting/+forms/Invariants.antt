use Rattle.lois_parser.proofs.nesting.+forms.Given as goal

abbrev pub decreases-expression : goal.decreases-expression
decreases-expression l = l.depth_left

abbrev pub decreases-condition : goal.decreases-condition
decreases-condition l = l.depth_left
