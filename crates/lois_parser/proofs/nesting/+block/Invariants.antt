use Rattle.lois_parser.proofs.nesting.+block.Given as goal

abbrev pub decreases-block : goal.decreases-block
decreases-block l = l.depth_left
