use Rattle.lois_base.specs.Tree.{tree}
use Rattle.lois_strict.proofs.SplitTerms.{split_is_same, split_is_strict, split_fits, split_admits, split_is_bounded, split_is_as_deep}
use Rattle.lois_strict.proofs.terms.split_term.Goals as goal

pub returns-clause-value : goal.returns-clause-value
returns-clause-value c =
    λ a. split_is_same (tree c.args.term.now) (tree c.in_ok-split.split) a c.in_ok-split.ensures

pub returns-clause-strict : goal.returns-clause-strict
returns-clause-strict c =
    split_is_strict (tree c.args.term.now) (tree c.in_ok-split.split) c.in_ok-split.ensures

pub returns-clause-levels : goal.returns-clause-levels
returns-clause-levels c =
    λ n. split_fits (tree c.args.term.now) (tree c.in_ok-split.split) n c.in_ok-split.ensures

pub returns-clause-operators : goal.returns-clause-operators
returns-clause-operators c =
    λ o. split_admits (tree c.args.term.now) (tree c.in_ok-split.split) o c.in_ok-split.ensures

pub returns-clause-widths : goal.returns-clause-widths
returns-clause-widths c =
    split_is_bounded (tree c.args.term.now) (tree c.in_ok-split.split) c.in_ok-split.ensures

pub returns-clause-depth : goal.returns-clause-depth
returns-clause-depth c =
    split_is_as_deep (tree c.args.term.now) (tree c.in_ok-split.split) c.in_ok-split.ensures
