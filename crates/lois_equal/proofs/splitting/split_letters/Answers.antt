use Rattle.std.proofs.Common.{◌≡◌, [], List, take, map, sym, ap, ◌∙◌, subst, arith}
use Rattle.std.specs.List.{AllZip}
use Rattle.std.proofs.lemmas.Grind.{common_steps}
use Rattle.lois_base.specs.Data.{TermD}
use Rattle.lois_base.specs.Tree.{tree}
use Rattle.lois_equal.specs.SplitWords.{IsSplitLetter}
use Rattle.lois_equal.proofs.SplitLetters.{letters_read}
use Rattle.lois_equal.proofs.splitting.split_letters.Goals as goal

pub loop-letter-init : goal.loop-letter-init
loop-letter-init c = subst (λ (zs : List TermD). AllZip IsSplitLetter [] zs) (sym c.new-split.ensures) tt

pub loop-letter-preserved : goal.loop-letter-preserved
loop-letter-preserved c =
    let split = c.in_ok-split_term.ensures in
    letters_read c.loop-letter.letter-index c.as_slice-letter-items.result.now c.loop-letter.split c.push.new.self c.letter-item.result c.in_ok-split_term.field-0 (omega arith) c.letter-item.is c.in_ok-push.ensures.ok c.loop-letter.invariant (record { value = split.value; strict = split.strict; levels = split.levels; operators = split.operators; widths = split.widths; depths = split.depth })

pub returns : goal.returns
returns c =
    let whole : take c.loop-letter.letter-index c.as_slice-letter-items.result.now ≡ c.as_slice-letter-items.result.now = grind (arith, common_steps) in
    subst (λ (zs : List TermD). AllZip IsSplitLetter zs c.loop-letter.split) (ap (map tree) whole ∙ c.as_slice-letter-items.ensures) c.loop-letter.invariant
