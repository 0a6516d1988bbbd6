use Rattle.std.proofs.Common.{refl}
use Rattle.lois_shortest_word.specs.declared.words.Word.{Word}
use Rattle.lois_equal.proofs.SplitLetters.{levels_split, word_split}
use Rattle.lois_equal.proofs.splitting.split_word.Goals as goal

pub drop_unused_numbers-requires-clause-levels : goal.drop_unused_numbers-requires-clause-levels
drop_unused_numbers-requires-clause-levels c =
    let split : Word = record { sample = c.args.word.sample; letters = c.in_ok-letters.letters } in
    levels_split c.args.size c.args.word split split refl c.in_ok-letters.ensures c.requires.levels

pub returns : goal.returns
returns c =
    let split : Word = record { sample = c.args.word.sample; letters = c.in_ok-letters.letters } in
    word_split c.args.size c.args.word split c.in_ok-shorter.shorter refl c.in_ok-letters.ensures c.in_ok-shorter.ensures.shortened c.in_ok-shorter.ensures.used
