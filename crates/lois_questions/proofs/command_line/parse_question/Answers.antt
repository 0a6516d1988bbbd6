use Rattle.std.proofs.Common.{◌≡◌, ℕ, true, false, List, [], map, string_bytes, Global, sym, subst, ◌∙◌}
use Rattle.std.proofs.lemmas.Result.{IfOk-weaker}
use Rattle.clap.specs.Words.{App, HasKind, HasMatchesOf, fault_of, is_simple_and_free, kind_of}
use Rattle.clap.specs.declared.error.kind.ErrorKind.TheVariants.{OutOfMemory}
use Rattle.lois_command.specs.CommandWords.{are_plain}
use Rattle.lois_questions.specs.CommandLine.{program}
use Rattle.lois_questions.proofs.CommandLine.{found_is_asked, refused_is_none, unexpected}
use Rattle.lois_questions.proofs.command_line.parse_question.Goals as goal

pub returns-then-not-are_plain : goal.returns-then-not-are_plain
returns-then-not-are_plain c =
    let texts : List (List ℕ) = map (string_bytes {Z = Global}) c.args.words.now in
    let never : are_plain texts ≡ false = cc (c.are_plain.ensures, c.if-not-are_plain.true) in
    sym (unexpected texts never)

pub returns-in-Ok : goal.returns-in-Ok
returns-in-Ok c =
    let texts : List (List ℕ) = map (string_bytes {Z = Global}) c.args.words.now in
    let expected : are_plain texts ≡ true = cc (c.are_plain.ensures, c.if-not-are_plain.false) in
    let matches : HasMatchesOf program texts c.in-Ok.matches = subst (λ (a : App). HasMatchesOf a texts c.in-Ok.matches) c.in_ok-program.ensures c.in-Ok.ensures.matches in
    let none : is_simple_and_free program ≡ true → fault_of program texts ≡ [] = subst (λ (a : App). is_simple_and_free a ≡ true → fault_of a texts ≡ []) c.in_ok-program.ensures c.in-Ok.ensures.kinds in
    IfOk-weaker c.question_found.result _ _ (λ o h. h ∙ found_is_asked texts c.in-Ok.matches expected matches none) c.question_found.ensures

pub returns-in-Err-2 : goal.returns-in-Err-2
returns-in-Err-2 c =
    let texts : List (List ℕ) = map (string_bytes {Z = Global}) c.args.words.now in
    let expected : are_plain texts ≡ true = cc (c.are_plain.ensures, c.if-not-are_plain.false) in
    let kinds : is_simple_and_free program ≡ true → HasKind (fault_of program texts) c.in-Err.error = subst (λ (a : App). is_simple_and_free a ≡ true → HasKind (fault_of a texts) c.in-Err.error) c.in_ok-program.ensures c.in-Err.ensures.kinds in
    sym (refused_is_none texts c.in-Err.error expected kinds (λ (memory : kind_of c.in-Err.error ≡ OutOfMemory).
    let same : c.eq.result ≡ true = rw (c.kind.ensures ∙ memory) at c.eq.ensures in
    cc (same, c.if-eq.false)))
