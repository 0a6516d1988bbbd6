use Rattle.std.proofs.Common.{ℕ, Option, sym, ap, subst}
use Rattle.std.specs.Global.{Vec}
use Rattle.std.specs.List.{All}
use Rattle.lru.specs.LruCache.{LruCache}
use Rattle.lois_deciders.specs.Kept.{IsRightEntry, Answers}
use Rattle.lois_deciders.specs.Remembering.{Kept}
use Rattle.lois_deciders.specs.contracts.questions.QuestionPartialEq.TheImpl.{eq-value}
use Rattle.lois_deciders.specs.declared.questions.Question.{Question}
use Rattle.lois_deciders.proofs.Remembered.{promoted_right, found_right, questions_same, answered_sample, answered_none, answers_at, used_kept, put_kept}
use Rattle.lois_deciders.proofs.memo.MemoDeciderDecider.satisfiable.Goals as goal

pub invariant_of-self-in-Some : goal.invariant_of-self-in-Some
invariant_of-self-in-Some c = record {
  right = subst (λ (d : LruCache Question (Option (Vec ℕ))). All IsRightEntry d.entries) (sym c.promote.ensures.entries) (promoted_right (eq-value.it c.in_ok-question.question) c.args.self.now.answers.entries c.args.self.now.right);
}

pub returns-in-Some-clause-sample : goal.returns-in-Some-clause-sample
returns-in-Some-clause-sample c =
    let q = c.in_ok-question.question in
    let right : Answers q c.in-Some.kept.now = found_right (eq-value.it q) q (questions_same q) c.args.self.now.answers.entries c.in-Some.kept.now c.args.self.now.right c.in-Some.ensures in
    answered_sample c.args.size c.args.cube.now q.literals.items c.in_ok-question.ensures.truth c.in_ok-answer.answer c.in-Some.kept.now c.in_ok-answer.ensures (answers_at c.args.size q c.in-Some.kept.now c.in_ok-question.ensures.size right)

pub returns-in-Some-clause-none : goal.returns-in-Some-clause-none
returns-in-Some-clause-none c =
    let q = c.in_ok-question.question in
    let right : Answers q c.in-Some.kept.now = found_right (eq-value.it q) q (questions_same q) c.args.self.now.answers.entries c.in-Some.kept.now c.args.self.now.right c.in-Some.ensures in
    answered_none c.args.size c.args.cube.now q.literals.items c.in_ok-question.ensures.truth c.in_ok-answer.answer c.in-Some.kept.now c.in_ok-answer.ensures (answers_at c.args.size q c.in-Some.kept.now c.in_ok-question.ensures.size right)

pub returns-in-Some-clause-kept : goal.returns-in-Some-clause-kept
returns-in-Some-clause-kept c =
    used_kept c.args.size c.args.cube.now c.in_ok-question.question c.in_ok-question.ensures.size c.in_ok-question.ensures.truth c.args.self.now.answers c.promote.new.self (ap (λ (d : Kept). d.entries) c.promote.ensures.entries)

pub returns-clause-kept : goal.returns-clause-kept
returns-clause-kept c =
    put_kept c.args.size c.args.cube.now c.in_ok-question.question c.in_ok-question.ensures.size c.in_ok-question.ensures.truth c.args.self.now.answers c.keep.new.answers c.in_ok-answer-2.answer c.keep.ensures.entries
