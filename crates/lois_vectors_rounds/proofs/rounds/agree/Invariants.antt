use Rattle.std.proofs.Common.{ℕ, ◌<◌, get_or}
use Rattle.lois_rounds.specs.Families.{MemberD}
use Rattle.lois_vectors_rounds.specs.Worked.{MembersAgree}
use Rattle.lois_vectors_rounds.proofs.rounds.agree.Given as goal

abbrev pub invariant-loop-index : goal.invariant-loop-index
invariant-loop-index l =
    (k : ℕ) (d : MemberD) → k < l.index → MembersAgree (get_or l.family k d) (get_or l.others k d)
