use Rattle.std.proofs.Common.{length, ap, lit≤, arith}
use Rattle.standpoint.specs.declared.kinds.grades.LetterGrade.TheVariants.{D}
use Rattle.standpoint.specs.Grades.{letter}
use Rattle.worked.specs.Lists.{clash_outcomes}
use Rattle.worked.proofs.Together.{letter_clash}
use Rattle.worked.proofs.Replaying.{come_to_same}
use Rattle.worked.proofs.calls.clash_of_letters.Goals as goal

pub returns : goal.returns
returns c =
    let long = ap length c.clash_calls-calls.ensures in
    c.perform.ensures (clash_outcomes D) (come_to_same letter 47 _ _ _ c.clash_calls-calls.ensures (letter_clash 47 (lit≤ tt))) (omega arith)
