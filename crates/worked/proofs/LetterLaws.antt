-- Letters keep the laws.
use Rattle.std.proofs.Common.{rules}
use Rattle.standpoint.specs.Algebra.{Laws}
use Rattle.standpoint.specs.Grades.{letter}

pub letter_laws : Laws letter
letter_laws = search rules
