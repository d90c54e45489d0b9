use Rattle.std.proofs.lemmas.Result.{err_from_is_err_and}
use Rattle.blockfile.proofs.Unsound.{faulty_blocks}
use Rattle.blockfile.proofs.check.check_file.Goals as goal

pub returns-in_err-check_blocks-clause-sound : goal.returns-in_err-check_blocks-clause-sound
returns-in_err-check_blocks-clause-sound g c =
    rw (err_from_is_err_and c.from_residual.result c.from_residual.ensures.1).1
    (faulty_blocks g.K.StoredKind.KIND_BYTE c.args.file.now c.in_err-check_blocks.field-0.0 c.in_err-check_blocks.ensures)
