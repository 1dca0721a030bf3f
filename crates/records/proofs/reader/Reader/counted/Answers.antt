-- A part that cannot be read ends the loop with its fault.
use Rattle.std.proofs.Common.{arith}
use Rattle.records.proofs.Repeats.{repeat_failed}
use Rattle.records.proofs.reader.Reader.counted.Goals as goal

pub returns-in_err-read : goal.returns-in_err-read
returns-in_err-read g c = grind (arith, repeat_failed)
