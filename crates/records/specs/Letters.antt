-- The letter of a reading.
use Rattle.std.specs.Prelude.{ℕ, cond, Ok, Err, Result, ◌==◌}
use Rattle.records.specs.declared.fault.ReaderFault.{ReaderFault}
use Rattle.records.specs.declared.fault.ReaderFault.TheVariants.{UnknownLetter}
use Rattle.records.specs.declared.letter.ReadingName.{ReadingName}
use Rattle.records.specs.declared.letter.ReadingName.TheVariants.{Flp, Ferraris}

-- 76 is L and 82 is R
abbrev pub letter_answer : ℕ → Result ReadingName ReaderFault
letter_answer byte = cond (byte == 76) (Ok Flp) (cond (byte == 82) (Ok Ferraris) (Err UnknownLetter))
