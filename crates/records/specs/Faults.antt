-- The number of each fault of the reader.
use Rattle.std.specs.Prelude.{ℕ}
use Rattle.records.specs.declared.fault.ReaderFault.{ReaderFault}
use Rattle.records.specs.declared.fault.ReaderFault.TheVariants.{Short, UnknownMark, UnknownLetter, TooManyTallies, TooManyElements, NoMemory}

abbrev pub reader_number : ReaderFault → ℕ
reader_number Short = 1
reader_number UnknownMark = 2
reader_number UnknownLetter = 3
reader_number TooManyTallies = 9
reader_number TooManyElements = 9
reader_number NoMemory = 99
