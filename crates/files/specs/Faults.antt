-- The number of each fault of a file: a fault of the plan keeps its own.
use Rattle.std.specs.Prelude.{ℕ}
use Rattle.theory.specs.Calls.{number}
use Rattle.plans.specs.Refusals.{refusal_of}
use Rattle.records.specs.Faults.{reader_number}
use Rattle.files.specs.declared.fault.FileFault.{FileFault}
use Rattle.files.specs.declared.fault.FileFault.TheVariants.{Reader, Plan}

abbrev pub fault_number : FileFault → ℕ
fault_number (Reader f) = reader_number f
fault_number (Plan f) = number (refusal_of f.refusal)
