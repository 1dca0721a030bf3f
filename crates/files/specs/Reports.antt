-- A report on its way: what fits at its end, and what was written there.
use Rattle.std.specs.Prelude.{◌≡◌, ℕ, ◌+◌, ◌≤◌, List, length}
use Rattle.files.specs.declared.report.Report.{Report}
use Rattle.files.specs.Lines.{written}

abbrev pub Fits : Report → List ℕ → Type 0
Fits report text = report.written + length text ≤ length report.bytes.now

-- any line fits
abbrev pub HasRoom : Report → Type 0
HasRoom report = report.written + 20 ≤ length report.bytes.now

-- a text was written at the end of the report; its bytes are in the same place, and as many
pub record Wrote (before after : Report) (text : List ℕ) : Type 0 where
  pub place : after.bytes.ghost_name ≡ before.bytes.ghost_name
  pub size : length after.bytes.now ≡ length before.bytes.now
  pub end : after.written ≡ before.written + length text
  pub bytes : after.bytes.now ≡ written before.bytes.now before.written text
