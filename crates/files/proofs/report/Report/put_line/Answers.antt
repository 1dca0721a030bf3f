-- A line is three texts, one after the other.
use Rattle.std.proofs.Common.{rules}
use Rattle.files.proofs.Joins.{wrote_more}
use Rattle.files.proofs.report.Report.put_line.Goals as goal

pub returns : goal.returns
returns c = search (rules, wrote_more)
