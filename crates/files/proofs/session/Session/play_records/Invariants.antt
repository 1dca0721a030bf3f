-- What was written with what is to come is all.
use Rattle.std.proofs.Common.{length}
use Rattle.files.proofs.Rounds.{SoFar}
use Rattle.files.proofs.session.Session.play_records.Given as goal

abbrev pub invariant-loop-self : goal.invariant-loop-self
invariant-loop-self g l = SoFar g.B.Bank.meaning l.initial.self l.initial.report l.self l.report

abbrev pub decreases-loop-self : goal.decreases-loop-self
decreases-loop-self g l = length l.self.reader
