-- What the exported play answers, and the laws of reports.
use Rattle.std.proofs.Common.{length}
use Rattle.host.proofs.Sound.{told_below}
use Rattle.host.proofs.Told.{answers}
use Rattle.host.proofs.Entries.{line_by_line}
use Rattle.host.proofs.Plain.{lines_are_text}
use Rattle.host.proofs.Digits.{digits_read_back}
use Rattle.host.proofs.Hearing.{lines_tell}
use Rattle.host.proofs.Fitting.{numbers_fit}
use Rattle.host.proofs.Refusals.{refusals_leave_the_plan}
use Rattle.host.proofs.Turns.{in_turn}
use Rattle.host.proofs.Rooms.{fronts_the_longer, room_enough}
use Rattle.host.proofs.linenscribe_play.Goals as goal

pub returns : goal.returns
returns c =
    let n = c.from.ensures in
    record {
      answer =
          answers c.from.result c.args.report.now c.play.new.report c.play.result.written _ n.written
          (told_below c.args.file.now (length c.args.report.now))
          c.play.result.fault c.play.ensures.plays c.play.ensures.wanting n.fault n.offset c.play.auto.report;
      line_by_line = line_by_line;
      lines_are_text = lines_are_text;
      digits_read_back = digits_read_back;
      lines_tell = lines_tell;
      numbers_fit = numbers_fit;
      refusals_leave_the_plan = refusals_leave_the_plan;
      in_turn = in_turn;
      fronts_the_longer = fronts_the_longer;
      room_enough = room_enough;
    }
