-- A report is a line for each record, in turn.
use Rattle.std.proofs.Common.{◌≡◌, ℕ, ◌-◌, [], ◌∷◌, ◌++◌, length, refl, subst, arith}
use Rattle.std.proofs.lemmas.List.{append_assoc, length-append}
use Rattle.theory.specs.Banks.{Bank}
use Rattle.files.specs.Plays.{called, unread_line}
use Rattle.host.specs.Laws.{lines, Ends, Reported, LineByLine}
use Rattle.host.proofs.Inducts.{its_line, Inductive, every_play}

reported : (bank : Bank) (size : ℕ) → Inductive bank size (Reported bank size)
reported bank size = record {
  at_end = λ room plan. record { entries = []; after = plan; left = []; last = []; run = (refl, refl); text = refl; ends = (refl, refl) };
  full = λ room plan bytes some none. record { entries = []; after = plan; left = bytes; last = []; run = (refl, refl); text = refl; ends = (some, omega arith, refl) };
  stop = λ room plan bytes fault some enough e. record {
    entries = [];
    after = plan;
    left = bytes;
    last = unread_line (size - length bytes) fault;
    run = (refl, refl);
    text = refl;
    ends = (omega arith, e, refl, refl);
  };
  on = λ room plan bytes sent rest more enough e fewer h.
      let line = its_line bank size plan bytes sent in
      let same : (room - length line) - length (lines h.entries) ≡ room - length (line ++ lines h.entries) =
      omega (arith, length-append line (lines h.entries)) in
      record {
        entries = record { offset = size - length bytes; answer = called bank plan sent } ∷ h.entries;
        after = h.after;
        left = h.left;
        last = h.last;
        run = (sent, rest, enough, e, refl, h.run);
        text = cc (append_assoc line (lines h.entries) h.last);
        ends = subst (λ (n : ℕ). Ends more.ending size n h.left h.last) same h.ends;
      };
}

pub line_by_line : LineByLine
line_by_line bank size = every_play bank size (Reported bank size) (reported bank size)
