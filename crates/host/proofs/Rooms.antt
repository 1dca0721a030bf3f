-- Plays with more room, and with room enough.
use Rattle.std.proofs.Common.{◌≡◌, ℕ, ◌+◌, ◌-◌, ◌*◌, ◌≤◌, List, [], ◌++◌, length, sym, refl, ap, ◌∙◌, subst, arith}
use Rattle.std.proofs.lemmas.List.{append_assoc, append-nil}
use Rattle.theory.specs.Banks.{Bank}
use Rattle.theory.specs.Calls.{Plan}
use Rattle.files.specs.Plays.{called, input_ended, report_full, Outcome, ends, after_line}
use Rattle.files.proofs.Playing.{play_done}
use Rattle.files.proofs.Rounds.{line_short}
use Rattle.host.specs.Laws.{played, FrontsTheLonger, RoomEnough}
use Rattle.host.proofs.Inducts.{its_line, goes_on, stops, Inductive, every_play}

module _ (bank : Bank) (size : ℕ) where
  abbrev Fronts : Outcome → Outcome → Type 0
  Fronts short long = ((rest : List ℕ) × (long.text ≡ short.text ++ rest)) × ((short.ending ≡ report_full → ⊥) → long ≡ short)

  abbrev P : ℕ → Plan → List ℕ → Outcome → Type 0
  P room plan bytes play = (more : ℕ) → Fronts play (played bank size (room + more) plan bytes)

  same : (play long : Outcome) → long ≡ play → Fronts play long
  same play long e = (([], ap (λ (o : Outcome). o.text) e ∙ sym (append-nil play.text)), λ other. e)

  fronts : Inductive bank size P
  fronts = record {
    at_end = λ room plan more. same (ends [] input_ended) _ (play_done bank size 0 (room + more) plan [] refl);
    full = λ room plan bytes some none more. (((played bank size (room + more) plan bytes).text, refl), λ other. absurd (other refl));
    stop = λ room plan bytes fault some enough e more. same _ _ (stops bank size (room + more) plan bytes some (omega arith) fault e);
    on = λ room plan bytes sent rest play enough e fewer h more.
        let line = its_line bank size plan bytes sent in
        let short = line_short (size - length bytes) (called bank plan sent) in
        let apart : (room + more) - length line ≡ (room - length line) + more = omega arith in
        let long = rw apart at (goes_on bank size (room + more) plan bytes (omega arith) (omega arith) sent rest e) in
        let ih = h more in
        subst (Fronts (after_line line play)) (sym long) (
          (ih.0.0, cc (append_assoc line play.text ih.0.0)),
          λ other. ap (after_line line) (ih.1 other),
        );
  }

  abbrev Q : ℕ → Plan → List ℕ → Outcome → Type 0
  Q room plan bytes play = 10 * length bytes + 10 ≤ room → play.ending ≡ report_full → ⊥

  not_full : Inductive bank size Q
  not_full = record {
    at_end = λ room plan wide full. cc;
    full = λ room plan bytes some none wide. absurd (omega arith);
    stop = λ room plan bytes fault some enough e wide full. cc;
    on = λ room plan bytes sent rest more enough e fewer h wide. let short = line_short (size - length bytes) (called bank plan sent) in h (omega arith);
  }

pub fronts_the_longer : FrontsTheLonger
fronts_the_longer bank size room more plan bytes = every_play bank size (P bank size) (fronts bank size) room plan bytes more

pub room_enough : RoomEnough
room_enough bank size = every_play bank size (Q bank size) (not_full bank size)
