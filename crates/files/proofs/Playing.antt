-- A play, record by record.
use Rattle.std.proofs.Common.{◌≡◌, ℕ, zero, suc, ◌-◌, ◌<◌, ◌≤◌, cond, eqb, ltb, List, [], ◌++◌, length, Result, sym, refl, ap, ◌∙◌, subst, inl, inr, arith}
use Rattle.std.proofs.lemmas.List.{append_assoc}
use Rattle.std.proofs.lemmas.Bool.{cond-true, cond-false, cond_both, cases_lt, eq-eqb, ne_eqb, lt-ltb, le-ltb}
use Rattle.theory.specs.Banks.{Bank}
use Rattle.theory.specs.Calls.{Plan, Refused}
use Rattle.records.specs.declared.fault.ReaderFault.{ReaderFault}
use Rattle.records.specs.Fields.{Read, got, failed}
use Rattle.files.specs.Lines.{Said}
use Rattle.records.specs.Records.{Sent, read_record}
use Rattle.files.specs.Plays.{Step, answered, unread, by_record, step, Ending, input_ended, input_too_long, report_full, unreadable, Outcome, ends, after_line, line_at, unread_line, play_from}
use Rattle.records.proofs.Shrinks.{Fewer, record_fewer}

-- a record leaves fewer bytes
abbrev pub Shorter : ℕ → Step → Type 0
Shorter n (answered answer plan rest) = length rest < n
Shorter n (unread fault) = Unit {0}

pub step_shorter : (bank : Bank) (plan : Plan) (bytes : List ℕ) → Shorter (length bytes) (step bank plan bytes)
unfolding step
step_shorter bank plan bytes = by (read_record bytes) (record_fewer bytes)
  where
    by : (r : Read Sent) → Fewer (length bytes) r → Shorter (length bytes) (by_record bank plan r)
    by (got sent rest) h = omega arith
    by (failed fault) h = tt

-- told apart from a file that is too long
abbrev is_long : Ending → ℕ
is_long input_ended = 0
is_long input_too_long = 1
is_long report_full = 0
is_long (unreadable at fault) = 0

module _ (bank : Bank) (size : ℕ) where
  -- what a step makes of the play, where n more records are allowed
  abbrev onward : ℕ → ℕ → List ℕ → Step → Outcome
  onward n room bytes s = elim s [
    | answered answer after rest ↦
        after_line (line_at (size - length bytes) answer) (play_from bank size n (room - length (line_at (size - length bytes) answer)) after rest)
    | unread fault ↦ ends (unread_line (size - length bytes) fault) (unreadable (size - length bytes) fault)
  ]

  pub play_done : (n room : ℕ) (plan : Plan) (bytes : List ℕ) → length bytes ≡ 0 → play_from bank size n room plan bytes ≡ ends [] input_ended
  unfolding play_from
  play_done zero room plan bytes e = refl
  play_done (suc n) room plan bytes e = cond-true _ _ _ (eq-eqb (length bytes) 0 e)

  play_more : (n room : ℕ) (plan : Plan) (bytes : List ℕ) → 0 < length bytes
      → play_from bank size (suc n) room plan bytes ≡ cond (ltb room 20) (ends [] report_full) (onward n room bytes (step bank plan bytes))
  unfolding play_from
  play_more n room plan bytes some = cond-false _ _ _ (ne_eqb (length bytes) 0 (λ e. omega arith))

  -- a play that was begun does not end because the file is too long
  not_long : (n room : ℕ) (plan : Plan) (bytes : List ℕ) → is_long (play_from bank size n room plan bytes).ending ≡ 0
  unfolding play_from
  not_long zero room plan bytes = refl
  not_long (suc n) room plan bytes =
      cond_both (eqb (length bytes) 0) (ends [] input_ended) _ (λ o. is_long o.ending ≡ 0) (λ e. refl)
      (λ e. cond_both (ltb room 20) (ends [] report_full) (onward n room bytes (step bank plan bytes)) (λ o. is_long o.ending ≡ 0) (λ e. refl)
      (λ e. by (not_long n) (step bank plan bytes)))
    where
      by : ((r : ℕ) (p : Plan) (rest : List ℕ) → is_long (play_from bank size n r p rest).ending ≡ 0) → (s : Step) → is_long (onward n room bytes s).ending ≡ 0
      by more (answered answer after rest) = more (room - length (line_at (size - length bytes) answer)) after rest
      by more (unread fault) = refl

  pub begun_short : (n room : ℕ) (plan : Plan) (bytes : List ℕ) → (play_from bank size n room plan bytes).ending ≡ input_too_long → ⊥
  begun_short n room plan bytes e = let l = not_long n room plan bytes in let k = ap is_long e in omega arith

  -- it does not matter how many more records are allowed, if there are as many as bytes
  same : (n m room : ℕ) (bytes : List ℕ) → ((r : ℕ) (p : Plan) (rest : List ℕ) → length rest < length bytes → play_from bank size n r p rest ≡ play_from bank size m r p rest)
      → (s : Step) → Shorter (length bytes) s → onward n room bytes s ≡ onward m room bytes s
  same n m room bytes ih (answered answer after rest) less =
      ap (after_line (line_at (size - length bytes) answer)) (ih (room - length (line_at (size - length bytes) answer)) after rest less)
  same n m room bytes ih (unread fault) less = refl

  enough : (n m room : ℕ) (plan : Plan) (bytes : List ℕ) → length bytes ≤ n → length bytes ≤ m
      → play_from bank size n room plan bytes ≡ play_from bank size m room plan bytes
  enough zero m room plan bytes a b = play_done 0 room plan bytes (omega arith) ∙ sym (play_done m room plan bytes (omega arith))
  enough (suc n) zero room plan bytes a b = play_done (suc n) room plan bytes (omega arith) ∙ sym (play_done 0 room plan bytes (omega arith))
  enough (suc n) (suc m) room plan bytes a b =
      elim (cases_lt 0 (length bytes)) [
        | inl some ↦ play_more n room plan bytes some
            ∙ ap (cond (ltb room 20) (ends [] report_full))
            (same n m room bytes (λ r p rest less. enough n m r p rest (omega arith) (omega arith)) (step bank plan bytes) (step_shorter bank plan bytes))
            ∙ sym (play_more m room plan bytes some)
        | inr none ↦ play_done (suc n) room plan bytes (omega arith) ∙ sym (play_done (suc m) room plan bytes (omega arith))
      ]

  module _ (room : ℕ) (plan : Plan) (bytes : List ℕ) (some : 0 < length bytes) where
    first : play_from bank size (length bytes) room plan bytes ≡ cond (ltb room 20) (ends [] report_full) (onward (length bytes - 1) room bytes (step bank plan bytes))
    first =
        let e : length bytes ≡ suc (length bytes - 1) = omega arith in
        ap (λ (n : ℕ). play_from bank size n room plan bytes) e ∙ play_more (length bytes - 1) room plan bytes some

    -- the report has no room for a line
    pub play_full : room < 20 → play_from bank size (length bytes) room plan bytes ≡ ends [] report_full
    play_full less = first ∙ cond-true _ _ _ (lt-ltb room 20 less)

    -- a record that is read
    pub play_on : 20 ≤ room → (a : Result Said Refused) (p : Plan) (rest : List ℕ) → answered a p rest ≡ step bank plan bytes
        → play_from bank size (length bytes) room plan bytes
        ≡ after_line (line_at (size - length bytes) a) (play_from bank size (length rest) (room - length (line_at (size - length bytes) a)) p rest)
    play_on enough_room a p rest e =
        let less = subst (Shorter (length bytes)) (sym e) (step_shorter bank plan bytes) in
        first ∙ cond-false _ _ _ (le-ltb room 20 enough_room) ∙ ap (onward (length bytes - 1) room bytes) (sym e)
        ∙ ap (after_line (line_at (size - length bytes) a)) (enough (length bytes - 1) (length rest) _ p rest (omega arith) (omega arith))

    -- a record that cannot be read
    pub play_stop : 20 ≤ room → (f : ReaderFault) → unread f ≡ step bank plan bytes
        → play_from bank size (length bytes) room plan bytes ≡ ends (unread_line (size - length bytes) f) (unreadable (size - length bytes) f)
    play_stop enough_room f e =
        first ∙ cond-false _ _ _ (le-ltb room 20 enough_room) ∙ ap (onward (length bytes - 1) room bytes) (sym e)

-- two lines, one after the other
pub after_more : (text line : List ℕ) (o : Outcome) → after_line text (after_line line o) ≡ after_line (text ++ line) o
after_more text line o = ap (λ (t : List ℕ). ends t o.ending) (sym (append_assoc text line o.text))
