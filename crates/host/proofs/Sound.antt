-- No file asks for the number of a want of memory: 99 is never what its bytes give.
use Rattle.std.proofs.Common.{ℕ, zero, suc, ◌<◌, Bool, true, false, cond, ltb, List, [], length, Ok, Err, Result, subst, arith, rules, lit≤}
use Rattle.std.proofs.lemmas.Bool.{cond_both}
use Rattle.theory.specs.Banks.{five_kinds}
use Rattle.theory.specs.Calls.{new_plan}
use Rattle.records.specs.declared.fault.ReaderFault.{ReaderFault}
use Rattle.records.specs.declared.record.Mark.{Mark}
use Rattle.records.specs.declared.record.Mark.TheVariants.{Name, Rule, Tally, Element, Judge}
use Rattle.records.specs.Faults.{reader_number}
use Rattle.records.specs.Fields.{Read, got, failed, and_then, read_in, read_slice, read_byte, read_word, read_signed}
use Rattle.records.specs.Letters.{letter_answer}
use Rattle.records.specs.Records.{mark_of, read_mark, expect, repeated, read_element, read_elements, read_tally, read_tallies, read_rule, read_marked, read_record}
use Rattle.files.specs.Plays.{input_too_long, ending_number, ends, playing}
use Rattle.host.specs.Answers.{fault_of}
use Rattle.host.specs.Laws.{played}
use Rattle.host.proofs.Inducts.{every_play}

-- a fault that is told has a number below 99
abbrev Sound : {A : Type 0} → Read A → Type 0
Sound (got value rest) = Unit {0}
Sound (failed fault) = reader_number fault < 99

sound_then : {A B : Type 0} (r : Read A) (next : A → List ℕ → Read B) → Sound r → ((a : A) (rest : List ℕ) → Sound (next a rest)) → Sound (and_then r next)
sound_then (got value rest) next h more = more value rest
sound_then (failed fault) next h more = h

cond_sound : {A : Type 0} (b : Bool) (x y : Read A) → Sound x → Sound y → Sound (cond b x y)
cond_sound true x y h k = h
cond_sound false x y h k = k

slice_sound : (size : ℕ) (bytes : List ℕ) → Sound (read_slice size bytes)
slice_sound size bytes = grind arith

byte_sound : (bytes : List ℕ) → Sound (read_byte bytes)
byte_sound bytes = search (sound_then, slice_sound)

word_sound : (bytes : List ℕ) → Sound (read_word bytes)
word_sound bytes = search (sound_then, slice_sound)

signed_sound : (bytes : List ℕ) → Sound (read_signed bytes)
signed_sound bytes = search (sound_then, word_sound)

-- an answer that is no fault, or one of a lower number
abbrev Low : {A : Type 0} → Result A ReaderFault → Type 0
Low (Ok value) = Unit {0}
Low (Err fault) = reader_number fault < 99

low_sound : {A : Type 0} (r : Result A ReaderFault) (rest : List ℕ) → Low r → Sound (read_in (λ x. x) r rest)
low_sound (Ok value) rest h = tt
low_sound (Err fault) rest h = h

mark_low : (a b : ℕ) → Low (mark_of a b)
mark_low a b = grind arith

letter_low : (byte : ℕ) → Low (letter_answer byte)
letter_low byte = grind arith

mark_sound : (bytes : List ℕ) → Sound (read_mark bytes)
mark_sound bytes = search (sound_then, slice_sound, low_sound, mark_low)

expect_sound : (test : Mark → Bool) (bytes : List ℕ) → Sound (expect test bytes)
expect_sound test bytes = search (rules, sound_then, cond_sound, mark_sound)

repeated_sound : {A : Type 0} (one : List ℕ → Read A) → ((bytes : List ℕ) → Sound (one bytes)) → (n : ℕ) (bytes : List ℕ) → Sound (repeated one n bytes)
repeated_sound one h zero bytes = tt
repeated_sound one h (suc n) bytes = search (sound_then, h, repeated_sound one h n)

element_sound : (bytes : List ℕ) → Sound (read_element bytes)
element_sound bytes = search (sound_then, expect_sound, word_sound, signed_sound)

elements_sound : (bytes : List ℕ) → Sound (read_elements bytes)
elements_sound bytes = search (rules, sound_then, cond_sound, byte_sound, repeated_sound, element_sound)

tally_sound : (bytes : List ℕ) → Sound (read_tally bytes)
tally_sound bytes = search (sound_then, expect_sound, byte_sound, signed_sound, elements_sound) depth 8

tallies_sound : (bytes : List ℕ) → Sound (read_tallies bytes)
tallies_sound bytes = search (rules, sound_then, cond_sound, byte_sound, repeated_sound, tally_sound)

rule_sound : (bytes : List ℕ) → Sound (read_rule bytes)
rule_sound bytes = search (sound_then, word_sound, tallies_sound)

marked_sound : (m : Mark) (bytes : List ℕ) → Sound (read_marked m bytes)
marked_sound Name bytes = search (sound_then, byte_sound, slice_sound)
marked_sound Rule bytes = search (sound_then, rule_sound)
marked_sound Tally bytes = lit≤ tt
marked_sound Element bytes = lit≤ tt
marked_sound Judge bytes = search (sound_then, byte_sound, low_sound, letter_low, word_sound)

record_sound : (bytes : List ℕ) → Sound (read_record bytes)
record_sound bytes = search (sound_then, mark_sound, marked_sound)

pub told_below : (file : List ℕ) (room : ℕ) → ending_number (fault_of (playing file room).ending) < 99
told_below file room =
    cond_both (ltb 65536 (length file)) (ends [] input_too_long) (played five_kinds (length file) room new_plan file) (λ o. ending_number (fault_of o.ending) < 99)
    (λ e. lit≤ tt)
    (λ e. every_play five_kinds (length file) (λ room plan bytes o. ending_number (fault_of o.ending) < 99) (record {
      at_end = λ room plan. lit≤ tt;
      full = λ room plan bytes some none. lit≤ tt;
      stop = λ room plan bytes fault some enough e. subst Sound e (record_sound bytes);
      on = λ room plan bytes sent rest more enough e fewer h. h;
    }) room new_plan file)
