-- What is read stays the same when more bytes follow.
use Rattle.std.proofs.Common.{rules, ◌≡◌, ℕ, zero, suc, Bool, true, false, cond, List, ◌++◌, Ok, Err, Result, sym, refl, subst, arith}
use Rattle.std.proofs.lemmas.Grind.{common_steps}
use Rattle.records.specs.declared.fault.ReaderFault.{ReaderFault}
use Rattle.records.specs.declared.fault.ReaderFault.TheVariants.{UnknownMark}
use Rattle.records.specs.declared.record.Mark.{Mark}
use Rattle.records.specs.declared.record.Mark.TheVariants.{Name, Rule, Tally, Element, Judge}
use Rattle.records.specs.Fields.{Read, got, failed, and_then, read_in, read_slice, read_byte, read_word, read_signed}
use Rattle.records.specs.Records.{read_mark, expect, Sent, repeated, read_element, read_elements, read_tally, read_tallies, read_rule, read_name, read_judge, read_marked, read_record}

-- a part that is read is read so with more bytes after it
abbrev Same : {A : Type 0} → List ℕ → Read A → Read A → Type 0
Same more (got value rest) longer = longer ≡ got value (rest ++ more)
Same more (failed fault) longer = Unit {0}

abbrev Stays : {A : Type 0} → (List ℕ → Read A) → Type 0
Stays part = (bytes more : List ℕ) → Same more (part bytes) (part (bytes ++ more))

same_then : {A B : Type 0} (more : List ℕ) (r longer : Read A) (next : A → List ℕ → Read B) → Same more r longer → ((a : A) → Stays (next a))
    → Same more (and_then r next) (and_then longer next)
same_then {A} {B} more (got value rest) longer next h stays =
    subst (λ (q : Read A). Same more (next value rest) (and_then q next)) (sym h) (stays value rest more)
same_then more (failed fault) longer next h stays = tt

slice_stays : (size : ℕ) → Stays (read_slice size)
slice_stays size bytes more = grind (arith, common_steps)

-- what needs no byte, or is not read at all
answer_stays : {A : Type 0} (r : Result A ReaderFault) → Stays (read_in (λ x. x) r)
answer_stays (Ok value) bytes more = refl
answer_stays (Err fault) bytes more = tt

unless : {A : Type 0} (b : Bool) (fault : ReaderFault) (part : List ℕ → Read A) → Stays part → Stays (λ bytes. cond b (failed fault) (part bytes))
unless true fault part s bytes more = tt
unless false fault part s bytes more = s bytes more

wanted : (b : Bool) → Stays {A = Unit {0}} (λ rest. cond b (got tt rest) (failed UnknownMark))
wanted true bytes more = refl
wanted false bytes more = tt

byte_stays : Stays read_byte
byte_stays bytes more = search (rules, same_then, slice_stays)

word_stays : Stays read_word
word_stays bytes more = search (rules, same_then, slice_stays)

signed_stays : Stays read_signed
signed_stays bytes more = search (rules, same_then, word_stays)

mark_stays : Stays read_mark
mark_stays bytes more = search (rules, same_then, slice_stays, answer_stays)

expect_stays : (test : Mark → Bool) → Stays (expect test)
expect_stays test bytes more = search (rules, same_then, mark_stays, wanted)

repeated_stays : {A : Type 0} (one : List ℕ → Read A) → Stays one → (n : ℕ) → Stays (repeated one n)
repeated_stays one s zero bytes more = refl
repeated_stays one s (suc n) bytes more = search (rules, same_then, s, repeated_stays one s n)

element_stays : Stays read_element
element_stays bytes more = search (rules, same_then, expect_stays, word_stays, signed_stays) depth 8

elements_stays : Stays read_elements
elements_stays bytes more = search (rules, same_then, byte_stays, unless, repeated_stays, element_stays) depth 8

tally_stays : Stays read_tally
tally_stays bytes more = search (rules, same_then, expect_stays, byte_stays, signed_stays, elements_stays) depth 8

tallies_stays : Stays read_tallies
tallies_stays bytes more = search (rules, same_then, byte_stays, unless, repeated_stays, tally_stays) depth 8

rule_stays : Stays read_rule
rule_stays bytes more = search (rules, same_then, word_stays, tallies_stays) depth 8

name_stays : Stays read_name
name_stays bytes more = search (rules, same_then, byte_stays, slice_stays) depth 8

judge_stays : Stays read_judge
judge_stays bytes more = search (rules, same_then, byte_stays, answer_stays, word_stays) depth 8

marked_stays : (m : Mark) → Stays (read_marked m)
marked_stays Name bytes more = search (rules, same_then, name_stays)
marked_stays Rule bytes more = search (rules, same_then, rule_stays)
marked_stays Tally bytes more = tt
marked_stays Element bytes more = tt
marked_stays Judge bytes more = judge_stays bytes more

pub record_stays : (bytes more : List ℕ) (sent : Sent) (rest : List ℕ) → read_record bytes ≡ got sent rest → read_record (bytes ++ more) ≡ got sent (rest ++ more)
record_stays bytes more sent rest e =
    subst (λ (r : Read Sent). Same more r (read_record (bytes ++ more))) e
    (same_then more _ _ read_marked (mark_stays bytes more) marked_stays)
