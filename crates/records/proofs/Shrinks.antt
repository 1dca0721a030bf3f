-- Reading goes forward: a record takes at least its mark.
use Rattle.std.proofs.Common.{ℕ, zero, suc, ◌+◌, ◌≤◌, Bool, ltb, List, length, take, drop, arith}
use Rattle.std.proofs.lemmas.List.{length-drop}
use Rattle.std.proofs.lemmas.Bool.{cond_both, ltb-false}
use Rattle.records.specs.declared.fault.ReaderFault.TheVariants.{Short}
use Rattle.records.specs.declared.record.Mark.{Mark}
use Rattle.records.specs.declared.record.Mark.TheVariants.{Name, Rule, Tally, Element, Judge}
use Rattle.records.specs.Fields.{Read, got, failed, and_then, read_slice, read_byte, read_word, read_signed}
use Rattle.records.specs.Records.{repeated, read_mark, expect, is_tally, is_element, read_element, read_elements, read_tally, read_tallies, read_marked, read_record}

-- what is read takes at least k of n bytes
abbrev pub Takes : {A : Type 0} → ℕ → ℕ → Read A → Type 0
Takes k n (got value rest) = length rest + k ≤ n
Takes k n (failed fault) = Unit {0}

-- a part leaves at most what there was
abbrev Forward : {A : Type 0} → (List ℕ → Read A) → Type 0
Forward part = (bytes : List ℕ) → Takes 0 (length bytes) (part bytes)

takes_then : {A B : Type 0} (k n : ℕ) (r : Read A) (next : A → List ℕ → Read B) → Takes k n r → ((value : A) → Forward (next value)) → Takes k n (and_then r next)
takes_then {A} {B} k n (got value rest) next h f = fewer (next value rest) (f value rest)
  where
    fewer : (q : Read B) → Takes 0 (length rest) q → Takes k n q
    fewer (got v left) l = omega arith
    fewer (failed fault) l = tt
takes_then k n (failed fault) next h f = tt

takes_slice : (k size : ℕ) (bytes : List ℕ) → k ≤ size → Takes k (length bytes) (read_slice size bytes)
takes_slice k size bytes enough =
    cond_both (ltb (length bytes) size) (failed Short) (got (take size bytes) (drop size bytes)) (Takes k (length bytes))
    (λ e. tt) (λ e. let d = length-drop size bytes in let l = ltb-false (length bytes) size e in omega arith)

takes_repeated : {A : Type 0} (one : List ℕ → Read A) → Forward one → (n : ℕ) → Forward (repeated one n)
takes_repeated one f zero bytes = omega arith
takes_repeated one f (suc n) bytes =
    takes_then 0 _ (one bytes) _ (f bytes) λ x rest. takes_then 0 _ (repeated one n rest) _ (takes_repeated one f n rest) λ xs rest. omega arith

ruleset forward = (takes_then, takes_slice, takes_repeated)

byte_forward : Forward read_byte
byte_forward bytes = grind (forward, arith)

word_forward : Forward read_word
word_forward bytes = grind (forward, arith)

signed_forward : Forward read_signed
signed_forward bytes = grind (forward, arith)

mark_taken : (bytes : List ℕ) → Takes 2 (length bytes) (read_mark bytes)
mark_taken bytes = grind (forward, arith)

expect_forward : (wanted : Mark → Bool) → Forward (expect wanted)
expect_forward wanted bytes = grind (forward, arith)

element_forward : Forward read_element
element_forward bytes =
    takes_then 0 _ (expect is_element bytes) _ (expect_forward is_element bytes) λ _ rest.
    takes_then 0 _ (read_word rest) _ (word_forward rest) λ ins rest.
    takes_then 0 _ (read_word rest) _ (word_forward rest) λ outs rest.
    takes_then 0 _ (read_signed rest) _ (signed_forward rest) λ weight rest. omega arith

elements_forward : Forward read_elements
elements_forward bytes = grind (forward, element_forward, arith)

tally_forward : Forward read_tally
tally_forward bytes =
    takes_then 0 _ (expect is_tally bytes) _ (expect_forward is_tally bytes) λ _ rest.
    takes_then 0 _ (read_byte rest) _ (byte_forward rest) λ kind rest.
    takes_then 0 _ (read_byte rest) _ (byte_forward rest) λ relation rest.
    takes_then 0 _ (read_byte rest) _ (byte_forward rest) λ sign rest.
    takes_then 0 _ (read_signed rest) _ (signed_forward rest) λ bound rest.
    takes_then 0 _ (read_elements rest) _ (elements_forward rest) λ elements rest. omega arith

tallies_forward : Forward read_tallies
tallies_forward bytes = grind (forward, tally_forward, arith)

marked_forward : (m : Mark) → Forward (read_marked m)
marked_forward Name bytes = grind (forward, arith)
marked_forward Rule bytes = grind (forward, tallies_forward, word_forward, arith)
marked_forward Tally bytes = tt
marked_forward Element bytes = tt
marked_forward Judge bytes = grind (forward, arith)

-- what is read takes two bytes at least
abbrev pub Fewer : {A : Type 0} → ℕ → Read A → Type 0
Fewer = Takes 2

pub record_fewer : (bytes : List ℕ) → Fewer (length bytes) (read_record bytes)
record_fewer bytes = takes_then 2 _ (read_mark bytes) read_marked (mark_taken bytes) marked_forward
