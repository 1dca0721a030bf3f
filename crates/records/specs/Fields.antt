-- The fields of a file, read from the bytes that are left.
use Rattle.std.specs.Prelude.{ℕ, ◌+◌, ◌*◌, cond, List, length, take, drop, ℤ, pos, ◌-ℤ◌, Ok, Err, Result, nat_lt, slice_index}
use Rattle.records.specs.declared.fault.ReaderFault.{ReaderFault}
use Rattle.records.specs.declared.fault.ReaderFault.TheVariants.{Short}

-- what was read and the bytes that are left then, or the fault
pub data Read (A : Type 0) : Type 0 where
  got : A → List ℕ → Read A
  failed : ReaderFault → Read A

-- one part, and then the next
abbrev pub and_then : {A B : Type 0} → Read A → (A → List ℕ → Read B) → Read B
and_then (got value rest) next = next value rest
and_then (failed fault) next = failed fault

-- what the code answered and the bytes that it left
abbrev pub read_in : {X A : Type 0} → (X → A) → Result X ReaderFault → List ℕ → Read A
read_in view (Ok value) rest = got (view value) rest
read_in view (Err fault) rest = failed fault

-- a field of this many bytes, where it is whole
abbrev pub read_slice : ℕ → List ℕ → Read (List ℕ)
read_slice size bytes = cond (nat_lt (length bytes) size) (failed Short) (got (take size bytes) (drop size bytes))

abbrev pub read_byte : List ℕ → Read ℕ
read_byte bytes = and_then (read_slice 1 bytes) λ field rest. got (slice_index field 0) rest

-- four bytes, the highest first
abbrev pub word_of : List ℕ → ℕ
word_of field = slice_index field 0 * 16777216 + slice_index field 1 * 65536 + slice_index field 2 * 256 + slice_index field 3

abbrev pub read_word : List ℕ → Read ℕ
read_word bytes = and_then (read_slice 4 bytes) λ field rest. got (word_of field) rest

-- two's complement
abbrev pub signed_of : ℕ → ℤ
signed_of n = cond (nat_lt n 2147483648) (pos n) (pos n -ℤ pos 4294967296)

abbrev pub read_signed : List ℕ → Read ℤ
read_signed bytes = and_then (read_word bytes) λ n rest. got (signed_of n) rest
