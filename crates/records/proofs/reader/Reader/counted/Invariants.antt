-- As many parts were read as turns were made, there is room for all, and those read with those to come are all.
use Rattle.std.proofs.Common.{◌≡◌, ◌-◌, ◌≤◌, map, vec_items, vec_len, vec_capacity}
use Rattle.records.specs.Records.{repeated}
use Rattle.records.proofs.Repeats.{with_more}
use Rattle.records.proofs.reader.Reader.counted.Given as goal

abbrev pub invariant-loop : goal.invariant-loop
invariant-loop g l = record {
  as_many : vec_len l.parts ≡ l.counter;
  room : l.count ≤ vec_capacity l.parts;
  all : with_more g.T.Part.reads (map g.T.Part.view (vec_items l.parts)) (l.count - l.counter) l.self ≡ repeated g.T.Part.reads l.count l.initial.self;
}
