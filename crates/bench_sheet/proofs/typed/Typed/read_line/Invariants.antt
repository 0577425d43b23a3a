use Rattle.std.proofs.Common.{◌≡◌, ◌+◌, drop}
use Rattle.bench_sheet.specs.Scanning.{from_there}
use Rattle.bench_sheet.proofs.typed.Typed.read_line.Given as goal

abbrev pub invariant-loop-index : goal.invariant-loop-index
invariant-loop-index l = from_there l.scan (l.index + 1) (drop l.index l.byte-items) ≡ from_there l.initial.scan 1 l.byte-items
