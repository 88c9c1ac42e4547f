use Rattle.std.proofs.Common.{◌≤◌, length, take}
use Rattle.std.specs.Io.KnownBytes.{Appends}
use Rattle.nts_wording.proofs.output.put.Given as goal

abbrev pub invariant-turns : goal.invariant-turns
invariant-turns g l = record {
  within : l.written ≤ length l.bytes;
  appended : Appends (g.W.Write.contents l.fn.output) (g.W.Write.contents l.output) (take l.written l.bytes);
}
