use Rattle.std.proofs.Common.{◌≡◌, ◌≤◌, ◌-◌, ◌++◌, length, reverse}
use Rattle.nts_wording.proofs.build.take_args.Given as goal

abbrev pub invariant-taking : goal.invariant-taking
invariant-taking l = record {
  parts : reverse l.fn.made.items ≡ l.args.items ++ reverse l.made.items;
  few : length l.args.items ≤ l.count;
}

abbrev pub decreases-taking : goal.decreases-taking
decreases-taking l = l.count - length l.args.items
