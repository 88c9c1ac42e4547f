use Rattle.std.proofs.Common.{◌≡◌, ℕ, ◌<◌, ◌+◌, length, get_or, set, map, take, drop, ◌++◌, arith}
use Rattle.std.proofs.lemmas.List.{get_or_default}
use Rattle.std.proofs.lemmas.List.Edits.{map_over_more}
use Rattle.nts_canonical.specs.SubRoots.{sub_root_in}
use Rattle.nts_asking.proofs.stalling.put_sub_roots.Goals as goal

pub loop-i-preserved : goal.loop-i-preserved
loop-i-preserved c =
    let f = sub_root_in c.args.table.now.entries in
    let xs = c.args.types.now in
    let ys = c.loop-i.types in
    let i = c.loop-i.i in
    let x : ℕ = get_or ys i 0 in
    let within : i < length ys = omega arith in
    let inside : i < length xs = omega arith in
    let one = get_or_default ys i 0 x within in
    let more : set ys i (f x) ≡ map f (take (i + 1) xs) ++ drop (i + 1) xs = map_over_more f xs ys i x inside c.loop-i.invariant one in
    rw c.sub_root.ensures more
