use Rattle.std.proofs.Common.{◌≡◌, List, map, take}
use Rattle.nts_model.specs.Terms.Trees.{Tree}
use Rattle.nts_unify.specs.Reading.{content_of}
use Rattle.nts_response.specs.nts_canonical.specs.SubRoots.{sub_root_in}
use Rattle.nts_response.specs.nts_canonical.specs.Forms.{kind_of_var}
use Rattle.nts_answering.proofs.KindLists.{kind_among}
use Rattle.nts_answering.proofs.answer_kinds.answer_kinds.Given as goal

abbrev pub invariant-loop-i : goal.invariant-loop-i
invariant-loop-i l =
    (ts : List Tree) → map kind_of_var l.kinds.items ≡ map (kind_among (content_of ts l.table.entries) (sub_root_in l.table.entries) l.max_input_universe l.leaves) (take l.i l.leaves)
