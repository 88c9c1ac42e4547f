use Rattle.std.proofs.Common.{◌≡◌, [], ap, ◌∙◌}
use Rattle.nts_store.specs.Growth.{tree_at}
use Rattle.nts_store.specs.declared.fault.Fault.TheVariants.{Memory}
use Rattle.nts_folding.specs.Folding.{Walk, StaysHere, StaysMade}
use Rattle.nts_folding.proofs.Folded.{on_same_err}
use Rattle.nts_table.specs.Tables.{Table}
use Rattle.nts_adding.specs.Putting.{Standing, Puts}
use Rattle.nts_adding.specs.Walking.{standing_of}
use Rattle.nts_adding.proofs.Walked.{walked}
use Rattle.nts_adding.proofs.Known.{wants, puts_variables}
use Rattle.nts_adding.proofs.putting.fold_aliases.Goals as goal

pub returns-in_err-folded-clause-memory : goal.returns-in_err-folded-clause-memory
returns-in_err-folded-clause-memory c = on_same_err (λ e. e ≡ Memory) _ _ c.from_residual.ensures.1 (wants c.in_err-folded.ensures.err)

pub returns-clause-puts : goal.returns-clause-puts
returns-clause-puts c =
    let f = c.fold_with-folded.ensures in
    let begun : Standing = record { entries = c.args.table.now.entries; puts = [] } in
    let w : Walk Puts StaysHere StaysHere StaysMade begun (tree_at c.args.cx.now.nodes c.args.predicate.node) (tree_at c.fold_with-folded.new.cx.nodes c.in_ok-folded.field-0.node) (standing_of c.fold_with-folded.new.cx.nodes c.fold_with-folded.new.folder) =
    rw (c.swap.ensures.y_after, c.new-folder.ensures) at c.in_ok-folded.ensures.walk in
    rw c.swap-2.ensures.x_after (puts_variables c.args.cx.now.nodes c.fold_with-folded.new.cx.nodes c.args.table.now c.fold_with-folded.new.folder.table c.args.predicate.node c.in_ok-folded.field-0.node c.fold_with-folded.new.folder.puts.items
    c.requires.table f.grows.extends f.ready.table (f.keeps.saved ∙ ap (λ (z : Table). z.saved) c.swap.ensures.y_after) (f.keeps.mode ∙ ap (λ (z : Table). z.mode) c.swap.ensures.y_after) c.requires.knows f.ready.within (walked w))
