use Rattle.std.proofs.Common.{ap, ◌∙◌}
use Rattle.nts_unify.specs.declared.contents.UndoLog.TheVariants as change
use Rattle.nts_unify.specs.Entries.{undone}
use Rattle.nts_unify.proofs.SavedLemmas.{Logged, logged}
use Rattle.nts_unify.proofs.EntryLemmas.{undone-moved}
use Rattle.nts_unify.proofs.inner.InferCtxtInner.move_to.Goals as goal

recorded : (c : goal.After-move_to) → Logged c.args.self.now c.move_to.new.self c.push.new.self.items c.self.inside.snapshots.items
recorded c =
    let x = change.Moved c.universe-old.result in
    logged _ _ _ _ _ x _ c.self.view_is c.self.invariant c.in_ok-push.ensures.items (ap (undone x) c.move_to.ensures ∙ undone-moved _ c.args.universe _ c.universe-old.ensures)

pub invariant_of-self-2 : goal.invariant_of-self-2
invariant_of-self-2 c = (recorded c).marks

pub returns-clause-saved : goal.returns-clause-saved
returns-clause-saved c = (recorded c).saved
