use Rattle.std.proofs.Common.{ap, ◌∙◌}
use Rattle.nts_unify.specs.declared.contents.UndoLog.TheVariants as change
use Rattle.nts_unify.specs.Entries.{undone}
use Rattle.nts_unify.proofs.SavedLemmas.{Logged, logged}
use Rattle.nts_unify.proofs.EntryLemmas.{undone-duplicated}
use Rattle.nts_unify.proofs.inner.InferCtxtInner.add_duplicate.Goals as goal

recorded : (c : goal.In-Ok) → Logged c.args.self.now c.add_duplicate.new.self c.push.new.self.items c.self.inside.snapshots.items
recorded c =
    logged _ _ _ _ _ change.Duplicated _ c.self.view_is c.self.invariant c.in_ok-push.ensures.items (ap (undone change.Duplicated) c.in-Ok.ensures.entries ∙ undone-duplicated _ _)

pub invariant_of-self-in-Ok : goal.invariant_of-self-in-Ok
invariant_of-self-in-Ok c = (recorded c).marks

pub returns-in-Ok-clause-saved : goal.returns-in-Ok-clause-saved
returns-in-Ok-clause-saved c = (recorded c).saved
