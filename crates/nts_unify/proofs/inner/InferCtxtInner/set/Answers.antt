use Rattle.std.proofs.Common.{ap, ◌∙◌}
use Rattle.nts_unify.specs.declared.contents.UndoLog.TheVariants as change
use Rattle.nts_unify.specs.Entries.{undone}
use Rattle.nts_unify.proofs.SavedLemmas.{Logged, logged}
use Rattle.nts_unify.proofs.EntryLemmas.{undone-changed}
use Rattle.nts_unify.proofs.inner.InferCtxtInner.set.Goals as goal

recorded : (c : goal.After-set) → Logged c.args.self.now c.set.new.self c.push.new.self.items c.self.inside.snapshots.items
recorded c =
    let x = change.Changed c.args.n c.variable-old.result in
    logged _ _ _ _ _ x _ c.self.view_is c.self.invariant c.in_ok-push.ensures.items (ap (undone x) c.set.ensures ∙ undone-changed _ _ _ _ c.variable-old.ensures)

pub invariant_of-self-2 : goal.invariant_of-self-2
invariant_of-self-2 c = (recorded c).marks

pub returns-clause-saved : goal.returns-clause-saved
returns-clause-saved c = (recorded c).saved
