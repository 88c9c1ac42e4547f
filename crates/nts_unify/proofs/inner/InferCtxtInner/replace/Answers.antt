use Rattle.std.proofs.Common.{ap, ◌∙◌}
use Rattle.nts_unify.specs.declared.contents.UndoLog.TheVariants as change
use Rattle.nts_unify.specs.Entries.{undone}
use Rattle.nts_unify.proofs.SavedLemmas.{Logged, logged}
use Rattle.nts_unify.proofs.EntryLemmas.{undone-replaced}
use Rattle.nts_unify.proofs.inner.InferCtxtInner.replace.Goals as goal

recorded : (c : goal.After-replace) → Logged c.args.self.now c.replace.new.self c.push.new.self.items c.self.inside.snapshots.items
recorded c =
    let x = change.Replaced c.args.n c.hidden_type-old.result in
    logged _ _ _ _ _ x _ c.self.view_is c.self.invariant c.in_ok-push.ensures.items (ap (undone x) c.replace.ensures ∙ undone-replaced _ _ _ _ c.hidden_type-old.ensures)

pub invariant_of-self-2 : goal.invariant_of-self-2
invariant_of-self-2 c = (recorded c).marks

pub returns-clause-saved : goal.returns-clause-saved
returns-clause-saved c = (recorded c).saved
