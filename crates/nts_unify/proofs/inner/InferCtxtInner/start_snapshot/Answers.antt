use Rattle.std.proofs.Common.{◌≡◌, ◌≤◌, ap, length, arith, rules}
use Rattle.nts_unify.specs.Entries.{Inner}
use Rattle.nts_unify.proofs.SavedLemmas.{AreMarks-push, saved_of-append, length-saved_of, undone-all}
use Rattle.nts_unify.proofs.inner.InferCtxtInner.start_snapshot.Goals as goal

pub invariant_of-self-2 : goal.invariant_of-self-2
invariant_of-self-2 c =
    let at : c.len.result ≡ length c.self.inside.log.items = omega arith in
    rw (c.in_ok-push.ensures.items, at) (AreMarks-push _ _ c.self.invariant)

pub returns-clause-saved : goal.returns-clause-saved
returns-clause-saved c =
    let at : length c.self.inside.log.items ≤ c.len.result = omega arith in
    rw (c.in_ok-push.ensures.items, ← c.self.view_is, saved_of-append) (search (rules, undone-all))

pub returns-clause-depth : goal.returns-clause-depth
returns-clause-depth c =
    omega (arith, length-saved_of c.self.inside.contents c.self.inside.log.items c.self.inside.snapshots.items, ap (λ (t : Inner). length t.saved) c.self.view_is)
