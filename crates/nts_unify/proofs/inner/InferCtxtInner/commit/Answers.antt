use Rattle.std.proofs.Common.{◌<◌, ap, sym, ◌∙◌, length, arith}
use Rattle.nts_unify.specs.Entries.{Inner}
use Rattle.nts_unify.proofs.SavedLemmas.{saved_of-pop, AreMarks-pop, length-saved_of}
use Rattle.nts_unify.proofs.inner.InferCtxtInner.commit.Goals as goal

pub invariant_of-self : goal.invariant_of-self
invariant_of-self c = AreMarks-pop _ _ _ _ c.pop.ensures.items c.self.invariant

pub returns-clause-saved : goal.returns-clause-saved
returns-clause-saved c =
    let ps = c.self.inside.snapshots.items in
    let some : 0 < length ps = omega (arith, length-saved_of c.self.inside.contents c.self.inside.log.items ps, ap (λ (t : Inner). length t.saved) c.self.view_is) in
    let p = saved_of-pop c.self.inside.contents c.self.inside.log.items _ _ _ c.pop.ensures.items (c.pop.ensures.variant.1 (omega (arith, some))) in
    (p.0, sym (ap (λ (t : Inner). t.saved) c.self.view_is) ∙ p.1)
