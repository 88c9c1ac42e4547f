use Rattle.std.proofs.Common.{◌≡◌, ℕ, ◌≤◌, length, drop, vec_len}
use Rattle.nts_unify.specs.Entries.{all_undone}
use Rattle.nts_unify.specs.Saved.{AreMarks}
use Rattle.nts_unify.proofs.inner.InferCtxtInner.rollback_to.Given as goal

abbrev pub invariant-loop-self : goal.invariant-loop-self
invariant-loop-self l = record {
  same : (p : ℕ) → p ≤ l.mark → all_undone (drop p l.self-inside.log.items) l.self-inside.contents ≡ all_undone (drop p l.initial.self-inside.log.items) l.initial.self-inside.contents;
  marks : AreMarks l.mark l.self-inside.snapshots.items;
  kept : l.self-inside.snapshots.items ≡ l.initial.self-inside.snapshots.items;
  long : l.mark ≤ length l.self-inside.log.items;
}

abbrev pub decreases-loop-self : goal.decreases-loop-self
decreases-loop-self l = vec_len l.self-inside.log
