-- What taking a pair leaves for the measure.
use Rattle.std.proofs.Common.{◌≡◌, ℕ, ◌+◌, ◌<◌, Bool, true, false, List, Result, Ok, Err, IfOk, refl, subst, arith}
use Rattle.std.specs.Prelude.{OnOk}
use Rattle.nts_model.specs.declared.labels.Variance.{Variance}
use Rattle.nts_model.specs.declared.labels.Variance.TheVariants as variance
use Rattle.nts_model.specs.declared.labels.VariableKind.{VariableKind}
use Rattle.nts_model.specs.Terms.Trees.{Tree}
use Rattle.nts_model.specs.Tables.Resolving.{Knows, resolved}
use Rattle.nts_model.specs.Tables.Measuring.{closed_aliases}
use Rattle.nts_model.specs.Tables.Contents.{Content}
use Rattle.nts_model.specs.Derivations.Related.{IsAlias}
use Rattle.nts_variance_model.specs.Variances.Relations.{Relating as Pair}
use Rattle.nts_store.specs.declared.nodes.NodeId.{NodeId}
use Rattle.nts_store.specs.Growth.{tree_at}
use Rattle.nts_unify.specs.Entries.{Entries}
use Rattle.nts_unify.specs.Reading.{content_of}
use Rattle.nts_unify.specs.Changing.{KeepsKnowing, unset_count}
use Rattle.nts_variance.specs.declared.along.Relating.{Relating as Goal}
use Rattle.nts_variance.specs.declared.splitting.Taken.{Taken}
use Rattle.nts_variance.specs.declared.splitting.Taken.TheVariants as taken
use Rattle.nts_variance.specs.Pairs.{IsBound}
use Rattle.nts_variance.specs.Taking.{IsPaid}
use Rattle.nts_variance.specs.Varying.{pair_in}

pub done_paid : {E : Type 0} (r : Result Taken E) (c d : Content) (p : Pair) → OnOk r (KeepsKnowing c d) → IfOk r (λ t. t ≡ taken.Done) → IfOk r (IsPaid c d p)
done_paid (Ok t) c d p k e = rw e k
done_paid (Err x) c d p k e = tt

pub parts_paid : {E : Type 0} (r : Result Taken E) (c d : Content) (p : Pair) → IfOk r (λ t. t ≡ taken.Parts) → (IsAlias p.left → ⊥) → (IsAlias p.right → ⊥) → IfOk r (IsPaid c d p)
parts_paid (Ok t) c d p e left right = rw e (left, right)
parts_paid (Err x) c d p e left right = tt

-- a variable that was made one with what stands for a term
side_invariant : (z : Bool) (v : Variance) (own t : NodeId) → (pair_in z v own t).variance ≡ variance.Invariant → v ≡ variance.Invariant
side_invariant false v own t e = e
side_invariant true variance.Invariant own t e = refl
side_invariant true variance.Covariant own t e = cc
side_invariant true variance.Contravariant own t e = cc

pub bound_paid : (declared : ℕ → List Variance) (z : Bool) (ts us : List Tree) (e f : Entries) (v : Variance) (k : VariableKind) (x : ℕ) (own t : NodeId) (gs : List Goal) → IsBound declared z ts us e f v k x t gs → (pair_in z v own t).variance ≡ variance.Invariant
    → (unset_count (content_of us f).slots < unset_count (content_of ts e).slots + closed_aliases (resolved (content_of ts e) (tree_at ts (pair_in z v own t).left)) + closed_aliases (resolved (content_of ts e) (tree_at ts (pair_in z v own t).right)))
    × ((a : Tree) → Knows (content_of ts e) a → closed_aliases (resolved (content_of us f) a) ≡ closed_aliases (resolved (content_of ts e) a))
bound_paid declared z ts us e f v k x own t gs b is = (by_side z fewer, here.aliases refl)
  where
    here : IsBound declared z ts us e f variance.Invariant k x t gs
    here = subst (λ w. IsBound declared z ts us e f w k x t gs) (side_invariant z v own t is) b

    fewer : unset_count (content_of us f).slots < unset_count (content_of ts e).slots + closed_aliases (resolved (content_of ts e) (tree_at ts t))
    fewer = here.fewer refl

    by_side : (y : Bool) → unset_count (content_of us f).slots < unset_count (content_of ts e).slots + closed_aliases (resolved (content_of ts e) (tree_at ts t)) → unset_count (content_of us f).slots < unset_count (content_of ts e).slots + closed_aliases (resolved (content_of ts e) (tree_at ts (pair_in y v own t).left)) + closed_aliases (resolved (content_of ts e) (tree_at ts (pair_in y v own t).right))
    by_side false h = omega (arith, h)
    by_side true h = omega (arith, h)
