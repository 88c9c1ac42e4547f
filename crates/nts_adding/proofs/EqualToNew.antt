-- A new variable that an alias is to be equal to is one of the table.
use Rattle.std.proofs.Common.{◌≡◌, List, Option, [], ◌∷◌, length, refl, ap, subst, sym, ◌∙◌}
use Rattle.nts_model.specs.Terms.Trees.{Tree, NodeKind, kind_of, any_term, FitsPlace}
use Rattle.nts_model.specs.Tables.Resolving.{Knows}
use Rattle.nts_model.specs.Derivations.Related.{IsAlias}
use Rattle.nts_store.specs.declared.nodes.NodeId.{NodeId}
use Rattle.nts_store.specs.Growth.{tree_at, IsIn, Extends}
use Rattle.nts_store.proofs.Growing.{IsIn-extended}
use Rattle.nts_terms.specs.declared.handles.ParamEnv.{ParamEnv}
use Rattle.nts_terms.specs.Handles.{HoldsEnv}
use Rattle.nts_unify.specs.Entries.{Entries}
use Rattle.nts_unify.specs.Reading.{content_of}
use Rattle.nts_table.specs.Tables.{Table, IsTable, IsSide}
use Rattle.nts_table.specs.Fresh.{IsFreshLike}
use Rattle.nts_variance.specs.Terms.{pairs_at, AreGoals, ArePairs}
use Rattle.nts_meaning.specs.Evaluation.{Goes}
use Rattle.nts_meaning.proofs.Evaluating.{gave_fresh, Knows-goes}
use Rattle.nts_adding.specs.Equal.{equal_nodes}
use Rattle.nts_adding.specs.Putting.{AllPut, AreVariables}
use Rattle.nts_theory.specs.Posing.{equal_pair}
use Rattle.nts_adding.proofs.Known.{are_goals}
use Rattle.nts_adding.proofs.Walked.{put_one, variable_sort}

module _ {a b : List Tree} {t u : Table} (x v : NodeId) (h : IsTable a t) (e : Extends a b) (k : IsTable b u) (s : u.saved ≡ t.saved) (m : u.mode ≡ t.mode) (i : IsIn a x) (w : IsIn b v)
    (is : IsAlias (tree_at a x)) (new : IsFreshLike (kind_of (tree_at a x)) (tree_at b v) t.entries u.entries) where
  one : AreVariables t.entries u.entries (equal_pair (tree_at a x) (tree_at b v) ∷ [])
  one = put_one t.entries t.entries u.entries [] (tree_at a x) (tree_at b v) (record { sorts = []; entries = refl; row = refl; puts = tt }) is new

  pub goes_new : Goes a b t u
  goes_new = (gave_fresh one.sorts (v ∷ []) h e k one.entries s m (w, tt) one.row).goes

  pub are_equal : AreGoals (pairs_at b (equal_nodes x v ∷ []))
  are_equal = are_goals (equal_pair (tree_at b x) (tree_at b v) ∷ []) (subst (λ z. AllPut (equal_pair z (tree_at b v) ∷ [])) (sym (e.kept x i)) one.puts)

  pub are_pairs : Knows (content_of a t.entries) (tree_at a x) → ArePairs b (content_of b u.entries) (equal_nodes x v ∷ [])
  are_pairs known =
      let left : Knows (content_of b u.entries) (tree_at b x) = subst (Knows (content_of b u.entries)) (sym (e.kept x i)) (Knows-goes (tree_at a x) goes_new known) in
      let right = (gave_fresh one.sorts (v ∷ []) h e k one.entries s m (w, tt) one.row).values.known in
      ((IsIn-extended e x i, w, left, right.0), tt)

-- an environment that was known is known two stores later
pub env_known : {a b d : List Tree} {t u w : Table} {env : ParamEnv} → Extends a b → Extends b d → HoldsEnv a env → Goes a b t u → Goes b d u w → Knows (content_of a t.entries) (tree_at a env.node) → Knows (content_of d w.entries) (tree_at d env.node)
env_known {a} {b} {d} {t} {u} {w} {env} e f h g k known =
    let there : Knows (content_of b u.entries) (tree_at b env.node) = subst (Knows (content_of b u.entries)) (sym (e.kept env.node h.within)) (Knows-goes (tree_at a env.node) g known) in
    subst (Knows (content_of d w.entries)) (sym (f.kept env.node (IsIn-extended e env.node h.within))) (Knows-goes (tree_at b env.node) k there)

-- the variable is of the kind of the alias
pub kind_new : {b d : List Tree} {e f : Entries} (k : Option NodeKind) (v : NodeId) → IsIn b v → IsFreshLike k (tree_at b v) e f → Extends b d → kind_of (tree_at d v) ≡ k
kind_new {b} {d} {e} {f} k v w new up = ap kind_of (up.kept v w) ∙ ap kind_of new.tree ∙ variable_sort new.sort (length e.variables) ∙ sym new.is

-- the variable is a term as the alias is, a store later
pub side_new : {a b d : List Tree} {t u : Table} (x v : NodeId) → IsTable a t → Extends a b → IsTable b u → u.saved ≡ t.saved → u.mode ≡ t.mode → IsSide any_term a t x → IsIn b v → IsAlias (tree_at a x)
    → IsFreshLike (kind_of (tree_at a x)) (tree_at b v) t.entries u.entries → Extends b d → Goes b d u u → IsSide any_term d u v
side_new {a} {b} {d} {t} {u} x v h e k s m side w is new f goes =
    let pairs = are_pairs x v h e k s m side.holds.within w is new side.known in
    let kept = f.kept v w in
    let kind = kind_new (kind_of (tree_at a x)) v w new f in
    let known : Knows (content_of d u.entries) (tree_at b v) = Knows-goes (tree_at b v) goes pairs.0.3 in
    record {
      holds = record { within = IsIn-extended f v w; fits = subst (FitsPlace any_term) (sym kind) side.holds.fits };
      known = subst (Knows (content_of d u.entries)) (sym kept) known;
    }
