-- What a candidate says brings no labels to a table but those of its goal.
use Rattle.std.proofs.Common.{◌≡◌, ⊎_elim, inl, inr, Bool, true, List, map, refl, sym, subst}
use Rattle.nts_model.specs.declared.labels.Sort.{Sort}
use Rattle.nts_model.specs.declared.labels.FreeRegion.TheVariants as region
use Rattle.nts_model.specs.declared.labels.Leaf.{Leaf}
use Rattle.nts_model.specs.declared.labels.Leaf.TheVariants as leaf
use Rattle.nts_model.specs.declared.labels.Label.{Label}
use Rattle.nts_model.specs.declared.labels.Label.TheVariants as label
use Rattle.nts_model.specs.Terms.Trees.{Tree}
use Rattle.nts_model.specs.Tables.Contents.{Content}
use Rattle.nts_model.specs.Tables.Resolving.{deeply_resolved}
use Rattle.nts_model.specs.Lists.{Among}
use Rattle.nts_model.specs.Derivations.Related.{pair}
use Rattle.nts_model.specs.Derivations.Handlers.{IsFixed}
use Rattle.nts_model.specs.Tables.Passing.{TreePasses, PassesQueries, BringsLabelsOf, BringsOnly}
use Rattle.nts_model.proofs.Tables.Passing.{passes-deeply_resolved}
use Rattle.nts_model.proofs.Tables.Bringing.{query_variables, only-of, only-refl, passes-filled, passes-leaf}
use Rattle.nts_store.specs.declared.nodes.NodeId.{NodeId}
use Rattle.nts_store.specs.Growth.{tree_at, Extends}
use Rattle.nts_terms.specs.declared.handles.Goal.{Goal}
use Rattle.nts_terms.specs.Handles.{HoldsGoal}
use Rattle.nts_unify.specs.Reading.{content_of}
use Rattle.nts_unify.specs.Lawful.{content_of-extended}
use Rattle.nts_table.specs.Tables.{Table, IsTable}
use Rattle.nts_delegate.specs.Candidates.{IsOverIn, IsNestedIn}
use Rattle.nts_trying.specs.Instances.{instance_at, IsGoalInstance}
use Rattle.nts_meaning.specs.Evaluation.{AreValues, asked_terms, AsksOnly}

-- a region that stays itself passes
fixed_passes : (P : Label → Bool) → PassesQueries P → (l : Leaf) → IsFixed l → P (label.Leaf l) ≡ true
fixed_passes P q (leaf.Region region.Static) h = q _ tt
fixed_passes P q (leaf.Region region.Erased) h = q _ tt
fixed_passes P q (leaf.Region region.Error) h = q _ tt
fixed_passes P q l h = absurd h

-- a term of a candidate with values in place of its positions, where the goal's terms and the values pass
pub over_passes : {a : List Tree} {t : Table} {fresh : List Sort} {g : Goal} {vs : List NodeId} {x : NodeId} → IsOverIn a fresh g x → AreValues a t fresh vs → (P : Label → Bool) → PassesQueries P → ((u : Tree) → Among (asked_terms a g) u → TreePasses P u) → TreePasses P (instance_at a vs x)
over_passes {a} {t} {fresh} {g} {vs} {x} o v P q h =
    let e = tree_at a g.param_env.node in
    let p = tree_at a g.predicate.node in
    let both : TreePasses P (pair e p) = (h e (inl refl), (h p (inr (inl refl)), tt)) in
    passes-filled P (map (tree_at a) vs) (tree_at a x) q (v.labels P q) (λ l i. ⊎_elim (λ j. passes-leaf P (pair e p) l both j) (λ f. fixed_passes P q l f) (o.leaves l i))

-- what two terms of a candidate bring
pub over_only : {a : List Tree} {t : Table} {fresh : List Sort} {g : Goal} {vs : List NodeId} {x y : NodeId} {c d : Content} → AreValues a t fresh vs → IsOverIn a fresh g x → IsOverIn a fresh g y → BringsLabelsOf c d (instance_at a vs x) (instance_at a vs y) → BringsOnly (asked_terms a g) c d
over_only {a} {t} {fresh} {g} {vs} {x} {y} v l r h =
    only-of (asked_terms a g) (instance_at a vs x) (instance_at a vs y) h (λ P q k i. (over_passes l v P q k, over_passes r v P q k))

-- .. in a store that has grown
pub only_earlier : {a b : List Tree} {g : Goal} {c d : Content} → Extends a b → HoldsGoal a g → BringsOnly (asked_terms b g) c d → BringsOnly (asked_terms a g) c d
only_earlier {a} {b} {g} {c} {d} e p h =
    let env = e.kept g.param_env.node p.env.within in
    let predicate = e.kept g.predicate.node p.predicate.within in
    rw (env, predicate) at h

-- a goal of a candidate
pub nested_only : {a b : List Tree} {t : Table} {fresh : List Sort} {g h k : Goal} {vs : List NodeId} → IsNestedIn a fresh g h → AreValues a t fresh vs → IsGoalInstance a b vs h k → AsksOnly a b g k
nested_only n v i =
    record {
      labels = λ P q m t j.
          elim j [
            | inl e ↦ rw (e, i.env) (over_passes n.env v P q m)
            | inr e ↦ elim e [ inl f ↦ rw (f, i.predicate) (over_passes n.predicate v P q m) | inr f ↦ absurd f ]
          ];
    }

-- what a step brings, seen from a smaller store
pub only_back : {a b : List Tree} {t : Table} {g : Goal} {d : Content} → Extends a b → IsTable a t → HoldsGoal a g → BringsOnly (asked_terms b g) (content_of b t.entries) d → BringsOnly (asked_terms a g) (content_of a t.entries) d
only_back {a} {b} {t} {g} {d} e w p h = rw (content_of-extended e w.now) at (only_earlier {g = g} e p h)

-- a table that is as it was
pub content_same : {a b : List Tree} {t u : Table} → Extends a b → IsTable a t → u ≡ t → content_of b u.entries ≡ content_of a t.entries
content_same e w q = rw q (content_of-extended e w.now)

pub only_same : {a b : List Tree} {t u : Table} (ts : List Tree) → Extends a b → IsTable a t → u ≡ t → BringsOnly ts (content_of a t.entries) (content_of b u.entries)
only_same {a} {b} {t} {u} ts e w q = subst (BringsOnly ts (content_of a t.entries)) (sym (content_same e w q)) (only-refl ts (content_of a t.entries))

-- a step for a goal that was resolved
pub only_resolved : {a b : List Tree} {t : Table} {d : Content} (g k : Goal) → Extends a b → IsTable a t → tree_at b k.param_env.node ≡ deeply_resolved (content_of a t.entries) (tree_at a g.param_env.node) → tree_at b k.predicate.node ≡ deeply_resolved (content_of a t.entries) (tree_at a g.predicate.node)
    → BringsOnly (asked_terms b k) (content_of b t.entries) d → BringsOnly (asked_terms a g) (content_of a t.entries) d
only_resolved {a} {b} {t} {d} g k e w env predicate h =
    let c = content_of a t.entries in
    let here : BringsOnly (asked_terms b k) c d = rw (content_of-extended e w.now) at h in
    record {
      labels = λ P q m z. here.labels P q
          (λ x j.
          let pass = λ (y : Tree) (i : TreePasses P y). passes-deeply_resolved (λ l. P l ≡ true) (query_variables P q) c y z i in
          elim j [
            | inl f ↦ rw (f, env) (pass _ (m _ (inl refl)))
            | inr f ↦ elim f [ inl i ↦ rw (i, predicate) (pass _ (m _ (inr (inl refl)))) | inr i ↦ absurd i ]
          ]) z;
    }
