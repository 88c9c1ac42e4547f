-- A table and a query that are made of a canonical input.
use Rattle.std.proofs.Common.{◌≡◌, List, [], map, sym, ap, subst, ◌∙◌}
use Rattle.nts_model.specs.Terms.Trees.{Tree}
use Rattle.nts_model.specs.Tables.Resolving.{Knows}
use Rattle.nts_model.specs.Terms.Substitutions.{leaf_tree, filled}
use Rattle.nts_model.specs.Canonical.Inputs.{PositionKind}
use Rattle.nts_model.specs.Terms.Scoping.{IsWellBound}
use Rattle.nts_model.proofs.Terms.Scoping.{leaf_patches}
use Rattle.nts_terms.specs.declared.handles.GenericArg.{GenericArg}
use Rattle.nts_store.specs.Growth.{Extends}
use Rattle.nts_store.specs.Filled.{HasValues}
use Rattle.nts_terms.proofs.Moved.{Holds-extended}
use Rattle.nts_unify.specs.Entries.{Entries}
use Rattle.nts_unify.specs.Reading.{content_of}
use Rattle.nts_unify.proofs.Looking.{leaves-none}
use Rattle.nts_table.proofs.Filling.{knows-filled}
use Rattle.nts_canonical.specs.declared.types.QueryInput.{QueryInput}
use Rattle.nts_canonical.specs.Forms.{query_tree, trees_of, HoldsQuery}
use Rattle.nts_canonical.specs.Kinds.{value_leaves, made_variables}
use Rattle.nts_canonical.specs.Building.{HasNoName}
use Rattle.nts_canonical.specs.Replaced.{AreLeafArgs}
use Rattle.nts_canonical.proofs.PairLists.{are_hidden-kept, hidden_row-kept, AreLeafArgs-kept, trees_of-leaves}
use Rattle.nts_canonical.proofs.Filled.{three}
use Rattle.nts_canonical.proofs.Valued.{values-known, AreRootKinds}

-- a query in a store that grows
pub holds-kept : (a b : List Tree) (q : QueryInput) → HoldsQuery a q → Extends a b → HoldsQuery b q
holds-kept a b q h e =
    record {
      environment = Holds-extended _ q.goal.param_env.node e h.environment;
      predicate = Holds-extended _ q.goal.predicate.node e h.predicate;
      hidden = are_hidden-kept a b q.predefined_opaques_in_body.items h.hidden e;
    }

pub query_tree-kept : (a b : List Tree) (q : QueryInput) → HoldsQuery a q → Extends a b → query_tree b q ≡ query_tree a q
query_tree-kept a b q h e =
    three (e.kept q.goal.param_env.node h.environment.within) (e.kept q.goal.predicate.node h.predicate.within) (hidden_row-kept a b q.predefined_opaques_in_body.items h.hidden e)

-- the trees of the values
pub value-trees : (a b : List Tree) (xs ys : List GenericArg) (ks : List PositionKind) → AreLeafArgs a xs (value_leaves 0 ks) → Extends a b → ys ≡ xs → trees_of b ys ≡ map leaf_tree (value_leaves 0 ks)
value-trees a b xs ys ks h e same =
    ap (trees_of b) same ∙ trees_of-leaves b xs (value_leaves 0 ks) (AreLeafArgs-kept a b xs (value_leaves 0 ks) h e)

pub values-fit : (a b : List Tree) (q : QueryInput) (ts vs : List Tree) → HoldsQuery a q → Extends a b → ts ≡ vs → HasValues vs (query_tree a q) → HasValues ts (query_tree b q)
values-fit a b q ts vs h e same k =
    subst (λ z. HasValues z (query_tree b q)) (sym same) (subst (HasValues vs) (sym (query_tree-kept a b q h e)) k)

-- the query that is made
pub query-made : (a b : List Tree) (q : QueryInput) (ts vs : List Tree) (t : Tree) → HoldsQuery a q → Extends a b → ts ≡ vs → t ≡ filled ts (query_tree b q) → t ≡ filled vs (query_tree a q)
query-made a b q ts vs t h e same is = is ∙ ap (λ z. filled z (query_tree b q)) same ∙ ap (filled vs) (query_tree-kept a b q h e)

-- .. and the table knows it
pub query-known : (ts : List Tree) (e : Entries) (ks : List PositionKind) (s t : Tree) → e.variables ≡ made_variables [] ks → AreRootKinds ks → HasNoName t → IsWellBound t → s ≡ filled (map leaf_tree (value_leaves 0 ks)) t → Knows (content_of ts e) s
query-known ts e ks s t m z n w is =
    subst (Knows (content_of ts e)) (sym is) (knows-filled (content_of ts e) (map leaf_tree (value_leaves 0 ks)) t (values-known ts e ks m z) (λ j. (leaf_patches (value_leaves 0 ks) j).0) (leaves-none (content_of ts e) t n.0 n.1 n.2) w)
