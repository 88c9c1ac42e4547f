-- What nodes mean that say what outlives a region or what an alias normalizes to.
use Rattle.std.proofs.Common.{◌≡◌, List, [], ◌∷◌, refl}
use Rattle.std.specs.Global.{Vec}
use Rattle.nts_model.specs.declared.labels.Label.TheVariants as label
use Rattle.nts_model.specs.declared.labels.Leaf.TheVariants as leaf
use Rattle.nts_model.specs.declared.labels.FreeRegion.TheVariants as free
use Rattle.nts_model.specs.declared.labels.AliasHead.TheVariants as alias
use Rattle.nts_model.specs.declared.labels.TyHead.TheVariants as ty
use Rattle.nts_model.specs.declared.labels.ClauseHead.TheVariants as clause
use Rattle.nts_model.specs.declared.labels.Sort.TheVariants as sort
use Rattle.nts_model.specs.declared.labels.UintTy.TheVariants.{U8}
use Rattle.nts_model.specs.Terms.Trees.{Tree, empty, more, node}
use Rattle.nts_store.specs.declared.nodes.NodeId.{NodeId}
use Rattle.nts_terms.specs.declared.handles.GenericArg.{GenericArg}
use Rattle.nts_terms.specs.declared.handles.Ty.{Ty}
use Rattle.nts_terms.specs.declared.handles.Region.{Region}
use Rattle.nts_terms.specs.declared.kinds.ClauseKind.{ClauseKind}
use Rattle.nts_terms.specs.declared.kinds.ClauseKind.TheVariants as statements
use Rattle.nts_text.specs.declared.resolver.Resolved.TheVariants as nodes
use Rattle.nts_wording.specs.Meaning.{BoundStatement, argument_list, nodes_meaning, no_values, MakesStatement, TakesLast}

abbrev static : Tree
static = node (label.Leaf (leaf.Region free.Static)) empty

abbrev type_u8 : Tree
type_u8 = node (label.Ty (ty.Uint U8)) empty

abbrev says : List BoundStatement → Tree → List BoundStatement → Type 0
says before t found = found ≡ record { binds = []; statement = t } ∷ before

-- `u8: 'static`
of_type : says [] (node (label.Clause clause.TypeOutlives) (more type_u8 (more static empty))) (nodes_meaning no_values (nodes.TypeOutlives ∷ nodes.Uint U8 ∷ nodes.Static ∷ [])).predicates
of_type = refl

-- `'static: 'static`
of_region : says [] (node (label.Clause clause.RegionOutlives) (more static (more static empty))) (nodes_meaning no_values (nodes.RegionOutlives ∷ nodes.Static ∷ nodes.Static ∷ [])).predicates
of_region = refl

-- `for<P> P: 'static` binds a type
bound : (nodes_meaning no_values (nodes.Binds sort.Ty ∷ nodes.TypeOutlives ∷ nodes.BoundType 0 ∷ nodes.Static ∷ [])).predicates ≡ [] → ⊥
bound h = cc

-- `A(u8) = u8`: the value is behind the arguments
of_alias : says [] (node (label.Clause (clause.Projection (alias.Ty 0))) (more (argument_list (type_u8 ∷ [])) (more type_u8 empty)))
    (nodes_meaning no_values (nodes.Normalizes 0 1 ∷ nodes.Uint U8 ∷ nodes.Uint U8 ∷ [])).predicates
of_alias = refl

-- an alias alone is a type and states nothing
alias_is_none : (nodes_meaning no_values (nodes.Alias 0 1 ∷ nodes.Uint U8 ∷ [])).predicates ≡ []
alias_is_none = refl

alias_is_type : (nodes_meaning no_values (nodes.Alias 0 1 ∷ nodes.Uint U8 ∷ [])).arguments ≡ node (label.Ty (ty.Alias 0)) (more (argument_list (type_u8 ∷ [])) empty) ∷ []
alias_is_type = refl

-- a type alone states nothing, and no name of a type is stated
type_is_none : (nodes_meaning no_values (nodes.Uint U8 ∷ [])).predicates ≡ []
type_is_none = refl

type_is_not_stated : (ts : List Tree) (old new : Vec GenericArg) (c : ClauseKind) → MakesStatement ts (nodes.Uint U8) old new c → ⊥
type_is_not_stated ts old new c h = h

type_is_stated : (ts : List Tree) (old new : Vec GenericArg) (t : Ty) (r : Region) → old.items ≡ record { node = r.node } ∷ record { node = t.node } ∷ [] → new.items ≡ []
    → MakesStatement ts nodes.TypeOutlives old new (statements.TypeOutlives t r)
type_is_stated ts old new t r e f = λ us v later. rw (e, f) (refl, refl)

-- the last argument is taken, and nothing from nothing
last_is_taken : (old new : Vec GenericArg) (a : GenericArg) → old.items ≡ a ∷ [] → new.items ≡ [] → TakesLast old new a.node
last_is_taken old new a e f = λ us. rw (e, f) refl

nothing_to_take : (none new : Vec GenericArg) (n : NodeId) → none.items ≡ [] → TakesLast none new n → ⊥
nothing_to_take none new n e h = let f = h [] in let g = rw e at f in cc
