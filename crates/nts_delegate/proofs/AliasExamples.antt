-- What clauses of aliases offer: a clause for its own alias, the alias itself where it is rigid, and nothing for another; what a
-- projection is asked as; and of which lists of clauses nothing is said of aliases.
use Rattle.std.proofs.Common.{◌≡◌, ℕ, ◌==◌, Bool, true, false, if◌then◌else◌, List, [], ◌∷◌, refl, ap, sym, ◌∙◌, arith}
use Rattle.nts_model.specs.declared.labels.AliasHead.{AliasHead}
use Rattle.nts_model.specs.declared.labels.AliasHead.TheVariants as alias_of
use Rattle.nts_model.specs.declared.labels.AliasRelationDirection.TheVariants as direction
use Rattle.nts_model.specs.declared.labels.BoundVarIndexKind.TheVariants as index
use Rattle.nts_model.specs.declared.labels.ClauseHead.TheVariants as clause
use Rattle.nts_model.specs.declared.labels.Constant.TheVariants as constant
use Rattle.nts_model.specs.declared.labels.Label.TheVariants as label
use Rattle.nts_model.specs.declared.labels.Leaf.TheVariants as leaf
use Rattle.nts_model.specs.declared.labels.ListHead.TheVariants as list
use Rattle.nts_model.specs.declared.labels.PredicateHead.TheVariants as predicate
use Rattle.nts_model.specs.declared.labels.Sort.TheVariants as sort
use Rattle.nts_model.specs.declared.labels.TyHead.TheVariants as ty
use Rattle.nts_model.specs.Derivations.Handlers.{certain, never}
use Rattle.nts_model.specs.Derivations.Related.{alias, arguments, pair, unbound}
use Rattle.nts_model.specs.Derivations.Rules.{Mode, alike, normalization_goal, related}
use Rattle.nts_model.specs.Derivations.Sequents.{impl_where_bound, misc}
use Rattle.nts_model.specs.Terms.Trees.{Tree, empty, more, node}
use Rattle.nts_delegate.specs.Adding.{AddsNormClause, KeepsClauses, MakesRigid}
use Rattle.nts_delegate.specs.ClauseHandlers.{ClauseTree, ClausesOfTraits, ClausesOfAliases, handler_with, normalizing, projecting, projection_goal, trait_goal}
use Rattle.nts_delegate.specs.Clauses.{HoldsNormClause, SaysNothingOfAliases, said_of}
use Rattle.nts_delegate.specs.declared.alias_table.NormClause.{NormClause}
use Rattle.nts_delegate.specs.declared.clauses.Clauses.{Clauses}
use Rattle.nts_terms.specs.Handles.{alias_head}
use Rattle.nts_terms.specs.declared.handles.AliasDefId.{AliasDefId}
use Rattle.nts_terms.specs.declared.handles.AliasDefId.TheVariants as alias_def
use Rattle.nts_terms.specs.declared.handles.AliasId.{AliasId}

-- a parameter, and a position
abbrev parameter : Tree
parameter = node (label.Leaf (leaf.TyConstant (constant.Param 0))) empty

abbrev position : Tree
position = node (label.Bound sort.Ty index.Canonical 0) empty

abbrev list_of : Tree → Tree
list_of t = node (label.Ty (ty.Ctor 0)) (arguments (more t empty))

-- 'the alias 0 of a list of T normalizes to T where the trait 1 holds of T'
abbrev item_of_list : ClauseTree
item_of_list =
    record { fresh = sort.Ty ∷ []; head = more (list_of position) (more position empty); body = trait_goal 1 (more position empty) ∷ [] }

abbrev clauses : ClausesOfAliases
clauses (alias_of.Ty i) = if i == 0 then item_of_list ∷ [] else []
clauses (alias_of.Const i) = []

-- the alias 2 is rigid
abbrev is_rigid : AliasHead → Bool
is_rigid (alias_of.Ty i) = i == 2
is_rigid (alias_of.Const i) = false

its_alias_is_offered : (mode : Mode) (e t v : Tree) → (normalizing clauses is_rigid).offers mode e (normalization_goal (alias_of.Ty 0) (more t empty) v)
    ≡ record {
      fresh = sort.Ty ∷ [];
      equations = related t (list_of position) ∷ related v position ∷ [];
      constraints = [];
      hidden = [];
      goals = record { source = impl_where_bound; environment = e; predicate = trait_goal 1 (more position empty) } ∷ [];
      certainty = certain;
      accesses = never;
    } ∷ []
its_alias_is_offered mode e t v = refl

with_more_arguments_it_is_not : (mode : Mode) (e t u v : Tree) → (normalizing clauses is_rigid).offers mode e (normalization_goal (alias_of.Ty 0) (more t (more u empty)) v) ≡ []
with_more_arguments_it_is_not mode e t u v = refl

another_alias_is_not : (mode : Mode) (e t v : Tree) → (normalizing clauses is_rigid).offers mode e (normalization_goal (alias_of.Ty 1) (more t empty) v) ≡ []
another_alias_is_not mode e t v = refl

a_const_of_its_number_is_not : (mode : Mode) (e t v : Tree) → (normalizing clauses is_rigid).offers mode e (normalization_goal (alias_of.Const 0) (more t empty) v) ≡ []
a_const_of_its_number_is_not mode e t v = refl

a_rigid_alias_stands : (mode : Mode) (e t v : Tree) → (normalizing clauses is_rigid).offers mode e (normalization_goal (alias_of.Ty 2) (more t empty) v)
    ≡ record { fresh = []; equations = alike v (alias (alias_of.Ty 2) (more t empty)) ∷ []; constraints = []; hidden = []; goals = []; certainty = certain; accesses = never } ∷ []
a_rigid_alias_stands mode e t v = refl

a_projection_is_related : (mode : Mode) (e t v : Tree) → projecting.offers mode e (projection_goal (alias_of.Ty 1) (more t empty) v)
    ≡ record {
      fresh = [];
      equations = [];
      constraints = [];
      hidden = [];
      goals = record { source = misc; environment = e; predicate = unbound (node (label.Predicate (predicate.AliasRelate direction.Equate)) (pair (alias (alias_of.Ty 1) (more t empty)) v)) } ∷ [];
      certainty = certain;
      accesses = never;
    } ∷ []
a_projection_is_related mode e t v = refl

what_normalizes_is_no_projection : (mode : Mode) (e t v : Tree) → projecting.offers mode e (normalization_goal (alias_of.Ty 0) (more t empty) v) ≡ []
what_normalizes_is_no_projection mode e t v = refl

a_trait_is_neither : (mode : Mode) (e t : Tree) → projecting.offers mode e (trait_goal 1 (more t empty)) ≡ []
a_trait_is_neither mode e t = refl

-- of no alias is anything said where the tables are empty
nothing_is_said : (h : Clauses) → h.aliases.types.items ≡ [] → h.aliases.consts.items ≡ [] → SaysNothingOfAliases h
nothing_is_said h t c (alias_of.Ty i) = rw t refl
nothing_is_said h t c (alias_of.Const i) = rw c refl

-- .. but where an alias has a clause, or is rigid
not_nil : {X : Type 0} {x : X} {xs : List X} → x ∷ xs ≡ [] → ⊥
not_nil e = cc

a_clause_says_something : (h : Clauses) (a : AliasHead) (c : NormClause) (cs : List NormClause) → (said_of h a).clauses ≡ c ∷ cs → SaysNothingOfAliases h → ⊥
a_clause_says_something h a c cs e n = not_nil (sym e ∙ ap (λ s. s.clauses) (n a))

true_is_false : true ≡ false → ⊥
true_is_false e = cc

a_rigid_alias_says_something : (h : Clauses) (a : AliasHead) → (said_of h a).is_rigid ≡ true → SaysNothingOfAliases h → ⊥
a_rigid_alias_says_something h a e n = true_is_false (sym e ∙ ap (λ s. s.is_rigid) (n a))

-- a clause that was added is the last of its alias, and one that was not added is not
an_added_clause_is_the_last : (old new : Clauses) (c : NormClause) → (said_of old (alias_head c.alias)).clauses ≡ [] → AddsNormClause old new c → (said_of new (alias_head c.alias)).clauses ≡ c ∷ []
an_added_clause_is_the_last old new c e a = ap (λ s. s.clauses) a.alias ∙ rw e refl

none_is_added : (old new : Clauses) (c : NormClause) → (said_of new (alias_head c.alias)).clauses ≡ [] → (said_of old (alias_head c.alias)).clauses ≡ [] → AddsNormClause old new c → ⊥
none_is_added old new c e f a = not_nil (sym (an_added_clause_is_the_last old new c f a) ∙ e)

-- what is made rigid is so, and what says nothing stays as it is where all is kept
a_rigid_alias_is_made : (old new : Clauses) (a : AliasDefId) → MakesRigid old new a → (said_of new (alias_head a)).is_rigid ≡ true
a_rigid_alias_is_made old new a m = ap (λ s. s.is_rigid) m.alias

kept_says_nothing : (old new : Clauses) → KeepsClauses old new → SaysNothingOfAliases old → SaysNothingOfAliases new
kept_says_nothing old new k n a = k.aliases a ∙ n a

a_rigid_alias_is_no_keeping : (old new : Clauses) (a : AliasDefId) → SaysNothingOfAliases old → MakesRigid old new a → KeepsClauses old new → ⊥
a_rigid_alias_is_no_keeping old new a n m k = a_rigid_alias_says_something new (alias_head a) (a_rigid_alias_is_made old new a m) (kept_says_nothing old new k n)

-- a goal of a host effect is offered nothing
a_host_effect_has_none : (traits : ClausesOfTraits) (is_coinductive : ℕ → Bool) (mode : Mode) (e t : Tree) (i : ℕ) → (handler_with clauses is_rigid traits is_coinductive).offers mode e (unbound (node (label.Clause (clause.HostEffect i)) (arguments t))) ≡ []
a_host_effect_has_none traits is_coinductive mode e t i = refl

-- a store of a list of no arguments and a type
abbrev store : List Tree
store = node (label.List list.Args) empty ∷ node (label.Ty ty.Error) empty ∷ []

-- a clause of an alias of types without arguments, whose result is that type, is of the store
a_clause_holds : (c : NormClause) (i : AliasId) → c.alias ≡ alias_def.Ty i → c.head.node ≡ record { number = 0 } → c.result.node ≡ record { number = 1 } → c.body.items ≡ [] → HoldsNormClause store c
a_clause_holds c i a h r b =
    record {
      head_holds = rw h (record { within = omega arith; fits = refl });
      head = rw h (record { within = omega arith; names = (tt, tt); own = refl; closed = (tt, tt); well_bound = (tt, tt) });
      result_holds = rw (a, r) (record { within = omega arith; fits = refl });
      result = rw r (record { within = omega arith; names = (tt, tt); own = refl; closed = (tt, tt); well_bound = (tt, tt) });
      body = rw b tt;
    }

-- .. but where the store has no terms none is
none_holds_of_nothing : (c : NormClause) → HoldsNormClause [] c → ⊥
none_holds_of_nothing c h = (let w = h.result_holds.within in omega (arith, w))
