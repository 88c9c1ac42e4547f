-- What an environment offers: a clause of the goal's trait is offered, one of another trait is not, and what a clause binds
-- becomes a position.
use Rattle.std.proofs.Common.{◌≡◌, ℕ, List, [], ◌∷◌, ◌++◌, inl, refl, sym, ap, subst, ◌∙◌}
use Rattle.nts_model.specs.declared.labels.AliasHead.TheVariants as alias_of
use Rattle.nts_model.specs.declared.labels.Sort.TheVariants as sort
use Rattle.nts_model.specs.declared.labels.Constant.TheVariants as constant
use Rattle.nts_model.specs.declared.labels.Leaf.TheVariants as leaf
use Rattle.nts_model.specs.declared.labels.BoundVarIndexKind.TheVariants as index
use Rattle.nts_model.specs.declared.labels.TyHead.TheVariants as ty
use Rattle.nts_model.specs.declared.labels.ListHead.TheVariants as list
use Rattle.nts_model.specs.declared.labels.Label.TheVariants as label
use Rattle.nts_model.specs.Terms.Trees.{Tree, empty, more, node, children, IsInRow}
use Rattle.nts_model.specs.Derivations.Related.{arguments}
use Rattle.nts_model.specs.Derivations.Rules.{Mode, Application, related, normalization_goal}
use Rattle.nts_model.specs.Derivations.Handlers.{certain, never}
use Rattle.nts_delegate.specs.ClauseHandlers.{trait_goal, normalization_of, offers_by, clauses_in_store, alias_offers, alias_clauses_in_store, rigid_in, handler_of}
use Rattle.nts_delegate.specs.Offers.{trait_of}
use Rattle.nts_delegate.specs.declared.clauses.Clauses.{Clauses}
use Rattle.nts_assembly.specs.Assumptions.{assumed_clause, assumed_offers, assuming}
use Rattle.nts_assembly.specs.Assembling.{assembled}
use Rattle.nts_assembly.specs.Projections.{assumed_projection, assumed_results, equating}

-- a parameter, what a binder binds, and a position
abbrev parameter : Tree
parameter = node (label.Leaf (leaf.TyConstant (constant.Param 0))) empty

abbrev bound : Tree
bound = node (label.Bound sort.Ty (index.Bound 0) 0) empty

abbrev position : Tree
position = node (label.Bound sort.Ty index.Canonical 0) empty

abbrev list_of : Tree → Tree
list_of t = node (label.Ty (ty.Ctor 0)) (arguments (more t empty))

-- 'the trait 1 holds of the parameter', and 'for<T> the trait 2 holds of a list of T'
abbrev environment : Tree
environment =
    node (label.List list.Env) (more (assumed_clause empty 1 (more parameter empty)) (more (assumed_clause (more (node (label.List (list.Sort sort.Ty)) empty) empty) 2 (more (list_of bound) empty)) empty))

its_trait_is_offered : (mode : Mode) (t : Tree) → assuming.offers mode environment (trait_goal 1 (more t empty))
    ≡ record { fresh = []; equations = related t parameter ∷ []; constraints = []; hidden = []; goals = []; certainty = certain; accesses = never } ∷ []
its_trait_is_offered mode t = refl

another_trait_is_not : (mode : Mode) (t : Tree) → assuming.offers mode environment (trait_goal 3 (more t empty)) ≡ []
another_trait_is_not mode t = refl

what_is_bound_is_a_position : (mode : Mode) (t : Tree) → assuming.offers mode environment (trait_goal 2 (more t empty))
    ≡ record { fresh = sort.Ty ∷ []; equations = related t (list_of position) ∷ []; constraints = []; hidden = []; goals = []; certainty = certain; accesses = never } ∷ []
what_is_bound_is_a_position mode t = refl

-- an assembly offers what the environment says, first of traits and then of what aliases are, then what is offered for aliases, and
-- then the clauses of the goal's trait
an_assembly_offers_in_order : (ts : List Tree) (h : Clauses) (mode : Mode) (e g : Tree) → (assembled (handler_of ts h)).offers mode e g
    ≡ assumed_offers e (trait_of g) ++ (assumed_results e (normalization_of g) ++ (alias_offers (alias_clauses_in_store ts h) (rigid_in h) e g ++ offers_by (clauses_in_store ts h) e (trait_of g)))
an_assembly_offers_in_order ts h mode e g = refl

-- 'the alias 0 of the parameter is a list of the parameter', and 'for<T> the alias 1 of a list of T is T'
abbrev results : Tree
results =
    node (label.List list.Env) (more (assumed_projection empty (record { head = alias_of.Ty 0; parts = more parameter empty; term = list_of parameter })) (more (assumed_projection (more (node (label.List (list.Sort sort.Ty)) empty) empty) (record { head = alias_of.Ty 1; parts = more (list_of bound) empty; term = bound })) empty))

abbrev normalizes : ℕ → Tree → Tree → Tree
normalizes i t v = normalization_goal (alias_of.Ty i) (more t empty) v

-- what the environment says of its alias is offered in every mode, and of another it is not
its_alias_is_offered : (mode : Mode) (t v : Tree) → equating.offers mode results (normalizes 0 t v)
    ≡ record { fresh = []; equations = related t parameter ∷ related v (list_of parameter) ∷ []; constraints = []; hidden = []; goals = []; certainty = certain; accesses = never } ∷ []
its_alias_is_offered mode t v = refl

what_an_alias_binds_is_a_position : (mode : Mode) (t v : Tree) → equating.offers mode results (normalizes 1 t v)
    ≡ record { fresh = sort.Ty ∷ []; equations = related t (list_of position) ∷ related v position ∷ []; constraints = []; hidden = []; goals = []; certainty = certain; accesses = never } ∷ []
what_an_alias_binds_is_a_position mode t v = refl

another_alias_is_not : (mode : Mode) (t v : Tree) → equating.offers mode results (normalizes 2 t v) ≡ []
another_alias_is_not mode t v = refl

-- an instance of what it says is a rule
abbrev said_use : Application
said_use =
    record { environment = results; conclusion = normalizes 0 parameter (list_of parameter); values = []; equations = related parameter parameter ∷ related (list_of parameter) (list_of parameter) ∷ []; goals = []; constraints = []; hidden = [] }

is_said : (mode : Mode) → equating.applies mode said_use
is_said mode =
    record {
      rows = children results;
      environment = refl;
      sorts = empty;
      listed = tt;
      said = record { head = alias_of.Ty 0; parts = more parameter empty; term = list_of parameter };
      said_row = tt;
      among = inl refl;
      values = tt;
      asked = record { head = alias_of.Ty 0; parts = more parameter empty; term = list_of parameter };
      row = tt;
      same = refl;
      as_many = refl;
      conclusion = refl;
      equations = refl;
      no_goals = refl;
      no_constraints = refl;
      no_hidden = refl;
    }

-- .. and where the environment says nothing there is none
nothing_is_said : (mode : Mode) (a : Application) → a.environment ≡ node (label.List list.Env) empty → equating.applies mode a → ⊥
nothing_is_said mode a e h =
    let none : h.rows ≡ empty = ap children (sym h.environment ∙ e) in
    subst (IsInRow (assumed_projection h.sorts h.said)) none h.among
