-- What a handler judges: goals that it affirms and denies, and judgements that keep the law and do not.
use Rattle.std.proofs.Common.{◌≡◌, ℕ, true, false, List, [], ◌∷◌, None, Some, refl, sym, ◌∙◌, subst}
use Rattle.std.specs.Prelude.{◌==◌}
use Rattle.nts_model.specs.declared.labels.VariableKind.TheVariants as kind
use Rattle.nts_model.specs.declared.labels.Relation.TheVariants as relation
use Rattle.nts_model.specs.declared.labels.TyHead.TheVariants as ty
use Rattle.nts_model.specs.declared.labels.Constant.TheVariants as constant
use Rattle.nts_model.specs.declared.labels.Leaf.TheVariants as leaf
use Rattle.nts_model.specs.declared.labels.PredicateHead.TheVariants as predicate
use Rattle.nts_model.specs.declared.labels.ListHead.TheVariants as list
use Rattle.nts_model.specs.declared.labels.Label.TheVariants as label
use Rattle.nts_model.specs.Terms.Trees.{Tree, empty, node}
use Rattle.nts_model.specs.Terms.Substitutions.{leaf_tree, Instance, instance_of}
use Rattle.nts_model.specs.Derivations.Related.{Constraint, unbound, value}
use Rattle.nts_model.specs.Derivations.Rules.{related}
use Rattle.nts_model.specs.Derivations.Handlers.{Handler, Candidate, Judgements, no_judgements, never_leaks, never_at_once, JudgementsAreKept}
use Rattle.nts_theory.specs.Affirming.{evaluatable, has_type, is_well_formed, SaysOfTwo, outlives_it, is_its_type, plain_way, goals_there, IsOwnWay, by_type, by_goals, HasOwnWay, IsAffirmed, has_objects, named_const, SaysAffirmed, IsDenied}

-- of the first trait alone objects can be made, and nothing else is so
abbrev first_alone : Judgements
first_alone = record no_judgements { is_dyn_compatible = λ i. i == 0 }

abbrev objects_of : ℕ → Tree
objects_of i = node (label.Predicate (predicate.DynCompatible i)) empty

abbrev nowhere : Tree
nowhere = node (label.List list.Env) empty

first_is_affirmed : IsAffirmed first_alone nowhere (objects_of 0)
first_is_affirmed = has_objects refl

second_is_denied : IsDenied first_alone (objects_of 1)
second_is_denied = record { of_trait = 1; is = refl; has_none = refl }

first_is_not_denied : IsDenied first_alone (objects_of 0) → ⊥
first_is_not_denied d =
    let same : 0 ≡ d.of_trait = (let e = d.is in cc e) in
    let none : true ≡ false = subst (λ z. (z == 0) ≡ false) (sym same) d.has_none in
    cc none

second_is_not_affirmed : IsAffirmed first_alone nowhere (objects_of 1) → ⊥
second_is_not_affirmed (has_objects x) = (let z : false ≡ true = x in cc z)

-- the goal that says so binds nothing
first_goal_is_affirmed : SaysAffirmed first_alone nowhere (unbound (objects_of 0))
first_goal_is_affirmed = record { statement = objects_of 0; binds_nothing = refl; affirmed = first_is_affirmed; formed = (tt, tt); closed = (tt, tt) }

second_goal_is_not : SaysAffirmed first_alone nowhere (unbound (objects_of 1)) → ⊥
second_goal_is_not s = (let e = s.binds_nothing in let q : objects_of 1 ≡ s.statement = cc e in second_is_not_affirmed (subst (IsAffirmed first_alone nowhere) (sym q) s.affirmed))

-- a parameter of consts needs no evaluation; whether a variable has one is not known
abbrev parameter : Tree
parameter = leaf_tree (leaf.ConstConstant (constant.Param 0))

parameter_is_affirmed : IsAffirmed no_judgements nowhere (evaluatable parameter)
parameter_is_affirmed = named_const

variable_is_not_affirmed : (n : ℕ) → IsAffirmed no_judgements nowhere (evaluatable (leaf_tree (leaf.Variable kind.Const n))) → ⊥
variable_is_not_affirmed n a = elim a [ ]

-- a value has a way to have a type: by its own; a variable of consts has none
abbrev unit_type : Tree
unit_type = node (label.Ty ty.Error) empty

value_has_a_way : IsOwnWay no_judgements nowhere (has_type (value 3 unit_type) unit_type) (plain_way (related unit_type unit_type ∷ []) [])
value_has_a_way = by_type

variable_has_no_way : (n : ℕ) (x : Candidate) → IsOwnWay no_judgements nowhere (has_type (leaf_tree (leaf.Variable kind.Const n)) unit_type) x → ⊥
variable_has_no_way n x w = elim w [ ]

value_goal_has_a_way : HasOwnWay no_judgements nowhere (unbound (has_type (value 3 unit_type) unit_type)) (plain_way (related unit_type unit_type ∷ []) [])
value_goal_has_a_way = record { statement = has_type (value 3 unit_type) unit_type; binds_nothing = refl; way = by_type; formed = ((refl, (refl, tt)), (((refl, tt), ((tt, tt), tt)), ((tt, tt), tt))); closed = (tt, ((tt, ((tt, tt), tt)), ((tt, tt), tt))) }

-- a term is well formed by what the handler names; where it names nothing there is no way
abbrev by_first : Judgements
by_first = record no_judgements { well_formed = λ e t. Some (unbound (objects_of 0) ∷ []) }

term_has_a_way : (t : Tree) → IsOwnWay by_first nowhere (is_well_formed t) (plain_way [] (goals_there nowhere (unbound (objects_of 0) ∷ [])))
term_has_a_way t = by_goals refl

term_has_none : (t : Tree) (x : Candidate) → IsOwnWay no_judgements nowhere (is_well_formed t) x → ⊥
term_has_none t x (by_goals given) = cc given

-- what a value's type is to be is said of it and its own
type_is_said : SaysOfTwo (record { relation = relation.Equal; left = unit_type; right = nowhere }) (has_type (value 3 unit_type) nowhere)
type_is_said = is_its_type

objects_say_nothing : (i : ℕ) (x : Constraint) → SaysOfTwo x (objects_of i) → ⊥
objects_say_nothing i x (outlives_it o) = elim o [ ]

-- a handler that judges nothing keeps the law; one that gives a const the same value whatever stands for its parameters does not
abbrev judging : Judgements → Handler
judging j = record { applies = λ mode a. ⊥; offers = λ mode e g. []; is_coinductive = λ i. false; leaks = never_leaks; judges = j; at_once = never_at_once }

nothing_given : (ps : List Tree) → None ≡ Some ps → ⊥
nothing_given ps e = cc e

nothing_is_kept : JudgementsAreKept (judging no_judgements)
nothing_is_kept = record { allows = λ e f ι k a. a; evaluates = λ e c v ι k q. cc q; well_formed = λ e t ps ι k q. cc q; goals = λ e t ps p k q i. absurd (nothing_given ps q) }

always_parameter : JudgementsAreKept (judging (record no_judgements { evaluates = λ e c. Some parameter })) → (ι : Instance) → ι.value (leaf.ConstConstant (constant.Param 0)) ≡ leaf_tree (leaf.ConstConstant (constant.Param 1)) → ⊥
always_parameter law ι moves =
    let same : Some parameter ≡ Some (instance_of ι parameter) = law.evaluates nowhere parameter parameter ι ((tt, tt), ((tt, tt), tt)) refl in
    let one : parameter ≡ leaf_tree (leaf.ConstConstant (constant.Param 1)) = (let z : parameter ≡ instance_of ι parameter = cc same in z ∙ moves) in
    cc one
