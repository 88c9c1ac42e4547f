-- Goals about aliases: what a query tells and refutes of them, and which goals say that an alias is equal to a term.
use Rattle.std.proofs.Common.{◌≡◌, inl, inr, true, false, List, [], ◌∷◌, refl}
use Rattle.nts_model.specs.declared.labels.AliasHead.{AliasHead}
use Rattle.nts_model.specs.declared.labels.AliasRelationDirection.TheVariants as direction
use Rattle.nts_model.specs.declared.labels.AliasHead.TheVariants as alias_of
use Rattle.nts_model.specs.declared.labels.ClauseHead.TheVariants as clause
use Rattle.nts_model.specs.declared.labels.Label.TheVariants as label
use Rattle.nts_model.specs.declared.labels.Variance.TheVariants as variance
use Rattle.nts_model.specs.declared.labels.VariableKind.TheVariants as variable
use Rattle.nts_model.specs.Terms.Trees.{Tree, empty, node, more}
use Rattle.nts_model.specs.Tables.Contents.{Content}
use Rattle.nts_model.specs.Answers.Applying.{IsNew}
use Rattle.nts_model.specs.declared.labels.ListHead.TheVariants as list
use Rattle.nts_model.specs.Derivations.Related.{constructor, alias, alias_goal, subtype_goal, pair, unbound, IsAlias}
use Rattle.nts_model.specs.Derivations.Rules.{Mode, coherence, post_analysis, relating, normalization_goal, statement_of, IsHandlers}
use Rattle.nts_model.specs.Derivations.Sequents.{Premise}
use Rattle.nts_model.specs.Derivations.Handlers.{Handler}
use Rattle.nts_model.specs.Refutation.Opening.{opened_in}
use Rattle.nts_theory.specs.Aliasing.{EquatesAlias, NormalizesSide, IsLesserGoal, NormalizesLesser}
use Rattle.nts_theory.specs.Telling.{Queries, IsTraitStatement, IsAliasStatement, IsAliasReady, Refutes, aliases_fail, no_outcome}
use Rattle.nts_theory.specs.AskedGoals.{is_asked, asked_in, asks_all}
use Rattle.nts_theory.proofs.Refutation.Aliasing.{equated_no_handlers}

-- a statement that an alias normalizes to a term is about an alias; one that a trait holds is not
abbrev pub item : Tree
item = alias (alias_of.Ty 0) empty

abbrev list_type : Tree
list_type = constructor 1 empty

normalizing_is_about_an_alias : IsAliasStatement (statement_of (normalization_goal (alias_of.Ty 0) empty list_type))
normalizing_is_about_an_alias = tt

-- that Auto holds of Item is not asked in coherence where it is a goal of a candidate; that it holds of List is, and so is that Item is
-- equal to List, and that something normalizes to List
abbrev projected : Tree
projected = unbound (node (label.Clause (clause.Projection (alias_of.Ty 0))) (pair (node (label.List list.Args) empty) list_type))

projection_is_asked : is_asked projected ≡ true
projection_is_asked = refl

normalizing_is_asked : is_asked (normalization_goal (alias_of.Ty 0) empty list_type) ≡ true
normalizing_is_asked = refl

equality_is_asked : is_asked (alias_goal variance.Invariant item list_type) ≡ true
equality_is_asked = refl

abbrev auto_of : Tree → Tree
auto_of t = unbound (node (label.Clause (clause.Trait 0)) (more (node (label.List list.Args) (more t empty)) empty))

pub trait_of_an_alias_is_left_out : is_asked (auto_of item) ≡ false
trait_of_an_alias_is_left_out = refl

trait_of_a_list_is_asked : is_asked (auto_of list_type) ≡ true
trait_of_a_list_is_asked = refl

-- of these two goals in coherence the second alone is asked, and not all are; elsewhere both are
abbrev of_item : Premise
of_item = relating (node (label.List list.Env) empty) (auto_of item)

abbrev of_list : Premise
of_list = relating (node (label.List list.Env) empty) (auto_of list_type)

pub one_is_asked : asked_in coherence (of_item ∷ of_list ∷ []) ≡ of_list ∷ []
one_is_asked = refl

not_all_are : asks_all coherence (of_item ∷ of_list ∷ []) ≡ false
not_all_are = refl

pub both_are_asked : (asked_in post_analysis (of_item ∷ of_list ∷ []) ≡ of_item ∷ of_list ∷ []) × (asks_all post_analysis (of_item ∷ of_list ∷ []) ≡ true)
both_are_asked = (refl, refl)

-- a goal about an alias for which nothing is offered is refuted
pub alias_without_rules_is_refuted : (Q : Queries) (h : Handler) (mode : Mode) (c : Content) (e g : Tree) (qs : List Tree) → IsAliasReady c e g → h.offers mode e (opened_in c g) ≡ [] → Refutes Q h mode c e g qs
alias_without_rules_is_refuted Q h mode c e g qs ready none = aliases_fail ready (rw none no_outcome)

-- a goal says that Item and List are equal: what is left is that Item normalizes to List. Of two aliases no goal says so, and no
-- trait's goal does
abbrev pub item_alias : IsAlias item
item_alias = record { head = alias_of.Ty 0; parts = empty; is = refl; closed = (tt, ((tt, tt), tt)) }

pub list_is_no_alias : IsAlias list_type → ⊥
list_is_no_alias x = by_head x.head x.is
  where
    by_head : (h : AliasHead) → list_type ≡ alias h x.parts → ⊥
    by_head (alias_of.Ty i) e = cc e
    by_head (alias_of.Const i) e = cc e

pub item_is_normalized : NormalizesSide empty (alias_goal variance.Invariant item list_type) (relating empty (normalization_goal (alias_of.Ty 0) empty list_type))
item_is_normalized = record { left = item; right = list_type; is = record { by = direction.Equate; says = inl refl; alias = item_alias; plain = list_is_no_alias; kind = refl }; premise = refl }

-- .. and of the goal that Item is a subtype of List it is left that Item normalizes to a new variable, which is a subtype of List. A goal
-- that the two are equal says of neither that it is a subtype of the other
pub item_is_a_subtype : (c d : Content) (r : Tree) → IsNew c d variable.Ty c.universe r
    → NormalizesLesser c d empty (alias_goal variance.Covariant item list_type) (relating empty (normalization_goal (alias_of.Ty 0) empty r) ∷ relating empty (subtype_goal true variance.Covariant r list_type) ∷ [])
item_is_a_subtype c d r new =
    record {
      left = item;
      right = list_type;
      is = record { says = refl; left = refl; right = refl };
      first = r;
      second = list_type;
      between = d;
      of_left = relating empty (normalization_goal (alias_of.Ty 0) empty r) ∷ [];
      of_right = [];
      left_has = inl (record { is = item_alias; new = new; premise = refl });
      right_has = inr (record { plain = list_is_no_alias; same = refl; table = refl; none = refl });
      premises = refl;
    }

pub equal_types_are_no_subtypes : (a b : Tree) → IsLesserGoal (alias_goal variance.Invariant item list_type) a b → ⊥
equal_types_are_no_subtypes a b x = cc x.says

pub other_aliases_are_not_equated : (g a t : Tree) → IsAlias t → EquatesAlias g a t → ⊥
other_aliases_are_not_equated g a t x e = e.plain x

pub trait_equates_no_alias : (g a t : Tree) → IsTraitStatement (statement_of g) → EquatesAlias g a t → ⊥
trait_equates_no_alias g a t s e = equated_no_handlers g a t e (trait_handlers (statement_of g) s)
  where
    trait_handlers : (s : Tree) → IsTraitStatement s → IsHandlers s
    trait_handlers (node (label.Clause (clause.Trait i)) ts) t = tt
    trait_handlers (node (label.Clause (clause.HostEffect i)) ts) t = tt
    trait_handlers s t = absurd t
