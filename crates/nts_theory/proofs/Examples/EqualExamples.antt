-- Aliases that normalize to terms, and trees that come to one by them: what meets these definitions, and what does not.
use Rattle.std.proofs.Common.{◌≡◌, ◌⊎◌, inl, inr, refl, ◌∙◌, sym}
use Rattle.nts_model.specs.declared.labels.AliasHead.TheVariants as alias_of
use Rattle.nts_model.specs.declared.labels.AliasRelationDirection.TheVariants as direction
use Rattle.nts_model.specs.Terms.Trees.{Tree, empty, more, label_of}
use Rattle.nts_model.specs.Derivations.Related.{alias, IsAlias}
use Rattle.nts_model.specs.Derivations.Rules.{normalization_goal}
use Rattle.nts_theory.specs.Aliasing.{alias_relation, IsAliasEquality}
use Rattle.nts_theory.specs.Refutation.Refutation.{IsNormalAlias, ComesTo, same_tree, by_alias, by_row, by_node, HasNoClosedAlias, AreMadeOne, ComeTogether, NormalizeToOne, IsGranted, JoinsEqualities}
use Rattle.nts_theory.proofs.Refutation.PlainTerms.{none_is_alias}
use Rattle.nts_theory.proofs.Examples.RefutationExamples.{list_type}
use Rattle.nts_theory.proofs.Examples.InputExamples.{no_clauses as nowhere}

abbrev item : Tree
item = alias (alias_of.Ty 0) empty

abbrev part : Tree
part = alias (alias_of.Ty 1) empty

item_is_alias : IsAlias item
item_is_alias = record { head = alias_of.Ty 0; parts = empty; is = refl; closed = (tt, ((tt, tt), tt)) }

part_is_alias : IsAlias part
part_is_alias = record { head = alias_of.Ty 1; parts = empty; is = refl; closed = (tt, ((tt, tt), tt)) }

-- what is granted is that the aliases Item and Part normalize to the type List
abbrev are_lists : Tree → Tree → Type 0
are_lists e g = (g ≡ normalization_goal (alias_of.Ty 0) empty list_type) ⊎ (g ≡ normalization_goal (alias_of.Ty 1) empty list_type)

item_is_list : IsNormalAlias are_lists nowhere item list_type
item_is_list = record { alias = record { head = alias_of.Ty 0; parts = empty; is = refl; closed = (tt, ((tt, tt), tt)) }; ends = (tt, ((tt, tt), tt)); none = (refl, ((refl, tt), tt)); kind = refl; granted = inl refl }

part_is_list : IsNormalAlias are_lists nowhere part list_type
part_is_list = record { alias = record { head = alias_of.Ty 1; parts = empty; is = refl; closed = (tt, ((tt, tt), tt)) }; ends = (tt, ((tt, tt), tt)); none = (refl, ((refl, tt), tt)); kind = refl; granted = inr refl }

-- nothing normalizes to an alias
nothing_is_item : (G : Tree → Tree → Type 0) (e a : Tree) → IsNormalAlias G e a item → ⊥
nothing_is_item G e a x = none_is_alias item x.none item_is_alias

-- so a row of Item comes to a row of List; and where no alias is a term, trees with two labels don't come to one another
row_of_items : ComesTo (IsNormalAlias are_lists nowhere) (more item empty) (more list_type empty)
row_of_items = by_row (by_alias item_is_list) same_tree

one_label : (a b : Tree) → ComesTo (λ x y. ⊥) a b → label_of a ≡ label_of b
one_label a b same_tree = refl
one_label a b (by_alias x) = absurd x
one_label a b (by_row p q) = refl
one_label a b (by_node p) = refl

item_is_not_list : ComesTo (λ x y. ⊥) item list_type → ⊥
item_is_not_list q = (let e = one_label item list_type q in cc e)

-- List has no alias, and Item is one
list_has_none : HasNoClosedAlias list_type
list_has_none = ((λ k. refl), (((λ k. refl), tt), tt))

item_has_one : HasNoClosedAlias item → ⊥
item_has_one h = (let e = h.0 (tt, ((tt, tt), tt)) in cc e)

-- Item and Part come to one tree, which they do not where nothing is granted
item_and_part : AreMadeOne are_lists nowhere item part
item_and_part = record { term = list_type; formed = ((refl, tt), ((tt, tt), tt)); settled = list_has_none; left = by_alias item_is_list; right = by_alias part_is_list }

not_without : ComeTogether (λ x y. ⊥) item list_type → ⊥
not_without m = (let e = one_label item m.term m.left in let f = one_label list_type m.term m.right in let z = e ∙ sym f in cc z)

-- both normalize to List, where that is proved, and to nothing where nothing is
both_are_lists : NormalizeToOne are_lists nowhere item part
unfolding item_is_list part_is_list
both_are_lists = record { left = item_is_list.alias; right = part_is_list.alias; term = list_type; ends = (tt, ((tt, tt), tt)); free = (refl, ((refl, tt), tt)); kind = refl; kind_too = refl; first = inl refl; second = inr refl }

none_is_both : NormalizeToOne (λ e g. ⊥) nowhere item part → ⊥
none_is_both n = n.first

-- where that Item normalizes to List is all that is proved, it is not proved that the two are equal; where nothing is, all is that is asked
abbrev item_alone : Tree → Tree → Type 0
item_alone e g = g ≡ normalization_goal (alias_of.Ty 0) empty list_type

item_is_granted : IsNormalAlias (IsGranted item_alone) nowhere item list_type
item_is_granted =
    record {
      alias = record { head = alias_of.Ty 0; parts = empty; is = refl; closed = (tt, ((tt, tt), tt)) };
      ends = (tt, ((tt, tt), tt));
      none = (refl, ((refl, tt), tt));
      kind = refl;
      granted = record { ground = ((refl, tt), ((refl, ((refl, tt), ((refl, ((refl, tt), ((refl, ((refl, tt), tt)), tt))), tt))), tt)); proved = λ s. refl; with_values = λ n. absurd (n tt) };
    }

said_no_more : JoinsEqualities item_alone → ⊥
said_no_more h = (let e = (h nowhere item list_type list_type item_is_granted (inl refl)).0 in cc e)

nothing_is_said : JoinsEqualities (λ e g. ⊥)
nothing_is_said e a b t x y = (let g = x.granted in absurd (g.proved (inr tt)))

-- a goal that Item is equal to Part says that aliases are equal, and one that it is equal to List says so of an alias and a term
items_are_equal : IsAliasEquality (alias_relation direction.Equate item part)
items_are_equal = record { left = item; right = part; is = record { by = direction.Equate; says = refl; left = item_is_alias; right = part_is_alias; kind = refl }; equal = refl }

lesser_is_none : IsAliasEquality (alias_relation direction.Subtype item part) → ⊥
lesser_is_none x = (let y = x.is in let z : direction.Subtype ≡ y.by = (let e = y.says in cc e) in let w = z ∙ x.equal in cc w)
