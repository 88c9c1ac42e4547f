-- Goals that relating may leave and goals that it may not, over tables of the type variables ?a and ?b.
use Rattle.std.proofs.Common.{◌≡◌, ◌⊎◌, inl, inr, ⊎_elim, ℕ, zero, suc, List, [], ◌∷◌, Option, Some, None, ◌<◌, ◌≤◌, ◌==◌, if◌then◌else◌, Bool, true, false, refl, sym, ap, ◌∙◌, subst, arith}
use Rattle.nts_model.specs.declared.labels.Variance.{Variance}
use Rattle.nts_model.specs.declared.labels.Variance.TheVariants as variance
use Rattle.nts_model.specs.declared.labels.VariableKind.TheVariants as kind
use Rattle.nts_model.specs.declared.labels.FreeRegion.TheVariants as region
use Rattle.nts_model.specs.declared.labels.AliasHead.TheVariants as alias_of
use Rattle.nts_model.specs.declared.labels.TyHead.TheVariants as ty
use Rattle.nts_model.specs.declared.labels.Leaf.TheVariants as leaf
use Rattle.nts_model.specs.declared.labels.Label.TheVariants as label
use Rattle.nts_model.specs.Terms.Substitutions.{leaf_tree}
use Rattle.nts_model.specs.Terms.Trees.{Tree, empty, node, label_of, variable_tree}
use Rattle.nts_model.specs.Tables.Contents.{Content, SlotState, unset, link, known, state_of, sub_link_of}
use Rattle.nts_model.specs.Tables.Resolving.{rooted, deeply_resolved, rank_of_kind, variable_rank, Reaches, here, on}
use Rattle.nts_model.specs.Tables.SubUnifying.{SharesSubRoot, itself, linked, turned, through}
use Rattle.nts_model.specs.Derivations.Related.{constructor, arguments, alias, IsAlias}
use Rattle.nts_model.proofs.Tables.AliasLabels.{not_alias}
use Rattle.nts_model.proofs.Tables.Slots.{field_below}
use Rattle.nts_variance_model.specs.Variances.Relations.{Relating as Pair}
use Rattle.nts_variance.proofs.Dues.{two_turned, two_owed, two_unset}
use Rattle.nts_variance.specs.Due.{IsValued, GotValue, ShareSubRoots, AreTwoUnset, WasMadeFor, HadNoValue, AreTwoSides, AreTypeVariables, IsGoalDue, AreGoalsDue, AreGoalsOfAliases, IsNoType, IsUnvalued, IsUnvaluedPair, AreUnvaluedPairs, LeavesDue}

-- List and another type without arguments, an alias, the region 'static, and the two type variables
abbrev list_type : Tree
list_type = constructor 1 empty

abbrev other_type : Tree
other_type = constructor 2 empty

abbrev item : Tree
item = alias (alias_of.Ty 0) empty

abbrev static : Tree
static = leaf_tree (leaf.Region region.Static)

abbrev variable_a : Tree
variable_a = variable_tree kind.Ty 0

abbrev variable_b : Tree
variable_b = variable_tree kind.Ty 1

-- a table of ?a in some state and of ?b without a value, which a link of sub-unification joins with another variable or not
abbrev table_of : SlotState → Option ℕ → List ℕ → Content
table_of s joined order = record {
  slots = record { kind = kind.Ty; universe = 0; state = s; sub_link = None } ∷ record { kind = kind.Ty; universe = 0; state = unset; sub_link = joined } ∷ [];
  order = order;
  universe = 0;
  constraints = [];
}

-- the tables in which neither has a value; in which ?a is List; and in which, besides, ?b shares the sub root of ?a
abbrev nothing_known : Content
nothing_known = table_of unset None []

abbrev list_for_a : Option ℕ → Content
list_for_a joined = table_of (known list_type) joined (0 ∷ [])

abbrev a_is_list : Content
a_is_list = list_for_a None

abbrev a_is_list_joined : Content
a_is_list_joined = list_for_a (Some 0)

-- the table of ?a alone, without a value; and the one in which ?b was made for it since
abbrev only_a : Content
only_a = record { slots = record { kind = kind.Ty; universe = 0; state = unset; sub_link = None } ∷ []; order = []; universe = 0; constraints = [] }

abbrev b_made_for_a : Content
b_made_for_a = table_of unset (Some 0) []

-- two sides to be related by a variance; ?a below List, and ?a below ?b
abbrev pair_of : Variance → Tree → Tree → Pair
pair_of v a b = record { variance = v; left = a; right = b }

abbrev a_below_list : Pair
a_below_list = pair_of variance.Covariant variable_a list_type

abbrev a_below_b : Pair
a_below_b = pair_of variance.Covariant variable_a variable_b

-- where ?a is List, it has a value
list_is_its_value : IsValued a_is_list variable_a
list_is_its_value = record { value = list_type; knows = ((tt, tt, refl), (((tt, tt, refl), tt, tt), tt), tt); lower = omega arith; one = refl }

-- a table in which ?a is List does not say that ?a has no value
list_is_set : (n : ℕ) → n ≡ 0 → state_of a_is_list n ≡ Some unset → ⊥
list_is_set n same e = (let z : state_of a_is_list 0 ≡ Some unset = subst (λ m. state_of a_is_list m ≡ Some unset) same e in cc z)

-- where nothing is known of the variables, neither has a value
unset_has_no_value : (n : ℕ) → IsValued nothing_known (variable_tree kind.Ty n) → ⊥
unset_has_no_value n v =
    let two : variable_rank v.value ≡ 2 = is_variable v.value (sym v.one) in
    let below : variable_rank v.value < 2 = v.lower in
    omega (arith, two, below)
  where
    is_variable : (t : Tree) → deeply_resolved nothing_known t ≡ variable_tree kind.Ty n → variable_rank t ≡ 2
    is_variable (node (label.Leaf (leaf.Variable kind.Ty m)) ts) e = refl
    is_variable (node (label.Leaf (leaf.Variable kind.Region m)) ts) e = cc e
    is_variable (node (label.Leaf (leaf.Variable k m)) ts) e = cc e
    is_variable (node (label.Leaf f) ts) e = cc e
    is_variable (node l ts) e = cc e
    is_variable t e = cc e

-- where ?a is List, only a type variable is one with ?b
only_variables : (o : Option ℕ) (t : Tree) → label_of (deeply_resolved (list_for_a o) t) ≡ label_of variable_b → variable_rank t ≡ 2
only_variables o (node (label.Leaf (leaf.Variable kind.Ty m)) ts) e = refl
only_variables o (node (label.Leaf (leaf.Variable kind.Region m)) ts) e = cc e
only_variables o (node (label.Leaf (leaf.Variable k m)) ts) e = chosen (m == 0) e
  where
    chosen : (z : Bool) → label_of (rooted (list_for_a o) (if z then list_type else node (label.Leaf (leaf.Variable k m)) ts)) ≡ label_of variable_b → rank_of_kind k ≡ 2
    chosen true h = cc h
    chosen false h = cc h
only_variables o (node (label.Leaf f) ts) e = cc e
only_variables o (node l ts) e = cc e
only_variables o t e = cc e

-- where ?a is List, ?b has no value
b_has_no_value : (o : Option ℕ) → IsValued (list_for_a o) variable_b → ⊥
b_has_no_value o v =
    let two : variable_rank v.value ≡ 2 = only_variables o v.value (ap label_of (sym v.one)) in
    let below : variable_rank v.value < 2 = v.lower in
    omega (arith, two, below)

-- ?a got a value between a table in which it had none and one in which it is List
a_got_value : GotValue nothing_known a_is_list variable_a
a_got_value = record { number = 0; is = refl; before = refl; after = list_is_its_value }

-- a variable of which nothing is known afterwards got no value
still_unset : (c : Content) (n : ℕ) → GotValue c nothing_known (variable_tree kind.Ty n) → ⊥
still_unset c n g = unset_has_no_value n g.after

-- a variable that was List before got no value since
was_list_before : (d : Content) → GotValue a_is_list d variable_a → ⊥
was_list_before d g = (let i = g.is in let same : g.number ≡ 0 = cc in list_is_set g.number same g.before)

-- a type that is no variable got no value
constructor_got_no_value : (c d : Content) (i : ℕ) → GotValue c d (constructor i empty) → ⊥
constructor_got_no_value c d i g = (let e = g.is in cc e)

-- ?a and ?b share their sub root where a link of sub-unification joins them
joined_share : ShareSubRoots a_is_list_joined 0 1
joined_share = record { first = 0; second = 1; of_first = here; of_second = here; shared = turned (linked refl) }

-- ?a and ?b share no sub root where no link of sub-unification leads from one to another
apart_share_none : ShareSubRoots a_is_list 0 1 → ⊥
apart_share_none s = (let z : 0 ≡ 1 = reached s.of_first ∙ one_class s.shared ∙ sym (reached s.of_second) in cc z)
  where
    no_link : (n m : ℕ) → state_of a_is_list n ≡ Some (link m) → ⊥
    no_link zero m e = cc e
    no_link (suc zero) m e = cc e
    no_link (suc (suc n)) m e = cc e

    reached : {n m : ℕ} → Reaches a_is_list n m → n ≡ m
    reached here = refl
    reached (on {m = m} {r = r} h e) = absurd (no_link m r e)

    no_sub_link : (n m : ℕ) → sub_link_of a_is_list n ≡ Some (Some m) → ⊥
    no_sub_link zero m e = cc e
    no_sub_link (suc zero) m e = cc e
    no_sub_link (suc (suc n)) m e = cc e

    one_class : {n m : ℕ} → SharesSubRoot a_is_list n m → n ≡ m
    one_class itself = refl
    one_class (linked {n} {m} e) = absurd (no_sub_link n m e)
    one_class (turned h) = sym (one_class h)
    one_class (through h k) = one_class h ∙ one_class k

-- where nothing is known of ?a and ?b, they are two variables without values
unset_are_two : AreTwoUnset nothing_known 0 1
unset_are_two = record { first = refl; second = refl; apart = λ e. cc e }

-- where ?a is List, the two are not two variables without values
list_is_not_two : AreTwoUnset a_is_list 0 1 → ⊥
list_is_not_two u = list_is_set 0 refl u.first

-- a variable and itself are not two variables
one_is_not_two : (c : Content) (n : ℕ) → AreTwoUnset c n n → ⊥
one_is_not_two c n u = u.apart refl

-- two variables without values are of two classes: no links lead from both to one variable
two_have_two_classes : (c : Content) (n m r : ℕ) → AreTwoUnset c n m → Reaches c n r → Reaches c m r → ⊥
two_have_two_classes c n m r u a b = u.apart (reached u.first a ∙ sym (reached u.second b))
  where
    reached : {x y : ℕ} → state_of c x ≡ Some unset → Reaches c x y → x ≡ y
    reached e here = refl
    reached {x} e (on {m = z} {r = w} h l) = (let same : x ≡ z = reached e h in let at : state_of c z ≡ Some unset = subst (λ k. state_of c k ≡ Some unset) same e in cc)

-- ?b was made for ?a where ?a had no value, ?b is no variable of the table before, and they share their sub root afterwards
b_was_made_for_a : WasMadeFor only_a b_made_for_a 0 1
b_was_made_for_a = record { free = refl; new = omega arith; shared = record { first = 0; second = 1; of_first = here; of_second = here; shared = turned (linked refl) } }

-- a variable of the table before was not made since
b_was_there : (d : Content) → WasMadeFor nothing_known d 0 1 → ⊥
b_was_there d w = (let new : 2 ≤ 1 = w.new in omega (arith, new))

-- nor is a variable made for one that had a value
list_needs_none : (d : Content) → WasMadeFor a_is_list d 0 2 → ⊥
list_needs_none d w = list_is_set 0 refl w.free

-- two type variables of which neither had a value may be left as a goal
unset_variables : AreTypeVariables nothing_known nothing_known variable_a variable_b
unset_variables = record { first = 0; second = 1; left = refl; right = refl; either = inl unset_are_two }

-- a type variable and one that was made for it may be left as a goal
made_variables : AreTypeVariables only_a b_made_for_a variable_a variable_b
made_variables = record { first = 0; second = 1; left = refl; right = refl; either = inr (inl b_was_made_for_a) }

-- two type variables of the table before, of which one was List, may not be left as a goal, whether they share their sub root or not
old_variables : (d : Content) → AreTypeVariables a_is_list d variable_a variable_b → ⊥
old_variables d v = (let l = v.left in let r = v.right in let first : v.first ≡ 0 = cc in let second : v.second ≡ 1 = cc in neither v.first v.second first second v.either)
  where
    neither : (n m : ℕ) → n ≡ 0 → m ≡ 1 → AreTwoUnset a_is_list n m ⊎ (WasMadeFor a_is_list d n m ⊎ WasMadeFor a_is_list d m n) → ⊥
    neither n m first second (inl u) = list_is_set n first u.first
    neither n m first second (inr (inl w)) = (let new : 2 ≤ m = w.new in omega (arith, new, second))
    neither n m first second (inr (inr w)) = (let new : 2 ≤ n = w.new in omega (arith, new, first))

-- a type variable and itself may not be left as a goal, in any tables
one_variable : (c d : Content) (n : ℕ) → AreTypeVariables c d (variable_tree kind.Ty n) (variable_tree kind.Ty n) → ⊥
one_variable c d n v = (let l = v.left in let r = v.right in let same : v.first ≡ v.second = cc in neither v.first v.second same v.either)
  where
    neither : (x y : ℕ) → x ≡ y → AreTwoUnset c x y ⊎ (WasMadeFor c d x y ⊎ WasMadeFor c d y x) → ⊥
    neither x y same (inl u) = u.apart same
    neither x y same (inr (inl w)) = (let below = field_below (λ s. s.state) c x unset w.free in let new = w.new in omega (arith, same, below, new))
    neither x y same (inr (inr w)) = (let below = field_below (λ s. s.state) c y unset w.free in let new = w.new in omega (arith, same, below, new))

-- ?a had no value where nothing was known of it, nor where it is new; it had one where it was List
nothing_had_no_value : HadNoValue nothing_known variable_a
nothing_had_no_value n x = (let z : Some (label.Leaf (leaf.Variable kind.Ty 0)) ≡ Some (label.Leaf (leaf.Variable kind.Ty n)) = x in let same : 0 ≡ n = cc in inl (subst (λ m. state_of nothing_known m ≡ Some unset) same refl))

new_had_no_value : HadNoValue only_a variable_b
new_had_no_value n x = (let z : Some (label.Leaf (leaf.Variable kind.Ty 1)) ≡ Some (label.Leaf (leaf.Variable kind.Ty n)) = x in let same : 1 ≡ n = cc in inr (omega (arith, same)))

list_had_a_value : HadNoValue a_is_list variable_a → ⊥
list_had_a_value h = ⊎_elim (λ e. list_is_set 0 refl e) (λ (new : 2 ≤ 0). omega (arith, new)) (h 0 refl)

-- ?a and List are two sides, where ?a had no value, and not where it was List
a_and_list_are_two : (c : Content) → state_of c 0 ≡ Some unset → AreTwoSides c variable_a list_type
a_and_list_are_two c free = two_unset c variable_a list_type free (tt, tt) (λ e. cc e) (λ n x y. cc y)

a_list_is_no_side : AreTwoSides a_is_list variable_a list_type → ⊥
a_list_is_no_side two = list_had_a_value two.left

-- where nothing is known of ?a and ?b, they are two sides
variables_are_two : AreTwoSides nothing_known variable_a variable_b
variables_are_two = two_unset nothing_known variable_a variable_b refl refl (λ e. cc e) (λ n x y. (let z : label_of variable_a ≡ label_of variable_b = x ∙ sym y in cc z))

-- ?a is another side than ?b, of which the table tells nothing
made_variable_is_another : AreTwoSides only_a variable_a variable_b
made_variable_is_another = two_turned (two_owed only_a variable_b variable_a 0 refl refl (λ k x. (let z : label_of variable_b ≡ Some (label.Leaf (leaf.Variable kind.Ty k)) = x in let same : 1 ≡ k = cc in omega (arith, same))))

-- two type variables that lead to one variable are not two sides
one_class_is_not_two : (c : Content) (n m r : ℕ) → Reaches c n r → Reaches c m r → AreTwoSides c (variable_tree kind.Ty n) (variable_tree kind.Ty m) → ⊥
one_class_is_not_two c n m r a b two = two.classes n m r refl refl a b

-- a constructor is no type variable
constructor_is_no_variable : (c d : Content) (a : Tree) (i : ℕ) → AreTypeVariables c d a (constructor i empty) → ⊥
constructor_is_no_variable c d a i v = (let e = v.right in cc e)

-- a constructor is no alias
constructor_is_no_alias : (i : ℕ) → IsAlias (constructor i empty) → ⊥
constructor_is_no_alias i = not_alias (label.Ty (ty.Ctor i)) (arguments empty) refl

-- a type variable is no alias
variable_is_no_alias : (n : ℕ) → IsAlias (variable_tree kind.Ty n) → ⊥
variable_is_no_alias n = not_alias (label.Leaf (leaf.Variable kind.Ty n)) empty refl

-- ?a below List, where ?a has no value afterwards: the goal is not due. So relating has to give ?a its value, and may not put it off
goal_put_off_is_not_due : (c : Content) → IsGoalDue c nothing_known a_below_list → ⊥
goal_put_off_is_not_due c (inl (inl a)) = variable_is_no_alias 0 a
goal_put_off_is_not_due c (inl (inr a)) = constructor_is_no_alias 1 a
goal_put_off_is_not_due c (inr (varies, apart, inl v)) = constructor_is_no_variable c nothing_known variable_a 1 v
goal_put_off_is_not_due c (inr (varies, apart, inr (inl g))) = still_unset c 0 g
goal_put_off_is_not_due c (inr (varies, apart, inr (inr g))) = constructor_got_no_value c nothing_known 1 g

-- ?a below List, where ?a got the value List in between: the goal is due
goal_of_a_value_is_due : IsGoalDue nothing_known a_is_list a_below_list
goal_of_a_value_is_due = inr (λ e. cc e, a_and_list_are_two nothing_known refl, inr (inl a_got_value))

-- ?a below ?b, where neither has a value: the goal is due
goal_of_variables_is_due : IsGoalDue nothing_known nothing_known a_below_b
goal_of_variables_is_due = inr (λ e. cc e, variables_are_two, inl unset_variables)

-- ?a below ?b, where ?a had no value before, and ?b was made for it since: the goal is due
goal_of_a_made_variable_is_due : IsGoalDue only_a b_made_for_a a_below_b
goal_of_a_made_variable_is_due = inr (λ e. cc e, made_variable_is_another, inl made_variables)

-- ?a below ?b, where ?a was List before, and ?b, a variable of the table before too, has no value afterwards: the goal is not due, even
-- if the two share their sub root since
goal_of_a_known_variable_is_not_due : (o : Option ℕ) → IsGoalDue a_is_list (list_for_a o) a_below_b → ⊥
goal_of_a_known_variable_is_not_due o (inl (inl a)) = variable_is_no_alias 0 a
goal_of_a_known_variable_is_not_due o (inl (inr a)) = variable_is_no_alias 1 a
goal_of_a_known_variable_is_not_due o (inr (varies, apart, inl v)) = old_variables (list_for_a o) v
goal_of_a_known_variable_is_not_due o (inr (varies, apart, inr (inl g))) = was_list_before (list_for_a o) g
goal_of_a_known_variable_is_not_due o (inr (varies, apart, inr (inr g))) = b_has_no_value o g.after

-- ?a below ?a: the goal is not due, in any tables
goal_of_one_variable_is_not_due : (c d : Content) → IsGoalDue c d (pair_of variance.Covariant variable_a variable_a) → ⊥
goal_of_one_variable_is_not_due c d (inl (inl a)) = variable_is_no_alias 0 a
goal_of_one_variable_is_not_due c d (inl (inr a)) = variable_is_no_alias 0 a
goal_of_one_variable_is_not_due c d (inr (varies, two, x)) = two.trees refl

-- one variable below another, where both led to one before: the goal is not due, whatever became of them
goal_of_one_class_is_not_due : (c d : Content) (v : Variance) (n m r : ℕ) → Reaches c n r → Reaches c m r → IsGoalDue c d (pair_of v (variable_tree kind.Ty n) (variable_tree kind.Ty m)) → ⊥
goal_of_one_class_is_not_due c d v n m r a b (inl (inl x)) = variable_is_no_alias n x
goal_of_one_class_is_not_due c d v n m r a b (inl (inr y)) = variable_is_no_alias m y
goal_of_one_class_is_not_due c d v n m r a b (inr (varies, two, x)) = one_class_is_not_two c n m r a b two

-- ?a equal to ?b: the goal is not due, in any tables
equal_variables_are_not_due : (c d : Content) → IsGoalDue c d (pair_of variance.Invariant variable_a variable_b) → ⊥
equal_variables_are_not_due c d (inl (inl a)) = variable_is_no_alias 0 a
equal_variables_are_not_due c d (inl (inr a)) = variable_is_no_alias 1 a
equal_variables_are_not_due c d (inr x) = x.0 refl

item_is_alias : IsAlias item
item_is_alias = record { head = alias_of.Ty 0; parts = empty; is = refl; closed = (tt, ((tt, tt), tt)) }

-- an alias on a side: the goal is due, in any tables and by any variance
goal_of_an_alias_is_due : (c d : Content) (v : Variance) (t : Tree) → IsGoalDue c d (pair_of v item t) × IsGoalDue c d (pair_of v t item)
goal_of_an_alias_is_due c d v t = (inl (inl item_is_alias), inl (inr item_is_alias))

-- two goals of aliases
goals_of_aliases : (t : Tree) → AreGoalsOfAliases (pair_of variance.Invariant item t ∷ pair_of variance.Covariant t item ∷ [])
goals_of_aliases t = (inl item_is_alias, (inr item_is_alias, tt))

-- a goal of a variable and a type is none of aliases
no_goal_of_aliases : AreGoalsOfAliases (a_below_list ∷ []) → ⊥
no_goal_of_aliases (inl a, h) = variable_is_no_alias 0 a
no_goal_of_aliases (inr a, h) = constructor_is_no_alias 1 a

-- a type of another constructor below List: the goal is not due, in any tables
goal_of_types_is_not_due : (c d : Content) → IsGoalDue c d (pair_of variance.Covariant other_type list_type) → ⊥
goal_of_types_is_not_due c d (inl (inl a)) = constructor_is_no_alias 2 a
goal_of_types_is_not_due c d (inl (inr a)) = constructor_is_no_alias 1 a
goal_of_types_is_not_due c d (inr (varies, apart, inl v)) = constructor_is_no_variable c d other_type 1 v
goal_of_types_is_not_due c d (inr (varies, apart, inr (inl g))) = constructor_got_no_value c d 2 g
goal_of_types_is_not_due c d (inr (varies, apart, inr (inr g))) = constructor_got_no_value c d 1 g

-- two goals are due if both are
both_are_due : AreGoalsDue nothing_known a_is_list (pair_of variance.Invariant item list_type ∷ a_below_list ∷ [])
both_are_due = (let due = goal_of_an_alias_is_due nothing_known a_is_list variance.Invariant list_type in (due.0, (goal_of_a_value_is_due, tt)))

-- two goals are not due if one is not
one_is_not_due : AreGoalsDue nothing_known nothing_known (a_below_b ∷ a_below_list ∷ []) → ⊥
one_is_not_due h = goal_put_off_is_not_due nothing_known h.1.0

-- a region is no type
region_is_no_type : IsNoType static
region_is_no_type e = cc e

-- a type variable is a type
variable_is_a_type : (n : ℕ) → IsNoType (variable_tree kind.Ty n) → ⊥
variable_is_a_type n h = h refl

-- a variable of which nothing was known can ask for no goal but of variables without value
unset_is_unvalued : IsUnvalued nothing_known variance.Covariant variable_a
unset_is_unvalued = inr (inr refl)

-- a variable that was List can ask for a goal
list_is_not_unvalued : IsUnvalued a_is_list variance.Covariant variable_a → ⊥
list_is_not_unvalued (inl e) = cc e
list_is_not_unvalued (inr (inl t)) = variable_is_a_type 0 t
list_is_not_unvalued (inr (inr u)) = cc u

-- ?a below List, and ?a below ?b, are pairs in which no variable had a value, if nothing was known of both
pairs_are_unvalued : AreUnvaluedPairs nothing_known (a_below_list ∷ a_below_b ∷ [])
pairs_are_unvalued = (inr (inr (refl, (tt, tt))), (inr (inr (refl, refl)), tt))

-- a pair that is to be equal, and a pair of regions, ask for no goal of a value, even where ?a was List
other_pairs_are_unvalued : AreUnvaluedPairs a_is_list (pair_of variance.Invariant variable_a list_type ∷ pair_of variance.Covariant static static ∷ [])
other_pairs_are_unvalued = (inl refl, (inr (inl region_is_no_type), tt))

-- where ?a was List, ?a below List is a pair in which a variable had a value
pair_is_not_unvalued : IsUnvaluedPair a_is_list a_below_list → ⊥
pair_is_not_unvalued (inl e) = cc e
pair_is_not_unvalued (inr (inl t)) = variable_is_a_type 0 t
pair_is_not_unvalued (inr (inr u)) = (let e = u.0 in cc e)

-- ?a below List may leave itself as a goal where ?a is List afterwards
value_leaves_due : (c : Content) → LeavesDue c a_is_list a_below_list (a_below_list ∷ [])
value_leaves_due c b le (inl e) = cc e
value_leaves_due c b le (inr (inl t)) = absurd (variable_is_a_type 0 t)
value_leaves_due c b le (inr (inr u)) = (inr (λ e. cc e, a_and_list_are_two b u.0, inr (inl (record { number = 0; is = refl; before = u.0; after = list_is_its_value }))), tt)

-- ?a below List may not leave itself as a goal where nothing is known of ?a afterwards
put_off_leaves_not_due : LeavesDue nothing_known nothing_known a_below_list (a_below_list ∷ []) → ⊥
put_off_leaves_not_due h = (let due = h nothing_known (omega arith) pairs_are_unvalued.0 in goal_put_off_is_not_due nothing_known due.0)
