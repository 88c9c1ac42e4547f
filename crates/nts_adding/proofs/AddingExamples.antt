-- What stands for goals that are added, by example.
use Rattle.std.proofs.Common.{◌≡◌, ℕ, suc, List, [], ◌∷◌, length, refl, sym, ◌∙◌, arith}
use Rattle.nts_model.specs.declared.labels.Sort.{Sort}
use Rattle.nts_model.specs.declared.labels.Sort.TheVariants as sort
use Rattle.nts_model.specs.declared.labels.AliasHead.TheVariants as alias_of
use Rattle.nts_model.specs.declared.labels.Variance.TheVariants as variance
use Rattle.nts_model.specs.declared.labels.VariableKind.TheVariants as variable
use Rattle.nts_model.specs.Terms.Trees.{Tree, empty, more, IsClosed, variable_tree}
use Rattle.nts_model.specs.Tables.Resolving.{Knows}
use Rattle.nts_model.specs.Derivations.Related.{alias, IsAlias}
use Rattle.nts_store.specs.declared.nodes.NodeId.{NodeId}
use Rattle.nts_terms.specs.declared.handles.Goal.{Goal}
use Rattle.nts_terms.specs.declared.handles.ParamEnv.{ParamEnv}
use Rattle.nts_unify.specs.Entries.{Entries, added}
use Rattle.nts_unify.specs.Reading.{content_of}
use Rattle.nts_table.specs.Fresh.{variable_kind, fresh_row}
use Rattle.nts_table.specs.Making.{new_variable}
use Rattle.nts_variance.specs.Goals.{goal_of}
use Rattle.nts_variance_model.specs.Variances.Relations.{Relating as Pair}
use Rattle.nts_adding.specs.Equal.{IsEqualToNew}
use Rattle.nts_adding.specs.Putting.{AreVariables}
use Rattle.nts_theory.specs.Posing.{HasPut, put_alias, put_empty, put_more, put_node, equal_pair}

-- an alias has its variable in its place, by the one pair of the two
pub put_there : (a v : Tree) → IsAlias a → IsClosed v → HasPut (equal_pair a v ∷ []) a v
put_there a v x closed = put_alias x closed

pub put_once : {ps : List Pair} {a u : Tree} → IsAlias a → HasPut ps a u → ps ≡ equal_pair a u ∷ []
put_once x (put_alias y closed) = refl
put_once x put_empty = absurd (let e = x.is in cc e)
put_once x (put_more p q) = absurd (let e = x.is in cc e)
put_once x (put_node none p) = absurd (none x)

-- .. and can't stay, if there is no variable
pub stays_no : (a u : Tree) → IsAlias a → HasPut [] a u → ⊥
stays_no a u x h = (let none = put_once x h in cc none)

-- two places of one alias have two variables by two pairs, and not one for both
pub two_places : (a v w : Tree) → IsAlias a → IsClosed v → IsClosed w → HasPut (equal_pair a v ∷ equal_pair a w ∷ []) (more a (more a empty)) (more v (more w empty))
two_places a v w x cv cw = put_more (put_alias x cv) (put_more (put_alias x cw) put_empty)

pub each_place_has_one : {ps : List Pair} {a u : Tree} → IsAlias a → HasPut ps (more a (more a empty)) u → length ps ≡ 2
each_place_has_one x (put_more {ps = ps} h (put_more {ps = qs} k put_empty)) =
    let first = put_once x h in
    let second = put_once x k in
    rw (first, second) refl
each_place_has_one x (put_more h (put_alias y closed)) = absurd (let e = y.is in cc e)
each_place_has_one x (put_more h (put_more k (put_alias y closed))) = absurd (let e = y.is in cc e)
each_place_has_one x (put_alias y closed) = absurd (let e = y.is in cc e)

-- variables of two pairs are two
numbers : (s r : Sort) (n : ℕ) → variable_tree (variable_kind s) n ≡ variable_tree (variable_kind r) (suc n) → ⊥
numbers s r n e = (let same : n ≡ suc n = cc e in omega (arith, same))

pub shared_no : (e f : Entries) (a b v : Tree) → AreVariables e f (equal_pair a v ∷ equal_pair b v ∷ []) → ⊥
shared_no e f a b v h = by_sorts h.sorts h.row
  where
    by_sorts : (ss : List Sort) → more v (more v empty) ≡ fresh_row (length e.variables) ss → ⊥
    by_sorts [] q = cc q
    by_sorts (s ∷ []) q = cc q
    by_sorts (s ∷ r ∷ ss) q =
        let first : v ≡ variable_tree (variable_kind s) (length e.variables) = cc q in
        let second : v ≡ variable_tree (variable_kind r) (suc (length e.variables)) = cc q in
        numbers s r (length e.variables) (sym first ∙ second)

-- that an alias is equal to a variable is one goal, and not none
pub equal_without_goal : (ts us : List Tree) (e f : Entries) (env : ParamEnv) (x v : NodeId) → IsEqualToNew ts us e f env x v [] → ⊥
equal_without_goal ts us e f env x v h = h.equal

-- an alias in a table without variables: the first variable, and the goal that the two are equal
abbrev pub item : Tree
item = alias (alias_of.Ty 0) empty

abbrev first_variable : Tree
first_variable = variable_tree variable.Ty 0

abbrev asked : Tree
asked = goal_of (record { variance = variance.Invariant; left = item; right = first_variable })

abbrev pub no_entries : Entries
no_entries = record { variables = []; order = []; universe = 0; constraints = []; hidden = record { lookup = []; duplicates = [] } }

abbrev pub one_goal : ParamEnv → Goal
one_goal env = record { param_env = env; predicate = record { node = record { number = 2 } } }

abbrev pub one_entry : Entries
one_entry = added no_entries (new_variable no_entries variable.Ty)

abbrev pub grown : List Tree
grown = item ∷ first_variable ∷ asked ∷ []

-- the three are of the table: the one variable is its first, nothing else is bound or named
item_known : Knows (content_of grown one_entry) item
item_known = ((tt, tt, refl), (((tt, tt, refl), tt, tt), tt), tt)

variable_known : Knows (content_of grown one_entry) first_variable
variable_known = ((refl, tt, refl), tt, tt)

asked_known : Knows (content_of grown one_entry) asked
asked_known = ((tt, tt, refl), (((tt, tt, refl), tt, tt), (((tt, tt, refl), (item_known, (variable_known, tt)), tt), tt)), ((tt, tt), ((tt, ((tt, ((tt, tt), tt)), ((tt, tt), tt))), tt)))

pub equal_by_a_goal : (env : ParamEnv) → IsEqualToNew (item ∷ []) grown no_entries one_entry env (record { number = 0 }) (record { number = 1 }) (one_goal env ∷ [])
equal_by_a_goal env = record {
  fresh = record { sort = sort.Ty; is = refl; tree = refl; entries = refl };
  equal = (record { param_env = refl; holds = record { within = omega (arith); fits = refl }; knows = asked_known; tree = refl }, tt);
}
