-- How many aliases are left: the measure of relating beside the variables without value.
use Rattle.std.specs.Prelude.{ℕ, zero, suc, ◌+◌, ◌&&◌, Bool, true, false, Option, Some, None}
use Rattle.nts_model.specs.declared.labels.BoundVarIndexKind.TheVariants as index
use Rattle.nts_model.specs.declared.labels.Label.{Label}
use Rattle.nts_model.specs.declared.labels.Label.TheVariants as label
use Rattle.nts_model.specs.Terms.Trees.{Tree, empty, more, node, binders, is_alias, infer_of}

abbrev pub is_less : ℕ → ℕ → Bool
is_less d zero = false
is_less zero (suc c) = true
is_less (suc d) (suc c) = is_less d c

abbrev pub is_bound_below : ℕ → Label → Bool
is_bound_below c (label.Bound s (index.Bound d) n) = is_less d c
is_bound_below c l = true

-- no bound variable passes c binders; a variable is closed
abbrev pub unless_variable : {A : Type 0} → Option ℕ → A → A → A
unless_variable (Some n) a b = a
unless_variable None a b = b

abbrev pub closed_under : ℕ → Tree → Bool
closed_under c empty = true
closed_under c (more a b) = closed_under c a && closed_under c b
closed_under c (node l t) = unless_variable (infer_of l) true (is_bound_below c l && closed_under (c + binders l) t)

abbrev pub counted : Bool → ℕ → ℕ
counted true n = 1
counted false n = n

-- the outermost aliases without escaping bound variables
abbrev pub closed_aliases : Tree → ℕ
closed_aliases empty = 0
closed_aliases (more a b) = closed_aliases a + closed_aliases b
closed_aliases (node l t) = unless_variable (infer_of l) 0 (counted (is_alias l && closed_under 0 (node l t)) (closed_aliases t))
