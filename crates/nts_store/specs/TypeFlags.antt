-- What a node keeps of its tree.
use Rattle.std.specs.Prelude.{ℕ, ◌-◌, max, nat_lt, ◌||◌, Bool, true, false, if◌then◌else◌, Option, Some, None}
use Rattle.nts_model.specs.declared.labels.VariableKind.TheVariants as kind
use Rattle.nts_model.specs.declared.labels.FreeRegion.{FreeRegion}
use Rattle.nts_model.specs.declared.labels.FreeRegion.TheVariants as region
use Rattle.nts_model.specs.declared.labels.Leaf.TheVariants as leaf
use Rattle.nts_model.specs.declared.labels.Label.{Label}
use Rattle.nts_model.specs.declared.labels.Label.TheVariants as label
use Rattle.nts_model.specs.declared.labels.BoundVarIndexKind.TheVariants as index
use Rattle.nts_model.specs.Terms.Trees.{Tree, empty, more, node, any_label, is_infer, is_region_infer, is_placeholder, is_alias, is_canonical, binders}
use Rattle.nts_store.specs.declared.type_flags.TypeFlags.{TypeFlags}

abbrev pub higher : Option ℕ → Option ℕ → Option ℕ
higher None b = b
higher (Some a) None = Some a
higher (Some a) (Some b) = Some (max a b)

abbrev pub past_binders : ℕ → Option ℕ → Option ℕ
past_binders n None = None
past_binders n (Some d) = if nat_lt d n then None else Some (d - n)

abbrev pub level_of : Label → Option ℕ
level_of (label.Bound s (index.Bound d) n) = Some d
level_of l = None

-- the greatest level at which a bound variable escapes from the tree
abbrev pub escaping : Tree → Option ℕ
escaping empty = None
escaping (more a b) = higher (escaping a) (escaping b)
escaping (node l c) = higher (level_of l) (past_binders (binders l) (escaping c))

abbrev pub is_leaf : Label → Bool
is_leaf (label.Leaf l) = true
is_leaf l = false

-- a free region that is neither erased nor an error, and a region variable
abbrev pub varies_region : FreeRegion → Bool
varies_region region.Erased = false
varies_region region.Error = false
varies_region r = true

abbrev pub varies : Label → Bool
varies (label.Leaf (leaf.Region r)) = varies_region r
varies (label.Leaf (leaf.Variable kind.Region n)) = true
varies l = false

abbrev pub flags_of : Tree → TypeFlags
flags_of t =
    record { has_infer = any_label is_infer t; has_region_infer = any_label is_region_infer t; has_placeholder = any_label is_placeholder t; has_alias = any_label is_alias t; has_canonical = any_label is_canonical t; has_leaf = any_label is_leaf t; has_free_region = any_label varies t; escaping = escaping t }

abbrev pub no_flags : TypeFlags
no_flags =
    record { has_infer = false; has_region_infer = false; has_placeholder = false; has_alias = false; has_canonical = false; has_leaf = false; has_free_region = false; escaping = None }

abbrev pub joined : TypeFlags → TypeFlags → TypeFlags
joined a b =
    record { has_infer = a.has_infer || b.has_infer; has_region_infer = a.has_region_infer || b.has_region_infer; has_placeholder = a.has_placeholder || b.has_placeholder; has_alias = a.has_alias || b.has_alias; has_canonical = a.has_canonical || b.has_canonical; has_leaf = a.has_leaf || b.has_leaf; has_free_region = a.has_free_region || b.has_free_region; escaping = higher a.escaping b.escaping }

abbrev pub labelled : Label → TypeFlags → TypeFlags
labelled l a =
    record { has_infer = is_infer l || a.has_infer; has_region_infer = is_region_infer l || a.has_region_infer; has_placeholder = is_placeholder l || a.has_placeholder; has_alias = is_alias l || a.has_alias; has_canonical = is_canonical l || a.has_canonical; has_leaf = is_leaf l || a.has_leaf; has_free_region = varies l || a.has_free_region; escaping = higher (level_of l) (past_binders (binders l) a.escaping) }
