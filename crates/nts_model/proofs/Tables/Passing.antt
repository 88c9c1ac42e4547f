-- The labels of what a table's terms are resolved to.
use Rattle.std.proofs.Common.{◌≡◌, ◌⊎◌, inl, inr, ℕ, Bool, true, false, List, [], ◌∷◌, Option, Some, None, refl, sym, subst}
use Rattle.std.specs.Prelude.{◌==◌, ◌||◌, if◌then◌else◌, reverse}
use Rattle.nts_model.specs.declared.labels.VariableKind.{VariableKind}
use Rattle.nts_model.specs.declared.labels.VariableKind.TheVariants as kind
use Rattle.nts_model.specs.declared.labels.Leaf.{Leaf}
use Rattle.nts_model.specs.declared.labels.Leaf.TheVariants as leaf
use Rattle.nts_model.specs.declared.labels.Label.{Label}
use Rattle.nts_model.specs.declared.labels.Label.TheVariants as label
use Rattle.nts_model.specs.Terms.Trees.{Tree, empty, more, node, any_label, is_canonical, infer_of, variable_of}
use Rattle.nts_model.specs.Tables.Contents.{Content, SlotState, unset, link, known, state_of}
use Rattle.nts_model.specs.Tables.Resolving.{replaced, replaced_at, under, value_at, resolved, rooted, rooted_variable, deeply_resolved}
use Rattle.nts_model.specs.Lists.{Among}
use Rattle.nts_model.specs.Canonical.Numbered.{seen}
use Rattle.nts_model.specs.Tables.Passing.{AllLabels, AllPass}
use Rattle.nts_model.proofs.Terms.Listed.{either, among-added}

module _ (P : Label → Type 0) (variables : (k : VariableKind) (n : ℕ) → P (label.Leaf (leaf.Variable k n))) where
  passes-replaced_at : (o : Option ℕ) (n : ℕ) (s t u : Tree) → AllLabels P s → AllLabels P t → AllLabels P u → AllLabels P (replaced_at o n s t u)
  passes-replaced_at None n s t u h i j = j
  passes-replaced_at (Some m) n s t u h i j = by_case (m == n)
    where
      by_case : (z : Bool) → AllLabels P (if z then s else t)
      by_case true = h
      by_case false = i

  passes-replaced : (n : ℕ) (s t : Tree) → AllLabels P s → AllLabels P t → AllLabels P (replaced n s t)
  passes-replaced n s empty h i = tt
  passes-replaced n s (more a b) h i = (passes-replaced n s a h i.0, passes-replaced n s b h i.1)
  passes-replaced n s (node l t) h i = passes-replaced_at (infer_of l) n s (node l t) (node l (replaced n s t)) h i (i.0, passes-replaced n s t h i.1)

  passes-under : (val : ℕ → Tree) (ns : List ℕ) (t : Tree) → ((n : ℕ) → AllLabels P (val n)) → AllLabels P t → AllLabels P (under val ns t)
  passes-under val [] t h i = i
  passes-under val (n ∷ ns) t h i = passes-replaced n (under val ns (val n)) (under val ns t) (passes-under val ns (val n) h (h n)) (passes-under val ns t h i)

  passes-value : (c : Content) (n : ℕ) → AllPass P c → AllLabels P (value_at c n)
  passes-value c n h = by_state (state_of c n) refl
    where
      by_state : (o : Option SlotState) → state_of c n ≡ o → AllLabels P (value_at c n)
      by_state None e = rw e tt
      by_state (Some unset) e = rw e tt
      by_state (Some (link m)) e = rw e (variables _ m, tt)
      by_state (Some (known t)) e = rw e (h.values n t e)

  passes-label : (c : Content) (o : Option (VariableKind × ℕ)) (l : Label) → P l → P (rooted_variable c o l)
  passes-label c None l h = h
  passes-label c (Some (kind.Ty, n)) l h = h
  passes-label c (Some (kind.Int, n)) l h = h
  passes-label c (Some (kind.Float, n)) l h = h
  passes-label c (Some (kind.Const, n)) l h = h
  passes-label c (Some (kind.Region, n)) l h = variables kind.Region _

  passes-rooted : (c : Content) (t : Tree) → AllLabels P t → AllLabels P (rooted c t)
  passes-rooted c empty h = tt
  passes-rooted c (more a b) h = (passes-rooted c a h.0, passes-rooted c b h.1)
  passes-rooted c (node l t) h = (passes-label c (variable_of l) l h.0, passes-rooted c t h.1)

  -- resolving brings no others
  pub passes-deeply_resolved : (c : Content) (t : Tree) → AllPass P c → AllLabels P t → AllLabels P (deeply_resolved c t)
  passes-deeply_resolved c t h i = passes-rooted c (resolved c t) (passes-under (value_at c) (reverse c.order) t (λ n. passes-value c n h) i)

-- a leaf that was seen is a label of the tree
pub passes-seen : (P : Label → Type 0) (stays : Leaf → Bool) (t : Tree) (s : List Leaf) (l : Leaf) → AllLabels P t → Among (seen stays s t) l → Among s l ⊎ P (label.Leaf l)
passes-seen P stays empty s l h i = inl i
passes-seen P stays (more a b) s l h i = elim (passes-seen P stays b (seen stays s a) l h.1 i) [ inl j ↦ passes-seen P stays a s l h.0 j | inr e ↦ inr e ]
passes-seen P stays (node (label.Leaf x) c) s l h i = elim (either (stays x)) [
  | inl e ↦ inl (rw e at i)
  | inr e ↦ elim (among-added s x l (rw e at i)) [ inl p ↦ inr (subst (λ z. P (label.Leaf z)) (sym p) h.0) | inr j ↦ inl j ]
]
passes-seen P stays (node (label.Bound a b d) c) s l h i = passes-seen P stays c s l h.1 i
passes-seen P stays (node (label.Ty x) c) s l h i = passes-seen P stays c s l h.1 i
passes-seen P stays (node (label.Const x) c) s l h i = passes-seen P stays c s l h.1 i
passes-seen P stays (node (label.Clause x) c) s l h i = passes-seen P stays c s l h.1 i
passes-seen P stays (node (label.Predicate x) c) s l h i = passes-seen P stays c s l h.1 i
passes-seen P stays (node (label.List x) c) s l h i = passes-seen P stays c s l h.1 i

-- no position
no_position : (a b : Bool) → a ≡ false → b ≡ false → (a || b) ≡ false
no_position a b e f = rw (e, f) refl

pub passes-no_positions : (P : Label → Type 0) → ((l : Label) → P l → is_canonical l ≡ false) → (t : Tree) → AllLabels P t → any_label is_canonical t ≡ false
passes-no_positions P f empty h = refl
passes-no_positions P f (more a b) h = no_position (any_label is_canonical a) (any_label is_canonical b) (passes-no_positions P f a h.0) (passes-no_positions P f b h.1)
passes-no_positions P f (node l c) h = no_position (is_canonical l) (any_label is_canonical c) (f l h.0) (passes-no_positions P f c h.1)
