-- Why two trees are one in no world that solves the table.
use Rattle.std.proofs.Common.{◌≡◌, ◌≢◌, ◌⊎◌, inl, inr, ⊎_elim, ℕ, zero, suc, ◌+◌, ◌<◌, Bool, true, false, Option, Some, None, refl, sym, ap, ◌∙◌, arith}
use Rattle.nts_model.specs.declared.labels.VariableKind.{VariableKind}
use Rattle.nts_model.specs.declared.labels.VariableKind.TheVariants as kind
use Rattle.nts_model.specs.declared.labels.FreeRegion.{FreeRegion}
use Rattle.nts_model.specs.declared.labels.Leaf.TheVariants as leaf
use Rattle.nts_model.specs.declared.labels.TyHead.TheVariants as ty
use Rattle.nts_model.specs.declared.labels.Label.{Label}
use Rattle.nts_model.specs.declared.labels.Label.TheVariants as label
use Rattle.nts_model.specs.Terms.Trees.{Tree, empty, more, node, size, IsRow, row_length, row_at, of_sort, sort_of_variable, binders, IsBoundBelow, IsClosedUnder, IsClosed, infer_of, variable_of}
use Rattle.nts_model.specs.Tables.Contents.{Content, universe_of, kind_at}
use Rattle.nts_model.specs.Tables.Resolving.{variable_flag, flag, resolved, IsSound}
use Rattle.nts_model.specs.Terms.Placeholders.{CanName}
use Rattle.nts_model.specs.Tables.Levels.{NamesAll, term_level}
use Rattle.nts_model.specs.Terms.Fitting.{is_integer, is_float, Fits}
use Rattle.nts_model.specs.Tables.Worlds.{World, renamed, inst, Solves}
use Rattle.nts_model.proofs.Terms.Variables.{infer_label}
use Rattle.nts_model.proofs.Tables.Resolved.{flag_le}
use Rattle.nts_model.proofs.Tables.Instances.{inst-variable, inst-node}
use Rattle.nts_model.proofs.Tables.Readings.{term_level-renamed}
use Rattle.nts_model.proofs.Tables.Fitting.{binders-renamed, kind_of_label-renamed, Fits-kind_of}
use Rattle.nts_model.proofs.Tables.Worlds.{inst-resolved}

-- labels: two labels that are no variables are one in a world's instances only if they are one, or free regions
abbrev pub IsFreeRegion : Label → Type 0
IsFreeRegion l = (r : FreeRegion) × (l ≡ label.Leaf (leaf.Region r))

abbrev is_free_region : Label → Bool
is_free_region (label.Leaf (leaf.Region r)) = true
is_free_region l = false

free_or_stays : (w : World) (l : Label) → IsFreeRegion l ⊎ (renamed w l ≡ l)
free_or_stays w (label.Leaf (leaf.Region r)) = inl (r, refl)
free_or_stays w (label.Leaf (leaf.Variable k n)) = inr refl
free_or_stays w (label.Leaf (leaf.TyConstant a)) = inr refl
free_or_stays w (label.Leaf (leaf.ConstConstant a)) = inr refl
free_or_stays w (label.Bound a b d) = inr refl
free_or_stays w (label.Ty h) = inr refl
free_or_stays w (label.Const h) = inr refl
free_or_stays w (label.Clause h) = inr refl
free_or_stays w (label.Predicate h) = inr refl
free_or_stays w (label.List h) = inr refl

free-renamed : (w : World) (l : Label) → is_free_region (renamed w l) ≡ is_free_region l
free-renamed w (label.Leaf (leaf.Region r)) = refl
free-renamed w (label.Leaf (leaf.Variable k n)) = refl
free-renamed w (label.Leaf (leaf.TyConstant a)) = refl
free-renamed w (label.Leaf (leaf.ConstConstant a)) = refl
free-renamed w (label.Bound a b d) = refl
free-renamed w (label.Ty h) = refl
free-renamed w (label.Const h) = refl
free-renamed w (label.Clause h) = refl
free-renamed w (label.Predicate h) = refl
free-renamed w (label.List h) = refl

is_free : (l : Label) → is_free_region l ≡ true → IsFreeRegion l
is_free (label.Leaf (leaf.Region r)) e = (r, refl)
is_free l e = absurd (true_or_false e)
  where
    true_or_false : false ≡ true → ⊥
    true_or_false q = cc

renamed_one : (w : World) (l m : Label) → renamed w l ≡ renamed w m → (l ≡ m) ⊎ (IsFreeRegion l × IsFreeRegion m)
renamed_one w l m e =
    let same : is_free_region l ≡ is_free_region m = sym (free-renamed w l) ∙ ap is_free_region e ∙ free-renamed w m in
    ⊎_elim
    (λ (f : IsFreeRegion l). inr (f, is_free m (sym same ∙ ap is_free_region f.1)))
    (λ (p : renamed w l ≡ l). ⊎_elim
    (λ (g : IsFreeRegion m). inr (is_free l (same ∙ ap is_free_region g.1), g))
    (λ (q : renamed w m ≡ m). inl (sym p ∙ e ∙ q)) (free_or_stays w m)) (free_or_stays w l)

-- two nodes that are no variables and have one instance
pub record AreOneNode (w : World) (l m : Label) (c d : Tree) : Type 0 where
  pub labels : (l ≡ m) ⊎ (IsFreeRegion l × IsFreeRegion m)
  pub renamings : renamed w l ≡ renamed w m
  pub children : inst w c ≡ inst w d

pub one_node : (w : World) (l m : Label) (c d : Tree) → variable_of l ≡ None → variable_of m ≡ None → inst w (node l c) ≡ inst w (node m d) → AreOneNode w l m c d
one_node w l m c d p q e =
    let h : node (renamed w l) (inst w c) ≡ node (renamed w m) (inst w d) = sym (inst-node w l c p) ∙ e ∙ inst-node w m d q in
    let name : renamed w l ≡ renamed w m = cc in
    record { labels = renamed_one w l m name; renamings = name; children = cc }

-- rows of different lengths
pub row_length-inst : (w : World) (r : Tree) → IsRow r → row_length (inst w r) ≡ row_length r
row_length-inst w empty h = refl
row_length-inst w (more a b) h = ap (λ n. n + 1) (row_length-inst w b h)
row_length-inst w (node l c) h = absurd h

pub lengths_refute : (w : World) (r s : Tree) → IsRow r → IsRow s → (row_length r ≡ row_length s → ⊥) → inst w r ≡ inst w s → ⊥
lengths_refute w r s p q apart e = apart (sym (row_length-inst w r p) ∙ ap row_length e ∙ row_length-inst w s q)

-- what a variable's universe names
pub tree-named : (c : Content) (w : World) (n u : ℕ) → Solves c w → universe_of c n ≡ Some u → NamesAll term_level u (w.tree n)
tree-named c w n u h e = rw e at (h.nameable.each n)

IsBoundBelow-from_renamed : (w : World) (b : ℕ) (l : Label) → IsBoundBelow b (renamed w l) → IsBoundBelow b l
IsBoundBelow-from_renamed w b (label.Leaf x) h = tt
IsBoundBelow-from_renamed w b (label.Bound x y z) h = h
IsBoundBelow-from_renamed w b (label.Ty x) h = tt
IsBoundBelow-from_renamed w b (label.Const x) h = tt
IsBoundBelow-from_renamed w b (label.Clause x) h = tt
IsBoundBelow-from_renamed w b (label.Predicate x) h = tt
IsBoundBelow-from_renamed w b (label.List x) h = tt

-- bound variables: where an instance is closed, the tree is, but for what stands below variables
pub closed-node : (w : World) (b : ℕ) (l : Label) (c : Tree) → variable_of l ≡ None → IsClosedUnder b (inst w (node l c)) → IsBoundBelow b l × IsClosedUnder (b + binders l) (inst w c)
closed-node w b l c e h =
    let k : IsBoundBelow b (renamed w l) × IsClosedUnder (b + binders (renamed w l)) (inst w c) = (let is = inst-node w l c e in rw is at h) in
    (IsBoundBelow-from_renamed w b l k.0, (let same = binders-renamed w l in rw same at k.1))

-- kinds: what fits a variable in a world fits it before, but for regions
integer-from_renamed : (w : World) (l : Label) → is_integer (renamed w l) ≡ true → is_integer l ≡ true
integer-from_renamed w (label.Leaf (leaf.Region r)) e = cc
integer-from_renamed w (label.Leaf (leaf.Variable k n)) e = e
integer-from_renamed w (label.Leaf (leaf.TyConstant a)) e = cc
integer-from_renamed w (label.Leaf (leaf.ConstConstant a)) e = cc
integer-from_renamed w (label.Ty h) e = e
integer-from_renamed w l e = cc

float-from_renamed : (w : World) (l : Label) → is_float (renamed w l) ≡ true → is_float l ≡ true
float-from_renamed w (label.Leaf (leaf.Region r)) e = cc
float-from_renamed w (label.Leaf (leaf.Variable k n)) e = e
float-from_renamed w (label.Leaf (leaf.TyConstant a)) e = cc
float-from_renamed w (label.Leaf (leaf.ConstConstant a)) e = cc
float-from_renamed w (label.Ty h) e = e
float-from_renamed w l e = cc

fits-renamed : (w : World) (k : VariableKind) (l : Label) (c d : Tree) → k ≢ kind.Region → Fits k (node (renamed w l) c) → Fits k (node l d)
fits-renamed w kind.Ty l c d r h = ap Some (sym (kind_of_label-renamed w l)) ∙ h
fits-renamed w kind.Const l c d r h = ap Some (sym (kind_of_label-renamed w l)) ∙ h
fits-renamed w kind.Int l c d r h = integer-from_renamed w l h
fits-renamed w kind.Float l c d r h = float-from_renamed w l h
fits-renamed w kind.Region l c d r h = absurd (r refl)

pub fits-node : (w : World) (k : VariableKind) (l : Label) (c : Tree) → k ≢ kind.Region → variable_of l ≡ None → Fits k (inst w (node l c)) → Fits k (node l c)
fits-node w k l c r e h = fits-renamed w k l (inst w c) c r (let is = inst-node w l c e in rw is at h)

pub kind_refutes : (c : Content) (w : World) (n : ℕ) (k : VariableKind) (l : Label) (t : Tree) → Solves c w → kind_at c n ≡ Some k → k ≢ kind.Region → variable_of l ≡ None → (Fits k (node l t) → ⊥) → w.tree n ≡ inst w (node l t) → ⊥
kind_refutes c w n k l t h e r none apart q =
    let fits : Fits k (inst w (node l t)) = rw (← q) ((h.fitting.each n k e).fits) in
    apart (fits-node w k l t r none fits)

-- two variables that no tree fits
no_integer_float : (l : Label) → is_integer l ≡ true → is_float l ≡ true → ⊥
no_integer_float (label.Ty (ty.Float f)) e q = cc
no_integer_float (label.Leaf (leaf.Variable kind.Float n)) e q = cc
no_integer_float l e q = cc

pub integer_float_refute : (t : Tree) → Fits kind.Int t → Fits kind.Float t → ⊥
integer_float_refute empty e q = e
integer_float_refute (more a b) e q = e
integer_float_refute (node l c) e q = no_integer_float l e q

pub sorts_refute : (j k : VariableKind) (t : Tree) → (sort_of_variable j ≡ sort_of_variable k → ⊥) → Fits j t → Fits k t → ⊥
sorts_refute j k t apart e q =
    let same : Some (of_sort (sort_of_variable j)) ≡ Some (of_sort (sort_of_variable k)) = sym (Fits-kind_of j t e) ∙ Fits-kind_of k t q in
    apart cc
