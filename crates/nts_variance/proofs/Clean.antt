-- Trees without regions that a universe cannot name.
use Rattle.std.proofs.Common.{◌≡◌, ◌⊎◌, ⊎_elim, ℕ, true, [], Some, None, refl, sym, ap, ◌∙◌, subst}
use Rattle.nts_model.specs.declared.labels.VariableKind.{VariableKind}
use Rattle.nts_model.specs.declared.labels.VariableKind.TheVariants as kind
use Rattle.nts_model.specs.declared.labels.FreeRegion.{FreeRegion}
use Rattle.nts_model.specs.declared.labels.FreeRegion.TheVariants as region
use Rattle.nts_model.specs.declared.labels.Leaf.TheVariants as leaf
use Rattle.nts_model.specs.declared.labels.AliasHead.TheVariants as alias_of
use Rattle.nts_model.specs.declared.labels.TyHead.TheVariants as ty
use Rattle.nts_model.specs.declared.labels.ConstHead.TheVariants as konst
use Rattle.nts_model.specs.declared.labels.ListHead.TheVariants as list
use Rattle.nts_model.specs.declared.labels.Label.{Label}
use Rattle.nts_model.specs.declared.labels.Label.TheVariants as label
use Rattle.nts_model.specs.Terms.Trees.{Tree, empty, more, node, kind_of, one_sort, in_order, shape, is, AllFit, Meets, IsFormed, infer_of, variable_of, variable_tree}
use Rattle.nts_model.specs.Tables.Contents.{Content, unset, state_of, kind_at}
use Rattle.nts_model.specs.Terms.Placeholders.{CanName}
use Rattle.nts_model.specs.Tables.Resolving.{rooted_variable, rooted, resolved, deeply_resolved, IsSound}
use Rattle.nts_model.specs.Tables.Levels.{NamesAll, region_level}
use Rattle.nts_model.specs.Terms.Fitting.{Fits, is_integer, is_float}
use Rattle.nts_model.specs.Terms.Regions.{name_of_label}
use Rattle.nts_model.specs.Derivations.Related.{arguments}
use Rattle.nts_variance_model.specs.Variances.Forms.{Form, a_constructor, a_function, a_value, an_alias, over}
use Rattle.nts_variance_model.specs.Variances.Leaving.{IsErased}
use Rattle.nts_model.specs.Derivations.Proving.{HoldsTerms}
use Rattle.nts_model.specs.Tables.Solvable.{IsSolvable}
use Rattle.nts_model.specs.Terms.Substitutions.{leaf_tree}
use Rattle.nts_model.proofs.Tables.Slots.{field_below}
use Rattle.nts_model.proofs.Tables.Tying.{has_kind}
use Rattle.nts_model.proofs.Terms.Variables.{infer_of_none}
use Rattle.nts_model.proofs.Tables.Resolved.{resolved-empty, resolved-more, resolved-node, resolved-variable_unset}
use Rattle.nts_model.proofs.Tables.ResolvedTerms.{IsFormed-deeply_resolved, Fits-deeply_resolved}
use Rattle.nts_variance.specs.Steps.{HasSorts}
use Rattle.nts_variance_model.proofs.Variances.Forms.{no_places, sort_label}

-- leaves that are no regions, and the erased and the error region
level_none : (l : Label) → name_of_label l ≡ None → region_level l ≡ None
level_none (label.Leaf (leaf.Variable k n)) e = refl
level_none (label.Leaf (leaf.Region r)) e = cc
level_none (label.Leaf (leaf.TyConstant a)) e = refl
level_none (label.Leaf (leaf.ConstConstant a)) e = refl
level_none (label.Bound s i n) e = refl
level_none (label.Ty h) e = refl
level_none (label.Const h) e = refl
level_none (label.Clause h) e = refl
level_none (label.Predicate h) e = refl
level_none (label.List h) e = refl

pub resolved_leaf : (c : Content) (l : Label) → infer_of l ≡ None → resolved c (node l empty) ≡ node l empty
resolved_leaf c l e = resolved-node c l empty e ∙ ap (node l) (resolved-empty c)

clean_label : (c : Content) (u : ℕ) (l : Label) → infer_of l ≡ None → region_level l ≡ None → NamesAll region_level u (resolved c (node l empty))
clean_label c u l e none = subst (NamesAll region_level u) (sym (resolved_leaf c l e)) (subst (CanName u) (sym none) tt, tt)

pub clean_leaf : (c : Content) (u : ℕ) (l : Label) → variable_of l ≡ None → name_of_label l ≡ None → NamesAll region_level u (resolved c (node l empty))
clean_leaf c u l e nameless = clean_label c u l (infer_of_none l e) (level_none l nameless)

pub clean_erased : (c : Content) (u : ℕ) (r : FreeRegion) → IsErased r → NamesAll region_level u (resolved c (leaf_tree (leaf.Region r)))
clean_erased c u region.Erased e = clean_label c u (label.Leaf (leaf.Region region.Erased)) refl refl
clean_erased c u region.Error e = clean_label c u (label.Leaf (leaf.Region region.Error)) refl refl
clean_erased c u r e = absurd e

-- a variable without a value
pub resolved_unset : (c : Content) (k : VariableKind) (n : ℕ) → IsSound c → state_of c n ≡ Some unset → resolved c (variable_tree k n) ≡ variable_tree k n
resolved_unset c kind.Ty n sound free = resolved-variable_unset c (label.Leaf (leaf.Variable kind.Ty n)) empty n sound refl free
resolved_unset c kind.Int n sound free = resolved-variable_unset c (label.Leaf (leaf.Variable kind.Int n)) empty n sound refl free
resolved_unset c kind.Float n sound free = resolved-variable_unset c (label.Leaf (leaf.Variable kind.Float n)) empty n sound refl free
resolved_unset c kind.Const n sound free = resolved-variable_unset c (label.Leaf (leaf.Variable kind.Const n)) empty n sound refl free
resolved_unset c kind.Region n sound free = resolved_leaf c (label.Leaf (leaf.Variable kind.Region n)) refl

pub clean_unset : (c : Content) (u : ℕ) (k : VariableKind) (n : ℕ) → IsSound c → state_of c n ≡ Some unset → NamesAll region_level u (resolved c (variable_tree k n))
clean_unset c u k n sound free = subst (NamesAll region_level u) (sym (resolved_unset c k n sound free)) (tt, tt)

-- roots of regions change nothing of this
clean_rooted : (c : Content) (u : ℕ) (t : Tree) → NamesAll region_level u (rooted c t) → NamesAll region_level u t
clean_rooted c u empty h = tt
clean_rooted c u (more a b) h = (clean_rooted c u a h.0, clean_rooted c u b h.1)
clean_rooted c u (node l t) h = (same l h.0, clean_rooted c u t h.1)
  where
    same : (l : Label) → CanName u (region_level (rooted_variable c (variable_of l) l)) → CanName u (region_level l)
    same (label.Leaf (leaf.Variable k n)) h = tt
    same (label.Leaf (leaf.Region r)) h = h
    same (label.Leaf (leaf.TyConstant a)) h = tt
    same (label.Leaf (leaf.ConstConstant a)) h = tt
    same (label.Bound s i n) h = tt
    same (label.Ty x) h = tt
    same (label.Const x) h = tt
    same (label.Clause x) h = tt
    same (label.Predicate x) h = tt
    same (label.List x) h = tt

-- a variable of integers or floats, whose value is a number or such a variable
pub holds_terms : (c : Content) → IsSolvable c → HoldsTerms c
holds_terms c s =
    record {
      fitting = λ n t k e h. (let v = s.values n t k e h in v.fits);
      closed = λ n t e. (let k = has_kind c n (field_below (λ x. x.state) c n _ e) in let v = s.values n t k.0 e k.1 in v.closed);
      formed = λ n t e. (let k = has_kind c n (field_below (λ x. x.state) c n _ e) in let v = s.values n t k.0 e k.1 in v.formed);
    }

integer_label : (l : Label) → is_integer l ≡ true → (region_level l ≡ None) × (shape l ≡ in_order [])
integer_label (label.Ty (ty.Int i)) e = (refl, refl)
integer_label (label.Ty (ty.Uint i)) e = (refl, refl)
integer_label (label.Leaf (leaf.Variable kind.Int n)) e = (refl, refl)
integer_label l e = cc

float_label : (l : Label) → is_float l ≡ true → (region_level l ≡ None) × (shape l ≡ in_order [])
float_label (label.Ty (ty.Float i)) e = (refl, refl)
float_label (label.Leaf (leaf.Variable kind.Float n)) e = (refl, refl)
float_label l e = cc

alone_clean : (u : ℕ) (l : Label) (c : Tree) → (region_level l ≡ None) × (shape l ≡ in_order []) → IsFormed (node l c) → NamesAll region_level u (node l c)
alone_clean u l c e f =
    let none = no_places c (subst (λ p. Meets p c) e.1 f.0) in
    (subst (CanName u) (sym e.0) tt, subst (NamesAll region_level u) (sym none) tt)

number_clean : (u : ℕ) (k : VariableKind) (t : Tree) → (k ≡ kind.Int) ⊎ (k ≡ kind.Float) → Fits k t → IsFormed t → NamesAll region_level u t
number_clean u kind.Int empty e h f = tt
number_clean u kind.Int (more a b) e h f = absurd h
number_clean u kind.Int (node l c) e h f = alone_clean u l c (integer_label l h) f
number_clean u kind.Float empty e h f = tt
number_clean u kind.Float (more a b) e h f = absurd h
number_clean u kind.Float (node l c) e h f = alone_clean u l c (float_label l h) f
number_clean u kind.Ty t e h f = ⊎_elim (λ p. cc) (λ p. cc) e
number_clean u kind.Const t e h f = ⊎_elim (λ p. cc) (λ p. cc) e
number_clean u kind.Region t e h f = ⊎_elim (λ p. cc) (λ p. cc) e

pub clean_number : (c : Content) (u : ℕ) (k : VariableKind) (n : ℕ) → (k ≡ kind.Int) ⊎ (k ≡ kind.Float) → IsSound c → IsSolvable c → kind_at c n ≡ Some k → NamesAll region_level u (resolved c (variable_tree k n))
clean_number c u k n number sound solvable has =
    let holds = holds_terms c solvable in
    let fits = Fits-deeply_resolved c k n sound holds has in
    let formed = IsFormed-deeply_resolved c (variable_tree k n) sound holds ((has, tt, refl), tt, tt) (tt, tt) in
    clean_rooted c u (resolved c (variable_tree k n)) (number_clean u k (deeply_resolved c (variable_tree k n)) number fits formed)

-- a node over clean parts
pub arguments_resolved : (c : Content) (ts : Tree) → resolved c (arguments ts) ≡ arguments (resolved c ts)
arguments_resolved c ts =
    let b = resolved-more c (node (label.List list.Args) ts) empty in
    let a = resolved-node c (label.List list.Args) ts refl in
    let d = resolved-empty c in
    cc (a, b, d)

sort_clean : (c : Content) (u : ℕ) (a : Tree) → kind_of a ≡ Some one_sort → IsFormed a → NamesAll region_level u (resolved c a)
sort_clean c u empty e f = cc
sort_clean c u (more a b) e f = cc
sort_clean c u (node l t) e f =
    let x = sort_label l cc in
    let same = x.1 in
    let g : IsFormed (node (label.List (list.Sort x.0)) t) = subst (λ m. IsFormed (node m t)) same f in
    let none : t ≡ empty = no_places t g.0 in
    rw (same, none) (clean_label c u (label.List (list.Sort x.0)) refl refl)

sorts_clean : (c : Content) (u : ℕ) (ss : Tree) → AllFit (is one_sort) ss → IsFormed ss → NamesAll region_level u (resolved c ss)
sorts_clean c u empty h f = rw (resolved-empty c) tt
sorts_clean c u (more a b) h f = rw (resolved-more c a b) (sort_clean c u a h.0 f.0, sorts_clean c u b h.1 f.1)
sorts_clean c u (node l t) h f = absurd h

clean_arguments : (c : Content) (u : ℕ) (l : Label) (ts : Tree) → infer_of l ≡ None → region_level l ≡ None → NamesAll region_level u (resolved c ts) → NamesAll region_level u (resolved c (node l (arguments ts)))
clean_arguments c u l ts e none h =
    let whole : resolved c (node l (arguments ts)) ≡ node l (arguments (resolved c ts)) = resolved-node c l (arguments ts) e ∙ ap (node l) (arguments_resolved c ts) in
    subst (NamesAll region_level u) (sym whole) (subst (CanName u) (sym none) tt, ((tt, h), tt))

pub clean_over : (c : Content) (u : ℕ) (F : Form) (ts : Tree) → HasSorts F → NamesAll region_level u (resolved c ts) → NamesAll region_level u (resolved c (over F ts))
clean_over c u (a_constructor i) ts s h = clean_arguments c u (label.Ty (ty.Ctor i)) ts refl refl h
clean_over c u (a_function ss) ts s h =
    let a = resolved-node c (label.Ty ty.FnPtr) (more (node (label.List list.Sorts) ss) (arguments ts)) refl in
    let b = resolved-more c (node (label.List list.Sorts) ss) (arguments ts) in
    let d = resolved-node c (label.List list.Sorts) ss refl in
    let e = arguments_resolved c ts in
    let rest : resolved c (more (node (label.List list.Sorts) ss) (arguments ts)) ≡ more (node (label.List list.Sorts) (resolved c ss)) (arguments (resolved c ts)) = cc (b, d, e) in
    let whole : resolved c (over (a_function ss) ts) ≡ node (label.Ty ty.FnPtr) (more (node (label.List list.Sorts) (resolved c ss)) (arguments (resolved c ts))) = a ∙ ap (node (label.Ty ty.FnPtr)) rest in
    subst (NamesAll region_level u) (sym whole) (tt, ((tt, sorts_clean c u ss s.0 s.1), ((tt, h), tt)))
clean_over c u (a_value b) ts s h = subst (NamesAll region_level u) (sym (resolved-node c (label.Const (konst.Value b)) ts refl)) (tt, h)
clean_over c u (an_alias (alias_of.Ty i)) ts s h = clean_arguments c u (label.Ty (ty.Alias i)) ts refl refl h
clean_over c u (an_alias (alias_of.Const i)) ts s h = clean_arguments c u (label.Const (konst.Unevaluated i)) ts refl refl h
