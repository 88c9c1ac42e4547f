-- What stands at once for a part whose own parts are not gone through: the part itself, or a fresh variable.
use Rattle.std.proofs.Common.{◌≡◌, ◌⊎◌, inl, inr, ⊎_elim, ℕ, Bool, true, false, Option, Some, None, List, [], ◌∷◌, length, refl, sym, ap, ◌∙◌, subst}
use Rattle.std.specs.Prelude.{◌||◌, Contains}
use Rattle.std.proofs.lemmas.List.Elements.{Contains-push}
use Rattle.std.proofs.lemmas.Bool.{or_parts}
use Rattle.nts_model.proofs.Tables.Bringing.{brings-with_slot, brings-with_constraint}
use Rattle.nts_model.specs.Tables.Passing.{TreePasses, TablePasses}
use Rattle.nts_variance.specs.Passing.{PassesRows}
use Rattle.nts_variance.specs.Plain.{StaysPlain}
use Rattle.nts_relating.specs.Relating.{IsPlainIn, KeepsPlain}
use Rattle.nts_variance.specs.SubRoots.{FoundsVariables}
use Rattle.nts_variance.proofs.Passes.{sides_pass, owed_passes}
use Rattle.nts_model.specs.declared.labels.Sort.{Sort}
use Rattle.nts_model.specs.declared.labels.Sort.TheVariants as sort
use Rattle.nts_model.specs.declared.labels.Variance.{Variance}
use Rattle.nts_model.specs.declared.labels.Variance.TheVariants as variance
use Rattle.nts_model.specs.declared.labels.VariableKind.{VariableKind}
use Rattle.nts_model.specs.declared.labels.VariableKind.TheVariants as kind
use Rattle.nts_model.specs.declared.labels.FreeRegion.{FreeRegion}
use Rattle.nts_model.specs.declared.labels.Leaf.{Leaf}
use Rattle.nts_model.specs.declared.labels.Leaf.TheVariants as leaf
use Rattle.nts_model.specs.declared.labels.TyHead.{TyHead}
use Rattle.nts_model.specs.declared.labels.TyHead.TheVariants as ty
use Rattle.nts_model.specs.declared.labels.ConstHead.{ConstHead}
use Rattle.nts_model.specs.declared.labels.ConstHead.TheVariants as konst
use Rattle.nts_model.specs.declared.labels.ListHead.{ListHead}
use Rattle.nts_model.specs.declared.labels.ListHead.TheVariants as list
use Rattle.nts_model.specs.declared.labels.Label.{Label}
use Rattle.nts_model.specs.declared.labels.Label.TheVariants as label
use Rattle.nts_model.specs.Terms.Trees.{Tree, empty, more, node, kind_of, of_sort, kind_of_label, sort_of_variable, label_of, any_label, is_alias, in_order, shape, Meets, IsClosed, IsFormed, variable_of, variable_tree}
use Rattle.nts_model.specs.Tables.Contents.{Content, Slot, unset, Recorded, with_slot, with_constraint}
use Rattle.nts_model.specs.Tables.Resolving.{number_of, IsInfer, resolved, deeply_resolved, Knows, KnowsVariable, IsSound}
use Rattle.nts_model.specs.Tables.Levels.{NamesAll, term_level, region_level}
use Rattle.nts_model.specs.Terms.Fitting.{Fits, is_integer, is_float, HasLabel}
use Rattle.nts_model.specs.Terms.Regions.{of_free, name_of_label, IsRegion}
use Rattle.nts_model.specs.Tables.Worlds.{World, renamed, placed, inst, IsValue, IsMet, Solves, KnowsAll}
use Rattle.nts_model.specs.Tables.Holding.{Continues, IsRecorded, HoldsConstraint}
use Rattle.nts_model.specs.Derivations.Related.{region_constraint, IsAlias, one_tree, regions}
use Rattle.nts_variance_model.specs.Variances.Judging.{Judging, IsSettled, Settles, IsLawfulJudging, opposite}
use Rattle.nts_model.specs.Derivations.Proving.{recorded_as}
use Rattle.nts_variance_model.specs.Variances.Relations.{Relating, ArePairsKnown, IsJudgedBy, IsSettledWorld}
use Rattle.nts_variance_model.specs.Variances.Leaving.{Judge, judging_of, IsErased, Judges}
use Rattle.nts_model.specs.Tables.Solvable.{IsSolvable}
use Rattle.nts_model.specs.Terms.Substitutions.{leaf_tree}
use Rattle.nts_model.specs.Tables.Measuring.{closed_aliases}
use Rattle.nts_model.proofs.Terms.Variables.{infer_of_none}
use Rattle.nts_model.proofs.Tables.Slots.{KeepsKinds, KeepsKinds-with_slot, Knows-kept, field_below, field-with_slot_new}
use Rattle.nts_model.proofs.Tables.Instances.{inst-node, inst-agrees, Agrees-refl}
use Rattle.nts_model.proofs.Tables.Resolved.{deeply_resolved-deeply_resolved}
use Rattle.nts_model.proofs.Tables.Sound.{resolved-same, SameStates-with_constraint, resolved-with_slot, IsSound-with_slot}
use Rattle.nts_model.proofs.Tables.Solving.{Solves-from_with_slot, Solves-with_constraint, Solves-from_with_constraint}
use Rattle.nts_model.proofs.Tables.Held.{Continues-refl, Continues-trans, Continues-with_slot, Continues-with_constraint}
use Rattle.nts_model.proofs.Tables.Fitting.{region_label, IsValue-variable, Fits-inst, IsValue-inst}
use Rattle.nts_model.proofs.Tables.Alike.{IsRegion-deeply_resolved}
use Rattle.nts_model.proofs.Tables.AliasLabels.{not_alias, region_closed, region_kind}
use Rattle.nts_variance_model.proofs.Variances.Alongside.{beside_leaf, beside_number}
use Rattle.nts_variance_model.proofs.Variances.SettleRows.{settled_along, settles_kind, settles_closed, region_beside, regions_settle}
use Rattle.nts_variance_model.proofs.Variances.Generalizing.{owed, judged_agrees, owed_met, FreshIn, fresh_in}
use Rattle.nts_unify.specs.Changing.{IsSeen, is_free_region}
use Rattle.nts_unify.proofs.Keeping.{KeepsKnowing-with_constraint}
use Rattle.nts_variance.proofs.Clean.{clean_leaf, clean_erased, clean_unset, clean_number, resolved_unset}
use Rattle.nts_variance.proofs.CountedPieces.{counted_itself, number_none, leaf_none}
use Rattle.nts_model.proofs.Tables.Tying.{TiesNew-same}
use Rattle.nts_variance.proofs.Growing.{grown_refl, grown_trans, grown_later, grown_slot}
use Rattle.nts_variance.proofs.Founding.{founds_tied, founds_region}
use Rattle.nts_variance.proofs.PlainTerms.{keeps_same, stays_none, stays_then}
use Rattle.nts_variance.specs.Counting.{IsCountedFor}
use Rattle.nts_variance.specs.Parts.{has_parts, IsAlone}
use Rattle.nts_variance.specs.Walking.{IsMadeFor, RelatedTrees, RelatedSides, sides, IsMade}
use Rattle.nts_variance.proofs.Nodes.{answered_sides, settles_sides}
use Rattle.nts_variance.proofs.Exact.{or_right as either_float}
use Rattle.nts_variance_model.proofs.Variances.Forms.{no_places as no_children}

-- labels of instances
renamed_alias : (w : World) (l : Label) → is_alias (renamed w l) ≡ is_alias l
renamed_alias w (label.Leaf x) = refl
renamed_alias w (label.Bound s i n) = refl
renamed_alias w (label.Ty h) = refl
renamed_alias w (label.Const h) = refl
renamed_alias w (label.Clause h) = refl
renamed_alias w (label.Predicate h) = refl
renamed_alias w (label.List h) = refl

renamed_name : (w : World) (l : Label) → variable_of l ≡ None → name_of_label l ≡ None → name_of_label (renamed w l) ≡ None
renamed_name w (label.Leaf (leaf.Variable k n)) v e = cc
renamed_name w (label.Leaf (leaf.Region r)) v e = cc
renamed_name w (label.Leaf (leaf.TyConstant a)) v e = refl
renamed_name w (label.Leaf (leaf.ConstConstant a)) v e = refl
renamed_name w (label.Bound s i n) v e = refl
renamed_name w (label.Ty h) v e = refl
renamed_name w (label.Const h) v e = refl
renamed_name w (label.Clause h) v e = refl
renamed_name w (label.Predicate h) v e = refl
renamed_name w (label.List h) v e = refl

no_region_name : (l : Label) (t : Tree) → name_of_label l ≡ None → IsRegion (node l t) → ⊥
no_region_name l t e r = (let x = region_label l t r.0 r.1 in let q = x.0 in cc)

-- in a settled world the instance of a tree without aliases is settled
placed_settled : (J : Judging) (c : Content) (w : World) (l : Label) (x : Tree) (o : Option (VariableKind × ℕ)) → IsSettledWorld J c w → KnowsVariable c o → is_alias l ≡ false → IsSettled J x → IsSettled J (placed w (number_of o) l x)
placed_settled J c w l x None h k e s = ((λ i. absurd (not_alias (renamed w l) x (renamed_alias w l ∙ e) i)), s)
placed_settled J c w l x (Some v) h k e s = h.each v.1 (field_below (λ y. y.kind) c v.1 v.0 k)

pub inst_settled : (J : Judging) (c : Content) (w : World) (t : Tree) → IsSettledWorld J c w → Knows c t → any_label is_alias t ≡ false → IsSettled J (inst w t)
inst_settled J c w empty h k e = tt
inst_settled J c w (more a b) h k e = (let p = or_parts (any_label is_alias a) (any_label is_alias b) e in (inst_settled J c w a h k.0 p.0, inst_settled J c w b h k.1 p.1))
inst_settled J c w (node l x) h k e = (let p = or_parts (is_alias l) (any_label is_alias x) e in placed_settled J c w l (inst w x) (variable_of l) h k.0.0 p.0 (inst_settled J c w x h k.1 p.1))

-- a tree that is a number
record NumberNode (y : Tree) : Type 0 where
  label : Label
  children : Tree
  is : y ≡ node label children
  number : (is_integer label || is_float label) ≡ true

integer_node : (y : Tree) → HasLabel is_integer (label_of y) → NumberNode y
integer_node empty h = absurd h
integer_node (more a b) h = absurd h
integer_node (node l c) h = record { label = l; children = c; is = refl; number = rw h refl }

float_node : (y : Tree) → HasLabel is_float (label_of y) → NumberNode y
float_node empty h = absurd h
float_node (more a b) h = absurd h
float_node (node l c) h = record { label = l; children = c; is = refl; number = either_float (is_integer l) (is_float l) h }

abbrev pub kept_kinds : (c d : Content) → Continues c d → KeepsKinds c d
kept_kinds c d h = record { grows = h.grows; kinds = h.kinds }

related_itself : (z : Bool) (declared : ℕ → List Variance) (f : Content) (ks : List Tree) (v : Variance) (t : Tree) → RelatedSides z declared f ks v t t
related_itself false declared f ks v t = one_tree tt
related_itself true declared f ks v t = one_tree tt

-- labels of parts that are not gone through and do not vary: a variable of a number, a region that is related with itself alone, and
-- what no world changes
data PlainLabel (l : Label) : Type 0 where
  a_number : (k : VariableKind) (n : ℕ) → (k ≡ kind.Int) ⊎ (k ≡ kind.Float) → l ≡ label.Leaf (leaf.Variable k n) → PlainLabel l
  an_erased : (r : FreeRegion) → IsErased r → l ≡ label.Leaf (leaf.Region r) → PlainLabel l
  a_rigid : variable_of l ≡ None → name_of_label l ≡ None → is_alias l ≡ false → PlainLabel l

plain_variable : (k : VariableKind) (n : ℕ) → (k ≡ kind.Ty → ⊥) → (k ≡ kind.Const → ⊥) → (k ≡ kind.Region → ⊥) → PlainLabel (label.Leaf (leaf.Variable k n))
plain_variable kind.Ty n t c r = absurd (t refl)
plain_variable kind.Int n t c r = a_number kind.Int n (inl refl) refl
plain_variable kind.Float n t c r = a_number kind.Float n (inr refl) refl
plain_variable kind.Const n t c r = absurd (c refl)
plain_variable kind.Region n t c r = absurd (r refl)

no_region_kind : (k : VariableKind) (n : ℕ) → (is_free_region (label.Leaf (leaf.Variable k n)) ≡ false) ⊎ ((r : FreeRegion) × (label.Leaf (leaf.Variable k n) ≡ label.Leaf (leaf.Region r)) × IsErased r) → k ≡ kind.Region → ⊥
no_region_kind kind.Region n fixed e = ⊎_elim (λ p. cc) (λ p. (let f = p.1 in cc)) fixed
no_region_kind kind.Ty n fixed e = cc
no_region_kind kind.Int n fixed e = cc
no_region_kind kind.Float n fixed e = cc
no_region_kind kind.Const n fixed e = cc

plain_leaf : (l : Leaf) → ((n : ℕ) → label.Leaf l ≡ label.Leaf (leaf.Variable kind.Ty n) → ⊥) → ((n : ℕ) → label.Leaf l ≡ label.Leaf (leaf.Variable kind.Const n) → ⊥) → (is_free_region (label.Leaf l) ≡ false) ⊎ ((r : FreeRegion) × (label.Leaf l ≡ label.Leaf (leaf.Region r)) × IsErased r) → PlainLabel (label.Leaf l)
plain_leaf (leaf.Variable k n) no_type no_const fixed =
    plain_variable k n (λ e. no_type n (ap (λ j. label.Leaf (leaf.Variable j n)) e)) (λ e. no_const n (ap (λ j. label.Leaf (leaf.Variable j n)) e)) (no_region_kind k n fixed)
plain_leaf (leaf.Region r) no_type no_const fixed = ⊎_elim (λ p. cc) (λ p. an_erased p.0 p.2 p.1) fixed
plain_leaf (leaf.TyConstant a) no_type no_const fixed = a_rigid refl refl refl
plain_leaf (leaf.ConstConstant a) no_type no_const fixed = a_rigid refl refl refl

plain_type : (h : TyHead) → has_parts (label.Ty h) ≡ false → PlainLabel (label.Ty h) × (shape (label.Ty h) ≡ in_order [])
plain_type (ty.Ctor i) e = cc
plain_type (ty.Int i) e = (a_rigid refl refl refl, refl)
plain_type (ty.Uint i) e = (a_rigid refl refl refl, refl)
plain_type (ty.Float i) e = (a_rigid refl refl refl, refl)
plain_type ty.FnPtr e = cc
plain_type (ty.Alias i) e = cc
plain_type ty.Error e = (a_rigid refl refl refl, refl)

plain_constant : (h : ConstHead) → has_parts (label.Const h) ≡ false → PlainLabel (label.Const h) × (shape (label.Const h) ≡ in_order [])
plain_constant (konst.Unevaluated i) e = cc
plain_constant (konst.Value b) e = cc
plain_constant konst.Error e = (a_rigid refl refl refl, refl)

no_list_sort : (h : ListHead) (s : Sort) → kind_of_label (label.List h) ≡ of_sort s → ⊥
no_list_sort list.Args s e = cc
no_list_sort list.Env s e = cc
no_list_sort list.Sorts s e = cc
no_list_sort (list.Sort a) s e = cc
no_list_sort list.Binder s e = cc

plain_label : (l : Label) (s : Sort) → kind_of_label l ≡ of_sort s → has_parts l ≡ false → ((n : ℕ) → l ≡ label.Leaf (leaf.Variable kind.Ty n) → ⊥) → ((n : ℕ) → l ≡ label.Leaf (leaf.Variable kind.Const n) → ⊥) → (is_free_region l ≡ false) ⊎ ((r : FreeRegion) × (l ≡ label.Leaf (leaf.Region r)) × IsErased r)
    → PlainLabel l × (shape l ≡ in_order [])
plain_label (label.Leaf x) s of_kind plain no_type no_const fixed = (plain_leaf x no_type no_const fixed, refl)
plain_label (label.Bound a i n) s of_kind plain no_type no_const fixed = (a_rigid refl refl refl, refl)
plain_label (label.Ty h) s of_kind plain no_type no_const fixed = plain_type h plain
plain_label (label.Const h) s of_kind plain no_type no_const fixed = plain_constant h plain
plain_label (label.Clause h) s of_kind plain no_type no_const fixed = cc
plain_label (label.Predicate h) s of_kind plain no_type no_const fixed = cc
plain_label (label.List h) s of_kind plain no_type no_const fixed = absurd (no_list_sort h s of_kind)

module _ (declared : ℕ → List Variance) (z : Bool) (u : ℕ) where
  -- a part stands for itself where each settled tree that settles with its instance is that instance
  made_same : (c : Content) (v : Variance) (q : Bool) (t : Tree) → IsSound c → Knows c t → NamesAll region_level u (resolved c t)
      → ((j : Judge declared) (w : World) → Solves c w → Judges declared j w → IsSettledWorld (judging_of declared j) c w → (s : Tree) → IsSettled (judging_of declared j) s → Settles (judging_of declared j) v s (inst w t) → s ≡ inst w t)
      → IsMade declared z u c c v q t t []
  made_same c v q t sound knows clean same =
      record {
        later = grown_refl c;
        continues = Continues-refl c sound;
        trees = λ a k. refl;
        clean = clean;
        made = λ f s k. record { knows = Knows-kept c f t (kept_kinds c f k) knows; kind = refl; listed = λ ss d h. h; apart = λ no loose. no; alone = λ no loose x. x };
        stands = λ f s k ks a loud. related_itself z declared f ks v (deeply_resolved f t);
        goals = tt;
        back = λ w h. h;
        complete = λ j w h judged settled s t' names formed x. record {
          extension = record { world = w; agrees = Agrees-refl (length c.slots) w; solves = h; settled = settled; names = λ f k n. k };
          is = sym (same j w h judged settled s t' x);
          goals = tt;
        };
        plain = λ h. (stays_none c, h);
        passes = λ P q h k. (h, k, tt);
      }

  -- a leaf that is no variable, no free region and no alias, by each variance
  pub made_leaf : (c : Content) (v : Variance) (q : Bool) (l : Label) → IsSound c → Knows c (node l empty) → variable_of l ≡ None → name_of_label l ≡ None → is_alias l ≡ false → IsMade declared z u c c v q (node l empty) (node l empty) []
  made_leaf c v q l sound knows rigid nameless no_alias =
      made_same c v q (node l empty) sound knows (clean_leaf c u l rigid nameless)
      (λ j w h judged settled s t' x.
      let J = judging_of declared j in
      let is : inst w (node l empty) ≡ node (renamed w l) empty = inst-node w l empty rigid in
      let here : IsSettled J (inst w (node l empty)) = subst (IsSettled J) (sym is) ((λ i. absurd (not_alias (renamed w l) empty (renamed_alias w l ∙ no_alias) i)), tt) in
      let none : IsRegion (inst w (node l empty)) → ⊥ = λ r. no_region_name (renamed w l) empty (renamed_name w l rigid nameless) (subst IsRegion is r) in
      beside_leaf J j.lawful (renamed w l) is none (settled_along J j.lawful v s (inst w (node l empty)) t' here x))

  -- a variable of integers or floats, by each variance
  pub made_number : (c : Content) (v : Variance) (q : Bool) (k : VariableKind) (n : ℕ) → (k ≡ kind.Int) ⊎ (k ≡ kind.Float) → IsSound c → IsSolvable c → Knows c (variable_tree k n) → IsMade declared z u c c v q (variable_tree k n) (variable_tree k n) []
  made_number c v q k n number sound solvable knows =
      made_same c v q (variable_tree k n) sound knows (clean_number c u k n number sound solvable knows.0.0)
      (λ j w h judged settled s t' x.
      let J = judging_of declared j in
      let value : IsValue k (w.tree n) = h.fitting.each n k knows.0.0 in
      let m = number_tree k (w.tree n) number value in
      let here : IsSettled J (w.tree n) = settled.each n (field_below (λ y. y.kind) c n k knows.0.0) in
      beside_number J j.lawful m.label m.children m.is m.number (settled_along J j.lawful v s (w.tree n) t' here x))
    where
      number_tree : (k : VariableKind) (y : Tree) → (k ≡ kind.Int) ⊎ (k ≡ kind.Float) → IsValue k y → NumberNode y
      number_tree kind.Int y e v = integer_node y v.fits
      number_tree kind.Float y e v = float_node y v.fits
      number_tree kind.Ty y e v = ⊎_elim (λ p. cc) (λ p. cc) e
      number_tree kind.Const y e v = ⊎_elim (λ p. cc) (λ p. cc) e
      number_tree kind.Region y e v = ⊎_elim (λ p. cc) (λ p. cc) e

  -- the erased and the error region, by each variance: they are related with themselves alone
  pub made_erased : (c : Content) (v : Variance) (q : Bool) (r : FreeRegion) → IsErased r → IsSound c → Knows c (leaf_tree (leaf.Region r)) → IsMade declared z u c c v q (leaf_tree (leaf.Region r)) (leaf_tree (leaf.Region r)) []
  made_erased c v q r erased sound knows =
      made_same c v q (leaf_tree (leaf.Region r)) sound knows (clean_erased c u r erased)
      (λ j w h judged settled s t' x.
      let J = judging_of declared j in
      let right : IsRegion (leaf_tree (leaf.Region (w.region r))) = (of_free (w.region r), refl) in
      let left : IsRegion s = region_beside J j.lawful v s (leaf_tree (leaf.Region (w.region r))) right t' x in
      judged.alone v s r erased (regions_settle J j.lawful v s (leaf_tree (leaf.Region (w.region r))) left right x))

  made_at : (c : Content) (v : Variance) (q : Bool) (l : Label) → IsSound c → IsSolvable c → Knows c (node l empty) → PlainLabel l → IsMade declared z u c c v q (node l empty) (node l empty) []
  made_at c v q l sound solvable knows (a_number k n number e) =
      subst (λ m. IsMade declared z u c c v q (node m empty) (node m empty) []) (sym e) (made_number c v q k n number sound solvable (subst (λ m. Knows c (node m empty)) e knows))
  made_at c v q l sound solvable knows (an_erased r h e) =
      subst (λ m. IsMade declared z u c c v q (node m empty) (node m empty) []) (sym e) (made_erased c v q r h sound (subst (λ m. Knows c (node m empty)) e knows))
  made_at c v q l sound solvable knows (a_rigid rigid nameless no_alias) = made_leaf c v q l sound knows rigid nameless no_alias

  -- what is neither gone through nor a variable of a type or a const nor a region that may vary, by each variance
  pub made_plain : (c : Content) (v : Variance) (q : Bool) (l : Label) (k : Tree) (s : Sort) → IsSound c → IsSolvable c → Knows c (node l k) → IsFormed (node l k) → kind_of (node l k) ≡ Some (of_sort s) → has_parts l ≡ false → ((n : ℕ) → l ≡ label.Leaf (leaf.Variable kind.Ty n) → ⊥)
      → ((n : ℕ) → l ≡ label.Leaf (leaf.Variable kind.Const n) → ⊥) → (is_free_region l ≡ false) ⊎ ((r : FreeRegion) × (l ≡ label.Leaf (leaf.Region r)) × IsErased r) → IsMade declared z u c c v q (node l k) (node l k) []
  made_plain c v q l k s sound solvable knows formed sorted plain no_type no_const fixed =
      let of_kind : kind_of_label l ≡ of_sort s = cc in
      let x = plain_label l s of_kind plain no_type no_const fixed in
      let e = no_children k (subst (λ p. Meets p k) x.1 formed.0) in
      subst (λ a. IsMade declared z u c c v q (node l a) (node l a) []) (sym e) (made_at c v q l sound solvable (subst (λ a. Knows c (node l a)) e knows) x.0)

-- .. which has no closed alias
plain_none : (c : Content) (l : Label) → IsSound c → IsSolvable c → Knows c (node l empty) → PlainLabel l → closed_aliases (resolved c (node l empty)) ≡ 0
plain_none c l sound solvable knows (a_number k n number e) =
    let known : Knows c (variable_tree k n) = subst (λ m. Knows c (node m empty)) e knows in
    ap (λ m. closed_aliases (resolved c (node m empty))) e ∙ number_none c k n number sound solvable known.0.0
plain_none c l sound solvable knows (an_erased r h e) = ap (λ m. closed_aliases (resolved c (node m empty))) e ∙ leaf_none c (label.Leaf (leaf.Region r)) refl refl
plain_none c l sound solvable knows (a_rigid rigid nameless no_alias) = leaf_none c l (infer_of_none l rigid) no_alias

pub counted_plain : (c : Content) (v : Variance) (q : Bool) (l : Label) (k : Tree) (s : Sort) → IsSound c → IsSolvable c → Knows c (node l k) → IsFormed (node l k) → kind_of (node l k) ≡ Some (of_sort s) → has_parts l ≡ false → ((n : ℕ) → l ≡ label.Leaf (leaf.Variable kind.Ty n) → ⊥)
    → ((n : ℕ) → l ≡ label.Leaf (leaf.Variable kind.Const n) → ⊥) → (is_free_region l ≡ false) ⊎ ((r : FreeRegion) × (l ≡ label.Leaf (leaf.Region r)) × IsErased r) → IsCountedFor c c v q (node l k) (node l k)
counted_plain c v q l k s sound solvable knows formed sorted plain no_type no_const fixed =
    let of_kind : kind_of_label l ≡ of_sort s = cc in
    let x = plain_label l s of_kind plain no_type no_const fixed in
    let e = no_children k (subst (λ p. Meets p k) x.1 formed.0) in
    counted_itself c v q (node l k) (ap (λ a. closed_aliases (resolved c (node l a))) e ∙ plain_none c l sound solvable (subst (λ a. Knows c (node l a)) e knows) x.0)

-- the value of a variable for a type or a const stands beside the same
value_beside : (k : VariableKind) → (k ≡ kind.Ty) ⊎ (k ≡ kind.Const) → (s t : Tree) → kind_of s ≡ kind_of t → (IsClosed t → IsClosed s) → IsFormed s → IsValue k t → IsValue k s
value_beside kind.Ty e s t same closed formed v = record { fits = same ∙ v.fits; closed = closed v.closed; formed = formed }
value_beside kind.Const e s t same closed formed v = record { fits = same ∙ v.fits; closed = closed v.closed; formed = formed }
value_beside kind.Int e s t same closed formed v = ⊎_elim (λ p. cc) (λ p. cc) e
value_beside kind.Float e s t same closed formed v = ⊎_elim (λ p. cc) (λ p. cc) e
value_beside kind.Region e s t same closed formed v = ⊎_elim (λ p. cc) (λ p. cc) e

value_of_kind : (k : VariableKind) → (k ≡ kind.Ty) ⊎ (k ≡ kind.Const) → (t : Tree) → kind_of t ≡ Some (of_sort (sort_of_variable k)) → IsClosed t → IsFormed t → IsValue k t
value_of_kind kind.Ty e t sorted closed formed = record { fits = sorted; closed = closed; formed = formed }
value_of_kind kind.Const e t sorted closed formed = record { fits = sorted; closed = closed; formed = formed }
value_of_kind kind.Int e t sorted closed formed = ⊎_elim (λ p. cc) (λ p. cc) e
value_of_kind kind.Float e t sorted closed formed = ⊎_elim (λ p. cc) (λ p. cc) e
value_of_kind kind.Region e t sorted closed formed = ⊎_elim (λ p. cc) (λ p. cc) e

-- what is said of a pair of regions: it is recorded between closed terms, holds once it is recorded, and is met where the pair settles
pub owed_seen : (v : Variance) (a b : Tree) → IsClosed a → IsClosed b → IsSeen (owed v a b)
owed_seen variance.Invariant a b p q = record { visible = refl; left = p; right = q }
owed_seen variance.Covariant a b p q = record { visible = refl; left = p; right = q }
owed_seen variance.Contravariant a b p q = record { visible = refl; left = q; right = p }

owed_held : (f : Content) (v : Variance) (a b : Tree) → IsSound f → Contains f.constraints (owed v a b) → HoldsConstraint f (recorded_as (region_constraint v (deeply_resolved f a) (deeply_resolved f b)))
owed_held f v a b sound found =
    let left = deeply_resolved-deeply_resolved f a sound in
    let right = deeply_resolved-deeply_resolved f b sound in
    inr (by_variance v found left right)
  where
    by_variance : (v : Variance) → Contains f.constraints (owed v a b) → deeply_resolved f (deeply_resolved f a) ≡ deeply_resolved f a → deeply_resolved f (deeply_resolved f b) ≡ deeply_resolved f b
        → IsRecorded f (recorded_as (region_constraint v (deeply_resolved f a) (deeply_resolved f b)))
    by_variance variance.Invariant found left right = record { constraint = owed variance.Invariant a b; found = found; same_relation = refl; same_sides = inl (left, right) }
    by_variance variance.Covariant found left right = record { constraint = owed variance.Covariant a b; found = found; same_relation = refl; same_sides = (left, right) }
    by_variance variance.Contravariant found left right = record { constraint = owed variance.Contravariant a b; found = found; same_relation = refl; same_sides = (right, left) }

pub owed_related : (declared : ℕ → List Variance) (f : Content) (ks : List Tree) (v : Variance) (a b : Tree) → IsSound f → IsRegion a → IsRegion b → Contains f.constraints (owed v a b) → RelatedTrees declared f ks v (deeply_resolved f a) (deeply_resolved f b)
owed_related declared f ks v a b sound i j found = regions (IsRegion-deeply_resolved f a i) (IsRegion-deeply_resolved f b j) (owed_held f v a b sound found)

owed_settled : (J : Judging) → IsLawfulJudging J → (w : World) → IsJudgedBy J w → (v : Variance) (a b : Tree) → IsRegion (inst w a) → IsRegion (inst w b) → Settles J v (inst w a) (inst w b) → IsMet w (owed v a b)
owed_settled J law w judged v a b i j x = owed_met J law w judged v a b (regions_settle J law v (inst w a) (inst w b) i j x)

-- the constraint of the pair of what was made and a part, in their order
abbrev pub owed_by : Bool → Variance → Tree → Tree → Recorded
owed_by side v r t = (let p = sides side v r t in owed p.variance p.left p.right)

owed_by_passes : (P : Label → Bool) (side : Bool) (v : Variance) (r t : Tree) → TreePasses P r → TreePasses P t → TreePasses P (owed_by side v r t).left × TreePasses P (owed_by side v r t).right
owed_by_passes P false v r t h k = owed_passes P v r t h k
owed_by_passes P true v r t h k = owed_passes P (opposite v) t r k h

side_seen : (side : Bool) (v : Variance) (r t : Tree) → IsClosed r → IsClosed t → IsSeen (owed_by side v r t)
side_seen false v r t p q = owed_seen v r t p q
side_seen true v r t p q = owed_seen (opposite v) t r q p

side_related : (side : Bool) (declared : ℕ → List Variance) (f : Content) (ks : List Tree) (v : Variance) (r t : Tree) → IsSound f → IsRegion r → IsRegion t → Contains f.constraints (owed_by side v r t) → RelatedSides side declared f ks v (deeply_resolved f r) (deeply_resolved f t)
side_related false declared f ks v r t sound i j found = owed_related declared f ks v r t sound i j found
side_related true declared f ks v r t sound i j found = owed_related declared f ks (opposite v) t r sound j i found

side_settled : (side : Bool) (J : Judging) (law : IsLawfulJudging J) (w : World) → IsJudgedBy J w → (v : Variance) (r t : Tree) → IsRegion (inst w r) → IsRegion (inst w t) → Settles J v (inst w r) (inst w t) → IsMet w (owed_by side v r t)
side_settled false J law w judged v r t i j x = owed_settled J law w judged v r t i j x
side_settled true J law w judged v r t i j x = owed_settled J law w judged (opposite v) t r j i (settles_sides true J law w v r t x)

-- the goal that is owed, unless one around says it
abbrev pub owed_goals : Bool → Bool → Variance → Tree → Tree → List Relating
owed_goals true side v r t = []
owed_goals false side v r t = sides side v r t ∷ []

-- a fresh variable, of which the table knows nothing
module _ (declared : ℕ → List Variance) (z : Bool) (c : Content) (s : Slot) (free : s.state ≡ unset) (sound : IsSound c) (known_sides : KnowsAll c c.constraints) where
  -- a tree of the later tables
  fresh_made : (d f : Content) (t : Tree) → Continues (with_slot c s) d → Continues d f → kind_of t ≡ Some (of_sort (sort_of_variable s.kind)) → (s.kind ≡ kind.Region) ⊎ IsInfer t ⊎ IsAlias t
      → IsMadeFor f t (variable_tree s.kind (length c.slots))
  fresh_made d f t g k sorted varies =
      record {
        knows = ((k.kinds (length c.slots) s.kind (g.kinds (length c.slots) s.kind (field-with_slot_new (λ x. x.kind) c s)), tt, refl), tt, tt);
        kind = sym sorted;
        listed = λ ss d h. (tt, tt);
        apart = λ no loose. ⊎_elim (λ r. no_infer s.kind r) (λ x. ⊎_elim (λ i. absurd (no i)) (λ a. absurd (loose a)) x) varies;
        alone = λ no loose. ⊎_elim (λ r x. absurd (no_alone s.kind r x)) (λ x. ⊎_elim (λ i. absurd (no i)) (λ a. absurd (loose a)) x) varies;
      }
    where
      no_infer : (k : VariableKind) → k ≡ kind.Region → IsInfer (variable_tree k (length c.slots)) → ⊥
      no_infer k r i = (let x = subst (λ j. IsInfer (variable_tree j (length c.slots))) r i in let e = x.1 in cc)

      no_alone : (k : VariableKind) → k ≡ kind.Region → IsAlone (variable_tree k (length c.slots)) → ⊥
      no_alone k r x =
          ⊎_elim
          (λ (e : Some (of_sort sort.Region) ≡ Some (of_sort sort.Const)). cc)
          (λ y. ⊎_elim (λ (e : false ≡ true). cc) (λ (e : false ≡ true). cc) y)
          (subst (λ j. IsAlone (variable_tree j (length c.slots))) r x)

  fresh_table : (P : Label → Bool) → PassesRows P → TablePasses P c → TablePasses P (with_slot c s)
  fresh_table P q h = (let b = brings-with_slot c s free in b.labels P (q.variables) h)

  fresh_tree : (P : Label → Bool) → PassesRows P → TreePasses P (variable_tree s.kind (length c.slots))
  fresh_tree P q = (q.variables s.kind (length c.slots), tt)

  fresh_clean : (u : ℕ) → NamesAll region_level u (resolved (with_slot c s) (variable_tree s.kind (length c.slots)))
  fresh_clean u = clean_unset (with_slot c s) u s.kind (length c.slots) (IsSound-with_slot c s sound free) (field-with_slot_new (λ x. x.state) c s ∙ ap Some free)

  fresh_keeps : KeepsPlain c (with_slot c s)
  fresh_keeps = keeps_same c (with_slot c s) (λ a k. resolved-with_slot c s sound free a)

  fresh_plain : IsPlainIn (with_slot c s) (variable_tree s.kind (length c.slots))
  fresh_plain = ap (any_label is_alias) (resolved_unset (with_slot c s) s.kind (length c.slots) (IsSound-with_slot c s sound free) (field-with_slot_new (λ x. x.state) c s ∙ ap Some free))

  fresh_knows : Knows (with_slot c s) (variable_tree s.kind (length c.slots))
  fresh_knows = ((field-with_slot_new (λ x. x.kind) c s, tt, refl), tt, tt)

  -- the settled world in which the variable stands for a settled tree
  chosen_for : (J : Judging) (law : IsLawfulJudging J) (w : World) (v : Variance) (t x : Tree) → Solves c w → IsSettledWorld J c w → (s.kind ≡ kind.Ty) ⊎ (s.kind ≡ kind.Const) → Knows c t → IsValue s.kind t
      → IsSettled J x → NamesAll term_level s.universe x → IsFormed x → Settles J v x (inst w t) → FreshIn J law c s free sound known_sides w x
  chosen_for J law w v t x h settled sort knows fits x' names formed y =
      let value = IsValue-inst c w s.kind t h.fitting knows fits in
      let across = value_beside s.kind sort x (inst w t) (settles_kind J law v x (inst w t) y) ((settles_closed J law v x (inst w t) y 0).1) formed value in
      fresh_in J law c s free sound known_sides w x h settled x' names across

  chosen_region : (J : Judging) (law : IsLawfulJudging J) (w : World) (v : Variance) (t x : Tree) → Solves c w → IsSettledWorld J c w → s.kind ≡ kind.Region → IsRegion (inst w t)
      → IsSettled J x → NamesAll term_level s.universe x → IsFormed x → Settles J v x (inst w t) → FreshIn J law c s free sound known_sides w x
  chosen_region J law w v t x h settled e right x' names formed y =
      let left : IsRegion x = region_beside J law v x (inst w t) right x' y in
      let value : IsValue s.kind x = record { fits = subst (λ k. Fits k x) (sym e) left; closed = region_closed 0 x left; formed = formed } in
      fresh_in J law c s free sound known_sides w x h settled x' names value

  -- for a type variable or a closed alias: the variable owes a goal
  fresh_loudly : (v : Variance) (t : Tree) → (s.kind ≡ kind.Ty) ⊎ (s.kind ≡ kind.Const) → Knows c t → IsValue s.kind t → kind_of t ≡ Some (of_sort (sort_of_variable s.kind)) → IsInfer t ⊎ IsAlias t → (IsPlainIn c t → FoundsVariables c (with_slot c s))
      → IsMade declared z s.universe c (with_slot c s) v false t (variable_tree s.kind (length c.slots)) (sides z v (variable_tree s.kind (length c.slots)) t ∷ [])
  fresh_loudly v t sort knows fits sorted varies founded =
      let d = with_slot c s in
      let r = variable_tree s.kind (length c.slots) in
      record {
        later = grown_slot c s free;
        continues = Continues-with_slot c s free sound;
        trees = λ a k. resolved-with_slot c s sound free a;
        clean = fresh_clean s.universe;
        made = λ f g k. fresh_made d f t (Continues-refl d (IsSound-with_slot c s sound free)) k sorted (inr varies);
        stands = λ f g k ks a loud. answered_sides declared z f ks v r t a.0;
        goals = sides_known z v r t fresh_knows (Knows-kept c d t (KeepsKinds-with_slot c s) knows);
        back = λ w h. Solves-from_with_slot c s free w h;
        complete = λ j w h judged settled x x' names formed y.
            (let J = judging_of declared j in
            let e = chosen_for J j.lawful w v t x h settled sort knows fits x' names formed y in
            let g = e.extension in
            let old : inst g.world t ≡ inst w t = inst-agrees c w g.world t g.agrees knows in
            let there : Settles J v (inst g.world r) (inst g.world t) = subst (λ a. Settles J v a (inst g.world t)) (sym e.is) (subst (Settles J v x) (sym old) y) in
            record { extension = g; is = e.is; goals = (settles_sides z J j.lawful g.world v r t there, tt) });
        plain = λ h. (record { keeps = fresh_keeps; founds = founded h }, fresh_plain);
        passes = λ P q h k. (fresh_table P q h, fresh_tree P q, sides_pass P z v r t (fresh_tree P q) k);
      }
    where
      sides_known : (side : Bool) (v : Variance) (r t : Tree) → Knows (with_slot c s) r → Knows (with_slot c s) t → ArePairsKnown (with_slot c s) (sides side v r t ∷ [])
      sides_known false v r t a b = (a, b, tt)
      sides_known true v r t a b = (b, a, tt)

  -- .. and none where one around says it
  fresh_quietly : (v : Variance) (t : Tree) → (s.kind ≡ kind.Ty) ⊎ (s.kind ≡ kind.Const) → Knows c t → IsValue s.kind t → kind_of t ≡ Some (of_sort (sort_of_variable s.kind)) → IsInfer t ⊎ IsAlias t → (IsPlainIn c t → FoundsVariables c (with_slot c s))
      → IsMade declared z s.universe c (with_slot c s) v true t (variable_tree s.kind (length c.slots)) []
  fresh_quietly v t sort knows fits sorted varies founded =
      let d = with_slot c s in
      record {
        later = grown_slot c s free;
        continues = Continues-with_slot c s free sound;
        trees = λ a k. resolved-with_slot c s sound free a;
        clean = fresh_clean s.universe;
        made = λ f g k. fresh_made d f t (Continues-refl d (IsSound-with_slot c s sound free)) k sorted (inr varies);
        stands = λ f g k ks a loud. cc;
        goals = tt;
        back = λ w h. Solves-from_with_slot c s free w h;
        complete = λ j w h judged settled x x' names formed y.
            (let J = judging_of declared j in
            let e = chosen_for J j.lawful w v t x h settled sort knows fits x' names formed y in
            record { extension = e.extension; is = e.is; goals = tt });
        plain = λ h. (record { keeps = fresh_keeps; founds = founded h }, fresh_plain);
        passes = λ P q h k. (fresh_table P q h, fresh_tree P q, tt);
      }

  -- for a region: the variable owes a constraint, which is recorded
  region_loudly : (v : Variance) (t : Tree) → s.kind ≡ kind.Region → Knows c t → IsRegion t
      → IsMade declared z s.universe c (with_constraint (with_slot c s) (owed_by z v (variable_tree s.kind (length c.slots)) t)) v false t (variable_tree s.kind (length c.slots)) []
  region_loudly v t e knows region =
      let r = variable_tree s.kind (length c.slots) in
      let x = owed_by z v r t in
      let d = with_slot c s in
      let sound' = IsSound-with_slot c s sound free in
      let name : IsRegion r = region_variable s.kind (length c.slots) e in
      let seen = side_seen z v r t (tt, tt) (region_closed 0 t region) in
      let seen_later = KeepsKnowing-with_constraint d x seen in
      record {
        later = grown_trans (grown_slot c s free) (grown_later seen_later.later);
        continues = Continues-trans c d (with_constraint d x) sound (Continues-with_slot c s free sound) (Continues-with_constraint d x sound');
        trees = λ a k. resolved-same d (with_constraint d x) a (SameStates-with_constraint d x) ∙ resolved-with_slot c s sound free a;
        clean = subst (NamesAll region_level s.universe) (sym (resolved-same d (with_constraint d x) r (SameStates-with_constraint d x))) (fresh_clean s.universe);
        made = λ f g k. fresh_made (with_constraint d x) f t (Continues-with_constraint d x sound') k (region_kind t region ∙ sorted s.kind e) (inl e);
        stands = λ f g k ks a loud. side_related z declared f ks v r t g name region (k.constraints x (Contains-push d.constraints x));
        goals = tt;
        back = λ w h. (let y = Solves-from_with_constraint d x w h in Solves-from_with_slot c s free w y.0);
        complete = λ j w h judged settled a a' names formed y.
            (let J = judging_of declared j in
            let right : IsRegion (inst w t) = Fits-inst c w kind.Region t h.fitting knows region in
            let m = chosen_region J j.lawful w v t a h settled e right a' names formed y in
            let g = m.extension in
            let old : inst g.world t ≡ inst w t = inst-agrees c w g.world t g.agrees knows in
            let left : IsRegion a = region_beside J j.lawful v a (inst w t) right a' y in
            let there : Settles J v (inst g.world r) (inst g.world t) = subst (λ b. Settles J v b (inst g.world t)) (sym m.is) (subst (Settles J v a) (sym old) y) in
            let met = side_settled z J j.lawful g.world (judged_agrees J j.lawful (length c.slots) w g.world g.agrees judged.judged) v r t (subst IsRegion (sym m.is) left) (subst IsRegion (sym old) right) there in
            record {
              extension = record { world = g.world; agrees = g.agrees; solves = Solves-with_constraint d x g.world g.solves met; settled = record { each = g.settled.each }; names = λ f k n. (let b = g.names f k n in record { each = b.each }) };
              is = m.is;
              goals = tt;
            });
        plain = λ h.
            (let same : (a : Tree) → resolved (with_constraint d x) a ≡ resolved d a = λ a. resolved-same d (with_constraint d x) a (SameStates-with_constraint d x) in
            let recorded : StaysPlain d (with_constraint d x) = record { keeps = keeps_same d (with_constraint d x) (λ a k. same a); founds = founds_tied d (with_constraint d x) (λ n j i. i) (TiesNew-same d (with_constraint d x) refl) } in
            (stays_then c d (with_constraint d x) (grown_slot c s free) (grown_later seen_later.later) (Continues-with_constraint d x sound') (record { keeps = fresh_keeps; founds = founds_region c s e }) recorded, ap (any_label is_alias) (same r) ∙ fresh_plain));
        passes = λ P q h k. (
          (let sides = owed_by_passes P z v r t (fresh_tree P q) k in let b = brings-with_constraint d x in b.labels P (q.variables) (fresh_table P q h) sides.0 sides.1),
          fresh_tree P q,
          tt,
        );
      }
    where
      region_variable : (k : VariableKind) (n : ℕ) → k ≡ kind.Region → IsRegion (variable_tree k n)
      region_variable k n q = (let value = IsValue-variable k n in subst (λ i. Fits i (variable_tree k n)) q value.fits)

      sorted : (k : VariableKind) → k ≡ kind.Region → Some (of_sort sort.Region) ≡ Some (of_sort (sort_of_variable k))
      sorted k q = ap (λ i. Some (of_sort (sort_of_variable i))) (sym q)

  region_quietly : (v : Variance) (t : Tree) → s.kind ≡ kind.Region → Knows c t → IsRegion t
      → IsMade declared z s.universe c (with_slot c s) v true t (variable_tree s.kind (length c.slots)) []
  region_quietly v t e knows region =
      let d = with_slot c s in
      record {
        later = grown_slot c s free;
        continues = Continues-with_slot c s free sound;
        trees = λ a k. resolved-with_slot c s sound free a;
        clean = fresh_clean s.universe;
        made = λ f g k. fresh_made d f t (Continues-refl d (IsSound-with_slot c s sound free)) k (region_kind t region ∙ ap (λ i. Some (of_sort (sort_of_variable i))) (sym e)) (inl e);
        stands = λ f g k ks a loud. cc;
        goals = tt;
        back = λ w h. Solves-from_with_slot c s free w h;
        complete = λ j w h judged settled x x' names formed y.
            (let J = judging_of declared j in
            let right : IsRegion (inst w t) = Fits-inst c w kind.Region t h.fitting knows region in
            let m = chosen_region J j.lawful w v t x h settled e right x' names formed y in
            record { extension = m.extension; is = m.is; goals = tt });
        plain = λ h. (record { keeps = fresh_keeps; founds = founds_region c s e }, fresh_plain);
        passes = λ P q h k. (fresh_table P q h, fresh_tree P q, tt);
      }

  module _ (u : ℕ) (of_u : s.universe ≡ u) where
    -- a fresh variable for a type variable or a closed alias
    pub made_fresh : (v : Variance) (q : Bool) (t : Tree) → (s.kind ≡ kind.Ty) ⊎ (s.kind ≡ kind.Const) → Knows c t → IsFormed t → IsClosed t → kind_of t ≡ Some (of_sort (sort_of_variable s.kind)) → IsInfer t ⊎ IsAlias t → (IsPlainIn c t → FoundsVariables c (with_slot c s))
        → IsMade declared z u c (with_slot c s) v q t (variable_tree s.kind (length c.slots)) (owed_goals q z v (variable_tree s.kind (length c.slots)) t)
    made_fresh v false t sort knows formed closed sorted varies founded =
        subst (λ i. IsMade declared z i c (with_slot c s) v false t (variable_tree s.kind (length c.slots)) (sides z v (variable_tree s.kind (length c.slots)) t ∷ [])) of_u
        (fresh_loudly v t sort knows (value_of_kind s.kind sort t sorted closed formed) sorted varies founded)
    made_fresh v true t sort knows formed closed sorted varies founded =
        subst (λ i. IsMade declared z i c (with_slot c s) v true t (variable_tree s.kind (length c.slots)) []) of_u
        (fresh_quietly v t sort knows (value_of_kind s.kind sort t sorted closed formed) sorted varies founded)

    -- a fresh region variable for a free region: what it owes is recorded
    pub made_region : (v : Variance) (t : Tree) → s.kind ≡ kind.Region → Knows c t → IsRegion t
        → IsMade declared z u c (with_constraint (with_slot c s) (owed_by z v (variable_tree s.kind (length c.slots)) t)) v false t (variable_tree s.kind (length c.slots)) []
    made_region v t e knows region =
        subst (λ i. IsMade declared z i c (with_constraint (with_slot c s) (owed_by z v (variable_tree s.kind (length c.slots)) t)) v false t (variable_tree s.kind (length c.slots)) []) of_u
        (region_loudly v t e knows region)

    -- .. and nothing where a goal around says it
    pub made_region_quietly : (v : Variance) (t : Tree) → s.kind ≡ kind.Region → Knows c t → IsRegion t
        → IsMade declared z u c (with_slot c s) v true t (variable_tree s.kind (length c.slots)) []
    made_region_quietly v t e knows region =
        subst (λ i. IsMade declared z i c (with_slot c s) v true t (variable_tree s.kind (length c.slots)) []) of_u (region_quietly v t e knows region)
