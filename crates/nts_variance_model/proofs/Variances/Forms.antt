-- Nodes over rows of parts: instances, resolved trees, and what two related nodes say of their parts.
use Rattle.std.proofs.Common.{◌≡◌, ℕ, ◌+◌, Bool, false, Option, Some, None, List, [], ◌∷◌, refl, sym, ap, ◌∙◌, arith, subst}
use Rattle.nts_model.specs.declared.labels.Sort.{Sort}
use Rattle.nts_model.specs.declared.labels.Variance.{Variance}
use Rattle.nts_model.specs.declared.labels.Variance.TheVariants as variance
use Rattle.nts_model.specs.declared.labels.VariableKind.{VariableKind}
use Rattle.nts_model.specs.declared.labels.Leaf.TheVariants as leaf
use Rattle.nts_model.specs.declared.labels.AliasHead.{AliasHead}
use Rattle.nts_model.specs.declared.labels.AliasHead.TheVariants as alias_of
use Rattle.nts_model.specs.declared.labels.TyHead.TheVariants as ty
use Rattle.nts_model.specs.declared.labels.ConstHead.TheVariants as konst
use Rattle.nts_model.specs.declared.labels.ListHead.TheVariants as list
use Rattle.nts_model.specs.declared.labels.Label.{Label}
use Rattle.nts_model.specs.declared.labels.Label.TheVariants as label
use Rattle.nts_model.specs.Terms.Trees.{Tree, empty, more, node, kind_of, NodeKind, one_sort, kind_of_label, any_label, is_alias, is_infer, is_region_infer, binders, IsRow, row_length, is, HavePlaces, AllFit, IsClosedUnder, IsClosed, IsFormed, variable_of}
use Rattle.nts_model.specs.Terms.Scoping.{KeepsListed}
use Rattle.nts_model.specs.Tables.Contents.{Content}
use Rattle.nts_model.specs.Tables.Resolving.{number_of, rooted_variable, deeply_resolved, Knows, KnowsVariable, IsSound}
use Rattle.nts_model.specs.Tables.Worlds.{World, placed, inst, IsFitting, Solves}
use Rattle.nts_model.specs.Derivations.Related.{Constraint, times, first_variance, function, function_variances, alias, arguments, Related, AreRelatedByArgument, constructors, functions, values, open_aliases, no_more, and_more}
use Rattle.nts_variance_model.specs.Variances.Judging.{Judging, IsSettled, Settles, AllSettle, IsLawfulJudging}
use Rattle.nts_variance_model.specs.Variances.Forms.{Form, a_constructor, a_function, a_value, an_alias, over, variances_over, FitsForm}
use Rattle.nts_model.proofs.Terms.Variables.{infer_of_none}
use Rattle.nts_model.proofs.Tables.Resolved.{deeply_resolved-node, deeply_resolved-empty}
use Rattle.nts_model.proofs.Tables.Kept.{variable_label, kind_of-deeply_resolved, deeply_resolved-no_variables}
use Rattle.nts_model.proofs.Tables.Fitting.{Fits-kind_of}
use Rattle.nts_model.proofs.Tables.Alike.{IsRow-deeply_resolved, row_length-deeply_resolved}
use Rattle.nts_model.proofs.Tables.Refuting.{closed-node}
use Rattle.nts_variance_model.proofs.Variances.Alongside.{rows_length, rows_row, times_invariant}
use Rattle.nts_variance_model.proofs.Variances.SettleRows.{plain_settled, settle_row, settle_no_row, row_forward, row_backward, constructors_settle, functions_settle, values_settle, open_settle, constructor_beside, function_beside, value_beside, open_beside}
use Rattle.nts_model.proofs.Tables.TableInstances.{deeply_resolved-more}

-- the sorts that a function binds: no variables and no aliases are among them
abbrev AreSorts : Tree → Type 0
AreSorts empty = Unit {0}
AreSorts (more a b) = ((s : Sort) × (a ≡ node (label.List (list.Sort s)) empty)) × AreSorts b
AreSorts (node l c) = ⊥

pub no_places : (t : Tree) → HavePlaces [] t → t ≡ empty
no_places empty h = refl
no_places (more a b) h = absurd h
no_places (node l c) h = absurd h

pub sort_label : (l : Label) → kind_of_label l ≡ one_sort → (s : Sort) × (l ≡ label.List (list.Sort s))
sort_label (label.List (list.Sort s)) e = (s, refl)
sort_label l e = cc

sort_tree : (a : Tree) → kind_of a ≡ Some one_sort → IsFormed a → (s : Sort) × (a ≡ node (label.List (list.Sort s)) empty)
sort_tree empty e f = cc
sort_tree (more a b) e f = cc
sort_tree (node l c) e f =
    let x = sort_label l cc in
    let same = x.1 in
    let g : IsFormed (node (label.List (list.Sort x.0)) c) = subst (λ m. IsFormed (node m c)) same f in
    let alone : c ≡ empty = no_places c g.0 in
    (x.0, cc)

are_sorts : (ss : Tree) → AllFit (is one_sort) ss → IsFormed ss → AreSorts ss
are_sorts empty h f = tt
are_sorts (more a b) h f = (sort_tree a h.0 f.0, are_sorts b h.1 f.1)
are_sorts (node l c) h f = absurd h

sorts_any : (p : Label → Bool) → ((s : Sort) → p (label.List (list.Sort s)) ≡ false) → (ss : Tree) → AreSorts ss → any_label p ss ≡ false
sorts_any p f empty h = refl
sorts_any p f (more a b) h =
    let e = h.0.1 in
    let q = f h.0.0 in
    rw (e, q) (sorts_any p f b h.1)
sorts_any p f (node l c) h = absurd h

sorts_same : (w : World) (ss : Tree) → AreSorts ss → inst w ss ≡ ss
sorts_same w empty h = refl
sorts_same w (more a b) h =
    let e = h.0.1 in
    rw e (ap (more (node (label.List (list.Sort h.0.0)) empty)) (sorts_same w b h.1))
sorts_same w (node l c) h = absurd h

pub sorts_inst : (w : World) (ss : Tree) → IsFormed (node (label.List list.Sorts) ss) → inst w ss ≡ ss
sorts_inst w ss f = sorts_same w ss (are_sorts ss f.0 f.1)

pub sorts_resolved : (f : Content) (ss : Tree) → IsFormed (node (label.List list.Sorts) ss) → deeply_resolved f ss ≡ ss
sorts_resolved f ss h =
    let s = are_sorts ss h.0 h.1 in
    deeply_resolved-no_variables f ss (sorts_any is_infer (λ x. refl) ss s) (sorts_any is_region_infer (λ x. refl) ss s)

pub sorts_settled : (J : Judging) (law : IsLawfulJudging J) (ss : Tree) → IsFormed (node (label.List list.Sorts) ss) → IsSettled J ss
sorts_settled J law ss h = plain_settled J law ss (sorts_any is_alias (λ x. refl) ss (are_sorts ss h.0 h.1))

-- rows and their lengths
pub IsRow-inst : (w : World) (t : Tree) → IsRow t → IsRow (inst w t)
IsRow-inst w empty r = tt
IsRow-inst w (more a b) r = IsRow-inst w b r
IsRow-inst w (node l c) r = absurd r

pub row_length-inst : (w : World) (t : Tree) → IsRow t → row_length (inst w t) ≡ row_length t
row_length-inst w empty r = refl
row_length-inst w (more a b) r = ap (λ n. n + 1) (row_length-inst w b r)
row_length-inst w (node l c) r = absurd r

no_length : (t : Tree) (k : NodeKind) → kind_of t ≡ Some k → row_length t ≡ 0
no_length empty k e = refl
no_length (more a b) k e = cc
no_length (node l c) k e = refl

placed_length : (c : Content) (w : World) (l : Label) (x : Tree) (o : Option (VariableKind × ℕ)) → IsFitting c w → KnowsVariable c o → row_length (placed w (number_of o) l x) ≡ 0
placed_length c w l x None f k = refl
placed_length c w l x (Some v) f k = no_length (w.tree v.1) _ (Fits-kind_of v.0 (w.tree v.1) (f.each v.1 v.0 k).fits)

length_inst : (c : Content) (w : World) (t : Tree) → IsFitting c w → Knows c t → row_length (inst w t) ≡ row_length t
length_inst c w empty f k = refl
length_inst c w (more a b) f k = ap (λ n. n + 1) (length_inst c w b f k.1)
length_inst c w (node l x) f k = placed_length c w l (inst w x) (variable_of l) f k.0.0

length_resolved : (f : Content) (t : Tree) → IsSound f → Knows f t → row_length (deeply_resolved f t) ≡ row_length t
length_resolved f empty s k = ap row_length (deeply_resolved-empty f)
length_resolved f (more a b) s k = ap row_length (deeply_resolved-more f a b) ∙ ap (λ n. n + 1) (length_resolved f b s k.1)
length_resolved f (node l c) s k = no_length (deeply_resolved f (node l c)) (kind_of_label l) (kind_of-deeply_resolved f (node l c) s k)

-- bound variables that escape escape from instances and from resolved trees, since a variable has no children
variable_closed : (l : Label) (v : VariableKind × ℕ) (t : Tree) (b : ℕ) → variable_of l ≡ Some v → IsFormed (node l t) → IsClosedUnder b (node l t)
variable_closed l v t b e f =
    let same = variable_label l v.0 v.1 e in
    let g : IsFormed (node (label.Leaf (leaf.Variable v.0 v.1)) t) = subst (λ m. IsFormed (node m t)) same f in
    let alone : t ≡ empty = no_places t g.0 in
    rw (same, alone) (tt, tt)

closed_node_before : (w : World) (b : ℕ) (l : Label) (t : Tree) (o : Option (VariableKind × ℕ)) → variable_of l ≡ o → IsFormed (node l t) → (IsClosedUnder (b + binders l) (inst w t) → IsClosedUnder (b + binders l) t) → IsClosedUnder b (inst w (node l t)) → IsClosedUnder b (node l t)
closed_node_before w b l t None e f rec h = let x = closed-node w b l t e h in (x.0, rec x.1)
closed_node_before w b l t (Some v) e f rec h = variable_closed l v t b e f

pub closed_before_inst : (w : World) (b : ℕ) (t : Tree) → IsFormed t → IsClosedUnder b (inst w t) → IsClosedUnder b t
closed_before_inst w b empty f h = tt
closed_before_inst w b (more x y) f h = (closed_before_inst w b x f.0 h.0, closed_before_inst w b y f.1 h.1)
closed_before_inst w b (node l t) f h = closed_node_before w b l t (variable_of l) refl f (closed_before_inst w (b + binders l) t f.1) h

closed_node_resolved : (c : Content) (b : ℕ) (l : Label) (t : Tree) (o : Option (VariableKind × ℕ)) → variable_of l ≡ o → IsFormed (node l t) → (IsClosedUnder (b + binders l) (deeply_resolved c t) → IsClosedUnder (b + binders l) t) → IsClosedUnder b (deeply_resolved c (node l t)) → IsClosedUnder b (node l t)
closed_node_resolved c b l t None e f rec h =
    let at : deeply_resolved c (node l t) ≡ node l (deeply_resolved c t) = deeply_resolved-node c l t (infer_of_none l e) ∙ ap (λ o. node (rooted_variable c o l) (deeply_resolved c t)) e in
    let k : IsClosedUnder b (node l (deeply_resolved c t)) = subst (IsClosedUnder b) at h in
    (k.0, rec k.1)
closed_node_resolved c b l t (Some v) e f rec h = variable_closed l v t b e f

pub closed_before_resolved : (c : Content) (b : ℕ) (t : Tree) → IsFormed t → IsClosedUnder b (deeply_resolved c t) → IsClosedUnder b t
closed_before_resolved c b empty f h = tt
closed_before_resolved c b (more x y) f h =
    let k : IsClosedUnder b (more (deeply_resolved c x) (deeply_resolved c y)) = subst (IsClosedUnder b) (deeply_resolved-more c x y) h in
    (closed_before_resolved c b x f.0 k.0, closed_before_resolved c b y f.1 k.1)
closed_before_resolved c b (node l t) f h = closed_node_resolved c b l t (variable_of l) refl f (closed_before_resolved c (b + binders l) t f.1) h

pub head_closed : (h : AliasHead) (ts us : Tree) → ((c : ℕ) → IsClosedUnder c ts → IsClosedUnder c us) → IsClosed (alias h ts) → IsClosed (alias h us)
head_closed (alias_of.Ty i) ts us f k = (tt, ((tt, f (0 + 0 + 0) k.1.0.1), tt))
head_closed (alias_of.Const i) ts us f k = (tt, ((tt, f (0 + 0 + 0) k.1.0.1), tt))

-- the instance of a node is over the instances of its parts
pub inst-over : (w : World) (F : Form) (ts : Tree) → FitsForm F ts → inst w (over F ts) ≡ over F (inst w ts)
inst-over w (a_constructor i) ts f = refl
inst-over w (a_function ss) ts f = ap (λ s. function s (inst w ts)) (sorts_inst w ss f)
inst-over w (a_value b) ts f = refl
inst-over w (an_alias (alias_of.Ty i)) ts f = refl
inst-over w (an_alias (alias_of.Const i)) ts f = refl

pub FitsForm-inst : (c : Content) (w : World) (F : Form) (ts : Tree) → Solves c w → Knows c ts → IsFormed ts → FitsForm F ts → FitsForm F (inst w ts)
FitsForm-inst c w (a_constructor i) ts s k g f = tt
FitsForm-inst c w (a_function ss) ts s k g f = f
FitsForm-inst c w (a_value b) ts s k g f = length_inst c w ts s.fitting k ∙ f
FitsForm-inst c w (an_alias h) ts s k g f = λ x. f (head_closed h (inst w ts) ts (λ b. closed_before_inst w b ts g) x)

-- the resolved tree of a node is over its resolved parts
pub deeply_resolved-over : (f : Content) (F : Form) (ts : Tree) → FitsForm F ts → deeply_resolved f (over F ts) ≡ over F (deeply_resolved f ts)
deeply_resolved-over f F ts h = over_resolved F h
  where
    arguments_resolved : deeply_resolved f (arguments ts) ≡ arguments (deeply_resolved f ts)
    arguments_resolved =
        let b = deeply_resolved-more f (node (label.List list.Args) ts) empty in
        let c = deeply_resolved-node f (label.List list.Args) ts refl in
        let d = deeply_resolved-empty f in
        cc (b, c, d)

    over_resolved : (F : Form) → FitsForm F ts → deeply_resolved f (over F ts) ≡ over F (deeply_resolved f ts)
    over_resolved (a_constructor i) h = deeply_resolved-node f (label.Ty (ty.Ctor i)) (arguments ts) refl ∙ ap (node (label.Ty (ty.Ctor i))) arguments_resolved
    over_resolved (a_function ss) h =
        let a = deeply_resolved-node f (label.Ty ty.FnPtr) (more (node (label.List list.Sorts) ss) (arguments ts)) refl in
        let b = deeply_resolved-more f (node (label.List list.Sorts) ss) (arguments ts) in
        let c = deeply_resolved-node f (label.List list.Sorts) ss refl in
        let d = sorts_resolved f ss h in
        let e = arguments_resolved in
        cc (a, b, c, d, e)
    over_resolved (a_value b) h = deeply_resolved-node f (label.Const (konst.Value b)) ts refl
    over_resolved (an_alias (alias_of.Ty i)) h = deeply_resolved-node f (label.Ty (ty.Alias i)) (arguments ts) refl ∙ ap (node (label.Ty (ty.Alias i))) arguments_resolved
    over_resolved (an_alias (alias_of.Const i)) h = deeply_resolved-node f (label.Const (konst.Unevaluated i)) (arguments ts) refl ∙ ap (node (label.Const (konst.Unevaluated i))) arguments_resolved

pub FitsForm-deeply_resolved : (f : Content) (F : Form) (ts : Tree) → IsSound f → Knows f ts → IsFormed ts → FitsForm F ts → FitsForm F (deeply_resolved f ts)
FitsForm-deeply_resolved f (a_constructor i) ts s k g h = tt
FitsForm-deeply_resolved f (a_function ss) ts s k g h = h
FitsForm-deeply_resolved f (a_value b) ts s k g h = length_resolved f ts s k ∙ h
FitsForm-deeply_resolved f (an_alias a) ts s k g h = λ x. h (head_closed a (deeply_resolved f ts) ts (λ b. closed_before_resolved f b ts g) x)

-- rows of one length vary alike
function_variances_length : (ts us : Tree) → IsRow ts → IsRow us → row_length ts ≡ row_length us → function_variances ts ≡ function_variances us
function_variances_length empty empty p q e = refl
function_variances_length empty (more a b) p q e = absurd (omega (arith, e))
function_variances_length (more a b) empty p q e = absurd (omega (arith, e))
function_variances_length (more a empty) (more b empty) p q e = refl
function_variances_length (more a empty) (more b (more c d)) p q e = absurd (omega (arith, e))
function_variances_length (more a (more c d)) (more b empty) p q e = absurd (omega (arith, e))
function_variances_length (more a (more c d)) (more b (more x y)) p q e = (let same : row_length (more c d) ≡ row_length (more x y) = omega (arith, e) in ap (λ z. variance.Contravariant ∷ z) (function_variances_length (more c d) (more x y) p q same))
function_variances_length (node l c) us p q e = absurd p
function_variances_length empty (node l c) p q e = absurd q
function_variances_length (more a b) (node l c) p q e = absurd q
function_variances_length (more a (node l c)) us p q e = absurd p
function_variances_length (more a empty) (more b (node l c)) p q e = absurd q
function_variances_length (more a (more c d)) (more b (node l x)) p q e = absurd q

pub variances_over_length : (declared : ℕ → List Variance) (F : Form) (ts us : Tree) → IsRow ts → IsRow us → row_length ts ≡ row_length us → variances_over declared F ts ≡ variances_over declared F us
variances_over_length declared (a_constructor i) ts us p q e = refl
variances_over_length declared (a_function ss) ts us p q e = function_variances_length ts us p q e
variances_over_length declared (a_value b) ts us p q e = refl
variances_over_length declared (an_alias h) ts us p q e = refl

pub variances_over_inst : (declared : ℕ → List Variance) (w : World) (F : Form) (ts : Tree) → IsRow ts → variances_over declared F (inst w ts) ≡ variances_over declared F ts
variances_over_inst declared w F ts r = variances_over_length declared F (inst w ts) ts (IsRow-inst w ts r) r (row_length-inst w ts r)

pub variances_over_resolved : (declared : ℕ → List Variance) (f : Content) (F : Form) (ts : Tree) → IsRow ts → variances_over declared F (deeply_resolved f ts) ≡ variances_over declared F ts
variances_over_resolved declared f F ts r = variances_over_length declared F (deeply_resolved f ts) ts (IsRow-deeply_resolved f ts r) r (row_length-deeply_resolved f ts r)

-- the node over other parts that are known, and that list what these list
pub Knows-over : (c : Content) (F : Form) (ts rs : Tree) → Knows c (over F ts) → Knows c rs → KeepsListed ts rs → Knows c (over F rs)
Knows-over c (a_constructor i) ts rs k r l = ((tt, tt, refl), (((tt, tt, refl), r, tt), tt), tt)
Knows-over c (a_function ss) ts rs k r l = ((tt, tt, refl), (k.1.0, (((tt, tt, refl), r, tt), tt)), (k.2.0, ((tt, l ss 0 k.2.1.0.1), tt)))
Knows-over c (a_value b) ts rs k r l = ((tt, tt, refl), r, tt)
Knows-over c (an_alias (alias_of.Ty i)) ts rs k r l = ((tt, tt, refl), (((tt, tt, refl), r, tt), tt), tt)
Knows-over c (an_alias (alias_of.Const i)) ts rs k r l = ((tt, tt, refl), (((tt, tt, refl), r, tt), tt), tt)

pub KeepsListed-over : (F : Form) (ts rs : Tree) → KeepsListed ts rs → KeepsListed (over F ts) (over F rs)
KeepsListed-over (a_constructor i) ts rs l = λ ss d h. (tt, ((tt, l ss (d + 0 + 0) h.1.0.1), tt))
KeepsListed-over (a_function os) ts rs l = λ ss d h. (tt, (h.1.0, ((tt, l ss (d + 1 + 0) h.1.1.0.1), tt)))
KeepsListed-over (a_value b) ts rs l = λ ss d h. (tt, l ss (d + 0) h.1)
KeepsListed-over (an_alias (alias_of.Ty i)) ts rs l = λ ss d h. (tt, ((tt, l ss (d + 0 + 0) h.1.0.1), tt))
KeepsListed-over (an_alias (alias_of.Const i)) ts rs l = λ ss d h. (tt, ((tt, l ss (d + 0 + 0) h.1.0.1), tt))

-- related where the parts are
module _ (declared : ℕ → List Variance) {Same : Tree → Type 0} {Holds : Constraint → Type 0} {Proved : Tree → Type 0} where
  none_left : {v : Variance} {ws : List Variance} {ts us : Tree} → row_length ts ≡ 0 → AreRelatedByArgument declared Same Holds Proved v ws ts us → (ts ≡ empty) × (us ≡ empty)
  none_left e no_more = (refl, refl)
  none_left e (and_more r rs) = absurd (omega (arith, e))

  value_over : {v : Variance} {ws : List Variance} {ts us : Tree} (b : ℕ) → ws ≡ [] → row_length ts ≡ 1 → AreRelatedByArgument declared Same Holds Proved v ws ts us → Related declared Same Holds Proved v (over (a_value b) ts) (over (a_value b) us)
  value_over b q e no_more = absurd (omega (arith, e))
  value_over b q e (and_more {v = v} {ws = ws} {a = x} {b = y} {ts = ts} {us = us} r rs) =
      let rest : row_length ts ≡ 0 = omega (arith, e) in
      let alone = none_left rest rs in
      let invariant : times v (first_variance ws) ≡ variance.Invariant = ap (λ z. times v (first_variance z)) q ∙ times_invariant v in
      let one : Related declared Same Holds Proved variance.Invariant x y = subst (λ z. Related declared Same Holds Proved z x y) invariant r in
      rw (alone.0, alone.1) (values one)

  pub related_over : (v : Variance) (F : Form) (ts us : Tree) → FitsForm F ts → FitsForm F us → AreRelatedByArgument declared Same Holds Proved v (variances_over declared F ts) ts us → Related declared Same Holds Proved v (over F ts) (over F us)
  related_over v (a_constructor i) ts us f g r = constructors r
  related_over v (a_function ss) ts us f g r = functions r
  related_over v (a_value b) ts us f g r = value_over b refl f r
  related_over v (an_alias h) ts us f g r = open_aliases h f g r

module _ (J : Judging) (law : IsLawfulJudging J) where
  -- a settled tree that is related with a node over parts is over parts that are related with these
  pub record FormBeside (v : Variance) (F : Form) (us s : Tree) : Type 0 where
    pub parts : Tree
    pub is : s ≡ over F parts
    pub settle : AllSettle J v (variances_over J.declared F us) parts us

  one_part : (v : Variance) (t u : Tree) → Settles J variance.Invariant t u → AllSettle J v [] (more t empty) (more u empty)
  one_part v t u x = settle_row J law v [] t u empty empty (subst (λ z. Settles J z t u) (sym (times_invariant v)) x) (settle_no_row J law v [])

  value_form : (v : Variance) (b : ℕ) (us s : Tree) → IsRow us → row_length us ≡ 1 → IsSettled J s → Settles J v s (over (a_value b) us) → FormBeside v (a_value b) us s
  value_form v b empty s r e h x = absurd (omega (arith, e))
  value_form v b (node l c) s r e h x = absurd r
  value_form v b (more u empty) s r e h x =
      let k = value_beside J law v b u s h x in
      record { parts = more k.part empty; is = k.is; settle = one_part v k.part u k.settle }
  value_form v b (more u (more p q)) s r e h x = absurd (omega (arith, e))
  value_form v b (more u (node l c)) s r e h x = absurd r

  pub form_beside : (v : Variance) (F : Form) (us s : Tree) → IsRow us → FitsForm F us → IsSettled J s → Settles J v s (over F us) → FormBeside v F us s
  form_beside v (a_constructor i) us s r f h x = let k = constructor_beside J law v i us s r h x in record { parts = k.parts; is = k.is; settle = k.settle }
  form_beside v (a_function ss) us s r f h x = let k = function_beside J law v ss us s (sorts_settled J law ss f) r h x in record { parts = k.parts; is = k.is; settle = k.settle }
  form_beside v (a_value b) us s r f h x = value_form v b us s r f h x
  form_beside v (an_alias a) us s r f h x = let k = open_beside J law v a us s f r h x in record { parts = k.parts; is = k.is; settle = k.settle }

  -- two related nodes of one form have related parts
  values_parts : (v : Variance) (b : ℕ) (ts us : Tree) → IsRow ts → IsRow us → row_length ts ≡ 1 → row_length us ≡ 1 → Settles J v (over (a_value b) ts) (over (a_value b) us) → AllSettle J v [] ts us
  values_parts v b (more t empty) (more u empty) p q e f x = one_part v t u (values_settle J law v b t u x)
  values_parts v b empty us p q e f x = absurd (omega (arith, e))
  values_parts v b (node l c) us p q e f x = absurd p
  values_parts v b (more t (more a c)) us p q e f x = absurd (omega (arith, e))
  values_parts v b (more t (node l c)) us p q e f x = absurd p
  values_parts v b (more t empty) empty p q e f x = absurd (omega (arith, f))
  values_parts v b (more t empty) (node l c) p q e f x = absurd q
  values_parts v b (more t empty) (more u (more a c)) p q e f x = absurd (omega (arith, f))
  values_parts v b (more t empty) (more u (node l c)) p q e f x = absurd q

  pub forms_settle : (v : Variance) (F : Form) (ts us : Tree) → IsRow ts → IsRow us → FitsForm F ts → FitsForm F us → Settles J v (over F ts) (over F us) → AllSettle J v (variances_over J.declared F us) ts us
  forms_settle v (a_constructor i) ts us p q f g x = constructors_settle J law v i ts us q x
  forms_settle v (a_function ss) ts us p q f g x = functions_settle J law v ss ts us (sorts_settled J law ss f) p q x
  forms_settle v (a_value b) ts us p q f g x = values_parts v b ts us p q f g x
  forms_settle v (an_alias a) ts us p q f g x = open_settle J law v a ts us f g q x

  -- related rows are rows of one length
  pub settling_row : (v : Variance) (ws : List Variance) (ts us : Tree) → AllSettle J v ws ts us → IsRow ts
  settling_row v ws ts us x = let q = rows_row J law x.along in row_backward J law ts x.left q.0 x.of_left

  pub settling_rows : (v : Variance) (ws : List Variance) (ts us : Tree) → IsRow us → AllSettle J v ws ts us → row_length ts ≡ row_length us
  settling_rows v ws ts us r x =
      let l = row_forward J law ts x.left (settling_row v ws ts us x) x.of_left in
      let k = row_forward J law us x.right r x.of_right in
      sym l.1 ∙ rows_length J law x.along ∙ k.1
