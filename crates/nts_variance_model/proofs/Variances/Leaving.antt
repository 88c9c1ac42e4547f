-- What relating pairs leaves in a table: steps, one after another, nodes over rows of parts, and refusals.
use Rattle.std.proofs.Common.{◌≡◌, ◌⊎◌, inl, inr, ⊎_elim, ℕ, Option, Some, None, List, [], ◌∷◌, ◌++◌, length, refl, sym, ap, ◌∙◌, arith, subst}
use Rattle.nts_model.specs.declared.labels.Variance.{Variance}
use Rattle.nts_model.specs.declared.labels.VariableKind.TheVariants as kind
use Rattle.nts_model.specs.declared.labels.FreeRegion.{FreeRegion}
use Rattle.nts_model.specs.declared.labels.Leaf.TheVariants as leaf
use Rattle.nts_model.specs.declared.labels.AliasHead.{AliasHead}
use Rattle.nts_model.specs.declared.labels.AliasHead.TheVariants as alias_of
use Rattle.nts_model.specs.declared.labels.TyHead.TheVariants as ty
use Rattle.nts_model.specs.declared.labels.ConstHead.TheVariants as konst
use Rattle.nts_model.specs.declared.labels.ListHead.TheVariants as list
use Rattle.nts_model.specs.declared.labels.Label.{Label}
use Rattle.nts_model.specs.declared.labels.Label.TheVariants as label
use Rattle.nts_model.specs.Terms.Trees.{Tree, empty, more, node, kind_of, kind_of_label, label_of, IsRow, row_length, Meets, shape, IsClosed, IsFormed, variable_of}
use Rattle.nts_model.specs.Tables.Contents.{Content, with_constraint}
use Rattle.nts_model.specs.Tables.Resolving.{deeply_resolved, Knows}
use Rattle.nts_model.specs.Terms.Regions.{RegionName, IsRegion, name_of_label}
use Rattle.nts_model.specs.Tables.Worlds.{World, renamed, inst, Solves}
use Rattle.nts_model.specs.Derivations.Related.{alias_label, arguments, IsAlias, one_tree, regions, constructors, functions, values, open_aliases, aliases, subtypes, no_more, and_more, rest_variances}
use Rattle.nts_variance_model.specs.Variances.Judging.{Judging, Normalizes, Along, Settles, AllSettle, IsLawfulJudging, opposite}
use Rattle.nts_variance_model.specs.Variances.Relations.{Relating, ArePairsKnown, ReducesBy, RefusesBy}
use Rattle.nts_variance_model.specs.Variances.AnsweredGoals.{AllRelatedUnder, RowsUnder, RelatesBy}
use Rattle.nts_variance_model.specs.Variances.Leaving.{LeavesBy}
use Rattle.nts_variance_model.specs.Variances.Forms.{Form, a_constructor, a_function, a_value, an_alias, over, variances_over, FitsForm, pairs_over}
use Rattle.nts_model.proofs.Tables.Slots.{KeepsKinds, Knows-kept}
use Rattle.nts_model.proofs.Tables.Instances.{inst-node, Agrees-refl, Agrees-trans}
use Rattle.nts_model.proofs.Tables.Resolved.{deeply_resolved-empty}
use Rattle.nts_model.proofs.Tables.Fitting.{region_label}
use Rattle.nts_model.proofs.Tables.Readings.{name_label}
use Rattle.nts_model.proofs.Tables.AliasLabels.{not_alias}
use Rattle.nts_variance_model.proofs.Variances.SettleRows.{node_forward, arguments_forward, constructor_forward, function_forward}
use Rattle.nts_variance_model.proofs.Variances.Generalizing.{judged_agrees, settle_agrees, settle_joined, settle_parted, owed}
use Rattle.nts_variance_model.proofs.Variances.Reducing.{row_goal, row_regions, settle_pairs, labels_agree}
use Rattle.nts_variance_model.proofs.Variances.Forms.{closed_before_inst, IsRow-inst, row_length-inst, inst-over, FitsForm-inst, deeply_resolved-over, FitsForm-deeply_resolved, variances_over_length, variances_over_inst, variances_over_resolved, sorts_settled, forms_settle, settling_rows, related_over}
use Rattle.nts_model.proofs.Tables.TableInstances.{deeply_resolved-more}

-- the form of a node over parts
form_of_list : Tree → Option Form
form_of_list (more (node (label.List list.Sorts) ss) r) = Some (a_function ss)
form_of_list c = None

form_of_label : Label → Tree → Option Form
form_of_label (label.Ty (ty.Ctor i)) c = Some (a_constructor i)
form_of_label (label.Ty ty.FnPtr) c = form_of_list c
form_of_label (label.Ty (ty.Alias i)) c = Some (an_alias (alias_of.Ty i))
form_of_label (label.Const (konst.Value b)) c = Some (a_value b)
form_of_label (label.Const (konst.Unevaluated i)) c = Some (an_alias (alias_of.Const i))
form_of_label l c = None

form_of : Tree → Option Form
form_of empty = None
form_of (more a b) = None
form_of (node l c) = form_of_label l c

form_of_over : (F : Form) (ts : Tree) → form_of (over F ts) ≡ Some F
unfolding form_of form_of_label form_of_list
form_of_over (a_constructor i) ts = refl
form_of_over (a_function ss) ts = refl
form_of_over (a_value b) ts = refl
form_of_over (an_alias (alias_of.Ty i)) ts = refl
form_of_over (an_alias (alias_of.Const i)) ts = refl

-- a region is over no parts
leaf_form : (l : Label) (x : RegionName) (c : Tree) → name_of_label l ≡ Some x → form_of_label l c ≡ None
unfolding form_of_label
leaf_form (label.Leaf x) n c e = refl
leaf_form (label.Bound s i d) n c e = refl
leaf_form (label.Ty h) n c e = cc
leaf_form (label.Const h) n c e = cc
leaf_form (label.Clause h) n c e = refl
leaf_form (label.Predicate h) n c e = refl
leaf_form (label.List h) n c e = refl

form_of_region : (t : Tree) → IsRegion t → form_of t ≡ None
unfolding form_of form_of_label
form_of_region empty r = refl
form_of_region (more a b) r = refl
form_of_region (node l c) r = leaf_form l r.0 c (region_label l c r.0 r.1).0

-- labels and free regions
free_or_rigid : (w : World) (l : Label) → ((r : FreeRegion) × (l ≡ label.Leaf (leaf.Region r))) ⊎ ((renamed w l ≡ l) × ((r : FreeRegion) → l ≡ label.Leaf (leaf.Region r) → ⊥))
free_or_rigid w (label.Leaf (leaf.Region r)) = inl (r, refl)
free_or_rigid w (label.Leaf (leaf.Variable k n)) = inr (refl, λ r e. cc)
free_or_rigid w (label.Leaf (leaf.TyConstant a)) = inr (refl, λ r e. cc)
free_or_rigid w (label.Leaf (leaf.ConstConstant a)) = inr (refl, λ r e. cc)
free_or_rigid w (label.Bound a b d) = inr (refl, λ r e. cc)
free_or_rigid w (label.Ty h) = inr (refl, λ r e. cc)
free_or_rigid w (label.Const h) = inr (refl, λ r e. cc)
free_or_rigid w (label.Clause h) = inr (refl, λ r e. cc)
free_or_rigid w (label.Predicate h) = inr (refl, λ r e. cc)
free_or_rigid w (label.List h) = inr (refl, λ r e. cc)

abbrev AreFree : Label → Label → Type 0
AreFree l m = (r : FreeRegion) × (s : FreeRegion) × (l ≡ label.Leaf (leaf.Region r)) × (m ≡ label.Leaf (leaf.Region s))

-- two labels that are one in a world are one, or two free regions
renamed_apart : (w : World) (l m : Label) → renamed w l ≡ renamed w m → (l ≡ m) ⊎ AreFree l m
renamed_apart w l m e = ⊎_elim
    (λ a. ⊎_elim
    (λ b. inr (a.0, b.0, a.1, b.1))
    (λ b. (let p = a.1 in let here : renamed w l ≡ label.Leaf (leaf.Region (w.region a.0)) = ap (renamed w) p in absurd (b.1 (w.region a.0) (sym b.0 ∙ sym e ∙ here)))) (free_or_rigid w m))
    (λ a. ⊎_elim
    (λ b. (let p = b.1 in let here : renamed w m ≡ label.Leaf (leaf.Region (w.region b.0)) = ap (renamed w) p in absurd (a.1 (w.region b.0) (sym a.0 ∙ e ∙ here))))
    (λ b. inl (sym a.0 ∙ e ∙ b.0)) (free_or_rigid w m)) (free_or_rigid w l)

-- the label of a region that is no variable
free_label : (w : World) (l : Label) (c : Tree) → variable_of l ≡ None → IsRegion (node (renamed w l) c) → (r : FreeRegion) × (l ≡ label.Leaf (leaf.Region r))
free_label w l c none i = ⊎_elim
    (λ a. a)
    (λ b. (let named : name_of_label l ≡ Some i.0 = ap name_of_label (sym b.0) ∙ (region_label (renamed w l) c i.0 i.1).0 in
    ⊎_elim
    (λ v. (let clash : None ≡ Some (kind.Region, v.0) = sym none ∙ v.1 in cc))
    (λ f. absurd (b.1 f.0 f.1)) (name_label l i.0 named))) (free_or_rigid w l)

-- an alias whose instance is one without escaping bound variables is one itself
arguments_label : (l : Label) → kind_of_label l ≡ kind_of_label (label.List list.Args) → l ≡ label.List list.Args
arguments_label (label.List list.Args) e = refl
arguments_label l e = cc

arguments_tree : (a : Tree) → kind_of a ≡ Some (kind_of_label (label.List list.Args)) → (p : Tree) × (a ≡ node (label.List list.Args) p)
arguments_tree empty e = cc
arguments_tree (more a b) e = cc
arguments_tree (node l c) e = (c, ap (λ m. node m c) (arguments_label l cc))

alias_row : (h : AliasHead) (x : Tree) → Meets (shape (alias_label h)) x → (p : Tree) × (x ≡ arguments p)
alias_row (alias_of.Ty i) (more a empty) h = let t = arguments_tree a h.0 in (t.0, ap (λ z. more z empty) t.1)
alias_row (alias_of.Ty i) empty h = absurd h
alias_row (alias_of.Ty i) (node l c) h = absurd h
alias_row (alias_of.Ty i) (more a (more b c)) h = absurd h.1
alias_row (alias_of.Ty i) (more a (node l c)) h = absurd h.1
alias_row (alias_of.Const i) (more a empty) h = let t = arguments_tree a h.0 in (t.0, ap (λ z. more z empty) t.1)
alias_row (alias_of.Const i) empty h = absurd h
alias_row (alias_of.Const i) (node l c) h = absurd h
alias_row (alias_of.Const i) (more a (more b c)) h = absurd h.1
alias_row (alias_of.Const i) (more a (node l c)) h = absurd h.1

alias_no_leaf : (h : AliasHead) (r : FreeRegion) → alias_label h ≡ label.Leaf (leaf.Region r) → ⊥
alias_no_leaf (alias_of.Ty i) r e = cc
alias_no_leaf (alias_of.Const i) r e = cc

alias_before_inst : (w : World) (l : Label) (x : Tree) → variable_of l ≡ None → IsFormed (node l x) → IsAlias (node (renamed w l) (inst w x)) → IsAlias (node l x)
alias_before_inst w l x none formed a =
    let e = a.is in
    let head : renamed w l ≡ alias_label a.head = cc in
    let same : l ≡ alias_label a.head = ⊎_elim
    (λ f. (let p = f.1 in let here : renamed w l ≡ label.Leaf (leaf.Region (w.region f.0)) = ap (renamed w) p in absurd (alias_no_leaf a.head (w.region f.0) (sym head ∙ here))))
    (λ b. sym b.0 ∙ head) (free_or_rigid w l) in
    let row = alias_row a.head x (subst (λ m. Meets (shape m) x) same formed.0) in
    record {
      head = a.head;
      parts = row.0;
      is = (let q = row.1 in cc (q, same));
      closed = closed_before_inst w 0 (node l x) formed (subst IsClosed (sym (inst-node w l x none)) a.closed);
    }

module _ (J : Judging) (law : IsLawfulJudging J) where
  -- what reducing says of a table's solutions
  leaves_of : (c d : Content) (ps qs gs : List Relating) → ReducesBy J c d ps qs gs → LeavesBy J c d ps qs gs
  leaves_of c d ps qs gs a = record { more = a.more; back = a.back; complete = a.complete }

  -- a pair left as a goal, and a pair turned
  pub leaves_goal : (c : Content) (p : Relating) → LeavesBy J c c (p ∷ []) [] (p ∷ [])
  leaves_goal c p = leaves_of c c (p ∷ []) [] (p ∷ []) (row_goal J law c p)

  -- two free regions owe a constraint
  pub leaves_regions : (c : Content) (v : Variance) (a b : Tree) → ((w : World) → Solves c w → IsRegion (inst w a)) → ((w : World) → Solves c w → IsRegion (inst w b))
      → LeavesBy J c (with_constraint c (owed v a b)) (record { variance = v; left = a; right = b } ∷ []) [] []
  leaves_regions c v a b ra rb = leaves_of c (with_constraint c (owed v a b)) (record { variance = v; left = a; right = b } ∷ []) [] [] (row_regions J law c v a b ra rb)

  -- what two nodes of one form say of their parts in a solution
  parts_settle : (c : Content) (w : World) (v : Variance) (F : Form) (ts us : Tree) → Solves c w → IsRow ts → IsRow us → FitsForm F ts → FitsForm F us → Knows c ts → Knows c us → IsFormed ts → IsFormed us
      → Settles J v (inst w (over F ts)) (inst w (over F us)) → AllSettle J v (variances_over J.declared F us) (inst w ts) (inst w us)
  parts_settle c w v F ts us s r q f g k l m n h =
      let one : Settles J v (over F (inst w ts)) (over F (inst w us)) = subst (λ z. Settles J v z (over F (inst w us))) (inst-over w F ts f) (subst (Settles J v (inst w (over F ts))) (inst-over w F us g) h) in
      let rows = forms_settle J law v F (inst w ts) (inst w us) (IsRow-inst w ts r) (IsRow-inst w us q) (FitsForm-inst c w F ts s k m f) (FitsForm-inst c w F us s l n g) one in
      subst (λ ws. AllSettle J v ws (inst w ts) (inst w us)) (variances_over_inst J.declared w F us q) rows

  -- two nodes of one form: their parts by their variances
  pub leaves_over : (c : Content) (v : Variance) (F : Form) (ts us : Tree) → IsRow ts → IsRow us → row_length ts ≡ row_length us → FitsForm F ts → FitsForm F us → Knows c ts → Knows c us → IsFormed ts → IsFormed us
      → LeavesBy J c c (record { variance = v; left = over F ts; right = over F us } ∷ []) (pairs_over v (variances_over J.declared F us) ts us) []
  leaves_over c v F ts us r q e f g k l m n =
      record {
        more = omega arith;
        back = λ w s. s;
        complete = λ w s j t h. (
          record { world = w; agrees = Agrees-refl (length c.slots) w; solves = s; settled = t; names = λ f q n. q },
          settle_pairs J law w v (variances_over J.declared F us) ts us r q e (parts_settle c w v F ts us s r q f g k l m n h.0),
          tt,
        );
      }

  -- .. which are rows of one length
  pub refuses_over : (c : Content) (v : Variance) (F : Form) (ts us : Tree) → IsRow ts → IsRow us → (row_length ts ≡ row_length us → ⊥) → FitsForm F ts → FitsForm F us → Knows c ts → Knows c us → IsFormed ts → IsFormed us
      → RefusesBy J c (record { variance = v; left = over F ts; right = over F us } ∷ [])
  refuses_over c v F ts us r q differ f g k l m n =
      record {
        none = λ w s j t h.
            (let rows = parts_settle c w v F ts us s r q f g k l m n h.0 in
            differ (sym (row_length-inst w ts r) ∙ settling_rows J law v (variances_over J.declared F us) (inst w ts) (inst w us) (IsRow-inst w us q) rows ∙ row_length-inst w us q));
      }

  -- related trees are of one form
  along_form : {v : Variance} {a b : Tree} → Along J v a b → form_of a ≡ form_of b
  along_form (one_tree s) = refl
  along_form (regions {a = a} {b = b} i j h) = form_of_region a i ∙ sym (form_of_region b j)
  along_form (constructors {i = i} {ts = ts} {us = us} rs) = form_of_over (a_constructor i) ts ∙ sym (form_of_over (a_constructor i) us)
  along_form (functions {sorts = ss} {ts = ts} {us = us} rs) = form_of_over (a_function ss) ts ∙ sym (form_of_over (a_function ss) us)
  along_form (values {b = b} {t = t} {u = u} r) = form_of_over (a_value b) (more t empty) ∙ sym (form_of_over (a_value b) (more u empty))
  along_form (open_aliases {ts = ts} {us = us} h i j rs) = form_of_over (an_alias h) ts ∙ sym (form_of_over (an_alias h) us)
  along_form (aliases is _ _ p) = absurd p
  along_form (subtypes x n i j _ _ p) = absurd p

  form_forward : (F : Form) (ts u : Tree) → FitsForm F ts → Normalizes J (over F ts) u → form_of u ≡ Some F
  form_forward (a_constructor i) ts u f p = let x = constructor_forward J law i ts u p in ap form_of x.is ∙ form_of_over (a_constructor i) x.parts
  form_forward (a_function ss) ts u f p = let x = function_forward J law ss ts u (sorts_settled J law ss f) p in ap form_of x.is ∙ form_of_over (a_function ss) x.parts
  form_forward (a_value b) ts u f p =
      let x = node_forward J law (label.Const (konst.Value b)) ts u (not_alias (label.Const (konst.Value b)) ts refl) p in
      ap form_of x.is ∙ form_of_over (a_value b) x.parts
  form_forward (an_alias h) ts u f p =
      let n = node_forward J law (alias_label h) (arguments ts) u (λ i. f i.closed) p in
      let x = arguments_forward J law ts n.parts n.normalizes in
      ap form_of (n.is ∙ ap (node (alias_label h)) x.is) ∙ form_of_over (an_alias h) x.parts

  -- two nodes of different forms are never related: of different constructors, lists of sorts, values or heads of aliases too
  pub refuses_forms : (c : Content) (v : Variance) (F G : Form) (ts us : Tree) → (F ≡ G → ⊥) → FitsForm F ts → FitsForm G us → Knows c ts → Knows c us → IsFormed ts → IsFormed us
      → RefusesBy J c (record { variance = v; left = over F ts; right = over G us } ∷ [])
  refuses_forms c v F G ts us differ f g k l m n =
      record {
        none = λ w s j t h.
            (let x = h.0 in
            let left = form_forward F (inst w ts) x.left (FitsForm-inst c w F ts s k m f) (subst (λ z. Normalizes J z x.left) (inst-over w F ts f) x.of_left) in
            let right = form_forward G (inst w us) x.right (FitsForm-inst c w G us s l n g) (subst (λ z. Normalizes J z x.right) (inst-over w G us g) x.of_right) in
            let same : Some F ≡ Some G = sym left ∙ along_form x.along ∙ right in
            differ cc);
      }

  -- two nodes of different labels, which are no variables, no aliases without escaping bound variables and not both free regions
  pub refuses_labels : (c : Content) (v : Variance) (l m : Label) (x y : Tree) → variable_of l ≡ None → variable_of m ≡ None → IsFormed (node l x) → IsFormed (node m y)
      → (IsAlias (node l x) → ⊥) → (IsAlias (node m y) → ⊥) → (l ≡ m → ⊥) → ((r s : FreeRegion) → l ≡ label.Leaf (leaf.Region r) → m ≡ label.Leaf (leaf.Region s) → ⊥)
      → RefusesBy J c (record { variance = v; left = node l x; right = node m y } ∷ [])
  refuses_labels c v l m x y nl nm fl fm al am differ apart =
      record {
        none = λ w s j t h.
            (let z = h.0 in
            let f = node_forward J law (renamed w l) (inst w x) z.left (λ i. al (alias_before_inst w l x nl fl i)) (subst (λ q. Normalizes J q z.left) (inst-node w l x nl) z.of_left) in
            let g = node_forward J law (renamed w m) (inst w y) z.right (λ i. am (alias_before_inst w m y nm fm i)) (subst (λ q. Normalizes J q z.right) (inst-node w m y nm) z.of_right) in
            ⊎_elim
            (λ e. (let two : Some (renamed w l) ≡ Some (renamed w m) = sym (ap label_of f.is) ∙ e ∙ ap label_of g.is in
            ⊎_elim differ (λ p. apart p.0 p.1 p.2 p.3) (renamed_apart w l m cc)))
            (λ r. (let p = free_label w l f.parts nl (subst IsRegion f.is r.0) in let q = free_label w m g.parts nm (subst IsRegion g.is r.1) in apart p.0 q.0 p.1 q.1)) (labels_agree J law z.along));
      }

module _ (declared : ℕ → List Variance) where
  -- rows whose pairs are related
  rows_of_pairs : (f : Content) (ks : List Tree) (v : Variance) (ws : List Variance) (ts us : Tree) → IsRow ts → IsRow us → row_length ts ≡ row_length us → AllRelatedUnder declared f ks (pairs_over v ws ts us) → RowsUnder declared f ks v ws ts us
  rows_of_pairs f ks v ws empty empty r q e h = rw (deeply_resolved-empty f) no_more
  rows_of_pairs f ks v ws empty (more a b) r q e h = absurd (omega (arith, e))
  rows_of_pairs f ks v ws (more a b) empty r q e h = absurd (omega (arith, e))
  rows_of_pairs f ks v ws (more a ts) (more b us) r q e h =
      let same : row_length ts ≡ row_length us = omega (arith, e) in
      let rest = rows_of_pairs f ks v (rest_variances ws) ts us r q same h.1 in
      rw (deeply_resolved-more f a ts, deeply_resolved-more f b us) (and_more h.0 rest)
  rows_of_pairs f ks v ws (node l c) us r q e h = absurd r
  rows_of_pairs f ks v ws empty (node l c) r q e h = absurd q
  rows_of_pairs f ks v ws (more a b) (node l c) r q e h = absurd q

  -- two nodes of one form are related where their parts are
  pub relates_over : (d : Content) (v : Variance) (F : Form) (ts us : Tree) → IsRow ts → IsRow us → row_length ts ≡ row_length us → FitsForm F ts → FitsForm F us → Knows d ts → Knows d us → IsFormed ts → IsFormed us
      → RelatesBy declared d (record { variance = v; left = over F ts; right = over F us } ∷ []) (pairs_over v (variances_over declared F us) ts us) []
  relates_over d v F ts us r q e x y k l m n =
      record {
        related = λ f s grows ks a h.
            (let keeps : KeepsKinds d f = record { grows = grows.grows; kinds = grows.kinds } in
            let rows = rows_of_pairs f ks v (variances_over declared F us) ts us r q e h in
            let ws : variances_over declared F us ≡ variances_over declared F (deeply_resolved f ts) = sym (variances_over_resolved declared f F ts r ∙ variances_over_length declared F ts us r q e) in
            let rows' : RowsUnder declared f ks v (variances_over declared F (deeply_resolved f ts)) ts us = subst (λ z. RowsUnder declared f ks v z ts us) ws rows in
            let left = FitsForm-deeply_resolved f F ts s (Knows-kept d f ts keeps k) m x in
            let right = FitsForm-deeply_resolved f F us s (Knows-kept d f us keeps l) n y in
            let whole = related_over declared v F (deeply_resolved f ts) (deeply_resolved f us) left right rows' in
            (rw (deeply_resolved-over f F ts x, deeply_resolved-over f F us y) whole, tt));
      }
