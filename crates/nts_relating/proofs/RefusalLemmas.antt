-- Why no world makes a variable one with a tree, or two trees one.
use Rattle.std.proofs.Common.{◌≡◌, ◌≢◌, ⊎_elim, ℕ, zero, suc, ◌+◌, ◌<◌, ◌≤◌, Bool, true, false, List, [], ◌∷◌, ◌++◌, Option, Some, None, refl, sym, ap, subst, ◌∙◌, arith}
use Rattle.nts_model.specs.declared.labels.VariableKind.{VariableKind}
use Rattle.nts_model.specs.declared.labels.VariableKind.TheVariants as kind
use Rattle.nts_model.specs.declared.labels.FreeRegion.{FreeRegion}
use Rattle.nts_model.specs.declared.labels.Leaf.TheVariants as leaf
use Rattle.nts_model.specs.declared.labels.Label.{Label}
use Rattle.nts_model.specs.declared.labels.Label.TheVariants as label
use Rattle.nts_model.specs.Terms.Trees.{Tree, empty, more, node, size, children, label_of, IsRow, row_length, row_at, row_take, IsClosedUnder, of_sort, kind_of, kind_of_label, sort_of_variable, infer_of, variable_of}
use Rattle.nts_model.specs.Tables.Contents.{Content, kind_at, universe_of}
use Rattle.nts_model.specs.Tables.Resolving.{IsInfer, Knows, KnowsVariable, variable_flag}
use Rattle.nts_model.specs.Tables.Levels.{NamesAll, term_level}
use Rattle.nts_model.specs.Terms.Regions.{IsRegion}
use Rattle.nts_model.specs.Tables.Worlds.{World, inst, renamed, Solves}
use Rattle.nts_model.specs.Tables.Equations.{Reduces, Refuses}
use Rattle.nts_model.proofs.Tables.Instances.{inst-node, inst-variable}
use Rattle.nts_model.proofs.Tables.Fitting.{Fits-kind_of, kind_of_label-renamed}
use Rattle.nts_model.proofs.Tables.Refuting.{tree-named, one_node, IsFreeRegion, lengths_refute, sorts_refute, kind_refutes, integer_float_refute}
use Rattle.nts_store.specs.declared.nodes.NodeId.{NodeId}
use Rattle.nts_store.specs.Growth.{tree_at}
use Rattle.nts_relating.specs.declared.relate.Pair.{Pair}
use Rattle.nts_unify.specs.Entries.{Entries}
use Rattle.nts_unify.specs.Reading.{content_of}
use Rattle.nts_model.specs.Terms.Fitting.{Fits}
use Rattle.nts_unify.specs.Joining.{TakesVariable}
use Rattle.nts_relating.proofs.Ranks.{region_unfit}
use Rattle.nts_unify.specs.Changing.{is_free_region}
use Rattle.nts_relating.specs.Relating.{IsClosedHead, Blocks, Forbids, sides_at, all_sides_at}
use Rattle.nts_unify.proofs.NodeLemmas.{kind_of-variable}
use Rattle.nts_relating.proofs.Naming.{alone_label}
use Rattle.nts_unify.proofs.NodeLemmas.{region_free}
use Rattle.nts_relating.proofs.PairLemmas.{Equates-front, all_sides_at-push, not_infer}
use Rattle.nts_unify.proofs.NodeLemmas.{true_false}

pub closed_at : (w : World) (n : ℕ) (r : Tree) (i : ℕ) → i < row_length r → IsClosedUnder n (inst w r) → IsClosedUnder n (inst w (row_at r i))
closed_at w n empty i h k = absurd (omega arith)
closed_at w n (more a b) zero h k = k.0
closed_at w n (more a b) (suc i) h k = closed_at w n b i (omega arith) k.1
closed_at w n (node l c) i h k = absurd (omega arith)

pub size_at : (w : World) (r : Tree) (i : ℕ) → i < row_length r → size (inst w (row_at r i)) + 1 ≤ size (inst w r)
size_at w empty i h = absurd (omega arith)
size_at w (more a b) zero h = omega arith
size_at w (more a b) (suc i) h = let deeper = size_at w b i (omega arith) in omega (arith, deeper)
size_at w (node l c) i h = absurd (omega arith)

pub flag_one : (t : Tree) → IsInfer t → variable_flag t ≡ 1
flag_one empty h = absurd h
flag_one (more a b) h = absurd h
flag_one (node l c) h = (let q = h.1 in rw q refl)

-- the variable itself
pub blocks_own : (c : Content) (x y u b : ℕ) (t : Tree) → ((w : World) → Solves c w → inst w t ≡ w.tree y) → y ≡ x → IsInfer t → Blocks c x u b t
blocks_own c x y u b t worlds e i = record {
  none = λ w z names below. (let same : inst w t ≡ w.tree x = worlds w z ∙ ap w.tree e in omega (arith, flag_one t i, ap size same));
}

-- a variable whose value is blocked is one with no such tree
pub forbids_blocked : (c : Content) (x u : ℕ) (t : Tree) (k : VariableKind) → universe_of c x ≡ Some u → kind_at c x ≡ Some k → variable_flag t ≡ 0 → Blocks c x u 0 t → Forbids c x t
forbids_blocked c x u t k level has none h = record {
  none = λ w z e.
      let names : NamesAll term_level u (inst w t) = rw e at (tree-named c w x u z level) in
      let below : IsClosedUnder 0 (inst w t) = rw e at (z.fitting.each x k has).closed in
      let inner : size (w.tree x) < size (inst w t) + variable_flag t = h.none w z names below in
      omega (arith, inner, none, ap size e);
}

knows_label : (c : Content) (t : Tree) (l : Label) → t ≡ node l (children t) → Knows c t → KnowsVariable c (variable_of l)
knows_label c t l e h = (subst (λ (x : Tree). Knows c x) e h).0.0

no_infer : (l : Label) (k : VariableKind) (n : ℕ) → variable_of l ≡ Some (k, n) → infer_of l ≡ None → k ≡ kind.Region
no_infer l kind.Region n e i = refl
no_infer l kind.Ty n e i = let z : Some n ≡ None = sym (rw e refl) ∙ i in cc
no_infer l kind.Int n e i = let z : Some n ≡ None = sym (rw e refl) ∙ i in cc
no_infer l kind.Float n e i = let z : Some n ≡ None = sym (rw e refl) ∙ i in cc
no_infer l kind.Const n e i = let z : Some n ≡ None = sym (rw e refl) ∙ i in cc

-- the instance of a node that is no inference variable is of its kind
inst-kind : (c : Content) (w : World) (t : Tree) (l : Label) → Solves c w → Knows c t → t ≡ node l (children t) → infer_of l ≡ None → kind_of (inst w t) ≡ Some (kind_of_label l)
inst-kind c w t l z k is i = by_case (variable_of l) refl
  where
    by_case : (o : Option (VariableKind × ℕ)) → variable_of l ≡ o → kind_of (inst w t) ≡ Some (kind_of_label l)
    by_case None e = ap kind_of (ap (inst w) is ∙ inst-node w l (children t) e) ∙ ap Some (kind_of_label-renamed w l)
    by_case (Some v) e =
        let has : kind_at c v.1 ≡ Some v.0 = rw e at (knows_label c t l is k) in
        ap kind_of (ap (inst w) is ∙ inst-variable w l (children t) v.0 v.1 e) ∙ Fits-kind_of v.0 (w.tree v.1) (z.fitting.each v.1 v.0 has).fits
        ∙ ap Some (sym (kind_of-variable l v.0 v.1 e))

-- a tree that does not fit
pub forbids_kind : (c : Content) (x : ℕ) (k : VariableKind) (t : Tree) (l : Label) → kind_at c x ≡ Some k → k ≢ kind.Region → Knows c t → t ≡ node l (children t) → infer_of l ≡ None → (Fits k (node l (children t)) → ⊥) → Forbids c x t
forbids_kind c x k t l has n knows is i apart = record { none = λ w z e. by_case w z e (variable_of l) refl }
  where
    by_case : (w : World) → Solves c w → w.tree x ≡ inst w t → (o : Option (VariableKind × ℕ)) → variable_of l ≡ o → ⊥
    by_case w z e None q = kind_refutes c w x k l (children t) z has n q apart (e ∙ ap (inst w) is)
    by_case w z e (Some v) q =
        let region : v.0 ≡ kind.Region = no_infer l v.0 v.1 q i in
        let sort : kind_of_label l ≡ of_sort (sort_of_variable v.0) = kind_of-variable l v.0 v.1 q in
        let own : kind_of (w.tree x) ≡ Some (of_sort (sort_of_variable v.0)) = ap kind_of e ∙ inst-kind c w t l z knows is i ∙ ap Some sort in
        region_unfit k (w.tree x) n (own ∙ ap (λ j. Some (of_sort (sort_of_variable j))) region) (z.fitting.each x k has).fits

-- no tree fits variables of two kinds of which neither takes the other
fits_apart : (j k : VariableKind) (t : Tree) → (j ≡ k → ⊥) → (TakesVariable j k → ⊥) → (TakesVariable k j → ⊥) → Fits j t → Fits k t → ⊥
fits_apart kind.Ty kind.Ty t d a b f g = d refl
fits_apart kind.Ty kind.Int t d a b f g = a tt
fits_apart kind.Ty kind.Float t d a b f g = a tt
fits_apart kind.Ty kind.Const t d a b f g = sorts_refute kind.Ty kind.Const t (λ e. cc) f g
fits_apart kind.Ty kind.Region t d a b f g = sorts_refute kind.Ty kind.Region t (λ e. cc) f g
fits_apart kind.Int kind.Ty t d a b f g = b tt
fits_apart kind.Int kind.Int t d a b f g = d refl
fits_apart kind.Int kind.Float t d a b f g = integer_float_refute t f g
fits_apart kind.Int kind.Const t d a b f g = sorts_refute kind.Int kind.Const t (λ e. cc) f g
fits_apart kind.Int kind.Region t d a b f g = sorts_refute kind.Int kind.Region t (λ e. cc) f g
fits_apart kind.Float kind.Ty t d a b f g = b tt
fits_apart kind.Float kind.Int t d a b f g = integer_float_refute t g f
fits_apart kind.Float kind.Float t d a b f g = d refl
fits_apart kind.Float kind.Const t d a b f g = sorts_refute kind.Float kind.Const t (λ e. cc) f g
fits_apart kind.Float kind.Region t d a b f g = sorts_refute kind.Float kind.Region t (λ e. cc) f g
fits_apart kind.Const kind.Ty t d a b f g = sorts_refute kind.Const kind.Ty t (λ e. cc) f g
fits_apart kind.Const kind.Int t d a b f g = sorts_refute kind.Const kind.Int t (λ e. cc) f g
fits_apart kind.Const kind.Float t d a b f g = sorts_refute kind.Const kind.Float t (λ e. cc) f g
fits_apart kind.Const kind.Const t d a b f g = d refl
fits_apart kind.Const kind.Region t d a b f g = sorts_refute kind.Const kind.Region t (λ e. cc) f g
fits_apart kind.Region kind.Region t d a b f g = d refl
fits_apart kind.Region kind.Ty t d a b f g = sorts_refute kind.Region kind.Ty t (λ e. cc) f g
fits_apart kind.Region kind.Int t d a b f g = sorts_refute kind.Region kind.Int t (λ e. cc) f g
fits_apart kind.Region kind.Float t d a b f g = sorts_refute kind.Region kind.Float t (λ e. cc) f g
fits_apart kind.Region kind.Const t d a b f g = sorts_refute kind.Region kind.Const t (λ e. cc) f g

pub variables_apart : (c : Content) (x y : ℕ) (j k : VariableKind) → kind_at c x ≡ Some j → kind_at c y ≡ Some k → (j ≡ k → ⊥) → (TakesVariable j k → ⊥) → (TakesVariable k j → ⊥) → (w : World) → Solves c w → w.tree x ≡ w.tree y → ⊥
variables_apart c x y j k hx hy d a b w z e =
    fits_apart j k (w.tree y) d a b (rw e at (z.fitting.each x j hx).fits) (z.fitting.each y k hy).fits

-- free regions and other labels
record HasFreeLabel (t : Tree) : Type 0 where
  name : Label
  is : label_of t ≡ Some name
  free : is_free_region name ≡ true

region_free_label : (t : Tree) → IsRegion t → HasFreeLabel t
region_free_label empty h = let e = h.1 in cc
region_free_label (more a b) h = let e = h.1 in cc
region_free_label (node l c) h = record { name = l; is = refl; free = region_free (node l c) l refl h }

inst_free : (c : Content) (w : World) (t : Tree) (l : Label) → Solves c w → Knows c t → t ≡ node l (children t) → is_free_region l ≡ true → HasFreeLabel (inst w t)
inst_free c w t (label.Leaf (leaf.Variable kind.Region n)) z k is f =
    let has : kind_at c n ≡ Some kind.Region = knows_label c t (label.Leaf (leaf.Variable kind.Region n)) is k in
    rw (ap (inst w) is) (region_free_label (w.tree n) (z.fitting.each n kind.Region has).fits)
inst_free c w t (label.Leaf (leaf.Variable kind.Ty n)) z k is f = cc
inst_free c w t (label.Leaf (leaf.Variable kind.Int n)) z k is f = cc
inst_free c w t (label.Leaf (leaf.Variable kind.Float n)) z k is f = cc
inst_free c w t (label.Leaf (leaf.Variable kind.Const n)) z k is f = cc
inst_free c w t (label.Leaf (leaf.Region r)) z k is f =
    rw (ap (inst w) is) (record { name = label.Leaf (leaf.Region (w.region r)); is = refl; free = refl })
inst_free c w t (label.Leaf (leaf.TyConstant a)) z k is f = cc
inst_free c w t (label.Leaf (leaf.ConstConstant a)) z k is f = cc
inst_free c w t (label.Bound a b d) z k is f = cc
inst_free c w t (label.Ty h) z k is f = cc
inst_free c w t (label.Const h) z k is f = cc
inst_free c w t (label.Clause h) z k is f = cc
inst_free c w t (label.Predicate h) z k is f = cc
inst_free c w t (label.List h) z k is f = cc

stays_bound : (w : World) (l : Label) → is_free_region (renamed w l) ≡ is_free_region l
stays_bound w (label.Leaf (leaf.Variable k n)) = refl
stays_bound w (label.Leaf (leaf.Region r)) = refl
stays_bound w (label.Leaf (leaf.TyConstant a)) = refl
stays_bound w (label.Leaf (leaf.ConstConstant a)) = refl
stays_bound w (label.Bound a b d) = refl
stays_bound w (label.Ty h) = refl
stays_bound w (label.Const h) = refl
stays_bound w (label.Clause h) = refl
stays_bound w (label.Predicate h) = refl
stays_bound w (label.List h) = refl

one_free : (c : Content) (w : World) (a b : Tree) (l m : Label) → Solves c w → Knows c a → a ≡ node l (children a) → b ≡ node m (children b) → infer_of m ≡ None → is_free_region l ≡ true → is_free_region m ≡ false → inst w a ≡ inst w b → ⊥
one_free c w a b l m z k ia ib i f g e =
    let h = inst_free c w a l z k ia f in
    let whole : inst w b ≡ node (renamed w m) (inst w (children b)) = ap (inst w) ib ∙ inst-node w m (children b) (alone_label m i g) in
    let name : h.name ≡ renamed w m = some_label h.name (renamed w m) (sym h.is ∙ ap label_of e ∙ ap label_of whole) in
    true_false (sym h.free ∙ ap is_free_region name ∙ stays_bound w m ∙ g)
  where
    some_label : (p q : Label) → Some p ≡ Some q → p ≡ q
    some_label p q r = cc

pub record DifferInLength (r s : Tree) : Type 0 where
  pub left : IsRow r
  pub right : IsRow s
  pub differ : row_length r ≡ row_length s → ⊥

-- two nodes that are not two free regions, of two labels or two lengths
pub heads_apart : (c : Content) (w : World) (a b : Tree) (l m : Label) → Solves c w → Knows c a → Knows c b → a ≡ node l (children a) → b ≡ node m (children b) → infer_of l ≡ None → infer_of m ≡ None → (is_free_region l ≡ true → is_free_region m ≡ true → ⊥) → (l ≡ m → DifferInLength (children a) (children b)) → inst w a ≡ inst w b → ⊥
heads_apart c w a b l m z ka kb ia ib il im two apart e = by_case (is_free_region l) (is_free_region m) refl refl
  where
    not_free : (p : Label) (r : FreeRegion) → p ≡ label.Leaf (leaf.Region r) → is_free_region p ≡ false → ⊥
    not_free p r s f = (let h : true ≡ false = ap is_free_region (sym s) ∙ f in cc)

    by_case : (p q : Bool) → is_free_region l ≡ p → is_free_region m ≡ q → ⊥
    by_case true true f g = two f g
    by_case true false f g = one_free c w a b l m z ka ia ib im f g e
    by_case false true f g = one_free c w b a m l z kb ib ia il g f (sym e)
    by_case false false f g =
        let nl = alone_label l il f in
        let nm = alone_label m im g in
        let one = one_node w l m (children a) (children b) nl nm (sym (ap (inst w) ia) ∙ e ∙ ap (inst w) ib) in
        ⊎_elim (λ (s : l ≡ m). let d = apart s in lengths_refute w (children a) (children b) d.left d.right d.differ one.children) (λ (s : IsFreeRegion l × IsFreeRegion m). not_free l s.0.0 s.0.1 f) one.labels

-- the last pair is one in no world
pub refuse_last : (c : Content) (ps : List (Tree × Tree)) (p : Tree × Tree) → ((w : World) → Solves c w → inst w p.0 ≡ inst w p.1 → ⊥) → Refuses c (ps ++ p ∷ [])
refuse_last c ps p h = record { none = λ w z q. h w z (Equates-front w ps p q).1 }

pub refuse_pair : (ts : List Tree) (e : Entries) (ps : List Pair) (p : Pair) → ((w : World) → Solves (content_of ts e) w → inst w (tree_at ts p.left) ≡ inst w (tree_at ts p.right) → ⊥) → Refuses (content_of ts e) (all_sides_at ts (ps ++ p ∷ []))
refuse_pair ts e ps p h = rw (all_sides_at-push ts ps p) (refuse_last (content_of ts e) (all_sides_at ts ps) (sides_at ts p) h)

pub refuse_heads : (ts : List Tree) (e : Entries) (ps : List Pair) (p : Pair) (a b : NodeId) (l m : Label) → IsClosedHead (content_of ts e) (tree_at ts p.left) (tree_at ts a) → IsClosedHead (content_of ts e) (tree_at ts p.right) (tree_at ts b) → tree_at ts a ≡ node l (children (tree_at ts a)) → tree_at ts b ≡ node m (children (tree_at ts b)) → (is_free_region l ≡ true → is_free_region m ≡ true → ⊥) → (l ≡ m → DifferInLength (children (tree_at ts a)) (children (tree_at ts b))) → Refuses (content_of ts e) (all_sides_at ts (ps ++ p ∷ []))
refuse_heads ts e ps p a b l m ha hb ia ib two apart =
    refuse_pair ts e ps p
    (λ w z q. heads_apart (content_of ts e) w (tree_at ts a) (tree_at ts b) l m z ha.knows hb.knows ia ib (not_infer (tree_at ts a) l ia ha.no_variable) (not_infer (tree_at ts b) m ib hb.no_variable) two apart (sym (ha.worlds w z) ∙ q ∙ hb.worlds w z))

-- what is refused later was refused before
pub Refuses-before : {c d : Content} {ps qs : List (Tree × Tree)} → Reduces c d ps qs → Refuses d qs → Refuses c ps
Refuses-before a h = record { none = λ w z q. (let r = a.complete w z q in h.none r.0.world r.0.solves r.1) }
