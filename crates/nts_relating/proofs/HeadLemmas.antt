-- What a term is under a table: the roots of variables, and their values.
use Rattle.nts_model.proofs.Terms.Substituting.{no_children}
use Rattle.std.proofs.Common.{◌≡◌, ℕ, ◌≤◌, Bool, List, [], Option, Some, None, refl, sym, ap, subst, ◌∙◌, arith}
use Rattle.nts_model.specs.declared.labels.VariableKind.{VariableKind}
use Rattle.nts_model.specs.declared.labels.VariableKind.TheVariants as kind
use Rattle.nts_model.specs.declared.labels.Leaf.TheVariants as leaf
use Rattle.nts_model.specs.declared.labels.Label.{Label}
use Rattle.nts_model.specs.declared.labels.Label.TheVariants as label
use Rattle.nts_model.specs.Terms.Trees.{Tree, node, NodeKind, of_sort, sort_of_variable, kind_of, kind_of_label, children, label_of, shape, Meets, in_order, IsClosed, infer_of, variable_of, variable_tree}
use Rattle.nts_model.specs.Tables.Contents.{Content, known, state_of, kind_at}
use Rattle.nts_model.specs.Tables.Resolving.{IsInfer, Knows, KnowsVariable, resolved, rank_of, rank_of_kind, variable_rank}
use Rattle.nts_model.proofs.Terms.Variables.{infer_label}
use Rattle.nts_model.proofs.Tables.Roots.{kind_at-reaches}
use Rattle.nts_model.proofs.Tables.Resolved.{KnownStep, known_step, resolved-variable_reaches}
use Rattle.nts_model.specs.Tables.Worlds.{World, inst, Solves}
use Rattle.nts_model.specs.Tables.Passing.{TreePasses, TablePasses}
use Rattle.nts_model.proofs.Tables.Kept.{variable_label}
use Rattle.nts_model.proofs.Tables.Instances.{inst-variable, tree-reaches, tree-known}
use Rattle.nts_store.specs.declared.nodes.NodeId.{NodeId}
use Rattle.nts_store.specs.Growth.{tree_at, IsIn}
use Rattle.nts_unify.specs.declared.contents.State.{State}
use Rattle.nts_unify.specs.declared.contents.State.TheVariants.{Unset, Link, Known}
use Rattle.nts_unify.specs.Entries.{Entries}
use Rattle.nts_unify.specs.Reading.{state_with, content_of, IsLawful}
use Rattle.nts_unify.specs.Roots.{IsUnlinked, IsRoot, HasClass}
use Rattle.nts_unify.specs.Changing.{region_variable, region_number}
use Rattle.nts_unify.specs.Unchanged.{HasUnset}
use Rattle.nts_relating.specs.Relating.{IsLike, IsOpen, IsHeadOfTree}
use Rattle.nts_relating.specs.declared.relate.Head.{Head}
use Rattle.nts_relating.specs.declared.relate.Head.TheVariants.{Open, Closed}
use Rattle.nts_relating.proofs.Ranks.{kind_of-like, like_of-kinds}
use Rattle.nts_unify.proofs.Changes.{AreHeld-at}
use Rattle.nts_unify.proofs.Leading.{state_of-entry, state_of-class, kind_at-entry, Reaches-leads, entry_at}
use Rattle.nts_unify.proofs.NodeLemmas.{kind_of-variable, variable_node}

number_is : (k : VariableKind) (m n : ℕ) → region_number k m ≡ Some n → (k ≡ kind.Region) × (m ≡ n)
number_is kind.Ty m n e = cc
number_is kind.Int m n e = cc
number_is kind.Float m n e = cc
number_is kind.Const m n e = cc
number_is kind.Region m n e = (refl, cc)

pub region_label : (l : Label) (n : ℕ) → region_variable l ≡ Some n → variable_of l ≡ Some (kind.Region, n)
region_label l n e = by_case (variable_of l) refl
  where
    by_case : (o : Option (VariableKind × ℕ)) → variable_of l ≡ o → variable_of l ≡ Some (kind.Region, n)
    by_case None q = let z : None ≡ Some n = sym (rw q refl) ∙ e in cc
    by_case (Some v) q =
        let z : region_number v.0 v.1 ≡ Some n = rw q at e in
        let r = number_is v.0 v.1 n z in
        q ∙ (λ i. Some (r.0 i, r.1 i))

label_at : (t : Tree) (l : Label) → t ≡ node l (children t) → label_of t ≡ Some l
label_at t l e = ap label_of e

knows_label : (c : Content) (t : Tree) (l : Label) → t ≡ node l (children t) → Knows c t → KnowsVariable c (variable_of l)
knows_label c t l e h = (let P : Tree → Type 0 = λ x. Knows c x in subst P e h).0.0

pub infer_at : (t : Tree) (l : Label) (n : ℕ) → t ≡ node l (children t) → infer_of l ≡ Some n → IsInfer t
infer_at t l n e h = subst (λ (x : Tree). IsInfer x) (sym e) (n, h)

-- a value that a variable leads to
pub record HeadKnown (ts : List Tree) (e : Entries) (t : Tree) (v : NodeId) : Type 0 where
  pub within : IsIn ts v
  pub infer : IsInfer t
  pub sort : NodeKind
  pub value_sort : kind_of (tree_at ts v) ≡ Some sort
  pub own_sort : kind_of t ≡ Some sort
  pub step : KnownStep (content_of ts e) t (tree_at ts v)
  pub worlds : (w : World) → Solves (content_of ts e) w → inst w t ≡ inst w (tree_at ts v)
  pub closed : IsClosed (tree_at ts v)
  pub labels : (P : Label → Bool) → TablePasses P (content_of ts e) → TreePasses P (tree_at ts v)

inst-at : (w : World) (t : Tree) (l : Label) (k : VariableKind) (n : ℕ) → t ≡ node l (children t) → variable_of l ≡ Some (k, n) → inst w t ≡ w.tree n
inst-at w t l k n is v = ap (inst w) is ∙ inst-variable w l (children t) k n v

pub head_known : (ts : List Tree) (e : Entries) (t : Tree) (l : Label) (n r : ℕ) (v : NodeId) → IsLawful ts e → Knows (content_of ts e) t → t ≡ node l (children t) → infer_of l ≡ Some n → HasClass e n r (Known v) → HeadKnown ts e t v
head_known ts e t l n r v h k is i class =
    let c = content_of ts e in
    let root = class.root in
    let x = infer_label l n i in
    let state : state_of c r ≡ Some (known (tree_at ts v)) = state_of-class ts e n r (Known v) class in
    let held = AreHeld-at ts e.variables r class.variable h.held class.at in
    let there : KnowsVariable c (variable_of l) = knows_label c t l is k in
    let has : kind_at c n ≡ Some x.of_kind = rw x.is at there in
    let root_kind : kind_at c r ≡ Some x.of_kind = kind_at-reaches c n r h.sound (Reaches-leads ts e n r root.leads) ∙ has in
    record {
      within = rw class.state at held;
      infer = infer_at t l n is i;
      sort = of_sort (sort_of_variable x.of_kind);
      value_sort = (h.sound.fits r (tree_at ts v) x.of_kind state root_kind).0;
      own_sort = ap kind_of is ∙ ap Some (kind_of-variable l x.of_kind n x.is);
      step = known_step c t l x.of_kind n r (tree_at ts v) h.sound k (label_at t l is) x.is x.no_region (Reaches-leads ts e n r root.leads) state;
      worlds = λ w z. inst-at w t l x.of_kind n is x.is ∙ tree-known c w n r (tree_at ts v) z (Reaches-leads ts e n r root.leads) state;
      closed = (h.proper.solvable.values r (tree_at ts v) x.of_kind state root_kind).closed;
      labels = λ P p. p.values r (tree_at ts v) state;
    }

-- .. is what the variable is
pub head_through : (ts : List Tree) (e : Entries) (t : Tree) (v : NodeId) (h : Head) → HeadKnown ts e t v → IsHeadOfTree ts e (tree_at ts v) h → IsHeadOfTree ts e t h
head_through ts e t v (Open n) k o =
    record {
      bindable = o.bindable;
      infer = k.infer;
      like = like_of-kinds (variable_tree o.bindable.of_kind n) t k.sort (kind_of-like (variable_tree o.bindable.of_kind n) (tree_at ts v) o.like ∙ k.value_sort) k.own_sort;
      rank = (let a = o.rank in let b = k.step.lower in omega (arith, a, b));
      same = k.step.same ∙ o.same;
      worlds = λ w z. k.worlds w z ∙ o.worlds w z;
    }
head_through ts e t v (Closed n) k o = (
  o.0,
  record {
    knows = o.1.knows;
    no_variable = o.1.no_variable;
    labels = λ P p q. o.1.labels P p (k.labels P p);
    same = k.step.same ∙ o.1.same;
    worlds = λ w z. k.worlds w z ∙ o.1.worlds w z;
  },
)

is_unset : (s : State) → IsUnlinked s → ((v : NodeId) → s ≡ Known v → ⊥) → s ≡ Unset
is_unset Unset h k = refl
is_unset (Link m) h k = absurd h
is_unset (Known v) h k = absurd (k v refl)

zero_less : (a b k : ℕ) → a ≡ k → b ≡ a → k ≤ b
zero_less a b k e q = omega (arith, e, q)

-- a root without a value
pub head_open : (ts : List Tree) (e : Entries) (t : Tree) (l : Label) (n r : ℕ) → IsLawful ts e → Knows (content_of ts e) t → t ≡ node l (children t) → Meets (shape l) (children t) → infer_of l ≡ Some n → HasClass e n r Unset → IsOpen ts e t r
head_open ts e t l n r h k is m i class =
    let c = content_of ts e in
    let root = class.root in
    let w = class.variable in
    let x = infer_label l n i in
    let there : KnowsVariable c (variable_of l) = knows_label c t l is k in
    let has : kind_at c n ≡ Some x.of_kind = rw x.is at there in
    let same : Some w.kind ≡ Some x.of_kind = sym (kind_at-entry ts e r w class.at) ∙ kind_at-reaches c n r h.sound (Reaches-leads ts e n r root.leads) ∙ has in
    let of_kind : w.kind ≡ x.of_kind = cc in
    let like : IsLike (variable_tree x.of_kind r) (node l (children t)) = sym (kind_of-variable l x.of_kind n x.is) in
    record {
      bindable = record { of_kind = x.of_kind; no_region = x.no_region; free = record { variable = w; at = class.at; of_kind = of_kind; state = class.state } };
      infer = infer_at t l n is i;
      like = subst (λ (y : Tree). IsLike (variable_tree x.of_kind r) y) (sym is) like;
      rank = zero_less (rank_of (variable_of l)) (variable_rank t) (rank_of_kind x.of_kind) (ap rank_of x.is) (ap variable_rank is);
      same = ap (resolved c) (variable_node t l x.of_kind n is m x.is) ∙ resolved-variable_reaches c x.of_kind n r h.sound x.no_region has (Reaches-leads ts e n r root.leads);
      worlds = λ w z. inst-at w t l x.of_kind n is x.is ∙ tree-reaches c w n r z (Reaches-leads ts e n r root.leads);
    }

-- the root of a region variable
pub region_root : (ts : List Tree) (e : Entries) (t : Tree) (l : Label) (n r : ℕ) → IsLawful ts e → Knows (content_of ts e) t → t ≡ node l (children t) → region_variable l ≡ Some n → IsRoot e n r → HasUnset e r kind.Region
region_root ts e t l n r h k is i root =
    let c = content_of ts e in
    let x = region_label l n i in
    let there : KnowsVariable c (variable_of l) = knows_label c t l is k in
    let has : kind_at c n ≡ Some kind.Region = rw x at there in
    let w = entry_at e.variables r root.within in
    let region : kind_at c r ≡ Some kind.Region = kind_at-reaches c n r h.sound (Reaches-leads ts e n r root.leads) ∙ has in
    let same : Some w.0.kind ≡ Some kind.Region = sym (kind_at-entry ts e r w.0 w.1) ∙ region in
    let state = state_of-entry ts e r w.0 w.1 in
    record {
      variable = w.0;
      at = w.1;
      of_kind = cc;
      state = is_unset w.0.state (root.ends w.0 w.1) (λ v q. (h.sound.fits r (tree_at ts v) kind.Region (state ∙ ap (λ y. Some (state_with ts y)) q) region).1 refl);
    }
