-- What the steps of a walk that resolves a term make of it.
use Rattle.std.proofs.Common.{◌≡◌, ◌≢◌, Bool, true, false, ℕ, List, Some, None, refl, sym, ap, subst, ◌<◌, ◌∙◌}
use Rattle.nts_model.specs.declared.labels.Sort.TheVariants as sort
use Rattle.nts_model.specs.declared.labels.VariableKind.{VariableKind}
use Rattle.nts_model.specs.declared.labels.VariableKind.TheVariants as kind
use Rattle.nts_model.specs.declared.labels.Leaf.TheVariants as leaf
use Rattle.nts_model.specs.declared.labels.Label.{Label}
use Rattle.nts_model.specs.declared.labels.Label.TheVariants as label
use Rattle.nts_model.specs.Terms.Trees.{Tree, empty, more, node, children, kind_of, of_sort, sort_of_variable, shape, Meets, variable_of, variable_tree}
use Rattle.nts_model.specs.Tables.Contents.{Content, state_of, kind_at, unset, known}
use Rattle.nts_model.specs.Tables.Resolving.{resolved, rooted, root_of, IsSound, Reaches, Knows, rank_of_kind, variable_rank}
use Rattle.nts_model.proofs.Terms.Variables.{infer_of_none}
use Rattle.nts_model.proofs.Tables.Resolved.{resolved-empty, resolved-node, deeply_resolved-empty, deeply_resolved-node, IsVariable, resolved-reaches_known, resolved-variable_reaches, resolved-variable_unset, IsVariable-infer, IsVariable-reaches}
use Rattle.nts_model.proofs.Tables.Kept.{resolved-no_infer, deeply_resolved-no_variables}
use Rattle.nts_store.specs.declared.nodes.NodeId.{NodeId}
use Rattle.nts_store.specs.Growth.{tree_at, IsIn}
use Rattle.nts_replacing.specs.Replacement.{GoesDown, IsStep}
use Rattle.nts_replacing.specs.declared.replacement.Step.{Step}
use Rattle.nts_replacing.specs.declared.replacement.Step.TheVariants as step
use Rattle.nts_unify.specs.declared.contents.State.{State}
use Rattle.nts_unify.specs.declared.contents.State.TheVariants.{Unset, Known}
use Rattle.nts_table.specs.Tables.{Table}
use Rattle.nts_unify.specs.Reading.{state_with, content_of}
use Rattle.nts_table.specs.Tables.{IsTable}
use Rattle.nts_unify.specs.Roots.{HasClass}
use Rattle.nts_table.specs.Resolution.{resolved_to, Resolution, resolution, resolution_of, CanResolve, IsResolved}
use Rattle.nts_unify.proofs.Leading.{state_of-class, Reaches-leads}
use Rattle.nts_unify.proofs.Changes.{AreHeld-at, some_inj}
use Rattle.nts_unify.proofs.NodeLemmas.{variable_node}
use Rattle.nts_unify.proofs.NodeLemmas.{region_sort as no_region_sort}

-- a tree without variables to be replaced
pub resolved_to-left : (regions : Bool) (c : Content) (t : Tree) → IsResolved regions t → resolved_to regions c t ≡ t
resolved_to-left true c t h = deeply_resolved-no_variables c t h.no_infer (h.no_region refl)
resolved_to-left false c t h = resolved-no_infer c t h.no_infer

pub resolution-left : (r : Resolution) (t : Tree) → IsResolved r.regions t → t ≡ resolution_of r t
resolution-left r t h = sym (resolved_to-left r.regions r.content t h)

-- a node that is no variable
resolved_to-node : (regions : Bool) (c : Content) (l : Label) (x : Tree) → variable_of l ≡ None → resolved_to regions c (node l x) ≡ node l (resolved_to regions c x)
resolved_to-node true c l x h =
    let e = deeply_resolved-node c l x (infer_of_none l h) in rw h at e
resolved_to-node false c l x h = resolved-node c l x (infer_of_none l h)

pub goes_down : (r : Resolution) (t v : Tree) (l : Label) (x : Tree) → v ≡ node l x → variable_of l ≡ None → CanResolve r v → resolution_of r t ≡ resolution_of r v → GoesDown (CanResolve r) (resolution_of r) t v
goes_down r t empty l x e h k same = cc
goes_down r t (more a b) l x e h k same = cc
goes_down r t (node m y) l x e h k same =
    let one : m ≡ l = cc in
    (same ∙ resolved_to-node r.regions r.content m y (ap variable_of one ∙ h), record { sound = k.sound; knows = k.knows.1 })

pub node_goes_down : (r : Resolution) (t : Tree) (l : Label) → t ≡ node l (children t) → variable_of l ≡ None → CanResolve r t → GoesDown (CanResolve r) (resolution_of r) t t
node_goes_down r t l e h k = goes_down r t t l (children t) e h k refl

-- a variable of a region
pub region_stays : (c : Content) (regions : Bool) (n : ℕ) → regions ≡ false → variable_tree kind.Region n ≡ resolved_to regions c (variable_tree kind.Region n)
region_stays c true n h = cc
region_stays c false n h =
    let l = label.Leaf (leaf.Variable kind.Region n) in
    sym (resolved-node c l empty refl ∙ ap (node l) (resolved-empty c))

pub region_root : (c : Content) (regions : Bool) (n : ℕ) → regions ≡ true → resolved_to regions c (variable_tree kind.Region n) ≡ variable_tree kind.Region (root_of c n)
region_root c true n h =
    let l = label.Leaf (leaf.Variable kind.Region n) in
    deeply_resolved-node c l empty refl ∙ ap (node (label.Leaf (leaf.Variable kind.Region (root_of c n)))) (deeply_resolved-empty c)
region_root c false n h = cc

-- the value of a class is of the store
pub value_in : (ts : List Tree) (t : Table) (n r : ℕ) (x : NodeId) → IsTable ts t → HasClass t.entries n r (Known x) → IsIn ts x
value_in ts t n r x h class =
    let held = AreHeld-at ts t.entries.variables r class.variable h.now.held class.at in rw class.state at held

-- what the table has of a variable that is no region, and of its root
pub record LeadsToRoot (c : Content) (k : VariableKind) (n r : ℕ) : Type 0 where
  pub sound : IsSound c
  pub has : kind_at c n ≡ Some k
  pub no_region : k ≢ kind.Region
  pub reaches : Reaches c n r

resolved_to-same : (regions : Bool) (c : Content) (t u : Tree) → resolved c t ≡ resolved c u → resolved_to regions c t ≡ resolved_to regions c u
resolved_to-same true c t u e = ap (rooted c) e
resolved_to-same false c t u e = e

pub variable_value : (c : Content) (k : VariableKind) (n r : ℕ) (v : Tree) → LeadsToRoot c k n r → state_of c r ≡ Some (known v) → resolved c (variable_tree k n) ≡ resolved c v
variable_value c k n r v h e =
    resolved-reaches_known c (label.Leaf (leaf.Variable k n)) empty k n r v h.sound (record { is = refl; no_region = h.no_region; has = h.has }) h.reaches e

pub variable_root : (c : Content) (k : VariableKind) (n r : ℕ) → LeadsToRoot c k n r → state_of c r ≡ Some unset → resolved c (variable_tree k n) ≡ variable_tree k r
variable_root c k n r h e =
    let is : IsVariable c (label.Leaf (leaf.Variable k n)) k n = record { is = refl; no_region = h.no_region; has = h.has } in
    let there = IsVariable-reaches c (label.Leaf (leaf.Variable k n)) k n r h.sound is h.reaches in
    resolved-variable_reaches c k n r h.sound h.no_region h.has h.reaches
    ∙ resolved-variable_unset c (label.Leaf (leaf.Variable k r)) empty r h.sound (IsVariable-infer c (label.Leaf (leaf.Variable k r)) k r there) e

-- a variable that is the value of another
pub record ValueVariable (c : Content) (k j : VariableKind) (m : ℕ) (v : Tree) : Type 0 where
  pub has : kind_at c m ≡ Some j
  pub is : v ≡ variable_tree j m
  pub no_region : j ≢ kind.Region
  pub lower : rank_of_kind j < rank_of_kind k

-- a step for a tree is one for each tree with the same image
IsStep-image : (covers : Tree → Type 0) (image : Tree → Tree) (ts : List Tree) (t v : Tree) (s : Step) → image t ≡ image v → IsStep covers image ts v s → IsStep covers image ts t s
IsStep-image covers image ts t v (step.Done r) e h = (h.0, h.1 ∙ sym e)
IsStep-image covers image ts t v (step.Down n) e h = (h.0, down (tree_at ts n) h.1)
  where
    down : (x : Tree) → GoesDown covers image v x → GoesDown covers image t x
    down empty g = g
    down (more a b) g = g
    down (node l c) g = (e ∙ g.0, g.1)

-- what stands at the root of a variable's class, by the entries
module _ (ts : List Tree) (t : Table) (k : VariableKind) (n r : ℕ) (s : State) (table : IsTable ts t) (has : kind_at (content_of ts t.entries) n ≡ Some k) (no_region : k ≢ kind.Region) (class : HasClass t.entries n r s) where
  abbrev content : Content
  content = content_of ts t.entries

  pub has_root : LeadsToRoot content k n r
  has_root =
      record { sound = table.now.sound; has = has; no_region = no_region; reaches = Reaches-leads ts t.entries n r class.root.leads }

  root_kind : kind_at content r ≡ Some k
  root_kind =
      (IsVariable-reaches content (label.Leaf (leaf.Variable k n)) k n r table.now.sound (record { is = refl; no_region = no_region; has = has }) has_root.reaches).has

  state_is : state_of content r ≡ Some (state_with ts s)
  state_is = state_of-class ts t.entries n r s class

  module _ (x : NodeId) (is : s ≡ Known x) where
    pub known_at : state_of content r ≡ Some (known (tree_at ts x))
    known_at = state_is ∙ ap (λ y. Some (state_with ts y)) is

    pub value_image : (regions : Bool) → resolution_of (resolution ts t regions) (variable_tree k n) ≡ resolution_of (resolution ts t regions) (tree_at ts x)
    value_image regions =
        resolved_to-same regions content (variable_tree k n) (tree_at ts x) (variable_value content k n r (tree_at ts x) has_root known_at)

    pub value_goes_down : (regions : Bool) (l : Label) → tree_at ts x ≡ node l (children (tree_at ts x)) → variable_of l ≡ None → GoesDown (CanResolve (resolution ts t regions)) (resolution_of (resolution ts t regions)) (variable_tree k n) (tree_at ts x)
    value_goes_down regions l node_is none =
        let sound = table.now.sound in
        goes_down (resolution ts t regions) (variable_tree k n) (tree_at ts x) l (children (tree_at ts x)) node_is none (record { sound = sound; knows = sound.known_trees r (tree_at ts x) known_at }) (value_image regions)

    -- the value is a variable
    pub value_variable : (l : Label) (j : VariableKind) (m : ℕ) → tree_at ts x ≡ node l (children (tree_at ts x)) → Meets (shape l) (children (tree_at ts x)) → l ≡ label.Leaf (leaf.Variable j m) → ValueVariable content k j m (tree_at ts x)
    value_variable l j m node_is formed names =
        let sound = table.now.sound in
        let v : tree_at ts x ≡ variable_tree j m = variable_node (tree_at ts x) l j m node_is formed (ap variable_of names) in
        let knows : Knows content (variable_tree j m) = subst (λ (y : Tree). Knows content y) v (sound.known_trees r (tree_at ts x) known_at) in
        let sort : Some (of_sort (sort_of_variable j)) ≡ Some (of_sort (sort_of_variable k)) = ap kind_of (sym v) ∙ (sound.fits r (tree_at ts x) k known_at root_kind).0 in
        record {
          has = knows.0.0;
          is = v;
          no_region = λ e. no_region_sort k no_region (some_inj _ _ (sym sort ∙ ap (λ i. Some (of_sort (sort_of_variable i))) e));
          lower = subst (λ (y : Tree). variable_rank y < rank_of_kind k) v (sound.ranks r (tree_at ts x) k known_at root_kind);
        }

    -- a step for the value is one for the variable
    pub value_step : (regions : Bool) (us : List Tree) (h : Step) → IsStep (CanResolve (resolution ts t regions)) (resolution_of (resolution ts t regions)) us (tree_at ts x) h → IsStep (CanResolve (resolution ts t regions)) (resolution_of (resolution ts t regions)) us (variable_tree k n) h
    value_step regions us h i = IsStep-image (CanResolve (resolution ts t regions)) (resolution_of (resolution ts t regions)) us (variable_tree k n) (tree_at ts x) h (value_image regions) i

  pub root_image : (regions : Bool) → s ≡ Unset → variable_tree k r ≡ resolution_of (resolution ts t regions) (variable_tree k n)
  root_image regions is =
      sym (stays regions (variable_root content k n r has_root (state_is ∙ ap (λ y. Some (state_with ts y)) is)))
    where
      stays : (b : Bool) → resolved content (variable_tree k n) ≡ variable_tree k r → resolved_to b content (variable_tree k n) ≡ variable_tree k r
      stays true e = ap (rooted content) e ∙ same_node k no_region
        where
          same_node : (j : VariableKind) → j ≢ kind.Region → rooted content (variable_tree j r) ≡ variable_tree j r
          same_node kind.Ty d = refl
          same_node kind.Int d = refl
          same_node kind.Float d = refl
          same_node kind.Const d = refl
          same_node kind.Region d = absurd (d refl)
      stays false e = e
