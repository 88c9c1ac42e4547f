-- Variables that are looked up: their values, and those of values that are variables.
use Rattle.nts_unify.proofs.Changes.{some_inj}
use Rattle.std.proofs.Common.{◌≡◌, ◌≢◌, ℕ, ◌<◌, List, Option, Some, None, refl, sym, ap, subst, ◌∙◌, arith}
use Rattle.nts_model.specs.declared.labels.VariableKind.{VariableKind}
use Rattle.nts_model.specs.declared.labels.VariableKind.TheVariants as kind
use Rattle.nts_model.specs.declared.labels.Leaf.TheVariants as leaf
use Rattle.nts_model.specs.declared.labels.Label.{Label}
use Rattle.nts_model.specs.declared.labels.Label.TheVariants as label
use Rattle.nts_model.specs.Terms.Trees.{Tree, empty, more, node, children, kind_of, kind_of_label, of_sort, sort_of_variable, variable_of, variable_tree}
use Rattle.nts_model.specs.Tables.Contents.{Content, SlotState, unset, link, known, state_of, kind_at}
use Rattle.nts_model.specs.Tables.Resolving.{root_of, IsSound, Knows, rank_of, rank_of_kind, variable_rank}
use Rattle.nts_model.proofs.Tables.Roots.{kind_at-reaches, kind_at-root_of, root_of-root_of}
use Rattle.nts_store.specs.declared.nodes.NodeId.{NodeId}
use Rattle.nts_store.specs.Growth.{tree_at}
use Rattle.nts_unify.specs.declared.contents.State.{State}
use Rattle.nts_unify.specs.declared.contents.State.TheVariants.{Unset, Known}
use Rattle.nts_table.specs.Tables.{Table}
use Rattle.nts_unify.specs.Reading.{state_with, content_of}
use Rattle.nts_table.specs.Tables.{IsTable}
use Rattle.nts_unify.specs.Roots.{HasClass}
use Rattle.nts_table.specs.Classes.{value_or_root, shallow_variable, looked_up, shallowly_resolved}
use Rattle.nts_unify.proofs.Leading.{state_of-class, Reaches-leads, IsRoot-content}
use Rattle.nts_unify.proofs.NodeLemmas.{kind_of-variable}
use Rattle.nts_unify.proofs.NodeLemmas.{region_sort as no_region_sort}

looked_up-none : (c : Content) (l : Label) (x : Tree) → variable_of l ≡ None → looked_up c (node l x) ≡ node l x
looked_up-none c l x e = rw e refl

looked_up-variable : (c : Content) (l : Label) (x : Tree) (k : VariableKind) (n : ℕ) → variable_of l ≡ Some (k, n) → looked_up c (node l x) ≡ shallow_variable c k n
looked_up-variable c l x k n e = rw e refl

shallow_at_root : (c : Content) (k : VariableKind) (n : ℕ) (o : Option SlotState) → state_of c (root_of c n) ≡ o → shallow_variable c k n ≡ value_or_root k (root_of c n) o
shallow_at_root c k n o e = rw e refl

-- what is no variable stays
stays : (c : Content) (w : Tree) (k : VariableKind) → k ≢ kind.Region → kind_of w ≡ Some (of_sort (sort_of_variable k)) → variable_rank w ≡ 0 → looked_up c w ≡ w
stays c empty k r s z = refl
stays c (more a b) k r s z = refl
stays c (node l x) k r s z = by_variable (variable_of l) refl
  where
    region : (j : VariableKind) → rank_of_kind j ≡ 0 → j ≡ kind.Region
    region kind.Ty e = cc
    region kind.Int e = cc
    region kind.Float e = cc
    region kind.Const e = cc
    region kind.Region e = refl

    by_variable : (o : Option (VariableKind × ℕ)) → variable_of l ≡ o → looked_up c (node l x) ≡ node l x
    by_variable None e = looked_up-none c l x e
    by_variable (Some v) e =
        let rank : rank_of_kind v.0 ≡ 0 = sym (ap rank_of e) ∙ z in
        let own : kind_of_label l ≡ of_sort (sort_of_variable v.0) = kind_of-variable l v.0 v.1 e in
        absurd (no_region_sort k r (some_inj _ _ (sym s ∙ ap Some (own ∙ ap (λ j. of_sort (sort_of_variable j)) (region v.0 rank)))))

-- looking up again finds nothing new, but for a type variable
pub looked_up-twice : (c : Content) (v : Tree) → IsSound c → Knows c v → variable_rank v < 2 → looked_up c (looked_up c v) ≡ looked_up c v
looked_up-twice c empty s h low = refl
looked_up-twice c (more a b) s h low = refl
looked_up-twice c (node l x) s h low = by_variable (variable_of l) refl
  where
    at_root : (k : VariableKind) (n : ℕ) (o : Option SlotState) → state_of c (root_of c n) ≡ o → value_or_root k (root_of c n) o ≡ variable_tree k (root_of c n) → variable_of l ≡ Some (k, n) → looked_up c (looked_up c (node l x)) ≡ looked_up c (node l x)
    at_root k n o e q is =
        let first : looked_up c (node l x) ≡ variable_tree k (root_of c n) = looked_up-variable c l x k n is ∙ shallow_at_root c k n o e ∙ q in
        let again = root_of-root_of c n s.descends in
        let second : shallow_variable c k (root_of c n) ≡ variable_tree k (root_of c n) = rw again (shallow_at_root c k n o e ∙ q) in
        rw first second

    by_state : (k : VariableKind) (n : ℕ) (o : Option SlotState) → state_of c (root_of c n) ≡ o → kind_at c n ≡ Some k → rank_of_kind k < 2 → variable_of l ≡ Some (k, n) → looked_up c (looked_up c (node l x)) ≡ looked_up c (node l x)
    by_state k n None e has less is = at_root k n None e refl is
    by_state k n (Some unset) e has less is = at_root k n (Some unset) e refl is
    by_state k n (Some (link m)) e has less is = at_root k n (Some (link m)) e refl is
    by_state k n (Some (known w)) e has less is =
        let first : looked_up c (node l x) ≡ w = looked_up-variable c l x k n is ∙ shallow_at_root c k n (Some (known w)) e in
        let there : kind_at c (root_of c n) ≡ Some k = kind_at-root_of c n s ∙ has in
        let fits = s.fits (root_of c n) w k e there in
        let lower = s.ranks (root_of c n) w k e there in
        rw first (stays c w k fits.1 fits.0 (omega (arith, lower, less)))

    by_variable : (o : Option (VariableKind × ℕ)) → variable_of l ≡ o → looked_up c (looked_up c (node l x)) ≡ looked_up c (node l x)
    by_variable None e = let first = looked_up-none c l x e in rw first first
    by_variable (Some v) e =
        let has : kind_at c v.1 ≡ Some v.0 = rw e at h.0.0 in
        let rank : rank_of (variable_of l) ≡ rank_of_kind v.0 = ap rank_of e in
        by_state v.0 v.1 (state_of c (root_of c v.1)) refl has (omega (arith, low, rank)) e

-- a term that is looked up
pub record Looked (c : Content) (t v : Tree) : Type 0 where
  pub knows : Knows c v
  pub lower : variable_rank v < variable_rank t
  pub sort : kind_of v ≡ kind_of t
  pub image : shallowly_resolved c v ≡ shallowly_resolved c t

module _ (ts : List Tree) (t : Table) (u : Tree) (l : Label) (k : VariableKind) (n r : ℕ) (s : State) (table : IsTable ts t) (knows : Knows (content_of ts t.entries) u) (is : u ≡ node l (children u)) (names : l ≡ label.Leaf (leaf.Variable k n)) (class : HasClass t.entries n r s) where
  abbrev c : Content
  c = content_of ts t.entries

  variable : variable_of l ≡ Some (k, n)
  variable = ap variable_of names

  root_is : root_of c n ≡ r
  root_is = IsRoot-content ts t.entries n r table.now.sound.descends class.root

  has : kind_at c n ≡ Some k
  has = (let h : Knows c (node l (children u)) = subst (λ (y : Tree). Knows c y) is knows in let e = variable in rw e at h.0.0)

  there : kind_at c r ≡ Some k
  there = kind_at-reaches c n r table.now.sound (Reaches-leads ts t.entries n r class.root.leads) ∙ has

  state_is : (z : State) → s ≡ z → state_of c r ≡ Some (state_with ts z)
  state_is z e = state_of-class ts t.entries n r s class ∙ ap (λ x. Some (state_with ts x)) e

  own_sort : kind_of u ≡ Some (of_sort (sort_of_variable k))
  own_sort = ap kind_of is ∙ ap Some (kind_of-variable l k n variable)

  own_rank : variable_rank u ≡ rank_of_kind k
  own_rank = ap variable_rank is ∙ ap rank_of variable

  pub look_known : (x : NodeId) → s ≡ Known x → Looked c u (tree_at ts x)
  look_known x e =
      let sound = table.now.sound in
      let state : state_of c r ≡ Some (known (tree_at ts x)) = state_is (Known x) e in
      let first : looked_up c u ≡ tree_at ts x = ap (looked_up c) is ∙ looked_up-variable c l (children u) k n variable ∙ shallow_at_root c k n (Some (known (tree_at ts x))) (ap (state_of c) root_is ∙ state) in
      let lower = sound.ranks r (tree_at ts x) k state there in
      let known_tree = sound.known_trees r (tree_at ts x) state in
      record {
        knows = known_tree;
        lower = omega (arith, lower, own_rank);
        sort = (sound.fits r (tree_at ts x) k state there).0 ∙ sym own_sort;
        image = looked_up-twice c (tree_at ts x) sound known_tree (below_two k lower) ∙ sym (ap (looked_up c) first);
      }
    where
      below_two : (j : VariableKind) {m : ℕ} → m < rank_of_kind j → m < 2
      below_two kind.Ty h = h
      below_two kind.Int h = omega (arith, h)
      below_two kind.Float h = omega (arith, h)
      below_two kind.Const h = omega (arith, h)
      below_two kind.Region h = omega (arith, h)

  pub look_unset : s ≡ Unset → variable_tree k r ≡ shallowly_resolved c u
  look_unset e =
      let state : state_of c r ≡ Some unset = state_is Unset e in
      let first : looked_up c u ≡ variable_tree k r = ap (looked_up c) is ∙ looked_up-variable c l (children u) k n variable ∙ shallow_at_root c k n (Some unset) (ap (state_of c) root_is ∙ state) ∙ ap (variable_tree k) root_is in
      let again : root_of c r ≡ r = ap (root_of c) (sym root_is) ∙ root_of-root_of c n table.now.sound.descends ∙ root_is in
      let second : looked_up c (variable_tree k r) ≡ variable_tree k r = looked_up-variable c (label.Leaf (leaf.Variable k r)) empty k r refl ∙ shallow_at_root c k r (Some unset) (ap (state_of c) again ∙ state) ∙ ap (variable_tree k) again in
      sym (ap (looked_up c) first ∙ second)

  pub sort_kept : kind_of (variable_tree k r) ≡ kind_of u
  sort_kept = sym own_sort
