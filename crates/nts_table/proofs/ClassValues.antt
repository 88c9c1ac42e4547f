-- The value or the root of a variable, by the entries.
use Rattle.std.proofs.Common.{◌≡◌, ℕ, List, Some, refl, ap, ◌∙◌}
use Rattle.nts_model.specs.declared.labels.VariableKind.{VariableKind}
use Rattle.nts_model.specs.Terms.Trees.{Tree, kind_of, of_sort, sort_of_variable, Place, variable_tree}
use Rattle.nts_model.specs.Tables.Contents.{kind_at}
use Rattle.nts_model.specs.Tables.Resolving.{root_of, resolved, Knows}
use Rattle.nts_model.proofs.Tables.Roots.{kind_at-reaches}
use Rattle.nts_model.proofs.Tables.Kept.{kind_of-resolved}
use Rattle.nts_store.specs.declared.nodes.NodeId.{NodeId}
use Rattle.nts_store.specs.Growth.{tree_at, IsIn}
use Rattle.nts_terms.specs.Handles.{Holds}
use Rattle.nts_unify.specs.declared.contents.State.TheVariants.{Unset, Known}
use Rattle.nts_table.specs.Tables.{Table}
use Rattle.nts_unify.specs.Reading.{content_of}
use Rattle.nts_table.specs.Tables.{IsTable}
use Rattle.nts_unify.specs.Roots.{IsRoot, HasClass}
use Rattle.nts_table.specs.Classes.{shallow_variable}
use Rattle.nts_unify.proofs.Leading.{state_of-class, Reaches-leads, IsRoot-content}

module _ (ts : List Tree) (t : Table) (k : VariableKind) (n r : ℕ) (table : IsTable ts t) where
  root_is : IsRoot t.entries n r → root_of (content_of ts t.entries) n ≡ r
  root_is root = IsRoot-content ts t.entries n r table.now.sound.descends root

  pub shallow_known : (x : NodeId) → HasClass t.entries n r (Known x) → tree_at ts x ≡ shallow_variable (content_of ts t.entries) k n
  shallow_known x class = rw (root_is class.root, state_of-class ts t.entries n r (Known x) class) refl

  pub shallow_known_kind : (x : NodeId) → HasClass t.entries n r (Known x) → kind_at (content_of ts t.entries) n ≡ Some k → kind_of (tree_at ts x) ≡ Some (of_sort (sort_of_variable k))
  shallow_known_kind x class has =
      let c = content_of ts t.entries in
      let there : kind_at c r ≡ Some k = kind_at-reaches c n r table.now.sound (Reaches-leads ts t.entries n r class.root.leads) ∙ has in
      (table.now.sound.fits r (tree_at ts x) k (state_of-class ts t.entries n r (Known x) class) there).0

  pub shallow_unset : HasClass t.entries n r Unset → variable_tree k r ≡ shallow_variable (content_of ts t.entries) k n
  shallow_unset class = rw (root_is class.root, state_of-class ts t.entries n r Unset class) refl

-- a handle of the tree under the values
pub Holds-resolved : (p : Place) (a b : List Tree) (t : Table) (x y : NodeId) → IsTable a t → Knows (content_of a t.entries) (tree_at a x) → Holds p a x → IsIn b y → tree_at b y ≡ resolved (content_of a t.entries) (tree_at a x) → Holds p b y
Holds-resolved p a b t x y h k holds within is =
    let kind = ap kind_of is ∙ kind_of-resolved (content_of a t.entries) (tree_at a x) h.now.sound k in
    record { within = within; fits = rw kind holds.fits }
