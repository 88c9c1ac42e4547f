-- Trees that are carried between a caller and a query.
use Rattle.std.proofs.Common.{◌≡◌, ℕ, suc, ◌+◌, List, [], refl, sym, ap, subst, ◌∙◌, arith}
use Rattle.nts_model.specs.declared.labels.Sort.{Sort}
use Rattle.nts_model.specs.declared.labels.Sort.TheVariants as sort
use Rattle.nts_model.specs.Answers.Responses.{placeholder_tree}
use Rattle.nts_model.specs.declared.labels.VariableKind.{VariableKind}
use Rattle.nts_model.specs.declared.labels.Leaf.{Leaf}
use Rattle.nts_model.specs.declared.labels.Leaf.TheVariants as leaf
use Rattle.nts_model.specs.declared.labels.Label.{Label}
use Rattle.nts_model.specs.declared.labels.Label.TheVariants as label
use Rattle.nts_model.specs.Terms.Trees.{Tree, empty, more, node, IsFormed}
use Rattle.nts_model.specs.Terms.Placeholders.{CanName, leaf_level, leaf_level_of}
use Rattle.nts_model.specs.Tables.Levels.{NamesAll, term_level}
use Rattle.nts_model.specs.Tables.Worlds.{IsValue}
use Rattle.nts_model.specs.Terms.Substitutions.{leaf_tree, put, replace, Instance, instance_of}
use Rattle.nts_model.specs.Refutation.Containing.{Carrier}
use Rattle.nts_model.proofs.Terms.Substituting.{replace-replace, replace-equal, replace-leaf}
use Rattle.nts_model.proofs.Terms.Composing.{Fits-instance, IsClosed-instance, IsFormed-instance, fits_itself, leaf_tree-inj as one_leaf}

-- what each leaf's tree is named by, each instance of a tree is
names_put : (f : Leaf → Tree) (u v : ℕ) → ((l : Leaf) → CanName u (leaf_level_of l) → NamesAll leaf_level v (f l)) → (l : Label) (c : Tree) → CanName u (leaf_level l) → NamesAll leaf_level v c → NamesAll leaf_level v (put f l c)
names_put f u v h (label.Leaf x) c e i = h x e
names_put f u v h (label.Bound a b n) c e i = (tt, i)
names_put f u v h (label.Ty x) c e i = (tt, i)
names_put f u v h (label.Const x) c e i = (tt, i)
names_put f u v h (label.Clause x) c e i = (tt, i)
names_put f u v h (label.Predicate x) c e i = (tt, i)
names_put f u v h (label.List x) c e i = (tt, i)

pub names_replaced : (f : Leaf → Tree) (u v : ℕ) → ((l : Leaf) → CanName u (leaf_level_of l) → NamesAll leaf_level v (f l)) → (t : Tree) → NamesAll leaf_level u t → NamesAll leaf_level v (replace f t)
names_replaced f u v h empty n = tt
names_replaced f u v h (more a b) n = (names_replaced f u v h a n.0, names_replaced f u v h b n.1)
names_replaced f u v h (node l c) n = names_put f u v h l (replace f c) n.0 (names_replaced f u v h c n.1)

-- what is named with its regions is named without
names_label : (u : ℕ) (l : Label) → CanName u (leaf_level l) → CanName u (term_level l)
names_label u (label.Leaf (leaf.Variable k n)) h = tt
names_label u (label.Leaf (leaf.Region r)) h = tt
names_label u (label.Leaf (leaf.TyConstant a)) h = h
names_label u (label.Leaf (leaf.ConstConstant a)) h = h
names_label u (label.Bound a b n) h = tt
names_label u (label.Ty x) h = tt
names_label u (label.Const x) h = tt
names_label u (label.Clause x) h = tt
names_label u (label.Predicate x) h = tt
names_label u (label.List x) h = tt

pub names_terms : (u : ℕ) (t : Tree) → NamesAll leaf_level u t → NamesAll term_level u t
names_terms u empty h = tt
names_terms u (more a b) h = (names_terms u a h.0, names_terms u b h.1)
names_terms u (node l c) h = (names_label u l h.0, names_terms u c h.1)

pub value_instance : (ι : Instance) (k : VariableKind) (t : Tree) → IsValue k t → IsValue k (instance_of ι t)
value_instance ι k t h = record { fits = Fits-instance ι k t h.fits; closed = IsClosed-instance ι t h.closed; formed = IsFormed-instance ι t h.formed }

-- back and forth, also of trees that are not formed: of filled values
module _ (p : ℕ) (ls : List Leaf) (κ : Carrier p ls) where
  pub carried_back : (t : Tree) → IsFormed t → instance_of κ.back (instance_of κ.to t) ≡ t
  carried_back t f =
      replace-replace κ.back.value κ.to.value t
      ∙ replace-equal (λ l. instance_of κ.back (κ.to.value l)) leaf_tree κ.returns t
      ∙ replace-leaf t f

  pub lowered : (t : Tree) → NamesAll leaf_level p t → NamesAll leaf_level 0 (instance_of κ.to t)
  lowered t h = names_replaced κ.to.value p 0 κ.lowers t h

  pub raised : (u : ℕ) (t : Tree) → NamesAll leaf_level u t → NamesAll leaf_level (p + u) (instance_of κ.back t)
  raised u t h = names_replaced κ.back.value u (p + u) (λ l e. κ.raises l u e) t h

-- at the root, where nothing is asked of the originals, each leaf is carried to itself
itself_named : (u : ℕ) (l : Leaf) → CanName u (leaf_level_of l) → NamesAll leaf_level u (leaf_tree l)
itself_named u (leaf.Variable k n) h = (tt, tt)
itself_named u (leaf.Region r) h = (h, tt)
itself_named u (leaf.TyConstant a) h = (h, tt)
itself_named u (leaf.ConstConstant a) h = (h, tt)

from_root : (u : ℕ) → 0 + u ≡ u
from_root u = omega arith

itself_new : (s : Sort) (u n : ℕ) → placeholder_tree s (suc u) n ≡ placeholder_tree s (0 + suc u) n
itself_new s u n = ap (λ z. placeholder_tree s z n) (sym (from_root (suc u)))

placeholder_formed : (s : Sort) (u n : ℕ) → IsFormed (placeholder_tree s u n)
placeholder_formed sort.Ty u n = (tt, tt)
placeholder_formed sort.Const u n = (tt, tt)
placeholder_formed sort.Region u n = (tt, tt)

identity : Instance
identity = record { value = leaf_tree; fits = fits_itself; formed = λ l. (tt, tt); closed = λ l. (tt, tt); distinct = λ l m i j e. one_leaf l m e; stays = λ r h. refl }

pub root_carrier : Carrier 0 []
unfolding identity
root_carrier =
    record {
      to = identity;
      back = identity;
      returns = λ l. refl;
      free = λ r. (r, refl);
      lowers = λ l h. itself_named 0 l h;
      raises = λ l u h. subst (λ z. NamesAll leaf_level z (leaf_tree l)) (sym (from_root u)) (itself_named u l h);
      new = λ s u n. replace-leaf (placeholder_tree s (suc u) n) (placeholder_formed s (suc u) n) ∙ itself_new s u n;
      original = λ l i c. absurd i;
    }
