-- Sides of pairs: what their labels say.
use Rattle.std.proofs.Common.{◌≡◌, ◌≢◌, ℕ, List, Bool, true, false, Option, Some, None, refl, sym, ap, ◌∙◌, subst}
use Rattle.std.specs.Prelude.{◌&&◌}
use Rattle.nts_model.specs.declared.labels.Sort.{Sort}
use Rattle.nts_model.specs.declared.labels.VariableKind.TheVariants as kind
use Rattle.nts_model.specs.declared.labels.Leaf.TheVariants as leaf
use Rattle.nts_model.specs.declared.labels.Label.{Label}
use Rattle.nts_model.specs.declared.labels.Label.TheVariants as label
use Rattle.nts_model.specs.Terms.Trees.{Tree, empty, node, label_of, children, is_alias, kind_of, kind_of_label, of_sort, shape, Meets, IsClosed, IsFormed, variable_of, variable_tree}
use Rattle.nts_model.specs.Tables.Contents.{Content}
use Rattle.nts_model.specs.Tables.Resolving.{resolved, rooted, Knows}
use Rattle.nts_model.specs.Tables.Holding.{AreOne}
use Rattle.nts_model.specs.Derivations.Related.{alias_label, IsAlias}
use Rattle.nts_model.proofs.Tables.Resolved.{resolved-variable_reaches}
use Rattle.nts_model.proofs.Terms.Substituting.{no_children}
use Rattle.nts_store.specs.TypeFlags.{escaping}
use Rattle.nts_unify.specs.declared.contents.State.TheVariants.{Unset}
use Rattle.nts_unify.specs.Entries.{Entries}
use Rattle.nts_unify.specs.Reading.{content_of, IsLawful}
use Rattle.nts_unify.specs.Roots.{IsRoot, HasClass}
use Rattle.nts_unify.proofs.Leading.{Reaches-leads}
use Rattle.nts_relating.specs.Relating.{IsOpen}
use Rattle.std.specs.Option.{is_some}
use Rattle.nts_relating.proofs.HeadLemmas.{head_open}
use Rattle.nts_unify.proofs.NodeLemmas.{variable_node}
use Rattle.nts_relating.proofs.RegionLemmas.{IsRegionVariable, regions-one}
use Rattle.nts_variance.specs.Parts.{has_parts, none_escapes, closed_alias, number_of_type}
use Rattle.nts_variance.specs.Taking.{number_at}
use Rattle.nts_variance.proofs.Looks.{bare, open_tree, closed_alias_tree}
use Rattle.nts_model.proofs.Tables.AlikeNodes.{alias_label_is as alias_is}

-- a node of which no closed alias's label and flags are told is none
pub tight_alias : (t : Tree) (l : Label) → t ≡ node l (children t) → closed_alias l (escaping t) ≡ false → IsAlias t → ⊥
tight_alias t l is e a =
    let labels : Some l ≡ Some (alias_label a.head) = sym (ap label_of is) ∙ ap label_of a.is in
    let head : l ≡ alias_label a.head = cc in
    let named : is_alias l ≡ true = ap is_alias head ∙ alias_is a.head in
    let loose : none_escapes (escaping t) ≡ false = sym (ap (λ b. b && none_escapes (escaping t)) named) ∙ e in
    open_tree t loose a.closed

-- .. and they are told of no other
pub not_loose : (t : Tree) (l : Label) → t ≡ node l (children t) → IsFormed t → (IsAlias t → ⊥) → closed_alias l (escaping t) ≡ false
not_loose t l is formed rigid = by_case (closed_alias l (escaping t)) refl
  where
    by_case : (b : Bool) → closed_alias l (escaping t) ≡ b → closed_alias l (escaping t) ≡ false
    by_case true e = absurd (rigid (closed_alias_tree t l is formed e).loose)
    by_case false e = e

-- two type variables of one class
type_variable : (l : Label) (n : ℕ) → number_of_type l ≡ Some n → variable_of l ≡ Some (kind.Ty, n)
type_variable (label.Leaf (leaf.Variable kind.Ty m)) n e = (let same : m ≡ n = cc in ap (λ x. Some (kind.Ty, x)) same)
type_variable (label.Leaf (leaf.Variable kind.Int m)) n e = cc
type_variable (label.Leaf (leaf.Variable kind.Float m)) n e = cc
type_variable (label.Leaf (leaf.Variable kind.Const m)) n e = cc
type_variable (label.Leaf (leaf.Variable kind.Region m)) n e = cc
type_variable (label.Leaf (leaf.Region r)) n e = cc
type_variable (label.Leaf (leaf.TyConstant a)) n e = cc
type_variable (label.Leaf (leaf.ConstConstant a)) n e = cc
type_variable (label.Bound s i m) n e = cc
type_variable (label.Ty h) n e = cc
type_variable (label.Const h) n e = cc
type_variable (label.Clause h) n e = cc
type_variable (label.Predicate h) n e = cc
type_variable (label.List h) n e = cc

-- a type variable is closed
pub type_closed : (t : Tree) (l : Label) (o : Option ℕ) → t ≡ node l (children t) → Meets (shape l) (children t) → number_of_type l ≡ o → is_some o ≡ true → IsClosed t
type_closed t l None is m named some = cc
type_closed t l (Some n) is m named some = subst IsClosed (sym (variable_node t l kind.Ty n is m (type_variable l n named))) (tt, tt)

rooted_at : (ts : List Tree) (e : Entries) (t : Tree) (l : Label) (n r : ℕ) → IsLawful ts e → Knows (content_of ts e) t → t ≡ node l (children t) → Meets (shape l) (children t) → number_of_type l ≡ Some n → IsRoot e n r → resolved (content_of ts e) t ≡ resolved (content_of ts e) (variable_tree kind.Ty r)
rooted_at ts e t l n r lawful knows is m named root =
    let c = content_of ts e in
    let whole = variable_node t l kind.Ty n is m (type_variable l n named) in
    let own : Knows c (variable_tree kind.Ty n) = subst (Knows c) whole knows in
    let no_region : kind.Ty ≢ kind.Region = λ q. cc in
    ap (resolved c) whole ∙ resolved-variable_reaches c kind.Ty n r lawful.sound no_region own.0.0 (Reaches-leads ts e n r root.leads)

pub one_class : (ts : List Tree) (e : Entries) (t u : Tree) (l m : Label) (x y r s : ℕ) → IsLawful ts e → Knows (content_of ts e) t → Knows (content_of ts e) u → t ≡ node l (children t) → u ≡ node m (children u) → Meets (shape l) (children t) → Meets (shape m) (children u)
    → number_of_type l ≡ Some x → number_of_type m ≡ Some y → IsRoot e x r → IsRoot e y s → r ≡ s → AreOne (content_of ts e) t u
one_class ts e t u l m x y r s lawful kt ku it iu mt mu nt nu rt ru same =
    let c = content_of ts e in
    let a = rooted_at ts e t l x r lawful kt it mt nt rt in
    let b = rooted_at ts e u m y s lawful ku iu mu nu ru in
    ap (rooted c) (a ∙ ap (λ n. resolved c (variable_tree kind.Ty n)) same ∙ sym b)

pub one_region_class : (c : Content) (a b : Tree) (x y r s : ℕ) → IsRegionVariable c a x r → IsRegionVariable c b y s → r ≡ s → AreOne c a b
one_region_class c a b x y r s va vb same = rw (va.is, vb.is) (regions-one c x y (va.root ∙ same ∙ sym vb.root))

-- two leaves of one label
pub one_leaf : (a b : Tree) (l m : Label) (s : Sort) → a ≡ node l (children a) → b ≡ node m (children b) → Meets (shape l) (children a) → Meets (shape m) (children b) → kind_of a ≡ Some (of_sort s) → has_parts l ≡ false → l ≡ m → a ≡ b
one_leaf a b l m s ia ib ma mb sorted plain same =
    let kinds : Some (kind_of_label l) ≡ Some (of_sort s) = ap kind_of (sym ia) ∙ sorted in
    let of_kind : kind_of_label l ≡ of_sort s = cc in
    let shaped = bare l s of_kind plain in
    let left : children a ≡ empty = no_children (children a) (subst (λ x. Meets x (children a)) shaped ma) in
    let right : children b ≡ empty = no_children (children b) (subst (λ x. Meets x (children b)) (ap shape (sym same) ∙ shaped) mb) in
    ia ∙ (λ i. node (same i) (left i)) ∙ sym (ib ∙ ap (node m) right)

-- a variable and its root
pub root_of_side : (ts : List Tree) (e : Entries) (t : Tree) (l : Label) (n r : ℕ) → IsLawful ts e → Knows (content_of ts e) t → t ≡ node l (children t) → Meets (shape l) (children t) → number_at t ≡ Some n → HasClass e n r Unset → IsOpen ts e t r
root_of_side ts e t l n r lawful knows is m named class = head_open ts e t l n r lawful knows is m (sym (ap number_at is) ∙ named) class

pub open_one : (ts : List Tree) (e : Entries) (t : Tree) (r : ℕ) (o : IsOpen ts e t r) → AreOne (content_of ts e) t (variable_tree o.bindable.of_kind r)
open_one ts e t r o = ap (rooted (content_of ts e)) o.same
