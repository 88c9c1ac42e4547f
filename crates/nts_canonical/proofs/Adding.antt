-- The values of kinds, one after another.
use Rattle.std.proofs.Common.{◌≡◌, ⊎_elim, ℕ, zero, suc, ◌+◌, ◌<◌, ◌≤◌, List, [], ◌∷◌, ◌++◌, map, length, Option, Some, None, sym, ap, ◌∙◌, arith}
use Rattle.std.specs.Prelude.{slice_get, All, IfSome}
use Rattle.std.proofs.lemmas.Option.{slice_get_past}
use Rattle.std.proofs.lemmas.List.{length-map}
use Rattle.nts_unify.proofs.Changes.{slice_get-map}
use Rattle.nts_model.specs.declared.labels.VariableKind.TheVariants as kind
use Rattle.nts_model.specs.declared.labels.Leaf.{Leaf}
use Rattle.nts_model.specs.declared.labels.Leaf.TheVariants as leaf
use Rattle.nts_model.specs.declared.labels.Label.{Label}
use Rattle.nts_model.specs.declared.labels.Label.TheVariants as label
use Rattle.nts_model.specs.Terms.Trees.{Tree, empty, more, node}
use Rattle.nts_model.specs.Tables.Resolving.{Knows}
use Rattle.nts_model.specs.Terms.Substitutions.{leaf_tree}
use Rattle.nts_model.specs.Canonical.Inputs.{PositionKind, type_variable, integer_variable, float_variable, const_variable, region_variable, placeholder}
use Rattle.nts_model.proofs.Tables.Under.{same_or_other}
use Rattle.nts_terms.specs.declared.handles.GenericArg.{GenericArg}
use Rattle.nts_store.specs.Growth.{tree_at}
use Rattle.nts_unify.specs.declared.contents.Variable.{Variable}
use Rattle.nts_unify.specs.Entries.{Entries, added}
use Rattle.nts_table.specs.Making.{unset_variable, IsAddedTo}
use Rattle.nts_unify.specs.Reading.{content_of, LinksDescend}
use Rattle.nts_unify.proofs.Leading.{kind_within}
use Rattle.nts_canonical.specs.Forms.{trees_of}
use Rattle.nts_canonical.specs.Kinds.{IsInputKind, variables_before, if_there, link_to, value_leaves, made_variable, made_variables}
use Rattle.nts_model.specs.Answers.Responses.{universe_of_kind}
use Rattle.nts_canonical.specs.Building.{type_variable_of, AddsValue, IsArgOf}
use Rattle.nts_canonical.proofs.SubRooted.{sub_root_is}
use Rattle.nts_canonical.proofs.Making.{value-at, length-values, append-none}
use Rattle.nts_canonical.proofs.Kinded.{root-first}

-- a type variable that a table knows is the table's
within-leaf : (ts : List Tree) (e : Entries) (l : Leaf) (c : Tree) → Knows (content_of ts e) (node (label.Leaf l) c) → IfSome (type_variable_of (Some (node (label.Leaf l) c))) (λ n. n < length e.variables)
within-leaf ts e (leaf.Variable kind.Ty n) c h = kind_within ts e n kind.Ty h.0.0
within-leaf ts e (leaf.Variable kind.Int n) c h = tt
within-leaf ts e (leaf.Variable kind.Float n) c h = tt
within-leaf ts e (leaf.Variable kind.Const n) c h = tt
within-leaf ts e (leaf.Variable kind.Region n) c h = tt
within-leaf ts e (leaf.Region r) c h = tt
within-leaf ts e (leaf.TyConstant a) c h = tt
within-leaf ts e (leaf.ConstConstant a) c h = tt

within-node : (ts : List Tree) (e : Entries) (l : Label) (c : Tree) → Knows (content_of ts e) (node l c) → IfSome (type_variable_of (Some (node l c))) (λ n. n < length e.variables)
within-node ts e (label.Leaf l) c h = within-leaf ts e l c h
within-node ts e (label.Bound s i n) c h = tt
within-node ts e (label.Ty x) c h = tt
within-node ts e (label.Const x) c h = tt
within-node ts e (label.Clause x) c h = tt
within-node ts e (label.Predicate x) c h = tt
within-node ts e (label.List x) c h = tt

within-tree : (ts : List Tree) (e : Entries) (t : Tree) → Knows (content_of ts e) t → IfSome (type_variable_of (Some t)) (λ n. n < length e.variables)
within-tree ts e empty h = tt
within-tree ts e (more a b) h = tt
within-tree ts e (node l c) h = within-node ts e l c h

pub type_within : (ts : List Tree) (e : Entries) (xs : List GenericArg) (r : ℕ) → All (IsArgOf ts e) xs → IfSome (type_variable_of (slice_get (trees_of ts xs) r)) (λ n. n < length e.variables)
type_within ts e [] r h = tt
type_within ts e (x ∷ xs) zero h = within-tree ts e (tree_at ts x.node) (h 0 x (omega arith)).known
type_within ts e (x ∷ xs) (suc r) h = type_within ts e xs r (λ k d l. h (suc k) d (omega (arith, l)))

-- the kind of one more position
pub record IsNextKind (ps : List PositionKind) (k : PositionKind) : Type 0 where
  pub kind : IsInputKind (ps ++ k ∷ []) (length ps) k

-- the value at the first position of a sub root
value_there : (ps : List PositionKind) (r : ℕ) → slice_get ps r ≡ Some (type_variable 0 r) → type_variable_of (slice_get (map leaf_tree (value_leaves 0 ps)) r) ≡ Some (variables_before ps r)
value_there ps r h =
    let none : 0 + variables_before ps r ≡ variables_before ps r = omega arith in
    ap type_variable_of (slice_get-map leaf_tree (value_leaves 0 ps) r (leaf.Variable kind.Ty (0 + variables_before ps r)) (value-at 0 ps r (type_variable 0 r) h)) ∙ ap Some none

value_past : (ps : List PositionKind) (r : ℕ) → length ps ≤ r → type_variable_of (slice_get (map leaf_tree (value_leaves 0 ps)) r) ≡ None
value_past ps r l =
    let long = length-map (value_leaves 0 ps) leaf_tree ∙ length-values 0 ps in
    ap type_variable_of (slice_get_past (map leaf_tree (value_leaves 0 ps)) r (omega (arith, l, long)))

old-at : (ps : List PositionKind) (k x : PositionKind) (r : ℕ) → r < length ps → slice_get (ps ++ k ∷ []) r ≡ Some x → slice_get ps r ≡ Some x
old-at [] k x r l e = absurd (omega (arith, l))
old-at (p ∷ ps) k x zero l e = e
old-at (p ∷ ps) k x (suc r) l e = old-at ps k x r (omega (arith, l)) e

link_past : (ps : List PositionKind) (r : ℕ) → length ps ≤ r → link_to ps r ≡ None
link_past ps r l = ap (λ o. if_there o (variables_before ps r)) (slice_get_past ps r l)

link_there : (ps : List PositionKind) (r : ℕ) (k : PositionKind) → slice_get ps r ≡ Some k → link_to ps r ≡ Some (variables_before ps r)
link_there ps r k h = ap (λ o. if_there o (variables_before ps r)) h

linked_with : ℕ → Option ℕ → Variable
linked_with u o = record (unset_variable kind.Ty u) { sub_link = o }

-- a type variable that is added leads where the kinds say
type_added : (ps : List PositionKind) (e f : Entries) (u r : ℕ) → LinksDescend e → e.variables ≡ made_variables [] ps → IsNextKind ps (type_variable u r) → IsAddedTo e f (unset_variable kind.Ty u) (type_variable_of (slice_get (map leaf_tree (value_leaves 0 ps)) r)) → f ≡ added e (linked_with u (link_to ps r))
unfolding linked_with
type_added ps e f u r d m q a = ⊎_elim
    (λ (s : r ≡ length ps). let none = value_past ps r (omega (arith, s)) in
    let is : f ≡ added e (unset_variable kind.Ty u) = rw none at a in
    is ∙ ap (λ o. added e (record (unset_variable kind.Ty u) { sub_link = o })) (sym (link_past ps r (omega (arith, s)))))
    (λ (o : r ≡ length ps → ⊥). let le = q.kind.1 in
    let there = old-at ps (type_variable u r) (type_variable 0 r) r (omega (arith, le, o)) q.kind.2 in
    let b : IsAddedTo e f (unset_variable kind.Ty u) (Some (variables_before ps r)) = rw (value_there ps r there) at a in
    let root = sub_root_is e d (variables_before ps r) b.0 b.1 ∙ root-first e ps r d m there in
    b.2 ∙ ap (λ o. added e (record (unset_variable kind.Ty u) { sub_link = o })) (ap Some root ∙ sym (link_there ps r (type_variable 0 r) there)))
    (same_or_other r (length ps))

-- what a value adds is the variable of its kind
pub adds_made : (ps : List PositionKind) (k : PositionKind) (e f : Entries) → LinksDescend e → e.variables ≡ made_variables [] ps → IsNextKind ps k → AddsValue k (universe_of_kind k) (map leaf_tree (value_leaves 0 ps)) e f → f ≡ record e { variables = e.variables ++ made_variable ps k }
unfolding linked_with
adds_made ps (type_variable u r) e f d m q a = type_added ps e f u r d m q a
adds_made ps integer_variable e f d m q a = a
adds_made ps float_variable e f d m q a = a
adds_made ps (const_variable u) e f d m q a = a
adds_made ps (region_variable u) e f d m q a = a
adds_made ps (placeholder s u n) e f d m q a = a ∙ ap (λ vs. record e { variables = vs }) (sym (append-none e.variables))
