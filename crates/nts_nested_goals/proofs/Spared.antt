-- Variables of which nothing else is asked, by the entries of a table and by its content.
use Rattle.std.proofs.Common.{◌≡◌, ℕ, List, Option, Some, None, option_map, slice_get, refl, sym, ap, ◌∙◌, subst}
use Rattle.std.proofs.lemmas.Option.{slice_get-map}
use Rattle.nts_model.specs.declared.labels.VariableKind.{VariableKind}
use Rattle.nts_model.specs.declared.labels.VariableKind.TheVariants as kind
use Rattle.nts_model.specs.declared.labels.Leaf.{Leaf}
use Rattle.nts_model.specs.declared.labels.Leaf.TheVariants as leaf
use Rattle.nts_model.specs.declared.labels.Label.{Label}
use Rattle.nts_model.specs.declared.labels.Label.TheVariants as label
use Rattle.nts_model.specs.declared.labels.AliasHead.{AliasHead}
use Rattle.nts_model.specs.declared.labels.PredicateHead.TheVariants as predicate
use Rattle.nts_model.specs.Terms.Trees.{Tree, empty, more, node, children, shape, Meets, variable_tree}
use Rattle.nts_model.specs.Terms.Placeholders.{CanName}
use Rattle.nts_model.specs.Tables.Contents.{map_slot, universe_of}
use Rattle.nts_model.specs.Tables.Passing.{AllLabels}
use Rattle.nts_model.specs.Derivations.Related.{pair}
use Rattle.nts_model.specs.Derivations.Rules.{statement_of}
use Rattle.nts_store.specs.Growth.{tree_at}
use Rattle.nts_terms.specs.declared.handles.AliasTerm.{AliasTerm}
use Rattle.nts_terms.specs.declared.handles.Term.{Term}
use Rattle.nts_terms.specs.declared.kinds.PredicateKind.{PredicateKind}
use Rattle.nts_terms.specs.declared.kinds.PredicateKind.TheVariants as statement
use Rattle.nts_terms.specs.declared.handles.Binder.{Binder}
use Rattle.nts_terms.specs.Handles.{alias_head}
use Rattle.nts_terms.specs.Kinds.{tree_of_predicate, tree_of_statement}
use Rattle.nts_unify.specs.declared.contents.Variable.{Variable}
use Rattle.nts_unify.specs.Entries.{Entries}
use Rattle.nts_unify.specs.Reading.{content_of, slot_of}
use Rattle.nts_nested_goals.specs.Unconstrained.{variable_universe, leaf_universe, term_universe, Spares, universe_at, IsFullyUnconstrained}

slot_universe : (ts : List Tree) (o : Option Variable) → map_slot (λ v. v.universe) (option_map (slot_of ts) o) ≡ option_map (λ (v : Variable). v.universe) o
slot_universe ts None = refl
slot_universe ts (Some v) = refl

same_universe : (ts : List Tree) (e : Entries) (n : ℕ) → universe_of (content_of ts e) n ≡ universe_at e n
same_universe ts e n = ap (map_slot (λ v. v.universe)) (slice_get-map (slot_of ts) e.variables n) ∙ slot_universe ts (slice_get e.variables n)

module _ (f g : ℕ → Option ℕ) (same : (n : ℕ) → f n ≡ g n) where
  same_variable : (k : VariableKind) (n : ℕ) → variable_universe f k n ≡ variable_universe g k n
  same_variable kind.Ty n = same n
  same_variable kind.Const n = same n
  same_variable k n = refl

  same_leaf : (l : Leaf) → leaf_universe f l ≡ leaf_universe g l
  same_leaf (leaf.Variable k n) = same_variable k n
  same_leaf l = refl

  same_label : (l : Label) → term_universe f l ≡ term_universe g l
  same_label (label.Leaf l) = same_leaf l
  same_label l = refl

  spares_too : (x : Label) (u : ℕ) (t : Tree) → AllLabels (Spares f x u) t → AllLabels (Spares g x u) t
  spares_too x u empty h = tt
  spares_too x u (more a b) h = (spares_too x u a h.0, spares_too x u b h.1)
  spares_too x u (node l c) h = (
    record {
      other = h.0.other;
      named = subst (CanName u) (same_label l) h.0.named;
    },
    spares_too x u c h.1,
  )

-- a leaf has no children
alone : (l : Leaf) (c : Tree) → Meets (shape (label.Leaf l)) c → c ≡ empty
alone l empty h = refl
alone l (more a b) h = absurd h
alone l (node x c) h = absurd h

variable_is : (t : Tree) (l : Label) (k : VariableKind) (n : ℕ) → t ≡ node l (children t) → Meets (shape l) (children t) → l ≡ label.Leaf (leaf.Variable k n) → t ≡ variable_tree k n
variable_is t l k n e m s =
    let none : children t ≡ empty = alone (leaf.Variable k n) (children t) (subst (λ y. Meets (shape y) (children t)) s m) in
    e ∙ ap (λ y. node y (children t)) s ∙ ap (node (label.Leaf (leaf.Variable k n))) none

-- what a goal says that normalizes an alias to a variable
pub asks : (ts : List Tree) (p q : Tree) (b : Binder PredicateKind) (a : AliasTerm) (t : Term) (l : Label) (k : VariableKind) (n : ℕ)
    → q ≡ p → q ≡ tree_of_predicate ts b → b.value ≡ statement.NormalizesTo a t → tree_at ts t.node ≡ node l (children (tree_at ts t.node)) → Meets (shape l) (children (tree_at ts t.node)) → l ≡ label.Leaf (leaf.Variable k n)
    → statement_of p ≡ node (label.Predicate (predicate.NormalizesTo (alias_head a.def_id))) (pair (tree_at ts a.args.node) (variable_tree k n))
asks ts p q b a t l k n same kind is e m s =
    ap statement_of (sym same ∙ kind) ∙ ap (tree_of_statement ts) is ∙ ap (λ y. node (label.Predicate (predicate.NormalizesTo (alias_head a.def_id))) (pair (tree_at ts a.args.node) y)) (variable_is (tree_at ts t.node) l k n e m s)

-- the goal that normalizes an alias with these arguments to the variable of this kind and number, whose label is x
module _ (ts : List Tree) (e : Entries) (d p : Tree) (a : AliasHead) (args : Tree) (k : VariableKind) (n : ℕ) (x : Label) (is : x ≡ label.Leaf (leaf.Variable k n))
    (goal : statement_of p ≡ node (label.Predicate (predicate.NormalizesTo a)) (pair args (variable_tree k n))) where
  pub spared_goal : (u : ℕ) → variable_universe (universe_at e) k n ≡ Some u → AllLabels (Spares (universe_at e) x u) d → AllLabels (Spares (universe_at e) x u) args → IsFullyUnconstrained (content_of ts e) d p
  spared_goal u w h y =
      let back : (m : ℕ) → universe_at e m ≡ universe_of (content_of ts e) m = λ m. sym (same_universe ts e m) in
      let spare : (t : Tree) → AllLabels (Spares (universe_at e) x u) t → AllLabels (Spares (universe_of (content_of ts e)) (label.Leaf (leaf.Variable k n)) u) t = λ t s. spares_too (universe_at e) (universe_of (content_of ts e)) back (label.Leaf (leaf.Variable k n)) u t (subst (λ l. AllLabels (Spares (universe_at e) l u) t) is s) in
      record {
        head = a;
        args = args;
        kind = k;
        number = n;
        universe = u;
        goal = goal;
        within = same_variable (universe_of (content_of ts e)) (universe_at e) (same_universe ts e) k n ∙ w;
        environment = spare d h;
        alias = spare args y;
      }

  -- the goal has one variable
  record IsThat (r : IsFullyUnconstrained (content_of ts e) d p) : Type 0 where
    kinds : k ≡ r.kind
    numbers : n ≡ r.number
    arguments : args ≡ r.args
    within : variable_universe (universe_at e) k n ≡ Some r.universe

  is_that : (r : IsFullyUnconstrained (content_of ts e) d p) → IsThat r
  is_that r =
      let one : node (label.Predicate (predicate.NormalizesTo a)) (pair args (variable_tree k n)) ≡ node (label.Predicate (predicate.NormalizesTo r.head)) (pair r.args (variable_tree r.kind r.number)) = sym goal ∙ r.goal in
      let ks : k ≡ r.kind = cc one in
      let ns : n ≡ r.number = cc one in
      record {
        kinds = ks;
        numbers = ns;
        arguments = cc one;
        within = rw (ks, ns) (sym (same_variable (universe_of (content_of ts e)) (universe_at e) (same_universe ts e) r.kind r.number) ∙ r.within);
      }

  pub goal_spared : (u : ℕ) → variable_universe (universe_at e) k n ≡ Some u → IsFullyUnconstrained (content_of ts e) d p → AllLabels (Spares (universe_at e) x u) d × AllLabels (Spares (universe_at e) x u) args
  goal_spared u w r =
      let h = is_that r in
      let us : u ≡ r.universe = (let z : Some u ≡ Some r.universe = sym w ∙ h.within in cc z) in
      let xs : x ≡ label.Leaf (leaf.Variable r.kind r.number) = is ∙ ap (λ y. label.Leaf (leaf.Variable y n)) h.kinds ∙ ap (λ y. label.Leaf (leaf.Variable r.kind y)) h.numbers in
      let spare : (t : Tree) → AllLabels (Spares (universe_of (content_of ts e)) (label.Leaf (leaf.Variable r.kind r.number)) r.universe) t → AllLabels (Spares (universe_at e) (label.Leaf (leaf.Variable r.kind r.number)) r.universe) t = spares_too (universe_of (content_of ts e)) (universe_at e) (same_universe ts e) (label.Leaf (leaf.Variable r.kind r.number)) r.universe in
      rw (xs, us, h.arguments) (spare d r.environment, spare r.args r.alias)

  pub none_spared : variable_universe (universe_at e) k n ≡ None → IsFullyUnconstrained (content_of ts e) d p → ⊥
  none_spared w r = (let z : None ≡ Some r.universe = sym w ∙ (let h = is_that r in h.within) in cc z)
