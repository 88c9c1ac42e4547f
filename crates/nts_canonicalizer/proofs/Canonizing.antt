-- From the parts that are made for a goal to its canonical input.
use Rattle.std.proofs.Common.{◌≡◌, Bool, List, [], ◌∷◌, map, inl, inr, sym, ap, ◌∙◌}
use Rattle.nts_model.specs.declared.labels.Leaf.{Leaf}
use Rattle.nts_model.specs.declared.labels.Leaf.TheVariants as leaf
use Rattle.nts_model.specs.declared.labels.Label.{Label}
use Rattle.nts_model.specs.declared.labels.Label.TheVariants as label
use Rattle.nts_model.specs.Terms.Trees.{Tree, empty, more, node, variable_of}
use Rattle.nts_model.specs.Tables.Resolving.{Knows, KnowsVariable}
use Rattle.nts_model.specs.Terms.Substitutions.{replace}
use Rattle.nts_model.specs.Canonical.Numbered.{same, added, seen_node, seen, numbered, numbered_leaf, no_leaf}
use Rattle.nts_model.specs.Canonical.Inputs.{Input, CanonicalInput as Form, is_static, after_environment, after_predicate, originals, canonical_of, position_kind, whole}
use Rattle.nts_model.proofs.Terms.Listed.{either}
use Rattle.nts_model.proofs.Canonical.Numbering.{extends-self, extends-trans, extends-seen, numbered-replace}
use Rattle.nts_terms.specs.declared.handles.AliasTerm.{AliasTerm}
use Rattle.nts_terms.specs.declared.handles.Ty.{Ty}
use Rattle.nts_terms.specs.declared.handles.Goal.{Goal}
use Rattle.nts_store.specs.Growth.{tree_at, Extends}
use Rattle.nts_terms.specs.Handles.{HoldsEnv, HoldsPredicate}
use Rattle.nts_unify.specs.Entries.{Entries}
use Rattle.nts_unify.specs.Reading.{content_of}
use Rattle.nts_unify.proofs.Leading.{kind_within}
use Rattle.nts_canonical.specs.declared.types.QueryInput.{QueryInput}
use Rattle.nts_canonical.specs.declared.types.CanonicalInput.{CanonicalInput}
use Rattle.nts_canonical.specs.SubRoots.{sub_root_in}
use Rattle.nts_canonical.specs.Owned.{IsOwned, AreOwned}
use Rattle.nts_canonical.specs.Forms.{kind_of_var, hidden_pairs, form_of, input_of, AreHidden}
use Rattle.nts_canonical.proofs.PairLists.{hidden_row-kept}

-- the variables of a tree that the table knows are the table's
owned-leaf : (ts : List Tree) (e : Entries) (x : Leaf) → KnowsVariable (content_of ts e) (variable_of (label.Leaf x)) → IsOwned e x
owned-leaf ts e (leaf.Variable k n) h = kind_within ts e n k h
owned-leaf ts e (leaf.Region r) h = tt
owned-leaf ts e (leaf.TyConstant a) h = tt
owned-leaf ts e (leaf.ConstConstant a) h = tt

owned-added : (e : Entries) (s : List Leaf) (x : Leaf) → AreOwned e s → IsOwned e x → AreOwned e (added s x)
owned-added e [] x h o = (o, tt)
owned-added e (y ∷ s) x h o = elim (either (same x y)) [ inl p ↦ rw p h | inr p ↦ rw p (h.0, owned-added e s x h.1 o) ]

owned-node : (ts : List Tree) (e : Entries) (stays : Leaf → Bool) (s inside : List Leaf) (l : Label) → AreOwned e s → AreOwned e inside → KnowsVariable (content_of ts e) (variable_of l) → AreOwned e (seen_node stays s l inside)
owned-node ts e stays s i (label.Leaf x) h o k = elim (either (stays x)) [ inl p ↦ rw p h | inr p ↦ rw p (owned-added e s x h (owned-leaf ts e x k)) ]
owned-node ts e stays s i (label.Bound a b n) h o k = o
owned-node ts e stays s i (label.Ty x) h o k = o
owned-node ts e stays s i (label.Const x) h o k = o
owned-node ts e stays s i (label.Clause x) h o k = o
owned-node ts e stays s i (label.Predicate x) h o k = o
owned-node ts e stays s i (label.List x) h o k = o

pub owned-seen : (ts : List Tree) (e : Entries) (stays : Leaf → Bool) (s : List Leaf) (t : Tree) → AreOwned e s → Knows (content_of ts e) t → AreOwned e (seen stays s t)
owned-seen ts e stays s empty h k = h
owned-seen ts e stays s (more a b) h k = owned-seen ts e stays (seen stays s a) b (owned-seen ts e stays s a h k.0) k.1
owned-seen ts e stays s (node l c) h k = owned-node ts e stays s (seen stays s c) l h (owned-seen ts e stays s c h k.1) k.0.0

pub owned-originals : (ts : List Tree) (e : Entries) (i : Input) → Knows (content_of ts e) (whole i) → AreOwned e (originals i)
owned-originals ts e i k =
    owned-seen ts e no_leaf _ i.hidden (owned-seen ts e no_leaf _ i.predicate (owned-seen ts e is_static [] i.environment tt k.0) k.1.0) k.1.1.0

-- each part by the numbers of the whole
pub numbered-environment : (i : Input) → numbered is_static [] i.environment ≡ replace (numbered_leaf is_static (originals i)) i.environment
numbered-environment i =
    numbered-replace is_static [] i.environment (originals i) (extends-trans (extends-seen no_leaf (after_environment i) i.predicate) (extends-seen no_leaf (after_predicate i) i.hidden))

pub numbered-predicate : (i : Input) → numbered no_leaf (after_environment i) i.predicate ≡ replace (numbered_leaf no_leaf (originals i)) i.predicate
numbered-predicate i = numbered-replace no_leaf (after_environment i) i.predicate (originals i) (extends-seen no_leaf (after_predicate i) i.hidden)

pub numbered-hidden : (i : Input) → numbered no_leaf (after_predicate i) i.hidden ≡ replace (numbered_leaf no_leaf (originals i)) i.hidden
numbered-hidden i = numbered-replace no_leaf (after_predicate i) i.hidden (originals i) (extends-self (originals i))

equal_forms : (c d : Form) → c.environment ≡ d.environment → c.predicate ≡ d.predicate → c.hidden ≡ d.hidden → c.kinds ≡ d.kinds → c ≡ d
equal_forms c d e p h k = λ j. record { environment = e j; predicate = p j; hidden = h j; kinds = k j }

-- the trees of a query where positions stand for the leaves of a goal
pub record IsNumbered (b d : List Tree) (u : List Leaf) (g : Goal) (hs : List (AliasTerm × Ty)) (q : QueryInput) : Type 0 where
  pub environment : tree_at d q.goal.param_env.node ≡ replace (numbered_leaf is_static u) (tree_at b g.param_env.node)
  pub predicate : tree_at d q.goal.predicate.node ≡ replace (numbered_leaf no_leaf u) (tree_at b g.predicate.node)
  pub hidden : hidden_pairs d q.predefined_opaques_in_body.items ≡ replace (numbered_leaf no_leaf u) (hidden_pairs b hs)

pub form_is : (a b d : List Tree) (e : Entries) (u : List Leaf) (g : Goal) (hs : List (AliasTerm × Ty)) (c : CanonicalInput) → Extends a b → HoldsEnv a g.param_env → HoldsPredicate a g.predicate → AreHidden a hs
    → u ≡ originals (input_of a e g hs) → IsNumbered b d u g hs c.canonical.value → map kind_of_var c.canonical.var_kinds.items ≡ map (position_kind (sub_root_in e) u) u
    → form_of d c ≡ canonical_of (input_of a e g hs)
form_is a b d e u g hs c x env pred hid s n k =
    let i = input_of a e g hs in
    equal_forms (form_of d c) (canonical_of i)
    (n.environment ∙ ap (replace (numbered_leaf is_static u)) (x.kept g.param_env.node env.within) ∙ ap (λ z. replace (numbered_leaf is_static z) i.environment) s ∙ sym (numbered-environment i))
    (n.predicate ∙ ap (replace (numbered_leaf no_leaf u)) (x.kept g.predicate.node pred.within) ∙ ap (λ z. replace (numbered_leaf no_leaf z) i.predicate) s ∙ sym (numbered-predicate i))
    (n.hidden ∙ ap (replace (numbered_leaf no_leaf u)) (hidden_row-kept a b hs hid x) ∙ ap (λ z. replace (numbered_leaf no_leaf z) i.hidden) s ∙ sym (numbered-hidden i))
    (k ∙ ap (λ z. map (position_kind (sub_root_in e) z) z) s)
