-- A goal as the input of a query: its leaves are terms of the table.
use Rattle.std.proofs.Common.{◌≡◌, ⊎_elim, inl, inr, ℕ, List, [], ◌∷◌, map, refl, sym, ap, ◌∙◌, subst, arith}
use Rattle.std.specs.Prelude.{All}
use Rattle.std.specs.Global.{Vec}
use Rattle.std.proofs.lemmas.List.Elements.{All-head, All-tail, All-cons}
use Rattle.nts_model.specs.declared.labels.Leaf.{Leaf}
use Rattle.nts_model.specs.declared.labels.Leaf.TheVariants as leaf
use Rattle.nts_model.specs.declared.labels.Label.TheVariants as label
use Rattle.nts_model.specs.Terms.Trees.{Tree, empty, more, node, any_label, is_canonical, IsClosed}
use Rattle.nts_model.specs.Tables.Contents.{Content}
use Rattle.nts_model.specs.Terms.Placeholders.{leaf_level, CanName}
use Rattle.nts_model.specs.Tables.Levels.{NamesAll, term_level}
use Rattle.nts_model.specs.Tables.Resolving.{Knows, KnowsLabel}
use Rattle.nts_model.specs.Terms.Substitutions.{leaf_tree, Occurs}
use Rattle.nts_model.specs.Lists.{Among}
use Rattle.nts_model.specs.Canonical.Inputs.{Input, IsInput, OccursIn, originals}
use Rattle.nts_model.proofs.Canonical.CanonicalForms.{originals_are_leaves}
use Rattle.nts_theory.proofs.Responses.Answering.{canonical_environment_over, canonical_predicate_over}
use Rattle.nts_model.proofs.Terms.Unpositioned.{known_no_positions, false_or}
use Rattle.nts_model.specs.Answers.Responses.{IsOverPositions}
use Rattle.nts_store.specs.Formed.{AreFormed}
use Rattle.nts_store.specs.Growth.{tree_at, Extends}
use Rattle.nts_terms.specs.declared.handles.AliasTerm.{AliasTerm}
use Rattle.nts_terms.specs.declared.handles.GenericArg.{GenericArg}
use Rattle.nts_terms.specs.declared.handles.Goal.{Goal}
use Rattle.nts_terms.specs.declared.handles.Ty.{Ty}
use Rattle.nts_terms.specs.declared.modes.TypingMode.{TypingMode}
use Rattle.nts_terms.specs.Handles.{HoldsArg}
use Rattle.nts_terms.specs.Modes.{mode_of}
use Rattle.nts_unify.specs.Entries.{Entries}
use Rattle.nts_unify.specs.Reading.{content_of}
use Rattle.nts_unify.specs.Lawful.{content_of-extended}
use Rattle.nts_table.specs.Tables.{Table}
use Rattle.nts_canonical.specs.declared.types.CanonicalInput.{CanonicalInput}
use Rattle.nts_canonical.specs.Forms.{input_of, trees_of, hidden_pairs}
use Rattle.nts_canonical.specs.Building.{IsArgOf, IsCanonicalOf, IsAskable}
use Rattle.nts_meaning.specs.Evaluation.{IsPosed}
use Rattle.nts_meaning.specs.Answering.{IsQueryOf}

-- a leaf of a term of the table
pub leaf_known : (c : Content) (t : Tree) (l : Leaf) → Knows c t → Occurs l t → Knows c (leaf_tree l)
leaf_known c empty l h o = absurd o
leaf_known c (more a b) l h o = ⊎_elim (λ i. leaf_known c a l h.0 i) (λ i. leaf_known c b l h.1 i) o
leaf_known c (node m s) l h o = ⊎_elim (λ e. (subst (KnowsLabel c) (sym e) h.0, tt, tt)) (λ i. leaf_known c s l h.1 i) o

-- the leaves of an input without hidden types
input_leaf : (i : Input) (l : Leaf) (c : Content) → i.hidden ≡ empty → Knows c i.environment → Knows c i.predicate → OccursIn l i → Knows c (leaf_tree l)
input_leaf i l c none e p o =
    ⊎_elim (λ h. leaf_known c i.environment l e h.1) (λ h. ⊎_elim (λ k. leaf_known c i.predicate l p k) (λ k. absurd (subst (Occurs l) none k)) h) o

pub original_known : (i : Input) (c : Content) → IsInput i → i.hidden ≡ empty → Knows c i.environment → Knows c i.predicate → (l : Leaf) → Among (originals i) l → Knows c (leaf_tree l)
original_known i c proper none e p l m = input_leaf i l c none e p (((originals_are_leaves i proper).1 l).0 m)

-- the arguments that are known leaves
leaf_args : (ts : List Tree) (e : Entries) (xs : List GenericArg) (ls : List Leaf) → All (HoldsArg ts) xs → trees_of ts xs ≡ map leaf_tree ls → ((l : Leaf) → Among ls l → Knows (content_of ts e) (leaf_tree l)) → All (IsArgOf ts e) xs
leaf_args ts e [] ls h q k = λ i d l. absurd (omega (arith, l))
leaf_args ts e (x ∷ xs) [] h q k = cc
leaf_args ts e (x ∷ xs) (l ∷ ls) h q k =
    let first : tree_at ts x.node ≡ leaf_tree l = cc in
    let rest : trees_of ts xs ≡ map leaf_tree ls = cc in
    All-cons (IsArgOf ts e) x xs (record { holds = All-head (HoldsArg ts) x xs h; known = rw first (k l (inl refl)) }) (leaf_args ts e xs ls (All-tail (HoldsArg ts) x xs h) rest (λ m i. k m (inr i)))

pub leaves_closed : (ts : List Tree) (xs : List GenericArg) (ls : List Leaf) → trees_of ts xs ≡ map leaf_tree ls → All (λ o. IsClosed (tree_at ts o.node)) xs
leaves_closed ts [] ls q = λ i d l. absurd (omega (arith, l))
leaves_closed ts (x ∷ xs) [] q = cc
leaves_closed ts (x ∷ xs) (l ∷ ls) q =
    let first : tree_at ts x.node ≡ leaf_tree l = cc in
    let rest : trees_of ts xs ≡ map leaf_tree ls = cc in
    All-cons (λ o. IsClosed (tree_at ts o.node)) x xs (rw first (tt, tt)) (leaves_closed ts xs ls rest)

-- no hidden types
pub none_hidden : (ts : List Tree) (hs : List (AliasTerm × Ty)) → hidden_pairs ts hs ≡ empty → hs ≡ []
none_hidden ts [] e = refl
none_hidden ts (h ∷ hs) e = cc

-- a goal of the table as an input
pub input_proper : {a : List Tree} {t : Table} {g : Goal} → AreFormed a → IsPosed a t g → IsInput (input_of a t.entries g [])
input_proper {a} {t} {g} f p =
    let env = tree_at a g.param_env.node in
    let predicate = tree_at a g.predicate.node in
    let c = content_of a t.entries in
    record {
      formed = (f g.param_env.node p.holds.env.within, (f g.predicate.node p.holds.predicate.within, (tt, tt)));
      no_positions = false_or (any_label is_canonical env) _ (known_no_positions c env p.knows.env) (false_or (any_label is_canonical predicate) _ (known_no_positions c predicate p.knows.predicate) refl);
    }

pub query_made : {a b : List Tree} {t : Table} {g : Goal} {m : TypingMode} {r : Vec GenericArg × CanonicalInput} → AreFormed a → IsPosed a t g → Extends a b → mode_of m ≡ mode_of t.mode → IsCanonicalOf b (input_of a t.entries g []) m r → IsAskable b r → IsQueryOf a b t g r
query_made {a} {b} {t} {g} {m} {r} f p e q k w =
    let i = input_of a t.entries g [] in
    let proper = input_proper f p in
    let same = content_of-extended e p.table.now in
    let known = original_known i (content_of a t.entries) proper refl p.knows.env p.knows.predicate in
    record {
      form = k.form;
      proper = proper;
      originals = k.originals;
      mode = ap mode_of k.mode ∙ q;
      asks = record {
        asks = record { asked = i; proper = proper; form = k.form };
        input = w.input;
        environment = subst (λ z. IsOverPositions z.environment) (sym k.form) (canonical_environment_over i proper);
        predicate = subst (λ z. IsOverPositions z.predicate) (sym k.form) (canonical_predicate_over i proper);
        no_hidden = none_hidden b _ (ap (λ z. z.hidden) k.form);
      };
      args = leaf_args b t.entries r.0.items (originals i) k.holds_originals k.originals (λ l j. rw same (known l j));
      closed = leaves_closed b r.0.items (originals i) k.originals;
    }

-- the current universe names the leaves
leaf_named : (c : Content) (l : Leaf) → Knows c (leaf_tree l) → NamesAll term_level c.universe (leaf_tree l)
leaf_named c l h = (level_named l c.universe h.0.1, tt)
  where
    level_named : (l : Leaf) (u : ℕ) → CanName u (leaf_level (label.Leaf l)) → CanName u (term_level (label.Leaf l))
    level_named (leaf.Variable k n) u h = tt
    level_named (leaf.Region r) u h = tt
    level_named (leaf.TyConstant x) u h = h
    level_named (leaf.ConstConstant x) u h = h

pub original_named : (i : Input) (c : Content) → IsInput i → i.hidden ≡ empty → Knows c i.environment → Knows c i.predicate → (l : Leaf) → Among (originals i) l → NamesAll term_level c.universe (leaf_tree l)
original_named i c proper none e p l m = leaf_named c l (original_known i c proper none e p l m)
