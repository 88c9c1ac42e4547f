-- A decided goal that is asked in a query: its positions are placeholders, so its query's goal is decided as it is, and handlers are
-- asked for it.
use Rattle.std.proofs.Common.{◌≡◌, inl, inr, ℕ, suc, ◌≤◌, ◌+◌, Bool, false, List, [], ◌∷◌, ◌++◌, map, length, refl, sym, ap, subst, ◌∙◌, arith}
use Rattle.nts_model.specs.declared.labels.Sort.{Sort}
use Rattle.nts_model.specs.declared.labels.Sort.TheVariants as sort
use Rattle.nts_model.specs.declared.labels.Leaf.{Leaf}
use Rattle.nts_model.specs.Terms.Trees.{Tree, empty, any_label, is_canonical, IsFormed}
use Rattle.nts_model.specs.Terms.Substitutions.{leaf_tree, filled}
use Rattle.nts_model.specs.Lists.{Among}
use Rattle.nts_model.specs.Derivations.Rules.{Mode}
use Rattle.nts_model.specs.Derivations.Handlers.{Handler, IsLawfulHandler}
use Rattle.nts_model.specs.Canonical.Numbered.{number, numbered, no_leaf, AreDistinct}
use Rattle.nts_model.specs.Canonical.Inputs.{Input, IsInput, canonical_of, CanonicalInput as Form, PositionKind, placeholder, position_kind, is_static, after_predicate, HaveKinds, made_of}
use Rattle.nts_model.specs.Answers.Responses.{IsOverPositions, universe_of_kind}
use Rattle.nts_model.proofs.Canonical.CanonicalForms.{making_gives_form}
use Rattle.nts_model.proofs.Terms.Unpositioned.{known_no_positions}
use Rattle.nts_decisions.specs.Deciding.{IsGoalDecided}
use Rattle.nts_decisions.specs.Queries.{IsNamedConstant, AreConstants, AreRootKinds}
use Rattle.nts_decisions.proofs.OwnAnswers.{IsRootPlaceholder, of_type, of_const, of_region, AreRootPlaceholders}
use Rattle.nts_decisions.proofs.ConstantGoals.{filled_constants, fixed_constant, of_leaf}
use Rattle.nts_decisions.proofs.RootedInputs.{decided_kinds, number_after, not_before, snoc, longer}
use Rattle.nts_decisions.proofs.DecidedInputs.{form_decided}
use Rattle.nts_store.specs.Formed.{AreFormed}
use Rattle.nts_store.specs.Growth.{tree_at}
use Rattle.nts_terms.specs.declared.handles.Goal.{Goal}
use Rattle.nts_terms.specs.declared.handles.GenericArg.{GenericArg}
use Rattle.nts_unify.specs.Reading.{content_of}
use Rattle.nts_table.specs.Tables.{Table}
use Rattle.nts_canonical.specs.declared.types.CanonicalInput.{CanonicalInput}
use Rattle.nts_canonical.specs.Building.{kinds_of}
use Rattle.nts_canonical.specs.Forms.{form_of}
use Rattle.nts_canonical.specs.Kinds.{value_leaf, value_leaves, count_of, kind_of_position}
use Rattle.nts_meaning.specs.Asking.{first_values, asked_environment}
use Rattle.nts_meaning.specs.Answering.{IsQueryInput}
use Rattle.nts_meaning.specs.Rounds.{BeginsQuery}
use Rattle.nts_evaluation.specs.Deciding.{IsQueryDecided, IsRootQuery}
use Rattle.nts_evaluation.proofs.DecidedCandidates.{root_leaves}

-- the leaf of a placeholder's position
root_value : (s : Sort) (n m : ℕ) → Leaf
root_value s n m = value_leaf (placeholder s 0 n) 0 m

no_static_root : (n : ℕ) (l : Leaf) → IsRootPlaceholder n l → is_static l ≡ false
no_static_root n l of_type = refl
no_static_root n l of_const = refl
no_static_root n l of_region = refl

no_static_roots : (n : ℕ) (ls : List Leaf) → AreRootPlaceholders n ls → (l : Leaf) → Among ls l → is_static l ≡ false
no_static_roots n [] p l i = absurd i
no_static_roots n (x ∷ xs) p l (inl e) = subst (λ z. is_static z ≡ false) (sym e) (no_static_root n x p.0)
no_static_roots n (x ∷ xs) p l (inr i) = no_static_roots (suc n) xs p.1 l i

-- their names tell them apart
pub record IsNamedFrom (n : ℕ) (l : Leaf) : Type 0 where
  pub name : ℕ
  pub from : n ≤ name
  pub is : IsRootPlaceholder name l

one_name : (n m : ℕ) (l : Leaf) → IsRootPlaceholder n l → IsRootPlaceholder m l → n ≡ m
one_name n m l of_type of_type = refl
one_name n m l of_const of_const = refl
one_name n m l of_region of_region = refl

named_from : (n : ℕ) (ls : List Leaf) (l : Leaf) → AreRootPlaceholders n ls → Among ls l → IsNamedFrom n l
named_from n [] l p i = absurd i
named_from n (x ∷ xs) l p (inl e) = record { name = n; from = omega arith; is = subst (IsRootPlaceholder n) (sym e) p.0 }
named_from n (x ∷ xs) l p (inr i) = (let r = named_from (suc n) xs l p.1 i in let f : suc n ≤ r.name = r.from in record { name = r.name; from = omega (arith, f); is = r.is })

distinct_roots : (n : ℕ) (ls : List Leaf) → AreRootPlaceholders n ls → AreDistinct ls
distinct_roots n [] p = tt
distinct_roots n (x ∷ xs) p =
    ((λ i. (let r = named_from (suc n) xs x p.1 i in let f : suc n ≤ r.name = r.from in let e : n ≡ r.name = one_name n r.name x p.0 r.is in omega (arith, f, e))), distinct_roots (suc n) xs p.1)

-- they have the kinds
kind_of_root : (r : ℕ → ℕ) (whole : List Leaf) (s : Sort) (n m : ℕ) → number whole (root_value s n m) ≡ n → position_kind r whole (root_value s n m) ≡ placeholder s 0 n
unfolding root_value
kind_of_root r whole sort.Ty n m e = ap (placeholder sort.Ty 0) e
kind_of_root r whole sort.Const n m e = ap (placeholder sort.Const 0) e
kind_of_root r whole sort.Region n m e = ap (placeholder sort.Region 0) e

kinds_back : (r : ℕ → ℕ) (whole done : List Leaf) (m : ℕ) (ks : List PositionKind) → done ++ value_leaves m ks ≡ whole → AreDistinct whole → AreRootKinds (length done) ks → map (position_kind r whole) (value_leaves m ks) ≡ ks
unfolding root_value
kinds_back r whole done m [] e d h = refl
kinds_back r whole done m (k ∷ ks) e d h =
    let l : Leaf = value_leaf k (universe_of_kind k) m in
    let rest : List Leaf = value_leaves (m + count_of (kind_of_position k)) ks in
    let s = h.0.0 in
    let is : k ≡ placeholder s 0 (length done) = h.0.1 in
    let place : number whole l ≡ length done = subst (λ z. number z l ≡ length done) e (number_after done rest l (not_before done rest l (subst AreDistinct (sym e) d))) in
    let same : l ≡ root_value s (length done) m = ap (λ z. value_leaf z (universe_of_kind z) m) is in
    let one : position_kind r whole l ≡ k = ap (position_kind r whole) same ∙ kind_of_root r whole s (length done) m (ap (number whole) (sym same) ∙ place) ∙ sym is in
    let more : map (position_kind r whole) rest ≡ ks = kinds_back r whole (done ++ l ∷ []) (m + count_of (kind_of_position k)) ks (snoc done rest l ∙ e) d (subst (λ z. AreRootKinds z ks) (sym (longer done l)) h.1) in
    cc (one, more)

root_have_kinds : (c : Form) (r : ℕ → ℕ) → AreRootKinds 0 c.kinds → HaveKinds c (value_leaves 0 c.kinds) r
root_have_kinds c r h =
    let p = root_leaves 0 0 c.kinds h in
    let d = distinct_roots 0 (value_leaves 0 c.kinds) p in
    record { distinct = d; no_static = no_static_roots 0 (value_leaves 0 c.kinds) p; kinds = kinds_back r (value_leaves 0 c.kinds) [] 0 c.kinds refl d h }

-- the terms that stand for them are named by the root
root_named : (n : ℕ) (l : Leaf) → IsRootPlaceholder n l → IsNamedConstant 0 l
root_named n l of_type = omega arith
root_named n l of_const = omega arith
root_named n l of_region = omega arith

roots_constant : (n : ℕ) (ls : List Leaf) → AreRootPlaceholders n ls → (v : Tree) → Among (map leaf_tree ls) v → AreConstants 0 v
roots_constant n [] p v i = absurd i
roots_constant n (x ∷ xs) p v (inl e) = subst (AreConstants 0) (sym e) (of_leaf 0 x (root_named n x p.0))
roots_constant n (x ∷ xs) p v (inr i) = roots_constant (suc n) xs p.1 v i

over_constant : (t : Tree) → IsOverPositions t → AreConstants 0 t
over_constant t h l o = fixed_constant 0 l (h.leaves l o)

-- the goal of a query, in its first table
pub record IsDecidedThere (h : Handler) (mode : Mode) (n : ℕ) (b : List Tree) (t : Table) (g : Goal) (qs : List GenericArg) (k : Bool) : Type 0 where
  pub query : IsRootQuery b t g qs
  pub decided : IsGoalDecided h mode n (tree_at b g.param_env.node) (tree_at b g.predicate.node) k

module _ (h : Handler) (law : IsLawfulHandler h) (mode : Mode) (n : ℕ) (k : Bool) (a b : List Tree) (input : CanonicalInput) (t : Table) (g : Goal) (qs : List GenericArg)
    (over : IsQueryInput a input) (begins : BeginsQuery a b input t g qs) (formed : AreFormed b) (d : IsQueryDecided h mode n (form_of a input) k) where
  pub its_kinds : AreRootKinds 0 (kinds_of input)
  its_kinds = subst (λ f. AreRootKinds 0 f.kinds) d.form (decided_kinds h mode n k d.asked d.proper d.no_hidden d.decided)

  made : Input
  made = made_of (form_of a input) (value_leaves 0 (kinds_of input)) (λ i. 0)

  env_there : tree_at b g.param_env.node ≡ asked_environment (form_of a input)
  env_there = begins.environment

  nothing_hidden : (let f = form_of a input in f.hidden) ≡ empty
  nothing_hidden = sym (ap (λ f. f.hidden) d.form) ∙ ap (λ z. numbered no_leaf (after_predicate d.asked) z) d.no_hidden

  made_proper : IsInput made
  unfolding made
  made_proper =
      let posed = begins.posed in
      let holds = posed.holds in
      let knows = posed.knows in
      let env = subst IsFormed begins.environment (formed g.param_env.node holds.env.within) in
      let predicate = subst IsFormed begins.predicate (formed g.predicate.node holds.predicate.within) in
      let first = ap (any_label is_canonical) (sym begins.environment) ∙ known_no_positions (content_of b t.entries) (tree_at b g.param_env.node) knows.env in
      let second = ap (any_label is_canonical) (sym begins.predicate) ∙ known_no_positions (content_of b t.entries) (tree_at b g.predicate.node) knows.predicate in
      let none : filled (first_values (kinds_of input)) (let f = form_of a input in f.hidden) ≡ empty = ap (filled (first_values (kinds_of input))) nothing_hidden in
      record {
        formed = (env, (predicate, (subst IsFormed (sym none) tt, tt)));
        no_positions = rw (first, second, ap (any_label is_canonical) none) refl;
      }

  made_form : canonical_of made ≡ form_of a input
  unfolding made
  made_form =
      subst (λ f. canonical_of (made_of f (value_leaves 0 f.kinds) (λ i. 0)) ≡ f) d.form
      (making_gives_form d.asked (value_leaves 0 (canonical_of d.asked).kinds) (λ i. 0) d.proper (root_have_kinds (canonical_of d.asked) (λ i. 0) (decided_kinds h mode n k d.asked d.proper d.no_hidden d.decided)))

  pub decided_there : IsDecidedThere h mode n b t g qs k
  unfolding made
  decided_there =
      let goal = form_decided h law mode n k d.asked made d.proper made_proper (d.form ∙ sym made_form) d.decided in
      let ls = root_leaves 0 0 (kinds_of input) its_kinds in
      let values = roots_constant 0 (value_leaves 0 (kinds_of input)) ls in
      let env = filled_constants 0 (first_values (kinds_of input)) (let f = form_of a input in f.environment) values (over_constant _ over.environment) in
      let predicate = filled_constants 0 (first_values (kinds_of input)) (let f = form_of a input in f.predicate) values (over_constant _ over.predicate) in
      record {
        query = record {
          kinds = kinds_of input;
          roots = its_kinds;
          first = begins.first;
          values = begins.values;
          constants = rw (begins.environment, begins.predicate) (λ l o. elim o [ inl p ↦ env l p | inr q ↦ elim q [ inl p ↦ predicate l p | inr p ↦ absurd p ] ]);
        };
        decided = rw (begins.environment, begins.predicate) goal;
      }
