-- What the nodes of a line mean, while terms are made of them.
use Rattle.std.proofs.Common.{◌≡◌, ℕ, zero, suc, ◌<◌, ◌≤◌, get_or, slice_get, List, [], ◌∷◌, ◌++◌, All, map, reverse, length, take, drop, Option, Some, option_to_list, refl, sym, ap, ◌∙◌, arith}
use Rattle.std.specs.Global.{Vec}
use Rattle.std.proofs.lemmas.List.{reverse-append}
use Rattle.std.proofs.lemmas.List.Elements.{All-head, All-tail}
use Rattle.nts_model.specs.declared.labels.Label.TheVariants as label
use Rattle.nts_model.specs.declared.labels.ListHead.TheVariants as list
use Rattle.nts_model.specs.declared.labels.AliasHead.TheVariants as alias
use Rattle.nts_model.specs.declared.labels.ClauseHead.TheVariants as clause_head
use Rattle.nts_model.specs.Terms.Trees.{Tree, empty, more, node}
use Rattle.nts_terms.specs.declared.handles.GenericArg.{GenericArg}
use Rattle.nts_terms.specs.declared.handles.GenericArgs.{GenericArgs}
use Rattle.nts_store.specs.Growth.{tree_at, trees_at, Extends}
use Rattle.nts_terms.specs.declared.handles.Goal.{Goal}
use Rattle.nts_terms.specs.declared.handles.ParamEnv.{ParamEnv}
use Rattle.nts_terms.specs.declared.handles.Predicate.{Predicate}
use Rattle.nts_terms.specs.declared.handles.AliasDefId.TheVariants as alias_def
use Rattle.nts_terms.specs.declared.handles.Term.{Term}
use Rattle.nts_terms.specs.declared.kinds.ClauseKind.{ClauseKind}
use Rattle.nts_terms.specs.declared.kinds.ClauseKind.TheVariants as clause_kind
use Rattle.nts_store.specs.declared.nodes.NodeId.{NodeId}
use Rattle.nts_terms.specs.Handles.{HoldsArg, HoldsArgs, HoldsEnv}
use Rattle.nts_terms.specs.Kinds.{tree_of_args, tree_of_clause, tree_of_env}
use Rattle.nts_store.proofs.Growing.{Extends-trans, Extends-refl}
use Rattle.nts_text.specs.declared.resolver.Resolved.{Resolved}
use Rattle.nts_text.specs.declared.resolver.Resolved.TheVariants as nodes
use Rattle.nts_wording.specs.declared.build.BoundClause.{BoundClause}
use Rattle.nts_wording.specs.declared.variables.LineVariables.{LineVariables}
use Rattle.nts_wording.specs.Meaning.{Values, NodesMeaning, argument_row, argument_list, argument_count, term_of, statement_before, meaning_before, nodes_meaning, values_in, made_trees, binding_nothing, predicate_tree, clause_statement, statements, TakesArguments, TakesLast, StatesOf, MakesArgument, MakesStatement, AreSaid, States, AreConditions, IsGivenEnvironment, IsGoalFor, no_values, tree_at_place, environment_tree, IsEnvironmentFor}

-- the front of a list, and what stands behind it
take_front : {A : Type 0} (n : ℕ) (xs ys : List A) → length xs ≡ n → take n (xs ++ ys) ≡ xs
take_front zero [] ys h = refl
take_front zero (x ∷ xs) ys h = absurd (omega (arith, h))
take_front (suc n) [] ys h = absurd (omega (arith, h))
take_front (suc n) (x ∷ xs) ys h = ap (λ w. x ∷ w) (take_front n xs ys (omega (arith, h)))

drop_front : {A : Type 0} (n : ℕ) (xs ys : List A) → length xs ≡ n → drop n (xs ++ ys) ≡ ys
drop_front zero [] ys h = refl
drop_front zero (x ∷ xs) ys h = absurd (omega (arith, h))
drop_front (suc n) [] ys h = absurd (omega (arith, h))
drop_front (suc n) (x ∷ xs) ys h = drop_front n xs ys (omega (arith, h))

map_front : {A B : Type 0} (f : A → B) (xs ys : List A) → map f (xs ++ ys) ≡ map f xs ++ map f ys
map_front f [] ys = refl
map_front f (x ∷ xs) ys = ap (λ w. f x ∷ w) (map_front f xs ys)

length_map : {A B : Type 0} (f : A → B) (xs : List A) → length (map f xs) ≡ length xs
length_map f [] = refl
length_map f (x ∷ xs) = ap suc (length_map f xs)

-- terms of a store have the same trees later
row_later : (ts us : List Tree) (xs : List GenericArg) → Extends ts us → All (λ a. HoldsArg ts a) xs → trees_at ts (map (λ a. a.node) xs) ≡ argument_row (map (λ a. tree_at us a.node) xs)
row_later ts us [] e h = refl
row_later ts us (x ∷ xs) e h =
    let here : tree_at us x.node ≡ tree_at ts x.node = e.kept x.node (All-head (λ a. HoldsArg ts a) x xs h).within in
    cc (here, row_later ts us xs e (All-tail (λ a. HoldsArg ts a) x xs h))

-- what is taken from the end is the list that is made of it
pub takes : (ts mid : List Tree) (old new : Vec GenericArg) (args : List GenericArg) (count : ℕ) (l : GenericArgs)
    → reverse old.items ≡ args ++ reverse new.items → length args ≡ count → All (λ a. HoldsArg ts a) args → Extends ts mid → HoldsArgs mid l → tree_at mid l.node ≡ tree_of_args ts args
    → TakesArguments mid old new count l
takes ts mid old new args count l parts counted held e within tree us later =
    let f : GenericArg → Tree = λ a. tree_at us a.node in
    let split : made_trees us old ≡ map f args ++ made_trees us new = ap (map f) parts ∙ map_front f args (reverse new.items) in
    let long : length (map f args) ≡ count = length_map f args ∙ counted in (
      later.kept l.node within.within ∙ tree ∙ ap (λ r. node (label.List list.Args) r) (row_later ts us args (Extends-trans e later) held)
          ∙ ap argument_list (sym (take_front count (map f args) (made_trees us new) long) ∙ ap (take count) (sym split)),
      sym (ap (drop count) split ∙ drop_front count (map f args) (made_trees us new) long),
    )

-- what the last element is taken from begins with it, read from the end
pub last_taken : {A : Type 0} (old new : List A) (o : Option A) (x : A) → old ≡ new ++ option_to_list o → o ≡ Some x → reverse old ≡ x ∷ reverse new
last_taken old new o x h e = ap reverse (h ∙ ap (λ w. new ++ option_to_list w) e) ∙ reverse-append new (x ∷ [])

-- what was made of the last nodes, here and in each later store
abbrev pub IsMade : List Tree → LineVariables → List GenericArg → List Resolved → Vec GenericArg → List BoundClause → Type 0
IsMade ts variables values rs made found =
    (us : List Tree) → Extends ts us
    → (made_trees us made ≡ (nodes_meaning (values_in us variables values) rs).arguments) × (statements us (reverse found) ≡ (nodes_meaning (values_in us variables values) rs).predicates)

module _ (ts mid : List Tree) (variables : LineVariables) (values : List GenericArg) (rs : List Resolved) (old new : Vec GenericArg) (found : List BoundClause) where
  one_more : (us : List Tree) (last : Vec GenericArg) (a : GenericArg) (args : List Tree) (f : List Tree → Tree) (k : ℕ) → last.items ≡ new.items ++ a ∷ []
      → made_trees us old ≡ args → tree_at us a.node ≡ f (take k (made_trees us old)) → made_trees us new ≡ drop k (made_trees us old)
      → made_trees us last ≡ f (take k args) ∷ drop k args
  one_more us last a args f k pushed was here left =
      ap (λ xs. map (λ b. tree_at us b.node) (reverse xs)) pushed ∙ ap (map (λ b. tree_at us b.node)) (reverse-append new.items (a ∷ []))
      ∙ ap (λ t. t ∷ made_trees us new) (here ∙ ap (λ xs. f (take k xs)) was) ∙ ap (λ ts. f (take k args) ∷ ts) (left ∙ ap (drop k) was)

  -- one more argument
  pub made_argument : (r : Resolved) (last : Vec GenericArg) (a : GenericArg) → IsMade ts variables values rs old found → Extends ts mid
      → MakesArgument mid variables values r old new a → last.items ≡ new.items ++ a ∷ [] → IsMade mid variables values (r ∷ rs) last found
  made_argument (nodes.Binds s) last a h e makes pushed = absurd makes
  made_argument (nodes.BoundType i) last a h e makes pushed = λ us later.
      let was = h us (Extends-trans e later) in
      (one_more us last a _ (term_of (values_in us variables values) (nodes.BoundType i)) 0 pushed was.0 (makes us later).0 (makes us later).1, was.1)
  made_argument (nodes.BoundRegion i) last a h e makes pushed = λ us later.
      let was = h us (Extends-trans e later) in
      (one_more us last a _ (term_of (values_in us variables values) (nodes.BoundRegion i)) 0 pushed was.0 (makes us later).0 (makes us later).1, was.1)
  made_argument (nodes.Trait i n) last a h e makes pushed = absurd makes
  made_argument nodes.TypeOutlives last a h e makes pushed = absurd makes
  made_argument nodes.RegionOutlives last a h e makes pushed = absurd makes
  made_argument (nodes.Ctor i n) last a h e makes pushed = λ us later.
      let was = h us (Extends-trans e later) in
      (one_more us last a _ (term_of (values_in us variables values) (nodes.Ctor i n)) n pushed was.0 (makes us later).0 (makes us later).1, was.1)
  made_argument (nodes.Alias i n) last a h e makes pushed = λ us later.
      let was = h us (Extends-trans e later) in
      (one_more us last a _ (term_of (values_in us variables values) (nodes.Alias i n)) n pushed was.0 (makes us later).0 (makes us later).1, was.1)
  made_argument (nodes.Normalizes i n) last a h e makes pushed = absurd makes
  made_argument (nodes.Int i) last a h e makes pushed = λ us later.
      let was = h us (Extends-trans e later) in
      (one_more us last a _ (term_of (values_in us variables values) (nodes.Int i)) 0 pushed was.0 (makes us later).0 (makes us later).1, was.1)
  made_argument (nodes.Uint i) last a h e makes pushed = λ us later.
      let was = h us (Extends-trans e later) in
      (one_more us last a _ (term_of (values_in us variables values) (nodes.Uint i)) 0 pushed was.0 (makes us later).0 (makes us later).1, was.1)
  made_argument (nodes.TypeVariable i) last a h e makes pushed = λ us later.
      let was = h us (Extends-trans e later) in
      (one_more us last a _ (term_of (values_in us variables values) (nodes.TypeVariable i)) 0 pushed was.0 (makes us later).0 (makes us later).1, was.1)
  made_argument (nodes.TypeParam i) last a h e makes pushed = λ us later.
      let was = h us (Extends-trans e later) in
      (one_more us last a _ (term_of (values_in us variables values) (nodes.TypeParam i)) 0 pushed was.0 (makes us later).0 (makes us later).1, was.1)
  made_argument (nodes.RegionVariable i) last a h e makes pushed = λ us later.
      let was = h us (Extends-trans e later) in
      (one_more us last a _ (term_of (values_in us variables values) (nodes.RegionVariable i)) 0 pushed was.0 (makes us later).0 (makes us later).1, was.1)
  made_argument (nodes.RegionParam i) last a h e makes pushed = λ us later.
      let was = h us (Extends-trans e later) in
      (one_more us last a _ (term_of (values_in us variables values) (nodes.RegionParam i)) 0 pushed was.0 (makes us later).0 (makes us later).1, was.1)
  made_argument nodes.Static last a h e makes pushed = λ us later.
      let was = h us (Extends-trans e later) in
      (one_more us last a _ (term_of (values_in us variables values) nodes.Static) 0 pushed was.0 (makes us later).0 (makes us later).1, was.1)

  stated : (r : Resolved) (c : ClauseKind) (b : BoundClause) (last : List BoundClause) → ((v : Values) (m : NodesMeaning) → meaning_before v r m ≡ statement_before v r m)
      → IsMade ts variables values rs old found → Extends ts mid → StatesOf mid r old new c
      → b.binds.items ≡ [] → b.clause ≡ c → last ≡ found ++ b ∷ [] → IsMade mid variables values (r ∷ rs) new last
  stated r c b last means h e states unbound is pushed = λ us later.
      let was = h us (Extends-trans e later) in
      let v = values_in us variables values in
      let m = nodes_meaning v rs in
      let taken = states us v later in
      let first : clause_statement us b ≡ binding_nothing (term_of v r (take (argument_count r) m.arguments)) =
      ap (λ xs. record { binds = reverse xs; statement = tree_of_clause us b.clause }) unbound ∙ ap (λ k. binding_nothing (tree_of_clause us k)) is
      ∙ ap binding_nothing (taken.0 ∙ ap (λ xs. term_of v r (take (argument_count r) xs)) was.0) in (
        taken.1 ∙ ap (drop (argument_count r)) was.0 ∙ sym (ap (λ n. n.arguments) (means v m)),
        ap (λ xs. statements us (reverse xs)) pushed ∙ ap (statements us) (reverse-append found (b ∷ []))
            ∙ ap (λ s. s ∷ statements us (reverse found)) first
            ∙ ap (λ ps. binding_nothing (term_of v r (take (argument_count r) m.arguments)) ∷ ps) was.1 ∙ sym (ap (λ n. n.predicates) (means v m)),
      )

  -- one more predicate
  pub made_statement : (r : Resolved) (c : ClauseKind) (b : BoundClause) (last : List BoundClause) → IsMade ts variables values rs old found → Extends ts mid → MakesStatement mid r old new c
      → b.binds.items ≡ [] → b.clause ≡ c → last ≡ found ++ b ∷ [] → IsMade mid variables values (r ∷ rs) new last
  made_statement (nodes.Trait i n) c b last h e makes unbound is pushed = stated (nodes.Trait i n) c b last (λ v m. refl) h e makes unbound is pushed
  made_statement nodes.TypeOutlives c b last h e makes unbound is pushed = stated nodes.TypeOutlives c b last (λ v m. refl) h e makes unbound is pushed
  made_statement nodes.RegionOutlives c b last h e makes unbound is pushed = stated nodes.RegionOutlives c b last (λ v m. refl) h e makes unbound is pushed
  made_statement (nodes.Normalizes i n) c b last h e makes unbound is pushed = stated (nodes.Normalizes i n) c b last (λ v m. refl) h e makes unbound is pushed
  made_statement r c b last h e makes unbound is pushed = absurd makes

-- the last argument is the first of those that are read from the end
pub taken_last : (old new : Vec GenericArg) (a : GenericArg) (n : NodeId) → old.items ≡ new.items ++ a ∷ [] → n ≡ a.node → TakesLast old new n
taken_last old new a n e same = λ us.
    ap (λ xs. map (λ b. tree_at us b.node) (reverse xs)) e ∙ ap (map (λ b. tree_at us b.node)) (reverse-append new.items (a ∷ []))
    ∙ ap (λ x. tree_at us x ∷ made_trees us new) (sym same)

-- two arguments that were taken one after the other
pub both_taken : (old mid new : Vec GenericArg) (a b : NodeId) → TakesLast old mid a → TakesLast mid new b → (us : List Tree) → made_trees us old ≡ tree_at us a ∷ tree_at us b ∷ made_trees us new
both_taken old mid new a b h k us = h us ∙ ap (λ xs. tree_at us a ∷ xs) (k us)

front_kept : {A : Type 0} (n : ℕ) (xs : List A) → take n (take (suc n) xs) ≡ take n xs
front_kept zero xs = refl
front_kept (suc n) [] = refl
front_kept (suc n) (x ∷ xs) = ap (λ w. x ∷ w) (front_kept n xs)

one_behind : {A : Type 0} (n : ℕ) (xs : List A) (x : A) (rest : List A) → drop n xs ≡ x ∷ rest → (drop n (take (suc n) xs) ≡ x ∷ []) × (drop (suc n) xs ≡ rest)
one_behind zero [] x rest h = cc
one_behind zero (y ∷ ys) x rest h = let first : y ≡ x = cc in (ap (λ w. w ∷ []) first, cc)
one_behind (suc n) [] x rest h = cc
one_behind (suc n) (y ∷ ys) x rest h = one_behind n ys x rest h

-- the value of an alias is taken behind its arguments
pub value_stated : (ts : List Tree) (old mid new : Vec GenericArg) (i n : ℕ) (args : GenericArgs) (value : NodeId) (term : Term) → TakesArguments ts old mid n args → TakesLast mid new value → term.node ≡ value
    → StatesOf ts (nodes.Normalizes i n) old new (clause_kind.Projection (record { def_id = alias_def.Ty (record { number = i }); args = args }) term)
value_stated ts old mid new i n args value term taken last is us v later =
    let first = taken us later in
    let second = one_behind n (made_trees us old) (tree_at us value) (made_trees us new) (sym first.1 ∙ last us) in (
      ap (λ x. node (label.Clause (clause_head.Projection (alias.Ty i))) (more (tree_at us args.node) (more (tree_at us x) empty))) is
          ∙ ap (λ x. node (label.Clause (clause_head.Projection (alias.Ty i))) (more x (more (tree_at us value) empty))) (first.0 ∙ ap argument_list (sym (front_kept n (made_trees us old))))
          ∙ ap (λ xs. node (label.Clause (clause_head.Projection (alias.Ty i))) (more (argument_list (take n (take (suc n) (made_trees us old)))) (argument_row xs))) (sym second.0),
      sym second.1,
    )

pub one_item : {A : Type 0} (xs : List A) (d : A) → 1 ≤ length xs → length xs < 2 → xs ≡ get_or xs 0 d ∷ []
one_item [] d l h = absurd (omega (arith, l))
one_item (x ∷ []) d l h = refl
one_item (x ∷ y ∷ ys) d l h = absurd (omega (arith, h))

-- the goal of the one predicate that nodes say
pub goal_for : (a mid ts : List Tree) (env : Option ParamEnv) (variables : LineVariables) (values : List GenericArg) (rs : List Resolved) (traits : List BoundClause) (r : BoundClause) (g : Goal)
    → AreSaid a variables values rs traits → traits ≡ r ∷ [] → Extends a mid → Extends mid ts → States ts r g.predicate → ((us : List Tree) → Extends mid us → IsGivenEnvironment us env g.param_env)
    → IsGoalFor ts env variables values rs g
goal_for a mid ts env variables values rs traits r g said one e f states assumed = λ us later.
    let after = Extends-trans f later in
    let here = said us (Extends-trans e after) in
    record {
      said = ap (map predicate_tree) (sym here) ∙ ap (λ xs. map predicate_tree (statements us xs)) one ∙ ap (λ t. t ∷ []) (sym (states us later));
      assumed = assumed us after;
    }

-- the environment of predicates that nodes say, without variables
no_values_in : (ts : List Tree) (variables : LineVariables) → variables.types.items ≡ [] → variables.regions.items ≡ [] → values_in ts variables [] ≡ no_values
no_values_in ts variables types regions = λ i. record { types = λ n. tree_at_place ts [] (slice_get (types i) n); regions = λ n. tree_at_place ts [] (slice_get (regions i) n) }

row_of_predicates : (ts : List Tree) (ps : List Predicate) → trees_at ts (map (λ p. p.node) ps) ≡ argument_row (map (λ p. tree_at ts p.node) ps)
row_of_predicates ts [] = refl
row_of_predicates ts (p ∷ ps) = ap (more (tree_at ts p.node)) (row_of_predicates ts ps)

pub environment_for : (a b : List Tree) (variables : LineVariables) (rs : List Resolved) (ps : List Predicate) (e : ParamEnv) → variables.types.items ≡ [] → variables.regions.items ≡ []
    → AreConditions a variables [] rs ps → tree_at b e.node ≡ tree_of_env a ps → HoldsEnv b e → IsEnvironmentFor b rs e
environment_for a b variables rs ps e types regions said tree holds = λ us later.
    later.kept e.node holds.within ∙ tree ∙ ap (node (label.List list.Env)) (row_of_predicates a ps)
    ∙ ap environment_tree (said a (Extends-refl a)) ∙ ap (λ v. environment_tree (map predicate_tree (nodes_meaning v rs).predicates)) (no_values_in a variables types regions)
