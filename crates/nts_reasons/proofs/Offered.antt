-- No impl is left out of what is offered for a goal.
use Rattle.std.proofs.Common.{◌≡◌, ◌⊎◌, inl, inr, ℕ, ◌+◌, ◌≤◌, ◌==◌, Bool, true, false, cond, if◌then◌else◌, List, [], ◌∷◌, ◌++◌, All, map, length, length-append, get_or, slice_get, Option, None, Some, eq-eqb, refl, sym, ap, subst, ◌∙◌, arith}
use Rattle.std.specs.List.{filter}
use Rattle.std.proofs.lemmas.List.{length-map}
use Rattle.std.proofs.lemmas.List.Elements.{All-head, All-tail}
use Rattle.nts_model.specs.declared.labels.BoundVarIndexKind.{BoundVarIndexKind}
use Rattle.nts_model.specs.declared.labels.BoundVarIndexKind.TheVariants as index
use Rattle.nts_model.specs.declared.labels.ClauseHead.TheVariants as clause
use Rattle.nts_model.specs.declared.labels.Label.{Label}
use Rattle.nts_model.specs.declared.labels.Label.TheVariants as label
use Rattle.nts_model.specs.declared.labels.Leaf.{Leaf}
use Rattle.nts_model.specs.declared.labels.ListHead.TheVariants as list
use Rattle.nts_model.specs.declared.labels.Sort.{Sort}
use Rattle.nts_model.specs.declared.labels.Variance.{Variance}
use Rattle.nts_model.specs.Derivations.Handlers.{Candidate}
use Rattle.nts_model.specs.Derivations.Rules.{Mode, opened}
use Rattle.nts_model.specs.Refutation.Opening.{placeholder_in, opened_in}
use Rattle.nts_model.specs.Tables.Contents.{Content}
use Rattle.nts_model.specs.Terms.Substitutions.{leaf_tree}
use Rattle.nts_model.specs.Terms.Trees.{Tree, empty, more, node, children, row_length, kind_of, arguments}
use Rattle.nts_store.specs.Growth.{tree_at}
use Rattle.nts_terms.specs.declared.cx.Cx.{Cx}
use Rattle.nts_terms.specs.declared.handles.Goal.{Goal}
use Rattle.nts_terms.specs.declared.modes.TypingMode.{TypingMode}
use Rattle.nts_terms.specs.Signatures.{Declared, HaveSorts, AreArgumentsOfSorts}
use Rattle.nts_terms.proofs.Sorted.{HaveSorts-length}
use Rattle.nts_table.specs.Tables.{Table}
use Rattle.nts_table.specs.nts_unify.specs.Reading.{content_of}
use Rattle.nts_candidates.specs.declared.reasons.Reason.{Reason}
use Rattle.nts_assembly.specs.Assumptions.{assumed_offers}
use Rattle.nts_assembly.specs.Projections.{assumed_results}
use Rattle.nts_delegate.specs.ClauseHandlers.{normalization_of, offer_by, takes_all, offers_by, clause_tree, clauses_in_store, alias_offers, alias_clauses_in_store, rigid_in}
use Rattle.nts_delegate.specs.Clauses.{clauses_of}
use Rattle.nts_delegate.specs.Offers.{trait_of, trait_read}
use Rattle.nts_delegate.specs.declared.clauses.Clause.{Clause}
use Rattle.nts_delegate.specs.declared.clauses.Clauses.{Clauses}
use Rattle.nts_wording.specs.Fitting.{AreTraitArguments, FitTraitIfAny, IsDeclaredPredicate, HeadFits}
use Rattle.nts_explaining.specs.Explaining.{ExplainsEach, GivesReasons}
use Rattle.nts_explaining.specs.Explaining.ExplainsEach.{none, more as next}
use Rattle.nts_explaining.specs.Explaining.GivesReasons.{of_candidates, is_unasked, is_unopened}
use Rattle.nts_program.specs.Proving.{rules_with}
use Rattle.nts_program.specs.nts_declaring.specs.Heads.{HeadsFit}
use Rattle.nts_reasons.specs.Offering.{offers_of_each, rules_of_each}

first_passes : {A : Type 0} (b : Bool) (x : A) (xs ys : List A) → b ≡ true → xs ≡ ys → cond b (x ∷ xs) xs ≡ x ∷ ys
first_passes true x xs ys e h = ap (λ zs. x ∷ zs) h
first_passes false x xs ys e h = cc

-- a test that all pass leaves none out
all_pass : {A B : Type 0} (p : B → Bool) (f : A → B) (xs : List A) → All (λ x. p (f x) ≡ true) xs → filter p (map f xs) ≡ map f xs
all_pass p f [] h = refl
all_pass p f (x ∷ xs) h =
    first_passes (p (f x)) (f x) (filter p (map f xs)) (map f xs) (All-head (λ y. p (f y) ≡ true) x xs h) (all_pass p f xs (All-tail (λ y. p (f y) ≡ true) x xs h))

some_sorts : (o : Option (List Sort)) (t : Tree) → AreArgumentsOfSorts o t → (ss : List Sort) × (o ≡ Some ss)
some_sorts None t h = absurd h
some_sorts (Some ss) t h = (ss, refl)

-- as many arguments as are declared
count_of : (d : Declared) (i : ℕ) (ss : List Sort) (t : Tree) → slice_get d.traits i ≡ Some ss → AreTraitArguments d i t → row_length (children t) ≡ length ss
count_of d i ss t e h = HaveSorts-length ss (children t) (subst (λ o. AreArgumentsOfSorts o t) e h.declared)

abbrev HasCount : Declared → Option (ℕ × Tree) → Type 0
HasCount d None = Unit {0}
HasCount d (Some r) = (ss : List Sort) → slice_get d.traits r.0 ≡ Some ss → row_length (children r.1) ≡ length ss

counted : (d : Declared) (o : Option (ℕ × Tree)) → FitTraitIfAny d o → HasCount d o
counted d None h = tt
counted d (Some r) h = λ ss e. count_of d r.0 ss r.1 e h

-- what is offered by clauses that take as many arguments is offered by each clause
each_offered : (cx : Cx) (h : Clauses) (e : Tree) (o : Option (ℕ × Tree)) → HeadsFit cx h → HasCount cx.declarations o → offers_by (clauses_in_store cx.nodes h) e o ≡ offers_of_each (clauses_in_store cx.nodes h) e o
each_offered cx h e None fit n = refl
each_offered cx h e (Some r) fit n =
    ap (map (offer_by e (children r.1))) (all_pass (takes_all (children r.1)) (clause_tree cx.nodes) (clauses_of h r.0) (λ k d l. taken (get_or (clauses_of h r.0) k d) (fit r.0 k d l)))
  where
    taken : (c : Clause) → HeadFits cx.declarations cx.nodes r.0 c → takes_all (children r.1) (clause_tree cx.nodes c) ≡ true
    taken c f =
        let head = tree_at cx.nodes c.head.node in
        let s = some_sorts (slice_get cx.declarations.traits r.0) head f.given.declared in
        eq-eqb (row_length (children r.1)) (row_length (children head)) (n s.0 s.1 ∙ sym (count_of cx.declarations r.0 s.0 head s.1 f.given))

-- a row that is opened is as long
opened_row : (f : Sort → ℕ → Leaf) (n : ℕ) (ss : List Sort) (t : Tree) → HaveSorts ss t → row_length (opened f n t) ≡ length ss
opened_row f n [] empty h = refl
opened_row f n [] (more a b) h = absurd h
opened_row f n [] (node l c) h = absurd h
opened_row f n (s ∷ ss) empty h = absurd h
opened_row f n (s ∷ ss) (more a b) h = omega (arith, opened_row f n ss b h.1)
opened_row f n (s ∷ ss) (node l c) h = absurd h

opened_arguments : (f : Sort → ℕ → Leaf) (n : ℕ) (t : Tree) (ss : List Sort) → kind_of t ≡ Some arguments → HaveSorts ss (children t) → row_length (children (opened f n t)) ≡ length ss
opened_arguments f n (node (label.List list.Args) c) ss e h = opened_row f _ ss c h
opened_arguments f n t ss e h = cc

-- a node that is opened is a node
bound_node : (b : Bool) (l : Leaf) (s : Sort) (i : BoundVarIndexKind) (n : ℕ) (t : Tree) → (m : Label) × (u : Tree) × ((if b then leaf_tree l else node (label.Bound s i n) t) ≡ node m u)
bound_node true l s i n t = (label.Leaf l, empty, refl)
bound_node false l s i n t = (label.Bound s i n, t, refl)

opened_node : (f : Sort → ℕ → Leaf) (l : Label) (c : Tree) → (m : Label) × (u : Tree) × (opened f 0 (node l c) ≡ node m u)
opened_node f (label.Bound s (index.Bound k) n) c = bound_node (k == 0) (f s n) s (index.Bound k) n (opened f 0 c)
opened_node f l c = (l, _, refl)

bound_count : (d : Declared) (b : Bool) (l : Leaf) (s : Sort) (i : BoundVarIndexKind) (n : ℕ) (t : Tree) → HasCount d (trait_read (if b then leaf_tree l else node (label.Bound s i n) t))
bound_count d true l s i n t = tt
bound_count d false l s i n t = tt

-- a statement that is opened gives its trait as many arguments
opened_count : (d : Declared) (f : Sort → ℕ → Leaf) (t : Tree) → FitTraitIfAny d (trait_read t) → HasCount d (trait_read (opened f 0 t))
opened_count d f (node (label.Clause (clause.Trait i)) (more a b)) h = λ ss e. opened_arguments f 0 a ss h.list (subst (λ o. AreArgumentsOfSorts o a) e h.declared)
opened_count d f (node (label.Clause (clause.Trait i)) (node l c)) h =
    let o = opened_node f l c in
    subst (λ u. HasCount d (trait_read (node (label.Clause (clause.Trait i)) u))) (sym o.2) tt
opened_count d f (node (label.Bound s (index.Bound k) n) c) h = bound_count d (k == 0) (f s n) s (index.Bound k) n (opened f 0 c)
opened_count d f t h = tt

-- .. and so does a goal
goal_count : (d : Declared) (c : Content) (g : Tree) → IsDeclaredPredicate d g → HasCount d (trait_of (opened_in c g))
goal_count d c (node (label.List list.Binder) (more (node (label.List list.Sorts) (more s ss)) (more t empty))) h = opened_count d (placeholder_in (c.universe + 1)) t h
goal_count d c g h = counted d (trait_of g) h

explained_by : {declared : ℕ → List Variance} {mode : Mode} {c : Content} {env : Tree} {xs ys : List Candidate} {rs : List Reason} → xs ≡ ys → ExplainsEach declared mode c env xs rs → ExplainsEach declared mode c env ys rs
explained_by {declared} {mode} {c} {env} {xs} {ys} {rs} e h = subst (λ zs. ExplainsEach declared mode c env zs rs) e h

-- the reasons of a goal are those of each clause
pub each_reason : (cx : Cx) (h : Clauses) {variances : ℕ → List Variance} (mode : TypingMode) (t : Table) (g : Goal) {rs : List Reason} → HeadsFit cx h → IsDeclaredPredicate cx.declarations (tree_at cx.nodes g.predicate.node)
    → GivesReasons (rules_with cx.nodes h) variances mode cx.nodes t g rs → GivesReasons (rules_of_each cx.nodes h) variances mode cx.nodes t g rs
each_reason cx h mode t g fit declared (of_candidates b u o opens asked each) =
    let e = tree_at b o.param_env.node in
    let p = trait_of (tree_at b o.predicate.node) in
    let of_aliases = alias_offers (alias_clauses_in_store cx.nodes h) (rigid_in h) e (tree_at b o.predicate.node) in
    let count : HasCount cx.declarations p = subst (λ x. HasCount cx.declarations (trait_of x)) (sym opens.predicate) (goal_count cx.declarations (content_of cx.nodes t.entries) (tree_at cx.nodes g.predicate.node) declared) in
    let of_results = assumed_results e (normalization_of (tree_at b o.predicate.node)) in
    of_candidates b u o opens asked (explained_by (ap (λ xs. assumed_offers e p ++ (of_results ++ (of_aliases ++ xs))) (each_offered cx h e p fit count)) each)
each_reason cx h mode t g fit declared (is_unasked b u o opens unasked) = is_unasked b u o opens unasked
each_reason cx h mode t g fit declared (is_unopened k) = is_unopened k

abbrev number_in : Option (ℕ × Tree) → ℕ
number_in None = 0
number_in (Some r) = r.0

-- a statement about a trait is about that trait once it is opened
opened_about : (f : Sort → ℕ → Leaf) (t : Tree) (n : ℕ) (x : Tree) → trait_read t ≡ Some (n, x) → (y : Tree) × (trait_read (opened f 0 t) ≡ Some (n, y))
opened_about f (node (label.Clause (clause.Trait i)) (more a b)) n x e = (opened f 0 a, ap (λ j. Some (j, opened f 0 a)) (ap number_in e))
opened_about f t n x e = cc

-- .. and so is a goal
goal_about : (c : Content) (g : Tree) (n : ℕ) (x : Tree) → trait_of g ≡ Some (n, x) → (y : Tree) × (trait_of (opened_in c g) ≡ Some (n, y))
goal_about c (node (label.List list.Binder) (more (node (label.List list.Sorts) (more s ss)) (more t empty))) n x e = opened_about (placeholder_in (c.universe + 1)) t n x e
goal_about c g n x e = (x, e)

-- as many reasons as candidates
explained_length : {declared : ℕ → List Variance} {mode : Mode} {c : Content} {env : Tree} {xs : List Candidate} {rs : List Reason} → ExplainsEach declared mode c env xs rs → length rs ≡ length xs
explained_length none = refl
explained_length (next x r each e) = length-append _ (r ∷ []) ∙ ap (λ n. n + 1) (explained_length each) ∙ sym (length-append _ (x ∷ []))

enough : {X Y : Type 0} (rs : List X) (xs ws zs ys : List Y) (k : ℕ) → length rs ≡ length (xs ++ (ws ++ (zs ++ ys))) → length ys ≡ k → k ≤ length rs
enough rs xs ws zs ys k e f =
    omega (arith, e, f, length-append xs (ws ++ (zs ++ ys)), length-append ws (zs ++ ys), length-append zs ys)

-- a goal of a trait has no reason, or one for each clause of the trait at least
pub clause_reasons : (ts : List Tree) (h : Clauses) {variances : ℕ → List Variance} (mode : TypingMode) (t : Table) (g : Goal) (n k : ℕ) (x : Tree) {rs : List Reason} → trait_of (tree_at ts g.predicate.node) ≡ Some (n, x) → length (clauses_of h n) ≡ k
    → GivesReasons (rules_of_each ts h) variances mode ts t g rs → (rs ≡ []) ⊎ (k ≤ length rs)
clause_reasons ts h mode t g n k x about count (of_candidates b u o opens asked each) =
    let e = tree_at b o.param_env.node in
    let p = tree_at b o.predicate.node in
    let y = goal_about (content_of ts t.entries) (tree_at ts g.predicate.node) n x about in
    let here : trait_of p ≡ Some (n, y.0) = ap trait_of opens.predicate ∙ y.1 in
    let offers = offers_of_each (clauses_in_store ts h) e in
    let many : length (offers (trait_of p)) ≡ k =
    ap (λ z. length (offers z)) here ∙ length-map (map (clause_tree ts) (clauses_of h n)) (offer_by e (children y.0)) ∙ length-map (clauses_of h n) (clause_tree ts) ∙ count in
    inr (enough _ (assumed_offers e (trait_of p)) (assumed_results e (normalization_of p)) (alias_offers (alias_clauses_in_store ts h) (rigid_in h) e p) (offers (trait_of p)) k (explained_length each) many)
clause_reasons ts h mode t g n k x about count (is_unasked b u o opens unasked) = inl refl
clause_reasons ts h mode t g n k x about count (is_unopened c) = inl refl
