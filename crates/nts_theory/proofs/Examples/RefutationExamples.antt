-- Truths that depend on no name, and plain proofs: what meets these definitions, and what does not.
use Rattle.std.specs.Prelude.{if◌then◌else◌, ◌⊎◌}
use Rattle.std.proofs.Common.{◌≡◌, inl, inr, ℕ, zero, suc, List, [], ◌∷◌, Bool, true, false, refl, sym, ap, ◌∙◌, arith, subst}
use Rattle.nts_model.specs.declared.labels.Variance.{Variance}
use Rattle.nts_model.specs.declared.labels.VariableKind.TheVariants as kind
use Rattle.nts_model.specs.declared.labels.Relation.TheVariants as relation
use Rattle.nts_model.specs.declared.labels.FreeRegion.{FreeRegion}
use Rattle.nts_model.specs.declared.labels.FreeRegion.TheVariants as region
use Rattle.nts_model.specs.declared.labels.ClauseHead.TheVariants as clause
use Rattle.nts_model.specs.declared.labels.ListHead.TheVariants as list
use Rattle.nts_model.specs.declared.labels.Sort.TheVariants as sort
use Rattle.nts_model.specs.declared.labels.Leaf.{Leaf}
use Rattle.nts_model.specs.declared.labels.Leaf.TheVariants as leaf
use Rattle.nts_model.specs.declared.labels.Label.TheVariants as label
use Rattle.nts_model.specs.Terms.Trees.{Tree, empty, more, node, IsClosed, IsFormed}
use Rattle.nts_model.specs.Terms.Regions.{of_free}
use Rattle.nts_model.specs.Terms.Substitutions.{leaf_tree, FitsLeaf, IsConstant, Instance, instance_of, Renaming, rename}
use Rattle.nts_model.specs.Tables.Passing.{AllLabels}
use Rattle.nts_model.specs.Derivations.Related.{Constraint, pair, constructor, arguments, unbound}
use Rattle.nts_model.specs.Lists.{Among}
use Rattle.nts_model.specs.Derivations.Sequents.{Premise, Hidden, IsOfTerms, constraint_under}
use Rattle.nts_model.specs.Terms.Placeholders.{leaf_level}
use Rattle.nts_model.specs.Tables.Levels.{NamesAll}
use Rattle.nts_model.specs.Refutation.Opening.{placeholder_in}
use Rattle.nts_model.proofs.Tables.Naming.{fresh_in}
use Rattle.nts_model.specs.Derivations.Rules.{Mode, coherence, Application, Meaning, coinductive_trait, strictly, opened, IsHandlers, IsRule, bound}
use Rattle.nts_model.specs.Derivations.Proofs.{Node, Step, IsSoundStep, IsJustified}
use Rattle.nts_model.specs.Derivations.Handlers.{Handler, never_leaks, never_at_once, no_judgements, meaning}
use Rattle.nts_model.specs.Canonical.Inputs.{is_static}
use Rattle.nts_model.specs.Refutation.Containing.{IsAliasFree, Truth, IsTrueBy, IsGroundLabel}
use Rattle.nts_variance_model.specs.Variances.Leaving.{IsErased}
use Rattle.nts_variance_model.specs.Variances.SettledProofs.{GrantsAt, HidesAt, RestsOnAt, IsReached, start, onward}
use Rattle.nts_theory.specs.Refutation.Refutation.{IsCarrying, IsFair, IsGroundInstance, FollowsPlainly, HasMetProof, carry, unmoved}
use Rattle.nts_model.proofs.Terms.Composing.{itself, leaf_tree-inj, fits_itself}
use Rattle.nts_model.proofs.Terms.Renamings.{extension}
use Rattle.nts_theory.proofs.Refutation.Carriers.{AreMovable, extension_carrying}
use Rattle.nts_theory.proofs.Refutation.Theories.{stays, movable_by}
use Rattle.nts_theory.proofs.Refutation.Covering.{not_built_in}
use Rattle.nts_theory.proofs.Refutation.UsedRules.{handlers_opened}
use Rattle.nts_theory.proofs.Refutation.ReachedGoals.{InPlainProof, plain_used, plain_unmoved, root_reached, ground_proof}
use Rattle.nts_theory.proofs.Examples.InputExamples.{no_clauses as nowhere}
use Rattle.nts_theory.proofs.Examples.ProofExamples.{auto_list, auto_goal, clause_under, auto_clause, fact_clause, auto_sequent, auto_terms, auto_instance, auto_plain, auto_rule, auto_stands, no_node}

-- the type List
abbrev pub list_type : Tree
list_type = constructor 1 empty

-- a handler with one rule, and one without rules. What they offer plays no part here
abbrev pub with_rule : Application → (ℕ → Bool) → Handler
with_rule a f = record { applies = λ mode x. x ≡ a; offers = λ mode e g. []; is_coinductive = f; leaks = never_leaks; judges = no_judgements; at_once = never_at_once }

abbrev pub without_rules : Handler
without_rules = record { applies = λ mode x. ⊥; offers = λ mode e g. []; is_coinductive = λ i. false; leaks = never_leaks; judges = no_judgements; at_once = never_at_once }

-- impl Auto(List) where these constraints hold, and without constraints
abbrev pub fact_under : List Constraint → Handler
fact_under xs = with_rule (clause_under [] xs) (λ i. false)

abbrev pub fact_only : Handler
fact_only = fact_under []

-- erased and error regions
abbrev pub lone_leaf : Leaf → Bool
lone_leaf (leaf.Region region.Erased) = true
lone_leaf (leaf.Region region.Error) = true
lone_leaf l = false

abbrev pub lone : Tree → Bool
lone (node (label.Leaf l) c) = lone_leaf l
lone t = false

-- everything outlives everything, but for these; and nothing anything
abbrev pub all_but_erased : Truth
all_but_erased a b = if lone a then false else (if lone b then false else true)

abbrev pub none_true : Truth
none_true a b = false

-- erased and error regions stay
lone_stays : (ρ : Renaming) → IsCarrying ρ → (l : Leaf) → lone_leaf l ≡ true → ρ.to l ≡ l
lone_stays ρ h (leaf.Region region.Erased) e = h.plain region.Erased tt
lone_stays ρ h (leaf.Region region.Error) e = h.plain region.Error tt
lone_stays ρ h l e = cc e

lone_leaf_renamed : (ρ : Renaming) → IsCarrying ρ → (l : Leaf) → lone_leaf (ρ.to l) ≡ lone_leaf l
lone_leaf_renamed ρ h l = by_case (lone_leaf l) (lone_leaf (ρ.to l)) refl refl
  where
    by_case : (b c : Bool) → lone_leaf l ≡ b → lone_leaf (ρ.to l) ≡ c → lone_leaf (ρ.to l) ≡ lone_leaf l
    by_case true c e f = ap lone_leaf (lone_stays ρ h l e)
    by_case false false e f = f ∙ sym e
    by_case false true e f = ap lone_leaf (sym (ρ.back (ρ.to l)) ∙ ap ρ.from (lone_stays ρ h (ρ.to l) f) ∙ ρ.back l)

lone_renamed : (ρ : Renaming) → IsCarrying ρ → (t : Tree) → lone (rename ρ t) ≡ lone t
lone_renamed ρ h empty = refl
lone_renamed ρ h (more a s) = refl
lone_renamed ρ h (node (label.Leaf l) c) = lone_leaf_renamed ρ h l
lone_renamed ρ h (node (label.Bound s i n) c) = refl
lone_renamed ρ h (node (label.Ty x) c) = refl
lone_renamed ρ h (node (label.Const x) c) = refl
lone_renamed ρ h (node (label.Clause x) c) = refl
lone_renamed ρ h (node (label.Predicate x) c) = refl
lone_renamed ρ h (node (label.List x) c) = refl

never_both : (b : Bool) → (if b then false else false) ≡ true → ⊥
never_both true e = cc e
never_both false e = cc e

-- a truth by which everything outlives everything, but for erased and error regions, depends on no name
pub all_but_erased_is_fair : IsFair all_but_erased
all_but_erased_is_fair = record { renamed = λ ρ c a b. rw (lone_renamed ρ c a, lone_renamed ρ c b) refl; alone = alone }
  where
    alone : (r : FreeRegion) → IsErased r → (a : Tree) → (all_but_erased a (leaf_tree (leaf.Region r)) ≡ true) ⊎ (all_but_erased (leaf_tree (leaf.Region r)) a ≡ true) → a ≡ leaf_tree (leaf.Region r)
    alone region.Erased i a (inl e) = absurd (never_both (lone a) e)
    alone region.Erased i a (inr e) = cc e
    alone region.Error i a (inl e) = absurd (never_both (lone a) e)
    alone region.Error i a (inr e) = cc e
    alone r i a e = absurd i

-- one by which erased regions outlive everything is not fair
abbrev all_true : Truth
all_true a b = true

erased_stands_alone : IsFair all_true → ⊥
erased_stands_alone h = (let e = h.alone region.Erased tt list_type (inr refl) in cc e)

-- a truth by which nothing outlives anything depends on no name
none_true_is_fair : IsFair none_true
none_true_is_fair = record { renamed = λ ρ c a b. refl; alone = λ r i a e. elim e [ inl k ↦ cc k | inr k ↦ cc k ] }

-- 'static outlives everything but erased and error regions, and nothing else outlives anything
abbrev static_outlives : Truth
static_outlives (node (label.Leaf l) c) b = if is_static l then (if lone b then false else true) else false
static_outlives a b = false

-- 'static is one leaf
is_static_is : (l : Leaf) → is_static l ≡ true → l ≡ leaf.Region region.Static
is_static_is (leaf.Region region.Static) e = refl
is_static_is l e = cc e

-- a renaming that keeps 'static makes no other leaf 'static
static_renamed : (ρ : Renaming) → IsCarrying ρ → (l : Leaf) → is_static (ρ.to l) ≡ is_static l
static_renamed ρ h l = by_case (is_static l) (is_static (ρ.to l)) refl refl
  where
    by_case : (b c : Bool) → is_static l ≡ b → is_static (ρ.to l) ≡ c → is_static (ρ.to l) ≡ is_static l
    by_case true c e f = rw (is_static_is l e) (ap is_static (h.plain region.Static tt))
    by_case false false e f = f ∙ sym e
    by_case false true e f =
        let back : l ≡ leaf.Region region.Static = sym (ρ.back l) ∙ ap ρ.from (is_static_is (ρ.to l) f ∙ sym (h.plain region.Static tt)) ∙ ρ.back (leaf.Region region.Static) in
        f ∙ sym (ap is_static back)

-- a truth by which 'static alone outlives others, and all but these, depends on no name
static_outlives_is_fair : IsFair static_outlives
static_outlives_is_fair = record { renamed = renamed; alone = λ r i a e. elim e [ inl k ↦ absurd (below r i a k) | inr k ↦ absurd (above r i a k) ] }
  where
    below : (r : FreeRegion) → IsErased r → (a : Tree) → static_outlives a (leaf_tree (leaf.Region r)) ≡ true → ⊥
    below region.Erased i (node (label.Leaf l) c) e = never_both (is_static l) e
    below region.Error i (node (label.Leaf l) c) e = never_both (is_static l) e
    below region.Erased i a e = cc e
    below region.Error i a e = cc e
    below r i a e = absurd i

    above : (r : FreeRegion) → IsErased r → (a : Tree) → static_outlives (leaf_tree (leaf.Region r)) a ≡ true → ⊥
    above region.Erased i a e = cc e
    above region.Error i a e = cc e
    above r i a e = absurd i

    renamed : (ρ : Renaming) → IsCarrying ρ → (a b : Tree) → static_outlives (rename ρ a) (rename ρ b) ≡ static_outlives a b
    renamed ρ h empty b = refl
    renamed ρ h (more a s) b = refl
    renamed ρ h (node (label.Leaf l) c) b = rw (static_renamed ρ h l, lone_renamed ρ h b) refl
    renamed ρ h (node (label.Bound s i n) c) b = refl
    renamed ρ h (node (label.Ty x) c) b = refl
    renamed ρ h (node (label.Const x) c) b = refl
    renamed ρ h (node (label.Clause x) c) b = refl
    renamed ρ h (node (label.Predicate x) c) b = refl
    renamed ρ h (node (label.List x) c) b = refl

-- the parameter 'a outlives the parameter 'b, and nothing else outlives anything
abbrev parameter : ℕ → Leaf
parameter n = leaf.Region (region.EarlyParam n)

abbrev first_outlives_second : Truth
first_outlives_second (node (label.Leaf (leaf.Region (region.EarlyParam zero))) c) (node (label.Leaf (leaf.Region (region.EarlyParam (suc zero)))) d) = true
first_outlives_second a b = false

-- a parameter may be renamed
one_movable : (n : ℕ) → AreMovable (parameter n ∷ [])
one_movable n = movable_by (parameter n ∷ []) (λ l i. elim i [ inl e ↦ ap stays e | inr j ↦ absurd j ])

-- a truth that tells two parameters apart depends on names
names_are_told_apart : IsFair first_outlives_second → ⊥
names_are_told_apart h =
    let swap : Renaming = extension (parameter 0 ∷ []) (parameter 1 ∷ []) refl in
    let e : false ≡ true = h.renamed swap (extension_carrying (parameter 0 ∷ []) (parameter 1 ∷ []) refl (one_movable 0) (one_movable 1)) (leaf_tree (parameter 0)) (leaf_tree (parameter 1)) in
    cc e

-- an instance that leaves no region variable: it puts 'static in place of each
abbrev grounded : Leaf → Tree
grounded (leaf.Variable kind.Region n) = leaf_tree (leaf.Region region.Static)
grounded l = leaf_tree l

-- it is an instance
pub grounded_fits : (l : Leaf) → FitsLeaf l (grounded l)
grounded_fits (leaf.Variable kind.Region n) = (of_free region.Static, refl)
grounded_fits l = fits_itself l

pub grounded_formed : (l : Leaf) → IsFormed (grounded l) × IsClosed (grounded l)
grounded_formed (leaf.Variable kind.Region n) = ((tt, tt), (tt, tt))
grounded_formed l = ((tt, tt), (tt, tt))

pub grounded_constant : (l : Leaf) → IsConstant l → grounded l ≡ leaf_tree l
grounded_constant (leaf.TyConstant a) i = refl
grounded_constant (leaf.ConstConstant a) i = refl
grounded_constant (leaf.Variable k n) i = absurd i
grounded_constant (leaf.Region r) i = absurd i

abbrev pub grounding : Instance
grounding =
    record {
      value = grounded;
      fits = grounded_fits;
      formed = λ l. (grounded_formed l).0;
      closed = λ l. (grounded_formed l).1;
      distinct = λ l m i j e. leaf_tree-inj l m (sym (grounded_constant l i) ∙ e ∙ grounded_constant m j);
      stays = λ r s. refl;
    }

pub is_grounding : IsGroundInstance grounding
is_grounding = record { ground = each }
  where
    each : (l : Leaf) → AllLabels IsGroundLabel (grounded l)
    each (leaf.Variable kind.Region n) = (refl, tt)
    each l = (refl, tt)

-- the constraint is true
abbrev IsTrueIn : Truth → Constraint → Type 0
IsTrueIn truth x = IsTrueBy truth x.relation x.left x.right

-- a proof of one node: a goal that follows from constraints and, by steps, from itself
abbrev node_of : Tree → List Constraint → List Step → Node
node_of g xs ss = record { name = []; sequent = record auto_sequent { predicate = g; constraints = xs }; rank = 0; steps = ss }

-- in it no other node is reached
only_node : (m : Meaning) (first : Node) (ι : Instance) (n : Node) (κ : Instance) → IsReached m (first ∷ []) first ι n κ → n ≡ first
only_node m first ι n κ start = refl
only_node m first ι n κ (onward s to both before i after) = elim to.found [ inl e ↦ e | inr j ↦ absurd j ]

-- without steps no other instance is reached
only_instance : (m : Meaning) (first : Node) (ι : Instance) (n : Node) (κ : Instance) → first.steps ≡ [] → IsReached m (first ∷ []) first ι n κ → κ ≡ ι
only_instance m first ι n κ none start = refl
only_instance m first ι n κ none (onward {n = b} {κ = μ} s to both before i after) =
    absurd (subst (λ z. Among z s) (ap (λ z. z.steps) (only_node m first ι b μ before) ∙ none) i)

-- it is a plain proof, if its constraints are true, and the goal follows at each instance that is reached
module _ (m : Meaning) (truth : Truth) (g : Tree) (xs : List Constraint) (ss : List Step) where
  abbrev only : Node
  only = node_of g xs ss

  one_node : IsJustified m coherence only → ((s : Step) → Among ss s → IsSoundStep m (only ∷ []) only s) → ((κ : Instance) → IsReached m (only ∷ []) only grounding only κ → FollowsPlainly m only κ)
      → ((x : Constraint) → Among xs x → IsTrueIn truth (constraint_under grounding x)) → instance_of grounding g ≡ g → HasMetProof m truth nowhere g
  one_node justified sound follows holds same =
      record {
        proof = record {
          nodes = only ∷ [];
          node = only;
          at = grounding;
          found = inl refl;
          ranked = record {
            justified = λ n i. elim i [ inl e ↦ subst (IsJustified m coherence) (sym e) justified | inr j ↦ absurd j ];
            steps = λ n s i j. elim i [ inl e ↦ rw e (sound s (subst (λ z. Among z.steps s) e j)) | inr k ↦ absurd k ];
          };
          plain = λ n κ r. (let e = only_node m only grounding n κ r in subst (λ z. FollowsPlainly m z κ) (sym e) (follows κ (subst (λ z. IsReached m (only ∷ []) only grounding z κ) e r)));
          true = holds;
        };
        environment = refl;
        predicate = same;
        no_hidden = refl;
        no_open_goals = refl;
        ground = is_grounding;
      }

-- Auto(List) is a term, under any constraints
auto_is_term : (xs : List Constraint) → IsOfTerms (record auto_sequent { constraints = xs })
auto_is_term xs = (let t = auto_terms in record { formed = t.formed; closed = t.closed; no_positions = t.no_positions; well_bound = t.well_bound; statement = t.statement; statements = t.statements })

-- a fact under constraints that hold no region variables has a plain proof, where the constraints are true
fact_is_met : (v : ℕ → List Variance) (truth : Truth) (xs : List Constraint) → ((x : Constraint) → Among xs x → constraint_under grounding x ≡ x) → ((x : Constraint) → Among xs x → IsTrueIn truth x)
    → HasMetProof (meaning (fact_under xs) v) truth nowhere auto_list
fact_is_met v truth xs apart holds =
    let m = meaning (fact_under xs) v in
    one_node m truth auto_list xs []
    (record { terms = auto_is_term xs; rule = auto_rule m coherence _ _ _ _ [] xs refl (λ g i. absurd i) (λ x i. inr i) })
    (λ s i. absurd i)
    (λ κ r. (let same = only_instance m (node_of auto_list xs []) grounding (node_of auto_list xs []) κ refl r in
    rw same (auto_rule (strictly m) coherence _ _ _ _ [] xs refl (λ g i. absurd i) (λ x i. inr (x, i, apart x i)))))
    (λ x i. subst (IsTrueIn truth) (sym (apart x i)) (holds x i))
    refl

-- a fact has a plain proof, whatever is true of regions
pub fact_has_proof : (v : ℕ → List Variance) (truth : Truth) → HasMetProof (meaning fact_only v) truth nowhere auto_list
fact_has_proof v truth = fact_is_met v truth [] (λ x i. absurd i) (λ x i. absurd i)

-- for<'a> Auto(List)
abbrev for_each_region : Tree
for_each_region = bound (more (node (label.List (list.Sort sort.Region)) empty) empty) (node (label.Clause (clause.Trait 0)) (arguments (more list_type empty)))

-- it is a term
for_each_is_term : IsOfTerms (record auto_sequent { predicate = for_each_region })
for_each_is_term =
    record {
      formed = ((tt, tt), (((refl, (refl, tt)), (((refl, tt), ((tt, tt), tt)), (((refl, tt), (((tt, tt), (((refl, tt), ((tt, tt), tt)), tt)), tt)), tt))), tt));
      closed = ((tt, tt), ((tt, ((tt, ((tt, tt), tt)), ((tt, ((tt, ((tt, ((tt, tt), tt)), tt)), tt)), tt))), tt));
      no_positions = refl;
      well_bound = ((tt, tt), ((((tt, ((tt, tt), tt)), ((tt, ((tt, ((tt, ((tt, tt), tt)), tt)), tt)), tt)), ((tt, ((tt, tt), tt)), ((tt, ((tt, ((tt, ((tt, tt), tt)), tt)), tt)), tt))), tt));
      statement = λ s e. absurd (cc e);
      statements = (let t = auto_terms in t.statements);
    }

-- it follows from the fact, with a placeholder in place of the region that it binds
for_each_rule : (m : Meaning) (G : Tree → Type 0) (H : Constraint → Type 0) (D : Hidden → Type 0) (P : Premise → Type 0) → m.applies coherence fact_clause → IsRule m coherence G H D P nowhere for_each_region
for_each_rule m G H D P applies =
    let low : NamesAll leaf_level 0 (pair nowhere for_each_region) = ((tt, tt), ((tt, ((tt, ((tt, tt), tt)), ((tt, ((tt, ((tt, ((tt, tt), tt)), tt)), tt)), tt))), tt)) in
    inr (_, _, placeholder_in 1, refl, fresh_in 0 1 (pair nowhere for_each_region) (omega arith) low, auto_plain m coherence G H D P [] [] applies (λ g i. absurd i) (λ x i. absurd i))

-- a goal that binds a region has a plain proof by a fact
bound_goal_has_proof : (v : ℕ → List Variance) (truth : Truth) → HasMetProof (meaning fact_only v) truth nowhere for_each_region
bound_goal_has_proof v truth =
    let m = meaning fact_only v in
    one_node m truth for_each_region [] []
    (record { terms = for_each_is_term; rule = for_each_rule m _ _ _ _ refl })
    (λ s i. absurd i)
    (λ κ r. for_each_rule (strictly m) _ _ _ _ refl)
    (λ x i. absurd i)
    refl

-- impl Auto(List) <- Auto(List), where the trait is coinductive: a step leads from the goal back to it
abbrev to_itself : Step
to_itself = record { premise = auto_goal; target = []; instance = itself }

abbrev cycle_node : Node
cycle_node = node_of auto_list [] (to_itself ∷ [])

abbrev cycling : (ℕ → List Variance) → Meaning
cycling v = meaning (with_rule auto_clause (λ i. true)) v

-- the step is sound
steps_to_itself : (v : ℕ → List Variance) (s : Step) → Among (to_itself ∷ []) s → IsSoundStep (cycling v) (cycle_node ∷ []) cycle_node s
steps_to_itself v s (inl e) =
    subst (IsSoundStep (cycling v) (cycle_node ∷ []) cycle_node) (sym e)
    (record {
      node = cycle_node;
      found = inl refl;
      named = refl;
      serves = record { environment = auto_instance.environment; predicate = auto_instance.predicate; constraints = λ x i. absurd i; hidden = λ h i. absurd i; open_goals = λ g i. absurd i };
      descends = inl refl;
    })
steps_to_itself v s (inr i) = absurd i

-- a coinductive cycle has a plain proof
coinductive_cycle_has_proof : (v : ℕ → List Variance) (truth : Truth) → HasMetProof (cycling v) truth nowhere auto_list
coinductive_cycle_has_proof v truth =
    one_node (cycling v) truth auto_list [] (to_itself ∷ [])
    (record { terms = auto_is_term []; rule = auto_rule (cycling v) coherence _ _ _ _ (auto_goal ∷ []) [] refl (auto_stands _ _ coinductive_trait (inl (to_itself, inl refl, refl))) (λ x i. absurd i) })
    (steps_to_itself v)
    (λ κ r. auto_rule (strictly (cycling v)) coherence _ _ _ _ (auto_goal ∷ []) [] refl (auto_stands _ _ coinductive_trait (inl (to_itself, inl refl, refl))) (λ x i. absurd i))
    (λ x i. absurd i)
    refl

-- the same cycle of a trait that is not coinductive has none
inductive_cycle_has_none : (truth : Truth) → HasMetProof (meaning (with_rule auto_clause (λ i. false)) (λ i. [])) truth nowhere auto_list → ⊥
inductive_cycle_has_none truth p =
    let n = p.proof in
    no_node coherence n.nodes n.ranked (suc n.node.rank) n.node n.at n.found (omega arith) p.predicate

-- a goal follows by the rule by which the first node of its plain proof does
first_rule : (m : Meaning) (truth : Truth) (e g : Tree) (p : HasMetProof m truth e g)
    → (let n = p.proof in IsRule (strictly m) coherence IsAliasFree (GrantsAt n.node n.at) (HidesAt n.node n.at) (RestsOnAt m n.node n.at) e g)
first_rule m truth e g p =
    let n = p.proof in
    rw (sym p.environment, sym p.predicate) (n.plain n.node n.at start)

-- nothing that a handler is asked follows without its rules
no_rule_applies : (m : Meaning) (mode : Mode) (G : Tree → Type 0) (H : Constraint → Type 0) (D : Hidden → Type 0) (P : Premise → Type 0) (e x s : Tree)
    → ((a : Application) → m.applies mode a → ⊥) → IsHandlers s → IsRule m mode G H D P e (bound x s) → ⊥
no_rule_applies m mode G H D P e x s none h (inl (t, is, inl (i, a))) = none a.use_of a.applies
no_rule_applies m mode G H D P e x s none h (inl (t, is, inr b)) = (let same : t ≡ s = cc is in not_built_in m G H _ e t (subst IsHandlers (sym same) h) b)
no_rule_applies m mode G H D P e x s none h (inr (y, t, f, is, fresh, inl (i, a))) = none a.use_of a.applies
no_rule_applies m mode G H D P e x s none h (inr (y, t, f, is, fresh, inr b)) =
    let same : t ≡ s = cc is in
    not_built_in m G H _ e (opened f 0 t) (handlers_opened f 0 t (subst IsHandlers (sym same) h)) b

-- by a handler without rules no goal that a handler is asked has a plain proof
pub without_rules_no_proof : (v : ℕ → List Variance) (truth : Truth) (e x s : Tree) → IsHandlers s → HasMetProof (meaning without_rules v) truth e (bound x s) → ⊥
without_rules_no_proof v truth e x s h p = no_rule_applies (strictly (meaning without_rules v)) coherence _ _ _ _ e x s (λ a i. i) h (first_rule (meaning without_rules v) truth e (bound x s) p)

-- the fact's trait of a type
abbrev pub auto_of : Tree → Tree
auto_of t = unbound (node (label.Clause (clause.Trait 0)) (arguments (more t empty)))

-- what it says is closed, if the type is
pub auto_closed : (t : Tree) → IsClosed t → IsClosed (node (label.Clause (clause.Trait 0)) (arguments (more t empty)))
auto_closed t h = (tt, ((tt, (h, tt)), tt))

-- by a fact alone its trait has a plain proof of no type but the fact's, and only where the fact's constraints are true
pub fact_used : (xs : List Constraint) (v : ℕ → List Variance) (truth : Truth) (e t : Tree) → IsClosed t → HasMetProof (meaning (fact_under xs) v) truth e (auto_of t)
    → (t ≡ list_type) × ((x : Constraint) → Among xs x → IsTrueIn truth x)
fact_used xs v truth e t closed p =
    let h = fact_under xs in
    let there = root_reached h v truth (ground_proof (meaning h v) (IsTrueIn truth) p.proof p.ground p.no_open_goals) in
    let here : InPlainProof (meaning h v) (IsTrueIn truth) e (auto_of t) = rw (sym p.environment, sym p.predicate) there in
    let used = plain_used h v truth in
    let u = used.plain e (node (label.Clause (clause.Trait 0)) (arguments (more t empty))) here tt (auto_closed t closed) in
    let stays = plain_unmoved h v truth e (node (label.Clause (clause.Trait 0)) (arguments (more t empty))) here tt (auto_closed t closed) in
    let says : carry unmoved (let a = u.use_of in a.conclusion) ≡ auto_of t = subst (λ c. carry c (let a = u.use_of in a.conclusion) ≡ auto_of t) stays u.conclusion in
    let same : auto_of t ≡ auto_list = sym says ∙ ap (λ a. a.conclusion) u.applies in
    let met : (x : Constraint) → (let a = u.use_of in Among a.constraints x) → IsTrueIn truth x = subst (λ c. (x : Constraint) → (let a = u.use_of in Among a.constraints x) → IsTrueBy truth x.relation (carry c x.left) (carry c x.right)) stays u.met in
    (cc same, λ x i. met x (subst (λ a. Among a.constraints x) (sym u.applies) i))

-- 'a: 'b
abbrev first_lives : Constraint
first_lives = record { relation = relation.RegionOutlives; left = leaf_tree (parameter 0); right = leaf_tree (parameter 1) }

-- impl Auto(List) where 'a: 'b has a plain proof where everything outlives everything
proved_where_all_is_true : (v : ℕ → List Variance) → HasMetProof (meaning (fact_under (first_lives ∷ [])) v) all_but_erased nowhere auto_list
proved_where_all_is_true v = fact_is_met v all_but_erased (first_lives ∷ [])
    (λ x i. elim i [ inl e ↦ rw e refl | inr j ↦ absurd j ])
    (λ x i. elim i [ inl e ↦ subst (IsTrueIn all_but_erased) (sym e) (inr refl) | inr j ↦ absurd j ])

-- impl Auto(List) where 'a: 'b has no plain proof where nothing outlives anything
no_proof_where_none_is_true : (v : ℕ → List Variance) → HasMetProof (meaning (fact_under (first_lives ∷ [])) v) none_true nowhere auto_list → ⊥
no_proof_where_none_is_true v p =
    let used = fact_used (first_lives ∷ []) v none_true nowhere list_type (tt, ((tt, tt), tt)) p in
    elim (used.1 first_lives (inl refl)) [ inl e ↦ cc e | inr e ↦ cc e ]
