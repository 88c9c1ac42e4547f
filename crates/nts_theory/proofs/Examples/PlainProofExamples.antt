-- Plain proofs of goals about aliases: an alias may be normalized on the way, and no alias is chosen.
use Rattle.std.proofs.Common.{◌≡◌, ◌⊎◌, inl, inr, ℕ, true, false, List, [], ◌∷◌, refl, sym, ap, ◌∙◌, arith, subst}
use Rattle.nts_model.specs.declared.labels.Variance.{Variance}
use Rattle.nts_model.specs.declared.labels.Variance.TheVariants as variance
use Rattle.nts_model.specs.declared.labels.VariableKind.TheVariants as kind
use Rattle.nts_model.specs.declared.labels.AliasRelationDirection.TheVariants as direction
use Rattle.nts_model.specs.declared.labels.AliasHead.{AliasHead}
use Rattle.nts_model.specs.declared.labels.AliasHead.TheVariants as alias_of
use Rattle.nts_model.specs.declared.labels.Leaf.TheVariants as leaf
use Rattle.nts_model.specs.Terms.Trees.{Tree, empty, IsClosed}
use Rattle.nts_model.specs.Terms.Regions.{region_name}
use Rattle.nts_model.specs.Terms.Substitutions.{Instance}
use Rattle.nts_model.specs.Tables.Worlds.{World}
use Rattle.nts_model.specs.Derivations.Related.{Constraint, alias_goal, alias, Related, one_tree, regions, constructors, functions, values, open_aliases, aliases, subtypes}
use Rattle.nts_model.specs.Lists.{Among}
use Rattle.nts_model.specs.Derivations.Sequents.{Premise, Hidden, IsOfTerms}
use Rattle.nts_model.specs.Derivations.Rules.{coherence, Application, Meaning, GoalKind, normalization, other_goal, goal_kind, statement_of, KeepsAliases, Stands, related, strictly, relating, normalization_goal, IsTerm, IsResult, IsRule, aliases_relate}
use Rattle.nts_model.specs.Derivations.Proofs.{Node, Step, IsSoundStep, IsJustified}
use Rattle.nts_model.specs.Derivations.Handlers.{Handler, never_leaks, never_at_once, no_judgements, meaning}
use Rattle.nts_model.specs.Refutation.Containing.{IsAliasFree, Truth, IsTrueBy}
use Rattle.nts_variance_model.specs.Variances.SettledProofs.{GrantsAt, HidesAt, RestsOnAt}
use Rattle.nts_theory.specs.Refutation.Refutation.{FollowsPlainly, HasMetProof, IsPlainIn}
use Rattle.nts_model.proofs.Terms.Composing.{itself}
use Rattle.nts_theory.proofs.Derivations.ClosedStatements.{closed_unbound}
use Rattle.nts_theory.proofs.Aliases.Unfolding.{unfold_alias}
use Rattle.nts_theory.proofs.Refutation.Covering.{applied_by_rule}
use Rattle.nts_theory.proofs.Refutation.ReachedGoals.{InPlainProof, reached_among, rests_proved, goal_rule, root_reached, ground_proof}
use Rattle.nts_theory.proofs.Examples.InputExamples.{no_clauses as nowhere}
use Rattle.nts_theory.proofs.Examples.ProofExamples.{auto_list, fact_clause, auto_sequent, auto_terms}
use Rattle.nts_theory.proofs.Examples.AliasExamples.{item, item_alias, list_is_no_alias}
use Rattle.nts_theory.proofs.Examples.RefutationExamples.{list_type, with_rule, all_but_erased, auto_of, auto_closed, grounding, is_grounding}
use Rattle.nts_theory.proofs.Examples.SolutionExamples.{one_unset, variable}

-- that Item normalizes to List, and that the two are equal
abbrev pub normal : Tree
normal = normalization_goal (alias_of.Ty 0) empty list_type

abbrev pub equating : Tree
equating = alias_goal variance.Invariant item list_type

-- the rule that Item normalizes to List
abbrev pub normalizing : Application
normalizing = record { environment = nowhere; conclusion = normal; values = []; equations = []; goals = []; constraints = []; hidden = [] }

-- impl Auto(List) where Item is List
abbrev pub by_item : Application
by_item = record fact_clause { equations = related item list_type ∷ [] }

-- a handler with these two rules
abbrev pub through_item : Handler
through_item = record { applies = λ mode x. (x ≡ normalizing) ⊎ (x ≡ by_item); offers = λ mode e g. []; is_coinductive = λ i. false; leaks = never_leaks; judges = no_judgements; at_once = never_at_once }

-- List has no alias, and may be chosen
list_alias_free : IsAliasFree list_type
list_alias_free = (refl, ((refl, tt), tt))

list_is_term : IsTerm list_type
list_is_term = record { formed = ((refl, tt), ((tt, tt), tt)); closed = (tt, ((tt, tt), tt)); no_positions = refl; well_bound = (tt, ((tt, tt), tt)) }

-- both goals are terms
normal_terms : IsOfTerms (record auto_sequent { predicate = normal })
normal_terms =
    record {
      formed = ((tt, tt), (((refl, (refl, tt)), ((tt, tt), (((refl, (refl, tt)), ((tt, tt), (((refl, tt), ((tt, tt), tt)), tt))), tt))), tt));
      closed = ((tt, tt), ((tt, ((tt, tt), ((tt, ((tt, tt), ((tt, ((tt, tt), tt)), tt))), tt))), tt));
      no_positions = refl;
      well_bound = ((tt, tt), ((((tt, tt), ((tt, ((tt, tt), ((tt, ((tt, tt), tt)), tt))), tt)), ((tt, tt), ((tt, ((tt, tt), ((tt, ((tt, tt), tt)), tt))), tt))), tt));
      statement = closed_unbound _ (tt, ((tt, tt), ((tt, ((tt, tt), tt)), tt)));
      statements = (let t = auto_terms in t.statements);
    }

equating_terms : IsOfTerms (record auto_sequent { predicate = equating })
equating_terms =
    record {
      formed = ((tt, tt), (((refl, (refl, tt)), ((tt, tt), ((((λ e. cc e), ((λ e. cc e), tt)), (((refl, tt), ((tt, tt), tt)), (((refl, tt), ((tt, tt), tt)), tt))), tt))), tt));
      closed = ((tt, tt), ((tt, ((tt, tt), ((tt, ((tt, ((tt, tt), tt)), ((tt, ((tt, tt), tt)), tt))), tt))), tt));
      no_positions = refl;
      well_bound = ((tt, tt), ((((tt, tt), ((tt, ((tt, ((tt, tt), tt)), ((tt, ((tt, tt), tt)), tt))), tt)), ((tt, tt), ((tt, ((tt, ((tt, tt), tt)), ((tt, ((tt, tt), tt)), tt))), tt))), tt));
      statement = closed_unbound _ (tt, ((tt, ((tt, tt), tt)), ((tt, ((tt, tt), tt)), tt)));
      statements = (let t = auto_terms in t.statements);
    }

-- Item normalizes to List by the rule, the two are equal since it does, and Auto(List) follows since they are
module _ (m : Meaning) (G : Tree → Type 0) (H : Constraint → Type 0) (D : Hidden → Type 0) (P : Premise → Type 0) where
  normal_rule : m.applies coherence normalizing → IsRule m coherence G H D P nowhere normal
  normal_rule applies =
      inl (
        _,
        refl,
        inl (
          tt,
          record {
            use_of = normalizing;
            applies = applies;
            environment = refl;
            conclusion = refl;
            values = λ v i. absurd i;
            equations = λ q i. absurd i;
            goals = λ g i. absurd i;
            constraints = λ x i. absurd i;
            hidden = λ o i. absurd i;
            item_bounds = λ o g i j. absurd i;
          },
        ),
      )

  equating_rule : G list_type → P (relating nowhere normal) → IsRule m coherence G H D P nowhere equating
  equating_rule may rests =
      inl (
        _,
        refl,
        inr (aliases_relate list_type list_type
            (inr (item_alias, list_is_term, may, inl (tt, rests), refl))
            (inl (refl, λ x. absurd (list_is_no_alias x)))
            (inl (one_tree may))),
      )

  auto_rule : m.applies coherence by_item → P (relating nowhere equating) → IsRule m coherence G H D P nowhere auto_list
  auto_rule applies rests =
      inl (
        _,
        refl,
        inl (
          tt,
          record {
            use_of = by_item;
            applies = applies;
            environment = refl;
            conclusion = refl;
            values = λ v i. absurd i;
            equations = λ q i. elim i [ inl e ↦ rw e (aliases {a = item} {b = list_type} (inl item_alias) (tt, ((tt, tt), tt)) (tt, ((tt, tt), tt)) (inl (tt, rests))) | inr j ↦ absurd j ];
            goals = λ g i. absurd i;
            constraints = λ x i. absurd i;
            hidden = λ o i. absurd i;
            item_bounds = λ o g i j. absurd i;
          },
        ),
      )

-- the three nodes: each rests on the one below it
abbrev step_to : Tree → List ℕ → Step
step_to g name = record { premise = relating nowhere g; target = name; instance = itself }

abbrev lowest : Node
lowest = record { name = 2 ∷ []; sequent = record auto_sequent { predicate = normal }; rank = 0; steps = [] }

abbrev middle : Node
middle = record { name = 1 ∷ []; sequent = record auto_sequent { predicate = equating }; rank = 1; steps = step_to normal (2 ∷ []) ∷ [] }

abbrev highest : Node
highest = record { name = 0 ∷ []; sequent = auto_sequent; rank = 2; steps = step_to equating (1 ∷ []) ∷ [] }

abbrev three : List Node
three = highest ∷ middle ∷ lowest ∷ []

module _ (v : ℕ → List Variance) where
  abbrev m : Meaning
  m = meaning through_item v

  -- each node follows by its rule
  nodes_are_justified : (n : Node) → Among three n → IsJustified m coherence n
  nodes_are_justified n (inl e) = subst (IsJustified m coherence) (sym e) (record { terms = auto_terms; rule = auto_rule m _ _ _ _ (inr refl) (inl (_, inl refl, refl)) })
  nodes_are_justified n (inr (inl e)) = subst (IsJustified m coherence) (sym e) (record { terms = equating_terms; rule = equating_rule m _ _ _ _ tt (inl (_, inl refl, refl)) })
  nodes_are_justified n (inr (inr (inl e))) = subst (IsJustified m coherence) (sym e) (record { terms = normal_terms; rule = normal_rule m _ _ _ _ (inl refl) })
  nodes_are_justified n (inr (inr (inr j))) = absurd j

  -- each step leads to the node below
  highest_rests : IsSoundStep m three highest (step_to equating (1 ∷ []))
  highest_rests =
      record {
        node = middle;
        found = inr (inl refl);
        named = refl;
        serves = record { environment = λ f i. refl; predicate = λ f i. refl; constraints = λ x i. absurd i; hidden = λ o i. absurd i; open_goals = λ g i. absurd i };
        descends = inr (omega arith);
      }

  middle_rests : IsSoundStep m three middle (step_to normal (2 ∷ []))
  middle_rests =
      record {
        node = lowest;
        found = inr (inr (inl refl));
        named = refl;
        serves = record { environment = λ f i. refl; predicate = λ f i. refl; constraints = λ x i. absurd i; hidden = λ o i. absurd i; open_goals = λ g i. absurd i };
        descends = inr (omega arith);
      }

  steps_are_sound : (n : Node) (s : Step) → Among three n → Among n.steps s → IsSoundStep m three n s
  steps_are_sound n s (inl e) i = rw e (elim (subst (λ z. Among z.steps s) e i) [ inl k ↦ rw k highest_rests | inr k ↦ absurd k ])
  steps_are_sound n s (inr (inl e)) i = rw e (elim (subst (λ z. Among z.steps s) e i) [ inl k ↦ rw k middle_rests | inr k ↦ absurd k ])
  steps_are_sound n s (inr (inr (inl e))) i = absurd (subst (λ z. Among z.steps s) e i)
  steps_are_sound n s (inr (inr (inr j))) i = absurd j

  -- each goal follows at each instance too, since it has no leaves
  nodes_follow : (n : Node) (κ : Instance) → Among three n → FollowsPlainly m n κ
  nodes_follow n κ (inl e) = subst (λ z. FollowsPlainly m z κ) (sym e) (auto_rule (strictly m) _ _ _ _ (inr refl) (inl (_, inl refl, refl)))
  nodes_follow n κ (inr (inl e)) = subst (λ z. FollowsPlainly m z κ) (sym e) (equating_rule (strictly m) _ _ _ _ list_alias_free (inl (_, inl refl, refl)))
  nodes_follow n κ (inr (inr (inl e))) = subst (λ z. FollowsPlainly m z κ) (sym e) (normal_rule (strictly m) _ _ _ _ (inl refl))
  nodes_follow n κ (inr (inr (inr j))) = absurd j

-- a plain proof may normalize an alias: impl Auto(List) where Item is List proves Auto(List), since Item normalizes to List
pub proved_by_an_alias : (v : ℕ → List Variance) (truth : Truth) → HasMetProof (meaning through_item v) truth nowhere auto_list
proved_by_an_alias v truth =
    record {
      proof = record {
        nodes = three;
        node = highest;
        at = grounding;
        found = inl refl;
        ranked = record { justified = nodes_are_justified v; steps = steps_are_sound v };
        plain = λ n κ r. nodes_follow v n κ (reached_among (m v) three highest grounding n κ r (inl refl));
        true = λ x i. absurd i;
      };
      environment = refl;
      predicate = refl;
      no_hidden = refl;
      no_open_goals = refl;
      ground = is_grounding;
    }

-- the world in which each variable is Item, and everything outlives everything
abbrev all_items : World
all_items = record { tree = λ n. item; region = λ r. r; outlives = all_but_erased }

-- a variable that stands for an alias is not plain
pub an_alias_is_no_plain_value : IsPlainIn one_unset all_items nowhere (auto_of variable) → ⊥
an_alias_is_no_plain_value h =
    let free : IsAliasFree item = h (leaf.Variable kind.Ty 0) (inr (inl (inr (inr (inl (inr (inl (inr (inl (inl refl)))))))))) in
    let z : true ≡ false = free.0 in
    cc z

-- where Item and List are related, it is by the goal that they are equal
related_by_goal : (declared : ℕ → List Variance) (G : Tree → Type 0) (H : Constraint → Type 0) (Q : Tree → Type 0) (w : Variance) (a b : Tree) → Related declared G H Q w a b → w ≡ variance.Invariant → a ≡ item → b ≡ list_type → Q equating
related_by_goal declared G H Q w a _ (one_tree s) e f g = absurd (let z : item ≡ list_type = sym f ∙ g in cc z)
related_by_goal declared G H Q w a b (regions i j h) e f g = absurd (let z = sym (ap region_name f) ∙ i.1 in cc z)
related_by_goal declared G H Q w _ _ (constructors r) e f g = cc
related_by_goal declared G H Q w _ _ (functions r) e f g = cc
related_by_goal declared G H Q w _ _ (values r) e f g = cc
related_by_goal declared G H Q w _ b (open_aliases {us = us} h i j r) e f g = absurd (no_alias h us (sym g))
  where
    no_alias : (h : AliasHead) (ts : Tree) → list_type ≡ alias h ts → ⊥
    no_alias (alias_of.Ty i) ts z = cc z
    no_alias (alias_of.Const i) ts z = cc z
related_by_goal declared G H Q w a b (aliases x i j q) e f g = subst Q (rw (e, f, g) refl) q
related_by_goal declared G H Q w a b (subtypes x other i j k l q) e f g = absurd (other e)

-- Item has no arguments
no_arguments : (h : AliasHead) (ts : Tree) → item ≡ alias h ts → ts ≡ empty
no_arguments (alias_of.Ty i) ts e = cc e
no_arguments (alias_of.Const i) ts e = cc e

-- a handler with the impl alone
abbrev pub by_item_alone : Handler
by_item_alone = with_rule by_item (λ i. false)

module _ (v : ℕ → List Variance) (truth : Truth) where
  abbrev rules : Meaning
  rules = meaning by_item_alone v

  -- the goals of its plain proofs
  abbrev IsReachedGoal : Tree → Type 0
  IsReachedGoal = InPlainProof rules (λ x. IsTrueBy truth x.relation x.left x.right) nowhere

  -- what a reached goal rests on is reached, if its aliases stand as they are
  rests_on_reached : (k : GoalKind) (g q : Tree) (p : IsReachedGoal g) → (goal_kind rules g ≡ normalization → ⊥) → KeepsAliases (statement_of q) → (let r = p.reached in Stands IsAliasFree (RestsOnAt rules r.node r.at) k (relating nowhere q)) → IsReachedGoal q
  rests_on_reached k g q p other keeps (inl (i, rests)) = (let r = p.reached in rests_proved by_item_alone v truth p.of_proof r.node r.at r.reached (relating nowhere q) rests)
  rests_on_reached k g q p other keeps (inr (loose, stands)) = absurd (loose keeps)

  -- Auto(List) follows by the impl, which asks whether Item is List
  auto_rests : IsReachedGoal auto_list → IsReachedGoal equating
  auto_rests p =
      let r = p.reached in
      let a = applied_by_rule (strictly rules) coherence IsAliasFree (GrantsAt r.node r.at) (HidesAt r.node r.at) (RestsOnAt rules r.node r.at) nowhere (statement_of auto_list) tt (auto_closed list_type (tt, ((tt, tt), tt))) (goal_rule by_item_alone v truth nowhere auto_list p) in
      let equal = a.equations (related item list_type) (subst (λ z. Among z.equations (related item list_type)) (sym a.applies) (inl refl)) in
      rests_on_reached other_goal auto_list equating p (λ e. cc e) tt
      (related_by_goal v IsAliasFree (GrantsAt r.node r.at) (λ g. Stands IsAliasFree (RestsOnAt rules r.node r.at) other_goal (relating nowhere g)) variance.Invariant item list_type equal refl refl refl)

  -- no rule says what an alias normalizes to
  nothing_normalizes : (h : AliasHead) (ts t : Tree) → IsClosed ts → IsClosed t → IsReachedGoal (normalization_goal h ts t) → ⊥
  nothing_normalizes h ts t i j p =
      let r = p.reached in
      let a = applied_by_rule (strictly rules) coherence IsAliasFree (GrantsAt r.node r.at) (HidesAt r.node r.at) (RestsOnAt rules r.node r.at) nowhere (statement_of (normalization_goal h ts t)) tt (tt, ((tt, i), (j, tt))) (goal_rule by_item_alone v truth nowhere (normalization_goal h ts t) p) in
      let e : auto_list ≡ normalization_goal h ts t = sym (ap (λ z. z.conclusion) a.applies) ∙ a.conclusion in
      cc e

  -- so Item is not List
  nothing_equates : IsReachedGoal equating → ⊥
  nothing_equates p =
      let r = p.reached in
      let x = unfold_alias (strictly rules) coherence IsAliasFree (GrantsAt r.node r.at) (HidesAt r.node r.at) (RestsOnAt rules r.node r.at) nowhere direction.Equate item list_type (tt, ((tt, tt), tt)) (tt, ((tt, tt), tt)) (goal_rule by_item_alone v truth nowhere equating p) in
      by_result x.left x.of_left
    where
      by_result : (t : Tree) → (let r = p.reached in IsResult IsAliasFree (Stands IsAliasFree (RestsOnAt rules r.node r.at) other_goal) nowhere item t) → ⊥
      by_result t (inl (same, may)) = (let free = may item_alias in let z : true ≡ false = free.0 in cc z)
      by_result t (inr (x, term, may, stands, kinds)) =
          nothing_normalizes x.head x.parts t (subst IsClosed (sym (no_arguments x.head x.parts x.is)) tt) term.closed
          (rests_on_reached other_goal equating (normalization_goal x.head x.parts t) p (λ e. cc e) tt stands)

-- a goal that has a plain proof is reached by it
goal_reached : (h : Handler) (v : ℕ → List Variance) (truth : Truth) (e g : Tree) → HasMetProof (meaning h v) truth e g → InPlainProof (meaning h v) (λ x. IsTrueBy truth x.relation x.left x.right) e g
goal_reached h v truth e g p =
    let there = root_reached h v truth (ground_proof (meaning h v) (λ x. IsTrueBy truth x.relation x.left x.right) p.proof p.ground p.no_open_goals) in
    rw (sym p.environment, sym p.predicate) there

-- without the rule that Item normalizes to List the impl proves nothing
pub not_by_another_alias : (v : ℕ → List Variance) (truth : Truth) → HasMetProof (meaning by_item_alone v) truth nowhere auto_list → ⊥
not_by_another_alias v truth p = nothing_equates v truth (auto_rests v truth (goal_reached by_item_alone v truth nowhere auto_list p))
