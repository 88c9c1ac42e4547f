-- The goals that a plain proof reaches follow by uses of clauses.
use Rattle.std.proofs.Common.{◌≡◌, ◌⊎◌, inl, inr, ℕ, Some, List, [], ◌∷◌, refl, sym, ap, subst, ◌∙◌}
use Rattle.nts_model.specs.declared.labels.Variance.{Variance}
use Rattle.nts_model.specs.declared.labels.Relation.{Relation}
use Rattle.nts_model.specs.declared.labels.Relation.TheVariants as relation
use Rattle.nts_model.specs.declared.labels.Leaf.{Leaf}
use Rattle.nts_model.specs.declared.labels.Label.{Label}
use Rattle.nts_model.specs.declared.labels.Label.TheVariants as label
use Rattle.nts_model.specs.Terms.Trees.{Tree, empty, more, node, kind_of, IsClosed, IsFormed}
use Rattle.nts_model.specs.Tables.Passing.{AllLabels}
use Rattle.nts_model.specs.Terms.Substitutions.{put, replace, Instance, instance_of}
use Rattle.nts_model.specs.Derivations.Related.{Constraint, pair, unbound, IsAlias, alias}
use Rattle.nts_model.specs.Lists.{Among}
use Rattle.nts_model.specs.Derivations.Sequents.{misc, Premise, Hidden, HasOneSide, constraint_under}
use Rattle.nts_model.specs.Derivations.Rules.{coherence, Meaning, strictly, opened, IsHandlers, IsRule, normalization_goal, IsResult, RelatedIn, AreResultsRelated, relating, Stands, goal_kind}
use Rattle.nts_model.specs.Derivations.Proofs.{Node, Step, reopened}
use Rattle.nts_variance_model.specs.Variances.SettledProofs.{IsReached, start, onward, GrantsAt, HidesAt, RestsOnAt}
use Rattle.nts_theory.specs.Affirming.{goals_there, is_well_formed, SaysOfTwo}
use Rattle.nts_model.specs.Derivations.Handlers.{Handler, meaning, goals_in}
use Rattle.nts_model.specs.Refutation.Containing.{IsAliasFree, Truth, IsTrueBy, IsGroundLabel, AreGround}
use Rattle.nts_theory.specs.Refutation.Refutation.{HasNoAlias, IsGranted, NormalizeToOne, IsNormalAlias, AreMadeOne, by_alias, unmoved, UsesClause, UsesOpened, AreUsed, binding, IsGroundInstance, PlainNode}
use Rattle.nts_model.proofs.Terms.Composing.{after, instance_of-after, IsFormed-instance}
use Rattle.nts_model.proofs.Terms.Identified.{one_at}
use Rattle.nts_theory.proofs.Refutation.UsedRules.{IsPredicate, uses_unbound, unbound_unmoved, uses_binding, Engine, EngineOpened, engine_unbound, engine_binding, formed_proved, said_true}
use Rattle.nts_theory.proofs.Derivations.ProofInstances.{HasOneSide-under as one_side_under}
use Rattle.nts_theory.proofs.Refutation.PlainTerms.{opened_none, none_is_alias, free_none, no_head}
use Rattle.nts_theory.proofs.Refutation.Saying.{said_no_handlers}
use Rattle.nts_theory.proofs.Refutation.Affirming.{rule_denied}
use Rattle.nts_model.specs.declared.labels.AliasHead.{AliasHead}
use Rattle.nts_model.specs.declared.labels.AliasHead.TheVariants as alias_of
use Rattle.nts_model.specs.declared.labels.Variance.TheVariants as variance
use Rattle.nts_model.specs.declared.labels.AliasRelationDirection.TheVariants as direction
use Rattle.nts_theory.specs.Aliasing.{alias_relation}
use Rattle.nts_theory.proofs.Refutation.Covering.{related_equal, related_by_left, related_by_right}
use Rattle.nts_theory.proofs.Refutation.Together.{free_settled}
use Rattle.nts_theory.proofs.Aliases.Unfolding.{unfold_alias}

-- the goals that a plain proof reaches
pub record IsReachedBy (m : Meaning) (Holds : Constraint → Type 0) (p : PlainNode m Holds) (e g : Tree) : Type 0 where
  pub node : Node
  pub at : Instance
  pub reached : IsReached m p.nodes p.node p.at node at
  pub environment : instance_of at node.sequent.environment ≡ e
  pub predicate : instance_of at node.sequent.predicate ≡ g

-- a plain proof without region variables: each has been assigned a region; its goal leaves nothing open
pub record GroundProof (m : Meaning) (Holds : Constraint → Type 0) : Type 0 where
  pub proof : PlainNode m Holds
  pub whole : proof.node.sequent.open_goals ≡ []
  pub ground : (n : Node) (κ : Instance) → IsReached m proof.nodes proof.node proof.at n κ → AllLabels IsGroundLabel (pair (instance_of κ n.sequent.environment) (instance_of κ n.sequent.predicate))

-- .. and the goals that such proofs reach
pub record InPlainProof (m : Meaning) (Holds : Constraint → Type 0) (e g : Tree) : Type 0 where
  pub of_proof : GroundProof m Holds
  pub reached : IsReachedBy m Holds of_proof.proof e g

pub reached_among : (m : Meaning) (nodes : List Node) (first : Node) (ι : Instance) (n : Node) (κ : Instance) → IsReached m nodes first ι n κ → Among nodes first → Among nodes n
reached_among m nodes first ι n κ start a = a
reached_among m nodes first ι n κ (onward s to both before i after) a = to.found

abbrev HoldsIn : Truth → Constraint → Type 0
HoldsIn truth x = IsTrueBy truth x.relation x.left x.right

trivial_true : (truth : Truth) (r : Relation) (x : Constraint) → HasOneSide r x → IsTrueBy truth r x.left x.right
trivial_true truth relation.Equal x h = h
trivial_true truth relation.RegionOutlives x h = inl h
trivial_true truth relation.TypeOutlives x h = absurd h

constraint_after : (κ ι both : Instance) → ((t : Tree) → instance_of both t ≡ instance_of κ (instance_of ι t)) → (x : Constraint) → constraint_under both x ≡ constraint_under κ (constraint_under ι x)
constraint_after κ ι both h x = rw (h x.left, h x.right) refl

-- each reached node's constraints are true
reached_true : (m : Meaning) (truth : Truth) (p : PlainNode m (HoldsIn truth)) (n : Node) (κ : Instance) → IsReached m p.nodes p.node p.at n κ → (x : Constraint) → Among n.sequent.constraints x → HoldsIn truth (constraint_under κ x)
reached_true m truth p n κ start x i = p.true x i
reached_true m truth p n κ (onward {n = b} {κ = ι} s to both before a after) x i =
    let serves = to.serves in
    subst (HoldsIn truth) (sym (constraint_after ι s.instance both after x)) (elim (serves.constraints x i) [
      | inl t ↦ trivial_true truth x.relation (constraint_under ι (constraint_under s.instance x)) (one_side_under ι x.relation (constraint_under s.instance x) t)
      | inr j ↦ reached_true m truth p b ι before (constraint_under s.instance x) j
    ])

equal_true : (truth : Truth) (x : Constraint) → HoldsIn truth x → x.relation ≡ relation.Equal → x.left ≡ x.right
equal_true truth x h e = subst (λ z. IsTrueBy truth z x.left x.right) e h

-- an alias has one head and one list of arguments
pub one_alias : (h k : AliasHead) (ts us : Tree) → alias h ts ≡ alias k us → (h ≡ k) × (ts ≡ us)
one_alias (alias_of.Ty i) (alias_of.Ty j) ts us e = (cc e, cc e)
one_alias (alias_of.Const i) (alias_of.Const j) ts us e = (cc e, cc e)
one_alias (alias_of.Ty i) (alias_of.Const j) ts us e = cc e
one_alias (alias_of.Const i) (alias_of.Ty j) ts us e = cc e

module _ (h : Handler) (V : ℕ → List Variance) (truth : Truth) where
  abbrev m : Meaning
  m = meaning h V

  abbrev Proves : Tree → Tree → Type 0
  Proves = InPlainProof m (HoldsIn truth)

  -- a goal to which a step of a reached node leads is reached
  step_proved : (p : GroundProof m (HoldsIn truth)) (n : Node) (κ : Instance) → IsReached m p.proof.nodes p.proof.node p.proof.at n κ → (s : Step) → Among n.steps s → Proves (instance_of κ s.premise.environment) (instance_of κ s.premise.predicate)
  step_proved p n κ r s i =
      let w = p.proof in
      let a = reached_among m w.nodes w.node w.at n κ r w.found in
      let to = (let k = w.ranked in k.steps n s a i) in
      let both = after κ s.instance in
      let serves = to.serves in
      let equalities : (x : Constraint) → Among n.sequent.constraints x → x.relation ≡ relation.Equal → instance_of κ x.left ≡ instance_of κ x.right =
      λ x j k. equal_true truth (constraint_under κ x) (reached_true m truth w n κ r x j) k in
      record {
        of_proof = p;
        reached = record {
          node = to.node;
          at = both;
          reached = onward s to both r i (instance_of-after κ s.instance);
          environment = instance_of-after κ s.instance to.node.sequent.environment ∙ one_at κ n.sequent.constraints _ _ equalities serves.environment;
          predicate = instance_of-after κ s.instance to.node.sequent.predicate ∙ one_at κ n.sequent.constraints _ _ equalities serves.predicate;
        };
      }

  proved_there : {e f g q : Tree} → e ≡ f → g ≡ q → Proves f q → Proves e g
  proved_there x y p = rw (x, y) p

  -- .. and so is what a reached node leaves open, which those rest on that use it
  open_proved : (p : GroundProof m (HoldsIn truth)) (n : Node) (κ : Instance) → IsReached m p.proof.nodes p.proof.node p.proof.at n κ → (q : Premise) → Among n.sequent.open_goals q → Proves (instance_of κ q.environment) (instance_of κ q.predicate)
  open_proved p n κ start q i = absurd (subst (λ (qs : List Premise). Among qs q) p.whole i)
  open_proved p n κ (onward {n = b} {κ = ι} s to both before a after) q i =
      let serves = to.serves in
      let other = reopened s.instance q in
      proved_there (after q.environment) (after q.predicate) (elim (serves.open_goals q i) [
        | inl t ↦ subst (λ (z : Premise). Proves (instance_of ι z.environment) (instance_of ι z.predicate)) t.2 (step_proved p b ι before t.0 t.1)
        | inr t ↦ open_proved p b ι before other t.1
      ])

  -- a premise of a reached node is reached
  pub rests_proved : (p : GroundProof m (HoldsIn truth)) (n : Node) (κ : Instance) → IsReached m p.proof.nodes p.proof.node p.proof.at n κ → (q : Premise) → RestsOnAt m n κ q → Proves q.environment q.predicate
  rests_proved p n κ r q (inl (s, i, e)) = subst (λ (z : Premise). Proves z.environment z.predicate) e (step_proved p n κ r s i)
  rests_proved p n κ r q (inr (k, (o, i, e))) = subst (λ (z : Premise). Proves z.environment z.predicate) e (open_proved p n κ r o i)

  granted_true : (p : GroundProof m (HoldsIn truth)) (n : Node) (κ : Instance) → IsReached m p.proof.nodes p.proof.node p.proof.at n κ → (x : Constraint) → GrantsAt n κ x → HoldsIn truth x
  granted_true p n κ r x (inl t) = trivial_true truth x.relation x t
  granted_true p n κ r x (inr (y, i, e)) = subst (HoldsIn truth) e (reached_true m truth p.proof n κ r y i)

  formed_goal : (e g : Tree) → Proves e g → IsFormed (pair e g)
  formed_goal e g p =
      let r = p.reached in
      let w = (let o = p.of_proof in o.proof) in
      let a = reached_among m w.nodes w.node w.at r.node r.at r.reached w.found in
      let j = (let k = w.ranked in k.justified r.node a) in
      let f = (let t = j.terms in t.formed) in
      (subst IsFormed r.environment (IsFormed-instance r.at r.node.sequent.environment f.0), (subst IsFormed r.predicate (IsFormed-instance r.at r.node.sequent.predicate f.1.0), tt))

  ground_goal : (e g : Tree) → Proves e g → AllLabels IsGroundLabel (pair e g)
  ground_goal e g p =
      let r = p.reached in
      let o = p.of_proof in
      let f = o.ground r.node r.at r.reached in
      (subst (AllLabels IsGroundLabel) r.environment f.0, (subst (AllLabels IsGroundLabel) r.predicate f.1.0, tt))

  are_ground : AreGround Proves
  are_ground = record { formed = formed_goal; ground = ground_goal }

  -- the rule by which a goal follows, at its own terms
  pub goal_rule : (e g : Tree) (p : Proves e g) → (let r = p.reached in IsRule (strictly m) coherence IsAliasFree (GrantsAt r.node r.at) (HidesAt r.node r.at) (RestsOnAt m r.node r.at) e g)
  goal_rule e g p =
      let r = p.reached in
      let w = (let o = p.of_proof in o.proof) in
      subst (λ z. IsRule (strictly m) coherence IsAliasFree (GrantsAt r.node r.at) (HidesAt r.node r.at) (RestsOnAt m r.node r.at) z g) r.environment
      (subst (IsRule (strictly m) coherence IsAliasFree (GrantsAt r.node r.at) (HidesAt r.node r.at) (RestsOnAt m r.node r.at) (instance_of r.at r.node.sequent.environment)) r.predicate (w.plain r.node r.at r.reached))

  by_shape : (G : Tree → Type 0) (H : Constraint → Type 0) (D : Hidden → Type 0) (P : Premise → Type 0) (e g : Tree) → IsRule (strictly m) coherence G H D P e g → IsPredicate g
  by_shape G H D P e g (inl (s, is, x)) = record { sorts = empty; statement = s; is = is }
  by_shape G H D P e g (inr (y, s, f, is, fresh, x)) = record { sorts = y; statement = s; is = is }

  shaped_goal : (e g : Tree) → Proves e g → IsPredicate g
  shaped_goal e g p = by_shape IsAliasFree _ _ _ e g (goal_rule e g p)

  -- the rule of the engine by which one follows that is not the handler's
  by_engine : (e s : Tree) (p : Proves e (unbound s)) → (IsHandlers s → ⊥) → IsClosed s → (let r = p.reached in Engine (strictly m) IsAliasFree (GrantsAt r.node r.at) (HidesAt r.node r.at) (RestsOnAt m r.node r.at) e s)
  by_engine e s p n closed = (let r = p.reached in engine_unbound (strictly m) IsAliasFree (GrantsAt r.node r.at) (HidesAt r.node r.at) (RestsOnAt m r.node r.at) e s n closed (goal_rule e (unbound s) p))

  opened_engine : (e x xs s : Tree) (p : Proves e (binding x xs s)) → (let r = p.reached in EngineOpened (strictly m) IsAliasFree (GrantsAt r.node r.at) (HidesAt r.node r.at) (RestsOnAt m r.node r.at) e x xs s)
  opened_engine e x xs s p = (let r = p.reached in engine_binding (strictly m) IsAliasFree (GrantsAt r.node r.at) (HidesAt r.node r.at) (RestsOnAt m r.node r.at) e x xs s (goal_rule e (binding x xs s) p))

  abbrev asked_there : Tree → Tree → Premise
  asked_there e q = record { source = misc; environment = e; predicate = q }

  asked_among : (e : Tree) (ps : List Tree) (q : Tree) → Among ps q → Among (goals_there e ps) (asked_there e q)
  asked_among e [] q i = absurd i
  asked_among e (p ∷ ps) q (inl same) = inl (ap (asked_there e) same)
  asked_among e (p ∷ ps) q (inr i) = inr (asked_among e ps q i)

  -- by a rule for a goal it follows from what is proved
  module _ (e g : Tree) (p : Proves e g) where
    granted : (x : Constraint) → (let r = p.reached in GrantsAt r.node r.at x) → HoldsIn truth x
    granted x t = (let r = p.reached in granted_true p.of_proof r.node r.at r.reached x t)

    rested : (q : Premise) → (let r = p.reached in RestsOnAt m r.node r.at q) → Proves q.environment q.predicate
    rested q t = (let r = p.reached in rests_proved p.of_proof r.node r.at r.reached q t)

  -- what an alias is equal to, in which no alias stands, is what it normalizes to
  module _ (e a t : Tree) (x : IsAlias a) (closed : IsClosed t) (none : HasNoAlias t) where
    same_parts : (y : IsAlias a) (r : Tree) → normalization_goal y.head y.parts r ≡ normalization_goal x.head x.parts r
    same_parts y r = (let s = one_alias y.head x.head y.parts x.parts (sym y.is ∙ x.is) in cc (s.0, s.1))

    one_result : (G : Tree → Type 0) (P : Premise → Type 0) (s : Tree) → IsResult G P e t s → s ≡ t
    one_result G P s (inl (same, may)) = same
    one_result G P s (inr (y, term, may, stands, kinds)) = absurd (none_is_alias t none y)

    module _ (g : Tree) (p : Proves e g) (v : Variance) (inv : v ≡ variance.Invariant) where
      abbrev Rests : Premise → Type 0
      Rests = (let r = p.reached in Stands IsAliasFree (RestsOnAt m r.node r.at) (goal_kind m g))

      related_one : (r s : Tree) → IsAliasFree r → s ≡ t → AreResultsRelated (strictly m) IsAliasFree (let q = p.reached in GrantsAt q.node q.at) Rests e v r s ⊎ AreResultsRelated (strictly m) IsAliasFree (let q = p.reached in GrantsAt q.node q.at) Rests e v s r → r ≡ t
      related_one r s free same (inl (inl y)) =
          related_equal V IsAliasFree (let q = p.reached in GrantsAt q.node q.at) (λ z. Rests (relating e z)) (λ i j k. granted e g p (record { relation = relation.Equal; left = i; right = j }) k) v r t inv (free_none r free) none
          (subst (RelatedIn (strictly m) IsAliasFree (let q = p.reached in GrantsAt q.node q.at) Rests e v r) same y)
      related_one r s free same (inl (inr (h, ts, us, is, other, rest))) = absurd (no_head h ts (subst HasNoAlias is (free_none r free)))
      related_one r s free same (inr (inl y)) =
          sym (related_equal V IsAliasFree (let q = p.reached in GrantsAt q.node q.at) (λ z. Rests (relating e z)) (λ i j k. granted e g p (record { relation = relation.Equal; left = i; right = j }) k) v t r inv none (free_none r free)
          (subst (λ z. RelatedIn (strictly m) IsAliasFree (let q = p.reached in GrantsAt q.node q.at) Rests e v z r) same y))
      related_one r s free same (inr (inr (h, ts, us, other, is, rest))) = absurd (no_head h us (subst HasNoAlias is (free_none r free)))

      by_results : (r s : Tree) → IsResult IsAliasFree Rests e a r → s ≡ t → AreResultsRelated (strictly m) IsAliasFree (let q = p.reached in GrantsAt q.node q.at) Rests e v r s ⊎ AreResultsRelated (strictly m) IsAliasFree (let q = p.reached in GrantsAt q.node q.at) Rests e v s r → Proves e (normalization_goal x.head x.parts t) × (kind_of t ≡ kind_of a)
      by_results r s (inl (same, may)) is related = absurd (no_head x.head x.parts (subst HasNoAlias x.is (free_none a (may x))))
      by_results r s (inr (y, term, free, inl (i, rests), kinds)) is related =
          let q = rested e g p (relating e (normalization_goal y.head y.parts r)) rests in
          let one = related_one r s free is related in (
            subst (λ z. Proves e (normalization_goal x.head x.parts z)) one (subst (Proves e) (same_parts y r) q),
            sym (ap kind_of one) ∙ kinds,
          )
      by_results r s (inr (y, term, free, inr (loose, stands), kinds)) is related = absurd (loose tt)

    equates : Proves e (alias_relation direction.Equate a t) ⊎ Proves e (alias_relation direction.Equate t a) → Proves e (normalization_goal x.head x.parts t) × (kind_of t ≡ kind_of a)
    equates (inl p) =
        let r = p.reached in
        let u = unfold_alias (strictly m) coherence IsAliasFree (GrantsAt r.node r.at) (HidesAt r.node r.at) (RestsOnAt m r.node r.at) e direction.Equate a t x.closed closed (goal_rule e (alias_relation direction.Equate a t) p) in
        by_results (alias_relation direction.Equate a t) p variance.Invariant refl u.left u.right u.of_left (one_result IsAliasFree (Rests (alias_relation direction.Equate a t) p variance.Invariant refl) u.right u.of_right) (inl u.relate)
    equates (inr p) =
        let r = p.reached in
        let u = unfold_alias (strictly m) coherence IsAliasFree (GrantsAt r.node r.at) (HidesAt r.node r.at) (RestsOnAt m r.node r.at) e direction.Equate t a closed x.closed (goal_rule e (alias_relation direction.Equate t a) p) in
        by_results (alias_relation direction.Equate t a) p variance.Invariant refl u.right u.left u.of_right (one_result IsAliasFree (Rests (alias_relation direction.Equate t a) p variance.Invariant refl) u.left u.of_left) (inr u.relate)

  -- two aliases that are equal have one result
  module _ (e a b : Tree) (x : IsAlias a) (y : IsAlias b) (p : Proves e (alias_relation direction.Equate a b)) where
    abbrev RestsThere : Premise → Type 0
    RestsThere = (let r = p.reached in Stands IsAliasFree (RestsOnAt m r.node r.at) (goal_kind m (alias_relation direction.Equate a b)))

    -- the result of an alias is none
    record IsNormal (c r : Tree) : Type 0 where
      pub alias : IsAlias c
      pub ends : IsClosed r
      pub free : IsAliasFree r
      pub kind : kind_of r ≡ kind_of c
      pub proved : Proves e (normalization_goal alias.head alias.parts r)

    normal_result : (c r : Tree) → IsAlias c → IsResult IsAliasFree RestsThere e c r → IsNormal c r
    normal_result c r z (inl (same, may)) = absurd (none_is_alias c (free_none c (may z)) z)
    normal_result c r z (inr (i, term, free, inl (k, rests), kinds)) =
        record { alias = i; ends = term.closed; free = free; kind = kinds; proved = rested e (alias_relation direction.Equate a b) p (relating e (normalization_goal i.head i.parts r)) rests }
    normal_result c r z (inr (i, term, free, inr (loose, stands), kinds)) = absurd (loose tt)

    one_term : (r s : Tree) → IsAliasFree r → IsAliasFree s → AreResultsRelated (strictly m) IsAliasFree (let q = p.reached in GrantsAt q.node q.at) RestsThere e variance.Invariant r s → r ≡ s
    one_term r s fr fs (inl k) =
        related_equal V IsAliasFree (let q = p.reached in GrantsAt q.node q.at) (λ z. RestsThere (relating e z)) (λ i j k. granted e (alias_relation direction.Equate a b) p (record { relation = relation.Equal; left = i; right = j }) k) variance.Invariant r s refl (free_none r fr) (free_none s fs) k
    one_term r s fr fs (inr (h, ts, us, is, other, rest)) = absurd (no_head h ts (subst HasNoAlias is (free_none r fr)))

    equates_both : NormalizeToOne Proves e a b
    equates_both =
        let r = p.reached in
        let u = unfold_alias (strictly m) coherence IsAliasFree (GrantsAt r.node r.at) (HidesAt r.node r.at) (RestsOnAt m r.node r.at) e direction.Equate a b x.closed y.closed (goal_rule e (alias_relation direction.Equate a b) p) in
        let one = normal_result a u.left x u.of_left in
        let other = normal_result b u.right y u.of_right in
        let same : u.left ≡ u.right = one_term u.left u.right one.free other.free u.relate in
        let i = other.alias in
        record { left = one.alias; right = i; term = u.left; ends = one.ends; free = one.free; kind = one.kind; kind_too = ap kind_of same ∙ other.kind; first = one.proved; second = subst (λ z. Proves e (normalization_goal i.head i.parts z)) (sym same) other.proved }

  -- two terms that are equal come to one, if one of them is an alias
  normal_alias : (e a t : Tree) (x : IsAlias a) → IsClosed t → HasNoAlias t → Proves e (normalization_goal x.head x.parts t) → kind_of t ≡ kind_of a → IsNormalAlias (IsGranted Proves) e a t
  normal_alias e a t x closed none p kinds =
      record {
        alias = x;
        ends = closed;
        none = none;
        kind = kinds;
        granted = record { ground = ground_goal e (normalization_goal x.head x.parts t) p; proved = λ s. p; with_values = λ n. absurd (n tt) };
      }

  module _ (e a b : Tree) (ca : IsClosed a) (cb : IsClosed b) (p : Proves e (alias_relation direction.Equate a b)) where
    abbrev RestsHere : Premise → Type 0
    RestsHere = (let r = p.reached in Stands IsAliasFree (RestsOnAt m r.node r.at) (goal_kind m (alias_relation direction.Equate a b)))

    -- a side that is no alias is its own result
    abbrev IsSideOf : Tree → Tree → Type 0
    IsSideOf c r = (r ≡ c) × (IsAlias c → ⊥) ⊎ IsNormalAlias (IsGranted Proves) e c r × IsAliasFree r × IsFormed r

    of_side : (c r : Tree) → IsResult IsAliasFree RestsHere e c r → IsSideOf c r
    of_side c r (inl (same, may)) = inl (same, λ z. none_is_alias c (free_none c (may z)) z)
    of_side c r (inr (i, term, free, inl (k, rests), kinds)) =
        let q = rested e (alias_relation direction.Equate a b) p (relating e (normalization_goal i.head i.parts r)) rests in
        let f = formed_goal e (normalization_goal i.head i.parts r) q in
        inr (normal_alias e c r i term.closed (free_none r free) q kinds, free, f.1.0.1.1.0.1.1.0)
    of_side c r (inr (i, term, free, inr (loose, stands), kinds)) = absurd (loose tt)

    proved_here : (x y : Tree) → RestsHere (relating e (alias_relation direction.Equate x y)) → Proves e (alias_relation direction.Equate x y)
    proved_here x y (inl (k, rests)) = rested e (alias_relation direction.Equate a b) p (relating e (alias_relation direction.Equate x y)) rests
    proved_here x y (inr (loose, stands)) = absurd (loose tt)

    of_left : (x y : Tree) → IsAlias x → IsClosed y → HasNoAlias y → RestsHere (relating e (alias_relation direction.Equate x y)) → IsNormalAlias (IsGranted Proves) e x y
    of_left x y i closed none q = (let n = equates e x y i closed none (inl (proved_here x y q)) in normal_alias e x y i closed none n.0 n.1)

    of_right : (x y : Tree) → IsAlias y → IsClosed x → HasNoAlias x → RestsHere (relating e (alias_relation direction.Equate x y)) → IsNormalAlias (IsGranted Proves) e y x
    of_right x y i closed none q = (let n = equates e y x i closed none (inr (proved_here x y q)) in normal_alias e y x i closed none n.0 n.1)

    same_region : (x y : Tree) → (let r = p.reached in GrantsAt r.node r.at (record { relation = relation.Equal; left = x; right = y })) → x ≡ y
    same_region x y k = granted e (alias_relation direction.Equate a b) p (record { relation = relation.Equal; left = x; right = y }) k

    by_sides : (r s : Tree) → IsSideOf a r → IsSideOf b s → AreResultsRelated (strictly m) IsAliasFree (let q = p.reached in GrantsAt q.node q.at) RestsHere e variance.Invariant r s → IsAlias a ⊎ IsAlias b → AreMadeOne (IsGranted Proves) e a b
    by_sides r s (inl (x, n)) (inl (y, o)) z i = absurd (elim i [ inl j ↦ n j | inr j ↦ o j ])
    by_sides r s (inr (x, fr, f)) (inl (y, o)) (inl z) i =
        let back = related_by_right V IsAliasFree (let q = p.reached in GrantsAt q.node q.at) (λ z. RestsHere (relating e z)) same_region (IsNormalAlias (IsGranted Proves) e) of_right variance.Invariant r b refl (free_none r fr)
        (subst (RelatedIn (strictly m) IsAliasFree (let q = p.reached in GrantsAt q.node q.at) RestsHere e variance.Invariant r) y z) in
        record { term = r; formed = f; settled = free_settled r fr; left = by_alias x; right = back }
    by_sides r s (inr (x, fr, f)) (inl (y, o)) (inr (h, ts, us, is, other, rest)) i = absurd (no_head h ts (subst HasNoAlias is (free_none r fr)))
    by_sides r s (inl (x, n)) (inr (y, fs, f)) (inl z) i =
        let forth = related_by_left V IsAliasFree (let q = p.reached in GrantsAt q.node q.at) (λ z. RestsHere (relating e z)) same_region (IsNormalAlias (IsGranted Proves) e) of_left variance.Invariant a s refl (free_none s fs)
        (subst (λ v. RelatedIn (strictly m) IsAliasFree (let q = p.reached in GrantsAt q.node q.at) RestsHere e variance.Invariant v s) x z) in
        record { term = s; formed = f; settled = free_settled s fs; left = forth; right = by_alias y }
    by_sides r s (inl (x, n)) (inr (y, fs, f)) (inr (h, ts, us, is, other, rest)) i = absurd (no_head h us (subst HasNoAlias other (free_none s fs)))
    by_sides r s (inr (x, fr, f)) (inr (y, fs, g)) (inl z) i =
        let same : r ≡ s = related_equal V IsAliasFree (let q = p.reached in GrantsAt q.node q.at) (λ z. RestsHere (relating e z)) same_region variance.Invariant r s refl (free_none r fr) (free_none s fs) z in
        record { term = r; formed = f; settled = free_settled r fr; left = by_alias x; right = by_alias (subst (IsNormalAlias (IsGranted Proves) e b) (sym same) y) }
    by_sides r s (inr (x, fr, f)) (inr (y, fs, g)) (inr (h, ts, us, is, other, rest)) i = absurd (no_head h ts (subst HasNoAlias is (free_none r fr)))

    resolves : IsAlias a ⊎ IsAlias b → AreMadeOne (IsGranted Proves) e a b
    resolves i =
        let r = p.reached in
        let u = unfold_alias (strictly m) coherence IsAliasFree (GrantsAt r.node r.at) (HidesAt r.node r.at) (RestsOnAt m r.node r.at) e direction.Equate a b ca cb (goal_rule e (alias_relation direction.Equate a b) p) in
        by_sides u.left u.right (of_side a u.left u.of_left) (of_side b u.right u.of_right) u.relate i

  -- so a rule for a goal is a use of a clause
  module _ (e g : Tree) (p : Proves e g) where
    granted_here : (x : Constraint) → (let r = p.reached in GrantsAt r.node r.at x) → HoldsIn truth x
    granted_here = granted e g p

    rested_here : (q : Premise) → (let r = p.reached in RestsOnAt m r.node r.at q) → Proves q.environment q.predicate
    rested_here = rested e g p

    comes_together : (f a b : Tree) → IsAlias a ⊎ IsAlias b → IsClosed a → IsClosed b → Proves f (alias_relation direction.Equate a b) → AreMadeOne (IsGranted Proves) f a b
    comes_together f a b i ca cb q = resolves f a b ca cb q i

    used_unbound : (s : Tree) → g ≡ unbound s → IsHandlers s → IsClosed s → UsesClause h truth Proves e s
    used_unbound s is i c = (let r = p.reached in
        uses_unbound h (strictly m) truth Proves (λ a x. x) are_ground shaped_goal IsAliasFree (GrantsAt r.node r.at) (HidesAt r.node r.at) (RestsOnAt m r.node r.at) (λ v k. k) granted_here rested_here comes_together e s (subst (λ z. IsFormed (pair e z)) is (formed_goal e g p)) i c
        (subst (IsRule (strictly m) coherence IsAliasFree (GrantsAt r.node r.at) (HidesAt r.node r.at) (RestsOnAt m r.node r.at) e) is (goal_rule e g p)))

    used_binding : (x xs s : Tree) → g ≡ binding x xs s → IsHandlers s → UsesOpened h truth Proves e (binding x xs s) s
    used_binding x xs s is i = (let r = p.reached in
        uses_binding h (strictly m) truth Proves (λ a y. y) are_ground shaped_goal IsAliasFree (GrantsAt r.node r.at) (HidesAt r.node r.at) (RestsOnAt m r.node r.at) (λ v k. k) granted_here rested_here comes_together e x xs s (subst (λ z. IsFormed (pair e z)) is (formed_goal e g p)) i
        (subst (IsRule (strictly m) coherence IsAliasFree (GrantsAt r.node r.at) (HidesAt r.node r.at) (RestsOnAt m r.node r.at) e) is (goal_rule e g p)))

    said_here : (s : Tree) (y : Constraint) → (let r = p.reached in Engine (strictly m) IsAliasFree (GrantsAt r.node r.at) (HidesAt r.node r.at) (RestsOnAt m r.node r.at) e s) → HasNoAlias s → SaysOfTwo y s → HoldsIn truth y
    said_here s y b n says = (let r = p.reached in said_true h (strictly m) truth Proves (λ a z. z) are_ground shaped_goal IsAliasFree (GrantsAt r.node r.at) (HidesAt r.node r.at) (RestsOnAt m r.node r.at) (λ v k. k) granted_here rested_here comes_together e s y b n says)

    formed_here : (s t : Tree) (ps : List Tree) (q : Tree) → (let r = p.reached in Engine (strictly m) IsAliasFree (GrantsAt r.node r.at) (HidesAt r.node r.at) (RestsOnAt m r.node r.at) e s) → s ≡ is_well_formed t → (let j = h.judges in j.well_formed e t ≡ Some ps) → Among ps q → IsGranted Proves e q
    formed_here s t ps q b is given i = (let r = p.reached in
        formed_proved h (strictly m) truth Proves (λ a y. y) are_ground shaped_goal IsAliasFree (GrantsAt r.node r.at) (HidesAt r.node r.at) (RestsOnAt m r.node r.at) (λ v k. k) granted_here rested_here comes_together e s t (goals_there e ps) b is (ap (goals_in e) given) (asked_there e q) (asked_among e ps q i))

  formed_no_handlers : (s t : Tree) → s ≡ is_well_formed t → IsHandlers s → ⊥
  formed_no_handlers s t is i = subst IsHandlers is i

  pub plain_used : AreUsed h truth Proves
  plain_used =
      record {
        ground = are_ground;
        plain = λ e s p i c. used_unbound e (unbound s) p s refl i c;
        opened = λ e x xs s p i. used_binding e (binding x xs s) p x xs s refl i;
        says = λ e s y p says closed n. (let none = said_no_handlers y s says in said_here e (unbound s) p s y (by_engine e s p none closed) n says);
        formed = λ e s p closed t ps is given q i. (let none = formed_no_handlers s t is in formed_here e (unbound s) p s t ps q (by_engine e s p none closed) is given i);
        equates = λ e a t x p closed none. equates e a t x closed none p;
        equates_both = equates_both;
        formed_opened = λ e x xs s p. (let o = opened_engine e x xs s p in
            record {
              fresh = o.fresh;
              are_fresh = o.are_fresh;
              goals = λ t ps is given q i.
                  (let none = formed_no_handlers (opened o.fresh 0 s) t is in
                  formed_here e (binding x xs s) p (opened o.fresh 0 s) t ps q (o.follows none) is given i);
            });
        denies = λ e g p d. (let r = p.reached in
            rule_denied (strictly m) h.judges (λ i. refl) coherence IsAliasFree (GrantsAt r.node r.at) (HidesAt r.node r.at) (RestsOnAt m r.node r.at) e g d (goal_rule e g p));
        says_opened = λ e x xs s p n. (let o = opened_engine e x xs s p in
            record {
              fresh = o.fresh;
              are_fresh = o.are_fresh;
              holds = λ y says.
                  (let none = said_no_handlers y (opened o.fresh 0 s) says in
                  said_here e (binding x xs s) p (opened o.fresh 0 s) y (o.follows none) (opened_none o.fresh 0 s n) says);
            });
      }

  -- where its names are its own
  pub plain_unmoved : (e s : Tree) (p : Proves e (unbound s)) (i : IsHandlers s) (c : IsClosed s) → (let u = plain_used in (u.plain e s p i c).carrier) ≡ unmoved
  unfolding plain_used used_unbound
  plain_unmoved e s p i c = (let r = p.reached in unbound_unmoved h (strictly m) truth Proves (λ a x. x) are_ground shaped_goal IsAliasFree (GrantsAt r.node r.at) (HidesAt r.node r.at) (RestsOnAt m r.node r.at) (λ v k. k) (granted_here e (unbound s) p) (rested_here e (unbound s) p) (comes_together e (unbound s) p) e s _ i c _)

  -- a goal that has such a proof is reached
  pub root_reached : (p : GroundProof m (HoldsIn truth)) → (let w = p.proof in Proves (instance_of w.at w.node.sequent.environment) (instance_of w.at w.node.sequent.predicate))
  root_reached p = record { of_proof = p; reached = record { node = (let w = p.proof in w.node); at = (let w = p.proof in w.at); reached = start; environment = refl; predicate = refl } }

-- where the first instance leaves no region variable, no instance that is reached does
ground_put : (f : Leaf → Tree) → ((l : Leaf) → AllLabels IsGroundLabel (f l)) → (l : Label) (c : Tree) → AllLabels IsGroundLabel c → AllLabels IsGroundLabel (put f l c)
ground_put f h (label.Leaf x) c k = h x
ground_put f h (label.Bound a b n) c k = (refl, k)
ground_put f h (label.Ty x) c k = (refl, k)
ground_put f h (label.Const x) c k = (refl, k)
ground_put f h (label.Clause x) c k = (refl, k)
ground_put f h (label.Predicate x) c k = (refl, k)
ground_put f h (label.List x) c k = (refl, k)

ground_instance : (f : Leaf → Tree) → ((l : Leaf) → AllLabels IsGroundLabel (f l)) → (t : Tree) → AllLabels IsGroundLabel (replace f t)
ground_instance f h empty = tt
ground_instance f h (more a b) = (ground_instance f h a, ground_instance f h b)
ground_instance f h (node l c) = ground_put f h l (replace f c) (ground_instance f h c)

pub ground_reached : (m : Meaning) (nodes : List Node) (first : Node) (ι : Instance) → IsGroundInstance ι → (n : Node) (κ : Instance) → IsReached m nodes first ι n κ → (t : Tree) → AllLabels IsGroundLabel (instance_of κ t)
ground_reached m nodes first ι g n κ start t = ground_instance ι.value g.ground t
ground_reached m nodes first ι g n κ (onward {κ = before} s to both earlier i after) t = subst (AllLabels IsGroundLabel) (sym (after t)) (ground_reached m nodes first ι g _ before earlier (instance_of s.instance t))

abbrev pub ground_proof : (m : Meaning) (Holds : Constraint → Type 0) (p : PlainNode m Holds) → IsGroundInstance p.at → p.node.sequent.open_goals ≡ [] → GroundProof m Holds
ground_proof m Holds p g none =
    record { proof = p; whole = none; ground = λ n κ r. (let z = ground_reached m p.nodes p.node p.at g n κ r in (z n.sequent.environment, (z n.sequent.predicate, tt))) }
