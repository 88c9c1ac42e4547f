-- A fact has a proof, and a goal without a rule has none. A coinductive cycle has a proof; the same cycle of an
-- ordinary trait has none.
use Rattle.std.proofs.Common.{◌≡◌, ◌⊎◌, inl, inr, ⊎_elim, ℕ, zero, suc, ◌<◌, List, [], ◌∷◌, Bool, true, false, refl, sym, ap, ◌∙◌, arith, subst}
use Rattle.std.specs.Prelude.{◌||◌}
use Rattle.nts_model.specs.declared.labels.Sort.{Sort}
use Rattle.nts_model.specs.declared.labels.ClauseHead.TheVariants as clause
use Rattle.nts_model.specs.declared.labels.PredicateHead.TheVariants as predicate
use Rattle.nts_model.specs.declared.labels.ListHead.TheVariants as list
use Rattle.nts_model.specs.declared.labels.Leaf.{Leaf}
use Rattle.nts_model.specs.declared.labels.Label.TheVariants as label
use Rattle.nts_model.specs.Terms.Trees.{Tree, empty, more, node, IsInRow, kind_of, any_label, is_alias}
use Rattle.nts_model.specs.Terms.Substitutions.{Instance, instance_of}
use Rattle.nts_model.specs.Derivations.Related.{Constraint, constructor, arguments, unbound, alias_label}
use Rattle.nts_model.specs.Lists.{Among}
use Rattle.nts_model.specs.Derivations.Sequents.{coinductive, impl_where_bound, Premise, Hidden, Sequent, IsOfTerms, IsInstance}
use Rattle.nts_model.specs.Derivations.Rules.{Mode, coherence, post_analysis, GoalKind, coinductive_trait, normalization, other_goal, proof_kind, statement_of, statement_kind, goal_kind, IsCoinductiveStep, Application, Meaning, meaning_of, Replaced, chosen, kept_empty, kept_more, kept_node, Stands, opened, IsBuiltIn, region_lives, type_lives, subtyped, coerced, const_typed, error_typed, allowed, dyn_compatible, formed, constant_evaluated, value_evaluated, error_evaluated, alias_evaluated, aliases_relate, IsPlainRule, IsRule, bound}
use Rattle.nts_model.specs.Derivations.Handlers.{never_leaks, never_at_once, no_judgements, meaning}
use Rattle.nts_model.specs.Derivations.Proofs.{Node, RestsOn, IsNormalization, IsSoundStep, IsRankedProof, HasProof, Derives, by_rule, by_cycle, all_derived, by_assumption}
use Rattle.nts_model.proofs.Terms.Composing.{itself, instance_of-itself, instance_kinds}
use Rattle.nts_theory.proofs.Derivations.ClosedStatements.{closed_unbound}
use Rattle.nts_model.proofs.Terms.Identified.{one_itself, one_leafless}
use Rattle.nts_theory.proofs.Derivations.Flattening.{derivation_proof}
use Rattle.nts_model.proofs.Terms.Unpositioned.{or_false as either_false}
use Rattle.nts_model.proofs.Tables.AlikeNodes.{alias_label_is as alias_is, label_same as label_is}
use Rattle.nts_theory.proofs.Examples.InputExamples.{no_clauses as nowhere}

pub replaced_plain : (C : Tree → Tree → Type 0) (t : Tree) → any_label is_alias t ≡ false → Replaced C t t
replaced_plain C empty e = kept_empty
replaced_plain C (more a b) e =
    let (x, y) = either_false (any_label is_alias a) (any_label is_alias b) e in
    kept_more (replaced_plain C a x) (replaced_plain C b y)
replaced_plain C (node l c) e =
    let (x, y) = either_false (is_alias l) (any_label is_alias c) e in
    kept_node (λ i. let z : true ≡ false = sym (ap is_alias (label_is l (alias_label i.head) c (arguments i.parts) i.is) ∙ alias_is i.head) ∙ x in cc z) (replaced_plain C c y)

pub replaced_only : (C : Tree → Tree → Type 0) (t u : Tree) → any_label is_alias t ≡ false → Replaced C t u → u ≡ t
replaced_only C t u e (chosen i closed v) =
    let y : any_label is_alias t ≡ (is_alias (alias_label i.head) || any_label is_alias (arguments i.parts)) = ap (any_label is_alias) i.is in
    let z = either_false (is_alias (alias_label i.head)) (any_label is_alias (arguments i.parts)) (sym y ∙ e) in
    let w : true ≡ false = sym (alias_is i.head) ∙ z.0 in
    absurd (cc w)
replaced_only C _ _ e kept_empty = refl
replaced_only C _ _ e (kept_more {a = a} {b = b} {s = s} {t = t} r q) =
    let (x, y) = either_false (any_label is_alias a) (any_label is_alias s) e in
    cc (replaced_only C a b x r, replaced_only C s t y q)
replaced_only C _ _ e (kept_node {l = l} {c = c} {d = d} n r) =
    let (x, y) = either_false (is_alias l) (any_label is_alias c) e in
    ap (node l) (replaced_only C c d y r)

-- Auto(List)
abbrev pub auto_list : Tree
auto_list = unbound (node (label.Clause (clause.Trait 0)) (arguments (more (constructor 1 empty) empty)))

abbrev pub auto_goal : Premise
auto_goal = record { source = impl_where_bound; environment = nowhere; predicate = auto_list }

-- impl Auto(List) where these goals and constraints hold
abbrev pub clause_under : List Premise → List Constraint → Application
clause_under gs xs = record { environment = nowhere; conclusion = auto_list; values = []; equations = []; goals = gs; constraints = xs; hidden = [] }

-- impl Auto(List) <- Auto(List)
abbrev pub auto_clause : Application
auto_clause = clause_under (auto_goal ∷ []) []

-- impl Auto(List)
abbrev pub fact_clause : Application
fact_clause = clause_under [] []

abbrev pub by_clause : Application → (ℕ → Bool) → Meaning
by_clause a is_coinductive = meaning (record { applies = λ mode x. x ≡ a; offers = λ mode e g. []; is_coinductive = is_coinductive; leaks = never_leaks; judges = no_judgements; at_once = never_at_once }) (λ i. [])

abbrev no_clauses : Meaning
no_clauses = meaning_of (λ mode x. ⊥) (λ i. false) (λ i. [])

abbrev pub auto_sequent : Sequent
auto_sequent = record { environment = nowhere; predicate = auto_list; constraints = []; hidden = []; open_goals = [] }

pub no_predicates : (ps : Tree) → nowhere ≡ node (label.List list.Env) ps → ps ≡ empty
no_predicates ps e = cc e

pub auto_terms : IsOfTerms auto_sequent
auto_terms =
    record {
      formed = ((tt, tt), (((refl, (refl, tt)), ((tt, tt), (((refl, tt), (((tt, tt), (((refl, tt), ((tt, tt), tt)), tt)), tt)), tt))), tt));
      closed = ((tt, tt), ((tt, ((tt, tt), ((tt, ((tt, ((tt, ((tt, tt), tt)), tt)), tt)), tt))), tt));
      no_positions = refl;
      well_bound = ((tt, tt), ((((tt, tt), ((tt, ((tt, ((tt, ((tt, tt), tt)), tt)), tt)), tt)), ((tt, tt), ((tt, ((tt, ((tt, ((tt, tt), tt)), tt)), tt)), tt))), tt));
      statement = closed_unbound (node (label.Clause (clause.Trait 0)) (arguments (more (constructor 1 empty) empty))) (tt, ((tt, ((tt, ((tt, tt), tt)), tt)), tt));
      statements = λ ps p e i. absurd (subst (IsInRow p) (no_predicates ps e) i);
    }

pub auto_instance : IsInstance itself auto_sequent auto_sequent
auto_instance =
    record {
      environment = one_itself [] _ _ (instance_of-itself nowhere (tt, tt));
      predicate = (let f = auto_terms.formed in let g = f.1 in one_itself [] _ _ (instance_of-itself auto_list g.0));
      constraints = λ c i. absurd i;
      hidden = λ o i. absurd i;
      open_goals = λ g i. absurd i;
    }

-- what the clause says follows by it from what is at hand, where that are its goals and its constraints
pub auto_plain : (m : Meaning) (mode : Mode) (G : Tree → Type 0) (H : Constraint → Type 0) (D : Hidden → Type 0) (P : Premise → Type 0) (gs : List Premise) (xs : List Constraint)
    → m.applies mode (clause_under gs xs) → ((g : Premise) → Among gs g → Stands G P (goal_kind m auto_list) g) → ((x : Constraint) → Among xs x → H x) → IsPlainRule m mode G H D P nowhere (statement_of auto_list)
auto_plain m mode G H D P gs xs applies stand granted =
    inl (
      tt,
      record {
        use_of = clause_under gs xs;
        applies = applies;
        environment = refl;
        conclusion = refl;
        values = λ v i. absurd i;
        equations = λ q i. absurd i;
        goals = stand;
        constraints = granted;
        hidden = λ o i. absurd i;
        item_bounds = λ o g i j. absurd i;
      },
    )

pub auto_rule : (m : Meaning) (mode : Mode) (G : Tree → Type 0) (H : Constraint → Type 0) (D : Hidden → Type 0) (P : Premise → Type 0) (gs : List Premise) (xs : List Constraint)
    → m.applies mode (clause_under gs xs) → ((g : Premise) → Among gs g → Stands G P (goal_kind m auto_list) g) → ((x : Constraint) → Among xs x → H x) → IsRule m mode G H D P nowhere auto_list
auto_rule m mode G H D P gs xs applies stand granted = inl (_, refl, auto_plain m mode G H D P gs xs applies stand granted)

pub auto_stands : (G : Tree → Type 0) (P : Premise → Type 0) (k : GoalKind) → P auto_goal → (g : Premise) → Among (auto_goal ∷ []) g → Stands G P k g
auto_stands G P k p g (inl e) = subst (Stands G P k) (sym e) (inr ((λ x. x), (auto_list, replaced_plain _ auto_list refl, p)))
auto_stands G P k p g (inr h) = absurd h

-- a fact has a proof
fact_derived : Derives (by_clause fact_clause (λ i. false)) coherence [] auto_sequent
fact_derived = by_rule [] auto_terms (auto_rule (by_clause fact_clause (λ i. false)) coherence _ _ _ _ [] [] refl (λ g i. absurd i) (λ x i. absurd i)) all_derived

pub fact_proof : HasProof (by_clause fact_clause (λ i. false)) coherence auto_sequent
fact_proof = derivation_proof (by_clause fact_clause (λ i. false)) coherence auto_sequent auto_sequent itself fact_derived auto_instance

-- a coinductive cycle has a proof
coinductive_cycle : Derives (by_clause auto_clause (λ i. true)) post_analysis [] auto_sequent
coinductive_cycle =
    by_cycle (by_rule (auto_goal ∷ []) auto_terms
    (auto_rule (by_clause auto_clause (λ i. true)) post_analysis _ _ _ _ (auto_goal ∷ []) [] refl (auto_stands _ _ coinductive_trait (inl (inl refl))) (λ x i. absurd i))
    (by_assumption itself 0 (record { sequent = auto_sequent; is_behind = true }) refl refl
    (record { environment = auto_instance.environment; predicate = auto_instance.predicate; constraints = λ x i. absurd i; hidden = λ o i. absurd i; open_goals = λ g i. absurd i })
    all_derived))

pub coinductive_proof : HasProof (by_clause auto_clause (λ i. true)) post_analysis auto_sequent
coinductive_proof = derivation_proof (by_clause auto_clause (λ i. true)) post_analysis auto_sequent auto_sequent itself coinductive_cycle auto_instance

-- a statement whose instance is about the trait is about the trait
leaf_no_statement : (ι : Instance) (l : Leaf) (ts : Tree) → ι.value l ≡ node (label.Clause (clause.Trait 0)) ts → ⊥
leaf_no_statement ι l ts e = let k = sym (instance_kinds ι l) ∙ ap kind_of e in cc k

trait_back : (ι : Instance) (s ts : Tree) → instance_of ι s ≡ node (label.Clause (clause.Trait 0)) ts → (c : Tree) × (s ≡ node (label.Clause (clause.Trait 0)) c)
trait_back ι (node (label.Clause h) c) ts e = let same : h ≡ clause.Trait 0 = cc e in (c, rw same refl)
trait_back ι (node (label.Leaf l) c) ts e = absurd (leaf_no_statement ι l ts e)
trait_back ι s ts e = absurd (cc e)

said_back : (ι : Instance) (sorts s : Tree) → instance_of ι (bound sorts s) ≡ auto_list → (c : Tree) × (s ≡ node (label.Clause (clause.Trait 0)) c)
said_back ι sorts s e = trait_back ι s (arguments (more (constructor 1 empty) empty)) (cc e)

-- no rule of the engine is about the trait
not_built_in : (m : Meaning) (G : Tree → Type 0) (H : Constraint → Type 0) (P : Premise → Type 0) (e s c : Tree) → IsBuiltIn m G H P e s → s ≡ node (label.Clause (clause.Trait 0)) c → ⊥
not_built_in m G H P e _ c (region_lives i j h) x = cc x
not_built_in m G H P e _ c (type_lives i h) x = cc x
not_built_in m G H P e _ c (subtyped y r) x = cc x
not_built_in m G H P e _ c (coerced r) x = cc x
not_built_in m G H P e _ c (const_typed r u y t z) x = cc x
not_built_in m G H P e _ c (error_typed y) x = cc x
not_built_in m G H P e _ c (allowed y) x = cc x
not_built_in m G H P e _ c (dyn_compatible y) x = cc x
not_built_in m G H P e _ c (formed gs y z) x = cc x
not_built_in m G H P e _ c constant_evaluated x = cc x
not_built_in m G H P e _ c value_evaluated x = cc x
not_built_in m G H P e _ c error_evaluated x = cc x
not_built_in m G H P e _ c (alias_evaluated y) x = cc x
not_built_in m G H P e _ c (aliases_relate r s y z w) x = cc x

-- what a rule for an instance of the goal is: a use of the clause
pub record UsesClause (m : Meaning) (mode : Mode) (P : Premise → Type 0) (g : Tree) : Type 0 where
  pub use_of : Application
  pub applies : m.applies mode use_of
  pub kind : GoalKind
  pub goals : (q : Premise) → Among use_of.goals q → Stands (λ t. Unit {0}) P kind q
  pub no_normalization : IsNormalization m g → ⊥

trait_no_normalization : (is_coinductive : ℕ → Bool) (s c : Tree) → s ≡ node (label.Clause (clause.Trait 0)) c → statement_kind is_coinductive s ≡ normalization → ⊥
trait_no_normalization coinductive_of s c e k = by_kind (coinductive_of 0) refl
  where
    by_kind : (b : Bool) → coinductive_of 0 ≡ b → ⊥
    by_kind true q = let z : coinductive_trait ≡ normalization = rw (e, q) at k in cc z
    by_kind false q = let z : other_goal ≡ normalization = rw (e, q) at k in cc z

plain_uses : (m : Meaning) (mode : Mode) (H : Constraint → Type 0) (D : Hidden → Type 0) (P : Premise → Type 0) (e s c g : Tree) → (IsNormalization m g → ⊥)
    → s ≡ node (label.Clause (clause.Trait 0)) c → IsPlainRule m mode (λ t. Unit {0}) H D P e s → UsesClause m mode P g
plain_uses m mode H D P e s c g other same (inl (found, a)) = record { use_of = a.use_of; applies = a.applies; kind = goal_kind m (unbound s); goals = a.goals; no_normalization = other }
plain_uses m mode H D P e s c g other same (inr b) = absurd (not_built_in m _ _ _ e s c b same)

opened_trait : (f : Sort → ℕ → Leaf) (s c : Tree) → s ≡ node (label.Clause (clause.Trait 0)) c → opened f 0 s ≡ node (label.Clause (clause.Trait 0)) (opened f 0 c)
opened_trait f s c e = rw e refl

pub rule_uses : (m : Meaning) (mode : Mode) (H : Constraint → Type 0) (D : Hidden → Type 0) (P : Premise → Type 0) (ι : Instance) (e g : Tree)
    → IsRule m mode (λ t. Unit {0}) H D P e g → instance_of ι g ≡ auto_list → UsesClause m mode P g
rule_uses m mode H D P ι e g (inl (s, same, r)) x =
    let (c, about) = said_back ι empty s (ap (instance_of ι) (sym same) ∙ x) in
    plain_uses m mode H D P e s c g (λ k. trait_no_normalization m.is_coinductive s c about (ap (goal_kind m) (sym same) ∙ k)) about r
rule_uses m mode H D P ι e g (inr (sorts, s, f, same, fresh, r)) x =
    let (c, about) = said_back ι sorts s (ap (instance_of ι) (sym same) ∙ x) in
    plain_uses m mode H D P e (opened f 0 s) (opened f 0 c) g (λ k. trait_no_normalization m.is_coinductive s c about (ap (goal_kind m) (sym same) ∙ k)) (opened_trait f s c about) r

-- without a rule there is no proof
pub no_rule : (s : Sequent) → s.predicate ≡ auto_list → HasProof no_clauses coherence s → ⊥
no_rule s same p =
    let j = p.ranked.justified p.first p.found in
    let u = rule_uses no_clauses coherence _ _ _ p.instance _ _ j.rule (one_leafless s.constraints _ _ (rw same refl) p.is_instance.predicate ∙ same) in
    u.applies

-- no trait is coinductive, so no step is
not_coinductive : (t : Tree) → proof_kind (statement_kind (λ i. false) t) impl_where_bound ≡ coinductive → ⊥
not_coinductive (node (label.Predicate (predicate.NormalizesTo i)) ts) e = cc e
not_coinductive (node (label.Clause (clause.Trait i)) ts) e = cc e
not_coinductive t e = cc e

-- the cycle of an ordinary trait has no ranked proof
module _ (mode : Mode) (nodes : List Node) (ranked : IsRankedProof (by_clause auto_clause (λ i. false)) mode nodes) where
  stood : (n : Node) (k : GoalKind) → Stands (λ t. Unit {0}) (RestsOn (by_clause auto_clause (λ i. false)) n) k auto_goal → RestsOn (by_clause auto_clause (λ i. false)) n auto_goal
  stood n k (inl (keeps, holds)) = absurd keeps
  stood n k (inr (loose, (u, replaced, holds))) =
      subst (λ y. RestsOn (by_clause auto_clause (λ i. false)) n (record { source = impl_where_bound; environment = nowhere; predicate = y })) (replaced_only _ auto_list u refl replaced) holds

  next_node : (n : Node) → Among nodes n → (IsNormalization (by_clause auto_clause (λ i. false)) n.sequent.predicate → ⊥) → RestsOn (by_clause auto_clause (λ i. false)) n auto_goal
      → (k : Node) × (κ : Instance) × Among nodes k × (k.rank < n.rank) × (instance_of κ k.sequent.predicate ≡ auto_list)
  next_node n found other (inr (norm, i)) = absurd (other norm)
  next_node n found other (inl (st, i, same)) =
      let sound : IsSoundStep (by_clause auto_clause (λ i. false)) nodes n st = ranked.steps n st found i in
      let serves = sound.serves in
      let descends : IsCoinductiveStep (goal_kind (by_clause auto_clause (λ i. false)) n.sequent.predicate) impl_where_bound ⊎ (sound.node.rank < n.rank) =
      subst (λ q. IsCoinductiveStep (goal_kind (by_clause auto_clause (λ i. false)) n.sequent.predicate) q.source ⊎ (sound.node.rank < n.rank)) same sound.descends in (
        sound.node,
        st.instance,
        sound.found,
        ⊎_elim (λ y. absurd (not_coinductive (statement_of n.sequent.predicate) y)) (λ y. y) descends,
        one_leafless n.sequent.constraints _ _ (rw (ap (λ q. q.predicate) same) refl) serves.predicate ∙ ap (λ q. q.predicate) same,
      )

  pub no_node : (r : ℕ) (n : Node) (ι : Instance) → Among nodes n → n.rank < r → instance_of ι n.sequent.predicate ≡ auto_list → ⊥
  no_node zero n ι found low x = omega (arith, low)
  no_node (suc r) n ι found low x =
      let j = ranked.justified n found in
      let u = rule_uses (by_clause auto_clause (λ i. false)) mode _ _ _ ι _ _ j.rule x in
      let goal : Among u.use_of.goals auto_goal = subst (λ y. Among y.goals auto_goal) (sym u.applies) (inl refl) in
      let (k, κ, here, less, y) = next_node n found u.no_normalization (stood n u.kind (u.goals auto_goal goal)) in
      no_node r k κ here (omega (arith, low, less)) y

pub no_inductive_cycle : (s : Sequent) → s.predicate ≡ auto_list → HasProof (by_clause auto_clause (λ i. false)) post_analysis s → ⊥
no_inductive_cycle s same p = no_node post_analysis p.nodes p.ranked (suc p.first.rank) p.first p.instance p.found (omega arith) (one_leafless s.constraints _ _ (rw same refl) p.is_instance.predicate ∙ same)
