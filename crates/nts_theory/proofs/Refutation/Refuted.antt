-- What is refused in coherence has no plain proof in any solution of the table.
use Rattle.std.proofs.Common.{ℕ, inl, sym, List, subst}
use Rattle.nts_model.specs.declared.labels.Variance.{Variance}
use Rattle.nts_model.specs.Terms.Trees.{Tree}
use Rattle.nts_model.specs.Tables.Contents.{Content}
use Rattle.nts_model.specs.Tables.Resolving.{Knows, IsSound, deeply_resolved}
use Rattle.nts_model.proofs.Tables.Open.{Knows-deeply_resolved}
use Rattle.nts_model.proofs.Tables.Worlds.{inst-deeply_resolved}
use Rattle.nts_model.specs.Tables.Levels.{AreCurrent}
use Rattle.nts_model.specs.Tables.Worlds.{World, inst}
use Rattle.nts_model.specs.Derivations.Related.{Constraint, pair}
use Rattle.nts_model.specs.Derivations.Rules.{coherence}
use Rattle.nts_model.specs.Derivations.Handlers.{Handler, meaning, IsLawfulHandler}
use Rattle.nts_model.specs.Refutation.Containing.{Truth, IsTrueBy, IsSolution, AnswerContains, HasNoSolution}
use Rattle.nts_model.specs.Refutation.Coherence.{RulesAreOffered}
use Rattle.nts_model.specs.Canonical.Inputs.{CanonicalInput}
use Rattle.nts_theory.specs.Refutation.Refutation.{IsPlainFor, IsGrantedAsAsked, IsFair, RespectsLeaks, IsTheory, JoinsEqualities, HasMetProof, HasNoSolutionIn, KeepsSolutionsOf}
use Rattle.nts_theory.proofs.Refutation.Entering.{entered as enters}
use Rattle.nts_theory.proofs.Refutation.Theories.{Carried, carried_itself, carried_theory}
use Rattle.nts_theory.proofs.Refutation.Joined.{Joined, joined_theory, joined_equalities}
use Rattle.nts_theory.proofs.Refutation.ReachedGoals.{InPlainProof, plain_used, root_reached, ground_proof}
use Rattle.nts_theory.specs.Telling.{Verdict, Queries, Asked, Refused, QueryTells, QueryRefutes}
use Rattle.nts_theory.proofs.Refutation.Queried.{BeginsEach, IsFirst, first_query}
use Rattle.nts_theory.proofs.Refutation.Witnesses.{asked_leads, tells_contain, refutes_none, refused_none}

module _ (Q : Queries) (begins : BeginsEach Q) (h : Handler) (V : ℕ → List Variance) (truth : Truth) (lawful : IsLawfulHandler h) (law : RulesAreOffered h) (fair : IsFair truth) (respects : RespectsLeaks h truth) where
  abbrev Holds : Constraint → Type 0
  Holds x = IsTrueBy truth x.relation x.left x.right

  abbrev Reached : Tree → Tree → Type 0
  Reached = Carried (InPlainProof (meaning h V) Holds)

  abbrev Proves : Tree → Tree → Type 0
  Proves = Joined Reached

  reached_theory : IsTheory h truth Reached
  reached_theory = carried_theory h truth (InPlainProof (meaning h V) Holds) lawful.rules lawful.judges fair (plain_used h V truth)

  pub theory : IsTheory h truth Proves
  theory = joined_theory h truth Reached reached_theory

  pub joins : JoinsEqualities Proves
  joins = joined_equalities h truth Reached reached_theory

  proved : (e g : Tree) → HasMetProof (meaning h V) truth e g → Proves e g
  proved e g x =
      let w = ground_proof (meaning h V) Holds x.proof x.ground x.no_open_goals in
      let q = carried_itself h truth (InPlainProof (meaning h V) Holds) lawful.rules lawful.judges fair (plain_used h V truth) _ _ (root_reached h V truth w) in
      inl (subst (λ z. Reached z g) x.environment (subst (Reached _) x.predicate q))

  granted : (e g : Tree) → HasMetProof (meaning h V) truth e g → IsGrantedAsAsked Proves e g
  granted e g x = (let p = proved e g x in let f = theory.ground in record { ground = f.ground e g p; proved = λ s. p })

  -- the root: no solution of the caller's table gives the goal a plain proof
  pub refused_has_no_proof : (c : Content) (e g : Tree) → Refused Q h coherence c e g → Knows c (pair e g) → AreCurrent c → (w : World) → IsSolution truth c.universe c w → IsPlainFor w (pair e g) → HasMetProof (meaning h V) truth (inst w e) (inst w g) → ⊥
  refused_has_no_proof c e g r k current w s f p = refused_none Q begins h truth Proves theory joins fair respects lawful law r k current c.universe w s f (granted (inst w e) (inst w g) p)

  -- each answer of a query contains each solution of its input, and what a query refutes has none
  pub answer_contains_all : (f : CanonicalInput) (v : Verdict) → IsFirst f (Q.table f.kinds) (Q.values f.kinds) → QueryTells Q h coherence f v → AnswerContains truth (IsGrantedAsAsked Proves) f v.response
  answer_contains_all f v first t ts s =
      let e = enters truth (IsGrantedAsAsked Proves) f (Q.table f.kinds) (Q.values f.kinds) ts first.begins s in
      tells_contain Q begins h truth Proves theory joins fair respects lawful law t (first_query f (Q.table f.kinds) (Q.values f.kinds) first) ts e.world (record { values = s.values; plain = s.plain; solution = e.solution; free = e.plain; images = e.images; proved = e.proved })

  pub refuted_has_none : (f : CanonicalInput) → IsFirst f (Q.table f.kinds) (Q.values f.kinds) → QueryRefutes Q h coherence f → HasNoSolution (IsGrantedAsAsked Proves) f
  refuted_has_none f first t ts s =
      let e = enters truth (IsGrantedAsAsked Proves) f (Q.table f.kinds) (Q.values f.kinds) ts first.begins s in
      refutes_none Q begins h truth Proves theory joins fair respects lawful law t (first_query f (Q.table f.kinds) (Q.values f.kinds) first) ts e.world (record { values = s.values; plain = s.plain; solution = e.solution; free = e.plain; images = e.images; proved = e.proved })

  -- .. so each solution in which the goal has a plain proof
  pub answer_contains_each : (f : CanonicalInput) (v : Verdict) → IsFirst f (Q.table f.kinds) (Q.values f.kinds) → QueryTells Q h coherence f v → AnswerContains truth (HasMetProof (meaning h V) truth) f v.response
  answer_contains_each f v first t ts s = answer_contains_all f v first t ts (record { values = s.values; plain = s.plain; proved = granted _ _ s.proved })

  pub refuted_has_none_met : (f : CanonicalInput) → IsFirst f (Q.table f.kinds) (Q.values f.kinds) → QueryRefutes Q h coherence f → HasNoSolution (HasMetProof (meaning h V) truth) f
  refuted_has_none_met f first t ts s = refuted_has_none f first t ts (record { values = s.values; plain = s.plain; proved = granted _ _ s.proved })

-- what is refused as the table knows it has no solution, and what was asked so loses none
module _ (Q : Queries) (begins : BeginsEach Q) (h : Handler) (lawful : IsLawfulHandler h) (law : RulesAreOffered h) (c : Content) (sound : IsSound c) (current : AreCurrent c) (e g : Tree) (known : Knows c (pair e g)) where
  known_there : Knows c (pair (deeply_resolved c e) (deeply_resolved c g))
  known_there = (Knows-deeply_resolved c e sound known.0, (Knows-deeply_resolved c g sound known.1.0, tt))

  proof_there : (truth : Truth) (v : ℕ → List Variance) (w : World) → IsSolution truth c.universe c w → HasMetProof (meaning h v) truth (inst w e) (inst w g) → HasMetProof (meaning h v) truth (inst w (deeply_resolved c e)) (inst w (deeply_resolved c g))
  proof_there truth v w s p =
      subst (λ z. HasMetProof (meaning h v) truth z (inst w (deeply_resolved c g))) (sym (inst-deeply_resolved c w e sound s.solves))
      (subst (HasMetProof (meaning h v) truth (inst w e)) (sym (inst-deeply_resolved c w g sound s.solves)) p)

  pub no_solution_in : Refused Q h coherence c (deeply_resolved c e) (deeply_resolved c g) → HasNoSolutionIn h c e g
  no_solution_in r =
      record { none = λ truth fair respects v w s f p. refused_has_no_proof Q begins h v truth lawful law fair respects c (deeply_resolved c e) (deeply_resolved c g) r known_there current w s f (proof_there truth v w s p) }

  pub keeps_solutions_of : (d : Content) → Asked Q h coherence c d (deeply_resolved c e) (deeply_resolved c g) → KeepsSolutionsOf h c d e g
  keeps_solutions_of d a =
      record {
        each = λ truth fair respects v w s f p.
            (let t = theory Q begins h v truth lawful law fair respects in
            let l = asked_leads Q begins h truth _ t (joins Q begins h v truth lawful law fair respects) fair respects lawful law a known_there current in
            let x = l.each c.universe w s f (granted Q begins h v truth lawful law fair respects _ _ (proof_there truth v w s p)) in
            (x.world, x.agrees, x.solution));
      }
