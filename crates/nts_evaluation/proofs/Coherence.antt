-- In coherence what is refused has no solution, and what was evaluated loses none.
use Rattle.std.proofs.Common.{ℕ, List, subst}
use Rattle.std.specs.Prelude.{Result, Ok, Err, IfOk, OnOk}
use Rattle.nts_model.specs.declared.labels.Variance.{Variance}
use Rattle.nts_model.specs.Terms.Trees.{Tree}
use Rattle.nts_model.specs.Tables.Resolving.{Knows, deeply_resolved}
use Rattle.nts_model.specs.Derivations.Related.{pair}
use Rattle.nts_model.specs.Derivations.Handlers.{Handler, IsLawfulHandler}
use Rattle.nts_model.specs.Refutation.Coherence.{RulesAreOffered}
use Rattle.nts_theory.proofs.Refutation.Refuted.{no_solution_in, keeps_solutions_of, answer_contains_each, refuted_has_none_met}
use Rattle.nts_certainty.specs.declared.certainty.Certainty.{Certainty}
use Rattle.nts_certainty.specs.declared.sources.HasChanged.{HasChanged}
use Rattle.nts_store.specs.Growth.{tree_at}
use Rattle.nts_terms.specs.declared.handles.Goal.{Goal}
use Rattle.nts_terms.specs.Modes.{mode_of}
use Rattle.nts_unify.specs.Reading.{content_of}
use Rattle.nts_table.specs.Tables.{Table, IsTable}
use Rattle.nts_meaning.specs.Evaluation.{IsAdmitted}
use Rattle.nts_meaning.specs.Meant.{IsRefusedUnder, EvaluatesUnder, IsQueryTold, IsQueryRefuted}
use Rattle.nts_canonical.specs.declared.types.Canonical.{Canonical}
use Rattle.nts_canonical.specs.declared.types.CanonicalInput.{CanonicalInput}
use Rattle.nts_canonical.specs.Forms.{form_of}
use Rattle.nts_response.specs.declared.types.Response.{Response}
use Rattle.nts_response.specs.Forms.{response_at}
use Rattle.nts_meaning.specs.Answering.{IsQueryInput, verdict_at}
use Rattle.nts_meaning.specs.Telling.{queries, Refused, Asked, QueryTells, QueryRefutes}
use Rattle.nts_meaning.proofs.AskedGoals.{was_asked}
use Rattle.nts_meaning.proofs.FirstTables.{begins_each, first_of_query}
use Rattle.nts_evaluation.specs.Solutions.{IsCoherence, HasNoSolutionUnder, KeepsSolutionsUnder, ContainsEach, HasNoInputSolution}

-- what holds because of each value holds where there is one
pub each_kept : {T E P : Type 0} {Q : T → Type 0} (r : Result T E) → IfOk r Q → ((x : T) → Q x → P) → OnOk r P
each_kept (Ok x) q f = f x q
each_kept (Err z) q f = tt

known : {ts : List Tree} {t : Table} {g : Goal} → IsAdmitted ts t g → Knows (content_of ts t.entries) (pair (tree_at ts g.param_env.node) (tree_at ts g.predicate.node))
known admitted = (let env = admitted.env in env.knows, (let predicate = admitted.predicate in predicate.knows, tt))

module _ {h : Handler} {V : ℕ → List Variance} {ts : List Tree} {t : Table} {g : Goal} (table : IsTable ts t) (admitted : IsAdmitted ts t g) (lawful : IsLawfulHandler h) (law : RulesAreOffered h) (here : IsCoherence t.mode) where
  pub no_solution_under : IsRefusedUnder (record { handler = h; variances = V }) t.mode ts t g → HasNoSolutionUnder h ts t g
  no_solution_under r =
      let now = table.now in
      let proper = now.proper in
      let c = content_of ts t.entries in
      no_solution_in (queries V) (begins_each V) h lawful law c now.sound proper.current (tree_at ts g.param_env.node) (tree_at ts g.predicate.node) (known admitted)
      (subst (λ m. Refused (record { handler = h; variances = V }) m c (deeply_resolved c (tree_at ts g.param_env.node)) (deeply_resolved c (tree_at ts g.predicate.node))) here r)

  pub keeps_solutions_under : (b : List Tree) (u : Table) {sure : Certainty} {changed : HasChanged} → EvaluatesUnder (record { handler = h; variances = V }) t.mode ts t b u g sure changed → KeepsSolutionsUnder h ts t b u g
  keeps_solutions_under b u e =
      let now = table.now in
      let proper = now.proper in
      let c = content_of ts t.entries in
      keeps_solutions_of (queries V) (begins_each V) h lawful law c now.sound proper.current (tree_at ts g.param_env.node) (tree_at ts g.predicate.node) (known admitted) (content_of b u.entries)
      (subst (λ m. Asked (record { handler = h; variances = V }) m c (content_of b u.entries) (deeply_resolved c (tree_at ts g.param_env.node)) (deeply_resolved c (tree_at ts g.predicate.node))) here (was_asked e))

-- what a query tells contains each solution of its input, and what it refutes has none
module _ {h : Handler} {V : ℕ → List Variance} {ts : List Tree} {input : CanonicalInput} (asks : IsQueryInput ts input) (lawful : IsLawfulHandler h) (law : RulesAreOffered h) (here : IsCoherence input.typing_mode) where
  pub told_contains : (b : List Tree) (r : Canonical Response) → IsQueryTold (record { handler = h; variances = V }) (mode_of input.typing_mode) ts input b r → ContainsEach h (form_of ts input) (response_at b r)
  told_contains b r x truth fair respects v =
      answer_contains_each (queries V) (begins_each V) h v truth lawful law fair respects (form_of ts input) (verdict_at b r) (first_of_query asks) (subst (λ m. QueryTells (record { handler = h; variances = V }) m (form_of ts input) (verdict_at b r)) here x)

  pub refuted_has_no_input : IsQueryRefuted (record { handler = h; variances = V }) (mode_of input.typing_mode) ts input → HasNoInputSolution h (form_of ts input)
  refuted_has_no_input x truth fair respects v =
      refuted_has_none_met (queries V) (begins_each V) h v truth lawful law fair respects (form_of ts input) (first_of_query asks) (subst (λ m. QueryRefutes (record { handler = h; variances = V }) m (form_of ts input)) here x)
