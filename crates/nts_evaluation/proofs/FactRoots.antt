-- A goal at the root that one candidate without goals decides: its query's goal is decided by it, and it is not refused.
use Rattle.std.proofs.Common.{◌≡◌, ℕ, ◌+◌, false, List, [], refl, arith}
use Rattle.nts_model.specs.declared.labels.Variance.{Variance}
use Rattle.nts_model.specs.Terms.Trees.{Tree}
use Rattle.nts_model.specs.Tables.Resolving.{Knows, deeply_resolved}
use Rattle.nts_model.specs.Derivations.Related.{pair}
use Rattle.nts_model.specs.Derivations.Rules.{Mode}
use Rattle.nts_model.specs.Derivations.Handlers.{Handler, HasNoLeaks, IsLawfulHandler}
use Rattle.nts_model.specs.Canonical.Inputs.{canonical_of, IsInput}
use Rattle.nts_theory.specs.Telling.{IsInputFor}
use Rattle.nts_decisions.specs.Facts.{IsOnlyFactIn}
use Rattle.nts_decisions.proofs.UnrefusedFacts.{fact_not_refused}
use Rattle.nts_decisions.proofs.OnlyFacts.{only_is_fact, query_settled}
use Rattle.nts_store.specs.Growth.{tree_at}
use Rattle.nts_terms.specs.declared.cx.Cx.{Cx}
use Rattle.nts_terms.specs.declared.handles.Goal.{Goal}
use Rattle.nts_terms.specs.declared.modes.TypingMode.{TypingMode}
use Rattle.nts_terms.specs.Modes.{mode_of}
use Rattle.nts_terms.specs.Rest.{Grows}
use Rattle.nts_unify.specs.Reading.{content_of}
use Rattle.nts_table.specs.Tables.{Table, IsTable}
use Rattle.nts_model.proofs.Tables.Open.{Knows-deeply_resolved}
use Rattle.nts_canonical.specs.Forms.{input_of}
use Rattle.nts_search.specs.declared.stack.SearchGraph.{SearchGraph}
use Rattle.nts_meaning.specs.Evaluation.{IsPosed, IsAdmitted}
use Rattle.nts_meaning.specs.Telling.{queries}
use Rattle.nts_meaning.specs.Meant.{IsRefusedIn, IsRefusedUnder}
use Rattle.nts_meaning.proofs.FirstTables.{begins_each}
use Rattle.nts_evaluation.specs.Deciding.{IsFactForm, IsFact, IsOnlyFact, MayAnswer, CanDecide}
use Rattle.nts_evaluation.proofs.FactLeaves.{leaves_each}
use Rattle.nts_evaluation.proofs.FactQueries.{nothing_above}
use Rattle.nts_meaning.proofs.SubClasses.{root_classes}

module _ (h : Handler) (law : IsLawfulHandler h) (mode : Mode) (ts : List Tree) (t : Table) (g : Goal) (posed : IsPosed ts t g) (fact : IsOnlyFactIn h mode (content_of ts t.entries) (tree_at ts g.param_env.node) (tree_at ts g.predicate.node)) where
  known : Knows (content_of ts t.entries) (pair (tree_at ts g.param_env.node) (tree_at ts g.predicate.node))
  known = (let knows = posed.knows in (knows.env, (knows.predicate, tt)))

  -- its query's goal, in the first table
  pub fact_form : IsInput (input_of ts t.entries g []) → IsFactForm h mode (canonical_of (input_of ts t.entries g []))
  fact_form proper environment predicate =
      let table = posed.table in
      let now = table.now in
      let own = now.proper in
      let of : IsInputFor (content_of ts t.entries) (tree_at ts g.param_env.node) (tree_at ts g.predicate.node) (input_of ts t.entries g []) =
      record { environment = refl; predicate = refl; hidden = refl; classes = root_classes ts t.entries now.descends; proper = proper } in
      query_settled (queries (λ i. [])) (begins_each (λ i. [])) (leaves_each (λ i. [])) h law mode (content_of ts t.entries) (tree_at ts g.param_env.node) (tree_at ts g.predicate.node) fact known now.sound own.current (input_of ts t.entries g []) of environment predicate

  pub never_refused : HasNoLeaks h → (V : ℕ → List Variance) (now : TypingMode) → mode_of now ≡ mode → IsRefusedIn (record { handler = h; variances = V }) now ts t g → ⊥
  never_refused tight V now same r =
      let table = posed.table in
      let n = table.now in
      let own = n.proper in
      fact_not_refused (queries V) (begins_each V) (leaves_each V) h law mode tight (content_of ts t.entries) (tree_at ts g.param_env.node) (tree_at ts g.predicate.node)
      (only_is_fact h mode (content_of ts t.entries) (tree_at ts g.param_env.node) (tree_at ts g.predicate.node) fact) known n.sound own.current (rw same at r)

-- .. as the table knows it
pub resolved_fact : (h : Handler) (mode : TypingMode) (a b : List Tree) (t : Table) (g o : Goal) → content_of b t.entries ≡ content_of a t.entries
    → tree_at b o.param_env.node ≡ (let c = content_of a t.entries in deeply_resolved c (tree_at a g.param_env.node))
    → tree_at b o.predicate.node ≡ (let c = content_of a t.entries in deeply_resolved c (tree_at a g.predicate.node)) → IsOnlyFact h mode a t g → IsOnlyFactIn h (mode_of mode) (content_of b t.entries) (tree_at b o.param_env.node) (tree_at b o.predicate.node)
resolved_fact h mode a b t g o same env predicate f = rw (same, env, predicate) f

-- a goal with a fact is not refused
pub fact_stands : {h : Handler} {V : ℕ → List Variance} (mode : TypingMode) {ts : List Tree} {t : Table} {g : Goal} → IsTable ts t → IsAdmitted ts t g → IsLawfulHandler h → HasNoLeaks h → IsFact h mode ts t g → IsRefusedUnder (record { handler = h; variances = V }) mode ts t g → ⊥
fact_stands {h} {V} mode {ts} {t} {g} table admitted law tight fact r =
    let now = table.now in
    let own = now.proper in
    let env = admitted.env in
    let predicate = admitted.predicate in
    let c = content_of ts t.entries in
    fact_not_refused (queries V) (begins_each V) (leaves_each V) h law (mode_of mode) tight c (deeply_resolved c (tree_at ts g.param_env.node)) (deeply_resolved c (tree_at ts g.predicate.node)) fact
    (Knows-deeply_resolved c (tree_at ts g.param_env.node) now.sound env.knows, (Knows-deeply_resolved c (tree_at ts g.predicate.node) now.sound predicate.knows, tt)) now.sound own.current r

-- the search may answer it
pub begun_facts : {h : Handler} {a b : Cx} {s : SearchGraph} (depth : ℕ) → Grows a b → MayAnswer h a → s.has_overflowed ≡ false → CanDecide h b s 0 (depth + 1)
begun_facts {h} {b = b} {s = s} depth w may off =
    let r = w.rest in
    record { deep = omega arith; above = nothing_above h b.nodes s; unmarked = off; steps = rw r.steps may.steps; rounds = rw r.rounds may.rounds; tight = may.tight; fair = may.fair }
