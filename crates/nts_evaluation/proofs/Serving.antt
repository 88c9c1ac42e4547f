-- A candidate that holds, and that is offered, serves the goal.
use Rattle.std.proofs.Common.{List, inl, inr}
use Rattle.nts_theory.specs.RelatingCandidates.{HasPlainEquations}
use Rattle.nts_model.specs.Derivations.Rules.{Mode, statement_of, IsHandlers}
use Rattle.nts_model.specs.Tables.Contents.{Content}
use Rattle.nts_model.specs.Terms.Trees.{Tree}
use Rattle.nts_model.specs.Lists.{Among}
use Rattle.nts_model.specs.Derivations.Rules.{Meaning}
use Rattle.nts_model.specs.Derivations.Handlers.{Handler, Candidate}
use Rattle.nts_model.specs.Derivations.Proofs.{Assumed}
use Rattle.nts_model.specs.Searching.Stacks.{HoldsCandidateFrom}
use Rattle.nts_store.specs.Growth.{tree_at, Extends}
use Rattle.nts_terms.specs.declared.handles.Goal.{Goal}
use Rattle.nts_terms.specs.declared.modes.TypingMode.{TypingMode}
use Rattle.nts_terms.specs.Modes.{mode_of}
use Rattle.nts_terms.specs.Handles.{HoldsGoal}
use Rattle.nts_unify.specs.Reading.{content_of}
use Rattle.nts_table.specs.Tables.{Table}
use Rattle.nts_meaning.specs.Meant.{offers_of, HoldsEither, HoldsSurely, IsServed}

pub served_by : (h : Handler) (m : Meaning) (mode : TypingMode) (A : List Assumed) (b c : List Tree) (u : Table) (g : Goal) (x : Candidate) → Extends b c → HoldsGoal b g → Among (offers_of h (mode_of mode) b g) x
    → HoldsSurely m (mode_of mode) A (content_of c u.entries) (tree_at b g.param_env.node) (tree_at b g.predicate.node) x → IsServed h m (mode_of mode) A (content_of c u.entries) (tree_at c g.param_env.node) (tree_at c g.predicate.node)
served_by h m mode A b c u g x up holds offered y =
    let env = up.kept g.param_env.node holds.env.within in
    let predicate = up.kept g.predicate.node holds.predicate.within in
    record {
      candidate = x;
      offered = rw (env, predicate) offered;
      sure = y.sure;
      holds = rw (env, predicate) y.holds;
    }

-- one that relates no aliases, for a goal about which no handler has rules, holds at once
pub held_plain : {m : Meaning} {mode : Mode} {A : List Assumed} {c : Content} {e g : Tree} {x : Candidate} → HasPlainEquations x → (IsHandlers (statement_of g) → ⊥) → HoldsEither m mode A c e g x → HoldsCandidateFrom m mode A c g x
held_plain plain none (inl h) = h
held_plain plain none (inr h) = absurd (elim h.0 [ inl n ↦ n plain | inr i ↦ none i ])
