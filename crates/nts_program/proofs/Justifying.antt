-- Why a goal is answered `yes`.
use Rattle.std.proofs.Common.{List, All, Option, Result, Ok, Err, subst, sym}
use Rattle.std.specs.Prelude.{IfOk}
use Rattle.nts_model.specs.Terms.Trees.{Tree}
use Rattle.nts_terms.specs.declared.handles.GenericArg.{GenericArg}
use Rattle.nts_terms.specs.declared.handles.Goal.{Goal}
use Rattle.nts_terms.specs.declared.handles.ParamEnv.{ParamEnv}
use Rattle.nts_store.specs.Growth.{tree_at}
use Rattle.nts_model.specs.Derivations.Handlers.{meaning}
use Rattle.nts_model.specs.Derivations.Proving.{HasRankedProofUnder}
use Rattle.nts_terms.specs.declared.cx.Cx.{Cx}
use Rattle.nts_terms.specs.Modes.{mode_of}
use Rattle.nts_terms.specs.Rest.{Grows}
use Rattle.nts_terms.specs.Signatures.{variances_in}
use Rattle.nts_store.proofs.Growing.{Extends-trans}
use Rattle.nts_table.specs.Tables.{Table}
use Rattle.nts_unify.specs.Reading.{content_of}
use Rattle.nts_delegate.specs.declared.clauses.Clauses.{Clauses}
use Rattle.nts_text.specs.declared.resolver.Resolved.{Resolved}
use Rattle.nts_wording.specs.declared.variables.LineVariables.{LineVariables}
use Rattle.nts_wording.specs.Meaning.{HasOwnPlaces, HasPlace, AreVariablesFrom, IsGoalOf}
use Rattle.nts_wording.specs.Found.{IsFoundIn, IsOf}
use Rattle.nts_text.specs.declared.parser.Mode.{Mode}
use Rattle.nts_declaring.specs.Posing.{IsTypingMode}
use Rattle.nts_program.specs.Proving.{rules_with, IsProvedGoal, IsJustifiedAnswer}
use Rattle.nts_wording.specs.declared.answer.Answer.{Answer}
use Rattle.nts_wording.specs.declared.answer.Answer.TheVariants as answers

pub earlier : (a b : Cx) (us : List Tree) (h : Clauses) (t : Table) (g : Goal) → Grows a b → IsProvedGoal b us h t g → IsProvedGoal a us h t g
earlier a b us h t g e k =
    record {
      store = k.store;
      extends = Extends-trans e.extends k.extends;
      proved = subst (λ d. HasRankedProofUnder (meaning (rules_with k.store h) (variances_in d)) (mode_of t.mode) (content_of us t.entries) (tree_at us g.param_env.node) (tree_at us g.predicate.node)) e.rest.declarations k.proved;
    }

pub justified : {E : Type 0} (m : Mode) (env : Option ParamEnv) (rs : List Resolved) (a b : Cx) (store us : List Tree) (h : Clauses) (t : Table) (g : Goal) (variables : LineVariables) (vs : List GenericArg) (r : Result Answer E)
    → HasOwnPlaces variables → All (HasPlace variables) rs → AreVariablesFrom 0 store variables.sorts.items vs → IsTypingMode m t.mode → Grows a b → IsProvedGoal b store h t g → IsGoalOf store env variables vs rs g
    → IfOk r (IsOf variables) → IfOk r (IsFoundIn store us (content_of store t.entries) vs) → IfOk r (IsJustifiedAnswer m env rs a us h)
justified m env rs a b store us h t g variables vs (Err x) own placed first i e k asked of found = tt
justified m env rs a b store us h t g variables vs (Ok answers.No) own placed first i e k asked of found = tt
justified m env rs a b store us h t g variables vs (Ok answers.Ambiguity) own placed first i e k asked of found = tt
justified m env rs a b store us h t g variables vs (Ok answers.Overflow) own placed first i e k asked of found = tt
justified m env rs a b store us h t g variables vs (Ok (answers.Yes f)) own placed first i e k asked of found =
    record { store = store; table = t; goal = g; values = vs; own = rw of own; placed = rw of placed; first = rw of first; mode = i; asked = subst (λ w. IsGoalOf store env w vs rs g) (sym of) asked; proved = earlier a b store h t g e k; found = found }
