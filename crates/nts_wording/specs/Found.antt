-- What a table says of the variables of a goal that holds.
use Rattle.std.specs.Prelude.{◌≡◌, List, All, map}
use Rattle.nts_model.specs.Terms.Trees.{Tree}
use Rattle.nts_model.specs.Tables.Contents.{Content}
use Rattle.nts_model.specs.Tables.Resolving.{Knows, deeply_resolved}
use Rattle.nts_terms.specs.declared.handles.GenericArg.{GenericArg}
use Rattle.nts_store.specs.Growth.{tree_at, IsIn}
use Rattle.nts_terms.specs.Handles.{HoldsArg}
use Rattle.nts_table.specs.Tables.{Table}
use Rattle.nts_unify.specs.Reading.{content_of, recorded_of}
use Rattle.nts_model.specs.Tables.Recording.{resolved_constraints, AreNews}
use Rattle.nts_wording.specs.declared.variables.LineVariables.{LineVariables}
use Rattle.nts_wording.specs.declared.answer.Answer.{Answer}
use Rattle.nts_wording.specs.declared.answer.Answer.TheVariants as answers

-- terms of the second store: those of the first, under the values and roots of a table
pub record AreResolved (ts us : List Tree) (c : Content) (old new : List GenericArg) : Type 0 where
  pub within : All (λ a. IsIn us a.node) new
  pub trees : map (λ a. tree_at us a.node) new ≡ map (λ a. deeply_resolved c (tree_at ts a.node)) old

-- a value of the store and the table
pub record IsKnownValue (ts : List Tree) (t : Table) (a : GenericArg) : Type 0 where
  pub holds : HoldsArg ts a
  pub knows : Knows (content_of ts t.entries) (tree_at ts a.node)

-- a goal holds, and this is told of it: the values of its variables, and the region constraints
-- that say something new
abbrev pub IsFoundIn : List Tree → List Tree → Content → List GenericArg → Answer → Type 0
IsFoundIn ts us c vs (answers.Yes f) =
    AreResolved ts us c vs f.values.items × AreNews (resolved_constraints c) (map (recorded_of us) f.facts.items)
IsFoundIn ts us c vs a = ⊥

-- the variables of which an answer tells
abbrev pub IsOf : LineVariables → Answer → Type 0
IsOf vs (answers.Yes f) = f.variables ≡ vs
IsOf vs a = Unit {0}
