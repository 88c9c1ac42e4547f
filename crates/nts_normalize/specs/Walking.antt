-- The folder as a walk sees it.
use Rattle.std.specs.Prelude.{◌≡◌, suc, List, [], ◌∷◌, ◌++◌, All, map, refl}
use Rattle.std.proofs.Common.{arith, sym, ap, ◌∙◌}
use Rattle.std.proofs.lemmas.List.{append-nil, append_assoc}
use Rattle.nts_model.specs.Terms.Trees.{Tree, is, environment, bound_predicate}
use Rattle.nts_store.specs.Growth.{Extends}
use Rattle.nts_terms.specs.declared.cx.Cx.{Cx}
use Rattle.nts_terms.specs.declared.handles.Goal.{Goal}
use Rattle.nts_terms.specs.Rest.{Grows}
use Rattle.nts_terms.specs.Handles.{HoldsGoal}
use Rattle.nts_folding.specs.FoldLaws.{Holds-kept, same_pair}
use Rattle.nts_unify.specs.Reading.{content_of}
use Rattle.nts_table.specs.Tables.{Table, IsTable}
use Rattle.nts_unify.specs.Lawful.{content_of-extended}
use Rattle.nts_table.specs.TableLaws.{IsTable-extended}
use Rattle.nts_table.specs.Frames.{ChangesEntries}
use Rattle.nts_normalize.specs.declared.folder.NormalizationFolder.{NormalizationFolder}
use Rattle.nts_normalize.specs.Calling.{ClosureNormalizes, IsNormalizer, tree_of_goal}
use Rattle.nts_normalize.specs.Normalizing.{Standing}

-- the folder and its table belong to the store, and its closure keeps what it has to
pub record IsFolderReady {F : Type 0} (g : ClosureNormalizes F) (ts : List Tree) (s : NormalizationFolder F) : Type 0 where
  pub table : IsTable ts s.table
  pub goals : All (HoldsGoal ts) s.stalled_goals.items
  pub normalizer : IsNormalizer g

-- what a walk keeps of the folder, after an error too: the snapshots and the mode of its table, and the goals that it has collected
pub record FolderKeeps {F : Type 0} (s t : NormalizationFolder F) : Type 0 where
  pub changes : ChangesEntries s.table t.table
  pub more : List Goal
  pub goals : t.stalled_goals.items ≡ s.stalled_goals.items ++ more

-- a step: the store grew at most, folder and table are of it, and the folder keeps what it has to
pub record FolderGoes {F : Type 0} (g : ClosureNormalizes F) (a b : Cx) (s t : NormalizationFolder F) : Type 0 where
  pub grows : Grows a b
  pub ready : IsFolderReady g b.nodes t
  pub keeps : FolderKeeps s t

-- where a folder stands with a table
abbrev pub standing_with : {F : Type 0} → List Tree → Table → NormalizationFolder F → Standing F
standing_with ts t s =
    record { content = content_of ts t.entries; universes = s.universes.items; goals = map (tree_of_goal ts) s.stalled_goals.items; normalize = s.normalize }

abbrev pub standing_of : {F : Type 0} → List Tree → NormalizationFolder F → Standing F
standing_of ts s = standing_with ts s.table s

goal_kept : {a b : List Tree} (g : Goal) → Extends a b → HoldsGoal a g → HoldsGoal b g
goal_kept g e h =
    record { env = Holds-kept (is environment) _ _ g.param_env.node h.env e; predicate = Holds-kept (is bound_predicate) _ _ g.predicate.node h.predicate e }

pub goals_kept : {a b : List Tree} → Extends a b → (gs : List Goal) → All (HoldsGoal a) gs → All (HoldsGoal b) gs
goals_kept e gs h = λ k d l. goal_kept _ e (h k d l)

pub goals_same : {a b : List Tree} → Extends a b → (gs : List Goal) → All (HoldsGoal a) gs → map (tree_of_goal b) gs ≡ map (tree_of_goal a) gs
goals_same e [] h = refl
goals_same e (g ∷ gs) h =
    let first = h 0 g (omega arith) in
    cc (same_pair (e.kept g.param_env.node first.env.within) (e.kept g.predicate.node first.predicate.within), goals_same e gs (λ k d l. h (suc k) d (omega arith)))

pub IsFolderReady-kept : {F : Type 0} (g : ClosureNormalizes F) (a b : List Tree) (s : NormalizationFolder F) → IsFolderReady g a s → Extends a b → IsFolderReady g b s
IsFolderReady-kept g a b s h e =
    record { table = IsTable-extended e h.table; goals = goals_kept e s.stalled_goals.items h.goals; normalizer = h.normalizer }

pub standing_of-kept : {F : Type 0} (g : ClosureNormalizes F) (a b : List Tree) (s : NormalizationFolder F) → IsFolderReady g a s → Extends a b → standing_of b s ≡ standing_of a s
standing_of-kept g a b s h e =
    cc (content_of-extended e h.table.now, goals_same e s.stalled_goals.items h.goals)

pub FolderKeeps-refl : {F : Type 0} (s : NormalizationFolder F) → FolderKeeps s s
FolderKeeps-refl s = record { changes = record { saved = refl; mode = refl }; more = []; goals = sym (append-nil s.stalled_goals.items) }

pub FolderKeeps-trans : {F : Type 0} (s t u : NormalizationFolder F) → FolderKeeps s t → FolderKeeps t u → FolderKeeps s u
FolderKeeps-trans s t u h k =
    record {
      changes = record { saved = k.changes.saved ∙ h.changes.saved; mode = k.changes.mode ∙ h.changes.mode };
      more = h.more ++ k.more;
      goals = k.goals ∙ ap (λ xs. xs ++ k.more) h.goals ∙ append_assoc s.stalled_goals.items h.more k.more;
    }
