-- Steps of a folder, one after the other, and what opening and closing are to a walk.
use Rattle.std.proofs.Common.{◌≡◌, ◌∙◌, ℕ, zero, suc, ◌+◌, ◌<◌, List, [], ◌∷◌, ◌++◌, length, get_or, arith, map, All, Result, Ok, Err, IfOk, IfSome, Option, option_map, None, Some, refl, sym, ap}
use Rattle.std.proofs.lemmas.List.{append-nil, append_assoc, map-append}
use Rattle.std.proofs.lemmas.List.Elements.{All-append}
use Rattle.nts_model.specs.Terms.Trees.{Tree, kind_of, kind_of_label, of_sort, sort_of_alias}
use Rattle.nts_model.specs.Derivations.Related.{alias_label}
use Rattle.nts_model.specs.Tables.Resolving.{Knows}
use Rattle.nts_store.specs.declared.nodes.NodeId.{NodeId}
use Rattle.nts_store.specs.Growth.{tree_at, IsIn, Extends}
use Rattle.nts_store.proofs.Growing.{Extends-trans}
use Rattle.nts_terms.specs.declared.cx.Cx.{Cx}
use Rattle.nts_terms.specs.declared.handles.AliasDefId.{AliasDefId}
use Rattle.nts_terms.specs.declared.handles.AliasDefId.TheVariants as alias_def
use Rattle.nts_terms.specs.declared.handles.AliasTerm.{AliasTerm}
use Rattle.nts_terms.specs.declared.handles.Goal.{Goal}
use Rattle.nts_terms.specs.declared.handles.Term.{Term}
use Rattle.nts_terms.specs.Handles.{HoldsGoal, HoldsResult, alias_head}
use Rattle.nts_terms.specs.Kinds.{tree_of_alias}
use Rattle.nts_terms.specs.Rest.{Grows}
use Rattle.nts_terms.proofs.Moved.{KeepsRest-trans}
use Rattle.nts_unify.specs.Reading.{content_of}
use Rattle.nts_unify.specs.Lawful.{content_of-extended}
use Rattle.nts_table.specs.Tables.{Table, IsTable}
use Rattle.nts_table.specs.Frames.{ChangesEntries}
use Rattle.nts_placeholder.specs.Escaping.{escapes}
use Rattle.nts_placeholder.specs.Universes.{AreFilled, open_before}
use Rattle.nts_normalize.specs.declared.folder.NormalizationFolder.{NormalizationFolder}
use Rattle.nts_normalize.specs.Calling.{ClosureNormalizes, tree_of_goal}
use Rattle.nts_model.specs.Tables.Contents.{in_universe}
use Rattle.nts_normalize.specs.Normalizing.{Fills, Collects, collected}
use Rattle.nts_normalize.specs.Walking.{IsFolderReady, FolderGoes, standing_of, goals_kept, goals_same, IsFolderReady-kept, FolderKeeps-trans}

grows_on : (a b c : Cx) → Grows a b → Grows b c → Grows a c
grows_on a b c h k = record { extends = Extends-trans h.extends k.extends; rest = KeepsRest-trans h.rest k.rest }

-- one step after the other
pub FolderGoes-trans : {F : Type 0} {g : ClosureNormalizes F} {a b c : Cx} {s t u : NormalizationFolder F} → FolderGoes g a b s t → FolderGoes g b c t u → FolderGoes g a c s u
FolderGoes-trans {a} {b} {c} {s} {t} {u} h k =
    record { grows = grows_on a b c h.grows k.grows; ready = k.ready; keeps = FolderKeeps-trans s t u h.keeps k.keeps }

-- and then the store grows
pub FolderGoes-grown : {F : Type 0} {g : ClosureNormalizes F} {a b c : Cx} {s t : NormalizationFolder F} → FolderGoes g a b s t → Grows b c → FolderGoes g a c s t
FolderGoes-grown {g} {a} {b} {c} {s} {t} h k =
    record { grows = grows_on a b c h.grows k; ready = IsFolderReady-kept g b.nodes c.nodes t h.ready k.extends; keeps = h.keeps }

-- the table changes, and the universes, while the store grows
pub FolderGoes-changed : {F : Type 0} {g : ClosureNormalizes F} {a b : Cx} {s : NormalizationFolder F} {t : NormalizationFolder F}
    → IsFolderReady g a.nodes s → Grows a b → IsTable b.nodes t.table → ChangesEntries s.table t.table → t.stalled_goals ≡ s.stalled_goals → FolderGoes g a b s t
FolderGoes-changed {s} {t} h k m n e =
    record {
      grows = k;
      ready = record { table = m; goals = rw e (goals_kept k.extends s.stalled_goals.items h.goals); normalizer = h.normalizer };
      keeps = record { changes = n; more = []; goals = rw e (sym (append-nil s.stalled_goals.items)) };
    }

-- universes that were made for a folder's list, while the store grew
pub fills : {F : Type 0} {g : ClosureNormalizes F} {a b : List Tree} (s t : NormalizationFolder F) (x : Tree)
    → IsFolderReady g a s → Extends a b → AreFilled (escapes x) s.universes.items t.universes.items s.table.entries t.table.entries → t.stalled_goals ≡ s.stalled_goals → t.normalize ≡ s.normalize
    → Fills g (standing_of a s) x (standing_of b t)
fills {a} {b} s t x h e k m n =
    record {
      reach = k.reach;
      is_reach = k.is_reach;
      universes = k.list;
      content = ap (λ z. content_of b z) k.entries ∙ ap (λ c. in_universe c (s.table.entries.universe + open_before k.reach s.universes.items)) (content_of-extended e h.table.now);
      goals = ap (λ v. map (tree_of_goal b) v.items) m ∙ goals_same e s.stalled_goals.items h.goals;
      normalize = n;
    }

-- what holds of an answer, by what its contract says
pub on_ok : {A E : Type 0} (P Q : A → Type 0) → ((x : A) → P x → Q x) → (r : Result A E) → IfOk r P → IfOk r Q
on_ok P Q f (Ok x) h = f x h
on_ok P Q f (Err e) h = tt

-- goals are collected
pub FolderGoes-collects : {F : Type 0} {g : ClosureNormalizes F} {a b : Cx} {s t u : NormalizationFolder F} (more : List Goal) → FolderGoes g a b s t → u.table ≡ t.table
    → u.stalled_goals.items ≡ t.stalled_goals.items ++ more → All (HoldsGoal b.nodes) more → FolderGoes g a b s u
FolderGoes-collects {b} {s} {t} {u} more h e k m =
    record {
      grows = h.grows;
      ready = record { table = rw e h.ready.table; goals = rw k (All-append (HoldsGoal b.nodes) t.stalled_goals.items more h.ready.goals m); normalizer = h.ready.normalizer };
      keeps = record { changes = rw e h.keeps.changes; more = h.keeps.more ++ more; goals = k ∙ ap (λ xs. xs ++ more) h.keeps.goals ∙ append_assoc s.stalled_goals.items h.keeps.more more };
    }

one_held : {ts : List Tree} (x : Goal) → HoldsGoal ts x → (k : ℕ) (d : Goal) → k < length (x ∷ []) → HoldsGoal ts (get_or (x ∷ []) k d)
one_held x h zero d l = h
one_held x h (suc k) d l = let no : ⊥ = omega (arith, l) in absurd no

none_held : {ts : List Tree} (k : ℕ) (d : Goal) → k < 0 → HoldsGoal ts d
none_held k d l = let no : ⊥ = omega (arith, l) in absurd no

collected_here : {ts : List Tree} (o : Option Goal) → IfSome o (HoldsGoal ts) → All (HoldsGoal ts) (collected o)
collected_here None h = λ k d l. none_held k d l
collected_here (Some x) h = λ k d l. one_held x h k d l

-- a goal that is collected is of a store that grew
pub collected_held : {a b : List Tree} → Extends a b → (o : Option Goal) → IfSome o (HoldsGoal a) → All (HoldsGoal b) (collected o)
collected_held e o h = goals_kept e (collected o) (collected_here o h)

collected_trees : (f : Goal → Tree) (o : Option Goal) → map f (collected o) ≡ collected (option_map f o)
collected_trees f None = refl
collected_trees f (Some x) = refl

-- what collecting a goal is to a walk, while the store grows
pub collects : {F : Type 0} {g : ClosureNormalizes F} {a b : List Tree} (s u : NormalizationFolder F) (o : Option Goal)
    → IsFolderReady g a s → Extends a b → IfSome o (HoldsGoal a) → u.table ≡ s.table → u.universes ≡ s.universes → u.normalize ≡ s.normalize
    → u.stalled_goals.items ≡ s.stalled_goals.items ++ collected o → Collects g (option_map (tree_of_goal a) o) (standing_of a s) (standing_of b u)
collects {a} {b} s u o h e k m n p q =
    record {
      content = ap (λ t. content_of b t.entries) m ∙ content_of-extended e h.table.now;
      universes = ap (λ v. v.items) n;
      goals = ap (map (tree_of_goal b)) q ∙ goals_same e (s.stalled_goals.items ++ collected o) (All-append (HoldsGoal a) s.stalled_goals.items (collected o) h.goals (collected_here o k))
          ∙ map-append (tree_of_goal a) s.stalled_goals.items (collected o) ∙ ap (λ xs. map (tree_of_goal a) s.stalled_goals.items ++ xs) (collected_trees (tree_of_goal a) o);
      normalize = p;
    }

head_kind : (d : AliasDefId) → kind_of_label (alias_label (alias_head d)) ≡ of_sort (sort_of_alias (alias_head d))
head_kind (alias_def.Ty a) = refl
head_kind (alias_def.Const c) = refl

-- a term that an alias stands for is of its sort
pub result_kind : (ts us : List Tree) (a : AliasTerm) (t : Term) → HoldsResult us a t → kind_of (tree_at us t.node) ≡ kind_of (tree_of_alias ts a)
result_kind ts us a t h = h.fits ∙ sym (ap Some (head_kind a.def_id))

-- what a table knows of a term, it knows in a store that grew
pub known_on : {a b : List Tree} (t : Table) (x : NodeId) → Extends a b → IsTable a t → IsIn a x → Knows (content_of a t.entries) (tree_at a x) → Knows (content_of b t.entries) (tree_at b x)
known_on t x e h i k = rw (content_of-extended e h.now) (rw (e.kept x i) k)
