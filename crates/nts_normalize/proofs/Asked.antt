-- What a call of the closure is to a walk.
use Rattle.std.proofs.Common.{◌≡◌, ◌⊎◌, inl, inr, ◌+◌, true, length, All, Option, Some, option_map, Result, Ok, Err, IfOk, IfErr, refl, ap, ◌∙◌}
use Rattle.nts_model.specs.declared.labels.Sort.{Sort}
use Rattle.nts_model.specs.Terms.Trees.{Tree, IsClosed, IsClosedUnder}
use Rattle.nts_store.specs.declared.fault.Fault.{Fault}
use Rattle.nts_store.specs.declared.fault.Fault.TheVariants as fault
use Rattle.nts_store.specs.declared.fault.EvalError.{EvalError}
use Rattle.nts_store.specs.declared.fault.EvalError.TheVariants.{Memory, Full}
use Rattle.nts_store.specs.Errors.{error_of}
use Rattle.nts_store.specs.Growth.{tree_at, Extends}
use Rattle.nts_terms.specs.declared.cx.Cx.{Cx}
use Rattle.nts_terms.specs.declared.handles.AliasTerm.{AliasTerm}
use Rattle.nts_terms.specs.Handles.{HoldsGoal}
use Rattle.nts_terms.specs.Kinds.{tree_of_alias}
use Rattle.nts_unify.specs.Reading.{content_of}
use Rattle.nts_table.specs.Tables.{Table}
use Rattle.nts_placeholder.specs.declared.maps.Placeholder.{Placeholder}
use Rattle.nts_placeholder.specs.declared.maps.BoundVar.{BoundVar}
use Rattle.nts_placeholder.specs.Escaping.{escapes}
use Rattle.nts_placeholder.specs.Universes.{RunsOut}
use Rattle.nts_normalize.specs.declared.folder.NormalizationFolder.{NormalizationFolder}
use Rattle.nts_normalize.specs.Calling.{ClosureNormalizes, Answer, IsCalled, tree_of_goal}
use Rattle.nts_model.specs.Tables.Contents.{in_universe}
use Rattle.nts_normalize.specs.Normalizing.{Standing, Asks, OpensAlias, IsAnsweredUnder, IsReplacedUnder, FailsToAsk, FailsUnder, FailsToNormalize, is_alias_tree, last_universe}
use Rattle.nts_normalize.specs.Walking.{standing_of, goals_same}

pub asks_answer : {F : Type 0} (g : ClosureNormalizes F) (s : NormalizationFolder F) (t u : Table) (f : F) (a b : Cx) (x : AliasTerm) (r : Answer)
    → content_of a.nodes t.entries ≡ in_universe (content_of a.nodes s.table.entries) (s.table.entries.universe + 1)
    → IsCalled g s.normalize t a x r f u b → Extends a.nodes b.nodes → All (HoldsGoal a.nodes) s.stalled_goals.items
    → IfOk r (λ y. Asks g (standing_of a.nodes s) (tree_of_alias a.nodes x) (tree_at b.nodes y.0.node) (option_map (tree_of_goal b.nodes) y.1) (standing_of b.nodes (record s { table = u; normalize = f })))
asks_answer g s t u f a b x (Ok y) e h m k =
    record {
      answers = record {
        before = t;
        after = u;
        old = a;
        new = b;
        alias = x;
        term = y.0;
        goal = y.1;
        called = h;
        content = e;
        asked = refl;
        left = refl;
        answered = refl;
        ambiguous = refl;
      };
      universes = refl;
      goals = goals_same m s.stalled_goals.items k;
    }
asks_answer g s t u f a b x (Err y) e h m k = tt

pub fails_answer : {F : Type 0} (g : ClosureNormalizes F) (s : NormalizationFolder F) (t u : Table) (f : F) (a b : Cx) (x : AliasTerm) (r : Answer)
    → content_of a.nodes t.entries ≡ in_universe (content_of a.nodes s.table.entries) (s.table.entries.universe + 1)
    → IsCalled g s.normalize t a x r f u b
    → IfErr r (λ e. (e ≡ Memory) ⊎ FailsToAsk g (standing_of a.nodes s) (tree_of_alias a.nodes x) e)
fails_answer g s t u f a b x (Ok y) e h = tt
fails_answer g s t u f a b x (Err y) e h =
    inr (inr (record { before = t; after = u; old = a; new = b; alias = x; left = f; called = h; content = e; asked = refl }))

-- a refusal that may be for want of universes
pub of_fault : (P : Type 0) (f : Fault) (e : EvalError) → e ≡ error_of f → (f ≡ fault.Full → P) → (e ≡ Memory) ⊎ (e ≡ Full) × P
of_fault P fault.Memory e q h = inl q
of_fault P fault.Full e q h = inr (q, h refl)

pub no_universe : {F : Type 0} (g : ClosureNormalizes F) (s : Standing F) (x : Tree) (f : Fault) (e : EvalError) → e ≡ error_of f → (f ≡ fault.Full → s.content.universe ≡ last_universe) → (e ≡ Memory) ⊎ FailsToAsk g s x e
no_universe g s x fault.Memory e q h = inl q
no_universe g s x fault.Full e q h = inr (inl (q, h refl))

-- what fails at an alias

pub at_closed : {F : Type 0} (g : ClosureNormalizes F) (s : Standing F) (x : Tree) (e : EvalError) → is_alias_tree x ≡ true → IsClosed x → (e ≡ Memory) ⊎ FailsToAsk g s x e → FailsToNormalize g s (Some x) e
at_closed g s x e is closed (inl h) = inl h
at_closed g s x e is closed (inr h) = inr (is, inl (closed, h))

pub not_opened : {F : Type 0} (g : ClosureNormalizes F) (s : Standing F) (x : Tree) (e : EvalError) → (IsClosed x → ⊥) → IsClosedUnder (length s.universes) x → (e ≡ Memory) ⊎ (e ≡ Full) × RunsOut (escapes x) s.universes s.content.universe last_universe → (e ≡ Memory) ⊎ FailsUnder g s x e
not_opened g s x e escaping listed (inl h) = inl h
not_opened g s x e escaping listed (inr h) = inr (record { escaping = escaping; listed = listed; ends = inl h })

pub not_asked : {F : Type 0} (g : ClosureNormalizes F) (s t : Standing F) (x y : Tree) (maps : Sort → Placeholder → Option BoundVar) (e : EvalError) → (IsClosed x → ⊥) → IsClosedUnder (length s.universes) x → OpensAlias g s x y maps t → (e ≡ Memory) ⊎ FailsToAsk g t y e → (e ≡ Memory) ⊎ FailsUnder g s x e
not_asked g s t x y maps e escaping listed opens (inl h) = inl h
not_asked g s t x y maps e escaping listed opens (inr h) = inr (record { escaping = escaping; listed = listed; ends = inr (t, y, maps, opens, h) })

-- what is answered of an opened alias, put together with the opening
pub replaced_opened : {F T E : Type 0} (g : ClosureNormalizes F) (s t : Standing F) (x x' y : Tree) (maps : Sort → Placeholder → Option BoundVar) (r : Result T E) (z : T → Tree) (u : Standing F)
    → (IsClosed x → ⊥) → IsClosedUnder (length s.universes) x → OpensAlias g s x y maps t → x' ≡ x
    → IfOk r (λ a. IsAnsweredUnder g t x' y maps (z a) u) → IfOk r (λ a. IsReplacedUnder g s x (z a) u)
replaced_opened g s t x x' y maps (Ok a) z u escaping listed opens same h =
    record { escaping = escaping; listed = listed; between = t; alias = y; maps = maps; opens = opens; answered = rw same at h }
replaced_opened g s t x x' y maps (Err e) z u escaping listed opens same h = tt

pub errors_asked : {F T : Type 0} (g : ClosureNormalizes F) (s t : Standing F) (x y : Tree) (maps : Sort → Placeholder → Option BoundVar) (r : Result T EvalError)
    → (IsClosed x → ⊥) → IsClosedUnder (length s.universes) x → OpensAlias g s x y maps t
    → IfErr r (λ e. (e ≡ Memory) ⊎ FailsToAsk g t y e) → IfErr r (λ e. (e ≡ Memory) ⊎ FailsUnder g s x e)
errors_asked g s t x y maps (Ok a) escaping listed opens h = tt
errors_asked g s t x y maps (Err e) escaping listed opens h = not_asked g s t x y maps e escaping listed opens h

pub kinds_opened : {T E K : Type 0} (r : Result T E) (k : T → K) (a b : K) → a ≡ b → IfOk r (λ x. k x ≡ a) → IfOk r (λ x. k x ≡ b)
kinds_opened (Ok x) k a b same h = h ∙ same
kinds_opened (Err e) k a b same h = tt
