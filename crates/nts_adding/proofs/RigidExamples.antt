-- Variables that may become aliases, and that are aliases, by example; and what is refused.
use Rattle.std.proofs.Common.{◌≡◌, inl, ⊎_elim, ℕ, true, false, List, [], ◌∷◌, length, None, refl, sym, ◌∙◌, arith}
use Rattle.nts_model.specs.declared.labels.VariableKind.TheVariants as kind
use Rattle.nts_model.specs.declared.labels.Variance.{Variance}
use Rattle.nts_model.specs.declared.labels.Variance.TheVariants as variance
use Rattle.nts_model.specs.declared.labels.AliasHead.TheVariants as alias_of
use Rattle.nts_model.specs.declared.labels.TyHead.TheVariants as ty
use Rattle.nts_model.specs.declared.labels.Label.TheVariants as label
use Rattle.nts_model.specs.Terms.Trees.{Tree, empty, node, variable_tree}
use Rattle.nts_model.specs.Tables.Contents.{Content, unset, known}
use Rattle.nts_model.specs.Tables.Worlds.{World, inst, Solves}
use Rattle.nts_model.specs.Tables.Alike.{Alike, one_tree, two_regions, one_label, two_rows, HoldsEqual}
use Rattle.nts_model.specs.Derivations.Related.{region_constraint, alias}
use Rattle.nts_variance_model.specs.Variances.RelatingBy.{IsTrueIn}
use Rattle.nts_variance_model.specs.Variances.Leaving.{Judge, Judges}
use Rattle.nts_store.specs.declared.nodes.NodeId.{NodeId}
use Rattle.nts_store.specs.Growth.{tree_at}
use Rattle.nts_terms.specs.declared.handles.AliasId.{AliasId}
use Rattle.nts_terms.specs.declared.handles.AliasDefId.TheVariants as alias_def
use Rattle.nts_terms.specs.declared.handles.AliasTerm.{AliasTerm}
use Rattle.nts_terms.specs.declared.handles.Goal.{Goal}
use Rattle.nts_terms.specs.declared.handles.ParamEnv.{ParamEnv}
use Rattle.nts_terms.specs.declared.declarations.AliasKind.{AliasKind}
use Rattle.nts_terms.specs.Handles.{alias_head}
use Rattle.nts_terms.specs.Signatures.{Declared, nothing_declared, with_alias}
use Rattle.nts_unify.specs.Entries.{Entries}
use Rattle.nts_unify.specs.Reading.{content_of}
use Rattle.nts_adding.specs.Rigid.{MayBecome, new_alias, IsNewAlias, RelatesRigidly, RefusesEqual, RefusesRigidly}

abbrev pub bottom : Tree
bottom = node (label.Ty ty.Error) empty

-- a table of one type variable, without a value, and with this one
abbrev pub one_open : Content
one_open =
    record { slots = record { kind = kind.Ty; universe = 0; state = unset; sub_link = None } ∷ []; order = []; universe = 0; constraints = [] }

abbrev pub one_valued : Tree → Content
one_valued t =
    record { slots = record { kind = kind.Ty; universe = 0; state = known t; sub_link = None } ∷ []; order = 0 ∷ []; universe = 0; constraints = [] }

-- a type variable may become an alias of types
may_become : (i : ℕ) → MayBecome one_open (alias_of.Ty i) (variable_tree kind.Ty 0)
may_become i = record { number = 0; is = refl }

-- .. but no const that is to be evaluated
const_no : (i : ℕ) → MayBecome one_open (alias_of.Const i) (variable_tree kind.Ty 0) → ⊥
const_no i h = (let e = h.is in cc e)

-- .. and neither may a type that is no variable, or a variable with a value
type_no : (c : Content) (i : ℕ) → MayBecome c (alias_of.Ty i) bottom → ⊥
type_no c i h = (let e = h.is in cc e)

valued_no : (i : ℕ) → MayBecome (one_valued bottom) (alias_of.Ty i) (variable_tree kind.Ty 0) → ⊥
valued_no i h = (let e = h.is in cc e)

-- an alias without arguments
abbrev pub declared_one : AliasKind → Declared
declared_one k = with_alias nothing_declared [] k

abbrev pub entries_none : Entries
entries_none = record { variables = []; order = []; universe = 0; constraints = []; hidden = record { lookup = []; duplicates = [] } }

-- a variable whose value is the alias is that alias
is_alias : (k : AliasKind) → IsNewAlias (declared_one k) (alias_def.Ty (record { number = 0 })) entries_none (one_valued (alias (alias_of.Ty 0) empty)) (variable_tree kind.Ty 0)
is_alias k = record { sorts = []; takes = refl; is = one_tree }

-- .. and one without a value is not
apart : (R : Tree → Tree → Type 0) (a b : Tree) (n i : ℕ) (t : Tree) → Alike R a b → a ≡ variable_tree kind.Ty n → b ≡ alias (alias_of.Ty i) t → ⊥
apart R a b n i t one_tree e f = (let z = sym e ∙ f in cc z)
apart R a b n i t (two_regions p q r) e f = (let z = p.1 in cc (z, e))
apart R a b n i t (one_label k h) e f = cc (e, f)
apart R a b n i t (two_rows h k) e f = cc e

open_no : (d : Declared) (e : Entries) → IsNewAlias d (alias_def.Ty (record { number = 0 })) e one_open (variable_tree kind.Ty 0) → ⊥
open_no d e h = apart (HoldsEqual one_open) _ _ 0 0 _ h.is refl refl

-- in each solution afterwards the term is the alias over the new variables
alias_after : (d : Declared) (ts us : List Tree) (e f : Entries) (env : ParamEnv) (v : Variance) (a : AliasTerm) (t : NodeId) (gs : List Goal) (r : RelatesRigidly d ts us e f env v a t gs) (w : World) → Solves (content_of us f) w
    → inst w (tree_at ts t) ≡ inst w (new_alias (alias_head a.def_id) (length e.variables) r.sorts)
alias_after d ts us e f env v a t gs r w s =
    let m = r.becomes.made in
    let x = r.related.related.takes.leaves in
    (m.sound w (x.back w s)).1

-- .. so it is no other type
other_no : (d : Declared) (ts us : List Tree) (e f : Entries) (env : ParamEnv) (v : Variance) (a : AliasTerm) (i : AliasId) (t : NodeId) (gs : List Goal) (r : RelatesRigidly d ts us e f env v a t gs) (w : World) → Solves (content_of us f) w → a.def_id ≡ alias_def.Ty i → inst w (tree_at ts t) ≡ bottom → ⊥
other_no d ts us e f env v a i t gs r w s is other =
    let one = rw is at (alias_after d ts us e f env v a t gs r w s) in
    let z = sym other ∙ one in
    cc z

-- what is not declared is refused
undeclared : (ts : List Tree) (e : Entries) (a : AliasTerm) (i : AliasId) (t : NodeId) → a.def_id ≡ alias_def.Ty i → RefusesRigidly nothing_declared ts e a t
undeclared ts e a i t is = rw is (inl (λ h. h))

-- two types that are built differently are one in no solution
built_differently : (declared : ℕ → List Variance) (c : Content) (i : ℕ) (t : Tree) → RefusesEqual declared c bottom (alias (alias_of.Ty i) t) []
built_differently declared c i t = record { none = λ j w s judges settled one all. cc one }

-- .. and a tree is one with itself in the solution of a table without variables
abbrev pub no_slots : Content
no_slots = record { slots = []; order = []; universe = 0; constraints = [] }

abbrev pub some_world : World
some_world = record { tree = λ n. bottom; region = λ r. r; outlives = λ a b. false }

solves_none : Solves no_slots some_world
solves_none = record { values = λ n. tt; constraints = tt; nameable = record { each = λ n. tt }; fitting = record { each = λ n k e. cc e } }

pub true_itself : (v : Variance) (a : Tree) → IsTrueIn some_world (region_constraint v a a)
true_itself variance.Invariant a = refl
true_itself variance.Covariant a = inl refl
true_itself variance.Contravariant a = inl refl

abbrev pub some_judge : (declared : ℕ → List Variance) → Judge declared
some_judge declared =
    record { lists = record { stands = []; normal = [] }; world = some_world; lawful = record { one = λ a b h. h; trivial = true_itself; alone = λ a v h n. absurd h; kind = λ a v h. absurd h } }

alone : (v : Variance) (a b : Tree) → IsTrueIn some_world (region_constraint v a b) → a ≡ b
alone variance.Invariant a b h = h
alone variance.Covariant a b h = ⊎_elim (λ (e : a ≡ b). e) (λ (e : false ≡ true). cc e) h
alone variance.Contravariant a b h = ⊎_elim (λ (e : b ≡ a). sym e) (λ (e : false ≡ true). cc e) h

itself_no : (declared : ℕ → List Variance) (t : Tree) → RefusesEqual declared no_slots t t [] → ⊥
itself_no declared t h =
    let judges : Judges declared (some_judge declared) some_world = record { judged = record { met = λ x k. k; held = λ x k. k }; alone = λ v a r k q. alone v a _ q } in
    h.none (some_judge declared) some_world solves_none judges (record { each = λ n l. absurd (omega (arith, l)) }) refl tt
