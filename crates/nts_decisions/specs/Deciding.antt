-- Goals that a finite tree of goals decides, yes or no, whatever their free regions are.
use Rattle.std.specs.Prelude.{◌≡◌, ℕ, suc, max, Bool, true, false, if◌then◌else◌, List, [], ◌∷◌, map, Option, Some, None}
use Rattle.nts_model.specs.declared.labels.VariableKind.TheVariants as kind
use Rattle.nts_model.specs.declared.labels.FreeRegion.TheVariants as region
use Rattle.nts_model.specs.declared.labels.Leaf.{Leaf}
use Rattle.nts_model.specs.declared.labels.Leaf.TheVariants as leaf
use Rattle.nts_model.specs.declared.labels.ClauseHead.TheVariants as clause
use Rattle.nts_model.specs.declared.labels.Label.TheVariants as label
use Rattle.nts_model.specs.Terms.Trees.{Tree, empty, more, node, any_label, is_infer, is_alias, IsClosed, IsFormed}
use Rattle.nts_model.specs.Terms.Substitutions.{leaf_tree, replace, filled}
use Rattle.nts_model.specs.Derivations.Related.{pair, unbound}
use Rattle.nts_model.specs.Lists.{Among}
use Rattle.nts_model.specs.Derivations.Sequents.{Premise, HasClosedStatements}
use Rattle.nts_model.specs.Derivations.Rules.{Mode, Equation, statement_of, opened}
use Rattle.nts_model.specs.Derivations.Handlers.{Handler, Candidate, Judgements, certain, equation_by, AreValuesOf, IsAsked}
use Rattle.nts_model.specs.Refutation.Choosing.{left_of, right_of}
use Rattle.nts_model.specs.Refutation.Opening.{binds, placeholder_in}
use Rattle.nts_model.specs.Terms.Placeholders.{leaf_level}
use Rattle.nts_theory.specs.Affirming.{IsAffirmed, IsDenied, IsOwnWay}

-- free regions and region variables made one; in an environment 'static is left
abbrev pub blurred_leaf : Leaf → Tree
blurred_leaf (leaf.Region r) = leaf_tree (leaf.Region region.Erased)
blurred_leaf (leaf.Variable kind.Region n) = leaf_tree (leaf.Region region.Erased)
blurred_leaf l = leaf_tree l

abbrev pub blurred_but_static : Leaf → Tree
blurred_but_static (leaf.Region region.Static) = leaf_tree (leaf.Region region.Static)
blurred_but_static l = blurred_leaf l

abbrev pub blurred : Tree → Tree
blurred = replace blurred_leaf

abbrev pub blurred_environment : Tree → Tree
blurred_environment = replace blurred_but_static

abbrev pub blurred_premise : Premise → Premise
blurred_premise p = record { source = p.source; environment = blurred_environment p.environment; predicate = blurred p.predicate }

-- a candidate but for regions: what it asks of regions is left out
abbrev pub blurred_candidate : Candidate → Candidate
blurred_candidate x = record x { equations = map (equation_by blurred) x.equations; constraints = []; goals = map blurred_premise x.goals }

-- values that meet the equations of a candidate, where any two regions may be one
pub record MeetsBlurred (x : Candidate) (vs : List Tree) : Type 0 where
  pub values : AreValuesOf x.fresh vs
  pub equal : (q : Equation) → Among x.equations q → blurred (filled vs (left_of q)) ≡ blurred (filled vs (right_of q))

-- the equations fix the goals but for regions
abbrev pub FixesGoals : Candidate → Type 0
FixesGoals x = (vs us : List Tree) (p : Premise) → MeetsBlurred x vs → MeetsBlurred x us → Among x.goals p → blurred (filled vs p.predicate) ≡ blurred (filled us p.predicate)

-- a trait goal, without aliases and without variables of types, numbers and consts
abbrev pub IsDecidable : Tree → Type 0
IsDecidable (node (label.Clause (clause.Trait i)) ts) = Unit {0}
IsDecidable (node (label.Clause (clause.HostEffect i)) ts) = Unit {0}
IsDecidable t = ⊥

pub record IsPlainGoal (e g : Tree) : Type 0 where
  pub asked : IsAsked e g
  pub kind : (let a = asked in IsDecidable a.statement)
  pub no_alias : any_label is_alias (pair e g) ≡ false
  pub no_infer : any_label is_infer (pair e g) ≡ false
  pub blurred_environment : blurred_environment e ≡ e
  pub blurred : blurred g ≡ g

-- what says of a type or a region that it outlives a region
abbrev pub SaysOfRegion : Tree → Type 0
SaysOfRegion (node (label.Clause clause.RegionOutlives) ts) = Unit {0}
SaysOfRegion (node (label.Clause clause.TypeOutlives) ts) = Unit {0}
SaysOfRegion t = ⊥

-- a goal that says so, of terms without aliases and without variables of types, numbers and consts
pub record IsRegionGoal (e g : Tree) : Type 0 where
  pub statement : Tree
  pub binds_nothing : g ≡ unbound statement
  pub says : SaysOfRegion statement
  pub formed : IsFormed (pair e g)
  pub closed : IsClosed (pair e statement)
  pub statements : HasClosedStatements e
  pub no_alias : any_label is_alias (pair e g) ≡ false
  pub no_infer : any_label is_infer (pair e g) ≡ false
  pub blurred_environment : blurred_environment e ≡ e
  pub blurred : blurred g ≡ g

-- how a handler judges a statement in an environment: it affirms or denies it
abbrev pub IsJudged : Judgements → Tree → Tree → Bool → Type 0
IsJudged j e s true = IsAffirmed j e s
IsJudged j e s false = IsDenied j s

-- a goal without variables of types, numbers and consts, where the handler judges so all statements that are its own but for regions
pub record IsJudgedGoal (h : Handler) (e g : Tree) (b : Bool) : Type 0 where
  pub statement : Tree
  pub binds_nothing : g ≡ unbound statement
  pub alike : (f s : Tree) → IsFormed (pair f s) → blurred_environment f ≡ e → blurred s ≡ statement → IsJudged h.judges f s b
  pub formed : IsFormed (pair e g)
  pub closed : IsClosed (pair e statement)
  pub statements : HasClosedStatements e
  pub no_infer : any_label is_infer (pair e g) ≡ false
  pub blurred_environment : blurred_environment e ≡ e
  pub blurred : blurred statement ≡ statement

-- no alias stands in the sides of an equation
abbrev pub HasNoAliases : Equation → Type 0
HasNoAliases q = (any_label is_alias (left_of q) ≡ false) × (any_label is_alias (right_of q) ≡ false)

-- the terms of its equations and goals are terms, and no alias stands in its equations: what it normalizes to would decide
pub record IsFormedCandidate (x : Candidate) : Type 0 where
  pub equations : (q : Equation) → Among x.equations q → IsFormed (left_of q) × IsFormed (right_of q)
  pub no_aliases : (q : Equation) → Among x.equations q → HasNoAliases q
  pub goals : (p : Premise) → Among x.goals p → IsFormed p.predicate

-- the one way in which a statement may hold by the engine is this candidate but for regions
pub record HasWayAs (j : Judgements) (e s : Tree) (x : Candidate) : Type 0 where
  pub way : Candidate
  pub is_way : IsOwnWay j e s way
  pub same : blurred_candidate way ≡ x

-- a goal, of terms without aliases and without variables of types, numbers and consts, that may hold in one way alone, as may all
-- statements that are its own but for regions
pub record IsOwnWayGoal (h : Handler) (e g : Tree) (x : Candidate) : Type 0 where
  pub statement : Tree
  pub binds_nothing : g ≡ unbound statement
  pub alike : (f s : Tree) → IsFormed (pair f s) → blurred_environment f ≡ e → blurred s ≡ statement → HasWayAs h.judges f s x
  pub way : IsFormedCandidate x
  pub formed : IsFormed (pair e g)
  pub closed : IsClosed (pair e statement)
  pub statements : HasClosedStatements e
  pub no_alias : any_label is_alias (pair e g) ≡ false
  pub no_infer : any_label is_infer (pair e g) ≡ false
  pub blurred_environment : blurred_environment e ≡ e
  pub blurred : blurred statement ≡ statement

-- the handler answers all goals that are these but for regions with these candidates but for regions
pub record IsUniform (h : Handler) (mode : Mode) (e g : Tree) (xs : List Candidate) : Type 0 where
  pub alike : (f p : Tree) → IsAsked f p → blurred_environment f ≡ e → blurred p ≡ g → map blurred_candidate (h.offers mode f p) ≡ xs
  pub sure : (x : Candidate) → Among xs x → x.certainty ≡ certain
  pub formed : (x : Candidate) → Among xs x → IsFormedCandidate x

-- the greatest universe of the placeholders in a tree
abbrev pub level_or_root : Option ℕ → ℕ
level_or_root None = 0
level_or_root (Some u) = u

abbrev pub top_level : Tree → ℕ
top_level empty = 0
top_level (more a b) = max (top_level a) (top_level b)
top_level (node l c) = max (level_or_root (leaf_level l)) (top_level c)

-- the goal with placeholders of the next universe in place of what it binds
abbrev pub opened_next : Tree → Tree → Tree
opened_next e g = if binds g then blurred (unbound (opened (placeholder_in (suc (top_level (pair e g)))) 0 (statement_of g))) else g

-- Environment and goal are blurred, and the goals of candidates too.
mutual
  -- the goal is yes, or no; the number is its height: the most goals above a goal of the tree that decides it. What a goal says of a
  -- region is yes; one that the handler judges is as it is judged, and one with one way is as that way is
  pub data IsDecided (h : Handler) (mode : Mode) (e : Tree) : ℕ → Tree → Bool → Type 0 where
    by_candidates : {n : ℕ} {g : Tree} {b : Bool} (xs : List Candidate) → IsPlainGoal e (opened_next e g) → IsUniform h mode e (opened_next e g) xs
        → OneHolds h mode e n xs b → IsDecided h mode e n g b
    by_region : {g : Tree} → IsRegionGoal e (opened_next e g) → IsDecided h mode e 0 g true
    by_judgement : {g : Tree} {b : Bool} → IsJudgedGoal h e (opened_next e g) b → IsDecided h mode e 0 g b
    by_own_way : {n : ℕ} {g : Tree} {b : Bool} (x : Candidate) → IsOwnWayGoal h e (opened_next e g) x → CandidateIs h mode e n x b → IsDecided h mode e n g b

  -- all candidates fail but one, which holds; or all fail
  pub data OneHolds (h : Handler) (mode : Mode) (e : Tree) : ℕ → List Candidate → Bool → Type 0 where
    none_left : OneHolds h mode e 0 [] false
    then_fails : {n m k : ℕ} {x : Candidate} {xs : List Candidate} {b : Bool} → CandidateIs h mode e m x false → OneHolds h mode e k xs b → n ≡ max m k → OneHolds h mode e n (x ∷ xs) b
    then_holds : {n m k : ℕ} {x : Candidate} {xs : List Candidate} → CandidateIs h mode e m x true → OneHolds h mode e k xs false → n ≡ max m k → OneHolds h mode e n (x ∷ xs) true

  -- no values meet its equations; or some do, which fix its goals, and these are yes, or yes up to one that is no
  pub data CandidateIs (h : Handler) (mode : Mode) (e : Tree) : ℕ → Candidate → Bool → Type 0 where
    is_unmet : {x : Candidate} → ((vs : List Tree) → MeetsBlurred x vs → ⊥) → CandidateIs h mode e 0 x false
    is_met : {n : ℕ} {x : Candidate} {b : Bool} (vs : List Tree) → MeetsBlurred x vs → FixesGoals x → GoalsAre h mode e n vs x.goals b → CandidateIs h mode e n x b

  pub data GoalsAre (h : Handler) (mode : Mode) (e : Tree) : ℕ → List Tree → List Premise → Bool → Type 0 where
    all_yes : {vs : List Tree} → GoalsAre h mode e 0 vs [] true
    one_yes : {n m k : ℕ} {vs : List Tree} {p : Premise} {ps : List Premise} {b : Bool} → IsDecided h mode e m (blurred (filled vs p.predicate)) true → GoalsAre h mode e k vs ps b → n ≡ max (suc m) k → GoalsAre h mode e n vs (p ∷ ps) b
    one_no : {n m : ℕ} {vs : List Tree} {p : Premise} {ps : List Premise} → IsDecided h mode e m (blurred (filled vs p.predicate)) false → n ≡ suc m → GoalsAre h mode e n vs (p ∷ ps) false

-- a goal, with its regions, is decided
abbrev pub IsGoalDecided : Handler → Mode → ℕ → Tree → Tree → Bool → Type 0
IsGoalDecided h mode n e g b = IsDecided h mode (blurred_environment e) n (blurred g) b

-- the handler answers nothing yes at once that is decided no
abbrev pub IsFairAtOnce : Handler → Type 0
IsFairAtOnce h = (mode : Mode) (n : ℕ) (e g : Tree) → IsGoalDecided h mode n e g false → h.at_once e g certain → ⊥
