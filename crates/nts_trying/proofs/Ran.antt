-- A candidate that is run: what its parts left, put together.
use Rattle.std.proofs.Common.{◌≡◌, ⊎_elim, inl, inr, List, [], ◌∷◌, map, refl, ap, ◌∙◌, subst}
use Rattle.std.specs.Prelude.{Result, Ok}
use Rattle.nts_terms.specs.Modes.{mode_of}
use Rattle.nts_candidates.specs.Offered.{source_of}
use Rattle.nts_model.specs.Lists.{Among}
use Rattle.nts_model.specs.Derivations.Sequents.{Source}
use Rattle.nts_model.specs.declared.labels.Sort.{Sort}
use Rattle.nts_model.specs.Terms.Trees.{Tree, IsFormed}
use Rattle.nts_model.specs.Tables.Contents.{Content}
use Rattle.nts_model.specs.Tables.Resolving.{Knows}
use Rattle.nts_model.specs.Derivations.Sequents.{Premise}
use Rattle.nts_model.specs.Tables.Passing.{BringsOnly}
use Rattle.nts_model.specs.Derivations.Rules.{Mode, Meaning, GoalKind, step_kind}
use Rattle.nts_model.specs.Derivations.Proofs.{Assumed, passed}
use Rattle.nts_model.specs.Searching.Stacks.{IsProvedFrom}
use Rattle.nts_model.specs.Terms.Substitutions.{filled}
use Rattle.nts_model.specs.Derivations.Handlers.{premise_by}
use Rattle.nts_meaning.specs.Telling.{Ruling}
use Rattle.nts_model.specs.Refutation.Forcing.{AddsAll}
use Rattle.nts_certainty.specs.declared.sources.GoalSource.{GoalSource}
use Rattle.nts_store.specs.declared.nodes.NodeId.{NodeId}
use Rattle.nts_store.specs.Formed.{AreFormed}
use Rattle.nts_store.specs.Growth.{tree_at, IsIn, AllIn, Extends}
use Rattle.nts_store.specs.Kept.{map-kept}
use Rattle.nts_store.proofs.Growing.{IsIn-extended}
use Rattle.nts_terms.specs.declared.handles.Goal.{Goal}
use Rattle.nts_terms.specs.declared.modes.TypingMode.{TypingMode}
use Rattle.nts_unify.specs.Reading.{content_of}
use Rattle.nts_unify.specs.Lawful.{content_of-extended}
use Rattle.nts_table.specs.Tables.{Table, IsTable}
use Rattle.nts_candidates.specs.declared.data.CandidateGoal.{CandidateGoal}
use Rattle.nts_candidates.specs.declared.data.CandidateData.{CandidateData}
use Rattle.nts_delegate.specs.Candidates.{AreNested}
use Rattle.nts_candidates.specs.Offered.{constraint_of, premise_of, candidate_of}
use Rattle.nts_response.specs.Forms.{premise_at}
use Rattle.nts_trying.specs.Choices.{EquatesCandidate}
use Rattle.nts_theory.specs.Telling.{kind_for}
use Rattle.nts_theory.specs.RelatingCandidates.{IsBegun, goals_with, HasPlainEquations, Begins}
use Rattle.nts_theory.specs.Telling.Fails.{is_refused}
use Rattle.nts_trying.specs.Stepping.{ArePosed, AreSettled, terms_of}
use Rattle.nts_trying.specs.Adding.{AreAdded}
use Rattle.nts_meaning.specs.Meant.{HasRunTo, FailsIn, ReachesAsked, RefusesOneAsked}
use Rattle.nts_meaning.specs.Running.{Stays, PremiseHolds, EachStays, StaysProved}
use Rattle.nts_meaning.specs.Evaluation.{Goes, IsPosed, asked_terms, goals_at}
use Rattle.nts_meaning.proofs.Running.{premise_stays, premises-kept}
use Rattle.nts_trying.proofs.Stepping.{all_among}

-- its equations and its constraints
pub begins : {a b : List Tree} {t u : Table} (e : List Tree) (v : Table) (x : CandidateData) (vs : List NodeId) → EquatesCandidate a b t u x.fresh.items vs x.equations.items → AddsAll (map (tree_at b) vs) (map (constraint_of b) x.region_constraints.items) (content_of b u.entries) (content_of e v.entries)
    → map (constraint_of b) x.region_constraints.items ≡ map (constraint_of a) x.region_constraints.items → IsBegun (content_of a t.entries) (candidate_of a x) (map (tree_at b) vs) (content_of e v.entries)
begins {a} {b} {t} {u} e v x vs q k same = record { made = q.made; equal = content_of b u.entries; freshens = q.freshens; equates = q.equates; adds = rw same at k }

-- its goals, in another store
pub added_is : {a e : List Tree} (z : List Tree) (g : Goal) (fresh : List Sort) (vs : List NodeId) (hs : List CandidateGoal) → Extends a e → AreNested a fresh g hs → map (tree_at e) vs ≡ map (tree_at z) vs
    → goals_with (map (tree_at e) vs) (map (premise_of e) hs) ≡ goals_with (map (tree_at z) vs) (map (premise_of a) hs)
added_is {a} {e} z g fresh vs hs k n same = (let ps = premises-kept a e fresh g hs k n in λ i. goals_with (same i) (ps i))

-- what its goals bring
pub added_only : {e f : List Tree} {v : Table} {g : Goal} {vs : List NodeId} {hs : List CandidateGoal} {d : Content} (gs : List (GoalSource × Goal)) → AreAdded e f v g vs hs gs → BringsOnly (terms_of f gs) (content_of f v.entries) d → content_of f v.entries ≡ content_of e v.entries → BringsOnly (asked_terms e g) (content_of e v.entries) d
added_only {e} {f} {v} {g} {vs} {hs} {d} gs h k same = record { labels = λ P q m w. k.labels P q (h.labels P q m) (rw same w) }

-- a candidate of the store a for the table t: it was equated in b and u, its constraints were recorded in e and v, and its goals
-- are of the store f
module _ {a b e f : List Tree} {t u v : Table} (h : Ruling) (mode : TypingMode) (g : Goal) (x : CandidateData) (vs : List NodeId) (gs : List (GoalSource × Goal))
    (equated : EquatesCandidate a b t u x.fresh.items vs x.equations.items) (adds : AddsAll (map (tree_at b) vs) (map (constraint_of b) x.region_constraints.items) (content_of b u.entries) (content_of e v.entries))
    (constraints : map (constraint_of b) x.region_constraints.items ≡ map (constraint_of a) x.region_constraints.items) (nested : AreNested a x.fresh.items g x.goals.items)
    (ab : Extends a b) (be : Extends b e) (ae : Extends a e) (ef : Extends e f) (table : IsTable e v) (within : AllIn b vs) (added : goals_at f gs ≡ goals_with (map (tree_at e) vs) (map (premise_of e) x.goals.items)) (at_once : HasPlainEquations (candidate_of a x)) where
  pub its_goals : goals_at f gs ≡ goals_with (map (tree_at b) vs) (map (premise_of a) x.goals.items)
  its_goals = added ∙ added_is b g x.fresh.items vs x.goals.items ae nested (map-kept b e vs within be)

  begun_here : Begins h.variances (mode_of mode) (content_of a t.entries) (tree_at a g.param_env.node) (candidate_of a x) (content_of e v.entries) (goals_with (map (tree_at b) vs) (let y = candidate_of a x in y.goals))
  begun_here = inl (map (tree_at b) vs, at_once, begins e v x vs equated adds constraints, refl)

  pub ran_to : (z : List Tree) (w : Table) → ReachesAsked h mode (kind_for h.handler (tree_at a g.predicate.node)) f v z w gs → HasRunTo h mode a t z w g x
  ran_to z w r =
      record {
        left = goals_with (map (tree_at b) vs) (let y = candidate_of a x in y.goals);
        met = content_of e v.entries;
        begun = begun_here;
        goals = r.goals;
        posed = r.posed;
        poses = rw (its_goals, content_of-extended ef table.now) at r.poses;
        reaches = r.reaches;
      }

  pub ran_refused : RefusesOneAsked h mode (kind_for h.handler (tree_at a g.predicate.node)) f v gs → FailsIn h mode a t g x
  ran_refused r = is_refused (goals_with (map (tree_at b) vs) (let y = candidate_of a x in y.goals)) r.goals (content_of e v.entries) r.posed begun_here (rw (its_goals, content_of-extended ef table.now) at r.poses) r.refuses

-- what is proved of the goals
pub all_posed : {f : List Tree} {v : Table} (gs : List (GoalSource × Goal)) → ArePosed f v gs → (g : GoalSource × Goal) → Among gs g → IsPosed f v g.1
all_posed {f} {v} gs h g i = all_among (λ x. IsPosed f v x.1) gs g h i

pub proved_all : (P : GoalSource × Goal → Type 0) (gs : List (GoalSource × Goal)) {left : List (GoalSource × Goal)} → left ≡ [] → AreSettled P gs left → (g : GoalSource × Goal) → Among gs g → P g
proved_all P gs none h g i = ⊎_elim (λ j. absurd (subst (λ xs. Among xs g) none j)) (λ p. p) (h g i)

pub ok_inside : {T E : Type 0} {x y : T} → (let r : Result T E = Ok x in r) ≡ Ok y → x ≡ y
ok_inside e = cc

heads : {X : Type 0} (x y : X) (xs ys : List X) → x ∷ xs ≡ y ∷ ys → x ≡ y
heads x y xs ys e = cc

tails : {X : Type 0} (x y : X) (xs ys : List X) → x ∷ xs ≡ y ∷ ys → xs ≡ ys
tails x y xs ys e = cc

abbrev environment_of : Premise → Tree
environment_of p = p.environment

abbrev source_in : Premise → Source
source_in p = p.source

abbrev predicate_of : Premise → Tree
predicate_of p = p.predicate

one_proved : {f z : List Tree} {v w : Table} (m : Meaning) (mode : Mode) (k : GoalKind) (A : List Assumed) (vs : List Tree) (q : Premise) (g : GoalSource × Goal) → premise_at f g ≡ premise_by (filled vs) q → IsPosed f v g.1 → Goes f z v w → AreFormed z → StaysProved m mode (passed (step_kind k (source_of g.0)) A) z w g.1 → Stays (content_of z w.entries) (PremiseHolds m mode k A vs q)
one_proved {f} {z} {v} {w} m mode k A vs q g e posed goes formed proved =
    let env : tree_at f g.1.param_env.node ≡ filled vs q.environment = ap environment_of e in
    let predicate : tree_at f g.1.predicate.node ≡ filled vs q.predicate = ap predicate_of e in
    let in_env : IsIn f g.1.param_env.node = posed.holds.env.within in
    let in_predicate : IsIn f g.1.predicate.node = posed.holds.predicate.within in
    let env_same = goes.extends.kept g.1.param_env.node in_env in
    let predicate_same = goes.extends.kept g.1.predicate.node in_predicate in
    let env_formed : IsFormed (filled vs q.environment) = subst IsFormed (env_same ∙ env) (formed g.1.param_env.node (IsIn-extended goes.extends g.1.param_env.node in_env)) in
    let predicate_formed : IsFormed (filled vs q.predicate) = subst IsFormed (predicate_same ∙ predicate) (formed g.1.predicate.node (IsIn-extended goes.extends g.1.predicate.node in_predicate)) in
    premise_stays k A goes (subst (Knows (content_of f v.entries)) env posed.knows.env) (subst (Knows (content_of f v.entries)) predicate posed.knows.predicate) env_formed predicate_formed
    (subst (λ x. Stays (content_of z w.entries) (λ d. IsProvedFrom m mode (passed (step_kind k q.source) A) d x (filled vs q.predicate))) (env_same ∙ env)
    (subst (λ y. Stays (content_of z w.entries) (λ d. IsProvedFrom m mode (passed (step_kind k q.source) A) d (tree_at z g.1.param_env.node) y)) (predicate_same ∙ predicate)
    (subst (λ o. StaysProved m mode (passed (step_kind k o) A) z w g.1) (ap source_in e) proved)))

no_nil : {X : Type 0} (x : X) (xs : List X) → [] ≡ x ∷ xs → ⊥
no_nil x xs e = cc

pub all_proved : {f z : List Tree} {v w : Table} (m : Meaning) (mode : Mode) (k : GoalKind) (A : List Assumed) (vs : List Tree) (ps : List Premise) (gs : List (GoalSource × Goal)) → goals_at f gs ≡ goals_with vs ps → ((g : GoalSource × Goal) → Among gs g → IsPosed f v g.1) → Goes f z v w → AreFormed z
    → ((g : GoalSource × Goal) → Among gs g → StaysProved m mode (passed (step_kind k (source_of g.0)) A) z w g.1) → EachStays (content_of z w.entries) (PremiseHolds m mode k A vs) ps
all_proved m mode k A vs [] gs e p goes formed h = tt
all_proved m mode k A vs (q ∷ ps) [] e p goes formed h = absurd (no_nil (premise_by (filled vs) q) (goals_with vs ps) e)
all_proved {f} {z} {v} {w} m mode k A vs (q ∷ ps) (g ∷ gs) e p goes formed h = (
  one_proved m mode k A vs q g (heads (premise_at f g) (premise_by (filled vs) q) (goals_at f gs) (goals_with vs ps) e) (p g (inl refl)) goes formed (h g (inl refl)),
  all_proved m mode k A vs ps gs (tails (premise_at f g) (premise_by (filled vs) q) (goals_at f gs) (goals_with vs ps) e) (λ y i. p y (inr i)) goes formed (λ y i. h y (inr i)),
)
