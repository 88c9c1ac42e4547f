-- A decided goal in the table of its query: it is opened, handlers are asked for it, and what they offer fares as it is decided; or
-- it says something of a region, or is as the handler judges, or its one way fares so.
use Rattle.std.proofs.Common.{◌≡◌, ◌⊎◌, inl, inr, ⊎_elim, ℕ, Bool, true, false, List, [], ◌∷◌, ◌++◌, refl, sym, ap, subst, ◌∙◌, arith}
use Rattle.std.specs.Prelude.{◌||◌}
use Rattle.nts_model.specs.Terms.Trees.{Tree, node, any_label, is_alias, is_canonical, IsFormed}
use Rattle.nts_model.specs.Terms.Scoping.{IsWellBound}
use Rattle.nts_model.specs.Tables.Resolving.{IsSound}
use Rattle.nts_model.specs.Tables.Solvable.{IsSolvable}
use Rattle.nts_model.specs.Tables.Contents.{Content}
use Rattle.nts_model.specs.Lists.{Among}
use Rattle.nts_model.specs.Derivations.Related.{Constraint, pair, unbound}
use Rattle.nts_model.specs.Derivations.Rules.{Mode, statement_of}
use Rattle.nts_model.specs.Derivations.Handlers.{Handler, Judgements, Candidate, certain, IsLawfulHandler}
use Rattle.nts_model.specs.Refutation.Opening.{opened_in}
use Rattle.nts_model.proofs.Terms.Unpositioned.{known_no_positions, known_well_bound, pair_no_positions, or_false}
use Rattle.nts_decisions.specs.Deciding.{blurred, blurred_environment, top_level, IsGoalDecided}
use Rattle.nts_decisions.specs.Queries.{AreConstants}
use Rattle.nts_decisions.specs.Faring.{OneFares}
use Rattle.nts_decisions.proofs.Faring.{LastFares, last_fails, last_holds, last_of, with_failed, with_held, never_held}
use Rattle.nts_decisions.proofs.DecidedQueries.{IsOfTermsOpened, SaysOutlivesHere, IsDecidedHere, IsJudgedHere, IsWayHere, IsUnofferedHere, decided_here, is_asked, no_alias, top_blurred}
use Rattle.nts_decisions.proofs.OpenedStatements.{plain_statement, trait_outlives_nothing, trait_not_affirmed, trait_not_denied, region_of, decided_is_closed}
use Rattle.nts_decisions.specs.Deciding.{SaysOfRegion, IsJudged}
use Rattle.nts_theory.specs.RelatingCandidates.{HasPlainEquations}
use Rattle.nts_theory.specs.Telling.{IsTraitStatement}
use Rattle.nts_theory.specs.Affirming.{IsAffirmed, feature_allowed, has_objects, named_const, value_const, error_const, error_type, evaluated_const, by_type, by_goals, IsDenied, IsOwnWay, HasOwnWay}
use Rattle.nts_theory.specs.Outliving.{IsOutlives}
use Rattle.nts_model.specs.declared.labels.ClauseHead.TheVariants as clause
use Rattle.nts_model.specs.declared.labels.Label.TheVariants as label
use Rattle.nts_certainty.specs.declared.certainty.Certainty.{Certainty}
use Rattle.nts_certainty.specs.declared.certainty.Certainty.TheVariants as certainty
use Rattle.nts_meaning.specs.Answering.{is_yes}
use Rattle.nts_store.specs.Formed.{AreFormed}
use Rattle.nts_store.specs.Growth.{tree_at, Extends}
use Rattle.nts_terms.specs.declared.handles.Goal.{Goal}
use Rattle.nts_terms.specs.declared.handles.GenericArg.{GenericArg}
use Rattle.nts_unify.specs.Reading.{content_of}
use Rattle.nts_table.specs.Tables.{Table, IsTable}
use Rattle.nts_delegate.specs.Relevant.{LeavesOut}
use Rattle.nts_delegate.specs.Relevant.LeavesOut.{none, offered, left_out}
use Rattle.nts_meaning.specs.Evaluation.{IsPosed, IsAskedGoal}
use Rattle.nts_trying.specs.Opening.{IsOpenedTo, CannotOpen}
use Rattle.nts_trying.specs.Outliving.{OutlivesIn}
use Rattle.nts_trying.specs.Owning.{IsOwnStatement, IsOwnGoal, StatesOwn, tree_of_own}
use Rattle.nts_trying.specs.declared.own.OwnGoal.{OwnGoal}
use Rattle.nts_trying.specs.declared.own.OwnGoal.TheVariants as own
use Rattle.nts_trying.proofs.LeftOut.{unmet, among_all}
use Rattle.nts_terms.specs.declared.modes.TypingMode.{TypingMode}
use Rattle.nts_terms.specs.Modes.{mode_of}
use Rattle.nts_candidates.specs.declared.data.CandidateData.{CandidateData}
use Rattle.nts_candidates.specs.Offered.{candidates_of}
use Rattle.nts_decisions.proofs.OwnWays.{says_way, way_says}
use Rattle.nts_evaluation.specs.Deciding.{SaysJudged, IsOwnSettled, IsRootQuery, CandidatesSettled}
use Rattle.nts_evaluation.proofs.DecidedTrials.{formed_before}

-- what a handler left out is decided no, so the others fare as all do
pub kept_fares : (h : Handler) (mode : Mode) (n : ℕ) (c : Content) {ys xs : List Candidate} (b : Bool) → LeavesOut ys xs → OneFares h mode n c ys b → OneFares h mode n c xs b
kept_fares h mode n c b none f = f
kept_fares h mode n c b (offered {xs} {ys} x l) f = go (λ j r. kept_fares h mode n c j l r) b (last_of h mode n c xs x b f)
  where
    go : ((j : Bool) → OneFares h mode n c xs j → OneFares h mode n c ys j) → (k : Bool) → LastFares h mode n c xs x k → OneFares h mode n c (ys ++ x ∷ []) k
    go kept k (last_fails g r) = with_failed h mode n c ys x k (kept k r) g
    go kept k (last_holds g r) = with_held h mode n c ys x (kept false r) g
kept_fares h mode n c b (left_out {xs} {ys} x l r) f = go (λ j o. kept_fares h mode n c j l o) b (last_of h mode n c xs x b f)
  where
    go : ((j : Bool) → OneFares h mode n c xs j → OneFares h mode n c ys j) → (k : Bool) → LastFares h mode n c xs x k → OneFares h mode n c ys k
    go kept k (last_fails g q) = kept k q
    go kept k (last_holds g q) = absurd (let e : true ≡ false = never_held h mode n c x true (unmet c x r) g in cc e)

abbrev start : List Tree → Table → Content
start a t = content_of a t.entries

module _ (h : Handler) (law : IsLawfulHandler h) (mode : Mode) (n : ℕ) (k : Bool) {a b : List Tree} {t : Table} (g : Goal) (qs : List GenericArg)
    (root : IsRootQuery a t g qs) (d : IsGoalDecided h mode n (tree_at a g.param_env.node) (tree_at a g.predicate.node) k) (posed : IsPosed a t g) (formed : AreFormed b) (up : Extends a b) where
  constant : AreConstants (let c = start a t in c.universe) (pair (tree_at a g.param_env.node) (tree_at a g.predicate.node))
  constant = subst (λ c. AreConstants c.universe (pair (tree_at a g.param_env.node) (tree_at a g.predicate.node))) (sym root.first) root.constants

  level : (let c = start a t in c.universe) ≡ top_level (pair (blurred_environment (tree_at a g.param_env.node)) (blurred (tree_at a g.predicate.node)))
  level =
      let low = top_blurred 0 (tree_at a g.param_env.node) (tree_at a g.predicate.node) root.constants in
      ap (λ c. c.universe) root.first ∙ omega (arith, low)

  -- it can be opened
  pub is_opened : CannotOpen (tree_at a g.predicate.node) → ⊥
  is_opened shut =
      let holds = posed.holds in
      let tree = formed_before a b up formed g.predicate.node holds.predicate.within in
      shut.escapes (decided_is_closed h mode n (start a t) (tree_at a g.param_env.node) (tree_at a g.predicate.node) k level tree shut.binds_some d)

  -- once it is
  module _ {u : Table} (o : Goal) (opened : IsOpenedTo a b t u g o) (there : IsPosed b u o) where
    env_same : tree_at b o.param_env.node ≡ tree_at a g.param_env.node
    env_same = (let holds = posed.holds in ap (λ z. tree_at b z.node) opened.environment ∙ up.kept g.param_env.node holds.env.within)

    terms : IsOfTermsOpened (tree_at a g.param_env.node) (opened_in (start a t) (tree_at a g.predicate.node))
    terms =
        let holds = there.holds in
        let knows = there.knows in
        let c = content_of b u.entries in
        let env = subst IsFormed env_same (formed o.param_env.node holds.env.within) in
        let predicate = subst IsFormed opened.predicate (formed o.predicate.node holds.predicate.within) in
        let e_positions = ap (any_label is_canonical) (sym env_same) ∙ known_no_positions c (tree_at b o.param_env.node) knows.env in
        let p_positions = ap (any_label is_canonical) (sym opened.predicate) ∙ known_no_positions c (tree_at b o.predicate.node) knows.predicate in
        let e_bound = subst IsWellBound env_same (known_well_bound c (tree_at b o.param_env.node) knows.env) in
        let p_bound = subst IsWellBound opened.predicate (known_well_bound c (tree_at b o.predicate.node) knows.predicate) in
        record {
          environment_formed = env;
          formed = predicate;
          no_positions = pair_no_positions (tree_at a g.param_env.node) (opened_in (start a t) (tree_at a g.predicate.node)) e_positions p_positions;
          well_bound = (e_bound, (p_bound, tt));
        }

    entered : IsTable b u
    entered = there.table

    pub opened_decided : IsDecidedHere h mode n (content_of b u.entries) (tree_at b o.param_env.node) (tree_at b o.predicate.node) k ⊎ IsUnofferedHere h mode n (content_of b u.entries) (tree_at b o.param_env.node) (tree_at b o.predicate.node) k
    opened_decided =
        let now = entered.now in
        let proper = now.proper in
        rw (opened.table, env_same, opened.predicate)
        (decided_here h law mode n (start a t) (tree_at a g.param_env.node) (tree_at a g.predicate.node) k level constant d terms (subst IsSound opened.table now.sound) (subst IsSolvable opened.table proper.solvable))

    asked_by : IsDecidedHere h mode n (content_of b u.entries) (tree_at b o.param_env.node) (tree_at b o.predicate.node) k → IsAskedGoal b o
    asked_by x =
        let own : IsOfTermsOpened (tree_at b o.param_env.node) (tree_at b o.predicate.node) = rw (env_same, opened.predicate) terms in
        let statement = plain_statement (tree_at b o.param_env.node) (tree_at b o.predicate.node) x.plain in
        record {
          asked = record { holds = there.holds; asked = is_asked (tree_at b o.param_env.node) (tree_at b o.predicate.node) own x.plain };
          trait_goal = record { statement = statement; no_alias = no_alias (tree_at b o.param_env.node) (tree_at b o.predicate.node) own x.plain };
        }

    pub is_asked_here : IsAskedGoal b o ⊎ IsUnofferedHere h mode n (content_of b u.entries) (tree_at b o.param_env.node) (tree_at b o.predicate.node) k
    is_asked_here = ⊎_elim (λ x. inl (asked_by x)) (λ y. inr y) opened_decided

-- a goal that says something of a region is one of the store that does, and of no other kind
pub outlives_in : {ts : List Tree} {o : Goal} (y : SaysOutlivesHere (tree_at ts o.param_env.node) (tree_at ts o.predicate.node)) → OutlivesIn ts o y.constraint
outlives_in {ts} {o} y =
    record {
      says = y.says;
      environment = record { closed = y.closed; statements = y.statements };
      no_alias = (or_false (any_label is_alias (tree_at ts o.predicate.node)) false (or_false (any_label is_alias (tree_at ts o.param_env.node)) (any_label is_alias (tree_at ts o.predicate.node) || false) y.no_alias).1).0;
    }

pub region_not_asked : {ts : List Tree} {o : Goal} → IsAskedGoal ts o → SaysOutlivesHere (tree_at ts o.param_env.node) (tree_at ts o.predicate.node) → ⊥
region_not_asked asked y = trait_outlives_nothing _ _ (let z = asked.trait_goal in z.statement) y.says

own_says_nothing : (ts : List Tree) (x : OwnGoal) → SaysOfRegion (tree_of_own ts x) → ⊥
own_says_nothing ts (own.DynCompatible i) h = h
own_says_nothing ts (own.UnstableFeature f) h = h
own_says_nothing ts (own.ConstEvaluatable c) h = h
own_says_nothing ts (own.ConstArgHasType c t) h = h
own_says_nothing ts (own.WellFormed t) h = h

one_statement : (s t : Tree) → unbound s ≡ unbound t → s ≡ t
one_statement s t q = cc q

pub region_not_own : {ts : List Tree} {o : Goal} {x : OwnGoal} → IsOwnGoal ts o x → SaysOutlivesHere (tree_at ts o.param_env.node) (tree_at ts o.predicate.node) → ⊥
region_not_own {ts} {o} {x} says y =
    let z = y.says in
    own_says_nothing ts x (subst SaysOfRegion (one_statement z.statement (tree_of_own ts x) (sym z.binds_nothing ∙ says.binds_nothing)) (region_of z.statement y.constraint z.says))

-- .. nor is what the handler judges, which is of the engine's own kinds
pub says_judged : (h : Handler) (e o : Tree) (k : Bool) → IsJudgedHere h e o k → SaysJudged h.judges e o k
says_judged h e o true y = record { statement = y.statement; binds_nothing = y.is; affirmed = y.judged; formed = y.formed; closed = y.closed }
says_judged h e o false y = subst (λ z. IsDenied h.judges (statement_of z)) (sym y.is) y.judged

no_trait_judged : (j : Judgements) (e o : Tree) (b : Bool) → IsTraitStatement (statement_of o) → SaysJudged j e o b → ⊥
no_trait_judged j e o true t x = trait_not_affirmed j e o t x
no_trait_judged j e o false t x = trait_not_denied j o t x

pub judged_not_asked : {h : Handler} {ts : List Tree} {o : Goal} {k : Bool} → IsAskedGoal ts o → IsJudgedHere h (tree_at ts o.param_env.node) (tree_at ts o.predicate.node) k → ⊥
judged_not_asked {h} {ts} {o} {k} asked y = (let z = asked.trait_goal in no_trait_judged h.judges (tree_at ts o.param_env.node) (tree_at ts o.predicate.node) k z.statement (says_judged h (tree_at ts o.param_env.node) (tree_at ts o.predicate.node) k y))

affirmed_own : (j : Judgements) (e s : Tree) → IsAffirmed j e s → IsOwnStatement s
affirmed_own j e s (feature_allowed x) = tt
affirmed_own j e s (has_objects x) = tt
affirmed_own j e s named_const = tt
affirmed_own j e s value_const = tt
affirmed_own j e s error_const = tt
affirmed_own j e s error_type = tt
affirmed_own j e s (evaluated_const x) = tt

judged_own : (j : Judgements) (e s : Tree) (k : Bool) → IsJudged j e s k → IsOwnStatement s
judged_own j e s true x = affirmed_own j e s x
judged_own j e s false x = subst IsOwnStatement (sym x.is) tt

pub states_own : {h : Handler} {e o : Tree} {k : Bool} → IsJudgedHere h e o k → StatesOwn e o
states_own {h} {e} {o} {k} y = record { statement = y.statement; binds_nothing = y.is; own = judged_own h.judges e y.statement k y.judged; closed = y.closed; environment = record { closed = y.environment; statements = y.statements } }

no_region_own : (s : Tree) → IsOwnStatement s → SaysOfRegion s → ⊥
no_region_own (node (label.Clause clause.RegionOutlives) ts) o r = o
no_region_own (node (label.Clause clause.TypeOutlives) ts) o r = o
no_region_own s o r = absurd r

pub judged_not_region : {h : Handler} {e o : Tree} {k : Bool} (x : Constraint) → IsOutlives o x → IsJudgedHere h e o k → ⊥
judged_not_region {h} {e} {o} {k} x is y =
    no_region_own y.statement (judged_own h.judges e y.statement k y.judged)
    (subst SaysOfRegion (one_statement is.statement y.statement (sym is.binds_nothing ∙ y.is)) (region_of is.statement x is.says))

-- what has one way is of the engine's own kinds, and no other kind
trait_no_way : (s : Tree) → IsTraitStatement s → says_way s → ⊥
trait_no_way (node (label.Clause (clause.Trait i)) ts) t w = w
trait_no_way (node (label.Clause (clause.HostEffect i)) ts) t w = w
trait_no_way s t w = absurd t

module _ {h : Handler} {mode : Mode} {n : ℕ} {c : Content} {e o : Tree} {k : Bool} (y : IsWayHere h mode n c e o k) where
  way_own : (j : Judgements) (s : Tree) (x : Candidate) → IsOwnWay j e s x → IsOwnStatement s
  way_own j s x by_type = tt
  way_own j s x (by_goals q) = tt

  own_statement : IsOwnStatement y.statement
  own_statement = way_own h.judges y.statement y.way y.own

  pub way_states_own : StatesOwn e o
  way_states_own = record { statement = y.statement; binds_nothing = y.is; own = own_statement; closed = y.closed; environment = record { closed = y.environment; statements = y.statements } }

  pub way_not_region : (x : Constraint) → IsOutlives o x → ⊥
  way_not_region x is = no_region_own y.statement own_statement (subst SaysOfRegion (one_statement is.statement y.statement (sym is.binds_nothing ∙ y.is)) (region_of is.statement x is.says))

  pub way_not_trait : IsTraitStatement (statement_of o) → ⊥
  way_not_trait t = trait_no_way (statement_of o) t (subst (λ z. says_way (statement_of z)) (sym y.is) (way_says h.judges e y.statement y.way y.own))

  pub way_here : HasOwnWay h.judges e o y.way
  way_here = record { statement = y.statement; binds_nothing = y.is; way = y.own; formed = y.formed; closed = y.closed }

-- what handlers are asked is decided by what they offer
pub by_offers : {h : Handler} {mode : Mode} {n : ℕ} {c : Content} {ts : List Tree} {o : Goal} {k : Bool} {D : Type 0} → IsAskedGoal ts o → D ⊎ IsUnofferedHere h mode n c (tree_at ts o.param_env.node) (tree_at ts o.predicate.node) k → D
by_offers asked w = ⊎_elim (λ x. x) (λ y. absurd (⊎_elim (λ z. region_not_asked asked z.says) (λ v. ⊎_elim (λ z. judged_not_asked asked z) (λ z. way_not_trait z (let s = asked.trait_goal in s.statement)) v) y)) w

-- what the engine answers by itself is settled
pub own_settled : {h : Handler} {mode : TypingMode} {n : ℕ} {ts : List Tree} {t : Table} {o : Goal} {k : Bool} → IsJudgedHere h (tree_at ts o.param_env.node) (tree_at ts o.predicate.node) k ⊎ IsWayHere h (mode_of mode) n (content_of ts t.entries) (tree_at ts o.param_env.node) (tree_at ts o.predicate.node) k → IsOwnSettled h mode n ts t o k
own_settled {h} {mode} {n} {ts} {t} {o} {k} (inl y) = inl (says_judged h (tree_at ts o.param_env.node) (tree_at ts o.predicate.node) k y)
own_settled {h} {mode} {n} {ts} {t} {o} {k} (inr y) =
    inr (record {
      way = y.way;
      has_way = way_here y;
      no_alias = (or_false (any_label is_alias (tree_at ts o.predicate.node)) false (or_false (any_label is_alias (tree_at ts o.param_env.node)) (any_label is_alias (tree_at ts o.predicate.node) || false) y.no_alias).1).0;
      fares = y.fares;
      sure = y.sure;
    })

-- so the candidates that are kept are settled, in a store that has grown
pub kept_settled : (h : Handler) (mode : TypingMode) (n : ℕ) (k : Bool) (b : List Tree) {r : List Tree} {u : Table} (o : Goal) (xs : List CandidateData) → content_of r u.entries ≡ content_of b u.entries → tree_at r o.param_env.node ≡ tree_at b o.param_env.node → tree_at r o.predicate.node ≡ tree_at b o.predicate.node
    → IsDecidedHere h (mode_of mode) n (content_of b u.entries) (tree_at b o.param_env.node) (tree_at b o.predicate.node) k → LeavesOut (h.offers (mode_of mode) (tree_at r o.param_env.node) (tree_at r o.predicate.node)) (candidates_of r xs) → CandidatesSettled h mode n r u xs k
kept_settled h mode n k b {r} {u} o xs same env predicate d out =
    record {
      fares = kept_fares h (mode_of mode) n (content_of r u.entries) k out (rw (same, env, predicate) d.fares);
      sure = λ x i. (let sure : (y : Candidate) → Among (h.offers (mode_of mode) (tree_at r o.param_env.node) (tree_at r o.predicate.node)) y → y.certainty ≡ certain = rw (env, predicate) d.sure in sure x (among_all x out i));
      plain = λ x i. (let plain : (y : Candidate) → Among (h.offers (mode_of mode) (tree_at r o.param_env.node) (tree_at r o.predicate.node)) y → HasPlainEquations y = rw (env, predicate) d.no_aliases in plain x (among_all x out i));
    }

-- a yes
pub sure_yes : (x : Certainty) → is_yes x ≡ true → x ≡ certainty.Yes
sure_yes certainty.Yes e = refl
sure_yes (certainty.Maybe i) e = absurd (let clash : ⊥ = cc e in clash)
