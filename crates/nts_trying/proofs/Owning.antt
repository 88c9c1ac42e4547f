-- Goals of the engine's own kinds: which statements are such, what is known of them, and the candidate that is the own way of one.
use Rattle.std.proofs.Common.{◌≡◌, inl, inr, ℕ, ◌||◌, true, false, List, [], ◌∷◌, map, Some, None, is_some, refl, sym, ap, ◌∙◌, subst, Bool}
use Rattle.std.specs.Prelude.{All, Option, option_map}
use Rattle.std.proofs.lemmas.List.Elements.{All-head, All-tail}
use Rattle.nts_model.specs.declared.labels.Leaf.{Leaf}
use Rattle.nts_model.specs.declared.labels.AliasHead.{AliasHead}
use Rattle.nts_model.specs.declared.labels.AliasHead.TheVariants as alias_of
use Rattle.nts_model.specs.declared.labels.ListHead.TheVariants as list
use Rattle.nts_model.specs.declared.labels.Label.TheVariants as label
use Rattle.nts_model.specs.declared.labels.Sort.TheVariants as sort
use Rattle.nts_model.specs.Terms.Trees.{Tree, empty, more, node, children, row_length, IsRow, kind_of, arguments, sort_of_alias, any_label, is_canonical, IsClosed, IsFormed, is_alias}
use Rattle.nts_model.specs.Terms.Scoping.{IsWellBound}
use Rattle.nts_model.specs.Terms.Substitutions.{Occurs}
use Rattle.nts_model.specs.Derivations.Related.{pair, unbound, no_sorts, value, alias_label}
use Rattle.nts_model.specs.Lists.{Among}
use Rattle.nts_model.specs.Derivations.Sequents.{HasClosedStatement}
use Rattle.nts_model.specs.Derivations.Rules.{statement_of}
use Rattle.nts_model.specs.Derivations.Handlers.{Judgements, IsOver}
use Rattle.nts_theory.specs.RelatingCandidates.{HasPlainEquations, relates_aliases, may_be_argument}
use Rattle.nts_model.specs.Derivations.Rules.{related}
use Rattle.std.specs.Prelude.{◌&&◌}
use Rattle.nts_theory.specs.Affirming.{evaluatable, has_type, is_well_formed, IsAffirmed, evaluated_const, SaysAffirmed, plain_way, goals_there, IsOwnWay, HasOwnWay}
use Rattle.nts_theory.specs.Telling.{IsTraitStatement}
use Rattle.nts_theory.proofs.Derivations.ClosedStatements.{closed_unbound}
use Rattle.nts_store.specs.Formed.{AreFormed}
use Rattle.nts_store.specs.Growth.{tree_at, Extends, IsIn}
use Rattle.nts_store.specs.declared.nodes.NodeId.{NodeId}
use Rattle.nts_terms.specs.declared.handles.Binder.{Binder}
use Rattle.nts_terms.specs.declared.handles.Const.{Const}
use Rattle.nts_terms.specs.declared.handles.Ty.{Ty}
use Rattle.nts_terms.specs.declared.handles.Term.{Term}
use Rattle.nts_terms.specs.declared.handles.Goal.{Goal}
use Rattle.nts_terms.specs.declared.kinds.ClauseKind.{ClauseKind}
use Rattle.nts_terms.specs.declared.kinds.ClauseKind.TheVariants as clause
use Rattle.nts_terms.specs.declared.kinds.PredicateKind.{PredicateKind}
use Rattle.nts_terms.specs.declared.kinds.PredicateKind.TheVariants as predicate
use Rattle.nts_terms.specs.Handles.{HoldsGoal, HoldsTy}
use Rattle.nts_terms.specs.Kinds.{tree_of_clause, tree_of_statement, tree_of_predicate, PredicateFits}
use Rattle.nts_terms.proofs.Standing.{vars_tree, args_tree}
use Rattle.nts_candidates.specs.declared.data.Equation.{Equation as EquationData}
use Rattle.nts_candidates.specs.declared.data.EquationKind.TheVariants as equation_kind
use Rattle.nts_candidates.specs.declared.data.CandidateGoal.{CandidateGoal}
use Rattle.nts_candidates.specs.declared.data.CandidateData.{CandidateData}
use Rattle.nts_candidates.specs.Offered.{equation_of, constraint_of, hidden_of, premise_of, certainty_of, candidate_of}
use Rattle.nts_certainty.specs.Accesses.{access_of}
use Rattle.nts_delegate.specs.Candidates.{IsOverIn, AreNested, IsCandidate}
use Rattle.nts_delegate.specs.Judging.{predicates_read, IsGoalIn}
use Rattle.nts_delegate.specs.OwnTerms.{both_false, names_nothing}
use Rattle.nts_trying.specs.Outliving.{IsClosedEnv}
use Rattle.nts_trying.specs.Owning.{tree_of_own, OwnFits, IsOwnStatement, IsOwnGoal, StatesOwn, IsPlainGoal, IsPlainWay, misc_goal}
use Rattle.nts_trying.specs.declared.own.OwnGoal.{OwnGoal}
use Rattle.nts_trying.specs.declared.own.OwnGoal.TheVariants as own
use Rattle.nts_trying.proofs.Unasked.{listed_of, row_of_none}

-- such statements
pub own_tree : (ts : List Tree) (o : OwnGoal) → IsOwnStatement (tree_of_own ts o)
own_tree ts (own.DynCompatible i) = tt
own_tree ts (own.UnstableFeature f) = tt
own_tree ts (own.ConstEvaluatable c) = tt
own_tree ts (own.ConstArgHasType c t) = tt
own_tree ts (own.WellFormed t) = tt

-- statements of other kinds
pub other_clause_own : (ts : List Tree) (k : ClauseKind) → ((f : ℕ) → k ≡ clause.UnstableFeature f → ⊥) → ((c : Const) → k ≡ clause.ConstEvaluatable c → ⊥) → ((c : Const) (t : Ty) → k ≡ clause.ConstArgHasType c t → ⊥) → ((t : Term) → k ≡ clause.WellFormed t → ⊥)
    → IsOwnStatement (tree_of_clause ts k) → ⊥
other_clause_own ts (clause.UnstableFeature f) u e h w o = u f refl
other_clause_own ts (clause.ConstEvaluatable c) u e h w o = e c refl
other_clause_own ts (clause.ConstArgHasType c t) u e h w o = h c t refl
other_clause_own ts (clause.WellFormed t) u e h w o = w t refl
other_clause_own ts (clause.Trait r) u e h w o = o
other_clause_own ts (clause.HostEffect r) u e h w o = o
other_clause_own ts (clause.Projection a t) u e h w o = o
other_clause_own ts (clause.TypeOutlives t r) u e h w o = o
other_clause_own ts (clause.RegionOutlives a b) u e h w o = o

pub other_statement_own : (ts : List Tree) (k : PredicateKind) → ((c : ClauseKind) → k ≡ predicate.Clause c → ⊥) → ((i : _) → k ≡ predicate.DynCompatible i → ⊥) → IsOwnStatement (tree_of_statement ts k) → ⊥
other_statement_own ts (predicate.Clause c) n d o = n c refl
other_statement_own ts (predicate.DynCompatible i) n d o = d i refl
other_statement_own ts (predicate.Subtype e a b) n d o = o
other_statement_own ts (predicate.Coerce a b) n d o = o
other_statement_own ts (predicate.ConstEquate a b) n d o = o
other_statement_own ts (predicate.NormalizesTo a t) n d o = o
other_statement_own ts (predicate.AliasRelate a b x) n d o = o
other_statement_own ts predicate.Ambiguous n d o = o

-- no such goal is a trait's
own_no_trait : (ts : List Tree) (o : OwnGoal) → IsTraitStatement (tree_of_own ts o) → ⊥
own_no_trait ts (own.DynCompatible i) h = h
own_no_trait ts (own.UnstableFeature f) h = h
own_no_trait ts (own.ConstEvaluatable c) h = h
own_no_trait ts (own.ConstArgHasType c t) h = h
own_no_trait ts (own.WellFormed t) h = h

pub own_is_no_trait : (ts : List Tree) (g : Goal) (o : OwnGoal) → IsOwnGoal ts g o → IsTraitStatement (statement_of (tree_at ts g.predicate.node)) → ⊥
own_is_no_trait ts g o says t = own_no_trait ts o (subst (λ z. IsTraitStatement (statement_of z)) says.binds_nothing t)

-- a goal of the store by what the tests of it see
module _ (ts : List Tree) (g : Goal) (b : Binder PredicateKind) (is : tree_at ts g.predicate.node ≡ tree_of_predicate ts b) (o : OwnGoal) where
  pub own_here : PredicateFits ts b → IsRow (children (tree_at ts b.vars.node)) → row_length (children (tree_at ts b.vars.node)) ≡ 0 → tree_of_statement ts b.value ≡ tree_of_own ts o → OwnFits ts o → HasClosedStatement (tree_at ts g.predicate.node) → IsClosedEnv (tree_at ts g.param_env.node) → IsOwnGoal ts g o
  own_here fits row none says parts closed env =
      let binder : tree_at ts b.vars.node ≡ no_sorts = vars_tree (tree_at ts b.vars.node) fits.0.fits ∙ ap (node (label.List list.Sorts)) (row_of_none (children (tree_at ts b.vars.node)) row none) in
      let whole : tree_at ts g.predicate.node ≡ unbound (tree_of_own ts o) = is ∙ ap (λ z. node (label.List list.Binder) (more z (more (tree_of_statement ts b.value) empty))) binder ∙ ap unbound says in
      record { binds_nothing = whole; fits = parts; closed = closed (tree_of_own ts o) whole; environment = env }

-- .. that states one, as trees
module _ (ts : List Tree) (g : Goal) (b : Binder PredicateKind) (is : tree_at ts g.predicate.node ≡ tree_of_predicate ts b) (h : StatesOwn (tree_at ts g.param_env.node) (tree_at ts g.predicate.node)) where
  pub own_binds_none : row_length (children (tree_at ts b.vars.node)) ≡ 0
  own_binds_none = ap (λ t. row_length (children (listed_of t))) (sym is ∙ h.binds_nothing)

  pub own_states : IsOwnStatement (tree_of_statement ts b.value)
  own_states = subst IsOwnStatement (ap statement_of (sym h.binds_nothing ∙ is)) h.own

  pub own_closed : HasClosedStatement (tree_at ts g.predicate.node)
  own_closed = subst HasClosedStatement (sym h.binds_nothing) (closed_unbound h.statement h.closed)

-- in a store that has grown
own_kept : {a b : List Tree} (o : OwnGoal) → Extends a b → OwnFits a o → tree_of_own b o ≡ tree_of_own a o
own_kept (own.DynCompatible i) e f = refl
own_kept (own.UnstableFeature n) e f = refl
own_kept (own.ConstEvaluatable c) e f = ap evaluatable (e.kept c.node f.within)
own_kept (own.ConstArgHasType c t) e f = (let x = e.kept c.node f.0.within in let y = e.kept t.node f.1.within in cc (x, y))
own_kept (own.WellFormed t) e f = ap is_well_formed (e.kept t.node f.within)

-- a value that is there
pub some_mapped : {A B : Type 0} (f : A → B) (o : Option A) → is_some o ≡ true → (v : B) × option_map f o ≡ Some v
some_mapped f (Some x) e = (f x, refl)
some_mapped f None e = absurd (cc e)

-- what such a goal states
pub record States (ts : List Tree) (g : Goal) (s : Tree) : Type 0 where
  pub binds_nothing : tree_at ts g.predicate.node ≡ unbound s
  pub closed : IsClosed s

pub states_in : {a b : List Tree} {g : Goal} {o : OwnGoal} → Extends a b → HoldsGoal a g → IsOwnGoal a g o → States b g (tree_of_own b o)
states_in {a} {b} {g} {o} e h s =
    let same = own_kept o e s.fits in
    record { binds_nothing = e.kept g.predicate.node h.predicate.within ∙ s.binds_nothing ∙ ap unbound (sym same); closed = subst IsClosed (sym same) s.closed }

pub affirmed_later : {a b : List Tree} {g : Goal} {o : OwnGoal} (j : Judgements) → Extends a b → AreFormed a → HoldsGoal a g → IsOwnGoal a g o → IsAffirmed j (tree_at b g.param_env.node) (tree_of_own b o) → SaysAffirmed j (tree_at b g.param_env.node) (tree_at b g.predicate.node)
affirmed_later {a} {b} {g} {o} j e formed h s affirmed =
    let states = states_in e h s in
    let f : IsFormed (unbound (tree_of_own b o)) = subst IsFormed (sym (e.kept g.predicate.node h.predicate.within) ∙ states.binds_nothing) (formed g.predicate.node h.predicate.within) in
    record { statement = tree_of_own b o; binds_nothing = states.binds_nothing; affirmed = affirmed; formed = f.1.1.0; closed = states.closed }

-- a const that is an alias, and that the handler evaluates
pub alias_evaluated : (j : Judgements) (e v args : Tree) (h : AliasHead) → sort_of_alias h ≡ sort.Const → kind_of args ≡ Some arguments → j.evaluates e (node (alias_label h) (more args empty)) ≡ Some v → IsAffirmed j e (evaluatable (node (alias_label h) (more args empty)))
alias_evaluated j e v args (alias_of.Ty i) is fits q = absurd (cc is)
alias_evaluated j e v args (alias_of.Const i) is fits q =
    let row : args ≡ node (label.List list.Args) (children args) = args_tree args fits in
    subst (λ z. j.evaluates e (node (alias_label (alias_of.Const i)) (more z empty)) ≡ Some v → IsAffirmed j e (evaluatable (node (alias_label (alias_of.Const i)) (more z empty)))) (sym row) (λ k. evaluated_const k) q

pub way_of : (j : Judgements) (ts : List Tree) (g : Goal) (s : Tree) (c : CandidateData) (qs : List EquationData) (gs : List CandidateGoal) → AreFormed ts → IsIn ts g.predicate.node → States ts g s → IsPlainWay c qs gs
    → IsOwnWay j (tree_at ts g.param_env.node) s (plain_way (map (equation_of ts) qs) (map (premise_of ts) gs)) → HasOwnWay j (tree_at ts g.param_env.node) (tree_at ts g.predicate.node) (candidate_of ts c)
way_of j ts g s c qs gs formed within states plain way =
    let f : IsFormed (unbound s) = subst IsFormed states.binds_nothing (formed g.predicate.node within) in
    let q = ap (map (equation_of ts)) plain.equations in
    let x = ap (map (constraint_of ts)) plain.constraints in
    let h = ap (map (hidden_of ts)) plain.hidden in
    let p = ap (map (premise_of ts)) plain.goals in
    let y = ap certainty_of plain.sure in
    let n = ap access_of plain.accesses in
    let v = plain.fresh in
    let same : candidate_of ts c ≡ plain_way (map (equation_of ts) qs) (map (premise_of ts) gs) = cc (q, x, h, p, y, n, v) in
    record { statement = s; binds_nothing = states.binds_nothing; way = subst (IsOwnWay j (tree_at ts g.param_env.node) s) (sym same) way; formed = f.1.1.0; closed = states.closed }

-- terms of the goal are over it
pub over_goal : (ts : List Tree) (g : Goal) (n : NodeId) → IsIn ts n → ((l : Leaf) → Occurs l (tree_at ts n) → Occurs l (pair (tree_at ts g.param_env.node) (tree_at ts g.predicate.node))) → any_label is_canonical (tree_at ts n) ≡ false → IsClosed (tree_at ts n) → IsWellBound (tree_at ts n)
    → IsOverIn ts [] g n
over_goal ts g n within inside plain closed bound =
    record { within = within; names = names_nothing [] (tree_at ts n) plain; leaves = λ l i. inl (inside l i); closed = closed; well_bound = bound }

-- such a goal in a store that has grown
pub plain_in : {a b : List Tree} {g : Goal} → Extends a b → HoldsGoal a g → IsPlainGoal a g → IsPlainGoal b g
plain_in {a} {b} {g} e h p =
    let env = e.kept g.param_env.node h.env.within in
    let predicate = e.kept g.predicate.node h.predicate.within in
    record { no_positions = rw (env, predicate) p.no_positions; well_bound = rw (env, predicate) p.well_bound }

-- the environment is
pub env_over : (ts : List Tree) (g : Goal) → HoldsGoal ts g → IsPlainGoal ts g → IsClosed (tree_at ts g.param_env.node) → IsOverIn ts [] g g.param_env.node
env_over ts g h plain closed =
    let none = both_false (any_label is_canonical (tree_at ts g.param_env.node)) (any_label is_canonical (tree_at ts g.predicate.node) || false) plain.no_positions in
    over_goal ts g g.param_env.node h.env.within (λ l i. inl i) none.0 closed plain.well_bound.0

-- the statement, and what stands in it
pub record AreParts (ts : List Tree) (g : Goal) (s : Tree) : Type 0 where
  pub plain : any_label is_canonical s ≡ false
  pub well_bound : IsWellBound s
  pub occurs : (l : Leaf) → Occurs l s → Occurs l (pair (tree_at ts g.param_env.node) (tree_at ts g.predicate.node))

pub parts_of : (ts : List Tree) (g : Goal) (s : Tree) → IsPlainGoal ts g → States ts g s → AreParts ts g s
parts_of ts g s plain states =
    let e = tree_at ts g.param_env.node in
    let p = tree_at ts g.predicate.node in
    let none = (both_false (any_label is_canonical p) false (both_false (any_label is_canonical e) (any_label is_canonical p || false) plain.no_positions).1).0 in
    let whole : any_label is_canonical (unbound s) ≡ false = subst (λ z. any_label is_canonical z ≡ false) states.binds_nothing none in
    let bound : IsWellBound (unbound s) = subst IsWellBound states.binds_nothing plain.well_bound.1.0 in
    record {
      plain = statement_none s whole;
      well_bound = bound.1.1.0;
      occurs = λ l i. inr (inl (subst (Occurs l) (sym states.binds_nothing) (inr (inr (inl i)))));
    }
  where
    statement_none : (s : Tree) → any_label is_canonical (unbound s) ≡ false → any_label is_canonical s ≡ false
    statement_none s h = (both_false (any_label is_canonical s) false h).0

-- a value's type and the type that it is to have, as a candidate
abbrev pub type_equation : Ty → Ty → EquationData
type_equation of ty = record { kind = equation_kind.Related; lhs = record { node = of.node }; rhs = record { node = ty.node } }

pub type_candidate : (ts : List Tree) (g : Goal) (b : ℕ) (of ty : Ty) (c : CandidateData) → HoldsTy ts of → HoldsTy ts ty → IsPlainGoal ts g → States ts g (has_type (value b (tree_at ts of.node)) (tree_at ts ty.node)) → IsPlainWay c (type_equation of ty ∷ []) [] → IsCandidate ts g c
type_candidate ts g b of ty c ho ht plain states way =
    let u = tree_at ts of.node in
    let t = tree_at ts ty.node in
    let parts = parts_of ts g (has_type (value b u) t) plain states in
    let none = both_false (any_label is_canonical u || false) (any_label is_canonical t || false) parts.plain in
    let closed = states.closed in
    let of_over = over_goal ts g of.node ho.within (λ l i. parts.occurs l (inr (inl (inr (inl i))))) (both_false (any_label is_canonical u) false none.0).0 closed.1.0.1.0 parts.well_bound.1.0.1.0 in
    let ty_over = over_goal ts g ty.node ht.within (λ l i. parts.occurs l (inr (inr (inl i)))) (both_false (any_label is_canonical t) false none.1).0 closed.1.1.0 parts.well_bound.1.1.0 in
    record {
      hidden = way.hidden;
      accesses = way.accesses;
      equations = rw (way.fresh, way.equations) (record { lhs = of_over; rhs = ty_over; argument = rw ho.fits tt }, tt);
      constraints = rw (way.fresh, way.constraints) tt;
      goals = rw (way.fresh, way.goals) tt;
    }

-- .. which relates no aliases where none stands in the goal; nor does one without equations
pub unbound_none : (s : Tree) → any_label is_alias (unbound s) ≡ false → any_label is_alias s ≡ false
unbound_none s h = (both_false (any_label is_alias s) false h).0

never : (b : Bool) → b && false ≡ false
never true = refl
never false = refl

pub type_plain : (ts : List Tree) (g : Goal) (b : ℕ) (of ty : Ty) (c : CandidateData) → any_label is_alias (tree_at ts g.predicate.node) ≡ false → States ts g (has_type (value b (tree_at ts of.node)) (tree_at ts ty.node)) → IsPlainWay c (type_equation of ty ∷ []) [] → HasPlainEquations (candidate_of ts c)
type_plain ts g b of ty c none states way =
    let u = tree_at ts of.node in
    let t = tree_at ts ty.node in
    let there = unbound_none (has_type (value b u) t) (subst (λ z. any_label is_alias z ≡ false) states.binds_nothing none) in
    let both = both_false (any_label is_alias u || false) (any_label is_alias t || false) there in
    let left : any_label is_alias u ≡ false = (both_false (any_label is_alias u) false both.0).0 in
    let right : any_label is_alias t ≡ false = (both_false (any_label is_alias t) false both.1).0 in
    let plain : relates_aliases (related u t) ≡ false = rw (left, right) (never (may_be_argument (kind_of t))) in
    rw (way.equations, plain) refl

pub no_equations_plain : (ts : List Tree) (c : CandidateData) (gs : List CandidateGoal) → IsPlainWay c [] gs → HasPlainEquations (candidate_of ts c)
no_equations_plain ts c gs way = rw way.equations refl

-- the goals by which a term is well formed, as a candidate
pub premises_there : (ts : List Tree) (g : Goal) (gs : List Goal) → All (IsGoalIn ts g.param_env) gs → map (premise_of ts) (map misc_goal gs) ≡ goals_there (tree_at ts g.param_env.node) (predicates_read ts gs)
premises_there ts g [] h = refl
premises_there ts g (x ∷ xs) h =
    let one = All-head (IsGoalIn ts g.param_env) x xs h in
    let env : tree_at ts x.param_env.node ≡ tree_at ts g.param_env.node = ap (λ e. tree_at ts e.node) one.environment in
    let rest = premises_there ts g xs (All-tail (IsGoalIn ts g.param_env) x xs h) in
    cc (env, rest)

module _ (ts : List Tree) (g : Goal) (term : Term) (holds : HoldsGoal ts g) (plain : IsPlainGoal ts g) (states : States ts g (is_well_formed (tree_at ts term.node))) (env : IsClosed (tree_at ts g.param_env.node)) where
  goal_over : (n : NodeId) → IsIn ts n → IsOver [] (tree_at ts g.param_env.node) (tree_at ts term.node) (tree_at ts n) → IsOverIn ts [] g n
  goal_over n within o =
      let parts = parts_of ts g (is_well_formed (tree_at ts term.node)) plain states in
      record {
        within = within;
        names = o.names;
        leaves = λ l i. elim (o.leaves l i) [
          | inl j ↦ (elim j [ inl k ↦ inl (inl k) | inr k ↦ (elim k [ inl v ↦ inl (parts.occurs l (inr (inl v))) | inr v ↦ absurd v ]) ])
          | inr f ↦ inr f
        ];
        closed = o.closed;
        well_bound = o.well_bound;
      }

  pub nested_goals : (gs : List Goal) → All (IsGoalIn ts g.param_env) gs → ((p : Tree) → Among (predicates_read ts gs) p → IsOver [] (tree_at ts g.param_env.node) (tree_at ts term.node) p) → AreNested ts [] g (map misc_goal gs)
  nested_goals [] h over = tt
  nested_goals (x ∷ xs) h over =
      let one = All-head (IsGoalIn ts g.param_env) x xs h in (
        record {
          environment = one.environment;
          holds = one.holds;
          env = subst (λ e. IsOverIn ts [] g e.node) (sym one.environment) (env_over ts g holds plain env);
          predicate = goal_over x.predicate.node one.holds.predicate.within (over (tree_at ts x.predicate.node) (inl refl));
        },
        nested_goals xs (All-tail (IsGoalIn ts g.param_env) x xs h) (λ p i. over p (inr i)),
      )

  pub term_candidate : (gs : List Goal) (c : CandidateData) → All (IsGoalIn ts g.param_env) gs → ((p : Tree) → Among (predicates_read ts gs) p → IsOver [] (tree_at ts g.param_env.node) (tree_at ts term.node) p) → IsPlainWay c [] (map misc_goal gs) → IsCandidate ts g c
  term_candidate gs c h over way =
      record {
        hidden = way.hidden;
        accesses = way.accesses;
        equations = rw (way.fresh, way.equations) tt;
        constraints = rw (way.fresh, way.constraints) tt;
        goals = rw (way.fresh, way.goals) (nested_goals gs h over);
      }
