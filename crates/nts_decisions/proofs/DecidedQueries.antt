-- A decided goal in the table of its query: handlers are asked for it, and how what they offer fares; or it says something of a region.
use Rattle.std.proofs.Common.{◌≡◌, inl, inr, ℕ, ◌+◌, ◌≤◌, Bool, true, false, map, refl, sym, ap, subst, ◌∙◌, arith}
use Rattle.std.specs.Prelude.{◌⊎◌, ◌||◌}
use Rattle.nts_model.specs.declared.labels.FreeRegion.TheVariants as region
use Rattle.nts_model.specs.declared.labels.Constant.TheVariants as constant
use Rattle.nts_model.specs.declared.labels.Leaf.{Leaf}
use Rattle.nts_model.specs.declared.labels.Leaf.TheVariants as leaf
use Rattle.nts_model.specs.declared.labels.Label.{Label}
use Rattle.nts_model.specs.declared.labels.Label.TheVariants as label
use Rattle.nts_model.specs.Terms.Trees.{Tree, empty, more, node, any_label, is_alias, is_canonical, IsClosed, IsFormed}
use Rattle.nts_model.specs.Terms.Scoping.{IsWellBound}
use Rattle.nts_model.specs.Tables.Contents.{Content}
use Rattle.nts_model.specs.Tables.Resolving.{IsSound}
use Rattle.nts_model.specs.Tables.Solvable.{IsSolvable}
use Rattle.nts_model.specs.Terms.Substitutions.{leaf_tree, put, Occurs}
use Rattle.nts_model.specs.Lists.{Among}
use Rattle.nts_model.specs.Derivations.Related.{Constraint, pair, unbound, no_sorts}
use Rattle.nts_model.specs.Derivations.Sequents.{HasClosedStatements}
use Rattle.nts_model.specs.Derivations.Rules.{Mode, statement_of, opened, bound}
use Rattle.nts_model.specs.Derivations.Handlers.{Handler, Candidate, certain, IsAsked, IsLawfulHandler, IsCandidateFor}
use Rattle.nts_model.specs.Refutation.Opening.{binds, placeholder_in, entered_table, opened_in}
use Rattle.nts_model.proofs.Terms.Listed.{either as two_ways}
use Rattle.nts_model.proofs.Terms.Unpositioned.{or_false, false_or}
use Rattle.nts_decisions.specs.Deciding.{blurred, blurred_but_static, blurred_environment, blurred_candidate, SaysOfRegion, IsPlainGoal, IsRegionGoal, IsJudged, IsJudgedGoal, IsOwnWayGoal, CandidateIs, OneHolds, top_level, opened_next, IsGoalDecided}
use Rattle.nts_theory.specs.RelatingCandidates.{HasPlainEquations}
use Rattle.nts_decisions.proofs.PlainOffers.{offered_plain}
use Rattle.nts_decisions.proofs.BlurredWorlds.{merged_leaf}
use Rattle.nts_decisions.proofs.Deciding.{DecidedBy, DecidedByWay, DecidedAs, as_offered, as_of_region, as_judged, as_its_way, decided_by}
use Rattle.nts_decisions.proofs.OwnWays.{way_sure}
use Rattle.nts_decisions.proofs.OwnWaysHere.{way_constants}
use Rattle.nts_theory.specs.Affirming.{IsOwnWay}
use Rattle.nts_decisions.proofs.DecidingRenamed.{labels_renamed}
use Rattle.nts_decisions.proofs.Reopening.{binding}
use Rattle.nts_decisions.proofs.DecidedOpening.{as_leaves, opened_so}
use Rattle.nts_model.proofs.Terms.Substituting.{replace-equal}
use Rattle.nts_decisions.proofs.ConstantGoals.{no_variables, top_below, opened_constants, candidate_constants, candidate_names}
use Rattle.nts_decisions.proofs.Faring.{among_by, IsConstantEnvironment, IsConstantCandidate, candidate_fares, all_fare}
use Rattle.nts_decisions.proofs.RootedInputs.{static_leaf, static_is}
use Rattle.nts_decisions.proofs.AskedGoals.{by_leaves, closed_raw, unbound_raw, statements_raw, asked_raw}
use Rattle.nts_decisions.proofs.OpenedStatements.{region_blurred, says_outlives}
use Rattle.nts_theory.specs.Outliving.{IsOutlives}
use Rattle.nts_decisions.specs.Queries.{AreConstants, IsNamedConstant}
use Rattle.nts_decisions.specs.Faring.{Fares, OneFares}

as_static : (t : Tree) → blurred_environment t ≡ by_leaves static_leaf t
as_static t = replace-equal blurred_but_static (λ l. leaf_tree (static_leaf l)) static_is t

-- leaves that are replaced by leaves that are as well named
by_label : (f : Leaf → Leaf) (u : ℕ) (l : Label) (t : Tree) → ((x : Leaf) → IsNamedConstant u x → IsNamedConstant u (f x)) → ((x : Leaf) → label.Leaf x ≡ l → IsNamedConstant u x) → AreConstants u t → AreConstants u (put (λ x. leaf_tree (f x)) l t)
by_label f u (label.Leaf y) t k h r x (inl e) = subst (IsNamedConstant u) (cc e) (k y (h y refl))
by_label f u (label.Leaf y) t k h r x (inr o) = absurd o
by_label f u (label.Bound s i n) t k h r x o = elim o [ inl e ↦ absurd (cc e) | inr p ↦ r x p ]
by_label f u (label.Ty y) t k h r x o = elim o [ inl e ↦ absurd (cc e) | inr p ↦ r x p ]
by_label f u (label.Const y) t k h r x o = elim o [ inl e ↦ absurd (cc e) | inr p ↦ r x p ]
by_label f u (label.Clause y) t k h r x o = elim o [ inl e ↦ absurd (cc e) | inr p ↦ r x p ]
by_label f u (label.Predicate y) t k h r x o = elim o [ inl e ↦ absurd (cc e) | inr p ↦ r x p ]
by_label f u (label.List y) t k h r x o = elim o [ inl e ↦ absurd (cc e) | inr p ↦ r x p ]

constants_by : (f : Leaf → Leaf) (u : ℕ) (t : Tree) → ((x : Leaf) → IsNamedConstant u x → IsNamedConstant u (f x)) → AreConstants u t → AreConstants u (by_leaves f t)
constants_by f u empty k h = h
constants_by f u (more a b) k h = λ x o. elim o [
  | inl p ↦ constants_by f u a k (λ l q. h l (inl q)) x p
  | inr p ↦ constants_by f u b k (λ l q. h l (inr q)) x p
]
constants_by f u (node l t) k h = by_label f u l (by_leaves f t) k (λ x e. h x (inl e)) (constants_by f u t k (λ x o. h x (inr o)))

merged_named : (u : ℕ) (x : Leaf) → IsNamedConstant u x → IsNamedConstant u (merged_leaf x)
merged_named u (leaf.Variable k n) h = absurd h
merged_named u (leaf.Region r) h = tt
merged_named u (leaf.TyConstant a) h = h
merged_named u (leaf.ConstConstant a) h = h

static_named : (u : ℕ) (x : Leaf) → IsNamedConstant u x → IsNamedConstant u (static_leaf x)
static_named u (leaf.Variable k n) h = absurd h
static_named u (leaf.Region region.Static) h = tt
static_named u (leaf.Region (region.EarlyParam n)) h = tt
static_named u (leaf.Region (region.LateParam n)) h = tt
static_named u (leaf.Region (region.Placeholder v n)) h = tt
static_named u (leaf.Region region.Erased) h = tt
static_named u (leaf.Region region.Error) h = tt
static_named u (leaf.TyConstant a) h = h
static_named u (leaf.ConstConstant a) h = h

first_of : (u : ℕ) (e g : Tree) → AreConstants u (pair e g) → AreConstants u e
first_of u e g h l o = h l (inl o)

second_of : (u : ℕ) (e g : Tree) → AreConstants u (pair e g) → AreConstants u g
second_of u e g h l o = h l (inr (inl o))

both_of : (u : ℕ) (e g : Tree) → AreConstants u e → AreConstants u g → AreConstants u (pair e g)
both_of u e g h k l (inl o) = h l o
both_of u e g h k l (inr (inl o)) = k l o
both_of u e g h k l (inr (inr o)) = absurd o

-- no greater universe is named
pub top_blurred : (u : ℕ) (e g : Tree) → AreConstants u (pair e g) → top_level (pair (blurred_environment e) (blurred g)) ≤ u
top_blurred u e g h =
    top_below u (pair (blurred_environment e) (blurred g))
    (both_of u (blurred_environment e) (blurred g)
    (subst (AreConstants u) (sym (as_static e)) (constants_by static_leaf u e (static_named u) (first_of u e g h)))
    (subst (AreConstants u) (sym (as_leaves g)) (constants_by merged_leaf u g (merged_named u) (second_of u e g h))))

-- an opened goal names the universe that was made
named_more : (u v : ℕ) (l : Leaf) → u ≤ v → IsNamedConstant u l → IsNamedConstant v l
named_more u v (leaf.Variable k n) h k2 = k2
named_more u v (leaf.Region region.Static) h k = tt
named_more u v (leaf.Region (region.EarlyParam n)) h k = tt
named_more u v (leaf.Region (region.LateParam n)) h k = tt
named_more u v (leaf.Region (region.Placeholder w n)) h k = omega (arith, h, k)
named_more u v (leaf.Region region.Erased) h k = tt
named_more u v (leaf.Region region.Error) h k = tt
named_more u v (leaf.TyConstant (constant.Placeholder w n)) h k = omega (arith, h, k)
named_more u v (leaf.TyConstant (constant.Param n)) h k = tt
named_more u v (leaf.ConstConstant (constant.Placeholder w n)) h k = omega (arith, h, k)
named_more u v (leaf.ConstConstant (constant.Param n)) h k = tt

no_sort : (l : Leaf) → Occurs l no_sorts → ⊥
no_sort l (inl e) = absurd (cc e)
no_sort l (inr o) = o

unbound_constants : (u : ℕ) (s : Tree) → AreConstants u s → AreConstants u (unbound s)
unbound_constants u s h l (inl e) = absurd (cc e)
unbound_constants u s h l (inr (inl o)) = absurd (no_sort l o)
unbound_constants u s h l (inr (inr (inl o))) = h l o
unbound_constants u s h l (inr (inr (inr o))) = absurd o

statement_constants : (u : ℕ) (g : Tree) → binds g ≡ true → AreConstants u g → AreConstants u (statement_of g)
statement_constants u g b h =
    let x = binding g b in
    let k : AreConstants u (bound (more x.sort x.sorts) x.says) = subst (AreConstants u) x.is h in
    subst (AreConstants u) (sym (ap statement_of x.is)) (λ l o. k l (inr (inr (inl o))))

pub opened_named : (c : Content) (e g : Tree) → AreConstants c.universe (pair e g) → AreConstants (entered_table c g).universe (pair e (opened_in c g))
opened_named c e g h = go (two_ways (binds g))
  where
    go : (binds g ≡ true) ⊎ (binds g ≡ false) → AreConstants (entered_table c g).universe (pair e (opened_in c g))
    go (inr b) = rw b h
    go (inl b) =
        (let more : AreConstants (c.universe + 1) (pair e g) = λ l o. named_more c.universe (c.universe + 1) l (omega arith) (h l o) in
        let says : AreConstants (c.universe + 1) (statement_of g) = statement_constants (c.universe + 1) g b (second_of (c.universe + 1) e g more) in
        rw b (both_of (c.universe + 1) e (unbound (opened (placeholder_in (c.universe + 1)) 0 (statement_of g))) (first_of (c.universe + 1) e g more)
        (unbound_constants (c.universe + 1) (opened (placeholder_in (c.universe + 1)) 0 (statement_of g)) (opened_constants (c.universe + 1) 0 (statement_of g) says))))

alias_by : (f : Leaf → Leaf) (t : Tree) → IsFormed t → any_label is_alias (by_leaves f t) ≡ any_label is_alias t
alias_by f t k = labels_renamed is_alias f (λ l. refl) t k

-- the terms of an opened goal
pub record IsOfTermsOpened (e o : Tree) : Type 0 where
  pub environment_formed : IsFormed e
  pub formed : IsFormed o
  pub no_positions : any_label is_canonical (pair e o) ≡ false
  pub well_bound : IsWellBound (pair e o)

stated_constants : (u : ℕ) (e s : Tree) → AreConstants u (pair e (unbound s)) → AreConstants u (pair e s)
stated_constants u e s h l (inl o) = h l (inl o)
stated_constants u e s h l (inr (inl o)) = h l (inr (inl (inr (inr (inl o)))))
stated_constants u e s h l (inr (inr o)) = absurd o

-- a plain goal, with its regions, is one that handlers are asked
module _ (e o : Tree) (t : IsOfTermsOpened e o) (p : IsPlainGoal (blurred_environment e) (blurred o)) where
  pub is_asked : IsAsked e o
  is_asked = asked_raw static_leaf merged_leaf e o t.environment_formed t.formed t.no_positions t.well_bound (subst (λ z. IsAsked z (by_leaves merged_leaf o)) (as_static e) (subst (IsAsked (blurred_environment e)) (as_leaves o) p.asked))

  pub no_alias : any_label is_alias (pair e o) ≡ false
  no_alias =
      let q = or_false (any_label is_alias (blurred_environment e)) (any_label is_alias (blurred o) || false) p.no_alias in
      let r = or_false (any_label is_alias (blurred o)) false q.1 in
      false_or (any_label is_alias e) (any_label is_alias o || false) (sym (ap (any_label is_alias) (as_static e) ∙ alias_by static_leaf e t.environment_formed) ∙ q.0)
      (false_or (any_label is_alias o) false (sym (ap (any_label is_alias) (as_leaves o) ∙ alias_by merged_leaf o t.formed) ∙ r.0) refl)

-- a goal that says of a type or a region that it outlives a region, with its regions
pub record SaysOutlivesHere (e o : Tree) : Type 0 where
  pub constraint : Constraint
  pub says : IsOutlives o constraint
  pub closed : IsClosed e
  pub statements : HasClosedStatements e
  pub no_alias : any_label is_alias (pair e o) ≡ false

pub region_here : (e o : Tree) → IsOfTermsOpened e o → IsRegionGoal (blurred_environment e) (blurred o) → SaysOutlivesHere e o
region_here e o t y =
    let u = unbound_raw merged_leaf o y.statement (sym (as_leaves o) ∙ y.binds_nothing) in
    let one : IsFormed (unbound u.says) = subst IsFormed u.is t.formed in
    let formed : IsFormed u.says = one.1.1.0 in
    let k = y.closed in
    let inner : IsClosed (by_leaves merged_leaf u.says) = subst IsClosed (sym u.same) k.1.0 in
    let x = says_outlives u.says (region_blurred u.says (subst SaysOfRegion (sym u.same) y.says)) formed in
    let q = or_false (any_label is_alias (blurred_environment e)) (any_label is_alias (blurred o) || false) y.no_alias in
    let r = or_false (any_label is_alias (blurred o)) false q.1 in
    record {
      constraint = x.0;
      says = record { statement = u.says; binds_nothing = u.is; says = x.1; formed = formed; closed = closed_raw merged_leaf 0 u.says formed inner };
      closed = closed_raw static_leaf 0 e t.environment_formed (subst IsClosed (as_static e) k.0);
      statements = statements_raw static_leaf e t.environment_formed (subst HasClosedStatements (as_static e) y.statements);
      no_alias = false_or (any_label is_alias e) (any_label is_alias o || false) (sym (ap (any_label is_alias) (as_static e) ∙ alias_by static_leaf e t.environment_formed) ∙ q.0)
          (false_or (any_label is_alias o) false (sym (ap (any_label is_alias) (as_leaves o) ∙ alias_by merged_leaf o t.formed) ∙ r.0) refl);
    }

-- what it says of a region is yes
pub record IsRegionHere (e o : Tree) (b : Bool) : Type 0 where
  pub says : SaysOutlivesHere e o
  pub yes : b ≡ true

-- a goal that is as the handler judges, with its regions
pub record IsJudgedHere (h : Handler) (e o : Tree) (b : Bool) : Type 0 where
  pub statement : Tree
  pub is : o ≡ unbound statement
  pub judged : IsJudged h.judges e statement b
  pub formed : IsFormed statement
  pub closed : IsClosed statement
  pub environment : IsClosed e
  pub statements : HasClosedStatements e

pub judged_here : (h : Handler) (e o : Tree) (b : Bool) → IsOfTermsOpened e o → IsJudgedGoal h (blurred_environment e) (blurred o) b → IsJudgedHere h e o b
judged_here h e o b t y =
    let u = unbound_raw merged_leaf o y.statement (sym (as_leaves o) ∙ y.binds_nothing) in
    let one : IsFormed (unbound u.says) = subst IsFormed u.is t.formed in
    let formed : IsFormed u.says = one.1.1.0 in
    let k = y.closed in
    let inner : IsClosed (by_leaves merged_leaf u.says) = subst IsClosed (sym u.same) k.1.0 in
    record {
      statement = u.says;
      is = u.is;
      judged = y.alike e u.says (t.environment_formed, (formed, tt)) refl (as_leaves u.says ∙ u.same);
      formed = formed;
      closed = closed_raw merged_leaf 0 u.says formed inner;
      environment = closed_raw static_leaf 0 e t.environment_formed (subst IsClosed (as_static e) k.0);
      statements = statements_raw static_leaf e t.environment_formed (subst HasClosedStatements (as_static e) y.statements);
    }

-- a goal that may hold in one way alone, with its regions, and how that way fares
pub record IsWayHere (h : Handler) (mode : Mode) (n : ℕ) (c : Content) (e o : Tree) (b : Bool) : Type 0 where
  pub statement : Tree
  pub is : o ≡ unbound statement
  pub way : Candidate
  pub own : IsOwnWay h.judges e statement way
  pub fares : Fares h mode n c way b
  pub sure : way.certainty ≡ certain
  pub formed : IsFormed statement
  pub closed : IsClosed statement
  pub environment : IsClosed e
  pub statements : HasClosedStatements e
  pub no_alias : any_label is_alias (pair e o) ≡ false

-- what handlers are not asked: that is of a region, or as they judge, or has one way
abbrev pub IsUnofferedHere : Handler → Mode → ℕ → Content → Tree → Tree → Bool → Type 0
IsUnofferedHere h mode n c e o b = IsRegionHere e o b ⊎ (IsJudgedHere h e o b ⊎ IsWayHere h mode n c e o b)

-- how what is offered fares
pub record IsDecidedHere (h : Handler) (mode : Mode) (n : ℕ) (c : Content) (e o : Tree) (b : Bool) : Type 0 where
  pub plain : IsPlainGoal (blurred_environment e) (blurred o)
  pub fares : OneFares h mode n c (h.offers mode e o) b
  pub sure : (x : Candidate) → Among (h.offers mode e o) x → x.certainty ≡ certain
  pub no_aliases : (x : Candidate) → Among (h.offers mode e o) x → HasPlainEquations x

module _ (h : Handler) (law : IsLawfulHandler h) (mode : Mode) (n : ℕ) (c : Content) (e g : Tree) (b : Bool) (u : c.universe ≡ top_level (pair (blurred_environment e) (blurred g))) (constants : AreConstants c.universe (pair e g))
    (d : IsGoalDecided h mode n e g b) (t : IsOfTermsOpened e (opened_in c g)) (sound : IsSound (entered_table c g)) (solvable : IsSolvable (entered_table c g)) where
  opened_same : blurred (opened_in c g) ≡ opened_next (blurred_environment e) (blurred g)
  opened_same = opened_so c e g (sym u)

  by_offers : DecidedBy h mode (blurred_environment e) n (blurred g) b → IsDecidedHere h mode n (entered_table c g) e (opened_in c g) b
  by_offers x =
      let plain : IsPlainGoal (blurred_environment e) (blurred (opened_in c g)) = subst (IsPlainGoal (blurred_environment e)) (sym opened_same) x.plain in
      let asked : IsAsked e (opened_in c g) = is_asked e (opened_in c g) t plain in
      let v = x.uniform in
      let offers : map blurred_candidate (h.offers mode e (opened_in c g)) ≡ x.candidates = v.alike e (opened_in c g) asked refl opened_same in
      let named : AreConstants (entered_table c g).universe (pair e (opened_in c g)) = opened_named c e g constants in
      let keep = law.keep in
      let env : IsConstantEnvironment e = record { variables = no_variables (entered_table c g).universe e (first_of (entered_table c g).universe e (opened_in c g) named); positions = (or_false (any_label is_canonical e) (any_label is_canonical (opened_in c g) || false) t.no_positions).0 } in
      let each : (y : Candidate) → Among (h.offers mode e (opened_in c g)) y → IsConstantCandidate (entered_table c g) e y =
      λ y i.
      (let k : IsCandidateFor e (opened_in c g) y = keep.each mode e (opened_in c g) y asked i in
      record {
        constants = candidate_constants (entered_table c g).universe e (opened_in c g) y named k;
        names = candidate_names (entered_table c g).universe e (opened_in c g) y named k;
        environments = λ p j. (let q = k.goals p j in q.environment);
      }) in
      record {
        plain = plain;
        fares = all_fare h mode e env (entered_table c g) sound solvable n (h.offers mode e (opened_in c g)) n b each (omega arith) (subst (λ z. OneHolds h mode (blurred_environment e) n z b) (sym offers) x.holds);
        sure = λ y i. v.sure (blurred_candidate y) (subst (λ z. Among z (blurred_candidate y)) offers (among_by blurred_candidate (h.offers mode e (opened_in c g)) y i));
        no_aliases = λ y i. offered_plain e (opened_in c g) x.candidates (h.offers mode e (opened_in c g)) (λ z j. keep.each mode e (opened_in c g) z asked j) offers v.formed y i;
      }

  named : AreConstants (entered_table c g).universe (pair e (opened_in c g))
  named = opened_named c e g constants

  env : IsConstantEnvironment e
  env = record { variables = no_variables (entered_table c g).universe e (first_of (entered_table c g).universe e (opened_in c g) named); positions = (or_false (any_label is_canonical e) (any_label is_canonical (opened_in c g) || false) t.no_positions).0 }

  by_way : DecidedByWay h mode (blurred_environment e) n (blurred g) b → IsWayHere h mode n (entered_table c g) e (opened_in c g) b
  by_way x =
      let o : Tree = opened_in c g in
      let y : IsOwnWayGoal h (blurred_environment e) (blurred o) x.candidate = subst (λ z. IsOwnWayGoal h (blurred_environment e) z x.candidate) (sym opened_same) x.has_way in
      let u = unbound_raw merged_leaf o y.statement (sym (as_leaves o) ∙ y.binds_nothing) in
      let one : IsFormed (unbound u.says) = subst IsFormed u.is t.formed in
      let formed : IsFormed u.says = one.1.1.0 in
      let k = y.closed in
      let inner : IsClosed (by_leaves merged_leaf u.says) = subst IsClosed (sym u.same) k.1.0 in
      let w = y.alike e u.says (t.environment_formed, (formed, tt)) refl (as_leaves u.says ∙ u.same) in
      let said : AreConstants (entered_table c g).universe (pair e (unbound u.says)) = subst (λ z. AreConstants (entered_table c g).universe (pair e z)) u.is named in
      let states : AreConstants (entered_table c g).universe (pair e u.says) = stated_constants (entered_table c g).universe e u.says said in
      let q = or_false (any_label is_alias (blurred_environment e)) (any_label is_alias (blurred o) || false) y.no_alias in
      let r = or_false (any_label is_alias (blurred o)) false q.1 in
      record {
        statement = u.says;
        is = u.is;
        way = w.way;
        own = w.is_way;
        fares = candidate_fares h mode e env (entered_table c g) sound solvable n w.way n b (way_constants h law.judges (entered_table c g) e u.says w.way states (t.environment_formed, (formed, tt)) w.is_way) (omega arith)
            (subst (λ z. CandidateIs h mode (blurred_environment e) n z b) (sym w.same) x.holds);
        sure = way_sure h.judges e u.says w.way w.is_way;
        formed = formed;
        closed = closed_raw merged_leaf 0 u.says formed inner;
        environment = closed_raw static_leaf 0 e t.environment_formed (subst IsClosed (as_static e) k.0);
        statements = statements_raw static_leaf e t.environment_formed (subst HasClosedStatements (as_static e) y.statements);
        no_alias = false_or (any_label is_alias e) (any_label is_alias o || false) (sym (ap (any_label is_alias) (as_static e) ∙ alias_by static_leaf e t.environment_formed) ∙ q.0)
            (false_or (any_label is_alias o) false (sym (ap (any_label is_alias) (as_leaves o) ∙ alias_by merged_leaf o t.formed) ∙ r.0) refl);
      }

  -- by candidates, or by what it says of a region, or as the handler judges, or by its one way
  pub decided_here : IsDecidedHere h mode n (entered_table c g) e (opened_in c g) b ⊎ IsUnofferedHere h mode n (entered_table c g) e (opened_in c g) b
  decided_here = go (decided_by h mode (blurred_environment e) (blurred g) n b d)
    where
      go : DecidedAs h mode (blurred_environment e) n (blurred g) b → IsDecidedHere h mode n (entered_table c g) e (opened_in c g) b ⊎ IsUnofferedHere h mode n (entered_table c g) e (opened_in c g) b
      go (as_offered x) = inl (by_offers x)
      go (as_of_region y) = inr (inl (record { says = region_here e (opened_in c g) t (subst (IsRegionGoal (blurred_environment e)) (sym opened_same) y.region); yes = y.yes }))
      go (as_judged y) = inr (inr (inl (judged_here h e (opened_in c g) b t (subst (λ z. IsJudgedGoal h (blurred_environment e) z b) (sym opened_same) y.judged))))
      go (as_its_way y) = inr (inr (inr (by_way y)))
