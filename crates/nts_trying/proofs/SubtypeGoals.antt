-- Goals that one type is a subtype of another: which statements are such, and that one holds where the types were related.
use Rattle.std.proofs.Common.{◌≡◌, inl, inr, ⊎_elim, ℕ, ◌+◌, Bool, true, List, [], ◌∷◌, map, refl, sym, ap, ◌∙◌, subst}
use Rattle.nts_model.specs.declared.labels.Sort.{Sort}
use Rattle.nts_model.specs.declared.labels.Variance.TheVariants as variance
use Rattle.nts_model.specs.declared.labels.Leaf.{Leaf}
use Rattle.nts_model.specs.declared.labels.ListHead.TheVariants as list
use Rattle.nts_model.specs.declared.labels.ClauseHead.TheVariants as clause_head
use Rattle.nts_model.specs.declared.labels.PredicateHead.{PredicateHead}
use Rattle.nts_model.specs.declared.labels.PredicateHead.TheVariants as predicate_head
use Rattle.nts_model.specs.declared.labels.Label.TheVariants as label
use Rattle.nts_model.specs.Terms.Trees.{Tree, empty, more, node, children, row_length, IsRow, IsClosed, IsFormed}
use Rattle.nts_model.specs.Tables.Contents.{Content}
use Rattle.nts_model.specs.Tables.Resolving.{Knows, deeply_resolved, IsSound}
use Rattle.nts_model.specs.Tables.Levels.{IsLevelled, AreRegionsLevelled, AreCurrent}
use Rattle.nts_model.specs.Tables.Holding.{Continues}
use Rattle.nts_model.specs.Terms.Substitutions.{instance_of}
use Rattle.nts_model.specs.Derivations.Related.{Constraint, pair, unbound, no_sorts}
use Rattle.nts_model.specs.Derivations.Sequents.{Premise, HasClosedStatement}
use Rattle.nts_model.specs.Derivations.Rules.{Meaning, Mode, statement_of, statement_kind, goal_kind, other_goal, relating, Stands, RelatedIn, opened, AreFresh, bound, IsBuiltIn, subtyped, coerced}
use Rattle.nts_model.specs.Derivations.Proofs.{Assumed}
use Rattle.nts_model.specs.Derivations.Proving.{HoldsTerms, AreConstraintsOf, IsTermOf, read_constraints}
use Rattle.nts_model.specs.Lists.{Among}
use Rattle.nts_model.specs.Searching.Stacks.{IsProvedFrom}
use Rattle.nts_model.specs.Refutation.Opening.{binds, placeholder_in, opened_in}
use Rattle.nts_model.proofs.Tables.Open.{Knows-deeply_resolved}
use Rattle.nts_model.proofs.Tables.ResolvedTerms.{IsFormed-deeply_resolved}
use Rattle.nts_model.proofs.Tables.TableInstances.{reading_of, instance_of-reading}
use Rattle.nts_model.proofs.Terms.Unpositioned.{formed_term, known_no_positions, known_well_bound}
use Rattle.nts_theory.specs.Subtyping.{SaysSubtype, is_subtype, is_coerced, IsSubtyping}
use Rattle.nts_theory.proofs.Derivations.ByCandidate.{IsGranted, read_itself}
use Rattle.nts_theory.proofs.Derivations.ClosedStatements.{closed_unbound, one_statement}
use Rattle.nts_theory.proofs.Derivations.Owing.{OwesFrom, owes_from, from_then, from_both}
use Rattle.nts_theory.proofs.Derivations.Relating.{Chooses, chooses_grows, chooses_itself}
use Rattle.nts_theory.proofs.Derivations.Served.{keeps_or_not, IsClosedEnvironment}
use Rattle.nts_theory.proofs.Aliases.ByEngine.{IsClosedThere, read_closed}
use Rattle.nts_theory.proofs.Aliases.ByRelating.{about, is_answered, no_goals, answered_follows, EachAnswered, related_follows, follows_proved}
use Rattle.nts_theory.proofs.Aliases.OpenedRules.{statement_reads, relating_opened}
use Rattle.nts_theory.proofs.Refutation.OpenedProofs.{fresh_later}
use Rattle.nts_store.specs.Formed.{AreFormed}
use Rattle.nts_store.specs.Growth.{tree_at}
use Rattle.nts_terms.specs.declared.handles.Binder.{Binder}
use Rattle.nts_terms.specs.declared.handles.Goal.{Goal}
use Rattle.nts_terms.specs.declared.handles.Ty.{Ty}
use Rattle.nts_terms.specs.declared.kinds.ClauseKind.{ClauseKind}
use Rattle.nts_terms.specs.declared.kinds.ClauseKind.TheVariants as clause
use Rattle.nts_terms.specs.declared.kinds.PredicateKind.{PredicateKind}
use Rattle.nts_terms.specs.declared.kinds.PredicateKind.TheVariants as predicate
use Rattle.nts_terms.specs.Handles.{HoldsGoal}
use Rattle.nts_terms.specs.Kinds.{tree_of_clause, tree_of_statement, tree_of_predicate, PredicateFits}
use Rattle.nts_terms.proofs.Standing.{vars_tree}
use Rattle.nts_trying.specs.Subtyping.{SubtypeIn, AreSubtypesBy}
use Rattle.nts_trying.proofs.Unasked.{listed_of, row_of_none}

-- statements of other kinds
clause_says : (ts : List Tree) (k : ClauseKind) (a b : Tree) → SaysSubtype a b (tree_of_clause ts k) → ⊥
clause_says ts (clause.TypeOutlives _ _) a b h = elim h [ ]
clause_says ts (clause.RegionOutlives _ _) a b h = elim h [ ]
clause_says ts (clause.Trait _) a b h = elim h [ ]
clause_says ts (clause.HostEffect _) a b h = elim h [ ]
clause_says ts (clause.Projection _ _) a b h = elim h [ ]
clause_says ts (clause.ConstArgHasType _ _) a b h = elim h [ ]
clause_says ts (clause.WellFormed _) a b h = elim h [ ]
clause_says ts (clause.ConstEvaluatable _) a b h = elim h [ ]
clause_says ts (clause.UnstableFeature _) a b h = elim h [ ]

pub other_statement_subtype : (ts : List Tree) (k : PredicateKind) → ((x : Bool) (s t : Ty) → k ≡ predicate.Subtype x s t → ⊥) → ((s t : Ty) → k ≡ predicate.Coerce s t → ⊥) → (a b : Tree) → SaysSubtype a b (tree_of_statement ts k) → ⊥
other_statement_subtype ts (predicate.Subtype x s t) n m a b h = n x s t refl
other_statement_subtype ts (predicate.Coerce s t) n m a b h = m s t refl
other_statement_subtype ts (predicate.Clause c) n m a b h = clause_says ts c a b h
other_statement_subtype ts (predicate.DynCompatible _) n m a b h = elim h [ ]
other_statement_subtype ts (predicate.ConstEquate _ _) n m a b h = elim h [ ]
other_statement_subtype ts (predicate.NormalizesTo _ _) n m a b h = elim h [ ]
other_statement_subtype ts (predicate.AliasRelate _ _ _) n m a b h = elim h [ ]
other_statement_subtype ts predicate.Ambiguous n m a b h = elim h [ ]

-- a goal of the store by what the tests of it see
module _ (ts : List Tree) (g : Goal) (b : Binder PredicateKind) (is : tree_at ts g.predicate.node ≡ tree_of_predicate ts b) where
  pub subtype_here : AreFormed ts → HoldsGoal ts g → PredicateFits ts b → IsRow (children (tree_at ts b.vars.node)) → row_length (children (tree_at ts b.vars.node)) ≡ 0 → (x y : Tree) → SaysSubtype x y (tree_of_statement ts b.value) → HasClosedStatement (tree_at ts g.predicate.node) → IsSubtyping (tree_at ts g.predicate.node) x y
  subtype_here formed holds fits row none x y says closed =
      let binder : tree_at ts b.vars.node ≡ no_sorts = vars_tree (tree_at ts b.vars.node) fits.0.fits ∙ ap (node (label.List list.Sorts)) (row_of_none (children (tree_at ts b.vars.node)) row none) in
      let whole : tree_at ts g.predicate.node ≡ unbound (tree_of_statement ts b.value) = is ∙ ap (λ z. node (label.List list.Binder) (more z (more (tree_of_statement ts b.value) empty))) binder in
      let f : IsFormed (unbound (tree_of_statement ts b.value)) = subst IsFormed whole (formed g.predicate.node holds.predicate.within) in
      record { statement = tree_of_statement ts b.value; binds_nothing = whole; says = says; formed = f.1.1.0; closed = closed (tree_of_statement ts b.value) whole }

  module _ (x y : Tree) (h : SubtypeIn ts g x y) where
    pub subtype_binds_none : row_length (children (tree_at ts b.vars.node)) ≡ 0
    subtype_binds_none = (let s = h.says in ap (λ t. row_length (children (listed_of t))) (sym is ∙ s.binds_nothing))

    pub subtype_states : SaysSubtype x y (tree_of_statement ts b.value)
    subtype_states = (let s = h.says in subst (SaysSubtype x y) (ap statement_of (sym s.binds_nothing ∙ is)) s.says)

    pub subtype_closed : HasClosedStatement (tree_at ts g.predicate.node)
    subtype_closed = (let s = h.says in subst HasClosedStatement (sym s.binds_nothing) (closed_unbound s.statement s.closed))

-- a goal whose subtype holds by goals of these kinds is of no kind that has steps of its own
relating_kind : (p : ℕ → Bool) (f : Sort → ℕ → Leaf) (h : PredicateHead) (ts : Tree) → ((xs : Tree) → statement_kind p (node (label.Predicate h) xs) ≡ other_goal) → (w : Tree) → opened f 0 w ≡ node (label.Predicate h) ts → statement_kind p w ≡ other_goal
relating_kind p f h ts other (node (label.Clause (clause_head.Trait i)) xs) e = cc
relating_kind p f h ts other (node (label.Predicate (predicate_head.NormalizesTo i)) xs) e =
    let same : predicate_head.NormalizesTo i ≡ h = cc in
    subst (λ z. statement_kind p (node (label.Predicate z) xs) ≡ other_goal) (sym same) (other xs)
relating_kind p f h ts other w e = refl

pub among_image : {X Y : Type 0} (f : X → Y) (xs : List X) (y : Y) → Among (map f xs) y → (x : X) × Among xs x × (y ≡ f x)
among_image f [] y i = absurd i
among_image f (x ∷ xs) y (inl e) = (x, inl refl, e)
among_image f (x ∷ xs) y (inr i) = (let r = among_image f xs y i in (r.0, inr r.1, r.2))

-- what a goal says of two types, a rule of the engine gives in a table under which they are related where goals hold that are proved there
module _ (m : Meaning) (mode : Mode) (A : List Assumed) (c : Content) (s : IsSound c) (t : HoldsTerms c) (k : AreConstraintsOf c) (e : Tree) (ke : IsTermOf c e) (env : IsClosedThere e) where
  abbrev here : Tree
  here = deeply_resolved c e

  abbrev cs : List Constraint
  cs = read_constraints c c.constraints

  abbrev none : Premise → Type 0
  none q = ⊥

  abbrev closed : IsClosedEnvironment here
  closed = read_closed m mode A c s t k e ke env

  abbrev Owed : ((Premise → Type 0) → Type 0) → Type 0
  Owed = OwesFrom m mode here cs (λ q. A) none

  abbrev asked : Tree → Premise
  asked g = relating here (deeply_resolved c g)

  abbrev Stood : Tree → (Premise → Type 0) → Type 0
  Stood g P = Stands (λ y. Unit {0}) P other_goal (asked g)

  -- such a goal stands as a premise: each alias in it may stand for itself
  abbrev Itself : Tree → (Premise → Type 0) → Type 0
  Itself g = Chooses m mode here cs (IsFormed-deeply_resolved c e s t ke.knows ke.formed) closed (read_itself c s t k) other_goal (asked g) (deeply_resolved c g)

  itself_follows : (g : Tree) → IsTermOf c g → Owed (Itself g)
  itself_follows g kg =
      let formed = IsFormed-deeply_resolved c e s t ke.knows ke.formed in
      let known = Knows-deeply_resolved c g s kg.knows in
      let term = formed_term (deeply_resolved c g) (IsFormed-deeply_resolved c g s t kg.knows kg.formed) (known_no_positions c (deeply_resolved c g) known) (known_well_bound c (deeply_resolved c g) known) in
      owes_from m mode here cs (λ q. A) none (Itself g) (chooses_grows m mode here cs formed closed (read_itself c s t k) other_goal (asked g) (deeply_resolved c g))
      (chooses_itself m mode here cs formed closed (read_itself c s t k) other_goal (asked g) (deeply_resolved c g) refl term)

  pub goal_stands : (g : Tree) → IsTermOf c g → IsProvedFrom m mode A c e g → Owed (Stood g)
  goal_stands g kg h =
      let formed = IsFormed-deeply_resolved c e s t ke.knows ke.formed in
      let first : Owed (λ P. P (asked g)) = answered_follows m mode A c s t k e ke closed (relating e g) (asked g) refl refl (is_answered [] (λ x. cc) h no_goals) in
      ⊎_elim
      (λ keeps. from_then m mode here cs (λ q. A) none (λ P. P (asked g)) (Stood g) (λ P y. inl (keeps, y)) first)
      (λ loose. from_then m mode here cs (λ q. A) none (λ P. P (asked g) × Itself g P) (Stood g) (λ P y. inr (loose, (deeply_resolved c g, y.1, y.0)))
      (from_both m mode here cs (λ q. A) none (λ P. P (asked g)) (Itself g) (λ P Q f y. f (asked g) y)
      (chooses_grows m mode here cs formed closed (read_itself c s t k) other_goal (asked g) (deeply_resolved c g)) first (itself_follows g kg)))
      (keeps_or_not (statement_of (deeply_resolved c g)))

  -- what a rule of the engine gives for two terms
  abbrev pub Gives : Tree → Tree → PredicateHead → (Premise → Type 0) → Type 0
  Gives a b h P = IsBuiltIn m (λ y. Unit {0}) (IsGranted c) (Stands (λ y. Unit {0}) P other_goal) here (node (label.Predicate h) (pair (deeply_resolved c a) (deeply_resolved c b)))

  module _ (a b : Tree) (x : AreSubtypesBy m mode A c e a b) where
    each_stands : EachAnswered m mode A c s t k e ke closed (map (deeply_resolved c) x.goals)
    each_stands q i =
        let r = among_image (deeply_resolved c) x.goals q i in
        let y = x.proved r.0 r.1 in
        subst (λ z. Owed (λ P. Stands (λ y. Unit {0}) P other_goal (relating here z))) (sym r.2) (goal_stands r.0 y.0 y.1)

    abbrev Relate : (Premise → Type 0) → Type 0
    Relate P = RelatedIn m (λ y. Unit {0}) (IsGranted c) (Stands (λ y. Unit {0}) P other_goal) here variance.Covariant (deeply_resolved c a) (deeply_resolved c b)

    types_follow : Owed Relate
    types_follow = related_follows m mode c s here other_goal (λ q. A) none (map (deeply_resolved c) x.goals) variance.Covariant a b each_stands x.related

    types_give : (h : PredicateHead) → ((P : Premise → Type 0) → Relate P → Gives a b h P) → Owed (Gives a b h)
    types_give h gives = from_then m mode here cs (λ q. A) none Relate (Gives a b h) gives types_follow

  -- a goal of two terms for which a rule gives it is proved: as it stands, or for what it says of fresh placeholders for what it binds
  module _ (a b : Tree) (h : PredicateHead) (other : (xs : Tree) → statement_kind m.is_coinductive (node (label.Predicate h) xs) ≡ other_goal) (by_rule_of : Owed (Gives a b h)) (ta : IsTermOf c a) (tb : IsTermOf c b) where
    abbrev kind_of_goal : (x y : Tree) → goal_kind m (about h x y) ≡ other_goal
    kind_of_goal x y = other (pair x y)

    proved_binding : (f : Sort → ℕ → Leaf) (v vs u : Tree) → IsTermOf c (bound (more v vs) u) → IsClosed (bound (more v vs) u) → AreFresh (pair here (deeply_resolved c (bound (more v vs) u))) f → unbound (opened f 0 u) ≡ about h a b → IsProvedFrom m mode A c e (bound (more v vs) u)
    proved_binding f v vs u kg ends fresh is =
        let r = instance_of (reading_of c s t) in
        let says : opened f 0 u ≡ node (label.Predicate h) (pair a b) = one_statement (opened f 0 u) (node (label.Predicate h) (pair a b)) is in
        let reads : deeply_resolved c (bound (more v vs) u) ≡ bound (more (r v) (r vs)) (r u) = sym (instance_of-reading c s t (bound (more v vs) u) kg.knows kg.formed) in
        let there : opened f 0 (r u) ≡ node (label.Predicate h) (r (pair a b)) = sym (statement_reads m mode A c s t k e ke closed v vs u f kg ends fresh) ∙ ap r says in
        let kind : goal_kind m (deeply_resolved c (bound (more v vs) u)) ≡ other_goal = ap (goal_kind m) reads ∙ relating_kind m.is_coinductive f h (r (pair a b)) other (r u) there in
        relating_opened m mode A c s t k e ke closed v vs u f kg ends fresh h kind_of_goal a b says ta tb kind by_rule_of

    pub relating_proved : (before : Content) (g : Tree) → AreCurrent before → Continues before c → IsLevelled c → AreRegionsLevelled c → IsTermOf before e → IsTermOf before g → IsTermOf c g → (binds g ≡ true → IsClosed g) → IsClosed a → IsClosed b → opened_in before g ≡ about h a b → IsProvedFrom m mode A c e g
    relating_proved before (node (label.List list.Binder) (more (node (label.List list.Sorts) (more v vs)) (more u empty))) now later l r te tg kg ends ca cb is =
        proved_binding (placeholder_in (before.universe + 1)) v vs u kg (ends refl) (fresh_later before c e (bound (more v vs) u) te.knows tg.knows now later l r) is
    relating_proved before g now later l r te tg kg ends ca cb is =
        let same : g ≡ about h a b = is in
        subst (IsProvedFrom m mode A c e) (sym same) (follows_proved m mode A c s t k e ke closed h kind_of_goal a b (subst (IsTermOf c) same kg) ca cb by_rule_of)

-- so the goal is proved there, once it is opened or as it stands
pub subtyping_proved : (m : Meaning) (mode : Mode) (A : List Assumed) (c : Content) (s : IsSound c) (t : HoldsTerms c) (k : AreConstraintsOf c) (b : Content) (e g x y : Tree) → AreCurrent b → Continues b c → IsLevelled c → AreRegionsLevelled c
    → IsTermOf b e → IsTermOf b g → (ke : IsTermOf c e) → IsTermOf c g → IsTermOf c (opened_in b g) → IsClosedThere e → (binds g ≡ true → IsClosed g) → IsSubtyping (opened_in b g) x y → AreSubtypesBy m mode A c e x y → IsProvedFrom m mode A c e g
subtyping_proved m mode A c s t k b e g x y now later l r te tg ke kg ko env ends says h = by_says says.statement says.says says.binds_nothing known.1.1.0 says.formed says.closed
  where
    known : Knows c (unbound says.statement)
    known = subst (Knows c) says.binds_nothing ko.knows

    by_says : (u : Tree) → SaysSubtype x y u → opened_in b g ≡ unbound u → Knows c u → IsFormed u → IsClosed u → IsProvedFrom m mode A c e g
    by_says u (is_subtype z) is n f q =
        relating_proved m mode A c s t k e ke env x y (predicate_head.Subtype z) (λ xs. refl) (types_give m mode A c s t k e ke env x y h (predicate_head.Subtype z) (λ P w. subtyped z w)) (record { knows = n.1.0; formed = f.1.0 }) (record { knows = n.1.1.0; formed = f.1.1.0 }) b g now later l r te tg kg ends q.1.0 q.1.1.0 is
    by_says u is_coerced is n f q =
        relating_proved m mode A c s t k e ke env x y predicate_head.Coerce (λ xs. refl) (types_give m mode A c s t k e ke env x y h predicate_head.Coerce (λ P w. coerced w)) (record { knows = n.1.0; formed = f.1.0 }) (record { knows = n.1.1.0; formed = f.1.1.0 }) b g now later l r te tg kg ends q.1.0 q.1.1.0 is
