-- Goals that something outlives a region: which statements are such, and that one holds where its constraint is held.
use Rattle.std.proofs.Common.{◌≡◌, inl, inr, Bool, true, List, [], ◌∷◌, Some, refl, sym, ap, ◌∙◌, subst}
use Rattle.nts_model.specs.declared.labels.Sort.TheVariants as sort
use Rattle.nts_model.specs.declared.labels.Relation.TheVariants as relation
use Rattle.nts_model.specs.Terms.Trees.{Tree, empty, more, node, kind_of, of_sort, IsClosed, IsFormed}
use Rattle.nts_model.specs.Terms.Regions.{IsRegion}
use Rattle.nts_model.specs.Tables.Contents.{Content}
use Rattle.nts_model.specs.Tables.Recording.{left_kind}
use Rattle.nts_model.specs.Tables.Resolving.{Knows, deeply_resolved, IsSound}
use Rattle.nts_model.specs.Derivations.Related.{Constraint, unbound}
use Rattle.nts_model.specs.Derivations.Rules.{Meaning, Mode, region_lives, type_lives}
use Rattle.nts_model.specs.Derivations.Handlers.{constraint_by}
use Rattle.nts_model.specs.Derivations.Proofs.{Assumed}
use Rattle.nts_model.specs.Derivations.Proving.{HoldsTerms, AreConstraintsOf, IsTermOf, recorded_as}
use Rattle.nts_model.specs.Tables.Holding.{HoldsConstraint, Continues}
use Rattle.nts_model.specs.Searching.Stacks.{IsProvedFrom}
use Rattle.nts_model.proofs.Terms.Unpositioned.{known_no_positions}
use Rattle.nts_model.proofs.Tables.Alike.{IsRegion-deeply_resolved}
use Rattle.nts_model.proofs.Tables.TableInstances.{reading_of, instance_of-reading}
use Rattle.nts_model.specs.Terms.Substitutions.{instance_of}
use Rattle.nts_decisions.proofs.RelatedRegions.{region_of_kind}
use Rattle.nts_model.specs.declared.labels.ListHead.TheVariants as list
use Rattle.nts_model.specs.declared.labels.Label.TheVariants as label
use Rattle.nts_model.specs.Tables.Passing.{TreePasses, BringsLabelsOf, BringsOnly}
use Rattle.nts_model.proofs.Tables.Bringing.{only-of}
use Rattle.nts_model.specs.declared.labels.Label.{Label}
use Rattle.nts_model.specs.Tables.Levels.{IsLevelled, AreRegionsLevelled, AreCurrent}
use Rattle.nts_model.specs.Refutation.Opening.{binds, opened_in}
use Rattle.nts_theory.proofs.Derivations.ByCandidate.{IsGranted, granted}
use Rattle.nts_trying.specs.Outliving.{OutlivesIn, constraint_at}
use Rattle.nts_trying.specs.declared.outlives.Outlives.{Outlives}
use Rattle.nts_trying.proofs.Unasked.{listed_of, row_of_none}
use Rattle.nts_model.specs.Terms.Trees.{children, row_length, IsRow}
use Rattle.nts_model.specs.Derivations.Related.{no_sorts}
use Rattle.nts_model.specs.Derivations.Rules.{statement_of}
use Rattle.nts_store.specs.Formed.{AreFormed}
use Rattle.nts_store.specs.Growth.{tree_at}
use Rattle.nts_terms.specs.declared.handles.Binder.{Binder}
use Rattle.nts_terms.specs.declared.handles.Goal.{Goal}
use Rattle.nts_terms.specs.Handles.{HoldsGoal}
use Rattle.nts_terms.specs.Kinds.{tree_of_predicate, PredicateFits}
use Rattle.nts_terms.proofs.Standing.{vars_tree}
use Rattle.nts_theory.specs.Outliving.{SaysOutlives, region_outlives, type_outlives, IsOutlives}
use Rattle.nts_theory.proofs.Aliases.ByEngine.{IsClosedThere, IsGiven, given_opened}
use Rattle.nts_terms.specs.declared.kinds.ClauseKind.{ClauseKind}
use Rattle.nts_terms.specs.declared.kinds.ClauseKind.TheVariants as clause
use Rattle.nts_terms.specs.declared.kinds.PredicateKind.{PredicateKind}
use Rattle.nts_terms.specs.declared.kinds.PredicateKind.TheVariants as predicate
use Rattle.nts_terms.specs.declared.handles.Ty.{Ty}
use Rattle.nts_terms.specs.declared.handles.Region.{Region}
use Rattle.nts_terms.specs.Kinds.{tree_of_clause, tree_of_statement}

-- statements of other kinds
pub other_clause_says : (ts : List Tree) (k : ClauseKind) (x : Constraint) → ((t : Ty) (r : Region) → k ≡ clause.TypeOutlives t r → ⊥) → ((a b : Region) → k ≡ clause.RegionOutlives a b → ⊥) → SaysOutlives x (tree_of_clause ts k) → ⊥
other_clause_says ts (clause.TypeOutlives t r) x n m h = n t r refl
other_clause_says ts (clause.RegionOutlives a b) x n m h = m a b refl
other_clause_says ts (clause.Trait _) x n m h = elim h [ ]
other_clause_says ts (clause.HostEffect _) x n m h = elim h [ ]
other_clause_says ts (clause.Projection _ _) x n m h = elim h [ ]
other_clause_says ts (clause.ConstArgHasType _ _) x n m h = elim h [ ]
other_clause_says ts (clause.WellFormed _) x n m h = elim h [ ]
other_clause_says ts (clause.ConstEvaluatable _) x n m h = elim h [ ]
other_clause_says ts (clause.UnstableFeature _) x n m h = elim h [ ]

pub other_statement_says : (ts : List Tree) (k : PredicateKind) (x : Constraint) → ((c : ClauseKind) → k ≡ predicate.Clause c → ⊥) → SaysOutlives x (tree_of_statement ts k) → ⊥
other_statement_says ts (predicate.Clause c) x n h = n c refl
other_statement_says ts (predicate.Subtype _ _ _) x n h = elim h [ ]
other_statement_says ts (predicate.Coerce _ _) x n h = elim h [ ]
other_statement_says ts (predicate.DynCompatible _) x n h = elim h [ ]
other_statement_says ts (predicate.ConstEquate _ _) x n h = elim h [ ]
other_statement_says ts (predicate.NormalizesTo _ _) x n h = elim h [ ]
other_statement_says ts (predicate.AliasRelate _ _ _) x n h = elim h [ ]
other_statement_says ts predicate.Ambiguous x n h = elim h [ ]

-- a statement says one thing
pub says_once : (x y : Constraint) (s u : Tree) → s ≡ u → SaysOutlives x s → SaysOutlives y u → x ≡ y
says_once x y s u e region_outlives region_outlives = cc e
says_once x y s u e type_outlives type_outlives = cc e
says_once x y s u e region_outlives type_outlives = cc e
says_once x y s u e type_outlives region_outlives = cc e

-- a statement of closed sides is closed
pub statement_closed : (x : Constraint) (s : Tree) → SaysOutlives x s → IsClosed x.left → IsClosed x.right → IsClosed s
statement_closed x s region_outlives a b = (tt, (a, (b, tt)))
statement_closed x s type_outlives a b = (tt, (a, (b, tt)))

-- the sides of a statement are of its sorts, closed where it is, and formed
pub right_region : (x : Constraint) (s : Tree) → SaysOutlives x s → IsFormed s → kind_of x.right ≡ Some (of_sort sort.Region)
right_region x s region_outlives f = (let p = f.0 in p.1.0)
right_region x s type_outlives f = (let p = f.0 in p.1.0)

pub left_sort : (x : Constraint) (s : Tree) → SaysOutlives x s → IsFormed s → kind_of x.left ≡ Some (left_kind x.relation)
left_sort x s region_outlives f = (let p = f.0 in p.0)
left_sort x s type_outlives f = (let p = f.0 in p.0)

pub outlives_no_equality : (x : Constraint) (s : Tree) → SaysOutlives x s → x.relation ≡ relation.Equal → ⊥
outlives_no_equality x s region_outlives e = cc e
outlives_no_equality x s type_outlives e = cc e

-- .. each of them
pub record AreSidesOf (P : Tree → Type 0) (x : Constraint) : Type 0 where
  pub left : P x.left
  pub right : P x.right

pub closed_sides : (x : Constraint) (s : Tree) → SaysOutlives x s → IsClosed s → AreSidesOf IsClosed x
closed_sides x s region_outlives c = record { left = (let y = c.1 in y.0); right = (let y = c.1 in y.1.0) }
closed_sides x s type_outlives c = record { left = (let y = c.1 in y.0); right = (let y = c.1 in y.1.0) }

pub formed_sides : (x : Constraint) (s : Tree) → SaysOutlives x s → IsFormed s → AreSidesOf IsFormed x
formed_sides x s region_outlives c = record { left = (let y = c.1 in y.0); right = (let y = c.1 in y.1.0) }
formed_sides x s type_outlives c = record { left = (let y = c.1 in y.0); right = (let y = c.1 in y.1.0) }

pub known_sides : (c : Content) (x : Constraint) (s : Tree) → SaysOutlives x s → Knows c s → AreSidesOf (Knows c) x
known_sides c x s region_outlives k = record { left = (let y = k.1 in y.0); right = (let y = k.1 in y.1.0) }
known_sides c x s type_outlives k = record { left = (let y = k.1 in y.0); right = (let y = k.1 in y.1.0) }

-- .. of a goal that a table knows
pub known_here : (c : Content) (g : Tree) (x : Constraint) → Knows c g → IsOutlives g x → AreSidesOf (Knows c) x
known_here c g x k s = (let there : Knows c (unbound s.statement) = subst (Knows c) s.binds_nothing k in known_sides c x s.statement s.says there.1.1.0)

-- a goal of the store that says so, by its kind
module _ (ts : List Tree) (g : Goal) (b : Binder PredicateKind) (is : tree_at ts g.predicate.node ≡ tree_of_predicate ts b) where
  states : (x : Constraint) (h : OutlivesIn ts g x) → (let s = h.says in s.statement ≡ tree_of_statement ts b.value)
  states x h = (let s = h.says in sym (ap statement_of s.binds_nothing) ∙ ap statement_of is)

  pub closed_here : (o : Outlives) (x : Constraint) → SaysOutlives (constraint_at ts o) (tree_of_statement ts b.value) → OutlivesIn ts g x → AreSidesOf IsClosed (constraint_at ts o)
  closed_here o x w h =
      let s = h.says in
      subst (AreSidesOf IsClosed) (says_once x (constraint_at ts o) s.statement (tree_of_statement ts b.value) (states x h) s.says w) (closed_sides x s.statement s.says s.closed)

  pub says_here : (x : Constraint) → OutlivesIn ts g x → SaysOutlives x (tree_of_statement ts b.value)
  says_here x h = (let s = h.says in subst (SaysOutlives x) (states x h) s.says)

  pub binds_none_here : (x : Constraint) → OutlivesIn ts g x → row_length (children (tree_at ts b.vars.node)) ≡ 0
  binds_none_here x h = (let s = h.says in ap (λ t. row_length (children (listed_of t))) (sym is ∙ s.binds_nothing))

  -- .. and what the tests of it see
  pub outlives_here : AreFormed ts → HoldsGoal ts g → PredicateFits ts b → IsRow (children (tree_at ts b.vars.node)) → row_length (children (tree_at ts b.vars.node)) ≡ 0 → (x : Constraint) → SaysOutlives x (tree_of_statement ts b.value) → IsClosed x.left → IsClosed x.right → IsOutlives (tree_at ts g.predicate.node) x
  outlives_here formed holds fits row none x w left right =
      let binder : tree_at ts b.vars.node ≡ no_sorts = vars_tree (tree_at ts b.vars.node) fits.0.fits ∙ ap (node (label.List list.Sorts)) (row_of_none (children (tree_at ts b.vars.node)) row none) in
      let whole : tree_at ts g.predicate.node ≡ unbound (tree_of_statement ts b.value) = is ∙ ap (λ z. node (label.List list.Binder) (more z (more (tree_of_statement ts b.value) empty))) binder in
      let f : IsFormed (unbound (tree_of_statement ts b.value)) = subst IsFormed whole (formed g.predicate.node holds.predicate.within) in
      record { statement = tree_of_statement ts b.value; binds_nothing = whole; says = w; formed = f.1.1.0; closed = statement_closed x (tree_of_statement ts b.value) w left right }

-- the sides have no labels but the goal's
sides_pass : (P : Label → Bool) (x : Constraint) (s : Tree) → SaysOutlives x s → TreePasses P s → AreSidesOf (TreePasses P) x
sides_pass P x s region_outlives k = record { left = (let y = k.1 in y.0); right = (let y = k.1 in y.1.0) }
sides_pass P x s type_outlives k = record { left = (let y = k.1 in y.0); right = (let y = k.1 in y.1.0) }

pub only_sides : (e g : Tree) (x : Constraint) (c d : Content) → IsOutlives g x → BringsLabelsOf c d x.left x.right → BringsOnly (e ∷ g ∷ []) c d
only_sides e g x c d says h =
    only-of (e ∷ g ∷ []) x.left x.right h
    (λ P q k i. let whole : TreePasses P (unbound says.statement) = subst (TreePasses P) says.binds_nothing (k g (inr (inl refl))) in let y = sides_pass P x says.statement says.says (whole.1.1.0) in (y.left, y.right))

-- what a goal says that outlives what, a rule of the engine gives in a table that holds that
module _ (m : Meaning) (mode : Mode) (A : List Assumed) (c : Content) (s : IsSound c) (t : HoldsTerms c) (k : AreConstraintsOf c) (e : Tree) (ke : IsTermOf c e) (env : IsClosedThere e) where
  abbrev read : Tree → Tree
  read = instance_of (reading_of c s t)

  read_as : (u : Tree) → Knows c u → IsFormed u → read u ≡ deeply_resolved c u
  read_as u n f = instance_of-reading c s t u n f

  read_region : (u : Tree) → kind_of u ≡ Some (of_sort sort.Region) → Knows c u → IsFormed u → IsClosed u → IsRegion (read u)
  read_region u r n f z = subst IsRegion (sym (read_as u n f)) (IsRegion-deeply_resolved c u (region_of_kind u r f z (known_no_positions c u n)))

  read_granted : (y : Constraint) (u : Tree) → SaysOutlives y u → Knows c u → IsFormed u → HoldsConstraint c (recorded_as y) → IsGranted c (constraint_by read y)
  read_granted y u w n f h =
      let ns = known_sides c y u w n in
      let fs = formed_sides y u w f in
      rw (read_as y.left ns.left fs.left, read_as y.right ns.right fs.right) (granted c y.relation y.left y.right h)

  outlives_given : (y : Constraint) (u : Tree) → SaysOutlives y u → Knows c u → IsFormed u → IsClosed u → HoldsConstraint c (recorded_as y) → IsGiven m mode A c s t k e ke env u
  outlives_given y u region_outlives n f z h P =
      let ns = known_sides c y u region_outlives n in
      let fs = formed_sides y u region_outlives f in
      let zs = closed_sides y u region_outlives z in
      region_lives (read_region y.left (left_sort y u region_outlives f) ns.left fs.left zs.left) (read_region y.right (right_region y u region_outlives f) ns.right fs.right zs.right) (read_granted y u region_outlives n f h)
  outlives_given y u type_outlives n f z h P =
      let ns = known_sides c y u type_outlives n in
      let fs = formed_sides y u type_outlives f in
      let zs = closed_sides y u type_outlives z in
      type_lives (read_region y.right (right_region y u type_outlives f) ns.right fs.right zs.right) (read_granted y u type_outlives n f h)

-- so the goal is proved there, once it is opened or as it stands
pub outlives_proved : (m : Meaning) (mode : Mode) (A : List Assumed) (c : Content) (s : IsSound c) (t : HoldsTerms c) (k : AreConstraintsOf c) (b : Content) (e g : Tree) (x : Constraint) → AreCurrent b → Continues b c → IsLevelled c → AreRegionsLevelled c
    → IsTermOf b e → IsTermOf b g → (ke : IsTermOf c e) → IsTermOf c g → IsTermOf c (opened_in b g) → IsClosedThere e → (binds g ≡ true → IsClosed g) → IsOutlives (opened_in b g) x → HoldsConstraint c (recorded_as x) → IsProvedFrom m mode A c e g
outlives_proved m mode A c s t k b e g x now later l r te tg ke kg ko env closed says h =
    let known : Knows c (unbound says.statement) = subst (Knows c) says.binds_nothing ko.knows in
    given_opened m mode A c s t k b e g says.statement ke env now later l r te tg kg ko closed says.binds_nothing says.closed
    (outlives_given m mode A c s t k e ke env x says.statement says.says known.1.1.0 says.formed says.closed h)
