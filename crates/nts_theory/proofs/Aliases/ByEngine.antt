-- A goal that a rule of the engine gives without premises once it is opened is proved; so is what a handler affirms.
use Rattle.std.proofs.Common.{◌≡◌, inl, inr, ℕ, ◌+◌, List, [], refl, sym, ap, ◌∙◌, subst, true}
use Rattle.nts_model.specs.declared.labels.Sort.{Sort}
use Rattle.nts_model.specs.declared.labels.Constant.{Constant}
use Rattle.nts_model.specs.declared.labels.Leaf.{Leaf}
use Rattle.nts_model.specs.declared.labels.Leaf.TheVariants as leaf
use Rattle.nts_model.specs.declared.labels.ListHead.TheVariants as list
use Rattle.nts_model.specs.declared.labels.AliasHead.TheVariants as alias_of
use Rattle.nts_model.specs.declared.labels.Label.TheVariants as label
use Rattle.nts_model.specs.declared.labels.Variance.{Variance}
use Rattle.nts_model.specs.Terms.Trees.{Tree, empty, more, node, IsClosed, IsFormed}
use Rattle.nts_model.specs.Tables.Contents.{Content}
use Rattle.nts_model.specs.Tables.Resolving.{Knows, deeply_resolved, IsSound}
use Rattle.nts_model.specs.Tables.Levels.{IsLevelled, AreRegionsLevelled, AreCurrent}
use Rattle.nts_model.specs.Tables.Holding.{Continues}
use Rattle.nts_model.specs.Terms.Substitutions.{leaf_tree, instance_of}
use Rattle.nts_model.specs.Derivations.Related.{pair, unbound, alias}
use Rattle.nts_model.specs.Derivations.Sequents.{Premise, IsOfTerms, HasClosedStatement, HasClosedStatements}
use Rattle.nts_model.specs.Derivations.Rules.{Meaning, Mode, opened, AreFresh, bound, IsBuiltIn, allowed, dyn_compatible, constant_evaluated, value_evaluated, error_evaluated, alias_evaluated, error_typed}
use Rattle.nts_model.specs.Derivations.Handlers.{Handler, meaning, IsEvaluated, JudgementsAreKept}
use Rattle.nts_model.specs.Derivations.Proofs.{Assumed}
use Rattle.nts_model.specs.Derivations.Proving.{HoldsTerms, AreConstraintsOf, IsTermOf, sequent_at}
use Rattle.nts_model.specs.Searching.Stacks.{IsProvedFrom}
use Rattle.nts_model.specs.Refutation.Opening.{binds, placeholder_in, opened_in}
use Rattle.nts_model.proofs.Tables.Fitting.{IsClosed-under}
use Rattle.nts_model.proofs.Tables.ResolvedTerms.{IsFormed-deeply_resolved, IsClosed-deeply_resolved}
use Rattle.nts_model.proofs.Tables.Open.{Knows-deeply_resolved}
use Rattle.nts_model.proofs.Terms.Unpositioned.{known_no_positions, known_well_bound, pair_no_positions}
use Rattle.nts_model.proofs.Tables.TableInstances.{reading_of, instance_of-reading, reading-leaf}
use Rattle.nts_model.proofs.Terms.Composing.{IsClosed-instance}
use Rattle.nts_theory.specs.Affirming.{evaluatable, IsAffirmed, feature_allowed, has_objects, named_const, value_const, error_const, error_type, evaluated_const, SaysAffirmed}
use Rattle.nts_theory.proofs.Derivations.ByCandidate.{IsGranted}
use Rattle.nts_theory.proofs.Derivations.Served.{IsClosedEnvironment}
use Rattle.nts_theory.proofs.Derivations.ClosedStatements.{closed_unbound, closed_statements_instance, one_statement}
use Rattle.nts_theory.proofs.Refutation.OpenedProofs.{fresh_later}
use Rattle.nts_theory.proofs.Aliases.BuiltIn.{by_engine}
use Rattle.nts_theory.proofs.Aliases.OpenedRules.{opened_rule, statement_reads}

-- an environment without bound variables that are without their binders, and none of whose statements names a binder that binds
-- nothing
pub record IsClosedThere (e : Tree) : Type 0 where
  pub closed : IsClosed e
  pub statements : HasClosedStatements e

-- a goal that states something once it is opened, of which a rule of the engine gives what the table reads
module _ (m : Meaning) (mode : Mode) (A : List Assumed) (c : Content) (s : IsSound c) (t : HoldsTerms c) (k : AreConstraintsOf c) (e : Tree) (ke : IsTermOf c e) (env : IsClosedThere e) where
  abbrev pub read : Tree → Tree
  read = instance_of (reading_of c s t)

  pub read_as : (u : Tree) → Knows c u → IsFormed u → read u ≡ deeply_resolved c u
  read_as u n f = instance_of-reading c s t u n f

  pub read_closed : IsClosedEnvironment (deeply_resolved c e)
  read_closed =
      let there = Knows-deeply_resolved c e s ke.knows in
      record {
        closed = IsClosed-deeply_resolved c e t env.closed;
        no_positions = known_no_positions c (deeply_resolved c e) there;
        well_bound = known_well_bound c (deeply_resolved c e) there;
        statements = subst HasClosedStatements (read_as e ke.knows ke.formed) (closed_statements_instance (reading_of c s t) e ke.formed env.statements);
      }

  -- a rule that gives a statement without premises
  abbrev pub IsGiven : Tree → Type 1
  IsGiven u = (P : Premise → Type 0) → IsBuiltIn m (λ z. Unit {0}) (IsGranted c) P (deeply_resolved c e) (read u)

  module _ (o states : Tree) (is : o ≡ unbound states) (closed : IsClosed states) (ko : IsTermOf c o) where
    pub goal_read : deeply_resolved c o ≡ unbound (read states)
    goal_read = sym (read_as o ko.knows ko.formed) ∙ ap read is

    whole_closed : IsClosed o
    whole_closed = rw is (tt, ((tt, tt), (IsClosed-under 1 states closed, tt)))

    pub terms : IsOfTerms (sequent_at c e o)
    terms =
        let known = Knows-deeply_resolved c o s ko.knows in
        let here = read_closed in
        record {
          formed = (IsFormed-deeply_resolved c e s t ke.knows ke.formed, (IsFormed-deeply_resolved c o s t ko.knows ko.formed, tt));
          closed = (here.closed, (IsClosed-deeply_resolved c o t whole_closed, tt));
          no_positions = pair_no_positions (deeply_resolved c e) (deeply_resolved c o) here.no_positions (known_no_positions c (deeply_resolved c o) known);
          well_bound = (here.well_bound, (known_well_bound c (deeply_resolved c o) known, tt));
          statement = subst HasClosedStatement (sym goal_read) (closed_unbound (read states) (IsClosed-instance (reading_of c s t) states closed));
          statements = here.statements;
        }

    -- it binds nothing
    pub given_plain : IsGiven states → IsProvedFrom m mode A c e o
    given_plain given = by_engine m mode A c s t k e o (read states) goal_read terms (given _)

    -- .. or it is what another goal states of fresh placeholders for what that binds
    pub given_binding : IsGiven states → (f : Sort → ℕ → Leaf) (v vs u : Tree) → IsTermOf c (bound (more v vs) u) → IsClosed (bound (more v vs) u) → AreFresh (pair (deeply_resolved c e) (deeply_resolved c (bound (more v vs) u))) f → o ≡ unbound (opened f 0 u)
        → IsProvedFrom m mode A c e (bound (more v vs) u)
    given_binding given f v vs u kg all fresh same =
        opened_rule m mode A c s t k e ke read_closed v vs u f kg all fresh (read states)
        (ap read (one_statement states (opened f 0 u) (sym is ∙ same)) ∙ statement_reads m mode A c s t k e ke read_closed v vs u f kg all fresh) [] (λ q i. absurd i) (inr (given _))

-- so is a goal that a table knew before it was opened there
pub given_opened : (m : Meaning) (mode : Mode) (A : List Assumed) (c : Content) (s : IsSound c) (t : HoldsTerms c) (k : AreConstraintsOf c) (b : Content) (e g states : Tree) (ke : IsTermOf c e) (env : IsClosedThere e) → AreCurrent b → Continues b c → IsLevelled c → AreRegionsLevelled c
    → IsTermOf b e → IsTermOf b g → IsTermOf c g → IsTermOf c (opened_in b g) → (binds g ≡ true → IsClosed g) → opened_in b g ≡ unbound states → IsClosed states → IsGiven m mode A c s t k e ke env states → IsProvedFrom m mode A c e g
given_opened m mode A c s t k b e (node (label.List list.Binder) (more (node (label.List list.Sorts) (more v vs)) (more u empty))) states ke env now later l r te tg kg ko closed is all given =
    given_binding m mode A c s t k e ke env (unbound (opened (placeholder_in (b.universe + 1)) 0 u)) states is all ko given (placeholder_in (b.universe + 1)) v vs u kg (closed refl) (fresh_later b c e (bound (more v vs) u) te.knows tg.knows now later l r) refl
given_opened m mode A c s t k b e g states ke env now later l r te tg kg ko closed is all given = given_plain m mode A c s t k e ke env g states is all kg given

-- what a handler affirms, a rule gives
module _ (h : Handler) (V : ℕ → List Variance) (law : JudgementsAreKept h) (mode : Mode) (A : List Assumed) (c : Content) (s : IsSound c) (t : HoldsTerms c) (k : AreConstraintsOf c) (e : Tree) (ke : IsTermOf c e) (env : IsClosedThere e) where
  abbrev m : Meaning
  m = meaning h V

  abbrev there : Tree
  there = deeply_resolved c e

  is_there : instance_of (reading_of c s t) e ≡ there
  is_there = read_as m mode A c s t k e ke env e ke.knows ke.formed

  constant_read : (a : Constant) → instance_of (reading_of c s t) (leaf_tree (leaf.ConstConstant a)) ≡ leaf_tree (leaf.ConstConstant a)
  constant_read a = reading-leaf c s t (leaf.ConstConstant a)

  pub affirmed_given : (u : Tree) → Knows c u → IsFormed u → IsAffirmed h.judges e u → IsGiven m mode A c s t k e ke env u
  affirmed_given u n f (feature_allowed {f = i} x) P = (let j = h.judges in allowed (subst (λ z. j.allows z i ≡ true) is_there (law.allows e i (reading_of c s t) ke.formed x)))
  affirmed_given u n f (has_objects x) P = dyn_compatible x
  affirmed_given u n f (named_const {c = a}) P = subst (λ z. IsBuiltIn m (λ y. Unit {0}) (IsGranted c) P there (evaluatable z)) (sym (constant_read a)) constant_evaluated
  affirmed_given u n f value_const P = value_evaluated
  affirmed_given u n f error_const P = error_evaluated
  affirmed_given u n f error_type P = error_typed (inl (refl, λ i. tt))
  affirmed_given u n f (evaluated_const {i = i} {ts = ts} {v = v} q) P = alias_evaluated (subst (λ z. IsEvaluated h.judges z (instance_of (reading_of c s t) (alias (alias_of.Const i) ts))) is_there (instance_of (reading_of c s t) v, law.evaluates e (alias (alias_of.Const i) ts) v (reading_of c s t) (ke.formed, (f.1.0, tt)) q))

-- so the goal is proved
pub affirmed_proved : (h : Handler) (V : ℕ → List Variance) (law : JudgementsAreKept h) (mode : Mode) (A : List Assumed) (c : Content) (s : IsSound c) (t : HoldsTerms c) (k : AreConstraintsOf c) (b : Content) (e g : Tree) (ke : IsTermOf c e) (env : IsClosedThere e) → AreCurrent b → Continues b c → IsLevelled c → AreRegionsLevelled c
    → IsTermOf b e → IsTermOf b g → IsTermOf c g → IsTermOf c (opened_in b g) → (binds g ≡ true → IsClosed g) → SaysAffirmed h.judges e (opened_in b g) → IsProvedFrom (meaning h V) mode A c e g
affirmed_proved h V law mode A c s t k b e g ke env now later l r te tg kg ko closed says =
    let known : Knows c (unbound says.statement) = subst (Knows c) says.binds_nothing ko.knows in
    given_opened (meaning h V) mode A c s t k b e g says.statement ke env now later l r te tg kg ko closed says.binds_nothing says.closed (affirmed_given h V law mode A c s t k e ke env says.statement known.1.1.0 says.formed says.affirmed)
