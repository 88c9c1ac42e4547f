-- What follows from premises of which each has a derivation, and aliases that stand for themselves.
use Rattle.std.proofs.Common.{◌≡◌, ◌⊎◌, inl, inr, ⊎_elim, false, List, [], ◌∷◌, refl, sym, ◌∙◌, arith, subst}
use Rattle.nts_model.specs.declared.labels.Variance.TheVariants as variance
use Rattle.nts_model.specs.declared.labels.AliasRelationDirection.TheVariants as direction
use Rattle.nts_model.specs.declared.labels.ClauseHead.TheVariants as clause
use Rattle.nts_model.specs.declared.labels.PredicateHead.TheVariants as predicate
use Rattle.nts_model.specs.declared.labels.AliasHead.{AliasHead}
use Rattle.nts_model.specs.declared.labels.AliasHead.TheVariants as alias_of
use Rattle.nts_model.specs.declared.labels.Label.TheVariants as label
use Rattle.nts_model.specs.Terms.Trees.{Tree, empty, node, kind_of, any_label, is_canonical, IsClosed, any_term, FitsPlace, IsFormed}
use Rattle.nts_model.specs.Terms.Substitutions.{Instance, instance_of}
use Rattle.nts_model.specs.Derivations.Related.{Constraint, pair, alias_goal, alias, AreRelatedByArgument}
use Rattle.nts_model.specs.Lists.{Among}
use Rattle.nts_model.specs.Derivations.Sequents.{PathKind, coinductive, unknown, inductive, forced_ambiguity, Premise, Hidden, Sequent, HasClosedStatement, HasClosedStatements, AreOneBy, constraint_under, IsTrivial, Grants}
use Rattle.nts_model.specs.Derivations.Rules.{Meaning, Mode, goal_kind, proof_kind, statement_of, KeepsAliases, relating, aliases_relate}
use Rattle.nts_model.specs.Derivations.Proofs.{Serves, passed, Derives, DerivesAll, by_rule, all_derived, by_derivation, IsTree, AreTrees}
use Rattle.nts_model.proofs.Terms.Substituting.{closed_under_more}
use Rattle.nts_theory.proofs.Derivations.Monotone.{are_related_more}
use Rattle.nts_theory.proofs.Derivations.Flattening.{joined, among_left, among_right, among_joined}
use Rattle.nts_model.proofs.Terms.Composing.{itself, instance_of-itself}
use Rattle.nts_model.proofs.Terms.Identified.{one_itself}
use Rattle.nts_model.proofs.Terms.Unpositioned.{false_or, pair_no_positions, IsFormedTerm, term_formed, term_no_positions, term_well_bound}
use Rattle.nts_model.proofs.Terms.Scoping.{closed_listed}
use Rattle.nts_model.specs.Terms.Scoping.{IsWellBound}
use Rattle.nts_theory.proofs.Derivations.ClosedStatements.{closed_unbound}

-- whether a statement keeps its aliases
pub keeps_or_not : (t : Tree) → KeepsAliases t ⊎ (KeepsAliases t → ⊥)
keeps_or_not (node (label.Clause clause.WellFormed) ts) = inl tt
keeps_or_not (node (label.Clause (clause.UnstableFeature f)) ts) = inl tt
keeps_or_not (node (label.Predicate (predicate.AliasRelate d)) ts) = inl tt
keeps_or_not (node (label.Predicate (predicate.NormalizesTo i)) ts) = inl tt
keeps_or_not t = inr (λ h. h)

-- without assumptions a step leads to none
passed_tree : {m : Meaning} {mode : Mode} (k : PathKind) (s : Sequent) (d : Derives m mode [] s) → IsTree d → (x : Derives m mode (passed k []) s) × IsTree x
passed_tree coinductive s d t = (d, t)
passed_tree unknown s d t = (d, t)
passed_tree inductive s d t = (d, t)
passed_tree forced_ambiguity s d t = (d, t)

-- premises in an environment, from some constraints
module _ (m : Meaning) (mode : Mode) (e : Tree) (cs : List Constraint) where
  abbrev pub sequent_of : Tree → Sequent
  sequent_of p = record { environment = e; predicate = p; constraints = cs; hidden = []; open_goals = [] }

  -- an instance of what is derived serves the premise, from no more than these constraints
  pub record IsServed (p : Premise) : Type 0 where
    pub sequent : Sequent
    pub instance : Instance
    pub derivation : Derives m mode [] sequent
    pub tree : IsTree derivation
    pub environment : AreOneBy cs (instance_of instance sequent.environment) p.environment
    pub predicate : AreOneBy cs (instance_of instance sequent.predicate) p.predicate
    pub constraints : (x : Constraint) → Among sequent.constraints x → IsTrivial (constraint_under instance x) ⊎ Among cs (constraint_under instance x)
    pub hidden : (h : Hidden) → Among sequent.hidden h → AreOneBy cs (instance_of instance h.key) (instance_of instance h.hidden_type)
    pub open_goals : (g : Premise) → Among sequent.open_goals g → ⊥

  pub served_serves : (p : Tree) (all : List Premise) (q : Premise) (x : IsServed q) → Serves (sequent_of p) (Among all) x.instance x.sequent q
  served_serves p all q x =
      record {
        environment = x.environment;
        predicate = x.predicate;
        constraints = x.constraints;
        hidden = λ h i. inl (x.hidden h i);
        open_goals = λ g i. absurd (x.open_goals g i);
      }

  pub derive_all : (p : Tree) (all qs : List Premise) → ((q : Premise) → Among qs q → IsServed q) → (d : DerivesAll m mode [] (sequent_of p) all qs) × AreTrees d
  derive_all p all [] h = (all_derived, tt)
  derive_all p all (q ∷ qs) h =
      let x : IsServed q = h q (inl refl) in
      let d = passed_tree (proof_kind (goal_kind m p) q.source) x.sequent x.derivation x.tree in
      let rest = derive_all p all qs (λ r i. h r (inr i)) in
      (by_derivation x.instance d.0 (served_serves p all q x) rest.0, (d.1, rest.1))

  -- what follows from finitely many premises that are served
  pub record Owes (X : (Premise → Type 0) → Type 0) : Type 0 where
    pub premises : List Premise
    pub served : (q : Premise) → Among premises q → IsServed q
    pub holds : X (Among premises)

  abbrev pub Grows : ((Premise → Type 0) → Type 0) → Type 1
  Grows X = (P Q : Premise → Type 0) → ((q : Premise) → P q → Q q) → X P → X Q

  pub owes_none : (X : (Premise → Type 0) → Type 0) → ((P : Premise → Type 0) → X P) → Owes X
  owes_none X x = record { premises = []; served = λ q i. absurd i; holds = x (Among []) }

  pub owes_then : (X Y : (Premise → Type 0) → Type 0) → ((P : Premise → Type 0) → X P → Y P) → Owes X → Owes Y
  owes_then X Y f o = record { premises = o.premises; served = o.served; holds = f (Among o.premises) o.holds }

  pub owes_both : (X Y : (Premise → Type 0) → Type 0) → Grows X → Grows Y → Owes X → Owes Y → Owes (λ P. X P × Y P)
  owes_both X Y f g a b =
      record {
        premises = joined a.premises b.premises;
        served = λ q i. ⊎_elim (a.served q) (b.served q) (among_joined a.premises b.premises q i);
        holds = (
          f (Among a.premises) (Among (joined a.premises b.premises)) (λ q i. among_left a.premises b.premises q i) a.holds,
          g (Among b.premises) (Among (joined a.premises b.premises)) (λ q i. among_right a.premises b.premises q i) b.holds,
        );
      }

  pub owes_one : (q : Premise) → IsServed q → Owes (λ P. P q)
  owes_one q x = record { premises = q ∷ []; served = λ r i. ⊎_elim (λ s. subst IsServed (sym s) x) (λ h. absurd h) i; holds = inl refl }

-- a premise about aliases
abbrev pub OfAliases : Tree → (Premise → Type 0) → Tree → Type 0
OfAliases e P g = KeepsAliases (statement_of g) × P (relating e g)

-- an environment of closed terms
pub record IsClosedEnvironment (e : Tree) : Type 0 where
  pub closed : IsClosed e
  pub no_positions : any_label is_canonical e ≡ false
  pub well_bound : IsWellBound e
  pub statements : HasClosedStatements e

-- an alias that relates to itself or to one like it
module _ (m : Meaning) (mode : Mode) (e : Tree) (cs : List Constraint) (formed : IsFormed e) (closed : IsClosedEnvironment e)
    (read : (x : Constraint) → Among cs x → constraint_under itself x ≡ x) where
  -- arguments that are related
  abbrev pub AreArgumentsRelated : Tree → Tree → (Premise → Type 0) → Type 0
  AreArgumentsRelated ts us P = AreRelatedByArgument m.variances (λ t. Unit {0}) (Grants (sequent_of m mode e cs empty)) (OfAliases e P) variance.Invariant [] ts us

  served_itself : (p : Tree) (q : Premise) → IsFormed p → q.environment ≡ e → q.predicate ≡ p → (d : Derives m mode [] (sequent_of m mode e cs p)) → IsTree d → IsServed m mode e cs q
  served_itself p q f x y d t =
      record {
        sequent = sequent_of m mode e cs p;
        instance = itself;
        derivation = d;
        tree = t;
        environment = one_itself cs _ _ (instance_of-itself e formed ∙ sym x);
        predicate = one_itself cs _ _ (instance_of-itself p f ∙ sym y);
        constraints = λ c i. inr (subst (Among cs) (sym (read c i)) i);
        hidden = λ h i. absurd i;
        open_goals = λ g i. absurd i;
      }

  alias_argument : (h : AliasHead) (ts : Tree) → FitsPlace any_term (kind_of (alias h ts))
  alias_argument (alias_of.Ty i) ts = λ x. cc x
  alias_argument (alias_of.Const i) ts = λ x. cc x

  alias_goal_formed : (h : AliasHead) (ts us : Tree) → IsFormed (alias h ts) → IsFormed (alias h us) → IsFormed (alias_goal variance.Invariant (alias h ts) (alias h us))
  alias_goal_formed h ts us f g =
      ((refl, (refl, tt)), ((tt, tt), (((alias_argument h ts, (alias_argument h us, tt)), (f, (g, tt))), tt)))

  alias_goal_closed : (h : AliasHead) (ts us : Tree) → IsClosed (alias h ts) → IsClosed (alias h us) → IsClosed (alias_goal variance.Invariant (alias h ts) (alias h us))
  alias_goal_closed h ts us f g =
      (tt, ((tt, tt), ((tt, (closed_under_more 0 1 (alias h ts) (omega arith) f, (closed_under_more 0 1 (alias h us) (omega arith) g, tt))), tt)))

  alias_goal_no_positions : (h : AliasHead) (ts us : Tree) → IsFormedTerm (alias h ts) → IsFormedTerm (alias h us) → any_label is_canonical (alias_goal variance.Invariant (alias h ts) (alias h us)) ≡ false
  alias_goal_no_positions h ts us f g =
      let inner = pair_no_positions (alias h ts) (alias h us) (term_no_positions (alias h ts) f) (term_no_positions (alias h us) g) in
      false_or (any_label is_canonical (pair (alias h ts) (alias h us))) false inner refl

  alias_goal_well_bound : (h : AliasHead) (ts us : Tree) → IsFormedTerm (alias h ts) → IsFormedTerm (alias h us) → IsClosed (alias h ts) → IsClosed (alias h us) → IsWellBound (alias_goal variance.Invariant (alias h ts) (alias h us))
  alias_goal_well_bound h ts us f g i j = (
    (((tt, tt), ((tt, (closed_listed empty 0 (alias h ts) i, (closed_listed empty 0 (alias h us) j, tt))), tt))),
    ((tt, tt), ((tt, (term_well_bound (alias h ts) f, (term_well_bound (alias h us) g, tt))), tt)),
  )

  alias_goal_statement : (h : AliasHead) (ts us : Tree) → IsClosed (alias h ts) → IsClosed (alias h us) → HasClosedStatement (alias_goal variance.Invariant (alias h ts) (alias h us))
  alias_goal_statement h ts us f g = closed_unbound (node (label.Predicate (predicate.AliasRelate direction.Equate)) (pair (alias h ts) (alias h us))) (tt, (f, (g, tt)))

  -- aliases of one head whose arguments are related
  pub aliases_served : (h : AliasHead) (ts us : Tree) (q : Premise) → IsFormedTerm (alias h ts) → IsFormedTerm (alias h us) → IsClosed (alias h ts) → IsClosed (alias h us)
      → q.environment ≡ e → q.predicate ≡ alias_goal variance.Invariant (alias h ts) (alias h us)
      → Owes m mode e cs (AreArgumentsRelated ts us) → IsServed m mode e cs q
  aliases_served h ts us q f g i j x y o =
      let goal = alias_goal variance.Invariant (alias h ts) (alias h us) in
      let statement = node (label.Predicate (predicate.AliasRelate direction.Equate)) (pair (alias h ts) (alias h us)) in
      let all = derive_all m mode e cs goal o.premises o.premises o.served in
      let whole : IsFormed goal = alias_goal_formed h ts us (term_formed (alias h ts) f) (term_formed (alias h us) g) in
      served_itself goal q whole x y
      (by_rule o.premises
      (record {
        formed = (formed, (whole, tt));
        closed = (closed.closed, (alias_goal_closed h ts us i j, tt));
        no_positions = pair_no_positions e goal closed.no_positions (alias_goal_no_positions h ts us f g);
        well_bound = (closed.well_bound, (alias_goal_well_bound h ts us f g i j, tt));
        statement = alias_goal_statement h ts us i j;
        statements = closed.statements;
      })
      (inl (
        statement,
        refl,
        inr (aliases_relate (alias h ts) (alias h us) (inl (refl, λ z. tt)) (inl (refl, λ z. tt))
            (inr (h, ts, us, refl, refl, inl (are_related_more (λ t z. inl (z.0, inl z.1)) o.holds)))),
      ))
      all.0)
      all.1
