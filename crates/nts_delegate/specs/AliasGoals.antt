-- Goals about aliases that handlers are asked: their parts are terms over the goal.
use Rattle.std.proofs.Common.{◌≡◌, ◌⊎◌, inl, inr, ◌||◌, false, List, [], ◌∷◌, Some, None, refl, ap, sym, subst, ◌∙◌}
use Rattle.nts_model.specs.declared.labels.Sort.{Sort}
use Rattle.nts_model.specs.declared.labels.Leaf.{Leaf}
use Rattle.nts_model.specs.declared.labels.AliasHead.{AliasHead}
use Rattle.nts_model.specs.declared.labels.ClauseHead.TheVariants as clause
use Rattle.nts_model.specs.declared.labels.PredicateHead.TheVariants as predicate
use Rattle.nts_model.specs.declared.labels.ListHead.TheVariants as list
use Rattle.nts_model.specs.declared.labels.Label.TheVariants as label
use Rattle.nts_model.specs.Terms.Trees.{Tree, empty, more, node, children, any_label, is_canonical, kind_of, of_sort, sort_of_alias, any_argument, a_result, AllFit, HavePlaces, IsRow, IsClosed, IsFormed}
use Rattle.nts_model.specs.Terms.Trees as trees
use Rattle.nts_model.specs.Terms.Substitutions.{Occurs, replace}
use Rattle.nts_model.specs.Derivations.Related.{pair, unbound}
use Rattle.nts_model.specs.Derivations.Rules.{statement_of, IsHandlers, normalization_goal}
use Rattle.nts_model.specs.Derivations.Handlers.{IsAsked, IsOver}
use Rattle.nts_model.proofs.Terms.Substituting.{no_children as no_places}
use Rattle.nts_terms.proofs.Standing.{args_tree}
use Rattle.nts_delegate.specs.ClauseHandlers.{AliasAsked, normalization_of, projection_of, projection_goal}
use Rattle.nts_delegate.specs.OwnTerms.{both_false, names_nothing}
use Rattle.nts_delegate.specs.HandlerLaws.{row_of, formed_goal, or_false}

-- what a goal says of an alias, where it is formed
pub record IsFormedAsked (w : AliasAsked) : Type 0 where
  pub row : IsRow w.parts
  pub fits : AllFit any_argument w.parts
  pub kind : kind_of w.term ≡ Some (of_sort (sort_of_alias w.head))

-- a goal that is asked normalizes an alias, or nothing
pub record IsNormalizing (g : Tree) : Type 0 where
  pub asked : AliasAsked
  pub formed : IsFormedAsked asked
  pub is : g ≡ normalization_goal asked.head asked.parts asked.term

pub record IsNoNormalizing (g : Tree) : Type 0 where
  pub none : normalization_of g ≡ None
  pub none_under : (f : Leaf → Tree) → normalization_of (replace f g) ≡ None

-- it is the goal of a projection, or of none
pub record IsProjecting (g : Tree) : Type 0 where
  pub asked : AliasAsked
  pub formed : IsFormedAsked asked
  pub is : g ≡ projection_goal asked.head asked.parts asked.term

pub record IsNoProjecting (g : Tree) : Type 0 where
  pub none : projection_of g ≡ None
  pub none_under : (f : Leaf → Tree) → projection_of (replace f g) ≡ None

-- a list of arguments and a term
pub record ArePartsOf (h : AliasHead) (ts : Tree) : Type 0 where
  pub parts : Tree
  pub term : Tree
  pub formed : IsFormedAsked (record { head = h; parts = parts; term = term })
  pub is : ts ≡ pair (node (label.List list.Args) parts) term

pub two_parts : (h : AliasHead) (ts : Tree) → HavePlaces (trees.is trees.arguments ∷ a_result h ∷ []) ts → IsFormed ts → ArePartsOf h ts
two_parts h empty p f = absurd p
two_parts h (more a empty) p f = absurd p.1
two_parts h (more a (more v e)) p f =
    let listed : a ≡ node (label.List list.Args) (children a) = args_tree a p.0 in
    let formed : IsFormed (node (label.List list.Args) (children a)) = rw listed at f.0 in
    record {
      parts = children a;
      term = v;
      formed = record { row = row_of (children a) formed.0; fits = formed.0; kind = p.1.0 };
      is = cc (listed, no_places e p.1.1);
    }
two_parts h (more a (node l c)) p f = absurd p.1
two_parts h (node l c) p f = absurd p

normalizing_shape : (s : Tree) → IsHandlers s → IsFormed s → IsNormalizing (unbound s) ⊎ IsNoNormalizing (unbound s)
normalizing_shape (node (label.Predicate (predicate.NormalizesTo i)) ts) h f =
    let a = two_parts i ts f.0 f.1 in
    inl (record { asked = record { head = i; parts = a.parts; term = a.term }; formed = a.formed; is = ap (λ x. unbound (node (label.Predicate (predicate.NormalizesTo i)) x)) a.is })
normalizing_shape (node (label.Clause (clause.Trait i)) ts) h f = inr (record { none = refl; none_under = λ g. refl })
normalizing_shape (node (label.Clause (clause.HostEffect i)) ts) h f = inr (record { none = refl; none_under = λ g. refl })
normalizing_shape (node (label.Clause (clause.Projection i)) ts) h f = inr (record { none = refl; none_under = λ g. refl })
normalizing_shape s h f = absurd h

projecting_shape : (s : Tree) → IsHandlers s → IsFormed s → IsProjecting (unbound s) ⊎ IsNoProjecting (unbound s)
projecting_shape (node (label.Clause (clause.Projection i)) ts) h f =
    let a = two_parts i ts f.0 f.1 in
    inl (record { asked = record { head = i; parts = a.parts; term = a.term }; formed = a.formed; is = ap (λ x. unbound (node (label.Clause (clause.Projection i)) x)) a.is })
projecting_shape (node (label.Clause (clause.Trait i)) ts) h f = inr (record { none = refl; none_under = λ g. refl })
projecting_shape (node (label.Clause (clause.HostEffect i)) ts) h f = inr (record { none = refl; none_under = λ g. refl })
projecting_shape (node (label.Predicate (predicate.NormalizesTo i)) ts) h f = inr (record { none = refl; none_under = λ g. refl })
projecting_shape s h f = absurd h

pub normalizes_or_not : (e g : Tree) → IsAsked e g → IsNormalizing g ⊎ IsNoNormalizing g
normalizes_or_not e g h = rw h.binds_nothing (normalizing_shape h.statement h.handlers (formed_goal e g h).1.0.1.1.0)

pub projects_or_not : (e g : Tree) → IsAsked e g → IsProjecting g ⊎ IsNoProjecting g
projects_or_not e g h = rw h.binds_nothing (projecting_shape h.statement h.handlers (formed_goal e g h).1.0.1.1.0)

-- the parts of a goal that is asked have no positions, and are over the goal
pub record AreAskedParts (e g : Tree) (w : AliasAsked) : Type 0 where
  pub environment : any_label is_canonical e ≡ false
  pub no_parts : any_label is_canonical w.parts ≡ false
  pub no_term : any_label is_canonical w.term ≡ false
  pub of_parts : (l : Leaf) → Occurs l w.parts → Occurs l (pair e g)
  pub of_term : (l : Leaf) → Occurs l w.term → Occurs l (pair e g)
  pub parts : (fresh : List Sort) → IsOver fresh e g w.parts
  pub term : (fresh : List Sort) → IsOver fresh e g w.term

record Lack (e us v : Tree) : Type 0 where
  environment : any_label is_canonical e ≡ false
  parts : any_label is_canonical us ≡ false
  term : any_label is_canonical v ≡ false

abbrev lacks_under : Tree → Tree → Type 0
lacks_under us v = ((any_label is_canonical us || (any_label is_canonical v || false)) || false) ≡ false

lack : (e g us v : Tree) → any_label is_canonical (pair e g) ≡ false → (any_label is_canonical g ≡ false → lacks_under us v) → Lack e us v
lack e g us v h under =
    let s = both_false (any_label is_canonical e) (any_label is_canonical (more g empty)) h in
    let both = or_false (any_label is_canonical us || (any_label is_canonical v || false)) (under (or_false (any_label is_canonical g) s.1)) in
    let two = both_false (any_label is_canonical us) (any_label is_canonical v || false) both in
    record { environment = s.0; parts = two.0; term = or_false (any_label is_canonical v) two.1 }

pub normalized_parts : (e : Tree) (h : AliasHead) (us v : Tree) → IsAsked e (normalization_goal h us v) → AreAskedParts e (normalization_goal h us v) (record { head = h; parts = us; term = v })
normalized_parts e h us v k =
    let said : node (label.Predicate (predicate.NormalizesTo h)) (pair (node (label.List list.Args) us) v) ≡ k.statement = ap statement_of k.binds_nothing in
    let closed : IsClosed (pair e (node (label.Predicate (predicate.NormalizesTo h)) (pair (node (label.List list.Args) us) v))) = rw (← said) at k.closed in
    let n = lack e (normalization_goal h us v) us v k.no_positions (λ x. x) in
    record {
      environment = n.environment;
      no_parts = n.parts;
      no_term = n.term;
      of_parts = λ l x. inr (inl (inr (inr (inl (inr (inl (inr x)))))));
      of_term = λ l x. inr (inl (inr (inr (inl (inr (inr (inl x)))))));
      parts = λ fresh. record {
        names = names_nothing fresh us n.parts;
        leaves = λ l x. inl (inr (inl (inr (inr (inl (inr (inl (inr x))))))));
        formed = k.formed.1.0.1.1.0.1.0.1;
        closed = closed.1.0.1.0.1;
        well_bound = k.well_bound.1.0.1.1.0.1.0.1;
      };
      term = λ fresh. record {
        names = names_nothing fresh v n.term;
        leaves = λ l x. inl (inr (inl (inr (inr (inl (inr (inr (inl x))))))));
        formed = k.formed.1.0.1.1.0.1.1.0;
        closed = closed.1.0.1.1.0;
        well_bound = k.well_bound.1.0.1.1.0.1.1.0;
      };
    }

pub projection_parts : (e : Tree) (h : AliasHead) (us v : Tree) → IsAsked e (projection_goal h us v) → AreAskedParts e (projection_goal h us v) (record { head = h; parts = us; term = v })
projection_parts e h us v k =
    let said : node (label.Clause (clause.Projection h)) (pair (node (label.List list.Args) us) v) ≡ k.statement = ap statement_of k.binds_nothing in
    let closed : IsClosed (pair e (node (label.Clause (clause.Projection h)) (pair (node (label.List list.Args) us) v))) = rw (← said) at k.closed in
    let n = lack e (projection_goal h us v) us v k.no_positions (λ x. x) in
    record {
      environment = n.environment;
      no_parts = n.parts;
      no_term = n.term;
      of_parts = λ l x. inr (inl (inr (inr (inl (inr (inl (inr x)))))));
      of_term = λ l x. inr (inl (inr (inr (inl (inr (inr (inl x)))))));
      parts = λ fresh. record {
        names = names_nothing fresh us n.parts;
        leaves = λ l x. inl (inr (inl (inr (inr (inl (inr (inl (inr x))))))));
        formed = k.formed.1.0.1.1.0.1.0.1;
        closed = closed.1.0.1.0.1;
        well_bound = k.well_bound.1.0.1.1.0.1.0.1;
      };
      term = λ fresh. record {
        names = names_nothing fresh v n.term;
        leaves = λ l x. inl (inr (inl (inr (inr (inl (inr (inr (inl x))))))));
        formed = k.formed.1.0.1.1.0.1.1.0;
        closed = closed.1.0.1.1.0;
        well_bound = k.well_bound.1.0.1.1.0.1.1.0;
      };
    }

-- .. by what it says that an alias normalizes to, or that a projection is
pub record IsAskedFor (e g : Tree) (w : AliasAsked) : Type 0 where
  pub formed : IsFormedAsked w
  pub parts : AreAskedParts e g w

some_asked : {v w : AliasAsked} → Some v ≡ Some w → v ≡ w
some_asked e = cc

none_asked : {w : AliasAsked} → None ≡ Some w → ⊥
none_asked e = cc

asked_as : {e g : Tree} {v w : AliasAsked} → v ≡ w → IsFormedAsked v → AreAskedParts e g v → IsAskedFor e g w
asked_as {e} {g} same f p = record { formed = subst IsFormedAsked same f; parts = subst (AreAskedParts e g) same p }

pub asked_to_normalize : (e g : Tree) (w : AliasAsked) → IsAsked e g → normalization_of g ≡ Some w → IsAskedFor e g w
asked_to_normalize e g w k n =
    elim (normalizes_or_not e g k) [
      | inl t ↦
          let v = t.asked in
          let parts = normalized_parts e v.head v.parts v.term (subst (IsAsked e) t.is k) in
          asked_as (some_asked (sym (ap normalization_of t.is) ∙ n)) t.formed (subst (λ z. AreAskedParts e z v) (sym t.is) parts)
      | inr o ↦ absurd (none_asked (sym o.none ∙ n))
    ]

pub asked_to_project : (e g : Tree) (w : AliasAsked) → IsAsked e g → projection_of g ≡ Some w → IsAskedFor e g w
asked_to_project e g w k n =
    elim (projects_or_not e g k) [
      | inl t ↦
          let v = t.asked in
          let parts = projection_parts e v.head v.parts v.term (subst (IsAsked e) t.is k) in
          asked_as (some_asked (sym (ap projection_of t.is) ∙ n)) t.formed (subst (λ z. AreAskedParts e z v) (sym t.is) parts)
      | inr o ↦ absurd (none_asked (sym o.none ∙ n))
    ]
