-- Terms that were made one with other ones: the fresh term of a goal that normalizes an alias, and a variable that was made an alias.
use Rattle.std.proofs.Common.{◌≡◌, inl, ℕ, List, [], ◌∷◌, refl, subst}
use Rattle.nts_variance_model.specs.Variances.Relations.{Relating}
use Rattle.std.specs.Prelude.{map}
use Rattle.nts_model.specs.declared.labels.Variance.{Variance}
use Rattle.nts_model.specs.declared.labels.Variance.TheVariants as variance
use Rattle.nts_model.specs.declared.labels.AliasHead.{AliasHead}
use Rattle.nts_model.specs.declared.labels.AliasRelationDirection.{AliasRelationDirection}
use Rattle.nts_model.specs.declared.labels.PredicateHead.TheVariants as predicate
use Rattle.nts_model.specs.declared.labels.ListHead.TheVariants as list
use Rattle.nts_model.specs.declared.labels.Label.TheVariants as label
use Rattle.nts_model.specs.Terms.Trees.{Tree, node, kind_of, IsClosed}
use Rattle.nts_model.specs.Tables.Contents.{Content}
use Rattle.nts_model.specs.Tables.Resolving.{IsSound, deeply_resolved}
use Rattle.nts_model.specs.Tables.Holding.{Continues}
use Rattle.nts_model.specs.Tables.Alike.{AreAlike, one_tree}
use Rattle.nts_model.specs.Derivations.Sequents.{Premise}
use Rattle.nts_model.specs.Derivations.Rules.{Meaning, Mode, GoalKind, relating, normalization_goal, variance_of}
use Rattle.nts_model.specs.Derivations.Proofs.{Assumed}
use Rattle.nts_model.specs.Derivations.Proving.{HoldsTerms, IsTermOf, AreConstraintsOf}
use Rattle.nts_model.specs.Searching.Stacks.{IsProvedFrom, IsProvedWith}
use Rattle.nts_variance_model.specs.Variances.AnsweredGoals.{AllAnswered, RelatesBy}
use Rattle.nts_theory.proofs.Derivations.Served.{IsClosedEnvironment}
use Rattle.nts_theory.proofs.Aliases.ByRelating.{about, about_alike, proved_alike, IsAnsweredGoal, is_answered, IsNormalized, IsSide, EachAnswered, AreSidesRelated, alias_relate_proved}
use Rattle.nts_theory.proofs.Aliases.WithCandidate.{AreAddedTo, IsRelatedWith}

-- a goal that normalizes an alias to a term, for one alike
pub normalization_alike : (c : Content) (h : AliasHead) (ts v w : Tree) → AreAlike c v w → AreAlike c (normalization_goal h ts v) (normalization_goal h ts w)
normalization_alike c h ts v w al = about_alike c (predicate.NormalizesTo h) (node (label.List list.Args) ts) v (node (label.List list.Args) ts) w one_tree al

pub normalized_alike : (m : Meaning) (mode : Mode) (A : List Assumed) (c : Content) (e : Tree) (h : AliasHead) (ts v w : Tree) (gs : List Premise) → IsSound c → AreAlike c v w
    → IsProvedWith m mode A c e (normalization_goal h ts v) gs → IsProvedWith m mode A c e (normalization_goal h ts w) gs
normalized_alike m mode A c e h ts v w gs s al x = proved_alike m mode A c e (normalization_goal h ts v) (normalization_goal h ts w) gs s (normalization_alike c h ts v w al) x

pub answered_alike : (m : Meaning) (mode : Mode) (A : List Assumed) (c : Content) (e : Tree) (h : AliasHead) (ts v w : Tree) → IsSound c → AreAlike c v w
    → IsAnsweredGoal m mode A c (relating e (normalization_goal h ts v)) → IsAnsweredGoal m mode A c (relating e (normalization_goal h ts w))
answered_alike m mode A c e h ts v w s al (is_answered gs falls x opens) = is_answered gs falls (normalized_alike m mode _ c e h ts v w gs s al x) opens

module _ (m : Meaning) (mode : Mode) (A : List Assumed) (c : Content) (s : IsSound c) (t : HoldsTerms c) (cons : AreConstraintsOf c) (e : Tree) (ke : IsTermOf c e) (closed : IsClosedEnvironment (deeply_resolved c e)) where
  -- the normal form of an alias, for one alike
  pub normal_alike : (a v w : Tree) → AreAlike c v w → IsTermOf c w → IsClosed w → kind_of w ≡ kind_of v → IsNormalized m mode A c s t cons e ke closed a v → IsNormalized m mode A c s t cons e ke closed a w
  normal_alike a v w al term ends kind n =
      let x = n.found in
      let k = n.kind in
      record { found = x; term = term; ends = ends; kind = subst (λ y. kind_of w ≡ y) k kind; known = n.known; goal = answered_alike m mode A c e x.head x.parts v w s al n.goal }

  -- AliasRelate where the right side, and then the left one, is a variable that was made alike an alias
  pub right_alike : (d : AliasRelationDirection) (ks : List Tree) (a b r u w : Tree) → IsTermOf c (about (predicate.AliasRelate d) a w) → IsClosed a → IsClosed w → AreAlike c w b
      → IsSide m mode A c s t cons e ke closed a r → EachAnswered m mode A c s t cons e ke closed ks → AreSidesRelated m mode A c s t cons e ke closed ks (variance_of d) r w → IsProvedFrom m mode A c e (about (predicate.AliasRelate d) a b)
  right_alike d ks a b r u w kg ca cw al left each related =
      proved_alike m mode A c e (about (predicate.AliasRelate d) a w) (about (predicate.AliasRelate d) a b) [] s (about_alike c (predicate.AliasRelate d) a w a b one_tree al)
      (alias_relate_proved m mode A c s t cons e ke closed d ks a w r w kg ca cw left (inl refl) each related)

  pub left_alike : (d : AliasRelationDirection) (ks : List Tree) (a b u w : Tree) → IsTermOf c (about (predicate.AliasRelate d) w b) → IsClosed w → IsClosed b → AreAlike c w a
      → IsSide m mode A c s t cons e ke closed b u → EachAnswered m mode A c s t cons e ke closed ks → AreSidesRelated m mode A c s t cons e ke closed ks (variance_of d) w u → IsProvedFrom m mode A c e (about (predicate.AliasRelate d) a b)
  left_alike d ks a b u w kg cw cb al right each related =
      proved_alike m mode A c e (about (predicate.AliasRelate d) w b) (about (predicate.AliasRelate d) a b) [] s (about_alike c (predicate.AliasRelate d) w b a b al one_tree)
      (alias_relate_proved m mode A c s t cons e ke closed d ks w b w u kg cw cb (inl refl) right each related)

-- an equation that was related in an earlier table holds under a later one in which the goals that were left are answered
pub related_later : (M : Premise → Type 0) (V : ℕ → List Variance) (d c : Content) (z : GoalKind) (e a b : Tree) (owed : List Relating) (goals : List Tree) → IsSound c → Continues d c
    → RelatesBy V d (record { variance = variance.Invariant; left = a; right = b } ∷ []) [] owed → AllAnswered c (map (deeply_resolved c) goals) owed → AreAddedTo M c z e goals → IsTermOf c a → IsTermOf c b → IsRelatedWith M V c z e a b
related_later M V d c z e a b owed goals s on r h added ta tb =
    record { left = ta; right = tb; goals = goals; added = added; related = (r.related c s on (map (deeply_resolved c) goals) h tt).0 }
