-- Goals that an alias is equal to a term, or that the one is a subtype of the other, hold where what is left of them does.
-- that they hold where it does.
use Rattle.std.proofs.Common.{◌≡◌, ◌⊎◌, inl, inr, ⊎_elim, true, List, [], ◌∷◌, Some, refl, sym, ap, ◌∙◌, subst}
use Rattle.nts_model.specs.declared.labels.AliasRelationDirection.TheVariants as direction
use Rattle.nts_model.specs.declared.labels.PredicateHead.TheVariants as predicate_head
use Rattle.nts_model.specs.declared.labels.Variance.TheVariants as variance
use Rattle.nts_model.specs.Terms.Trees.{Tree, kind_of, IsClosed, IsFormed}
use Rattle.nts_model.specs.Tables.Contents.{Content}
use Rattle.nts_model.specs.Tables.Resolving.{Knows, IsSound, deeply_resolved}
use Rattle.nts_model.specs.Tables.Levels.{IsLevelled, AreRegionsLevelled, AreCurrent}
use Rattle.nts_model.specs.Tables.Holding.{Continues}
use Rattle.nts_model.specs.Lists.{Among}
use Rattle.nts_model.specs.Derivations.Related.{IsAlias, one_tree}
use Rattle.nts_model.specs.Derivations.Sequents.{Premise}
use Rattle.nts_model.specs.Derivations.Rules.{Meaning, Mode, relating, normalization_goal}
use Rattle.nts_model.specs.Derivations.Proofs.{Assumed}
use Rattle.nts_model.proofs.Tables.Held.{Continues-refl}
use Rattle.nts_model.specs.Derivations.Proving.{HoldsTerms, AreConstraintsOf, IsTermOf}
use Rattle.nts_model.specs.Searching.Stacks.{IsProvedFrom}
use Rattle.nts_model.specs.Refutation.Opening.{binds, opened_in}
use Rattle.nts_theory.specs.Aliasing.{alias_relation}
use Rattle.nts_theory.proofs.Derivations.Served.{IsClosedEnvironment}
use Rattle.nts_theory.proofs.Aliases.ByEngine.{IsClosedThere, read_closed}
use Rattle.nts_theory.proofs.Aliases.ByRelating.{is_answered, no_goals, IsSide, relation_follows}
use Rattle.nts_store.specs.Formed.{AreFormed}
use Rattle.nts_store.specs.Growth.{tree_at}
use Rattle.nts_store.proofs.Growing.{Extends-trans}
use Rattle.nts_certainty.specs.declared.sources.GoalSource.{GoalSource}
use Rattle.nts_certainty.specs.declared.sources.GoalSource.TheVariants as source
use Rattle.nts_terms.specs.declared.handles.Goal.{Goal}
use Rattle.nts_terms.specs.declared.handles.ParamEnv.{ParamEnv}
use Rattle.nts_table.specs.Tables.{Table}
use Rattle.nts_unify.specs.Reading.{content_of}
use Rattle.nts_meaning.specs.Evaluation.{Goes, IsPosed}
use Rattle.nts_meaning.specs.Running.{StaysProved}
use Rattle.nts_meaning.proofs.Running.{term_table}
use Rattle.nts_store.proofs.Growing.{IsIn-extended}
use Rattle.nts_meaning.proofs.Evaluating.{Knows-goes}
use Rattle.nts_trying.specs.Aliasing.{LeavesOne, LeavesTwo, NormalizesAlone, NormalizesTogether, IsNormalizedBy}
use Rattle.nts_trying.proofs.SubtypeGoals.{relating_proved}
use Rattle.std.proofs.Common.{◌++◌, Option, None}
use Rattle.nts_model.specs.declared.labels.Sort.TheVariants as sort
use Rattle.nts_model.specs.Terms.Trees.{of_sort}
use Rattle.nts_model.specs.Derivations.Related.{subtype_goal, subtypes}
use Rattle.nts_model.proofs.Tables.Kept.{kind_of-deeply_resolved}
use Rattle.nts_model.proofs.Tables.ResolvedTerms.{IsClosed-deeply_resolved}
use Rattle.nts_variance_model.specs.Variances.AnsweredGoals.{RelatedUnder}
use Rattle.nts_theory.proofs.Aliases.ByRelating.{resolved_about}
use Rattle.nts_trying.specs.Aliasing.{normals, StandsFor, IsResultIn, LeavesLesser, IsKnownAs, NormalizesBelow}
use Rattle.nts_trying.specs.declared.lesser.Side.{Side}
use Rattle.nts_trying.proofs.NormalGoals.{sides_of, sides_known, normal_held}
use Rattle.nts_trying.proofs.LesserGoals.{subtype_known}
use Rattle.nts_trying.proofs.SubtypeGoals.{goal_stands}

-- where the goals that are left are proved, the goal is normalized by them
pub left_normal : {a b : List Tree} {t u : Table} (g : Goal) (left : List (GoalSource × Goal)) (m : Meaning) (mode : Mode) (A : List Assumed) (d : List Tree) (w : Table) → IsPosed a t g → Goes a b t u → LeavesOne a b g left ⊎ LeavesTwo a b u g left ⊎ LeavesLesser a b u g left → AreFormed d → Goes b d u w
    → ((x : GoalSource × Goal) → Among left x → StaysProved m mode A d w x.1) → IsNormalizedBy m mode A (content_of d w.entries) (tree_at a g.param_env.node) (tree_at a g.predicate.node)
left_normal {a} g left m mode A d w posed goes (inl l) grown later proved =
    let is = l.is in
    let y = is.alias in
    inl (record { premise = relating (tree_at a g.param_env.node) (normalization_goal y.head y.parts l.term); side = record { left = l.alias; right = l.term; is = is; premise = refl }; ends = l.ends; proved = normal_held posed goes l.goal y l.ends grown later (proved (source.TypeRelating, l.normal) (rw l.are (inl refl))) })
left_normal {a} {b} {t} {u} g left m mode A d w posed goes (inr (inl l)) grown later proved =
    let is = l.is in
    let kept = later.extends.kept l.variable l.within in
    inr (inl (record {
      left = l.alias;
      right = l.other;
      is = is;
      term = tree_at b l.variable;
      known = record { knows = Knows-goes (tree_at b l.variable) later l.knows; formed = subst IsFormed kept (grown l.variable (IsIn-extended later.extends l.variable l.within)) };
      ends = l.ends;
      kind = l.kind;
      first = normal_held posed goes l.goal is.left l.ends grown later (proved (source.TypeRelating, l.first) (rw l.are (inl refl)));
      second = normal_held posed goes l.other_goal is.right l.ends grown later (proved (source.TypeRelating, l.second) (rw l.are (inr (inl refl))));
    }))
left_normal {a} {b} {t} {u} g left m mode A d w posed goes (inr (inr l)) grown later proved =
    let first = l.first in
    let second = l.second in
    let one = l.of_sub in
    let two = l.of_sup in
    let own = first.result in
    let other = second.result in
    let known = subtype_known (content_of d w.entries) (tree_at b own.node) (tree_at b other.node) one.ends two.ends (Knows-goes (tree_at b own.node) later one.knows) (Knows-goes (tree_at b other.node) later two.knows) in
    let x : GoalSource × Goal = (source.TypeRelating, l.lesser) in
    let goal = l.lesser in
    let all = Extends-trans goes.extends later.extends in
    let kept : tree_at d goal.predicate.node ≡ subtype_goal true variance.Covariant (tree_at b own.node) (tree_at b other.node) = (let h = l.holds in later.extends.kept goal.predicate.node h.within ∙ l.says) in
    let env : tree_at d goal.param_env.node ≡ tree_at a g.param_env.node = ap (λ (z : ParamEnv). tree_at d z.node) l.environment ∙ all.kept g.param_env.node posed.holds.env.within in
    let there = term_table grown later.table in
    let k = content_of d w.entries in
    inr (inr (record {
      left = l.sub;
      right = l.sup;
      is = l.is;
      left_closed = l.sub_closed;
      right_closed = l.sup_closed;
      first = tree_at b own.node;
      second = tree_at b other.node;
      first_closed = one.ends;
      second_closed = two.ends;
      first_type = (let h = one.result in h.fits);
      second_type = (let h = two.result in h.fits);
      of_left = known_as (let is = l.is in is.left) first one (λ n e. proved (source.TypeRelating, n) (rw l.are (in_first first.normal n _ e)));
      of_right = known_as (let is = l.is in is.right) second two (λ n e. proved (source.TypeRelating, n) (rw l.are (in_rest first.normal _ _ (in_first second.normal n _ e))));
      known = record { knows = known; formed = subst IsFormed kept (grown goal.predicate.node (let h = l.holds in IsIn-extended later.extends goal.predicate.node h.within)) };
      proved = rw (env, kept) at (let one = proved x (rw l.are (in_rest first.normal _ _ (in_rest second.normal _ _ (inl refl)))) in one.later k there (Continues-refl k there.sound));
    }))
  where
    known_as : {x : Tree} → kind_of x ≡ Some (of_sort sort.Ty) → (s : Side) → IsResultIn a b u g x s → ((n : Goal) → s.normal ≡ Some n → StaysProved m mode A d w n) → IsKnownAs m mode A (content_of d w.entries) (tree_at a g.param_env.node) x (let r = s.result in tree_at b r.node)
    known_as {x} type s r each = by_normal s.normal refl r.stands
      where
        by_normal : (n : Option Goal) → s.normal ≡ n → StandsFor a b g x (let r = s.result in tree_at b r.node) n → IsKnownAs m mode A (content_of d w.entries) (tree_at a g.param_env.node) x (let r = s.result in tree_at b r.node)
        by_normal None same stands = inl stands.1
        by_normal (Some n) same stands =
            let t = s.result in
            let h = r.result in
            let kept = later.extends.kept t.node h.within in
            inr (record {
              is = stands.0;
              known = record { knows = Knows-goes (tree_at b t.node) later r.knows; formed = subst IsFormed kept (grown t.node (IsIn-extended later.extends t.node h.within)) };
              kind = h.fits ∙ sym type;
              proved = normal_held posed goes stands.1 stands.0 r.ends grown later (each n same);
            })

    in_first : (n : Option Goal) (y : Goal) (rest : List (GoalSource × Goal)) → n ≡ Some y → Among (normals n ++ rest) (source.TypeRelating, y)
    in_first (Some z) y rest e = inl (ap (λ v. (source.TypeRelating, v)) (some_same z y e))
      where
        some_same : (z y : Goal) → Some z ≡ Some y → y ≡ z
        some_same z y e = cc e
    in_first None y rest e = absurd (cc e)

    in_rest : (n : Option Goal) (rest : List (GoalSource × Goal)) (y : GoalSource × Goal) → Among rest y → Among (normals n ++ rest) y
    in_rest (Some z) rest y i = inr i
    in_rest None rest y i = i

-- the goal is proved where what is left of it is, once it is opened or as it stands
module _ (m : Meaning) (mode : Mode) (A : List Assumed) (c : Content) (s : IsSound c) (t : HoldsTerms c) (k : AreConstraintsOf c) (b : Content) (e g : Tree) (now : AreCurrent b) (later : Continues b c) (levelled : IsLevelled c) (regions : AreRegionsLevelled c) (te : IsTermOf b e) (tg : IsTermOf b g)
    (ke : IsTermOf c e) (kg : IsTermOf c g) (ko : IsTermOf c (opened_in b g)) (env : IsClosedThere e) (ends : binds g ≡ true → IsClosed g) where
  abbrev closed_here : IsClosedEnvironment (deeply_resolved c e)
  closed_here = read_closed m mode A c s t k e ke env

  side_normal : (a x : Tree) (y : IsAlias a) → kind_of x ≡ kind_of a → IsTermOf c a → IsTermOf c x → IsClosed x → IsProvedFrom m mode A c e (normalization_goal y.head y.parts x) → IsSide m mode A c s t k e ke closed_here a x
  side_normal a x y kind ka kx cx proved =
      inr (record { found = y; term = kx; ends = cx; kind = kind; known = ka.knows; goal = is_answered [] (λ z. cc) proved no_goals })

  alone_proved : NormalizesAlone m mode A c e (opened_in b g) → IsProvedFrom m mode A c e g
  alone_proved n = ⊎_elim by_left by_right (let x = n.side in let is = x.is in is.says)
    where
      terms : (let side = n.side in IsTermOf c side.left × IsTermOf c side.right)
      terms =
          let side = n.side in
          let is = side.is in
          let known = sides_known c (opened_in b g) side.left side.right is ko.knows in
          let formed = sides_of IsFormed (λ d y z h. (h.1.1.0.1.0, h.1.1.0.1.1.0)) (opened_in b g) side.left side.right is ko.formed in
          (record { knows = known.0; formed = formed.0 }, record { knows = known.1; formed = formed.1 })

      normal : (let side = n.side in IsSide m mode A c s t k e ke closed_here side.left side.right)
      normal =
          let side = n.side in
          let is = side.is in
          side_normal side.left side.right is.alias is.kind terms.0 terms.1 n.ends (subst (λ (p : Premise). IsProvedFrom m mode A c e p.predicate) side.premise n.proved)

      alias_closed : (let side = n.side in IsClosed side.left)
      alias_closed = (let side = n.side in let is = side.is in let y = is.alias in y.closed)

      by_left : (let side = n.side in (let is = side.is in opened_in b g ≡ alias_relation is.by side.left side.right)) → IsProvedFrom m mode A c e g
      by_left q =
          let side = n.side in
          let is = side.is in
          relating_proved m mode A c s t k e ke env side.left side.right (predicate_head.AliasRelate is.by) (λ xs. refl)
          (relation_follows m mode A c s t k e ke closed_here is.by [] side.left side.right side.right side.right normal (inl refl) (λ y i. absurd i) (inl (one_tree tt)))
          terms.0 terms.1 b g now later levelled regions te tg kg ends alias_closed n.ends q

      by_right : (let side = n.side in (let is = side.is in opened_in b g ≡ alias_relation is.by side.right side.left)) → IsProvedFrom m mode A c e g
      by_right q =
          let side = n.side in
          let is = side.is in
          relating_proved m mode A c s t k e ke env side.right side.left (predicate_head.AliasRelate is.by) (λ xs. refl)
          (relation_follows m mode A c s t k e ke closed_here is.by [] side.right side.left side.right side.right (inl refl) normal (λ y i. absurd i) (inl (one_tree tt)))
          terms.1 terms.0 b g now later levelled regions te tg kg ends n.ends alias_closed q

  -- two aliases that normalize to one term
  together_proved : NormalizesTogether m mode A c e (opened_in b g) → IsProvedFrom m mode A c e g
  together_proved n =
      let is = n.is in
      let x = is.left in
      let y = is.right in
      let whole : IsTermOf c (alias_relation is.by n.left n.right) = subst (IsTermOf c) is.says ko in
      let known = whole.knows in
      let formed = whole.formed in
      let first : IsTermOf c n.left = record { knows = known.1.1.0.1.0; formed = formed.1.1.0.1.0 } in
      let second : IsTermOf c n.right = record { knows = known.1.1.0.1.1.0; formed = formed.1.1.0.1.1.0 } in
      relating_proved m mode A c s t k e ke env n.left n.right (predicate_head.AliasRelate is.by) (λ xs. refl)
      (relation_follows m mode A c s t k e ke closed_here is.by [] n.left n.right n.term n.term (side_normal n.left n.term x n.kind first n.known n.ends n.first) (side_normal n.right n.term y (n.kind ∙ sym is.kind) second n.known n.ends n.second) (λ z i. absurd i) (inl (one_tree tt)))
      first second b g now later levelled regions te tg kg ends x.closed y.closed is.says

  -- two types of which what the one is known to be is a subtype of what the other is
  below_proved : NormalizesBelow m mode A c e (opened_in b g) → IsProvedFrom m mode A c e g
  below_proved n =
      let is = n.is in
      let whole : IsTermOf c (alias_relation direction.Subtype n.left n.right) = subst (IsTermOf c) is.says ko in
      let known = whole.knows in
      let formed = whole.formed in
      let left : IsTermOf c n.left = record { knows = known.1.1.0.1.0; formed = formed.1.1.0.1.0 } in
      let right : IsTermOf c n.right = record { knows = known.1.1.0.1.1.0; formed = formed.1.1.0.1.1.0 } in
      let ks = deeply_resolved c (subtype_goal true variance.Covariant n.first n.second) ∷ [] in
      relating_proved m mode A c s t k e ke env n.left n.right (predicate_head.AliasRelate direction.Subtype) (λ xs. refl)
      (relation_follows m mode A c s t k e ke closed_here direction.Subtype ks n.left n.right n.first n.second (side_of n.left n.first n.of_left left n.first_closed) (side_of n.right n.second n.of_right right n.second_closed)
      (λ z i. ⊎_elim (λ q. rw q (goal_stands m mode A c s t k e ke env (subtype_goal true variance.Covariant n.first n.second) n.known n.proved)) (λ j. absurd j) i)
      (inl (related_below ks (let known = n.known in known.knows))))
      left right b g now later levelled regions te tg kg ends n.left_closed n.right_closed is.says
    where
      side_of : (a x : Tree) → IsKnownAs m mode A c e a x → IsTermOf c a → IsClosed x → IsSide m mode A c s t k e ke closed_here a x
      side_of a x (inl same) ka cx = inl same
      side_of a x (inr z) ka cx = side_normal a x z.is z.kind ka z.known cx z.proved

      resolved_type : (x : Tree) → Knows c x → kind_of x ≡ Some (of_sort sort.Ty) → kind_of (deeply_resolved c x) ≡ Some (of_sort sort.Ty)
      resolved_type x kx type = kind_of-deeply_resolved c x s kx ∙ type

      related_below : (ks : List Tree) → Knows c (subtype_goal true variance.Covariant n.first n.second) → RelatedUnder m.variances c (deeply_resolved c (subtype_goal true variance.Covariant n.first n.second) ∷ []) variance.Covariant n.first n.second
      related_below ks known =
          let k1 : Knows c n.first = known.1.1.0.1.0 in
          let k2 : Knows c n.second = known.1.1.0.1.1.0 in
          subtypes true (λ x. cc x) (resolved_type n.first k1 n.first_type) (resolved_type n.second k2 n.second_type) (IsClosed-deeply_resolved c n.first t n.first_closed) (IsClosed-deeply_resolved c n.second t n.second_closed)
          (inl (sym (resolved_about c (predicate_head.Subtype true) n.first n.second)))

  pub normal_proved : IsNormalizedBy m mode A c e (opened_in b g) → IsProvedFrom m mode A c e g
  normal_proved (inl n) = alone_proved n
  normal_proved (inr (inl n)) = together_proved n
  normal_proved (inr (inr n)) = below_proved n
