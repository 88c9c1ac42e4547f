-- Goals that one type is a subtype of another, one of which is an alias: what is left of them by which their results are related.
-- that they hold where it does.
use Rattle.std.proofs.Common.{Bool, ◌≡◌, inl, inr, true, List, [], ◌∷◌, Some, refl, sym, ap, ◌∙◌, subst}
use Rattle.nts_model.specs.declared.labels.AliasRelationDirection.TheVariants as direction
use Rattle.nts_model.specs.declared.labels.ListHead.TheVariants as list
use Rattle.nts_model.specs.declared.labels.PredicateHead.TheVariants as predicate_head
use Rattle.nts_model.specs.declared.labels.Variance.TheVariants as variance
use Rattle.nts_model.specs.declared.labels.Label.{Label}
use Rattle.nts_model.specs.declared.labels.Label.TheVariants as label
use Rattle.nts_model.specs.Terms.Trees.{Tree, empty, IsClosed}
use Rattle.nts_model.proofs.Terms.Scoping.{closed_listed}
use Rattle.nts_terms.specs.declared.handles.Term.{Term}
use Rattle.nts_model.specs.Tables.Contents.{Content}
use Rattle.nts_model.specs.Tables.Resolving.{Knows}
use Rattle.nts_model.specs.Tables.Passing.{TreePasses, PassesQueries, BringsOnly}
use Rattle.nts_model.specs.Lists.{Among}
use Rattle.nts_model.specs.Derivations.Rules.{relating}
use Rattle.nts_theory.specs.Aliasing.{alias_relation}
use Rattle.nts_store.specs.Growth.{tree_at, Extends}
use Rattle.nts_certainty.specs.declared.sources.GoalSource.{GoalSource}
use Rattle.nts_certainty.specs.declared.sources.GoalSource.TheVariants as source
use Rattle.nts_terms.specs.declared.cx.Cx.{Cx}
use Rattle.nts_terms.specs.declared.handles.Goal.{Goal}
use Rattle.nts_terms.specs.declared.handles.ParamEnv.{ParamEnv}
use Rattle.nts_terms.specs.Handles.{HoldsPredicate, HoldsTerm}
use Rattle.nts_table.specs.Tables.{Table}
use Rattle.nts_unify.specs.Reading.{content_of}
use Rattle.nts_meaning.specs.Evaluation.{Goes, IsPosed, asked_terms, goals_at}
use Rattle.nts_response.specs.Forms.{premise_at}
use Rattle.nts_meaning.proofs.Evaluating.{IsPosed-later}
use Rattle.nts_model.specs.Tables.Passing.{BringsNoLabels}
use Rattle.nts_model.proofs.Tables.Bringing.{query_variables}
use Rattle.nts_store.proofs.Growing.{IsIn-extended}
use Rattle.nts_meaning.proofs.Evaluating.{Knows-goes}
use Rattle.nts_trying.specs.Aliasing.{IsEquatedGoal, IsNormalGoal, BeginsNormalizing}
use Rattle.nts_trying.specs.Stepping.{ArePosed, terms_of}
use Rattle.nts_trying.specs.declared.normal.EquatedAlias.{EquatedAlias}
use Rattle.std.proofs.lemmas.List.Elements.{All-nil, All-cons}
use Rattle.std.proofs.Common.{◌++◌, Option, None}
use Rattle.std.specs.Prelude.{IfSome}
use Rattle.nts_model.specs.declared.labels.VariableKind.TheVariants as variable
use Rattle.nts_model.specs.Derivations.Related.{subtype_goal}
use Rattle.nts_theory.specs.Aliasing.{IsLesserGoal, HasResult, NormalizesLesser}
use Rattle.nts_terms.specs.Handles.{HoldsGoal, HoldsTy}
use Rattle.nts_terms.specs.declared.handles.Ty.{Ty}
use Rattle.nts_trying.specs.Aliasing.{normals, StandsFor, IsResultIn, MakesResult, SaysLesser, LesserIn}
use Rattle.nts_trying.specs.declared.lesser.Side.{Side}
use Rattle.nts_trying.specs.declared.subtypes.TypePair.{TypePair}
use Rattle.nts_trying.proofs.NormalGoals.{normal_premise, normal_posed, normal_asks, new_passes}

-- a goal that was made stays in a store that grows
normal_later : {a o m b : List Tree} {g : Goal} {x r : Tree} {n : Goal} → Extends m b → IsNormalGoal a m g x r n → IsNormalGoal o b g x r n
normal_later {n = n} up k =
    let h = k.holds in
    record {
      environment = k.environment;
      holds = record { within = IsIn-extended up n.predicate.node h.within; fits = rw (up.kept n.predicate.node h.within) h.fits };
      tree = λ y. up.kept n.predicate.node h.within ∙ k.tree y;
    }

stands_later : (a o m b : List Tree) (g : Goal) (x r : Tree) (n : Option Goal) → Extends m b → StandsFor a m g x r n → StandsFor o b g x r n
stands_later a o m b g x r (Some n) up s = (s.0, normal_later up s.1)
stands_later a o m b g x r None up s = s

-- so does a result, whichever store the side was of
pub result_later : {a o m b : List Tree} {u w : Table} {g : Goal} {x : Tree} {s : Side} → Goes m b u w → IsResultIn a m u g x s → IsResultIn o b w g x s
result_later {a} {o} {m} {b} {u} {w} {g} {x} {s} goes r =
    let up = goes.extends in
    let ty = s.result in
    let h = r.result in
    let kept = up.kept ty.node h.within in
    record {
      result = record { within = IsIn-extended up ty.node h.within; fits = rw kept h.fits };
      knows = rw kept (Knows-goes (tree_at m ty.node) goes r.knows);
      ends = rw kept r.ends;
      stands = rw kept (stands_later a o m b g x (tree_at m ty.node) s.normal up r.stands);
    }

-- a type of a store and a table later
pub type_later : {a m : List Tree} {t u : Table} {x : Ty} → Goes a m t u → HoldsTy a x → HoldsTy m x
type_later {x = x} goes h = (let up = goes.extends in record { within = IsIn-extended up x.node h.within; fits = rw (up.kept x.node h.within) h.fits })

-- the list of the goals that are left, by its parts
posed_then : {b : List Tree} {u : Table} (n : Option Goal) (rest : List (GoalSource × Goal)) → IfSome n (IsPosed b u) → ArePosed b u rest → ArePosed b u (normals n ++ rest)
posed_then {b} {u} (Some g) rest one r = All-cons (λ z. IsPosed b u z.1) (source.TypeRelating, g) rest one r
posed_then None rest one r = r

asks_then : (b : List Tree) (P : Tree → Type 0) (n : Option Goal) (rest : List (GoalSource × Goal)) → IfSome n (λ g. (z : Tree) → Among (asked_terms b g) z → P z) → ((z : Tree) → Among (terms_of b rest) z → P z) → (z : Tree) → Among (terms_of b (normals n ++ rest)) z → P z
asks_then b P (Some g) rest one r z (inl e) = one z (inl e)
asks_then b P (Some g) rest one r z (inr (inl e)) = one z (inr (inl e))
asks_then b P (Some g) rest one r z (inr (inr i)) = r z i
asks_then b P None rest one r z i = r z i

goals_then : (b : List Tree) (n : Option Goal) (rest : List (GoalSource × Goal)) → goals_at b (normals n ++ rest) ≡ goals_at b (normals n) ++ goals_at b rest
goals_then b (Some g) rest = refl
goals_then b None rest = refl

-- what is said of a subtype is so of the two types
lesser_known : (c : Content) (g a b : Tree) → IsLesserGoal g a b → Knows c g → Knows c a × Knows c b
lesser_known c g a b w k = (let h : Knows c (alias_relation direction.Subtype a b) = subst (Knows c) w.says k in (h.1.1.0.1.0, h.1.1.0.1.1.0))

lesser_pass : (P : Label → Bool) (g a b : Tree) → IsLesserGoal g a b → TreePasses P g → TreePasses P a × TreePasses P b
lesser_pass P g a b w k = (let h : TreePasses P (alias_relation direction.Subtype a b) = subst (TreePasses P) w.says k in (h.1.1.0.1.0, h.1.1.0.1.1.0))

-- .. in the store
pub sides_known_here : {a : List Tree} {t : Table} {g : Goal} {p : TypePair} → LesserIn a g p → IsPosed a t g → Knows (content_of a t.entries) (tree_at a p.sub.node) × Knows (content_of a t.entries) (tree_at a p.sup.node)
sides_known_here {a} {t} {g} {p} says posed = (let k = posed.knows in lesser_known (content_of a t.entries) (tree_at a g.predicate.node) (tree_at a p.sub.node) (tree_at a p.sup.node) says.is k.predicate)

-- the goal that one closed type is a subtype of another
pub subtype_known : (c : Content) (r v : Tree) → IsClosed r → IsClosed v → Knows c r → Knows c v → Knows c (subtype_goal true variance.Covariant r v)
subtype_known c r v er ev kr kv =
    ((tt, tt, refl), (((tt, tt, refl), tt, tt), (((tt, tt, refl), (kr, (kv, tt)), tt), tt)), ((tt, tt), ((tt, (closed_listed empty 0 r er, (closed_listed empty 0 v ev, tt))), tt)))

subtype_passes : (P : Label → Bool) → PassesQueries P → (r v : Tree) → TreePasses P r → TreePasses P v → TreePasses P (subtype_goal true variance.Covariant r v)
subtype_passes P q r v kr kv = (q (label.List list.Binder) tt, ((q (label.List list.Sorts) tt, tt), ((q (label.Predicate (predicate_head.Subtype true)) tt, (kr, (kv, tt))), tt)))

-- a result passes where its side does
result_passes : (P : Label → Bool) → PassesQueries P → (c d : Content) (a b : List Tree) (g : Goal) (x r : Tree) (n : Option Goal) → StandsFor a b g x r n → MakesResult c d r n → TreePasses P x → TreePasses P r
result_passes P q c d a b g x r (Some n) s made p = new_passes c d variable.Ty r P q made
result_passes P q c d a b g x r None s made p = rw s.1 p

-- what is left of such a goal: the results of its two sides, in a table between and in the last one, and the goal about them
module _ (a b : Cx) (t u : Table) (goal : Goal) (p : TypePair) (between : Content) (first second : Side) (lesser : Goal) (gs : List (GoalSource × Goal)) (says : LesserIn a.nodes goal p) (posed : IsPosed a.nodes t goal) (goes : Goes a.nodes b.nodes t u)
    (of_sub : IsResultIn a.nodes b.nodes u goal (tree_at a.nodes p.sub.node) first) (of_sup : IsResultIn a.nodes b.nodes u goal (tree_at a.nodes p.sup.node) second)
    (makes_first : MakesResult (content_of a.nodes t.entries) between (tree_at b.nodes first.result.node) first.normal) (makes_second : MakesResult between (content_of b.nodes u.entries) (tree_at b.nodes second.result.node) second.normal)
    (brings : BringsNoLabels (content_of a.nodes t.entries) (content_of b.nodes u.entries)) (environment : lesser.param_env ≡ goal.param_env) (holds : HoldsPredicate b.nodes lesser.predicate)
    (stated : tree_at b.nodes lesser.predicate.node ≡ subtype_goal true variance.Covariant (tree_at b.nodes first.result.node) (tree_at b.nodes second.result.node)) (are : gs ≡ normals first.normal ++ (normals second.normal ++ ((source.TypeRelating, lesser) ∷ []))) where
  abbrev c : Content
  c = content_of a.nodes t.entries

  abbrev d : Content
  d = content_of b.nodes u.entries

  abbrev e : Tree
  e = tree_at a.nodes goal.param_env.node

  abbrev sub : Tree
  sub = tree_at a.nodes p.sub.node

  abbrev sup : Tree
  sup = tree_at a.nodes p.sup.node

  abbrev one : Tree
  one = tree_at b.nodes first.result.node

  abbrev two : Tree
  two = tree_at b.nodes second.result.node

  lesser_env : tree_at b.nodes lesser.param_env.node ≡ e
  lesser_env = (let up = goes.extends in ap (λ (z : ParamEnv). tree_at b.nodes z.node) environment ∙ up.kept goal.param_env.node posed.holds.env.within)

  known_here : Knows d sub × Knows d sup
  known_here =
      let k = posed.knows in
      let h = lesser_known c (tree_at a.nodes goal.predicate.node) sub sup says.is k.predicate in
      (Knows-goes sub goes h.0, Knows-goes sup goes h.1)

  -- each goal is posed
  posed_side : (x r : Tree) (n : Option Goal) → Knows d x → Knows d r → IsClosed r → StandsFor a.nodes b.nodes goal x r n → IfSome n (IsPosed b.nodes u)
  posed_side x r (Some n) kx kr er s = normal_posed posed goes s.1 s.0 er kx kr
  posed_side x r None kx kr er s = tt

  posed_lesser : IsPosed b.nodes u lesser
  posed_lesser =
      let later = IsPosed-later goes posed in
      let k = later.knows in
      let h = later.holds in
      record {
        table = goes.table;
        holds = record { env = rw environment h.env; predicate = holds };
        knows = record { env = rw environment k.env; predicate = rw stated (subtype_known d one two of_sub.ends of_sup.ends of_sub.knows of_sup.knows) };
      }

  all_posed : ArePosed b.nodes u gs
  all_posed =
      rw are
      (posed_then first.normal _ (posed_side sub one first.normal known_here.0 of_sub.knows of_sub.ends of_sub.stands)
      (posed_then second.normal _ (posed_side sup two second.normal known_here.1 of_sup.knows of_sup.ends of_sup.stands)
      (All-cons (λ z. IsPosed b.nodes u z.1) (source.TypeRelating, lesser) [] posed_lesser (All-nil (λ z. IsPosed b.nodes u z.1)))))

  -- no goal has a label but those of the goal
  asks_side : (P : Label → Bool) → PassesQueries P → TreePasses P e → (x r : Tree) (n : Option Goal) → IsClosed r → StandsFor a.nodes b.nodes goal x r n → TreePasses P x → TreePasses P r → IfSome n (λ g. (z : Tree) → Among (asked_terms b.nodes g) z → TreePasses P z)
  asks_side P q pe x r (Some n) er s px pr = normal_asks posed goes s.1 s.0 er P q pe px pr
  asks_side P q pe x r None er s px pr = tt

  asks_lesser : (P : Label → Bool) → PassesQueries P → TreePasses P e → TreePasses P one → TreePasses P two → (z : Tree) → Among (terms_of b.nodes ((source.TypeRelating, lesser) ∷ [])) z → TreePasses P z
  asks_lesser P q pe p1 p2 z (inl s) = rw (s, lesser_env) pe
  asks_lesser P q pe p1 p2 z (inr (inl s)) = rw (s, stated) (subtype_passes P q one two p1 p2)
  asks_lesser P q pe p1 p2 z (inr (inr j)) = absurd j

  lesser_labels : {z : Content} → BringsOnly (terms_of b.nodes gs) d z → BringsOnly (asked_terms a.nodes goal) c z
  lesser_labels h =
      record {
        labels = λ P q all passes.
            (let both = lesser_pass P (tree_at a.nodes goal.predicate.node) sub sup says.is (all _ (inr (inl refl))) in
            let pe = all e (inl refl) in
            let p1 = result_passes P q c between a.nodes b.nodes goal sub one first.normal of_sub.stands makes_first both.0 in
            let p2 = result_passes P q between d a.nodes b.nodes goal sup two second.normal of_sup.stands makes_second both.1 in
            h.labels P q
            (λ z j.
            asks_then b.nodes (TreePasses P) first.normal _ (asks_side P q pe sub one first.normal of_sub.ends of_sub.stands both.0 p1)
            (asks_then b.nodes (TreePasses P) second.normal _ (asks_side P q pe sup two second.normal of_sup.ends of_sup.stands both.1 p2) (asks_lesser P q pe p1 p2)) z (subst (λ xs. Among (terms_of b.nodes xs) z) are j))
            (brings.labels P (query_variables P q) passes));
      }

  -- each side has its result
  has_result : (before after : Content) (x r : Tree) (n : Option Goal) → IsClosed r → StandsFor a.nodes b.nodes goal x r n → MakesResult before after r n → HasResult before after e x r (goals_at b.nodes (normals n))
  has_result before after x r (Some n) er s made = inl (record { is = s.0; new = made; premise = ap (λ z. z ∷ []) (normal_premise posed goes s.1 s.0 er) })
  has_result before after x r None er s made = inr (record { plain = s.0; same = s.1; table = made; none = refl })

  sides : NormalizesLesser c d e (tree_at a.nodes goal.predicate.node) (goals_at b.nodes gs)
  sides =
      record {
        left = sub;
        right = sup;
        is = says.is;
        first = one;
        second = two;
        between = between;
        of_left = goals_at b.nodes (normals first.normal);
        of_right = goals_at b.nodes (normals second.normal);
        left_has = has_result c between sub one first.normal of_sub.ends of_sub.stands makes_first;
        right_has = has_result between d sup two second.normal of_sup.ends of_sup.stands makes_second;
        premises =
            ap (goals_at b.nodes) are ∙ goals_then b.nodes first.normal _
            ∙ ap (λ z. goals_at b.nodes (normals first.normal) ++ z) (goals_then b.nodes second.normal _ ∙ ap (λ z. goals_at b.nodes (normals second.normal) ++ (z ∷ [])) lesser_premise);
      }
    where
      lesser_premise : premise_at b.nodes (source.TypeRelating, lesser) ≡ relating e (subtype_goal true variance.Covariant one two)
      lesser_premise = rw (lesser_env, stated) refl

  pub begins_lesser : BeginsNormalizing (Some p) a b t u goal gs
  begins_lesser =
      record {
        posed = all_posed;
        sides = sides;
        labels = lesser_labels;
        goals = inr (inr (record {
          sub = sub;
          sup = sup;
          is = says.is;
          sub_closed = says.sub_closed;
          sup_closed = says.sup_closed;
          first = first;
          second = second;
          of_sub = of_sub;
          of_sup = of_sup;
          lesser = lesser;
          environment = environment;
          holds = holds;
          says = stated;
          are = are;
        }));
      }

-- what a goal says of an alias and a term, it says in a store that has grown
holds_term_later : {a b : List Tree} {x : Term} → Extends a b → HoldsTerm a x → HoldsTerm b x
holds_term_later {x = x} up h = record { within = IsIn-extended up x.node h.within; fits = rw (up.kept x.node h.within) h.fits }

lesser_later : {a b : List Tree} (g : Goal) (way : Option TypePair) → Extends a b → HoldsPredicate a g.predicate → SaysLesser a g way → SaysLesser b g way
lesser_later g None up holds none = λ x y l. none x y (record { says = sym (up.kept g.predicate.node holds.within) ∙ l.says; left = l.left; right = l.right })
lesser_later g (Some p) up holds l =
    let types = l.types in
    let is = l.is in
    let one = types.sub in
    let two = types.sup in
    let first = up.kept p.sub.node one.within in
    let second = up.kept p.sup.node two.within in
    record {
      types = record {
        sub = record { within = IsIn-extended up p.sub.node one.within; fits = rw first one.fits };
        sup = record { within = IsIn-extended up p.sup.node two.within; fits = rw second two.fits };
      };
      is = record { says = rw (up.kept g.predicate.node holds.within, first, second) is.says; left = rw first is.left; right = rw second is.right };
      sub_closed = rw first l.sub_closed;
      sup_closed = rw second l.sup_closed;
    }

pub equated_later : {a b : List Tree} {g : Goal} {r : EquatedAlias} → Extends a b → HoldsGoal a g → IsEquatedGoal a g r → IsEquatedGoal b g r
equated_later {g = g} {r = r} up holds q =
    let i = q.is in
    let alias = q.alias in
    let term = q.term in
    let predicate = up.kept g.predicate.node holds.predicate.within in
    let one = up.kept r.alias.node alias.within in
    let other = up.kept r.term.node term.within in
    record {
      alias = holds_term_later up alias;
      term = holds_term_later up term;
      is = record { says = rw (predicate, one, other) i.says; ends = rw other i.ends; environment = rw (up.kept g.param_env.node holds.env.within) i.environment };
      types = lesser_later g r.types up holds.predicate q.types;
    }
