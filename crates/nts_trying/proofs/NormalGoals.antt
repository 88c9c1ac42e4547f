-- Goals that an alias is equal to a term, or that the one is a subtype of the other: what is left of them by which the two are one, and
-- that they hold where it does.
use Rattle.std.proofs.Common.{Bool, ◌≡◌, ◌⊎◌, inl, inr, ⊎_elim, true, false, List, [], ◌∷◌, Some, refl, sym, ap, ◌∙◌, subst}
use Rattle.nts_model.specs.declared.labels.AliasRelationDirection.{AliasRelationDirection}
use Rattle.nts_model.specs.declared.labels.AliasRelationDirection.TheVariants as direction
use Rattle.nts_model.specs.declared.labels.ListHead.TheVariants as list
use Rattle.nts_model.specs.declared.labels.PredicateHead.TheVariants as predicate_head
use Rattle.nts_model.specs.declared.labels.Label.{Label}
use Rattle.nts_model.specs.declared.labels.Label.TheVariants as label
use Rattle.nts_model.specs.declared.labels.AliasHead.TheVariants as alias_of
use Rattle.nts_model.specs.declared.labels.ConstHead.TheVariants as konst
use Rattle.nts_model.specs.declared.labels.TyHead.TheVariants as ty
use Rattle.nts_model.specs.Terms.Trees.{Tree, empty, more, node, kind_of, arguments, is, HavePlaces, children, row_length, IsRow, IsClosed, IsFormed}
use Rattle.nts_model.specs.Derivations.Related.{arguments as arguments_of}
use Rattle.nts_model.specs.Derivations.Sequents.{HasClosedStatement}
use Rattle.nts_model.proofs.Terms.Substituting.{no_children}
use Rattle.nts_model.proofs.Tables.AlikeNodes.{alias_label_is}
use Rattle.nts_model.proofs.Terms.Scoping.{closed_listed}
use Rattle.nts_model.specs.declared.labels.AliasHead.{AliasHead}
use Rattle.nts_terms.specs.declared.handles.Binder.{Binder}
use Rattle.nts_terms.specs.declared.handles.Term.{Term}
use Rattle.nts_terms.specs.declared.kinds.PredicateKind.{PredicateKind}
use Rattle.nts_terms.specs.declared.kinds.PredicateKind.TheVariants as statements
use Rattle.nts_terms.specs.Kinds.{tree_of_statement, tree_of_predicate, PredicateFits, StatementFits}
use Rattle.nts_terms.proofs.Standing.{vars_tree}
use Rattle.nts_variance.specs.Goals.{is_alias_node}
use Rattle.nts_trying.specs.Outliving.{IsClosedEnv}
use Rattle.nts_trying.proofs.Unasked.{row_of_none}
use Rattle.nts_model.specs.Tables.Contents.{Content}
use Rattle.nts_model.specs.Tables.Resolving.{Knows}
use Rattle.nts_model.specs.Tables.Passing.{TreePasses, PassesQueries, BringsOnly}
use Rattle.nts_model.specs.Lists.{Among}
use Rattle.nts_model.specs.Derivations.Related.{alias, pair, unbound, no_sorts, IsAlias}
use Rattle.nts_model.specs.Derivations.Rules.{Meaning, Mode, relating, normalization_goal}
use Rattle.nts_model.specs.Derivations.Proofs.{Assumed}
use Rattle.nts_model.proofs.Tables.Held.{Continues-refl}
use Rattle.nts_model.specs.Searching.Stacks.{IsProvedFrom}
use Rattle.nts_theory.specs.Aliasing.{alias_relation, EquatesAlias, EquatesAliases}
use Rattle.nts_store.specs.Formed.{AreFormed}
use Rattle.nts_store.specs.Growth.{tree_at, Extends}
use Rattle.nts_store.proofs.Growing.{Extends-trans}
use Rattle.nts_certainty.specs.declared.sources.GoalSource.{GoalSource}
use Rattle.nts_certainty.specs.declared.sources.GoalSource.TheVariants as source
use Rattle.nts_terms.specs.declared.cx.Cx.{Cx}
use Rattle.nts_terms.specs.declared.handles.Goal.{Goal}
use Rattle.nts_terms.specs.declared.handles.ParamEnv.{ParamEnv}
use Rattle.nts_terms.specs.Handles.{HoldsPredicate, HoldsTerm}
use Rattle.nts_table.specs.Tables.{Table}
use Rattle.nts_unify.specs.Reading.{content_of}
use Rattle.nts_unify.specs.Lawful.{content_of-extended}
use Rattle.nts_meaning.specs.Evaluation.{Goes, IsPosed, asked_terms, goals_at}
use Rattle.nts_response.specs.Forms.{premise_at}
use Rattle.nts_meaning.proofs.Evaluating.{Goes-extends, IsPosed-later}
use Rattle.nts_meaning.specs.Running.{StaysProved}
use Rattle.nts_meaning.proofs.Running.{term_table}
use Rattle.nts_model.specs.declared.labels.VariableKind.{VariableKind}
use Rattle.nts_model.specs.declared.labels.Sort.{Sort}
use Rattle.nts_model.specs.Derivations.Handlers.{kind_of_sort}
use Rattle.nts_model.specs.Answers.Applying.{IsNew}
use Rattle.nts_model.specs.Tables.Passing.{BringsNoLabels}
use Rattle.nts_model.proofs.Tables.Bringing.{query_variables}
use Rattle.nts_theory.proofs.Responses.Applying.{new_knows}
use Rattle.nts_store.specs.declared.nodes.NodeId.{NodeId}
use Rattle.nts_store.specs.Growth.{IsIn}
use Rattle.nts_store.proofs.Growing.{IsIn-extended}
use Rattle.nts_meaning.proofs.Evaluating.{Knows-goes}
use Rattle.nts_trying.specs.Aliasing.{AreLesserTypes, SaysLesser, IsEquatedGoal, IsNormalGoal, BeginsNormalizing}
use Rattle.nts_trying.specs.declared.subtypes.TypePair.{TypePair}
use Rattle.std.proofs.Common.{Option, None}
use Rattle.nts_trying.specs.Stepping.{ArePosed, terms_of}
use Rattle.nts_trying.specs.declared.normal.EquatedAlias.{EquatedAlias}
use Rattle.std.proofs.lemmas.List.Elements.{All-nil, All-cons}

-- what is so of a goal that two terms are equal is so of the two
pub sides_of : (Q : Tree → Type 0) → ((d : AliasRelationDirection) (x y : Tree) → Q (alias_relation d x y) → Q x × Q y) → (g a t : Tree) → EquatesAlias g a t → Q g → Q a × Q t
sides_of Q f g a t w h = ⊎_elim
    (λ e. f w.by a t (subst Q e h))
    (λ e. (let x = f w.by t a (subst Q e h) in (x.1, x.0))) w.says

pub sides_known : (c : Content) (g a t : Tree) → EquatesAlias g a t → Knows c g → Knows c a × Knows c t
sides_known c = sides_of (Knows c) (λ d x y h. (h.1.1.0.1.0, h.1.1.0.1.1.0))

sides_pass : (P : Label → Bool) (g a t : Tree) → EquatesAlias g a t → TreePasses P g → TreePasses P a × TreePasses P t
sides_pass P = sides_of (TreePasses P) (λ d x y h. (h.1.1.0.1.0, h.1.1.0.1.1.0))

-- the parts of an alias
parts_known : (c : Content) (a : Tree) (x : IsAlias a) → Knows c a → Knows c (node (label.List list.Args) x.parts)
parts_known c a x k = (let h : Knows c (alias x.head x.parts) = subst (Knows c) x.is k in h.1.0)

parts_pass : (P : Label → Bool) (a : Tree) (x : IsAlias a) → TreePasses P a → TreePasses P (node (label.List list.Args) x.parts)
parts_pass P a x k = (let h : TreePasses P (alias x.head x.parts) = subst (TreePasses P) x.is k in h.1.0)

parts_closed : (h : AliasHead) (ts : Tree) → IsClosed (alias h ts) → IsClosed (node (label.List list.Args) ts)
parts_closed (alias_of.Ty i) ts k = k.1.0
parts_closed (alias_of.Const i) ts k = k.1.0

-- the goal that an alias normalizes to a closed term
pub normal_known : (c : Content) (a v : Tree) (x : IsAlias a) → IsClosed v → Knows c a → Knows c v → Knows c (normalization_goal x.head x.parts v)
normal_known c a v x ends ka kv =
    let parts = parts_known c a x ka in
    let bound = parts_closed x.head x.parts (subst IsClosed x.is x.closed) in
    ((tt, tt, refl), (((tt, tt, refl), tt, tt), (((tt, tt, refl), (parts, (kv, tt)), tt), tt)), ((tt, tt), ((tt, (closed_listed empty 0 (node (label.List list.Args) x.parts) bound, (closed_listed empty 0 v ends, tt))), tt)))

pub normal_passes : (P : Label → Bool) → PassesQueries P → (a v : Tree) (x : IsAlias a) → TreePasses P a → TreePasses P v → TreePasses P (normalization_goal x.head x.parts v)
normal_passes P q a v x ka kv = (q (label.List list.Binder) tt, ((q (label.List list.Sorts) tt, tt), ((q (label.Predicate (predicate_head.NormalizesTo x.head)) tt, (parts_pass P a x ka, (kv, tt))), tt)))

-- a closed and formed node with the label of an alias is one; and one with another label is none
arguments_of_node : (a : Tree) → kind_of a ≡ Some arguments → (ts : Tree) × (a ≡ node (label.List list.Args) ts)
arguments_of_node (node (label.List list.Args) ts) e = (ts, refl)
arguments_of_node a e = absurd (cc e)

arguments_here : (c : Tree) → HavePlaces (is arguments ∷ []) c → (ts : Tree) × (c ≡ arguments_of ts)
arguments_here empty h = absurd h
arguments_here (node l t) h = absurd h
arguments_here (more a r) h =
    let (ts, same) = arguments_of_node a h.0 in
    let alone : r ≡ empty = no_children r h.1 in
    (ts, cc (same, alone))

pub formed_alias : (t : Tree) → IsFormed t → IsClosed t → is_alias_node t ≡ true → IsAlias t
formed_alias (node (label.Ty (ty.Alias i)) c) f k e = (let x = arguments_here c f.0 in record { head = alias_of.Ty i; parts = x.0; is = ap (node (label.Ty (ty.Alias i))) x.1; closed = k })
formed_alias (node (label.Const (konst.Unevaluated i)) c) f k e = (let x = arguments_here c f.0 in record { head = alias_of.Const i; parts = x.0; is = ap (node (label.Const (konst.Unevaluated i))) x.1; closed = k })
formed_alias t f k e = absurd (cc e)

pub no_alias_node : (t : Tree) → is_alias_node t ≡ false → IsAlias t → ⊥
no_alias_node t e x = (let z : true ≡ false = sym (ap is_alias_node x.is ∙ alias_label_is x.head) ∙ e in cc z)

-- a relation says one thing
same_relation : (d o : AliasRelationDirection) (x y a b : Tree) → alias_relation d x y ≡ alias_relation o a b → (d ≡ o) × (x ≡ a) × (y ≡ b)
same_relation d o x y a b e = (cc e, cc e, cc e)

-- a goal of the store by what the tests of it see
module _ (ts : List Tree) (g : Goal) (b : Binder PredicateKind) (is : tree_at ts g.predicate.node ≡ tree_of_predicate ts b) (formed : AreFormed ts) (fits : PredicateFits ts b) (row : IsRow (children (tree_at ts b.vars.node))) (none : row_length (children (tree_at ts b.vars.node)) ≡ 0) (l r : Term)
    (d : AliasRelationDirection) (value : b.value ≡ statements.AliasRelate l r d) (way : Option TypePair) (lesser : AreLesserTypes ts l r d way) (closed : HasClosedStatement (tree_at ts g.predicate.node)) (env : IsClosedEnv (tree_at ts g.param_env.node)) (kinds : kind_of (tree_at ts l.node) ≡ kind_of (tree_at ts r.node)) where
  stated : tree_at ts g.predicate.node ≡ alias_relation d (tree_at ts l.node) (tree_at ts r.node)
  stated =
      let binder : tree_at ts b.vars.node ≡ no_sorts = vars_tree (tree_at ts b.vars.node) fits.0.fits ∙ ap (node (label.List list.Sorts)) (row_of_none (children (tree_at ts b.vars.node)) row none) in
      is ∙ ap (λ z. node (label.List list.Binder) (more z (more (tree_of_statement ts b.value) empty))) binder ∙ ap (λ z. unbound (tree_of_statement ts z)) value

  sides_held : HoldsTerm ts l × HoldsTerm ts r
  sides_held = subst (StatementFits ts) value fits.1

  sides_closed : IsClosed (tree_at ts l.node) × IsClosed (tree_at ts r.node)
  sides_closed =
      let q = closed (node (label.Predicate (predicate_head.AliasRelate d)) (pair (tree_at ts l.node) (tree_at ts r.node))) stated in
      (q.1.0, q.1.1.0)

  lesser_said : SaysLesser ts g way
  lesser_said = by_way way lesser
    where
      by_way : (w : Option TypePair) → AreLesserTypes ts l r d w → SaysLesser ts g w
      by_way None never = λ x y says.
          let same = same_relation d direction.Subtype (tree_at ts l.node) (tree_at ts r.node) x y (sym stated ∙ says.says) in
          never same.0 (ap kind_of same.1 ∙ says.left) (ap kind_of same.2 ∙ says.right)
      by_way (Some p) (so, sub, sup, one, two) =
          record {
            types = record { sub = sub; sup = sup };
            is = record { says = rw (one, two) (subst (λ z. tree_at ts g.predicate.node ≡ alias_relation z (tree_at ts l.node) (tree_at ts r.node)) so stated); left = sub.fits; right = sup.fits };
            sub_closed = rw one sides_closed.0;
            sup_closed = rw two sides_closed.1;
          }

  pub both_equated : is_alias_node (tree_at ts l.node) ≡ true → is_alias_node (tree_at ts r.node) ≡ true → IsEquatedGoal ts g (record { alias = l; term = r; types = way })
  both_equated y n =
      let held = sides_held in
      record {
        alias = held.0;
        term = held.1;
        is = record {
          says = inr (record { by = d; says = stated; left = formed_alias (tree_at ts l.node) (formed l.node held.0.within) sides_closed.0 y; right = formed_alias (tree_at ts r.node) (formed r.node held.1.within) sides_closed.1 n; kind = sym kinds });
          ends = sides_closed.1;
          environment = env;
        };
        types = lesser_said;
      }

  pub left_equated : is_alias_node (tree_at ts l.node) ≡ true → is_alias_node (tree_at ts r.node) ≡ false → IsEquatedGoal ts g (record { alias = l; term = r; types = way })
  left_equated y n =
      let held = sides_held in
      record {
        alias = held.0;
        term = held.1;
        is = record {
          says = inl (record { by = d; says = inl stated; alias = formed_alias (tree_at ts l.node) (formed l.node held.0.within) sides_closed.0 y; plain = no_alias_node (tree_at ts r.node) n; kind = sym kinds });
          ends = sides_closed.1;
          environment = env;
        };
        types = lesser_said;
      }

  pub right_equated : is_alias_node (tree_at ts l.node) ≡ false → is_alias_node (tree_at ts r.node) ≡ true → IsEquatedGoal ts g (record { alias = r; term = l; types = way })
  right_equated n y =
      let held = sides_held in
      record {
        alias = held.1;
        term = held.0;
        is = record {
          says = inl (record { by = d; says = inr stated; alias = formed_alias (tree_at ts r.node) (formed r.node held.1.within) sides_closed.1 y; plain = no_alias_node (tree_at ts l.node) n; kind = kinds });
          ends = sides_closed.0;
          environment = env;
        };
        types = lesser_said;
      }

module _ {a b : List Tree} {t u : Table} {goal normal : Goal} {x v : Tree} (posed : IsPosed a t goal) (goes : Goes a b t u) (n : IsNormalGoal a b goal x v normal) (y : IsAlias x) (ends : IsClosed v) where
  abbrev e : Tree
  e = tree_at a goal.param_env.node

  pub normal_env : tree_at b normal.param_env.node ≡ e
  normal_env = ap (λ (z : ParamEnv). tree_at b z.node) n.environment ∙ goes.extends.kept goal.param_env.node posed.holds.env.within

  pub normal_premise : premise_at b (source.TypeRelating, normal) ≡ relating e (normalization_goal y.head y.parts v)
  normal_premise = rw (normal_env, n.tree y) refl

  pub normal_posed : Knows (content_of b u.entries) x → Knows (content_of b u.entries) v → IsPosed b u normal
  normal_posed kx kv =
      let later = IsPosed-later goes posed in
      let k = later.knows in
      let h = later.holds in
      record {
        table = goes.table;
        holds = record { env = rw n.environment h.env; predicate = n.holds };
        knows = record { env = rw n.environment k.env; predicate = rw (n.tree y) (normal_known (content_of b u.entries) x v y ends kx kv) };
      }

  pub normal_asks : (P : Label → Bool) → PassesQueries P → TreePasses P e → TreePasses P x → TreePasses P v → (z : Tree) → Among (asked_terms b normal) z → TreePasses P z
  normal_asks P q pe px pv z (inl s) = rw (s, normal_env) pe
  normal_asks P q pe px pv z (inr (inl s)) = rw (s, n.tree y) (normal_passes P q x v y px pv)
  normal_asks P q pe px pv z (inr (inr i)) = absurd i

  -- where it is proved in a later table, the alias normalizes to the term there
  pub normal_held : {m : Meaning} {mode : Mode} {A : List Assumed} {d : List Tree} {w : Table} → AreFormed d → Goes b d u w → StaysProved m mode A d w normal → IsProvedFrom m mode A (content_of d w.entries) e (normalization_goal y.head y.parts v)
  normal_held {m} {mode} {A} {d} {w} grown later one =
      let k = content_of d w.entries in
      let there = term_table grown later.table in
      let all = Extends-trans goes.extends later.extends in
      let env : tree_at d normal.param_env.node ≡ e = ap (λ (z : ParamEnv). tree_at d z.node) n.environment ∙ all.kept goal.param_env.node posed.holds.env.within in
      let predicate = later.extends.kept normal.predicate.node n.holds.within ∙ n.tree y in
      rw (env, predicate) at (one.later k there (Continues-refl k there.sound))

-- what is left of a goal that an alias is equal to a term that is none
pub begins_one : (a b : Cx) (t : Table) (goal normal : Goal) (r : EquatedAlias) (gs : List (GoalSource × Goal)) → IsEquatedGoal a.nodes goal r → is_alias_node (tree_at a.nodes r.term.node) ≡ false → gs ≡ (source.TypeRelating, normal) ∷ []
    → IsNormalGoal a.nodes b.nodes goal (tree_at a.nodes r.alias.node) (tree_at a.nodes r.term.node) normal → IsPosed a.nodes t goal → Extends a.nodes b.nodes → BeginsNormalizing None a b t t goal gs
begins_one a b t goal normal r gs says plain are n posed up = ⊎_elim (λ w. begins w) (λ w. absurd (no_alias_node (tree_at a.nodes r.term.node) plain w.right)) (let i = says.is in i.says)
  where
    begins : EquatesAlias (tree_at a.nodes goal.predicate.node) (tree_at a.nodes r.alias.node) (tree_at a.nodes r.term.node) → BeginsNormalizing None a b t t goal gs
    begins w =
        let i = says.is in
        let c = content_of a.nodes t.entries in
        let e = tree_at a.nodes goal.param_env.node in
        let g = tree_at a.nodes goal.predicate.node in
        let x = tree_at a.nodes r.alias.node in
        let v = tree_at a.nodes r.term.node in
        let goes = Goes-extends posed.table up in
        let same = content_of-extended up posed.table.now in
        let y = w.alias in
        let k = posed.knows in
        let known = sides_known c g x v w k.predicate in
        record {
          posed = rw are (All-cons (λ z. IsPosed b.nodes t z.1) _ [] (normal_posed posed goes n y i.ends (rw same known.0) (rw same known.1)) (All-nil (λ z. IsPosed b.nodes t z.1)));
          sides = inl (relating e (normalization_goal y.head y.parts v), record { left = x; right = v; is = w; premise = refl }, same, ap (goals_at b.nodes) are ∙ ap (λ z. z ∷ []) (normal_premise posed goes n y i.ends));
          labels = λ h. record {
            labels = λ P q m passes.
                (let both = sides_pass P g x v w (m g (inr (inl refl))) in
                h.labels P q (λ z j. normal_asks posed goes n y i.ends P q (m e (inl refl)) both.0 both.1 z (only_terms z (rw are at j))) (rw same passes));
          };
          goals = inl (record { normal = normal; are = are; alias = x; term = v; is = w; ends = i.ends; goal = n });
        }
      where
        only_terms : (z : Tree) → Among (terms_of b.nodes ((source.TypeRelating, normal) ∷ [])) z → Among (asked_terms b.nodes normal) z
        only_terms z (inl q) = inl q
        only_terms z (inr (inl q)) = inr (inl q)
        only_terms z (inr (inr j)) = absurd j

-- a goal that was made in a store that had grown, once it grows on
pub normal_of : (a m n b : List Tree) (alias var : NodeId) (g normal : Goal) → IsIn a alias → IsIn m var → Extends a m → Extends m n → Extends n b → normal.param_env ≡ g.param_env → HoldsPredicate n normal.predicate
    → ((x : IsAlias (tree_at m alias)) → tree_at n normal.predicate.node ≡ normalization_goal x.head x.parts (tree_at m var)) → IsNormalGoal a b g (tree_at a alias) (tree_at b var) normal
normal_of a m n b alias var g normal there within am mn nb env holds says =
    let kept : tree_at b var ≡ tree_at m var = (let up = Extends-trans mn nb in up.kept var within) in
    let same : tree_at m alias ≡ tree_at a alias = am.kept alias there in
    let here : (x : IsAlias (tree_at a alias)) → tree_at n normal.predicate.node ≡ normalization_goal x.head x.parts (tree_at m var) =
    subst (λ z. (x : IsAlias z) → tree_at n normal.predicate.node ≡ normalization_goal x.head x.parts (tree_at m var)) same says in
    record {
      environment = env;
      holds = record { within = IsIn-extended nb normal.predicate.node holds.within; fits = rw (nb.kept normal.predicate.node holds.within) holds.fits };
      tree = λ y. nb.kept normal.predicate.node holds.within ∙ rw kept (here y);
    }

-- a new variable
pub new_closed : (c d : Content) (k : VariableKind) (t : Tree) → IsNew c d k c.universe t → IsClosed t
new_closed c d k t n = rw n.tree (tt, tt)

pub new_passes : (c d : Content) (k : VariableKind) (t : Tree) (P : Label → Bool) → PassesQueries P → IsNew c d k c.universe t → TreePasses P t
new_passes c d k t P q n = rw n.tree (query_variables P q _ _, tt)

aliases_known : (c : Content) (g a b : Tree) → EquatesAliases g a b → Knows c g → Knows c a × Knows c b
aliases_known c g a b w k = (let h : Knows c (alias_relation w.by a b) = subst (Knows c) w.says k in (h.1.1.0.1.0, h.1.1.0.1.1.0))

aliases_pass : (P : Label → Bool) (g a b : Tree) → EquatesAliases g a b → TreePasses P g → TreePasses P a × TreePasses P b
aliases_pass P g a b w k = (let h : TreePasses P (alias_relation w.by a b) = subst (TreePasses P) w.says k in (h.1.1.0.1.0, h.1.1.0.1.1.0))

-- what is left of a goal that two aliases are equal
module _ (a b : Cx) (t u : Table) (goal first second : Goal) (x y : Tree) (variable : NodeId) (its : Sort) (gs : List (GoalSource × Goal)) (w : EquatesAliases (tree_at a.nodes goal.predicate.node) x y) (env : IsClosedEnv (tree_at a.nodes goal.param_env.node)) (are : gs ≡ (source.TypeRelating, first) ∷ (source.TypeRelating, second) ∷ [])
    (within : IsIn b.nodes variable) (of_kind : kind_of (tree_at b.nodes variable) ≡ kind_of x) (new : IsNew (content_of a.nodes t.entries) (content_of b.nodes u.entries) (kind_of_sort its) t.entries.universe (tree_at b.nodes variable))
    (brings : BringsNoLabels (content_of a.nodes t.entries) (content_of b.nodes u.entries)) (n : IsNormalGoal a.nodes b.nodes goal x (tree_at b.nodes variable) first) (m : IsNormalGoal a.nodes b.nodes goal y (tree_at b.nodes variable) second) (posed : IsPosed a.nodes t goal) (goes : Goes a.nodes b.nodes t u) where
  abbrev term : Tree
  term = tree_at b.nodes variable

  abbrev was : Content
  was = content_of a.nodes t.entries

  abbrev met : Content
  met = content_of b.nodes u.entries

  abbrev env_tree : Tree
  env_tree = tree_at a.nodes goal.param_env.node

  v_known : Knows met term
  v_known = new_knows was met t.entries.universe (kind_of_sort its) term new

  v_closed : IsClosed term
  v_closed = new_closed was met (kind_of_sort its) term new

  sides_there : Knows met x × Knows met y
  sides_there =
      let k = posed.knows in
      let h = aliases_known was (tree_at a.nodes goal.predicate.node) x y w k.predicate in
      (Knows-goes x goes h.0, Knows-goes y goes h.1)

  two_posed : ArePosed b.nodes u gs
  two_posed =
      rw are (All-cons (λ z. IsPosed b.nodes u z.1) (source.TypeRelating, first) ((source.TypeRelating, second) ∷ []) (normal_posed posed goes n w.left v_closed sides_there.0 v_known)
      (All-cons (λ z. IsPosed b.nodes u z.1) (source.TypeRelating, second) [] (normal_posed posed goes m w.right v_closed sides_there.1 v_known) (All-nil (λ z. IsPosed b.nodes u z.1))))

  two_terms : (z : Tree) → Among (terms_of b.nodes gs) z → Among (asked_terms b.nodes first) z ⊎ Among (asked_terms b.nodes second) z
  two_terms z i = by_place (subst (λ xs. Among (terms_of b.nodes xs) z) are i)
    where
      by_place : Among (terms_of b.nodes ((source.TypeRelating, first) ∷ (source.TypeRelating, second) ∷ [])) z → Among (asked_terms b.nodes first) z ⊎ Among (asked_terms b.nodes second) z
      by_place (inl q) = inl (inl q)
      by_place (inr (inl q)) = inl (inr (inl q))
      by_place (inr (inr (inl q))) = inr (inl q)
      by_place (inr (inr (inr (inl q)))) = inr (inr (inl q))
      by_place (inr (inr (inr (inr j)))) = absurd j

  two_labels : {z : Content} → BringsOnly (terms_of b.nodes gs) met z → BringsOnly (asked_terms a.nodes goal) was z
  two_labels h =
      record {
        labels = λ P q all passes.
            (let both = aliases_pass P (tree_at a.nodes goal.predicate.node) x y w (all _ (inr (inl refl))) in
            let pe = all env_tree (inl refl) in
            let pv = new_passes was met (kind_of_sort its) term P q new in
            let now = brings.labels P (query_variables P q) passes in
            h.labels P q (λ z j. ⊎_elim (normal_asks posed goes n w.left v_closed P q pe both.0 pv z) (normal_asks posed goes m w.right v_closed P q pe both.1 pv z) (two_terms z j)) now);
      }

  pub begins_two : BeginsNormalizing None a b t u goal gs
  begins_two =
      record {
        posed = two_posed;
        sides = inr (record {
          left = x;
          right = y;
          is = w;
          variable = term;
          its_sort = its;
          new = new;
          of_kind = of_kind;
          premises = ap (goals_at b.nodes) are ∙ (let p = normal_premise posed goes n w.left v_closed in let q = normal_premise posed goes m w.right v_closed in λ i. p i ∷ q i ∷ []);
        });
        labels = two_labels;
        goals = inr (inl (record { first = first; second = second; are = are; alias = x; other = y; variable = variable; is = w; within = within; knows = v_known; ends = v_closed; kind = of_kind; goal = n; other_goal = m }));
      }

-- the alias of a goal of the store
pub equated_alias : {ts : List Tree} {g : Goal} {r : EquatedAlias} → IsEquatedGoal ts g r → IsAlias (tree_at ts r.alias.node)
equated_alias q = (let i = q.is in ⊎_elim (λ w. w.alias) (λ w. w.left) i.says)

pub equated_kind : {ts : List Tree} {g : Goal} {r : EquatedAlias} → IsEquatedGoal ts g r → kind_of (tree_at ts r.term.node) ≡ kind_of (tree_at ts r.alias.node)
equated_kind q = (let i = q.is in ⊎_elim (λ w. w.kind) (λ w. w.kind) i.says)

pub equated_both : {ts : List Tree} {g : Goal} {r : EquatedAlias} → AreFormed ts → IsEquatedGoal ts g r → is_alias_node (tree_at ts r.term.node) ≡ true → EquatesAliases (tree_at ts g.predicate.node) (tree_at ts r.alias.node) (tree_at ts r.term.node)
equated_both {ts} {g} {r} formed q e = by_says (let i = q.is in i.says)
  where
    by_says : EquatesAlias (tree_at ts g.predicate.node) (tree_at ts r.alias.node) (tree_at ts r.term.node) ⊎ EquatesAliases (tree_at ts g.predicate.node) (tree_at ts r.alias.node) (tree_at ts r.term.node) → EquatesAliases (tree_at ts g.predicate.node) (tree_at ts r.alias.node) (tree_at ts r.term.node)
    by_says (inr w) = w
    by_says (inl w) = (let i = q.is in let held = q.term in absurd (w.plain (formed_alias (tree_at ts r.term.node) (formed r.term.node held.within) i.ends e)))
