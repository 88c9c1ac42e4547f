-- One goal that is posed with new variables.
use Rattle.std.proofs.Common.{◌≡◌, ◌⊎◌, ℕ, suc, Bool, true, false, List, [], ◌∷◌, ◌++◌, length, map, Some, inl, inr, ⊎_elim, refl, sym, ap, ◌∙◌, subst}
use Rattle.std.specs.Prelude.{◌||◌, cond}
use Rattle.nts_model.specs.declared.labels.Label.{Label}
use Rattle.nts_model.specs.declared.labels.ClauseHead.TheVariants as clause
use Rattle.nts_model.specs.declared.labels.PredicateHead.TheVariants as predicate
use Rattle.nts_model.specs.declared.labels.Label.TheVariants as label
use Rattle.nts_model.specs.declared.labels.Sort.{Sort}
use Rattle.nts_model.specs.declared.labels.Sort.TheVariants as sort
use Rattle.nts_model.specs.declared.labels.Variance.TheVariants as variance
use Rattle.nts_model.specs.Lists.{Among}
use Rattle.nts_model.specs.Terms.Trees.{Tree, empty, more, node, kind_of, of_sort, variable_tree, IsFormed}
use Rattle.nts_model.specs.Tables.Contents.{Content}
use Rattle.nts_model.specs.Tables.Resolving.{Knows}
use Rattle.nts_model.specs.Tables.Passing.{TreePasses, TablePasses, PassesQueries}
use Rattle.nts_model.specs.Derivations.Sequents.{Premise, normalize_goal}
use Rattle.nts_model.specs.Derivations.Rules.{GoalKind, choice, step_kind, statement_of, KeepsAliases, IsHandlers}
use Rattle.nts_model.specs.Derivations.Related.{IsAlias, directed, direction_of, alias_goal}
use Rattle.nts_model.proofs.Lists.{among_left, among_right}
use Rattle.nts_variance_model.specs.Variances.Relations.{Relating as Pair}
use Rattle.nts_model.proofs.Tables.AlikeNodes.{alias_label_is}
use Rattle.nts_model.proofs.Tables.Bringing.{query_variables}
use Rattle.nts_theory.specs.AskedGoals.{is_engines, is_asked}
use Rattle.nts_theory.proofs.Refutation.Answered.{among_split}
use Rattle.nts_theory.proofs.Derivations.ByCandidate.{among_mapped}
use Rattle.nts_theory.specs.Posing.{AreOfSorts, TakesValues, equal_pair, HasPut, put_alias, put_empty, put_more, put_node, posed_with, PutsNew}
use Rattle.nts_store.specs.Formed.{AreFormed}
use Rattle.nts_store.specs.Growth.{tree_at}
use Rattle.nts_terms.specs.declared.handles.Goal.{Goal}
use Rattle.nts_terms.specs.declared.handles.ParamEnv.{ParamEnv}
use Rattle.nts_certainty.specs.declared.sources.GoalSource.{GoalSource}
use Rattle.nts_certainty.specs.declared.sources.GoalSource.TheVariants as source
use Rattle.nts_candidates.specs.Offered.{source_of}
use Rattle.nts_unify.specs.Entries.{Entries}
use Rattle.nts_unify.specs.Reading.{content_of}
use Rattle.nts_table.specs.Tables.{Table}
use Rattle.nts_table.specs.Fresh.{variable_kind, fresh_row}
use Rattle.nts_table.proofs.FreshLemmas.{fresh_brings}
use Rattle.nts_table.proofs.TermTables.{proper_content}
use Rattle.nts_variance.specs.declared.along.Relating.{Relating}
use Rattle.nts_variance.specs.Goals.{is_alias_node, expects_first, goal_head, goal_of}
use Rattle.nts_variance.specs.Passing.{PairsPass}
use Rattle.nts_variance.specs.Terms.{pair_at, pairs_at}
use Rattle.nts_solver_relating.specs.Sides.{AreGoalsOfPairs}
use Rattle.nts_meaning.specs.Evaluation.{Goes, IsPosed, asked_terms, goals_at}
use Rattle.nts_meaning.specs.nts_search.specs.declared.kinds.CurrentGoalKind.{CurrentGoalKind}
use Rattle.nts_meaning.specs.nts_search.specs.Kinds.{goal_kind_of}
use Rattle.nts_response.specs.Forms.{premise_at}
use Rattle.nts_adding.specs.Adding.{AddsFor, ArePosedIn}
use Rattle.nts_adding.specs.Putting.{right_sides, IsPutFor, AllPut}
use Rattle.nts_adding.specs.Replacing.{PutsGoal}
use Rattle.nts_adding.proofs.Known.{right_nodes, right_row}
use Rattle.nts_trying.specs.Stepping.{terms_of}
use Rattle.nts_trying.proofs.AskedData.{predicate_kinds}
use Rattle.nts_trying.proofs.RelatedTypes.{labels_each}
use Rattle.nts_trying.proofs.Stepping.{all_among}
use Rattle.nts_trying.proofs.Trying.{gave_freshened}
use Rattle.nts_trying.specs.Subtyping.{with_source}

-- a goal that is not asked as it stands is one in which values take the places of aliases
takes : (s : Tree) → IsHandlers s → is_engines s ≡ false → TakesValues s
takes (node (label.Clause (clause.Trait i)) c) h e = tt
takes (node (label.Clause (clause.HostEffect i)) c) h e = tt
takes (node (label.Clause (clause.Projection i)) c) h e = tt
takes (node (label.Predicate (predicate.NormalizesTo i)) c) h e = absurd (cc e)
takes s h e = absurd h

keeps_engines : (s : Tree) → KeepsAliases s → is_engines s ≡ true
keeps_engines (node (label.Clause clause.WellFormed) c) h = refl
keeps_engines (node (label.Clause (clause.UnstableFeature f)) c) h = refl
keeps_engines (node (label.Predicate (predicate.AliasRelate d)) c) h = refl
keeps_engines (node (label.Predicate (predicate.NormalizesTo i)) c) h = refl
keeps_engines s h = absurd h

not_engines : (g : Tree) → is_asked g ≡ false → is_engines (statement_of g) ≡ false
not_engines g e = by_case (is_engines (statement_of g)) refl
  where
    by_case : (b : Bool) → is_engines (statement_of g) ≡ b → is_engines (statement_of g) ≡ false
    by_case true q = absurd (let clash : true ≡ false = rw q at e in cc clash)
    by_case false q = q

engines_not : (s : Tree) → is_engines s ≡ false → KeepsAliases s → ⊥
engines_not s e h = (let clash : true ≡ false = sym (keeps_engines s h) ∙ e in cc clash)

-- the aliases are of the sorts of their variables
kind_of_fresh : (s : Sort) (n : ℕ) → kind_of (variable_tree (variable_kind s) n) ≡ Some (of_sort s)
kind_of_fresh sort.Ty n = refl
kind_of_fresh sort.Region n = refl
kind_of_fresh sort.Const n = refl

abbrev first_of : Tree → Tree → Tree
first_of d (more a b) = a
first_of d t = d

abbrev rest_of : Tree → Tree
rest_of (more a b) = b
rest_of t = t

sorted : (n : ℕ) (ss : List Sort) (ps : List Pair) → right_sides ps ≡ fresh_row n ss → AllPut ps → AreOfSorts ss ps
sorted n [] [] e h = tt
sorted n [] (p ∷ ps) e h = absurd (cc e)
sorted n (s ∷ ss) [] e h = absurd (cc e)
sorted n (s ∷ ss) (p ∷ ps) e h =
    let x = h.0 in
    let first : p.right ≡ variable_tree (variable_kind s) n = ap (first_of empty) e in
    (sym x.kind ∙ ap kind_of first ∙ kind_of_fresh s n, sorted (suc n) ss ps (ap rest_of e) h.1)

rights_are : (ts : List Tree) (xs : List Relating) → map (λ (z : Pair). z.right) (pairs_at ts xs) ≡ map (tree_at ts) (right_nodes xs)
rights_are ts [] = refl
rights_are ts (x ∷ xs) = ap (λ ys. tree_at ts x.right ∷ ys) (rights_are ts xs)

-- the premise that an alias is equal to its variable
alias_head : (p : Pair) → IsAlias p.left → goal_head p ≡ predicate.AliasRelate (direction_of p.variance)
alias_head p x =
    ap (λ z. cond (z || is_alias_node p.right) (predicate.AliasRelate (direction_of p.variance)) (predicate.Subtype (expects_first p.variance))) (ap is_alias_node x.is ∙ alias_label_is x.head)

alias_pair : (p : Pair) → IsPutFor p → goal_of p ≡ directed (predicate.AliasRelate (direction_of variance.Invariant)) variance.Invariant p.left p.right
alias_pair p h =
    ap (λ x. directed x p.variance p.left p.right) (alias_head p h.alias) ∙ ap (λ v. directed (predicate.AliasRelate (direction_of v)) v p.left p.right) h.equal

module _ (us : List Tree) (c : Content) (env : ParamEnv) (K : GoalKind) (p : Premise) (same : tree_at us env.node ≡ p.environment) (s : GoalSource) (source : source_of s ≡ normalize_goal (step_kind K p.source)) where
  choices : (xs : List Relating) (gs : List Goal) → AreGoalsOfPairs us c env xs gs → AllPut (pairs_at us xs) → goals_at us (map (λ x. (s, x)) gs) ≡ map (λ (z : Pair). choice K p z.left z.right) (pairs_at us xs)
  choices [] [] h k = refl
  choices [] (g ∷ gs) h k = absurd h
  choices (x ∷ xs) [] h k = absurd h
  choices (x ∷ xs) (g ∷ gs) h k =
      let y = h.0 in
      let z : Pair = pair_at us x in
      let here : tree_at us g.param_env.node ≡ p.environment = ap (λ (e : ParamEnv). tree_at us e.node) y.param_env ∙ same in
      let says : tree_at us g.predicate.node ≡ alias_goal variance.Invariant z.left z.right = y.tree ∙ alias_pair z k.0 in
      let one : premise_at us (s, g) ≡ choice K p z.left z.right = λ i. record { source = source i; environment = here i; predicate = says i } in
      let rest = choices xs gs h.1 k.1 in
      λ i. one i ∷ rest i

-- what is put passes a test that the term and what takes the places pass, and so do the aliases
abbrev RightsPass : (Label → Bool) → List Pair → Type 0
RightsPass P ps = (z : Pair) → Among ps z → TreePasses P z.right

abbrev LeftsPass : (Label → Bool) → List Pair → Type 0
LeftsPass P ps = (z : Pair) → Among ps z → TreePasses P z.left

put_passes : (P : Label → Bool) {ps : List Pair} {a b : Tree} → HasPut ps a b → RightsPass P ps → TreePasses P a → TreePasses P b
put_passes P (put_alias {a = a} {v = v} x c) h k = h (equal_pair a v) (inl refl)
put_passes P put_empty h k = k
put_passes P (put_more {ps = ps} {qs = qs} x y) h k = (put_passes P x (λ z i. h z (among_left ps qs z i)) k.0, put_passes P y (λ z i. h z (among_right ps qs z i)) k.1)
put_passes P (put_node n x) h k = (k.0, put_passes P x h k.1)

lefts_pass : (P : Label → Bool) {ps : List Pair} {a b : Tree} → HasPut ps a b → TreePasses P a → LeftsPass P ps
lefts_pass P (put_alias x c) k z (inl e) = rw e k
lefts_pass P (put_alias x c) k z (inr i) = absurd i
lefts_pass P put_empty k z i = absurd i
lefts_pass P (put_more {ps = ps} {qs = qs} x y) k z i = ⊎_elim (lefts_pass P x k.0 z) (lefts_pass P y k.1 z) (among_split ps qs z i)
lefts_pass P (put_node n x) k z i = lefts_pass P x k.1 z i

rights_pass : (P : Label → Bool) → PassesQueries P → (n : ℕ) (ss : List Sort) (ps : List Pair) → right_sides ps ≡ fresh_row n ss → RightsPass P ps
rights_pass P q n ss [] e z i = absurd i
rights_pass P q n [] (p ∷ ps) e z i = absurd (cc e)
rights_pass P q n (s ∷ ss) (p ∷ ps) e z (inl same) =
    let first : p.right ≡ variable_tree (variable_kind s) n = ap (first_of empty) e in
    rw (same, first) (query_variables P q _ _, tt)
rights_pass P q n (s ∷ ss) (p ∷ ps) e z (inr i) = rights_pass P q (suc n) ss ps (ap rest_of e) z i

both_pass : (P : Label → Bool) (ps : List Pair) → LeftsPass P ps → RightsPass P ps → PairsPass P ps
both_pass P [] f h = tt
both_pass P (p ∷ ps) f h = (f p (inl refl), h p (inl refl), both_pass P ps (λ z i. f z (inr i)) (λ z i. h z (inr i)))

same_terms : (us : List Tree) (s : GoalSource) (gs : List Goal) → terms_of us (map (λ x. (s, x)) gs) ≡ terms_of us (with_source gs)
same_terms us s [] = refl
same_terms us s (g ∷ gs) = ap (λ z. asked_terms us g ++ z) (same_terms us s gs)

pub terms_split : (us : List Tree) (xs ys : List (GoalSource × Goal)) (z : Tree) → Among (terms_of us (xs ++ ys)) z → Among (terms_of us xs) z ⊎ Among (terms_of us ys) z
terms_split us [] ys z i = inr i
terms_split us (x ∷ xs) ys z (inl e) = inl (inl e)
terms_split us (x ∷ xs) ys z (inr (inl e)) = inl (inr (inl e))
terms_split us (x ∷ xs) ys z (inr (inr i)) = ⊎_elim (λ j. inl (inr (inr j))) (λ j. inr j) (terms_split us xs ys z i)

pub maps : (us : List Tree) (xs ys : List (GoalSource × Goal)) → goals_at us (xs ++ ys) ≡ goals_at us xs ++ goals_at us ys
maps us [] ys = refl
maps us (x ∷ xs) ys = ap (λ z. premise_at us x ∷ z) (maps us xs ys)

-- a goal that is not asked as it stands gives place to one with variables
pub puts_goal : (ts us : List Tree) (e f : Entries) (k : CurrentGoalKind) (s : GoalSource) (g : Goal) (xs : List (GoalSource × Goal)) (h : AddsFor ts us e f k s g xs) → is_asked (tree_at ts g.predicate.node) ≡ false → PutsGoal ts us e f g h.relations h.last
puts_goal ts us e f k s g xs h q = ⊎_elim (λ x. absurd (engines_not (statement_of (tree_at ts g.predicate.node)) (not_engines (tree_at ts g.predicate.node) q) x.0)) (λ x. x.1) h.stand

module _ {ts us : List Tree} {t u : Table} (k : CurrentGoalKind) (s : GoalSource) (g : Goal) (xs : List (GoalSource × Goal))
    (h : AddsFor ts us t.entries u.entries k s g xs) (x : PutsGoal ts us t.entries u.entries g h.relations h.last) (goes : Goes ts us t u) (before : IsPosed ts t g) (forms : AreFormed ts) (later : AreFormed us) (all : ArePosedIn us u xs) (not_asked : is_asked (tree_at ts g.predicate.node) ≡ false) where
  abbrev pub p : Premise
  p = premise_at ts (s, g)

  abbrev pairs : List Pair
  pairs = pairs_at us x.pairs

  engines : is_engines (statement_of p.predicate) ≡ false
  engines = not_engines p.predicate not_asked

  in_environment : tree_at us g.param_env.node ≡ p.environment
  in_environment = goes.extends.kept g.param_env.node before.holds.env.within

  last_environment : tree_at us h.last.param_env.node ≡ p.environment
  last_environment = ap (λ (e : ParamEnv). tree_at us e.node) x.environment ∙ in_environment

  posed_is : goals_at us xs ≡ posed_with (goal_kind_of k) p pairs (tree_at us h.last.predicate.node)
  posed_is =
      let v = x.puts.variables in
      let step = source.NormalizeGoal h.step in
      let first = choices us (content_of us u.entries) g.param_env (goal_kind_of k) p in_environment step (ap normalize_goal h.kind) x.pairs h.relations x.goals v.puts in
      let last : premise_at us (s, h.last) ≡ record p { predicate = tree_at us h.last.predicate.node } = ap (λ e. record { source = source_of s; environment = e; predicate = tree_at us h.last.predicate.node }) last_environment in
      ap (goals_at us) h.is ∙ maps us (map (λ y. (step, y)) h.relations) ((s, h.last) ∷ []) ∙ (λ i. first i ++ last i ∷ [])

  terms : (q : Premise) → Among (goals_at us xs) q → Knows (content_of us u.entries) q.environment × Knows (content_of us u.entries) q.predicate × IsFormed q.predicate
  terms q i =
      let (z, j, e) = among_mapped (premise_at us) xs q i in
      let here = all_among (λ (y : GoalSource × Goal). IsPosed us u y.1) xs z all j in
      rw e (here.knows.env, here.knows.predicate, later z.1.predicate.node here.holds.predicate.within)

  pub new_posed : PutsNew (goal_kind_of k) (content_of ts t.entries) p (content_of us u.entries) (goals_at us xs)
  new_posed =
      let v = x.puts.variables in
      let nodes = right_nodes x.pairs in
      record {
        proper = proper_content before.table;
        current = before.table.now.proper.current;
        says = takes (statement_of p.predicate) (predicate_kinds p.predicate before.holds.predicate.fits (forms g.predicate.node before.holds.predicate.within) engines) engines;
        formed = (forms g.param_env.node before.holds.env.within, forms g.predicate.node before.holds.predicate.within);
        knows = (before.knows.env, before.knows.predicate);
        sorts = v.sorts;
        variables = map (tree_at us) nodes;
        fresh = gave_freshened v.sorts nodes before.table goes.table goes.extends v.entries (right_row us x.pairs ∙ v.row);
        pairs = pairs;
        of_sorts = sorted (length t.entries.variables) v.sorts pairs v.row v.puts;
        rights = rights_are us x.pairs;
        goal = tree_at us h.last.predicate.node;
        put = x.puts.put;
        posed = posed_is;
        terms = terms;
      }

  pub new_brings : (P : Label → Bool) → PassesQueries P → ((z : Tree) → Among (asked_terms ts g) z → TreePasses P z) → TablePasses P (content_of ts t.entries) → TablePasses P (content_of us u.entries) × ((z : Tree) → Among (terms_of us xs) z → TreePasses P z)
  new_brings P q m w =
      let v = x.puts.variables in
      let step = source.NormalizeGoal h.step in
      let rights = rights_pass P q (length t.entries.variables) v.sorts pairs v.row in
      let lefts = lefts_pass P x.puts.put (m p.predicate (inr (inl refl))) in
      let env : TreePasses P (tree_at us g.param_env.node) = subst (TreePasses P) (sym in_environment) (m p.environment (inl refl)) in
      let first = labels_each us (content_of us u.entries) g.param_env P q env x.pairs h.relations x.goals (both_pass P pairs lefts rights) in
      let brought = fresh_brings ts us t.entries u.entries v.sorts before.table.now goes.extends v.entries in
      let ones : (z : Tree) → Among (terms_of us (map (λ y. (step, y)) h.relations)) z → TreePasses P z = λ z i. first z (subst (λ l. Among l z) (same_terms us step h.relations) i) in
      let last : (z : Tree) → Among (asked_terms us h.last) z → TreePasses P z = λ z i. elim i [
        | inl e ↦ subst (TreePasses P) (sym (e ∙ last_environment)) (m p.environment (inl refl))
        | inr (inl e) ↦ subst (TreePasses P) (sym e) (put_passes P x.puts.put rights (m p.predicate (inr (inl refl))))
        | inr (inr j) ↦ absurd j
      ] in (
        brought.labels P (query_variables P q) w,
        λ z i. ⊎_elim (ones z) (λ j. last z j) (terms_split us (map (λ y. (step, y)) h.relations) ((s, h.last) ∷ []) z (subst (λ l. Among (terms_of us l) z) h.is i)),
      )
