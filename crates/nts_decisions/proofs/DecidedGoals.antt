-- The goals of a candidate that is tried: what its equations fix is known once they are made equal, and stays but for regions.
use Rattle.std.proofs.Common.{◌≡◌, ℕ, false, List, map, refl, sym, ap, ◌∙◌}
use Rattle.nts_model.specs.declared.labels.VariableKind.{VariableKind}
use Rattle.nts_model.specs.declared.labels.VariableKind.TheVariants as kind
use Rattle.nts_model.specs.declared.labels.Leaf.TheVariants as leaf
use Rattle.nts_model.specs.declared.labels.BoundVarIndexKind.TheVariants as index
use Rattle.nts_model.specs.declared.labels.Label.{Label}
use Rattle.nts_model.specs.declared.labels.Label.TheVariants as label
use Rattle.nts_model.specs.Terms.Trees.{Tree, empty, more, node, any_label, is_infer, is_region_infer, IsFormed, variable_of}
use Rattle.nts_model.specs.Tables.Contents.{Content}
use Rattle.nts_model.specs.Tables.Resolving.{KnowsVariable, Knows, resolved, deeply_resolved, rooted, rooted_variable, kind_or_type, IsSound}
use Rattle.nts_model.specs.Terms.Regions.{RegionName, of_variable}
use Rattle.nts_model.specs.Tables.RegionClasses.{plain, plain_tree, reading}
use Rattle.nts_model.specs.Tables.Solvable.{IsSolvable}
use Rattle.nts_model.specs.Tables.Worlds.{World, inst}
use Rattle.nts_model.specs.Tables.Holding.{Continues}
use Rattle.nts_model.specs.Terms.Substitutions.{leaf_tree, put, filled, position_of, value_or}
use Rattle.nts_model.specs.Lists.{Among}
use Rattle.nts_model.specs.Derivations.Sequents.{Premise}
use Rattle.nts_model.specs.Derivations.Rules.{Equation}
use Rattle.nts_model.specs.Derivations.Handlers.{Candidate, AreValuesOf}
use Rattle.nts_model.specs.Answers.Responses.{read_in}
use Rattle.nts_model.specs.Refutation.Choosing.{left_of, right_of}
use Rattle.nts_decisions.specs.Deciding.{blurred, MeetsBlurred, FixesGoals}
use Rattle.nts_model.proofs.Tables.Readings.{classes, inst-reading}
use Rattle.nts_model.proofs.Tables.Open.{Knows-resolved}
use Rattle.nts_model.proofs.Tables.Kept.{resolved-no_infer}
use Rattle.nts_model.proofs.Terms.Unpositioned.{or_false}
use Rattle.nts_model.proofs.Canonical.Positioned.{inst-filled}
use Rattle.nts_decisions.proofs.BlurredWorlds.{name_blurred}
use Rattle.nts_decisions.specs.Queries.{HasNoVariables}

-- roots of region variables make no difference
rooted_label : (c : Content) (l : Label) (t u : Tree) → blurred u ≡ blurred t → blurred (node (rooted_variable c (variable_of l) l) u) ≡ blurred (node l t)
rooted_label c (label.Leaf (leaf.Variable kind.Region n)) t u e = refl
rooted_label c (label.Leaf (leaf.Variable kind.Ty n)) t u e = refl
rooted_label c (label.Leaf (leaf.Variable kind.Int n)) t u e = refl
rooted_label c (label.Leaf (leaf.Variable kind.Float n)) t u e = refl
rooted_label c (label.Leaf (leaf.Variable kind.Const n)) t u e = refl
rooted_label c (label.Leaf (leaf.Region r)) t u e = refl
rooted_label c (label.Leaf (leaf.TyConstant a)) t u e = refl
rooted_label c (label.Leaf (leaf.ConstConstant a)) t u e = refl
rooted_label c (label.Bound a b n) t u e = ap (node (label.Bound a b n)) e
rooted_label c (label.Ty x) t u e = ap (node (label.Ty x)) e
rooted_label c (label.Const x) t u e = ap (node (label.Const x)) e
rooted_label c (label.Clause x) t u e = ap (node (label.Clause x)) e
rooted_label c (label.Predicate x) t u e = ap (node (label.Predicate x)) e
rooted_label c (label.List x) t u e = ap (node (label.List x)) e

pub rooted_blurred : (c : Content) (t : Tree) → blurred (rooted c t) ≡ blurred t
rooted_blurred c empty = refl
rooted_blurred c (more a b) = cc (rooted_blurred c a, rooted_blurred c b)
rooted_blurred c (node l t) = rooted_label c l t (rooted c t) (rooted_blurred c t)

pub deeply_resolved_blurred : (c : Content) (t : Tree) → blurred (deeply_resolved c t) ≡ blurred (resolved c t)
deeply_resolved_blurred c t = rooted_blurred c (resolved c t)

-- a goal that a table knows but for its regions is the same in each later table, but for its regions
pub later_blurred : (c d : Content) (t : Tree) → Continues c d → Knows c t → any_label is_infer (deeply_resolved c t) ≡ false → blurred (deeply_resolved d t) ≡ blurred (deeply_resolved c t)
later_blurred c d t k h none =
    let s : Tree = deeply_resolved c t in
    ap blurred (sym (k.values t h)) ∙ deeply_resolved_blurred d s ∙ ap blurred (resolved-no_infer d s none)

-- the table's own reading
plain_blurred : (f : RegionName → RegionName) (k : VariableKind) (n : ℕ) (u : Tree) → blurred (plain_tree f k n) ≡ blurred (node (label.Leaf (leaf.Variable k n)) u)
plain_blurred f kind.Region n u = name_blurred (f (of_variable n))
plain_blurred f kind.Ty n u = refl
plain_blurred f kind.Int n u = refl
plain_blurred f kind.Float n u = refl
plain_blurred f kind.Const n u = refl

plain_label : (c : Content) (f : RegionName → RegionName) (l : Label) (t u : Tree) → KnowsVariable c (variable_of l) → blurred u ≡ blurred t → u ≡ inst (plain c f) t → blurred (inst (plain c f) (node l t)) ≡ blurred (node l t)
plain_label c f (label.Leaf (leaf.Variable k n)) t u h e q = ap (λ z. blurred (plain_tree f (kind_or_type z) n)) h ∙ plain_blurred f k n t
plain_label c f (label.Leaf (leaf.Region r)) t u h e q = refl
plain_label c f (label.Leaf (leaf.TyConstant a)) t u h e q = refl
plain_label c f (label.Leaf (leaf.ConstConstant a)) t u h e q = refl
plain_label c f (label.Bound a b n) t u h e q = ap (node (label.Bound a b n)) (ap blurred (sym q) ∙ e)
plain_label c f (label.Ty x) t u h e q = ap (node (label.Ty x)) (ap blurred (sym q) ∙ e)
plain_label c f (label.Const x) t u h e q = ap (node (label.Const x)) (ap blurred (sym q) ∙ e)
plain_label c f (label.Clause x) t u h e q = ap (node (label.Clause x)) (ap blurred (sym q) ∙ e)
plain_label c f (label.Predicate x) t u h e q = ap (node (label.Predicate x)) (ap blurred (sym q) ∙ e)
plain_label c f (label.List x) t u h e q = ap (node (label.List x)) (ap blurred (sym q) ∙ e)

plain_inst : (c : Content) (f : RegionName → RegionName) (t : Tree) → Knows c t → blurred (inst (plain c f) t) ≡ blurred t
plain_inst c f empty h = refl
plain_inst c f (more a b) h = cc (plain_inst c f a h.0, plain_inst c f b h.1)
plain_inst c f (node l t) h = plain_label c f l t (inst (plain c f) t) h.0.0 (plain_inst c f t h.1) refl

pub reading_blurred : (c : Content) (t : Tree) → IsSound c → Knows c t → blurred (inst (reading c) t) ≡ blurred (deeply_resolved c t)
reading_blurred c t s h =
    ap blurred (inst-reading c t s h) ∙ plain_inst c (classes c) (resolved c t) (Knows-resolved c t s h) ∙ sym (deeply_resolved_blurred c t)

one_variable : (k : VariableKind) (n : ℕ) → is_infer (label.Leaf (leaf.Variable k n)) ≡ false → is_region_infer (label.Leaf (leaf.Variable k n)) ≡ false → ⊥
one_variable kind.Region n e f = absurd (cc f)
one_variable kind.Ty n e f = absurd (cc e)
one_variable kind.Int n e f = absurd (cc e)
one_variable kind.Float n e f = absurd (cc e)
one_variable kind.Const n e f = absurd (cc e)

read_label : (w : World) (vs : List Tree) (l : Label) (c a b : Tree) → is_infer l ≡ false → is_region_infer l ≡ false → blurred a ≡ blurred b
    → blurred (value_or (position_of l) vs (put (λ x. inst w (leaf_tree x)) l a)) ≡ blurred (value_or (position_of l) vs (node l b))
read_label w vs (label.Leaf (leaf.Variable k n)) c a b e f q = absurd (one_variable k n e f)
read_label w vs (label.Leaf (leaf.Region r)) c a b e f q = refl
read_label w vs (label.Leaf (leaf.TyConstant x)) c a b e f q = refl
read_label w vs (label.Leaf (leaf.ConstConstant x)) c a b e f q = refl
read_label w vs (label.Bound s (index.Bound d) n) c a b e f q = ap (node (label.Bound s (index.Bound d) n)) q
read_label w vs (label.Bound s index.Canonical n) c a b e f q = refl
read_label w vs (label.Ty x) c a b e f q = ap (node (label.Ty x)) q
read_label w vs (label.Const x) c a b e f q = ap (node (label.Const x)) q
read_label w vs (label.Clause x) c a b e f q = ap (node (label.Clause x)) q
read_label w vs (label.Predicate x) c a b e f q = ap (node (label.Predicate x)) q
read_label w vs (label.List x) c a b e f q = ap (node (label.List x)) q

no_variables_first : (a b : Tree) → HasNoVariables (more a b) → HasNoVariables a
no_variables_first a b h = record { infer = (or_false (any_label is_infer a) (any_label is_infer b) h.infer).0; regions = (or_false (any_label is_region_infer a) (any_label is_region_infer b) h.regions).0 }

no_variables_rest : (a b : Tree) → HasNoVariables (more a b) → HasNoVariables b
no_variables_rest a b h = record { infer = (or_false (any_label is_infer a) (any_label is_infer b) h.infer).1; regions = (or_false (any_label is_region_infer a) (any_label is_region_infer b) h.regions).1 }

pub read_blurred : (w : World) (vs : List Tree) (t : Tree) → HasNoVariables t → blurred (read_in w vs t) ≡ blurred (filled vs t)
read_blurred w vs empty h = refl
read_blurred w vs (more a b) h = cc (read_blurred w vs a (no_variables_first a b h), read_blurred w vs b (no_variables_rest a b h))
read_blurred w vs (node l c) h =
    let e = or_false (is_infer l) (any_label is_infer c) h.infer in
    let f = or_false (is_region_infer l) (any_label is_region_infer c) h.regions in
    read_label w vs l c (read_in w vs c) (filled vs c) e.0 f.0 (read_blurred w vs c (record { infer = e.1; regions = f.1 }))

-- the terms of a candidate, in a query whose goal has no variables
pub record IsOfConstants (x : Candidate) : Type 0 where
  pub equations : (q : Equation) → Among x.equations q → HasNoVariables (left_of q) × HasNoVariables (right_of q)
  pub formed : (q : Equation) → Among x.equations q → IsFormed (left_of q) × IsFormed (right_of q)
  pub goals : (p : Premise) → Among x.goals p → HasNoVariables p.predicate
  pub goals_formed : (p : Premise) → Among x.goals p → IsFormed p.predicate

-- what is chosen in a table in which the equations hold meets them, and its goals are those that the equations fix
module _ (x : Candidate) (of_constants : IsOfConstants x) (d : Content) (sound : IsSound d) (solvable : IsSolvable d) (chosen : List Tree)
    (values : AreValuesOf x.fresh (map (inst (reading d)) chosen))
    (equal : (q : Equation) → Among x.equations q → inst (reading d) (filled chosen (left_of q)) ≡ inst (reading d) (filled chosen (right_of q))) where
  abbrev read_values : List Tree
  read_values = map (inst (reading d)) chosen

  filled_read : (t : Tree) → IsFormed t → HasNoVariables t → blurred (inst (reading d) (filled chosen t)) ≡ blurred (filled read_values t)
  filled_read t f h = ap blurred (inst-filled (reading d) chosen t f) ∙ read_blurred (reading d) read_values t h

  pub chosen_meet : MeetsBlurred x read_values
  chosen_meet =
      record {
        values = values;
        equal = λ q i.
            (let f = of_constants.formed q i in
            let n = of_constants.equations q i in
            sym (filled_read (left_of q) f.0 n.0) ∙ ap blurred (equal q i) ∙ filled_read (right_of q) f.1 n.1);
      }

  pub goal_is_fixed : (vs : List Tree) (p : Premise) → MeetsBlurred x vs → FixesGoals x → Among x.goals p → Knows d (filled chosen p.predicate) → blurred (deeply_resolved d (filled chosen p.predicate)) ≡ blurred (filled vs p.predicate)
  goal_is_fixed vs p m fixes i k =
      sym (reading_blurred d (filled chosen p.predicate) sound k) ∙ filled_read p.predicate (of_constants.goals_formed p i) (of_constants.goals p i) ∙ fixes read_values vs p chosen_meet m i
