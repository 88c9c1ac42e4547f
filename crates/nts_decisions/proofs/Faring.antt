-- How the candidates of a decided goal fare in the table of its query: which of them a world meets, and what becomes of the
-- goals of those.
use Rattle.std.proofs.Common.{◌≡◌, inl, inr, ℕ, ◌≤◌, Bool, true, false, List, [], ◌∷◌, ◌++◌, map, refl, sym, ap, subst, ◌∙◌, arith}
use Rattle.nts_model.specs.declared.labels.Relation.{Relation}
use Rattle.nts_model.specs.declared.labels.Relation.TheVariants as relation
use Rattle.nts_model.specs.declared.labels.VariableKind.TheVariants as kind
use Rattle.nts_model.specs.declared.labels.Leaf.TheVariants as leaf
use Rattle.nts_model.specs.declared.labels.BoundVarIndexKind.TheVariants as index
use Rattle.nts_model.specs.declared.labels.Label.{Label}
use Rattle.nts_model.specs.declared.labels.Label.TheVariants as label
use Rattle.nts_model.specs.Terms.Trees.{Tree, empty, more, node, any_label, is_canonical, IsFormed}
use Rattle.nts_model.specs.Tables.Contents.{Content, Recorded, with_constraint}
use Rattle.nts_model.specs.Tables.Resolving.{Knows, IsSound, deeply_resolved}
use Rattle.nts_model.specs.Tables.Levels.{term_level, NamesAll}
use Rattle.nts_model.specs.Tables.RegionClasses.{reading}
use Rattle.nts_model.specs.Tables.Solvable.{IsSolvable}
use Rattle.nts_model.specs.Tables.Worlds.{World, AreMet, Solves}
use Rattle.nts_model.specs.Tables.Holding.{Continues}
use Rattle.nts_model.specs.Terms.Substitutions.{put, filled, position_of, value_or}
use Rattle.nts_model.specs.Lists.{Among}
use Rattle.nts_model.specs.Derivations.Related.{Constraint}
use Rattle.nts_model.specs.Derivations.Sequents.{Premise}
use Rattle.nts_model.specs.Derivations.Rules.{Mode, Equation}
use Rattle.nts_model.specs.Derivations.Handlers.{Handler, Candidate, equation_by, constraint_by, premise_by}
use Rattle.nts_model.specs.Refutation.Choosing.{left_of, right_of, IsCandidateMet}
use Rattle.nts_model.specs.Refutation.Forcing.{seen_as, AddsBy, AddsAll}
use Rattle.nts_model.proofs.Terms.Unpositioned.{filled-none}
use Rattle.nts_model.proofs.Tables.Solvable.{reading-solves}
use Rattle.nts_model.proofs.Tables.Kept.{deeply_resolved-no_variables}
use Rattle.nts_theory.specs.RelatingCandidates.{goals_with}
use Rattle.nts_decisions.specs.Deciding.{blurred_leaf, blurred, blurred_environment, blurred_premise, blurred_candidate, MeetsBlurred, FixesGoals, IsDecided, OneHolds, none_left, then_fails, then_holds, CandidateIs, is_unmet, is_met, GoalsAre, all_yes, one_yes, one_no, IsGoalDecided}
use Rattle.nts_theory.proofs.Refutation.Trying.{equated_back}
use Rattle.nts_theory.proofs.Refutation.Freshening.{freshened_back}
use Rattle.nts_decisions.proofs.DecidingRenamed.{left_by, right_by, among_back}
use Rattle.nts_decisions.proofs.DecidedGoals.{IsOfConstants, goal_is_fixed}
use Rattle.nts_decisions.proofs.DecidedInfer.{decided_later}
use Rattle.nts_decisions.proofs.BlurredMeeting.{met_meets, meets_met}
use Rattle.nts_decisions.specs.Queries.{HasNoVariables}
use Rattle.nts_decisions.specs.Faring.{IsOfTable, AreDecidedIn, Fares, IsBegunHere, OneFares, by_goals, next_fails, next_holds, next_no, next_yes, no_more, no_world, none_asked}

-- values in a term that is blurred
twice_label : (vs : List Tree) (l : Label) (t u : Tree) → blurred u ≡ blurred (filled vs t) → u ≡ filled vs (blurred t) → blurred (filled vs (put blurred_leaf l (blurred t))) ≡ blurred (value_or (position_of l) vs (node l (filled vs t)))
twice_label vs (label.Leaf (leaf.Variable kind.Region n)) t u e q = refl
twice_label vs (label.Leaf (leaf.Variable kind.Ty n)) t u e q = refl
twice_label vs (label.Leaf (leaf.Variable kind.Int n)) t u e q = refl
twice_label vs (label.Leaf (leaf.Variable kind.Float n)) t u e q = refl
twice_label vs (label.Leaf (leaf.Variable kind.Const n)) t u e q = refl
twice_label vs (label.Leaf (leaf.Region r)) t u e q = refl
twice_label vs (label.Leaf (leaf.TyConstant a)) t u e q = refl
twice_label vs (label.Leaf (leaf.ConstConstant a)) t u e q = refl
twice_label vs (label.Bound s (index.Bound d) n) t u e q = ap (node (label.Bound s (index.Bound d) n)) (ap blurred (sym q) ∙ e)
twice_label vs (label.Bound s index.Canonical n) t u e q = refl
twice_label vs (label.Ty x) t u e q = ap (node (label.Ty x)) (ap blurred (sym q) ∙ e)
twice_label vs (label.Const x) t u e q = ap (node (label.Const x)) (ap blurred (sym q) ∙ e)
twice_label vs (label.Clause x) t u e q = ap (node (label.Clause x)) (ap blurred (sym q) ∙ e)
twice_label vs (label.Predicate x) t u e q = ap (node (label.Predicate x)) (ap blurred (sym q) ∙ e)
twice_label vs (label.List x) t u e q = ap (node (label.List x)) (ap blurred (sym q) ∙ e)

pub filled_twice : (vs : List Tree) (t : Tree) → blurred (filled vs (blurred t)) ≡ blurred (filled vs t)
filled_twice vs empty = refl
filled_twice vs (more a b) = cc (filled_twice vs a, filled_twice vs b)
filled_twice vs (node l t) = twice_label vs l t (filled vs (blurred t)) (filled_twice vs t) refl

pub among_by : {A B : Type 0} (f : A → B) (xs : List A) (x : A) → Among xs x → Among (map f xs) (f x)
among_by f [] x i = absurd i
among_by f (y ∷ xs) x (inl e) = inl (ap f e)
among_by f (y ∷ xs) x (inr i) = inr (among_by f xs x i)

-- a candidate and what is decided of it but for regions
pub meets_raw : (x : Candidate) (vs : List Tree) → MeetsBlurred (blurred_candidate x) vs → MeetsBlurred x vs
meets_raw x vs m =
    record {
      values = m.values;
      equal = λ q i.
          (let e = m.equal (equation_by blurred q) (among_by (equation_by blurred) x.equations q i) in
          sym (ap (λ z. blurred (filled vs z)) (left_by blurred q) ∙ filled_twice vs (left_of q)) ∙ e ∙ (ap (λ z. blurred (filled vs z)) (right_by blurred q) ∙ filled_twice vs (right_of q)));
    }

pub meets_blurred : (x : Candidate) (vs : List Tree) → MeetsBlurred x vs → MeetsBlurred (blurred_candidate x) vs
meets_blurred x vs m =
    record {
      values = m.values;
      equal = λ q i.
          (let r = among_back (equation_by blurred) x.equations q i in
          let left : left_of q ≡ blurred (left_of r.of) = ap left_of r.same ∙ left_by blurred r.of in
          let right : right_of q ≡ blurred (right_of r.of) = ap right_of r.same ∙ right_by blurred r.of in
          ap (λ z. blurred (filled vs z)) left ∙ filled_twice vs (left_of r.of) ∙ m.equal r.of r.found ∙ sym (ap (λ z. blurred (filled vs z)) right ∙ filled_twice vs (right_of r.of)));
    }

pub fixes_raw : (x : Candidate) → FixesGoals (blurred_candidate x) → FixesGoals x
fixes_raw x f vs us p mv mu i =
    sym (filled_twice vs p.predicate) ∙ f vs us (blurred_premise p) (meets_blurred x vs mv) (meets_blurred x us mu) (among_by blurred_premise x.goals p i) ∙ filled_twice us p.predicate

-- the same in each later table
pub one_then : (h : Handler) (mode : Mode) (m : ℕ) (c d : Content) (p : Premise) (b : Bool) → Continues c d → IsOfTable c p → IsGoalDecided h mode m (deeply_resolved c p.environment) (deeply_resolved c p.predicate) b → IsGoalDecided h mode m (deeply_resolved d p.environment) (deeply_resolved d p.predicate) b
one_then h mode m c d p b k t x =
    let v = t.environment in
    let env : deeply_resolved d p.environment ≡ deeply_resolved c p.environment = deeply_resolved-no_variables d p.environment v.infer v.regions ∙ sym (deeply_resolved-no_variables c p.environment v.infer v.regions) in
    let says : blurred (deeply_resolved d p.predicate) ≡ blurred (deeply_resolved c p.predicate) = decided_later h mode (blurred_environment (deeply_resolved c p.environment)) m b c d p.predicate k t.knows t.formed x in
    subst (λ z. IsDecided h mode (blurred_environment z) m (blurred (deeply_resolved d p.predicate)) b) (sym env) (subst (λ z. IsDecided h mode (blurred_environment (deeply_resolved c p.environment)) m z b) (sym says) x)

pub decided_then : (h : Handler) (mode : Mode) (n : ℕ) (c d : Content) (ps : List Premise) (b : Bool) → Continues c d → ((p : Premise) → Among ps p → IsOfTable c p) → AreDecidedIn h mode n c ps b → AreDecidedIn h mode n d ps b
decided_then h mode n c d [] b k t none_asked = none_asked
decided_then h mode n c d (p ∷ ps) b k t (next_yes m l x r) = next_yes m l (one_then h mode m c d p true k (t p (inl refl)) x) (decided_then h mode n c d ps b k (λ q i. t q (inr i)) r)
decided_then h mode n c d (p ∷ ps) b k t (next_no m l x) = next_no m l (one_then h mode m c d p false k (t p (inl refl)) x)

-- the constraints that were added are of the table
before_last : (w : World) (xs : List Recorded) (x : Recorded) → AreMet w (xs ++ x ∷ []) → AreMet w xs
before_last w [] x h = tt
before_last w (y ∷ xs) x h = (h.0, before_last w xs x h.1)

without : (c : Content) (x : Constraint) (w : World) → Solves (with_constraint c (seen_as x)) w → Solves c w
without c x w s = record { values = s.values; constraints = before_last w c.constraints (seen_as x) s.constraints; nameable = (let k = s.nameable in record { each = k.each }); fitting = (let k = s.fitting in record { each = k.each }) }

added_back_by : (r : Relation) (x : Constraint) (c d : Content) (w : World) → AddsBy r x c d → Solves d w → Solves c w
added_back_by relation.Equal x c d w a s = (a.sound w s).0
added_back_by relation.RegionOutlives x c d w (inl (same, is)) s = subst (λ z. Solves z w) is s
added_back_by relation.RegionOutlives x c d w (inr is) s = without c x w (subst (λ z. Solves z w) is s)
added_back_by relation.TypeOutlives x c d w (inl (same, is)) s = subst (λ z. Solves z w) is s
added_back_by relation.TypeOutlives x c d w (inr is) s = without c x w (subst (λ z. Solves z w) is s)

pub added_back : (xs : List Tree) (ys : List Constraint) (c d : Content) (w : World) → AddsAll xs ys c d → Solves d w → Solves c w
added_back xs [] c d w a s = subst (λ z. Solves z w) a s
added_back xs (y ∷ ys) c d w (e, one, rest) s = added_back_by y.relation (constraint_by (filled xs) y) c e w one (added_back xs ys e d w rest s)

-- what is known of a candidate for a goal without variables, in its table
pub record IsConstantCandidate (c : Content) (e : Tree) (x : Candidate) : Type 0 where
  pub constants : IsOfConstants x
  pub names : (q : Equation) → Among x.equations q → NamesAll term_level c.universe (left_of q) × NamesAll term_level c.universe (right_of q)
  pub environments : (p : Premise) → Among x.goals p → p.environment ≡ e

pub record IsConstantEnvironment (e : Tree) : Type 0 where
  pub variables : HasNoVariables e
  pub positions : any_label is_canonical e ≡ false

module _ (h : Handler) (mode : Mode) (e : Tree) (env : IsConstantEnvironment e) (c : Content) (sound : IsSound c) (solvable : IsSolvable c) (n : ℕ) where
  same_environment : (met : Content) (chosen : List Tree) (p : Premise) → p.environment ≡ e → deeply_resolved met (filled chosen p.environment) ≡ e
  same_environment met chosen p s =
      let v = env.variables in
      ap (λ z. deeply_resolved met (filled chosen z)) s ∙ ap (deeply_resolved met) (filled-none chosen e env.positions) ∙ deeply_resolved-no_variables met e v.infer v.regions

  -- one goal, and all
  module _ (x : Candidate) (k : IsConstantCandidate c e x) (vs : List Tree) (meets : MeetsBlurred x vs) (fixes : FixesGoals x) (chosen : List Tree) (met : Content) (here : IsBegunHere c x chosen met) where
    fixed : (p : Premise) → Among x.goals p → blurred (deeply_resolved met (filled chosen p.predicate)) ≡ blurred (filled vs p.predicate)
    fixed p i =
        let b = here.begun in
        let w : World = reading met in
        let s : Solves met w = reading-solves met here.sound here.solvable in
        let back = equated_back chosen x.equations b.made b.equal w b.equates (added_back chosen x.constraints b.equal met w b.adds s) in
        let before = freshened_back c.universe x.fresh chosen c b.made w b.freshens back.0 in
        goal_is_fixed x k.constants met here.sound here.solvable chosen before.fit (back.1.each) vs p meets fixes i (here.knows p i)

    one_goal : (m : ℕ) (b : Bool) (p : Premise) → Among x.goals p → IsDecided h mode (blurred_environment e) m (blurred (filled vs (blurred p.predicate))) b
        → IsGoalDecided h mode m (deeply_resolved met (filled chosen p.environment)) (deeply_resolved met (filled chosen p.predicate)) b
    one_goal m b p i d =
        subst (λ z. IsDecided h mode (blurred_environment z) m (blurred (deeply_resolved met (filled chosen p.predicate))) b) (sym (same_environment met chosen p (k.environments p i)))
        (subst (λ z. IsDecided h mode (blurred_environment e) m z b) (filled_twice vs p.predicate ∙ sym (fixed p i)) d)

    goals_fare : (ps : List Premise) (m : ℕ) (b : Bool) → ((p : Premise) → Among ps p → Among x.goals p) → m ≤ n → GoalsAre h mode (blurred_environment e) m vs (map blurred_premise ps) b → AreDecidedIn h mode n met (goals_with chosen ps) b
    goals_fare [] m b all l all_yes = none_asked
    goals_fare (p ∷ ps) m b all l (one_yes {m = m1} {k = m2} d r s) =
        next_yes m1 (omega (arith, l, s)) (one_goal m1 true p (all p (inl refl)) d) (goals_fare ps m2 b (λ q i. all q (inr i)) (omega (arith, l, s)) r)
    goals_fare (p ∷ ps) m b all l (one_no {m = m1} d s) = next_no m1 (omega (arith, l, s)) (one_goal m1 false p (all p (inl refl)) d)

  of_table : (x : Candidate) → IsConstantCandidate c e x → (chosen : List Tree) (met : Content) → IsBegunHere c x chosen met → (p : Premise) → Among (goals_with chosen x.goals) p → IsOfTable met p
  of_table x k chosen met here p i =
      let r = among_back (premise_by (filled chosen)) x.goals p i in
      let same : p.environment ≡ e = ap (λ z. z.environment) r.same ∙ ap (filled chosen) (k.environments r.of r.found) ∙ filled-none chosen e env.positions in
      record {
        environment = subst HasNoVariables (sym same) env.variables;
        knows = subst (λ z. Knows met z.predicate) (sym r.same) (here.knows r.of r.found);
        formed = subst (λ z. IsFormed (deeply_resolved met z.predicate)) (sym r.same) (here.formed r.of r.found);
      }

  pub candidate_fares : (x : Candidate) (m : ℕ) (b : Bool) → IsConstantCandidate c e x → m ≤ n → CandidateIs h mode (blurred_environment e) m (blurred_candidate x) b → Fares h mode n c x b
  candidate_fares x m b k l (is_unmet u) = no_world (λ w. u w.values (meets_blurred x w.values (met_meets c x k.constants w)))
  candidate_fares x m b k l (is_met vs i f gs) =
      by_goals (meets_met c x vs sound solvable k.constants k.names (meets_raw x vs i)) (λ chosen met here. record { decided = goals_fare x k vs (meets_raw x vs i) (fixes_raw x f) chosen met here x.goals m b (λ p j. j) l gs; each = λ p j. of_table x k chosen met here p j })

  pub all_fare : (ys : List Candidate) (m : ℕ) (b : Bool) → ((y : Candidate) → Among ys y → IsConstantCandidate c e y) → m ≤ n → OneHolds h mode (blurred_environment e) m (map blurred_candidate ys) b → OneFares h mode n c ys b
  all_fare [] m b k l none_left = no_more
  all_fare (y ∷ ys) m b k l (then_fails {m = m1} {k = m2} d r s) = next_fails (candidate_fares y m1 false (k y (inl refl)) (omega (arith, l, s)) d) (all_fare ys m2 b (λ z i. k z (inr i)) (omega (arith, l, s)) r)
  all_fare (y ∷ ys) m b k l (then_holds {m = m1} {k = m2} d r s) = next_holds (candidate_fares y m1 true (k y (inl refl)) (omega (arith, l, s)) d) (all_fare ys m2 false (λ z i. k z (inr i)) (omega (arith, l, s)) r)

-- seen from the end of the list
module _ (h : Handler) (mode : Mode) (n : ℕ) (c : Content) where
  pub data LastFares (ys : List Candidate) (x : Candidate) : Bool → Type 0 where
    last_fails : {b : Bool} → Fares h mode n c x false → OneFares h mode n c ys b → LastFares ys x b
    last_holds : Fares h mode n c x true → OneFares h mode n c ys false → LastFares ys x true

  before_fails : (y : Candidate) (ys : List Candidate) (x : Candidate) (b : Bool) → Fares h mode n c y false → LastFares ys x b → LastFares (y ∷ ys) x b
  before_fails y ys x b f (last_fails g r) = last_fails g (next_fails f r)
  before_fails y ys x b f (last_holds g r) = last_holds g (next_fails f r)

  before_holds : (y : Candidate) (ys : List Candidate) (x : Candidate) (b : Bool) → b ≡ false → Fares h mode n c y true → LastFares ys x b → LastFares (y ∷ ys) x true
  before_holds y ys x b e f (last_fails g r) = last_fails g (next_holds f (rw e at r))
  before_holds y ys x b e f (last_holds g r) = absurd (cc e)

  pub last_of : (ys : List Candidate) (x : Candidate) (b : Bool) → OneFares h mode n c (ys ++ x ∷ []) b → LastFares ys x b
  last_of [] x b (next_fails f r) = last_fails f r
  last_of [] x b (next_holds f r) = last_holds f r
  last_of (y ∷ ys) x b (next_fails f r) = before_fails y ys x b f (last_of ys x b r)
  last_of (y ∷ ys) x b (next_holds f r) = before_holds y ys x false refl f (last_of ys x false r)

  pub with_failed : (ys : List Candidate) (x : Candidate) (b : Bool) → OneFares h mode n c ys b → Fares h mode n c x false → OneFares h mode n c (ys ++ x ∷ []) b
  with_failed [] x b no_more f = next_fails f no_more
  with_failed (y ∷ ys) x b (next_fails g r) f = next_fails g (with_failed ys x b r f)
  with_failed (y ∷ ys) x b (next_holds g r) f = next_holds g (with_failed ys x false r f)

  pub with_held : (ys : List Candidate) (x : Candidate) → OneFares h mode n c ys false → Fares h mode n c x true → OneFares h mode n c (ys ++ x ∷ []) true
  with_held [] x no_more f = next_holds f no_more
  with_held (y ∷ ys) x (next_fails g r) f = next_fails g (with_held ys x r f)

  -- what no world meets is decided no
  pub never_held : (x : Candidate) (b : Bool) → (IsCandidateMet c x → ⊥) → Fares h mode n c x b → b ≡ false
  never_held x b u (no_world v) = refl
  never_held x b u (by_goals m g) = absurd (u m)
