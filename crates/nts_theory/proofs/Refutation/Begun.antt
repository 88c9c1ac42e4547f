-- A caller of a query, and candidates that are begun in its table.
use Rattle.std.proofs.Common.{ℕ, ◌≡◌, inl, inr, ◌≤◌, List, [], ◌∷◌, Option, Some, None, refl, sym, subst}
use Rattle.nts_model.specs.declared.labels.Leaf.{Leaf}
use Rattle.nts_model.specs.declared.labels.Leaf.TheVariants as leaf
use Rattle.nts_model.specs.Terms.Trees.{Tree}
use Rattle.nts_model.specs.Tables.Contents.{Content, universe_of}
use Rattle.nts_model.specs.Tables.Resolving.{Knows, deeply_resolved}
use Rattle.nts_model.specs.Terms.Placeholders.{CanName, leaf_level_of}
use Rattle.nts_model.specs.Tables.Levels.{AreCurrent}
use Rattle.nts_model.specs.Tables.Worlds.{World, inst}
use Rattle.nts_model.specs.Derivations.Related.{pair}
use Rattle.nts_model.specs.Lists.{Among}
use Rattle.nts_model.specs.Derivations.Sequents.{Premise}
use Rattle.nts_model.specs.Derivations.Rules.{Equation}
use Rattle.nts_model.specs.Refutation.Choosing.{left_of, right_of}
use Rattle.nts_model.specs.Terms.Substitutions.{leaf_tree, Occurs, IsConstant, filled}
use Rattle.nts_model.specs.Derivations.Handlers.{Handler, Candidate, premise_by}
use Rattle.nts_model.specs.Canonical.Inputs.{Input, originals, OccursIn}
use Rattle.nts_model.specs.Refutation.Containing.{Truth, IsTrueBy, original_level, IsProvedIn, SolvesGoals, ExtendsTo, IsAliasFree, IsPlainWorld}
use Rattle.nts_theory.specs.Refutation.Refutation.{IsFair, IsTheory, IsPlainFor, IsGrantedAsAsked, AreMadeOne}
use Rattle.nts_model.proofs.Tables.Instances.{inst-agrees}
use Rattle.nts_model.proofs.Tables.Worlds.{inst-deeply_resolved}
use Rattle.nts_model.proofs.Tables.Open.{Knows-deeply_resolved}
use Rattle.nts_model.proofs.Tables.Slots.{Knows-kept, KeepsKinds-trans}
use Rattle.nts_theory.proofs.Refutation.Freshening.{knows_leaf}
use Rattle.nts_model.proofs.Canonical.CanonicalForms.{originals_are_leaves}
use Rattle.nts_theory.proofs.Refutation.Answered.{IsAskedFrom, AreTermsOf, still_proved, kept_trans, GoesOn}
use Rattle.nts_theory.proofs.Refutation.Trying.{Reaches as ReachesWorld, reaches_trans, equated_reaches}
use Rattle.nts_theory.proofs.Refutation.Carriers.{moved, moved_carrying, back_to, back_carrying, carrier}
use Rattle.nts_theory.proofs.Refutation.Opening.{IsBegunAt, CanBegin, AreTrueIn, added_all}
use Rattle.nts_theory.specs.Telling.{IsInputFor, CanAsk}
use Rattle.nts_theory.specs.RelatingCandidates.{IsBegun, goals_with, plain_part, plain_equations, aliased_equations}
use Rattle.nts_theory.proofs.Refutation.PlainParts.{aliased_among}
use Rattle.nts_theory.proofs.Refutation.Queried.{Leads, Reached}
use Rattle.nts_theory.proofs.Refutation.PlainTerms.{leaf_free}
use Rattle.nts_theory.proofs.Refutation.Theories.{asked_renamed}

-- the caller and its query
variable_low : (c : Content) → AreCurrent c → (n : ℕ) → CanName c.universe (universe_of c n)
variable_low c h n = by_case (universe_of c n) (λ u e. h.universes n u e)
  where
    by_case : (o : Option ℕ) → ((u : ℕ) → o ≡ Some u → u ≤ c.universe) → CanName c.universe o
    by_case None f = tt
    by_case (Some u) f = f u refl

original_low : (c : Content) → AreCurrent c → (l : Leaf) → Knows c (leaf_tree l) → CanName c.universe (original_level c l)
original_low c h (leaf.Variable k n) i = variable_low c h n
original_low c h (leaf.Region r) i = i.0.1
original_low c h (leaf.TyConstant a) i = i.0.1
original_low c h (leaf.ConstConstant a) i = i.0.1

constant_low : (c : Content) (l : Leaf) → IsConstant l → CanName c.universe (original_level c l) → CanName c.universe (leaf_level_of l)
constant_low c (leaf.TyConstant a) i h = h
constant_low c (leaf.ConstConstant a) i h = h
constant_low c (leaf.Variable k n) i h = absurd i
constant_low c (leaf.Region r) i h = absurd i

module _ (h : Handler) (truth : Truth) (Proves : Tree → Tree → Type 0) (theory : IsTheory h truth Proves) (fair : IsFair truth) where
  original_known : (c : Content) (e g : Tree) (i : Input) → IsInputFor c e g i → Knows c (pair e g) → (l : Leaf) → Among (originals i) l → Knows c (leaf_tree l)
  original_known c e g i of k l a = by_place (let b = originals_are_leaves i of.proper in let z = b.1 l in z.0 a)
    where
      by_place : OccursIn l i → Knows c (leaf_tree l)
      by_place (inl o) = knows_leaf c l e (subst (Occurs l) of.environment o.1) k.0
      by_place (inr (inl o)) = knows_leaf c l g (subst (Occurs l) of.predicate o) k.1.0
      by_place (inr (inr o)) = absurd (subst (Occurs l) of.hidden o)

  -- no alias stands for what stands for no alias in the goal
  pub originals_plain : (c : Content) (e g : Tree) (i : Input) → IsInputFor c e g i → (w : World) → IsPlainFor w (pair e g) → (l : Leaf) → Among (originals i) l → IsAliasFree (inst w (leaf_tree l))
  originals_plain c e g i of w p l a = by_place (let b = originals_are_leaves i of.proper in let z = b.1 l in z.0 a)
    where
      by_place : OccursIn l i → IsAliasFree (inst w (leaf_tree l))
      by_place (inl o) = p l (inl (subst (Occurs l) of.environment o.1))
      by_place (inr (inl o)) = p l (inr (inl (subst (Occurs l) of.predicate o)))
      by_place (inr (inr o)) = absurd (subst (Occurs l) of.hidden o)

  pub asked_from : (c : Content) (e g : Tree) (i : Input) → IsInputFor c e g i → Knows c (pair e g) → AreCurrent c → IsAskedFrom truth (IsGrantedAsAsked Proves) c i
  unfolding carrier
  asked_from c e g i of k current =
      let ls = originals i in
      let known = original_known c e g i of k in
      let both = originals_are_leaves i of.proper in
      let low : (l : Leaf) → Among ls l → CanName c.universe (original_level c l) = λ l a. original_low c current l (known l a) in
      let here : (l : Leaf) → Among ls l → IsConstant l → CanName c.universe (leaf_level_of l) = λ l a o. constant_low c l o (low l a) in
      let ρ = moved c.universe ls both.0 here in
      let is = moved_carrying c.universe ls both.0 here in
      record {
        input = of.proper;
        nothing_hidden = of.hidden;
        originals_of = record { knows = known; low = low };
        carrier = carrier c.universe ls both.0 here;
        carriable = record { carried = λ x y p. asked_renamed Proves Proves ρ is (theory.kept ρ is) x y p };
        fair = λ x y. fair.renamed (back_to ρ) (back_carrying ρ is) x y;
        ground = λ x y p. p.ground;
        to_free = λ l. (refl, tt);
        back_free = λ l. (refl, tt);
      }

-- a candidate that was begun: the world goes on, and proves its goals
pub record BegunAt (truth : Truth) (Proves : Tree → Tree → Type 0) (c met : Content) (w : World) (gs : List Premise) : Type 0 where
  pub reaches : ReachesWorld truth 0 c met w
  pub goals : SolvesGoals truth 0 Proves met gs reaches.world
  pub terms : AreTermsOf met gs

-- .. so for the plain part of a candidate; its equations with aliases on one side are equalities one way
pub record BegunHere (truth : Truth) (Proves : Tree → Tree → Type 0) (c met : Content) (w : World) (e : Tree) (xs : List Tree) (x : Candidate) : Type 0 where
  pub begun : BegunAt truth Proves c met w (goals_with xs x.goals)
  pub aliased : (q : Equation) → Among (aliased_equations x.equations) q → (let r = begun.reaches in AreMadeOne Proves (inst w e) (inst r.world (filled xs (left_of q))) (inst r.world (filled xs (right_of q))))

premise_among : (xs : List Tree) (gs : List Premise) (q : Premise) → Among (goals_with xs gs) q → (g : Premise) × Among gs g × (q ≡ premise_by (filled xs) g)
premise_among xs [] q i = absurd i
premise_among xs (g ∷ gs) q (inl e) = (g, inl refl, e)
premise_among xs (g ∷ gs) q (inr i) = (let x = premise_among xs gs q i in (x.0, inr x.1, x.2))

module _ (truth : Truth) (Proves : Tree → Tree → Type 0) where
  -- what a candidate's constraints say is true where its equations were made
  true_where : (c d e : Content) (w : World) (xs : List Tree) (x : Candidate) → (b : IsBegunAt truth Proves c d w xs x) → (r : ReachesWorld truth 0 d e b.reaches.world) → AreTrueIn truth 0 e r.world xs x.constraints
  true_where c d e w xs x b r =
      record {
        left = λ y i. Knows-kept d e (filled xs y.left) r.keeps (b.known.left y i);
        right = λ y i. Knows-kept d e (filled xs y.right) r.keeps (b.known.right y i);
        true = λ y i. (let v = b.reaches.world in
            subst (λ z. IsTrueBy truth y.relation z (inst r.world (filled xs y.right))) (sym (inst-agrees d v r.world (filled xs y.left) r.agrees (b.known.left y i)))
            (subst (λ z. IsTrueBy truth y.relation (inst v (filled xs y.left)) z) (sym (inst-agrees d v r.world (filled xs y.right) r.agrees (b.known.right y i))) (b.meets.met y i)));
      }

  pub begun_at : (c met : Content) (w : World) (e : Tree) (xs : List Tree) (x : Candidate) → IsPlainWorld c w → IsBegun c (plain_part x) xs met → CanBegin truth Proves c w e x → BegunHere truth Proves c met w e xs x
  begun_at c met w e xs x free b k =
      let whole = k.begins xs b.made b.freshens in
      let one = whole.plain in
      let two = equated_reaches truth 0 xs (plain_equations x.equations) b.made b.equal one.reaches.world b.equates one.reaches.solution one.known.equations one.meets.equal in
      let three = added_all truth 0 xs x.constraints b.equal met two.world b.adds two.solution (true_where c b.made b.equal w xs (plain_part x) one two) in
      let later = reaches_trans truth 0 b.made b.equal met one.reaches.world two three in
      let all = reaches_trans truth 0 c b.made met w one.reaches later in
      let known = whole.known in
      record {
        begun = record {
          reaches = all;
          goals = record {
            solution = all.solution;
            plain = all.plain free;
            goals = λ q i. (let g = premise_among xs x.goals q i in
                subst (IsProvedIn Proves all.world) (sym g.2)
                (still_proved truth 0 Proves b.made one.reaches.world all.world (premise_by (filled xs) g.0) later.agrees (one.known.environments g.0 g.1) (one.known.predicates g.0 g.1) (one.meets.goals g.0 g.1)));
          };
          terms = record {
            environments = λ q i. (let g = premise_among xs x.goals q i in subst (λ z. Knows met z.environment) (sym g.2) (Knows-kept b.made met (filled xs g.0.environment) later.keeps (one.known.environments g.0 g.1)));
            predicates = λ q i. (let g = premise_among xs x.goals q i in subst (λ z. Knows met z.predicate) (sym g.2) (Knows-kept b.made met (filled xs g.0.predicate) later.keeps (one.known.predicates g.0 g.1)));
          };
        };
        aliased = λ q i. (let j = (aliased_among x.equations q i).0 in
            subst (λ z. AreMadeOne Proves (inst w e) z (inst all.world (filled xs (right_of q)))) (sym (inst-agrees b.made one.reaches.world all.world (filled xs (left_of q)) later.agrees (known.left q j)))
            (subst (λ z. AreMadeOne Proves (inst w e) (inst one.reaches.world (filled xs (left_of q))) z) (sym (inst-agrees b.made one.reaches.world all.world (filled xs (right_of q)) later.agrees (known.right q j))) (whole.aliased q i)));
      }

  -- one more goal is asked; all of them stay
  pub asks_more : (c d e : Content) (gs : List Premise) (p : Premise) → Among gs p → AreTermsOf c gs → CanAsk d → Reached truth Proves c d gs → Leads truth Proves d e (deeply_resolved d p.environment) (deeply_resolved d p.predicate) → Reached truth Proves c e gs
  asks_more c d e gs p a t can before leads =
      record {
        keeps = KeepsKinds-trans before.keeps leads.keeps;
        solutions = kept_trans truth 0 Proves c d e gs gs gs before.solutions (record { longer = leads.longer; kinds = (let k = leads.keeps in k.kinds); each = λ w s. again w s (leads.each 0 w s.solution (plain_there w s) (asked_there w s)) });
      }
    where
      at : (q : Premise) → Among gs q → Knows d q.environment × Knows d q.predicate
      at q i = (Knows-kept c d q.environment before.keeps (t.environments q i), Knows-kept c d q.predicate before.keeps (t.predicates q i))

      asked_there : (w : World) (s : SolvesGoals truth 0 Proves d gs w) → Proves (inst w (deeply_resolved d p.environment)) (inst w (deeply_resolved d p.predicate))
      asked_there w s =
          let z = s.solution in
          subst (λ y. Proves y (inst w (deeply_resolved d p.predicate))) (sym (inst-deeply_resolved d w p.environment can.sound z.solves))
          (subst (Proves (inst w p.environment)) (sym (inst-deeply_resolved d w p.predicate can.sound z.solves)) (s.goals p a))

      plain_there : (w : World) → SolvesGoals truth 0 Proves d gs w → IsPlainFor w (pair (deeply_resolved d p.environment) (deeply_resolved d p.predicate))
      plain_there w s l i =
          let k = at p a in
          let both : Knows d (pair (deeply_resolved d p.environment) (deeply_resolved d p.predicate)) = (Knows-deeply_resolved d p.environment can.sound k.0, (Knows-deeply_resolved d p.predicate can.sound k.1, tt)) in
          leaf_free d w s.plain l (knows_leaf d l (pair (deeply_resolved d p.environment) (deeply_resolved d p.predicate)) i both)

      again : (w : World) → SolvesGoals truth 0 Proves d gs w → GoesOn truth 0 d e w → ExtendsTo truth 0 Proves d e gs w
      again w s x =
          record {
            world = x.world;
            agrees = x.agrees;
            solves = record { solution = x.solution; plain = x.plain s.plain; goals = λ q i. (let k = at q i in still_proved truth 0 Proves d w x.world q x.agrees k.0 k.1 (s.goals q i)) };
          }

  pub goal_known : (c d : Content) (gs : List Premise) (p : Premise) → Among gs p → AreTermsOf c gs → CanAsk d → Reached truth Proves c d gs → Knows d (pair (deeply_resolved d p.environment) (deeply_resolved d p.predicate))
  goal_known c d gs p a t can before = (
    Knows-deeply_resolved d p.environment can.sound (Knows-kept c d p.environment before.keeps (t.environments p a)),
    (Knows-deeply_resolved d p.predicate can.sound (Knows-kept c d p.predicate before.keeps (t.predicates p a)), tt),
  )

  pub goal_plain : (c d : Content) (gs : List Premise) (p : Premise) → Among gs p → AreTermsOf c gs → CanAsk d → Reached truth Proves c d gs → (w : World) → IsPlainWorld d w → IsPlainFor w (pair (deeply_resolved d p.environment) (deeply_resolved d p.predicate))
  goal_plain c d gs p a t can before w free l i = leaf_free d w free l (knows_leaf d l (pair (deeply_resolved d p.environment) (deeply_resolved d p.predicate)) i (goal_known c d gs p a t can before))

  pub goal_there : (d : Content) (gs : List Premise) (p : Premise) → Among gs p → CanAsk d → (w : World) → SolvesGoals truth 0 Proves d gs w → Proves (inst w (deeply_resolved d p.environment)) (inst w (deeply_resolved d p.predicate))
  goal_there d gs p a can w s =
      let z = s.solution in
      subst (λ y. Proves y (inst w (deeply_resolved d p.predicate))) (sym (inst-deeply_resolved d w p.environment can.sound z.solves))
      (subst (Proves (inst w p.environment)) (sym (inst-deeply_resolved d w p.predicate can.sound z.solves)) (s.goals p a))
