-- A candidate that a world meets can be begun there; and constraints that are added keep the worlds in which they are true.
use Rattle.std.proofs.Common.{ℕ, ◌≡◌, inl, inr, List, [], ◌∷◌, length, refl, sym, ap, subst, ◌∙◌, arith}
use Rattle.std.specs.Prelude.{◌⊎◌}
use Rattle.nts_model.specs.declared.labels.Relation.{Relation}
use Rattle.nts_model.specs.declared.labels.Relation.TheVariants as relation
use Rattle.nts_model.specs.declared.labels.FreeRegion.TheVariants as region
use Rattle.nts_model.specs.declared.labels.Leaf.{Leaf}
use Rattle.nts_model.specs.declared.labels.Leaf.TheVariants as leaf
use Rattle.nts_model.specs.Terms.Trees.{Tree}
use Rattle.nts_model.specs.Tables.Contents.{Content, with_constraint}
use Rattle.nts_model.specs.Tables.Resolving.{Knows}
use Rattle.nts_model.specs.Terms.Scoping.{IsWellBound}
use Rattle.nts_model.specs.Terms.Placeholders.{leaf_level}
use Rattle.nts_model.specs.Tables.Worlds.{World, inst, IsTrueOf, IsMet}
use Rattle.nts_model.specs.Terms.Substitutions.{leaf_tree, Occurs, Instance, filled, filled_under}
use Rattle.nts_model.specs.Derivations.Related.{Constraint, pair}
use Rattle.nts_model.specs.Lists.{Among}
use Rattle.nts_model.specs.Derivations.Rules.{coherence, Equation, related, alike}
use Rattle.nts_model.specs.Tables.Equations.{AreRelated}
use Rattle.nts_model.specs.Derivations.Handlers.{Handler, Candidate, constraint_by, IsAsked, CandidatesKeep, IsCandidateFor, IsFixed, IsOver, IsEquationOver}
use Rattle.nts_model.specs.Answers.Responses.{read_in}
use Rattle.nts_model.specs.Answers.Applying.{IsProperContent}
use Rattle.nts_model.specs.Refutation.Choosing.{left_of, right_of, IsCandidateMet, Freshens}
use Rattle.nts_theory.specs.RelatingCandidates.{plain_part, aliased_equations, HasPlainEquations, HasTypesApart}
use Rattle.nts_theory.specs.Refutation.Refutation.{IsGranted, AreMadeOne}
use Rattle.nts_theory.proofs.Refutation.PlainParts.{plain_among, plain_met}
use Rattle.nts_theory.proofs.Refutation.Apart.{apart_unmet}
use Rattle.nts_theory.proofs.Refutation.PlainTerms.{plain_later}
use Rattle.nts_model.specs.Refutation.Forcing.{seen_as, AddsBy, Adds, AddsAll}
use Rattle.nts_model.specs.Refutation.Containing.{Truth, IsTrueBy, IsSolution}
use Rattle.nts_model.specs.Refutation.Coherence.{IsInstanceIn}
use Rattle.nts_model.proofs.Tables.Slots.{Knows-kept}
use Rattle.nts_model.proofs.Tables.Instances.{inst-agrees, Agrees-refl}
use Rattle.nts_model.proofs.Tables.Solving.{Solves-with_constraint}
use Rattle.nts_theory.proofs.Refutation.Answered.{solution_later}
use Rattle.nts_theory.proofs.Refutation.Choosing.{AreFresh, fresh_known, filled_known}
use Rattle.nts_theory.proofs.Refutation.Trying.{MeetsCandidate, KnowsEquations, KnowsCandidate, Reaches, reaches_self, reaches_trans, true_there}
use Rattle.nts_theory.proofs.Refutation.OfferMeeting.{MeetsOffered}
use Rattle.nts_theory.proofs.Refutation.Freshening.{freshened, named_terms, filled_agree, knows_leaf, aliased_filled, meets_filled}
use Rattle.nts_theory.proofs.Refutation.Offering.{MeetsNamed}

-- a candidate that a world meets, once its fresh variables are made
pub record IsBegunAt (truth : Truth) (Proves : Tree → Tree → Type 0) (c d : Content) (w : World) (xs : List Tree) (x : Candidate) : Type 0 where
  pub reaches : Reaches truth 0 c d w
  pub meets : MeetsCandidate truth Proves reaches.world xs x
  pub known : KnowsCandidate d xs x

-- .. its plain part; and the sides of its equations with aliases come to one tree, in the environment e
pub record IsBegunWith (truth : Truth) (Proves : Tree → Tree → Type 0) (c d : Content) (w : World) (e : Tree) (xs : List Tree) (x : Candidate) : Type 0 where
  pub plain : IsBegunAt truth Proves c d w xs (plain_part x)
  pub known : KnowsEquations d xs x.equations
  pub aliased : (q : Equation) → Among (aliased_equations x.equations) q → (let r = plain.reaches in AreMadeOne Proves (inst w e) (inst r.world (filled xs (left_of q))) (inst r.world (filled xs (right_of q))))

-- .. and it equates no types that are apart
pub record CanBegin (truth : Truth) (Proves : Tree → Tree → Type 0) (c : Content) (w : World) (e : Tree) (x : Candidate) : Type 0 where
  pub environment : Knows c e
  pub is_met : IsCandidateMet c (plain_part x)
  pub apart : HasTypesApart x → ⊥
  pub begins : (xs : List Tree) (d : Content) → Freshens c.universe x.fresh xs c d → IsBegunWith truth Proves c d w e xs x

-- where a world meets all of its equations, none of which relates aliases
pub begins_whole : (truth : Truth) (Proves : Tree → Tree → Type 0) (c : Content) (w : World) (e : Tree) (x : Candidate) → Knows c e → HasPlainEquations x → IsCandidateMet c x → ((xs : List Tree) (d : Content) → Freshens c.universe x.fresh xs c d → IsBegunAt truth Proves c d w xs x)
    → CanBegin truth Proves c w e x
begins_whole truth Proves c w e x ke none met begins =
    record {
      environment = ke;
      is_met = plain_met c x met;
      apart = λ a. apart_unmet c x a met;
      begins = λ xs d f. (let b = begins xs d f in
          let meets = b.meets in
          let known = b.known in
          let equations = known.equations in
          record {
            plain = record {
              reaches = b.reaches;
              meets = record { equal = record { each = λ q i. (let all = meets.equal in all.each q (plain_among x.equations q i)) }; met = meets.met; goals = meets.goals };
              known = record {
                equations = record { left = λ q i. equations.left q (plain_among x.equations q i); right = λ q i. equations.right q (plain_among x.equations q i) };
                left = known.left;
                right = known.right;
                environments = known.environments;
                predicates = known.predicates;
              };
            };
            known = equations;
            aliased = λ q i. absurd (subst (λ z. Among z q) none i);
          });
    }

fixed_known : (c : Content) (l : Leaf) → IsFixed l → Knows c (leaf_tree l)
fixed_known c (leaf.Region region.Static) i = ((tt, tt, refl), tt, tt)
fixed_known c (leaf.Region region.Erased) i = ((tt, tt, refl), tt, tt)
fixed_known c (leaf.Region region.Error) i = ((tt, tt, refl), tt, tt)
fixed_known c (leaf.Region (region.Placeholder u n)) i = absurd i
fixed_known c (leaf.Region (region.EarlyParam n)) i = absurd i
fixed_known c (leaf.Region (region.LateParam n)) i = absurd i
fixed_known c (leaf.Variable k n) i = absurd i
fixed_known c (leaf.TyConstant a) i = absurd i
fixed_known c (leaf.ConstConstant a) i = absurd i

module _ (h : Handler) (truth : Truth) (Proves : Tree → Tree → Type 0) (e g : Tree) (asked : IsAsked e g) (keep : CandidatesKeep h) (ι : Instance)
    (c : Content) (w : World) (s : IsSolution truth 0 c w) (same : IsInstanceIn w (pair e g) ι) (known : Knows c (pair e g)) (proper : IsProperContent c) (n : MeetsNamed h truth Proves c.universe e g ι) where
  abbrev m : MeetsOffered h truth Proves e g ι
  m = n.meets

  abbrev over : IsCandidateFor e g m.candidate
  over = keep.each coherence e g m.candidate asked m.offered

  leaf_known : (l : Leaf) → Occurs l (pair e g) ⊎ IsFixed l → Knows c (leaf_tree l)
  leaf_known l (inl i) = knows_leaf c l (pair e g) i known
  leaf_known l (inr i) = fixed_known c l i

  fixed_same : (l : Leaf) → IsFixed l → inst w (leaf_tree l) ≡ ι.value l
  fixed_same (leaf.Region region.Static) i = ap (λ z. leaf_tree (leaf.Region z)) s.fixed.static ∙ sym (ι.stays region.Static tt)
  fixed_same (leaf.Region region.Erased) i = ap (λ z. leaf_tree (leaf.Region z)) s.fixed.erased ∙ sym (ι.stays region.Erased tt)
  fixed_same (leaf.Region region.Error) i = ap (λ z. leaf_tree (leaf.Region z)) s.fixed.error ∙ sym (ι.stays region.Error tt)
  fixed_same (leaf.Region (region.Placeholder u k)) i = absurd i
  fixed_same (leaf.Region (region.EarlyParam k)) i = absurd i
  fixed_same (leaf.Region (region.LateParam k)) i = absurd i
  fixed_same (leaf.Variable k v) i = absurd i
  fixed_same (leaf.TyConstant a) i = absurd i
  fixed_same (leaf.ConstConstant a) i = absurd i

  leaf_same : (l : Leaf) → Occurs l (pair e g) ⊎ IsFixed l → inst w (leaf_tree l) ≡ ι.value l
  leaf_same l (inl i) = sym (same l i)
  leaf_same l (inr i) = fixed_same l i

  read_over : (t : Tree) → IsOver m.candidate.fresh e g t → read_in w m.chosen t ≡ filled_under ι.value m.chosen t
  read_over t o = filled_agree (λ l. inst w (leaf_tree l)) ι.value m.chosen t o.formed (λ l i. leaf_same l (o.leaves l i))

  one_equal : (q : Equation) → IsEquationOver m.candidate.fresh e g q → filled_under ι.value m.chosen (left_of q) ≡ filled_under ι.value m.chosen (right_of q) → read_in w m.chosen (left_of q) ≡ read_in w m.chosen (right_of q)
  one_equal (related a b) o z = read_over a o.0 ∙ z ∙ sym (read_over b o.1)
  one_equal (alike a b) o z = read_over a o.0 ∙ z ∙ sym (read_over b o.1)

  left_over : (q : Equation) → IsEquationOver m.candidate.fresh e g q → IsOver m.candidate.fresh e g (left_of q)
  left_over (related a b) o = o.0
  left_over (alike a b) o = o.0

  right_over : (q : Equation) → IsEquationOver m.candidate.fresh e g q → IsOver m.candidate.fresh e g (right_of q)
  right_over (related a b) o = o.1
  right_over (alike a b) o = o.1

  module _ (xs : List Tree) (d : Content) (fresh : Freshens c.universe m.candidate.fresh xs c d) where
    new : AreFresh c d xs
    new = fresh_known c.universe m.candidate.fresh xs c d fresh

    term_known : (t : Tree) → IsWellBound t → ((l : Leaf) → Occurs l t → Occurs l (pair e g) ⊎ IsFixed l) → Knows d (filled xs t)
    term_known t b o = filled_known d xs t b new.known new.patches (λ l i. Knows-kept c d (leaf_tree l) new.keeps (leaf_known l (o l i)))

    over_known : (t : Tree) → IsOver m.candidate.fresh e g t → Knows d (filled xs t)
    over_known t o = term_known t o.well_bound o.leaves

    all_known : KnowsCandidate d xs (plain_part m.candidate)
    all_known =
        let k = over in
        record {
          equations = record {
            left = λ q i. over_known (left_of q) (left_over q (k.equations q (plain_among m.candidate.equations q i)));
            right = λ q i. over_known (right_of q) (right_over q (k.equations q (plain_among m.candidate.equations q i)));
          };
          left = λ x i. over_known x.left (k.constraints x i).0;
          right = λ x i. over_known x.right (k.constraints x i).1;
          environments = λ p i. (let q = k.goals p i in
              term_known p.environment (subst IsWellBound (sym q.environment) (let b = asked.well_bound in b.0)) (λ l j. inl (inl (subst (Occurs l) q.environment j))));
          predicates = λ p i. (let q = k.goals p i in over_known p.predicate q.predicate);
        }

    equations_known : KnowsEquations d xs m.candidate.equations
    equations_known =
        let k = over in
        record { left = λ q i. over_known (left_of q) (left_over q (k.equations q i)); right = λ q i. over_known (right_of q) (right_over q (k.equations q i)) }

    begun : IsBegunWith truth (IsGranted Proves) c d w e xs m.candidate
    begun =
        let f = freshened truth 0 c.universe m.candidate.fresh xs m.chosen c d w proper fresh m.values n.named m.free s in
        record {
          plain = record {
            reaches = record { world = f.world; agrees = f.agrees; solution = f.solution; plain = f.plain; longer = f.longer; keeps = f.keeps };
            meets = meets_filled h truth Proves 0 e g asked keep ι m c d w same known xs f;
            known = all_known;
          };
          known = equations_known;
          aliased = aliased_filled h truth Proves 0 e g asked keep ι m c d w same known xs f;
        }

  pub can_begin : CanBegin truth (IsGranted Proves) c w e m.candidate
  can_begin =
      let k = over in
      record {
        environment = known.0;
        is_met = record {
          world = w;
          solves = s.solves;
          values = m.chosen;
          fit = m.values;
          named = named_terms c.universe m.chosen n.named;
          equal = λ q i. one_equal q (k.equations q (plain_among m.candidate.equations q i)) (m.equal q i);
        };
        apart = m.apart;
        begins = λ xs d fresh. begun xs d fresh;
      }

-- a constraint is added: the worlds in which it is true stay
module _ (truth : Truth) (base : ℕ) where
  solution_with : (c : Content) (x : Constraint) (w : World) → IsSolution truth base c w → IsMet w (seen_as x) → IsSolution truth base (with_constraint c (seen_as x)) w
  solution_with c x w s m =
      solution_later truth base c (with_constraint c (seen_as x)) w w s (omega arith) (Agrees-refl (length c.slots) w) (Solves-with_constraint c (seen_as x) w s.solves m) (record { each = λ n. s.named.each n })

  reaches_with : (c : Content) (x : Constraint) (w : World) → IsSolution truth base c w → IsMet w (seen_as x) → Reaches truth base c (with_constraint c (seen_as x)) w
  reaches_with c x w s m =
      record { world = w; agrees = Agrees-refl (length c.slots) w; solution = solution_with c x w s m; plain = λ p. record { each = λ n k e. p.each n k e }; longer = omega arith; keeps = record { grows = omega arith; kinds = λ n k e. e } }

  related_reaches : (c d : Content) (a b : Tree) (w : World) → AreRelated c d a b → IsSolution truth base c w → inst w a ≡ inst w b → Reaches truth base c d w
  related_reaches c d a b w r s e =
      let x = r.complete w s.solves e in
      let g = r.continues in
      record {
        world = x.world;
        agrees = x.agrees;
        solution = solution_later truth base c d w x.world s g.grows x.agrees x.solves (x.names leaf_level s.named tt);
        plain = plain_later c d w x.world (λ f n. x.names f n tt);
        longer = g.more;
        keeps = record { grows = g.grows; kinds = g.kinds };
      }

  added_by : (r : Relation) (x : Constraint) (c d : Content) (w : World) → x.relation ≡ r → AddsBy r x c d → IsSolution truth base c w → IsTrueBy truth r (inst w x.left) (inst w x.right) → Reaches truth base c d w
  added_by relation.Equal x c d w e a s t = related_reaches c d x.left x.right w a s t
  added_by relation.RegionOutlives x c d w e (inl (same, is)) s t = subst (λ z. Reaches truth base c z w) (sym is) (reaches_self truth base c w s)
  added_by relation.RegionOutlives x c d w e (inr is) s t =
      subst (λ z. Reaches truth base c z w) (sym is) (reaches_with c x w s (subst (λ z. IsTrueOf w z (inst w x.left) (inst w x.right)) (sym e) (true_there truth base c w relation.RegionOutlives (inst w x.left) (inst w x.right) s t)))
  added_by relation.TypeOutlives x c d w e (inl (same, is)) s t = subst (λ z. Reaches truth base c z w) (sym is) (reaches_self truth base c w s)
  added_by relation.TypeOutlives x c d w e (inr is) s t =
      subst (λ z. Reaches truth base c z w) (sym is) (reaches_with c x w s (subst (λ z. IsTrueOf w z (inst w x.left) (inst w x.right)) (sym e) (true_there truth base c w relation.TypeOutlives (inst w x.left) (inst w x.right) s t)))

  pub added : (x : Constraint) (c d : Content) (w : World) → Adds x c d → IsSolution truth base c w → IsTrueBy truth x.relation (inst w x.left) (inst w x.right) → Reaches truth base c d w
  added x c d w a s t = added_by x.relation x c d w refl a s t

  -- constraint by constraint, where the sides are of the table
  pub record AreTrueIn (c : Content) (w : World) (xs : List Tree) (ys : List Constraint) : Type 0 where
    pub left : (x : Constraint) → Among ys x → Knows c (filled xs x.left)
    pub right : (x : Constraint) → Among ys x → Knows c (filled xs x.right)
    pub true : (x : Constraint) → Among ys x → IsTrueBy truth x.relation (inst w (filled xs x.left)) (inst w (filled xs x.right))

  rest_true : (c d : Content) (w : World) (xs : List Tree) (y : Constraint) (ys : List Constraint) (r : Reaches truth base c d w) → AreTrueIn c w xs (y ∷ ys) → AreTrueIn d r.world xs ys
  rest_true c d w xs y ys r h =
      record {
        left = λ x i. Knows-kept c d (filled xs x.left) r.keeps (h.left x (inr i));
        right = λ x i. Knows-kept c d (filled xs x.right) r.keeps (h.right x (inr i));
        true = λ x i. (subst (λ z. IsTrueBy truth x.relation z (inst r.world (filled xs x.right))) (sym (inst-agrees c w r.world (filled xs x.left) r.agrees (h.left x (inr i))))
            (subst (λ z. IsTrueBy truth x.relation (inst w (filled xs x.left)) z) (sym (inst-agrees c w r.world (filled xs x.right) r.agrees (h.right x (inr i)))) (h.true x (inr i))));
      }

  pub added_all : (xs : List Tree) (ys : List Constraint) (c d : Content) (w : World) → AddsAll xs ys c d → IsSolution truth base c w → AreTrueIn c w xs ys → Reaches truth base c d w
  added_all xs [] c d w a s h = subst (λ z. Reaches truth base c z w) (sym a) (reaches_self truth base c w s)
  added_all xs (y ∷ ys) c d w (e, one, rest) s h =
      let r = added (constraint_by (filled xs) y) c e w one s (h.true y (inl refl)) in
      reaches_trans truth base c e d w r (added_all xs ys e d r.world rest r.solution (rest_true c e w xs y ys r h))
