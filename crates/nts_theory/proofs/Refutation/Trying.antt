-- A candidate that a solution meets is not refused, and its response contains the solution.
use Rattle.std.proofs.Common.{◌≡◌, inl, inr, ℕ, ◌≤◌, List, [], ◌∷◌, map, length, refl, sym, subst, ◌∙◌, arith}
use Rattle.nts_model.specs.declared.labels.Relation.{Relation}
use Rattle.nts_model.specs.declared.labels.Relation.TheVariants as relation
use Rattle.nts_model.specs.Terms.Trees.{Tree}
use Rattle.nts_model.specs.Tables.Contents.{Content}
use Rattle.nts_model.specs.Tables.Resolving.{Knows}
use Rattle.nts_model.specs.Tables.Worlds.{World, inst, IsTrueOf, Solves, Agrees}
use Rattle.nts_model.specs.Tables.Holding.{Continues}
use Rattle.nts_model.specs.Tables.Equations.{Extension}
use Rattle.nts_model.specs.Terms.Substitutions.{filled}
use Rattle.nts_model.specs.Derivations.Related.{Constraint}
use Rattle.nts_model.specs.Derivations.Rules.{Equation}
use Rattle.nts_model.specs.Lists.{Among}
use Rattle.nts_model.specs.Derivations.Sequents.{Premise}
use Rattle.nts_model.specs.Derivations.Handlers.{Candidate, premise_by}
use Rattle.nts_model.specs.Terms.Placeholders.{leaf_level}
use Rattle.nts_model.specs.Refutation.Choosing.{left_of, right_of, EquatesAll, FailsToEquate}
use Rattle.nts_model.specs.Refutation.Containing.{IsPlainWorld, Truth, IsTrueBy, IsSolution, IsProvedIn}
use Rattle.nts_model.proofs.Tables.Slots.{Knows-kept, KeepsKinds, KeepsKinds-refl, KeepsKinds-trans}
use Rattle.nts_model.proofs.Tables.Instances.{inst-agrees, Agrees-refl, Agrees-trans}
use Rattle.nts_theory.proofs.Refutation.Answered.{solution_later}
use Rattle.nts_theory.proofs.Refutation.PlainTerms.{plain_later}

-- the world meets the equations, the constraints and the goals of a candidate, where the trees xs stand for its fresh variables
pub record Equalizes (w : World) (xs : List Tree) (qs : List Equation) : Type 0 where
  pub each : (q : Equation) → Among qs q → inst w (filled xs (left_of q)) ≡ inst w (filled xs (right_of q))

pub record MeetsCandidate (truth : Truth) (Proves : Tree → Tree → Type 0) (w : World) (xs : List Tree) (a : Candidate) : Type 0 where
  pub equal : Equalizes w xs a.equations
  pub met : (x : Constraint) → Among a.constraints x → IsTrueBy truth x.relation (inst w (filled xs x.left)) (inst w (filled xs x.right))
  pub goals : (g : Premise) → Among a.goals g → IsProvedIn Proves w (premise_by (filled xs) g)

-- the filled terms are of the table
pub record KnowsEquations (c : Content) (xs : List Tree) (qs : List Equation) : Type 0 where
  pub left : (q : Equation) → Among qs q → Knows c (filled xs (left_of q))
  pub right : (q : Equation) → Among qs q → Knows c (filled xs (right_of q))

pub record KnowsCandidate (c : Content) (xs : List Tree) (a : Candidate) : Type 0 where
  pub equations : KnowsEquations c xs a.equations
  pub left : (x : Constraint) → Among a.constraints x → Knows c (filled xs x.left)
  pub right : (x : Constraint) → Among a.constraints x → Knows c (filled xs x.right)
  pub environments : (g : Premise) → Among a.goals g → Knows c (filled xs g.environment)
  pub predicates : (g : Premise) → Among a.goals g → Knows c (filled xs g.predicate)

kinds_later : (c d : Content) → Continues c d → KeepsKinds c d
kinds_later c d h = record { grows = h.grows; kinds = h.kinds }

knows_later : (c d : Content) (t : Tree) → KeepsKinds c d → Knows c t → Knows d t
knows_later c d t h k = Knows-kept c d t h k

equal_later : (c : Content) (w v : World) (a b : Tree) → Agrees (length c.slots) w v → Knows c a → Knows c b → inst w a ≡ inst w b → inst v a ≡ inst v b
equal_later c w v a b h k l e = inst-agrees c w v a h k ∙ e ∙ sym (inst-agrees c w v b h l)

rest_equal : (c e : Content) (w v : World) (xs : List Tree) (q : Equation) (qs : List Equation) → Agrees (length c.slots) w v → KnowsEquations c xs (q ∷ qs) → Equalizes w xs (q ∷ qs) → Equalizes v xs qs
rest_equal c e w v xs q qs a k h = record { each = λ p i. equal_later c w v (filled xs (left_of p)) (filled xs (right_of p)) a (k.left p (inr i)) (k.right p (inr i)) (h.each p (inr i)) }

rest_known : (c e : Content) (xs : List Tree) (q : Equation) (qs : List Equation) → Continues c e → KnowsEquations c xs (q ∷ qs) → KnowsEquations e xs qs
rest_known c e xs q qs g k = record { left = λ p i. knows_later c e _ (kinds_later c e g) (k.left p (inr i)); right = λ p i. knows_later c e _ (kinds_later c e g) (k.right p (inr i)) }

-- a world of a table, extended to a later one
pub record ReachesWorld (c d : Content) (w : World) : Type 0 where
  pub extended : Extension c d w
  pub longer : length c.slots ≤ length d.slots
  pub keeps : KeepsKinds c d

-- what a world of the table equalizes can be equated, without losing the world
pub equated_world : (xs : List Tree) (qs : List Equation) (c d : Content) (w : World) → EquatesAll xs qs c d → Solves c w → KnowsEquations c xs qs → Equalizes w xs qs → ReachesWorld c d w
equated_world xs [] c d w h s k e =
    subst (λ z. ReachesWorld c z w) (sym h)
    (record { extended = record { world = w; agrees = Agrees-refl (length c.slots) w; solves = s; names = λ f q n. q }; longer = omega arith; keeps = KeepsKinds-refl c })
equated_world xs (q ∷ qs) c d w (m, r, rest) s k e =
    let x = r.complete w s (e.each q (inl refl)) in
    let g = r.continues in
    let more = equated_world xs qs m d x.world rest x.solves (rest_known c m xs q qs g k) (rest_equal c m w x.world xs q qs x.agrees k e) in
    let y = more.extended in
    record {
      extended = record {
        world = y.world;
        agrees = Agrees-trans (length c.slots) (length m.slots) w x.world y.world g.more x.agrees y.agrees;
        solves = y.solves;
        names = λ f n o. y.names f (x.names f n tt) tt;
      };
      longer = (let a = g.more in let b = more.longer in omega (arith, a, b));
      keeps = KeepsKinds-trans (kinds_later c m g) more.keeps;
    }

-- no equation fails that the world meets
pub equated_never_fails : (xs : List Tree) (qs : List Equation) (c : Content) (w : World) → FailsToEquate xs qs c → Solves c w → KnowsEquations c xs qs → Equalizes w xs qs → ⊥
equated_never_fails xs [] c w h s k e = h
equated_never_fails xs (q ∷ qs) c w (inl r) s k e = r.none w s (e.each q (inl refl))
equated_never_fails xs (q ∷ qs) c w (inr (m, r, rest)) s k e =
    let x = r.complete w s (e.each q (inl refl)) in
    equated_never_fails xs qs m x.world rest x.solves (rest_known c m xs q qs r.continues k) (rest_equal c m w x.world xs q qs x.agrees k e)

-- seen from the table afterwards, the sides of each equation are one
pub equated_back : (xs : List Tree) (qs : List Equation) (c d : Content) (w : World) → EquatesAll xs qs c d → Solves d w → Solves c w × Equalizes w xs qs
equated_back xs [] c d w h s = (rw (← h) s, record { each = λ q i. absurd i })
equated_back xs (q ∷ qs) c d w (m, r, rest) s =
    let more = equated_back xs qs m d w rest s in
    let one = r.sound w more.0 in
    (one.0, record { each = λ p i. elim i [ inl e ↦ subst (λ z. inst w (filled xs (left_of z)) ≡ inst w (filled xs (right_of z))) (sym e) one.1 | inr j ↦ more.1.each p j ] })

-- a solution, from one table to a later one
pub record Reaches (truth : Truth) (base : ℕ) (c d : Content) (w : World) : Type 0 where
  pub world : World
  pub agrees : Agrees (length c.slots) w world
  pub solution : IsSolution truth base d world
  pub plain : IsPlainWorld c w → IsPlainWorld d world
  pub longer : length c.slots ≤ length d.slots
  pub keeps : KeepsKinds c d

module _ (truth : Truth) (base : ℕ) where
  abbrev pub reaches_self : (c : Content) (w : World) → IsSolution truth base c w → Reaches truth base c c w
  reaches_self c w s = record { world = w; agrees = Agrees-refl (length c.slots) w; solution = s; plain = λ p. p; longer = omega arith; keeps = KeepsKinds-refl c }

  abbrev pub reaches_trans : (c d e : Content) (w : World) → (x : Reaches truth base c d w) → Reaches truth base d e x.world → Reaches truth base c e w
  reaches_trans c d e w x y =
      record {
        world = y.world;
        agrees = Agrees-trans (length c.slots) (length d.slots) w x.world y.world x.longer x.agrees y.agrees;
        solution = y.solution;
        plain = λ p. y.plain (x.plain p);
        longer = (let a = x.longer in let b = y.longer in omega (arith, a, b));
        keeps = KeepsKinds-trans x.keeps y.keeps;
      }

  pub equated_reaches : (xs : List Tree) (qs : List Equation) (c d : Content) (w : World) → EquatesAll xs qs c d → IsSolution truth base c w → KnowsEquations c xs qs → Equalizes w xs qs → Reaches truth base c d w
  equated_reaches xs qs c d w h s k e =
      let x = equated_world xs qs c d w h s.solves k e in
      let y = x.extended in
      record {
        world = y.world;
        agrees = y.agrees;
        solution = solution_later truth base c d w y.world s (let z = x.keeps in z.grows) y.agrees y.solves (y.names leaf_level s.named tt);
        plain = plain_later c d w y.world (λ f n. y.names f n tt);
        longer = x.longer;
        keeps = x.keeps;
      }

  pub true_there : (c : Content) (w : World) (r : Relation) (a b : Tree) → IsSolution truth base c w → IsTrueBy truth r a b → IsTrueOf w r a b
  true_there c w relation.Equal a b s h = h
  true_there c w relation.RegionOutlives a b s (inl e) = inl e
  true_there c w relation.RegionOutlives a b s (inr e) = inr (s.outlives a b ∙ e)
  true_there c w relation.TypeOutlives a b s e = s.outlives a b ∙ e

pub same_positions : (c : Content) (w v : World) (qs : List Tree) → Agrees (length c.slots) w v → ((t : Tree) → Among qs t → Knows c t) → map (inst v) qs ≡ map (inst w) qs
same_positions c w v [] a k = refl
same_positions c w v (q ∷ qs) a k = cc (inst-agrees c w v q a (k q (inl refl)), same_positions c w v qs a (λ t i. k t (inr i)))
