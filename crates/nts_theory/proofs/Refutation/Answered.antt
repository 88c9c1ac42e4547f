-- A goal that is asked in a query whose answer contains all solutions: every solution of the caller's table that proves the
-- goal extends to the table afterwards.
use Rattle.std.proofs.Common.{◌≡◌, inl, inr, ℕ, ◌≤◌, ◌<◌, List, [], ◌∷◌, ◌++◌, map, length, Some, refl, sym, ap, subst, ◌∙◌, arith}
use Rattle.std.specs.Prelude.{◌⊎◌}
use Rattle.std.proofs.lemmas.Bool.{cases_lt}
use Rattle.nts_model.specs.declared.labels.FreeRegion.{FreeRegion}
use Rattle.nts_model.specs.declared.labels.FreeRegion.TheVariants as region
use Rattle.nts_model.specs.declared.labels.Leaf.{Leaf}
use Rattle.nts_model.specs.declared.labels.Leaf.TheVariants as leaf
use Rattle.nts_model.specs.Terms.Trees.{Tree, empty, IsFormed}
use Rattle.nts_model.specs.Tables.Contents.{Content}
use Rattle.nts_model.specs.Tables.Resolving.{Knows}
use Rattle.nts_model.specs.Terms.Placeholders.{CanName, free_region_level, leaf_level}
use Rattle.nts_model.specs.Tables.Worlds.{World, inst, IsFitting, IsNameable, Solves, Agrees}
use Rattle.nts_model.specs.Terms.Substitutions.{leaf_tree, Occurs, instance_of, filled}
use Rattle.nts_model.specs.Derivations.Related.{pair}
use Rattle.nts_model.specs.Lists.{Among}
use Rattle.nts_model.specs.Derivations.Sequents.{Premise}
use Rattle.nts_model.specs.Tables.Passing.{AllLabels}
use Rattle.nts_model.specs.Canonical.Inputs.{Input, IsInput, originals, canonical_of, OccursIn}
use Rattle.nts_model.specs.Answers.Responses.{Response, Applies, IsResponseTo}
use Rattle.nts_model.specs.Refutation.Containing.{IsAliasFree, IsPlainWorld, Truth, original_level, IsSolution, IsSolutionOf, AnswerContains, HasNoSolution, Carrier, IsGroundLabel, IsCarriable, IsProvedIn, KeepsSolutions}
use Rattle.nts_model.proofs.Tables.Instances.{inst-agrees, Agrees-refl, Agrees-trans, KeepsFixedRegions-agrees}
use Rattle.nts_model.proofs.Tables.Slots.{CanName-more}
use Rattle.nts_model.proofs.Canonical.CanonicalForms.{originals_give_input, originals_are_leaves}
use Rattle.nts_theory.proofs.Responses.Answering.{canonical_environment_over, canonical_predicate_over}
use Rattle.nts_theory.proofs.Refutation.PlainTerms.{free_instance, alias_level, free_are_named, plain_by_names}
use Rattle.nts_theory.proofs.Refutation.AskingWorlds.{image_inside, ground_parts, IsAskable, image, asked_values, asked_filled, contained_granted, named_with_regions, IsOfParts}
use Rattle.nts_theory.proofs.Responses.Asked.{first_part, rest_part}

given_environment : (i : Input) → IsInput i → filled (map leaf_tree (originals i)) (canonical_of i).environment ≡ i.environment
given_environment i h = first_part _ _ _ _ (originals_give_input i h)

given_predicate : (i : Input) → IsInput i → filled (map leaf_tree (originals i)) (canonical_of i).predicate ≡ i.predicate
given_predicate i h = first_part _ _ _ _ (rest_part _ _ _ _ (originals_give_input i h))

-- an extension by an applied response is a solution
low_later : (c d : Content) (truth : Truth) (base : ℕ) (w : World) → IsSolution truth base c w → c.universe ≤ d.universe → (r : FreeRegion) → CanName d.universe (free_region_level r) → CanName d.universe (free_region_level (w.region r))
low_later c d truth base w s h r n = by_case r n (s.low r)
  where
    higher : (q : FreeRegion) → CanName c.universe (free_region_level q) → CanName d.universe (free_region_level q)
    higher q k = CanName-more c.universe d.universe (free_region_level q) h k

    split : (u n : ℕ) → CanName d.universe (Some u) → (u ≤ c.universe → CanName c.universe (free_region_level (w.region (region.Placeholder u n)))) → (u ≤ c.universe) ⊎ (c.universe < u) → CanName d.universe (free_region_level (w.region (region.Placeholder u n)))
    split u n k f (inl l) = higher (w.region (region.Placeholder u n)) (f l)
    split u n k f (inr l) = rw (s.new u n (let a = s.above in omega (arith, a, l))) k

    by_case : (q : FreeRegion) → CanName d.universe (free_region_level q) → (CanName c.universe (free_region_level q) → CanName c.universe (free_region_level (w.region q))) → CanName d.universe (free_region_level (w.region q))
    by_case (region.Placeholder u n) k f = split u n k f (elim (cases_lt c.universe u) [ inl l ↦ inr l | inr l ↦ inl l ])
    by_case region.Static k f = higher _ (f tt)
    by_case region.Erased k f = higher _ (f tt)
    by_case region.Error k f = higher _ (f tt)
    by_case (region.EarlyParam n) k f = higher _ (f tt)
    by_case (region.LateParam n) k f = higher _ (f tt)

pub solution_later : (truth : Truth) (base : ℕ) (c d : Content) (w v : World) → IsSolution truth base c w → c.universe ≤ d.universe → Agrees (length c.slots) w v → Solves d v → IsNameable leaf_level d v → IsSolution truth base d v
solution_later truth base c d w v s h a t n =
    record {
      solves = t;
      named = n;
      above = (let b = s.above in omega (arith, b, h));
      fixed = KeepsFixedRegions-agrees (length c.slots) w v a s.fixed;
      new = λ u m l. a.regions (region.Placeholder u m) ∙ s.new u m l;
      low = λ r k. subst (λ z. CanName d.universe (free_region_level z)) (sym (a.regions r)) (low_later c d truth base w s h r k);
      outlives = λ x y. a.outlives x y ∙ s.outlives x y;
    }

-- the leaves of an input without hidden types are the leaves of its goal
module _ (P : Tree → Type 0) (parts : IsOfParts P) (w : World) (i : Input) (input : IsInput i) (nothing_hidden : i.hidden ≡ empty) (whole : P (inst w (pair i.environment i.predicate))) where
  leaf_image : (l : Leaf) → Among (originals i) l → P (inst w (leaf_tree l))
  leaf_image l a = go (let h = originals_are_leaves i input in let both = h.1 l in both.0 a)
    where
      go : OccursIn l i → P (inst w (leaf_tree l))
      go (inl o) = image_inside P parts w l i.environment (let f = input.formed in f.0) o.1 (parts.left _ _ whole)
      go (inr (inl o)) = image_inside P parts w l i.predicate (let f = input.formed in let g = f.1 in g.0) o (parts.left _ _ (parts.right _ _ whole))
      go (inr (inr o)) = absurd (subst (Occurs l) nothing_hidden o)

-- the originals are of the table, and its current universe names them
pub record AreOriginalsOf (c : Content) (ls : List Leaf) : Type 0 where
  pub knows : (l : Leaf) → Among ls l → Knows c (leaf_tree l)
  pub low : (l : Leaf) → Among ls l → CanName c.universe (original_level c l)

-- a solution goes on to a later table, and no alias comes to stand for a variable
pub record GoesOn (truth : Truth) (base : ℕ) (c d : Content) (w : World) : Type 0 where
  pub world : World
  pub agrees : Agrees (length c.slots) w world
  pub solution : IsSolution truth base d world
  pub plain : IsPlainWorld c w → IsPlainWorld d world

-- what a leaf that the table knows is in a world is formed
pub leaf_formed : (c : Content) (w : World) → IsFitting c w → (l : Leaf) → Knows c (leaf_tree l) → IsFormed (inst w (leaf_tree l))
leaf_formed c w f (leaf.Variable k n) h = (let v = f.each n k h.0.0 in v.formed)
leaf_formed c w f (leaf.Region r) h = (tt, tt)
leaf_formed c w f (leaf.TyConstant a) h = (tt, tt)
leaf_formed c w f (leaf.ConstConstant a) h = (tt, tt)

-- what holds between a caller's table and a query, and does not depend on the answer
pub record IsAskedFrom (truth : Truth) (Proves : Tree → Tree → Type 0) (c : Content) (i : Input) : Type 0 where
  pub input : IsInput i
  pub nothing_hidden : i.hidden ≡ empty
  pub originals_of : AreOriginalsOf c (originals i)
  pub carrier : Carrier c.universe (originals i)
  pub carriable : IsCarriable Proves c.universe (originals i) carrier
  pub fair : (a b : Tree) → truth (instance_of carrier.back a) (instance_of carrier.back b) ≡ truth a b
  pub ground : (e g : Tree) → Proves e g → AllLabels IsGroundLabel (pair e g)
  pub to_free : (l : Leaf) → IsAliasFree (carrier.to.value l)
  pub back_free : (l : Leaf) → IsAliasFree (carrier.back.value l)

module _ (truth : Truth) (base : ℕ) (Proves : Tree → Tree → Type 0) (c : Content) (i : Input) (h : IsAskedFrom truth Proves c i) where
  -- no alias stands for an original
  abbrev pub IsPlainAt : World → Type 0
  IsPlainAt w = (l : Leaf) → Among (originals i) l → IsAliasFree (inst w (leaf_tree l))

  pub askable : (w : World) → IsSolution truth base c w → IsPlainAt w → Proves (inst w i.environment) (inst w i.predicate) → (l : Leaf) → Among (originals i) l → IsAskable c w l
  askable w s f p l a =
      let known = h.originals_of in
      record {
        knows = known.knows l a;
        low = known.low l a;
        formed = leaf_formed c w s.solves.fitting l (known.knows l a);
        ground = leaf_image (AllLabels IsGroundLabel) ground_parts w i h.input h.nothing_hidden (h.ground _ _ p) l a;
        free = f l a;
      }

  image_free : (w : World) (s : IsSolution truth base c w) → IsPlainAt w → (ls : List Leaf) → ((l : Leaf) → Among ls l → Among (originals i) l) → (v : Tree) → Among (map (image truth base c w s (originals i) h.carrier) ls) v → IsAliasFree v
  image_free w s f [] k v n = absurd n
  image_free w s f (l ∷ ls) k v (inl e) = subst IsAliasFree (sym e) (free_instance (h.carrier.to.value) h.to_free (inst w (leaf_tree l)) (f l (k l (inl refl))))
  image_free w s f (l ∷ ls) k v (inr n) = image_free w s f ls (λ x j. k x (inr j)) v n

  -- a solution of the caller's table that proves the goal is one of the query
  pub asked_solution : (w : World) (s : IsSolution truth base c w) → IsPlainAt w → Proves (inst w i.environment) (inst w i.predicate) → IsSolutionOf Proves (canonical_of i) (map (image truth base c w s (originals i) h.carrier) (originals i))
  asked_solution w s f p =
      let κ = h.carrier in
      let vs = map (image truth base c w s (originals i) κ) (originals i) in
      let e : filled vs (canonical_of i).environment ≡ instance_of κ.to (inst w i.environment) =
      asked_filled truth base c w s (originals i) κ (canonical_of i).environment (canonical_environment_over i h.input) ∙ ap (λ z. instance_of κ.to (inst w z)) (given_environment i h.input) in
      let g : filled vs (canonical_of i).predicate ≡ instance_of κ.to (inst w i.predicate) =
      asked_filled truth base c w s (originals i) κ (canonical_of i).predicate (canonical_predicate_over i h.input) ∙ ap (λ z. instance_of κ.to (inst w z)) (given_predicate i h.input) in
      let can = h.carriable in
      record {
        values = asked_values truth base c w s (originals i) κ i.sub_root (originals i) (λ l a. a) (askable w s f p);
        plain = image_free w s f (originals i) (λ l a. a);
        proved = subst (λ z. Proves z (filled vs (canonical_of i).predicate)) (sym e) (subst (λ z. Proves (instance_of κ.to (inst w i.environment)) z) (sym g) (can.carried _ _ p));
      }

  -- so a query that refuses has a caller that refuses
  pub asked_refuses : HasNoSolution Proves (canonical_of i) → (w : World) → IsSolution truth base c w → IsPlainAt w → Proves (inst w i.environment) (inst w i.predicate) → ⊥
  asked_refuses none w s f p = none _ (asked_solution w s f p)

  -- .. and an answer that contains all solutions is applied without losing any
  pub asked_extends : (r : Response) (d : Content) → IsResponseTo (canonical_of i).kinds r → Applies c d (map leaf_tree (originals i)) r → c.universe ≤ d.universe → AnswerContains truth Proves (canonical_of i) r
      → (w : World) → IsSolution truth base c w → IsPlainAt w → Proves (inst w i.environment) (inst w i.predicate) → GoesOn truth base c d w
  asked_extends r d fit a up all w s f p =
      let κ = h.carrier in
      let x = all _ (asked_solution w s f p) in
      let can = askable w s f p in
      let granted = contained_granted truth base c w s (originals i) κ can h.fair (canonical_of i).kinds r fit x in
      let e = a.complete w (map (instance_of κ.back) x.own) s.solves granted in
      let by = named_with_regions truth base c w s (originals i) κ can h.fair r.kinds x.own x.values in
      record {
        world = e.world;
        agrees = e.agrees;
        solution = solution_later truth base c d w e.world s up e.agrees e.solves (e.names leaf_level s.named by);
        plain = plain_by_names c d w e.world (λ m n. e.names (alias_level m) n (free_are_named leaf_level m c.universe r.kinds (map (instance_of κ.back) x.own) by (back_plain x.own x.plain)));
      }
    where
      back_plain : (ts : List Tree) → ((t : Tree) → Among ts t → IsAliasFree t) → (t : Tree) → Among (map (instance_of h.carrier.back) ts) t → IsAliasFree t
      back_plain [] g t n = absurd n
      back_plain (x ∷ ts) g t (inl q) = subst IsAliasFree (sym q) (free_instance (h.carrier.back.value) h.back_free x (g x (inl refl)))
      back_plain (x ∷ ts) g t (inr n) = back_plain ts (λ y j. g y (inr j)) t n

-- goals that are terms of a table
pub record AreTermsOf (c : Content) (gs : List Premise) : Type 0 where
  pub environments : (q : Premise) → Among gs q → Knows c q.environment
  pub predicates : (q : Premise) → Among gs q → Knows c q.predicate

pub among_split : {X : Type 0} (xs ys : List X) (x : X) → Among (xs ++ ys) x → Among xs x ⊎ Among ys x
among_split [] ys x a = inr a
among_split (y ∷ xs) ys x (inl e) = inl (inl e)
among_split (y ∷ xs) ys x (inr a) = elim (among_split xs ys x a) [ inl b ↦ inl (inr b) | inr b ↦ inr b ]

module _ (truth : Truth) (base : ℕ) (Proves : Tree → Tree → Type 0) where
  -- what is proved of a term of the table stays proved
  pub still_proved : (c : Content) (w v : World) (q : Premise) → Agrees (length c.slots) w v → Knows c q.environment → Knows c q.predicate → IsProvedIn Proves w q → IsProvedIn Proves v q
  still_proved c w v q a k l p =
      subst (λ z. Proves z (inst v q.predicate)) (sym (inst-agrees c w v q.environment a k))
      (subst (λ z. Proves (inst w q.environment) z) (sym (inst-agrees c w v q.predicate a l)) p)

  pub kept_same : (c : Content) (gs hs : List Premise) → ((q : Premise) → Among hs q → Among gs q) → KeepsSolutions truth base Proves c gs c hs
  kept_same c gs hs h =
      record {
        longer = omega arith;
        kinds = λ n k e. e;
        each = λ w s. record { world = w; agrees = Agrees-refl (length c.slots) w; solves = record { solution = s.solution; plain = s.plain; goals = λ q a. s.goals q (h q a) } };
      }

  pub kept_trans : (c d e : Content) (gs hs ks : List Premise) → KeepsSolutions truth base Proves c gs d hs → KeepsSolutions truth base Proves d hs e ks → KeepsSolutions truth base Proves c gs e ks
  kept_trans c d e gs hs ks a b =
      record {
        longer = omega (arith, a.longer, b.longer);
        kinds = λ n k h. b.kinds n k (a.kinds n k h);
        each = λ w s. (let x = a.each w s in let y = b.each x.world x.solves in
            record { world = y.world; agrees = Agrees-trans (length c.slots) (length d.slots) w x.world y.world a.longer x.agrees y.agrees; solves = y.solves });
      }
