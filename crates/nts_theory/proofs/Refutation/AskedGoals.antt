-- Goals of a candidate that are asked: each is granted as it is asked.
use Rattle.std.proofs.Common.{◌≡◌, inl, inr, Bool, true, false, List, [], ◌∷◌, refl, ap, ◌∙◌}
use Rattle.std.specs.Prelude.{◌||◌, ◌&&◌}
use Rattle.nts_model.specs.declared.labels.ClauseHead.TheVariants as clause
use Rattle.nts_model.specs.declared.labels.PredicateHead.TheVariants as predicate
use Rattle.nts_model.specs.declared.labels.ListHead.TheVariants as list
use Rattle.nts_model.specs.declared.labels.Label.TheVariants as label
use Rattle.nts_model.specs.Terms.Trees.{Tree, empty, more, node, any_label, is_alias}
use Rattle.nts_model.specs.Tables.Contents.{Content}
use Rattle.nts_model.specs.Tables.Resolving.{Knows}
use Rattle.nts_model.specs.Tables.Worlds.{World, inst}
use Rattle.nts_model.specs.Lists.{Among}
use Rattle.nts_model.specs.Derivations.Sequents.{Premise}
use Rattle.nts_model.specs.Derivations.Rules.{Mode, coherence, post_analysis, erased, analysis, borrowck, post_borrowck, statement_of, IsHandlers, KeepsAliases}
use Rattle.nts_model.specs.Refutation.Containing.{Truth, IsPlainWorld}
use Rattle.nts_theory.specs.AskedGoals.{is_engines, is_asked, those_asked, all_asked, asked_in, asks_all}
use Rattle.nts_theory.specs.Refutation.Refutation.{StandsAsIs, IsGrantedAsIs, IsGrantedAsAsked}
use Rattle.nts_theory.proofs.Refutation.PlainTerms.{unlabelled_free, statement_free}
use Rattle.nts_theory.proofs.Refutation.OneSided.{free_inst}
use Rattle.nts_theory.proofs.Refutation.Begun.{BegunAt}

and_both : (a b : Bool) → (a && b) ≡ true → (a ≡ true) × (b ≡ true)
and_both true b e = (refl, e)
and_both false b e = absurd (cc e)

among_more : (p : Premise) (ps : List Premise) (q : Premise) → (Among (those_asked ps) q → Among ps q × (is_asked q.predicate ≡ true)) → Among (those_asked (p ∷ ps)) q → Among (p ∷ ps) q × (is_asked q.predicate ≡ true)
among_more p ps q rest i = by_test (is_asked p.predicate) refl
  where
    later : Among (those_asked ps) q → Among (p ∷ ps) q × (is_asked q.predicate ≡ true)
    later j = (let r = rest j in (inr r.0, r.1))

    by_test : (b : Bool) → is_asked p.predicate ≡ b → Among (p ∷ ps) q × (is_asked q.predicate ≡ true)
    by_test true e = elim (rw e at i) [ inl s ↦ (inl s, ap (λ (z : Premise). is_asked z.predicate) s ∙ e) | inr j ↦ later j ]
    by_test false e = later (rw e at i)

pub among_asked : (ps : List Premise) (q : Premise) → Among (those_asked ps) q → Among ps q × (is_asked q.predicate ≡ true)
among_asked [] q i = absurd i
among_asked (p ∷ ps) q i = among_more p ps q (among_asked ps q) i

-- nothing is asked of no goals
pub asks_none : (mode : Mode) → asked_in mode [] ≡ []
asks_none coherence = refl
asks_none post_analysis = refl
asks_none erased = refl
asks_none (analysis l) = refl
asks_none (borrowck l) = refl
asks_none (post_borrowck l) = refl

-- where all are asked, they are those
all_same : (ps : List Premise) → all_asked ps ≡ true → those_asked ps ≡ ps
all_same [] e = refl
all_same (p ∷ ps) e = (let both = and_both (is_asked p.predicate) (all_asked ps) e in rw both.0 (ap (λ z. p ∷ z) (all_same ps both.1)))

pub asks_each : (mode : Mode) (ps : List Premise) → asks_all mode ps ≡ true → asked_in mode ps ≡ ps
asks_each coherence ps e = all_same ps e
asks_each post_analysis ps e = refl
asks_each erased ps e = refl
asks_each (analysis l) ps e = refl
asks_each (borrowck l) ps e = refl
asks_each (post_borrowck l) ps e = refl

-- .. and else the mode is coherence
pub asks_not_all : (mode : Mode) (ps : List Premise) → asks_all mode ps ≡ false → (mode ≡ coherence) × (all_asked ps ≡ false)
asks_not_all coherence ps e = (refl, e)
asks_not_all post_analysis ps e = absurd (cc e)
asks_not_all erased ps e = absurd (cc e)
asks_not_all (analysis l) ps e = absurd (cc e)
asks_not_all (borrowck l) ps e = absurd (cc e)
asks_not_all (post_borrowck l) ps e = absurd (cc e)

pub granted_weakly : (Proves : Tree → Tree → Type 0) (e g : Tree) → IsGrantedAsAsked Proves e g → IsGrantedAsIs Proves e g
granted_weakly Proves e g x = record { ground = x.ground; proved = λ s. x.proved (inl s) }

-- a goal of the engine's own kinds, or whose aliases stay
engine_stands : (w : World) (s : Tree) → is_engines s ≡ true → IsHandlers (inst w s) → KeepsAliases (inst w s)
engine_stands w (node (label.Clause clause.TypeOutlives) c) e h = absurd h
engine_stands w (node (label.Clause clause.RegionOutlives) c) e h = absurd h
engine_stands w (node (label.Clause clause.ConstArgHasType) c) e h = absurd h
engine_stands w (node (label.Clause clause.WellFormed) c) e h = absurd h
engine_stands w (node (label.Clause clause.ConstEvaluatable) c) e h = absurd h
engine_stands w (node (label.Clause (clause.UnstableFeature f)) c) e h = absurd h
engine_stands w (node (label.Predicate (predicate.NormalizesTo i)) c) e h = tt
engine_stands w (node (label.Predicate (predicate.Subtype x)) c) e h = absurd h
engine_stands w (node (label.Predicate predicate.Coerce) c) e h = absurd h
engine_stands w (node (label.Predicate (predicate.DynCompatible i)) c) e h = absurd h
engine_stands w (node (label.Predicate predicate.ConstEquate) c) e h = absurd h
engine_stands w (node (label.Predicate (predicate.AliasRelate d)) c) e h = absurd h
engine_stands w (node (label.Predicate predicate.Ambiguous) c) e h = absurd h
engine_stands w s e h = absurd (cc e)

engines_stand : (w : World) (g : Tree) → is_engines (statement_of g) ≡ true → IsHandlers (statement_of (inst w g)) → StandsAsIs (inst w g)
engines_stand w (node (label.List list.Binder) (more v (more s empty))) e h = inr (engine_stands w s e h)
engines_stand w (node (label.List list.Binder) (more v (more s (more x y)))) e h = absurd (cc e)
engines_stand w (node (label.List list.Binder) (more v (more s (node l c)))) e h = absurd (cc e)
engines_stand w (node (label.List list.Binder) (more v empty)) e h = absurd (cc e)
engines_stand w (node (label.List list.Binder) (more v (node l c))) e h = absurd (cc e)
engines_stand w (node (label.List list.Binder) empty) e h = absurd (cc e)
engines_stand w (node (label.List list.Binder) (node l c)) e h = absurd (cc e)
engines_stand w g e h = absurd (cc e)

or_left : (b : Bool) → (b || false) ≡ true → b ≡ true
or_left true e = refl
or_left false e = e

module _ (Proves : Tree → Tree → Type 0) (c : Content) (w : World) (free : IsPlainWorld c w) where
  -- in a plain world a goal that is asked, and that rules of a handler say, has no alias, or keeps them
  stands_there : (g : Tree) → Knows c g → is_asked g ≡ true → IsHandlers (statement_of (inst w g)) → StandsAsIs (inst w g)
  stands_there g k e h = by_alias (any_label is_alias g) refl
    where
      by_alias : (b : Bool) → any_label is_alias g ≡ b → StandsAsIs (inst w g)
      by_alias false n = inl (statement_free (inst w g) (free_inst c w free g k (unlabelled_free g n)))
      by_alias true n = engines_stand w g (or_left (is_engines (statement_of g)) (rw n at e)) h

  pub asked_granted : (e g : Tree) → Knows c g → is_asked g ≡ true → IsGrantedAsIs Proves (inst w e) (inst w g) → IsGrantedAsAsked Proves (inst w e) (inst w g)
  asked_granted e g k a x = record { ground = x.ground; proved = λ t. elim t [ inl s ↦ x.proved s | inr h ↦ x.proved (stands_there g k a h) ] }

-- so where a candidate is begun, those of its goals that are asked are granted as they are asked
pub begun_asked : (truth : Truth) (Proves : Tree → Tree → Type 0) (c met : Content) (w : World) (ps : List Premise) → BegunAt truth (IsGrantedAsIs Proves) c met w ps → BegunAt truth (IsGrantedAsAsked Proves) c met w (those_asked ps)
begun_asked truth Proves c met w ps b =
    let to = b.reaches in
    let solves = b.goals in
    let terms = b.terms in
    record {
      reaches = to;
      goals = record {
        solution = solves.solution;
        plain = solves.plain;
        goals = λ q i. (let a = among_asked ps q i in asked_granted Proves met to.world solves.plain q.environment q.predicate (terms.predicates q a.0) a.1 (solves.goals q a.0));
      };
      terms = record { environments = λ q i. terms.environments q (among_asked ps q i).0; predicates = λ q i. terms.predicates q (among_asked ps q i).0 };
    }
