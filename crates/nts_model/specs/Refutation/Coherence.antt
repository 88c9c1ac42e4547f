-- The law of a handler that in coherence all rules are offered, and what the leaves of a goal are in a world.
use Rattle.std.specs.Prelude.{◌≡◌, List}
use Rattle.nts_model.specs.declared.labels.Leaf.{Leaf}
use Rattle.nts_model.specs.Terms.Trees.{Tree}
use Rattle.nts_model.specs.Terms.Substitutions.{Occurs, Instance, instance_of, leaf_tree, filled_under}
use Rattle.nts_model.specs.Derivations.Related.{Constraint}
use Rattle.nts_model.specs.Lists.{Among}
use Rattle.nts_model.specs.Derivations.Sequents.{Premise}
use Rattle.nts_model.specs.Derivations.Rules.{Mode, coherence, Equation, Application}
use Rattle.nts_model.specs.Derivations.Handlers.{Handler, Candidate, IsAsked, AreValuesOf, equation_by, constraint_by, premise_by}
use Rattle.nts_model.specs.Tables.Worlds.{World, inst}

-- an offered candidate, and values of the rule for its fresh variables, with which it asks for nothing beyond the rule
pub record Covers (h : Handler) (mode : Mode) (e g : Tree) (ι : Instance) (a : Application) : Type 0 where
  pub candidate : Candidate
  pub offered : Among (h.offers mode e g) candidate
  pub chosen : List Tree
  pub values : AreValuesOf candidate.fresh chosen
  pub of_rule : (v : Tree) → Among chosen v → Among a.values v
  pub equations : (q : Equation) → Among candidate.equations q → Among a.equations (equation_by (filled_under ι.value chosen) q)
  pub constraints : (x : Constraint) → Among candidate.constraints x → Among a.constraints (constraint_by (filled_under ι.value chosen) x)
  pub goals : (p : Premise) → Among candidate.goals p → Among a.goals (premise_by (filled_under ι.value chosen) p)

-- in coherence every rule for an instance of a goal is covered by an offered candidate, certain or not
pub record RulesAreOffered (h : Handler) : Type 0 where
  pub covered : (e g : Tree) (ι : Instance) (a : Application) → IsAsked e g → h.applies coherence a → a.environment ≡ instance_of ι e → a.conclusion ≡ instance_of ι g → Covers h coherence e g ι a

-- an instance that gives the leaves of a goal their trees in a world
abbrev pub IsInstanceIn : World → Tree → Instance → Type 0
IsInstanceIn w t ι = (l : Leaf) → Occurs l t → ι.value l ≡ inst w (leaf_tree l)
