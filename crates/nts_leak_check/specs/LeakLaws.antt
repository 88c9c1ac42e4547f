-- The laws of a handler don't depend on its leaks, nor does what it answers at once.
use Rattle.std.specs.Prelude.{◌⊎◌}
use Rattle.std.proofs.Common.{inl, inr}
use Rattle.nts_model.specs.Terms.Trees.{Tree}
use Rattle.nts_model.specs.Terms.Substitutions.{Instance}
use Rattle.nts_model.specs.Derivations.Rules.{coherence, Application}
use Rattle.nts_model.specs.Derivations.Handlers.{Handler, CandidatesCommute, InstancesAreRules, RulesHaveSources, CandidatesKeep, IsLawfulHandler}
use Rattle.nts_model.specs.Refutation.Coherence.{Covers, RulesAreOffered}
use Rattle.nts_delegate.specs.SameHandlers.{MeansSame}
use Rattle.nts_leak_check.specs.Leaking.{checking}

pub IsLawfulHandler-checking : (h : Handler) → IsLawfulHandler h → IsLawfulHandler (checking h)
IsLawfulHandler-checking h p =
    record {
      commute = (let x = p.commute in record { renaming = x.renaming });
      rules = (let x = p.rules in record { instances = x.instances; closed = x.closed });
      sources = (let x = p.sources in record { each = x.each });
      keep = (let x = p.keep in record { each = x.each });
      judges = (let x = p.judges in record { allows = x.allows; evaluates = x.evaluates; well_formed = x.well_formed; goals = x.goals });
      at_once = (let x = p.at_once in record { proved = x.proved; doubted = x.doubted });
    }

covered : (h : Handler) (e g : Tree) (ι : Instance) (a : Application) → Covers h coherence e g ι a → Covers (checking h) coherence e g ι a
covered h e g ι a c =
    record {
      candidate = c.candidate;
      offered = c.offered;
      chosen = c.chosen;
      values = c.values;
      of_rule = c.of_rule;
      equations = c.equations;
      constraints = c.constraints;
      goals = c.goals;
    }

pub RulesAreOffered-checking : (h : Handler) → RulesAreOffered h → RulesAreOffered (checking h)
RulesAreOffered-checking h p = record { covered = λ e g ι a asked r env con. covered h e g ι a (p.covered e g ι a asked r env con) }

pub MeansSame-checking : {h k : Handler} → MeansSame h k → MeansSame (checking h) (checking k)
MeansSame-checking {h} {k} p =
    record {
      applies = p.applies;
      offers = p.offers;
      is_coinductive = p.is_coinductive;
      judges = p.judges;
      leaks = λ c u l. elim l [
        | inl a ↦ inl (p.leaks c u a)
        | inr b ↦ inr b
      ];
      at_once = p.at_once;
    }
