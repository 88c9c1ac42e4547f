use Rattle.std.proofs.Common.{inl, inr}
use Rattle.nts_store.proofs.Growing.{Extends-refl}
use Rattle.nts_normalize.specs.Normalizing.{collected}
use Rattle.nts_folding.proofs.Folded.{on_same_err}
use Rattle.nts_normalize.proofs.Asked.{at_closed}
use Rattle.nts_normalize.proofs.Stepping.{FolderGoes-collects, collected_held, collects}
use Rattle.nts_normalize.proofs.folder.NormalizationFolder.replace.Goals as goal

pub returns-clause-goes : goal.returns-clause-goes
returns-clause-goes g c = FolderGoes-collects (collected c.in_ok-term.goal) c.ask.ensures.goes c.collect.ensures.table c.in_ok-collect.ensures.goals (collected_held (Extends-refl _) c.in_ok-term.goal c.in_ok-term.ensures.answer.goal)

pub returns-clause-rebuilds : goal.returns-clause-rebuilds
returns-clause-rebuilds g c =
    inr (
      c.requires.is,
      inl (record {
        closed = c.has_escaping_bound_vars.ensures.no c.if-has_escaping_bound_vars.false;
        goal = _;
        asked = _;
        asks = rw (← c.requires.alias) at c.in_ok-term.ensures.asks;
        collects = collects c.ask.new.self c.collect.new.self c.in_ok-term.goal c.ask.ensures.goes.ready (Extends-refl _) c.in_ok-term.ensures.answer.goal c.collect.ensures.table c.collect.ensures.universes c.collect.ensures.normalize c.in_ok-collect.ensures.goals;
      }),
    )

pub returns-in_err-term-clause-err : goal.returns-in_err-term-clause-err
returns-in_err-term-clause-err g c =
    on_same_err _ _ _ c.from_residual.ensures.1 (at_closed g.F.FnMut _ _ _ c.requires.is (c.has_escaping_bound_vars.ensures.no c.if-has_escaping_bound_vars.false) (rw (← c.requires.alias) at c.in_err-term.ensures.err))
