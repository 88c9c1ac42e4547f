use Rattle.std.proofs.Common.{◌∙◌, [], Err, ap, refl, sym}
use Rattle.std.proofs.lemmas.List.{append-nil}
use Rattle.nts_normalize.specs.Calling.{IsCalled, KeepsAll}
use Rattle.nts_normalize.specs.Walking.{standing_of, goals_kept}
use Rattle.nts_unify.specs.Reading.{content_of}
use Rattle.nts_folding.proofs.Folded.{on_err}
use Rattle.nts_normalize.proofs.Asked.{asks_answer, fails_answer, no_universe}
use Rattle.nts_normalize.proofs.folder.NormalizationFolder.ask.Given.{Over}
use Rattle.nts_normalize.proofs.folder.NormalizationFolder.ask.Goals as goal

called : (g : Over) (c : goal.After-normalize g) → IsCalled g.F.FnMut c.args.self.now.normalize c.create_next_universe.new.self c.args.cx.now c.args.alias c.normalize.result c.normalize.new.self c.normalize.new.arg2 c.normalize.new.arg3
called g c = record { table = _; store = _; at = (refl, refl); left = _; called = c.normalize.ensures; leaves = (refl, refl) }

kept : (g : Over) (c : goal.After-normalize g) → KeepsAll c.create_next_universe.new.self c.args.cx.now c.args.alias c.normalize.result c.normalize.new.arg2 c.normalize.new.arg3
kept g c =
    let table = c.create_next_universe.ensures.table c.args.cx.now.nodes c.requires.ready.table in
    c.requires.ready.normalizer.keeps _ _ _ _ _ _ _ _ table c.requires.args (called g c)

pub returns-clause-goes : goal.returns-clause-goes
returns-clause-goes g c =
    let now = kept g c in
    let first = c.create_next_universe.ensures.changes in
    record {
      grows = now.grows;
      ready = record { table = now.table; goals = goals_kept now.grows.extends _ c.requires.ready.goals; normalizer = c.requires.ready.normalizer };
      keeps = record {
        changes = record { saved = now.changes.saved ∙ first.saved; mode = now.changes.mode ∙ first.mode };
        more = [];
        goals = sym (append-nil _);
      };
    }

pub returns-clause-answer : goal.returns-clause-answer
returns-clause-answer g c = (kept g c).answer

pub returns-clause-asks : goal.returns-clause-asks
returns-clause-asks g c =
    let moved = c.in_ok-create_next_universe.ensures.entries in
    asks_answer g.F.FnMut c.args.self.now c.create_next_universe.new.self c.normalize.new.arg2 c.normalize.new.self c.args.cx.now c.normalize.new.arg3 c.args.alias c.normalize.result (ap (λ e. content_of c.args.cx.now.nodes e) moved) (called g c) (kept g c).grows.extends c.requires.ready.goals

pub returns-in_err-create_next_universe-clause-err : goal.returns-in_err-create_next_universe-clause-err
returns-in_err-create_next_universe-clause-err g c =
    on_err _ _ _ c.from_residual.ensures.1 (λ e q. no_universe g.F.FnMut (standing_of c.args.cx.now.nodes c.args.self.now) _ _ e q (λ h. c.in_err-create_next_universe.ensures.full (ap Err h)))

pub returns-clause-err : goal.returns-clause-err
returns-clause-err g c =
    let moved = c.in_ok-create_next_universe.ensures.entries in
    fails_answer g.F.FnMut c.args.self.now _ _ _ _ _ c.args.alias c.normalize.result (ap (λ e. content_of c.args.cx.now.nodes e) moved) (called g c)
