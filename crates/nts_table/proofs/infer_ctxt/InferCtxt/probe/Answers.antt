use Rattle.std.proofs.Common.{arith, refl, ◌≡◌, ◌∙◌, ap, length, length-append, ◌∷◌, []}
use Rattle.nts_table.proofs.GoingBack.{back_to}
use Rattle.nts_table.proofs.infer_ctxt.InferCtxt.probe.Goals as goal

pub rollback_to-requires : goal.rollback_to-requires
rollback_to-requires g c =
    let k : c.f-result.new.arg2.saved ≡ c.start_snapshot.new.self.saved = c.requires.ends _ _ _ (record { shown = _; shows = refl; left = _; met = c.f-result.ensures; leaves = refl }) in
    let d = c.in_ok-snapshot.ensures in
    omega (arith, ap length k, ap length d.saved, d.depth, length-append c.args.self.now.saved (c.args.self.now.entries ∷ []))

pub returns-clause-same : goal.returns-clause-same
returns-clause-same g c =
    let m : c.f-result.new.arg2.mode ≡ c.start_snapshot.new.self.mode = c.requires.mode _ _ _ (record { shown = _; shows = refl; left = _; met = c.f-result.ensures; leaves = refl }) in
    let k : c.f-result.new.arg2.saved ≡ c.start_snapshot.new.self.saved = c.requires.ends _ _ _ (record { shown = _; shows = refl; left = _; met = c.f-result.ensures; leaves = refl }) in
    back_to c.args.self.now c.rollback_to.new.self c.f-result.new.arg2.saved (k ∙ c.in_ok-snapshot.ensures.saved) c.rollback_to.ensures.saved
    (c.rollback_to.ensures.mode ∙ m ∙ c.start_snapshot.ensures.mode)

pub returns-clause-answered : goal.returns-clause-answered
returns-clause-answered g c =
    record {
      before = c.start_snapshot.new.self;
      after = c.f-result.new.arg2;
      same = c.in_ok-snapshot.ensures.entries;
      answers = record { shown = _; shows = refl; left = _; met = c.f-result.ensures; leaves = refl };
    }
