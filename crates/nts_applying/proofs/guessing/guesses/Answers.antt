use Rattle.std.proofs.Common.{ap, arith, get_or}
use Rattle.std.proofs.lemmas.Option.{slice_get-get_or}
use Rattle.nts_canonical.specs.declared.types.CanonicalVarKind.TheVariants as var
use Rattle.nts_canonical.specs.Forms.{kind_of_var, trees_of}
use Rattle.nts_response.specs.Applied.{content_within}
use Rattle.nts_applying.proofs.Guessed.{guess_fits, original_at, one_guess}
use Rattle.nts_applying.proofs.guessing.guesses.Goals.{in-Some+then-b-kinds+then-may_stand, in-Some+else-b-kinds, in_default}
use Rattle.nts_applying.proofs.guessing.guesses.Goals as goal

pub loop-i-preserved : goal.loop-i-preserved
loop-i-preserved c =
    elim c.match-position_at.branch [
      | in-Some+then-b-kinds+then-may_stand w ↦ (let ts = c.args.cx.now.nodes in
          let b = w.in-Some.b in
          let at = c.requires.originals c.loop-i.i _ (omega (arith, c.loop-i-test.true, c.requires.long)) in
          let kind = get_or c.args.kinds.now b (var.Ty 0 0) in
          let old = content_within ts c.args.table.now.entries c.args.universe in
          let values = trees_of ts c.args.values.now in
          let originals = trees_of ts c.args.originals.now in
          let fits = guess_fits old values originals b (kind_of_var kind) _ (original_at ts c.args.values.now c.args.originals.now c.loop-i.i b _ _ c.requires.long c.loop-i-test.true w.in-Some.ensures) at.knows (w.may_stand.ensures w.if-may_stand.true) in
          one_guess ts old values originals c.args.kinds.now c.loop-i.guessed.items c.match-position_at.guessed.items b kind _ c.loop-i.invariant (slice_get-get_or c.args.kinds.now b (var.Ty 0 0) w.if-b-kinds.true) (at.holds, fits) (ap (λ v. v.items) w.guessed-is))
      | in-Some+else-b-kinds w ↦ rw w.guessed-is c.loop-i.invariant
      | in_default w ↦ rw w.guessed-is c.loop-i.invariant
    ]
