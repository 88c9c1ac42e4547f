use Rattle.std.specs.Prelude.{codes}
use Rattle.std.proofs.Common.{◌≡◌, refl, ap, is_some}
use Rattle.nts_text.proofs.FaultLemmas.{no_rigid_alias, no_alias, rest_is}
use Rattle.nts_text.proofs.parser.alias_line.Goals.{in-Some, in-None}
use Rattle.nts_text.proofs.parser.alias_line.Goals as goal

-- with `rigid` behind the list, or without it
pub returns-in-None-2-clause-none : goal.returns-in-None-2-clause-none
returns-in-None-2-clause-none c = λ _.
    let none = c.in_ok-sorts.ensures.none (ap is_some c.in-None-2.is) in
    let word : c.as_slice.result.now ≡ codes "rigid" = c.as_slice.ensures in
    elim c.match-before_word.branch [
      | in-Some w ↦ no_rigid_alias c.args.line.now c.args.tokens.now _ _ (rest_is c.args.tokens.now) (rw word at w.in-Some.ensures.found) (rw w.is_rigid-is at none)
      | in-None w ↦ no_alias c.args.line.now c.args.tokens.now _ (rest_is c.args.tokens.now) (rw word at w.in-None.ensures.none refl) (rw w.is_rigid-is at none)
    ]
