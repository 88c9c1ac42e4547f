use Rattle.std.proofs.Common.{arith, is_ok, refl, ap}
use Rattle.std.proofs.ResultArms.{chosen}
use Rattle.std.proofs.lemmas.Grind.{common_steps}
use Rattle.nts_text.proofs.NumberLemmas.{numbered_insert}
use Rattle.nts_text.proofs.NameLemmas.{others_kept}
use Rattle.nts_text.proofs.FaultLemmas.{declares_no_alias}
use Rattle.nts_text.proofs.names.NameTable.declare_alias.Goals as goal

-- the alias has the next number
pub invariant_of-self-2 : goal.invariant_of-self-2
invariant_of-self-2 c =
    let longer = chosen _ _ _ _ c.push.ensures.len (ap is_ok c.in_ok-push.was) in
    record {
      numbered = numbered_insert _ _ _ _ _ _ _ _ _ _ _ _ c.insert.ensures.entries c.insert.ensures.err (omega arith) (omega arith) (omega (arith, longer))
          (grind (arith, common_steps, longer, c.len-number.ensures)) c.args.self.now.numbered;
    }

pub returns-clause-others : goal.returns-clause-others
returns-clause-others c = λ other differs.
    others_kept other c.args.name.now c.in_ok-key.key _ c.args.self.now.numbers.entries c.insert.new.self.entries c.in_ok-key.ensures.items differs c.in_ok-insert.ensures.entries

-- memory ran out before the name was put into the table
pub returns-in_err-key : goal.returns-in_err-key
returns-in_err-key c = declares_no_alias _ _ _ _ _ _ _ _ _ c.from_residual.result c.from_residual.ensures.1 (λ other differs. refl) refl refl

pub returns-in_err-name : goal.returns-in_err-name
returns-in_err-name c = declares_no_alias _ _ _ _ _ _ _ _ _ c.from_residual-in_err-name.result c.from_residual-in_err-name.ensures.1 (λ other differs. refl) refl refl

pub returns-in_err-push : goal.returns-in_err-push
returns-in_err-push c = declares_no_alias _ _ _ _ _ _ _ _ _ c.from_residual-in_err-push.result c.from_residual-in_err-push.ensures.1 (λ other differs. refl) refl refl
