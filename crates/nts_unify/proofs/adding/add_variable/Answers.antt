use Rattle.std.proofs.Common.{refl}
use Rattle.nts_unify.specs.Lawful.{IsLawful-added, IsLawful-extended}
use Rattle.nts_unify.proofs.adding.add_variable.Goals as goal

pub returns-in_err-add-clause-lawful : goal.returns-in_err-add-clause-lawful
returns-in_err-add-clause-lawful c = λ h. rw c.in_err-add.ensures.err (IsLawful-extended c.in_ok-leaf.ensures.extends h)

pub returns-clause-lawful : goal.returns-clause-lawful
returns-clause-lawful c = λ h.
    rw c.in_ok-add.ensures.entries (IsLawful-added _ _ _ (IsLawful-extended c.in_ok-leaf.ensures.extends h) (record { state = refl; universe = c.requires.named; sub_link = λ m q. rw q at c.requires.linked }))
