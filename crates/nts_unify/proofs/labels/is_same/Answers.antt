use Rattle.std.proofs.Common.{◌≡◌, true, sym, ◌∙◌}
use Rattle.nts_terms.specs.nts_store.specs.Equal.{same_label}
use Rattle.nts_unify.proofs.labels.is_same.Goals as goal

pub returns-clause-yes : goal.returns-clause-yes
returns-clause-yes c = λ yes. (same_label c.args.a c.args.b).0 (sym c.eq.ensures ∙ yes)

pub returns-clause-no : goal.returns-clause-no
returns-clause-no c = λ no same. let yes : c.eq.result ≡ true = c.eq.ensures ∙ (same_label c.args.a c.args.b).1 same in cc
