use Rattle.std.proofs.Common.{ap, sym, ◌∙◌, ◌≡◌}
use Rattle.std.specs.Prelude.{unwrap_or}
use Rattle.nts_model.specs.Canonical.Numbered.{same, number}
use Rattle.nts_canonicalizer.specs.LeafLists.{leaves_found}
use Rattle.nts_canonical.proofs.Placing.{position_or_end}
use Rattle.nts_canonicalizer.proofs.leaves.Leaves.number.Goals as goal

pub returns-in-Hashed : goal.returns-in-Hashed
returns-in-Hashed c =
    let shown : c.in-Hashed.set.keys ≡ c.args.self.now = ap leaves_found (sym c.in-Hashed.is) ∙ c.self.view_is in
    c.unwrap_or.ensures ∙ ap (λ o. unwrap_or o c.len.result) c.get_index_of.ensures.index ∙ position_or_end (same c.args.leaf) c.in-Hashed.set.keys c.len.result c.len.ensures.len ∙ ap (λ s. number s c.args.leaf) shown
