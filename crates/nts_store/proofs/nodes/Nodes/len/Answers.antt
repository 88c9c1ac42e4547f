use Rattle.std.proofs.Common.{rules, ◌≡◌, ap, sym, ◌∙◌, length}
use Rattle.nts_store.proofs.Inserting.{length-trees}
use Rattle.nts_store.proofs.nodes.Nodes.len.Goals as goal

pub returns : goal.returns
returns c =
    let count : c.len.result ≡ length c.self.inside.index.nodes.items = search rules in
    record { count = count ∙ sym (length-trees c.self.inside.index.nodes.items) ∙ ap length c.self.view_is }
