use Rattle.std.proofs.Common.{rules, ◌≡◌, false, sym, ◌∙◌}
use Rattle.nts_store.specs.Growth.{tree_at}
use Rattle.nts_canonicalizer.specs.Collecting.{stays_where}
use Rattle.nts_canonicalizer.proofs.Gathering.{ok_map, ok_map_both, term_within, tasks_within, continues_leaf, continues_finished, continues_leafless, continues_down}
use Rattle.nts_canonicalizer.proofs.Leafless.{leafless}
use Rattle.nts_canonicalizer.proofs.collecting.enter.Goals as goal

pub label-requires : goal.label-requires
label-requires c = term_within (stays_where c.args.staying) _ _ _ _ _ c.requires

pub returns-in-Leaf : goal.returns-in-Leaf
returns-in-Leaf c =
    ok_map c.see.result _ _ (λ h. continues_leaf (stays_where c.args.staying) _ _ _ c.in-Leaf.leaf _ _ _ _ c.requires c.label.ensures.is c.in-Leaf.is h) c.see.ensures

pub returns-then-contains : goal.returns-then-contains
returns-then-contains c =
    continues_finished (stays_where c.args.staying) _ _ _ _ _ _ c.requires c.label.ensures.is (sym c.contains.ensures ∙ c.if-contains.true)

pub returns-then-not-flags : goal.returns-then-not-flags
returns-then-not-flags c =
    let none : c.flags.result.has_leaf ≡ false = first_of (cc, search rules) in
    continues_leafless (stays_where c.args.staying) _ _ _ _ _ _ c.requires c.label.ensures.is (leafless (tree_at c.args.nodes.now c.args.term) c.flags.result c.flags.ensures none)

pub push_children-requires : goal.push_children-requires
push_children-requires c = record {
  within = term_within (stays_where c.args.staying) _ _ _ _ _ c.requires;
  tasks = rw c.in_ok-push.ensures.items (tasks_within (stays_where c.args.staying) _ _ _ _ _ c.requires);
}

pub returns : goal.returns
returns c =
    ok_map_both c.push_children.result _ _ _ (λ w j. continues_down (stays_where c.args.staying) _ _ _ _ _ _ _ _ c.requires c.label.ensures.is c.in_default.not-Leaf c.push_children.ensures.row c.in_ok-push.ensures.items w j) c.push_children.ensures.within c.push_children.ensures.jobs
