use Rattle.std.proofs.Common.{sym, ◌∙◌}
use Rattle.nts_store.specs.Growth.{tree_at}
use Rattle.nts_unify.proofs.NodeLemmas.{free_region}
use Rattle.nts_response.specs.Applied.{content_within}
use Rattle.nts_applying.proofs.Guessed.{integer_stands, float_stands, const_stands, region_stands, known_label}
use Rattle.nts_applying.proofs.guessing.may_stand.Goals as goal

pub is_root_variable-requires : goal.is_root_variable-requires
is_root_variable-requires c = known_label c.args.cx.now.nodes c.args.table.now.entries c.args.universe _ c.label-label.result c.label-label.ensures.is c.requires.original.knows

pub is_root_variable-requires-in-Float : goal.is_root_variable-requires-in-Float
is_root_variable-requires-in-Float c = known_label c.args.cx.now.nodes c.args.table.now.entries c.args.universe _ c.label-label.result c.label-label.ensures.is c.requires.original.knows

pub returns-in-Int : goal.returns-in-Int
returns-in-Int c = λ h. rw c.in-Int.is (integer_stands c.args.cx.now.nodes c.args.table.now.entries c.args.universe c.label-label.result _ c.label-label.ensures.is c.label-label.ensures.formed (c.is_root_variable.ensures h))

pub returns-in-Float : goal.returns-in-Float
returns-in-Float c = λ h. rw c.in-Float.is (float_stands c.args.cx.now.nodes c.args.table.now.entries c.args.universe c.label-label.result _ c.label-label.ensures.is c.label-label.ensures.formed (c.is_root_variable-in-Float.ensures h))

pub returns-then-ui-eq0 : goal.returns-then-ui-eq0
returns-then-ui-eq0 c = λ h. rw c.in-Const.is (const_stands (content_within c.args.cx.now.nodes c.args.table.now.entries c.args.universe) _ _ c.requires.current c.requires.original.knows (c.terms_are_formed.ensures c.args.original.node c.requires.original.holds.within) (c.is_closed_const.ensures h))

pub returns-then-ui-eq0-2 : goal.returns-then-ui-eq0-2
returns-then-ui-eq0-2 c = λ h.
    let ts = c.args.cx.now.nodes in
    rw c.in-Region.is (region_stands (content_within ts c.args.table.now.entries c.args.universe) _ _ c.requires.current c.requires.original.knows (c.terms_are_formed.ensures c.args.original.node c.requires.original.holds.within) (free_region (tree_at ts c.args.original.node) c.label-label.result c.label-label.ensures.is c.label-label.ensures.formed (sym c.names_free_region.ensures ∙ h)))
