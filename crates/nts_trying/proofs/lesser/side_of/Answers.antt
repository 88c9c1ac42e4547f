use Rattle.std.proofs.Common.{rules, ◌≡◌, ◌∙◌, refl, ap, sym, subst, true}
use Rattle.nts_model.specs.declared.labels.VariableKind.TheVariants as variable
use Rattle.nts_model.specs.Terms.Trees.{kind_of}
use Rattle.nts_model.specs.Derivations.Related.{IsAlias}
use Rattle.nts_store.specs.Growth.{tree_at}
use Rattle.nts_store.proofs.Growing.{Extends-refl, IsIn-extended}
use Rattle.nts_unify.specs.Reading.{content_of}
use Rattle.nts_unify.specs.Lawful.{content_of-extended}
use Rattle.nts_variance.specs.Goals.{is_alias_node}
use Rattle.nts_meaning.proofs.Evaluating.{Runs-refl, Runs-trans, Runs-extends}
use Rattle.nts_theory.proofs.Responses.Applying.{new_knows}
use Rattle.nts_trying.proofs.NormalGoals.{formed_alias, no_alias_node, normal_of, new_closed}
use Rattle.nts_trying.proofs.lesser.side_of.Goals as goal

pub returns-then-not-is_alias_term-clause-result : goal.returns-then-not-is_alias_term-clause-result
returns-then-not-is_alias_term-clause-result c =
    record {
      result = c.requires.holds;
      knows = c.requires.knows;
      ends = c.requires.closed;
      stands = (no_alias_node (tree_at c.args.cx.now.nodes c.args.ty.node) (search rules), refl);
    }

pub returns-then-not-is_alias_term-clause-runs : goal.returns-then-not-is_alias_term-clause-runs
returns-then-not-is_alias_term-clause-runs c = Runs-refl c.requires.posed.table

pub normal_goal-requires-clause-is : goal.normal_goal-requires-clause-is
normal_goal-requires-clause-is c =
    let a = c.args.cx.now in
    let holds = c.requires.holds in
    let up = c.in_ok-variable.ensures.runs.goes.extends in
    let yes : is_alias_node (tree_at a.nodes c.args.ty.node) ≡ true = search rules in
    subst IsAlias (sym (up.kept c.args.ty.node holds.within)) (formed_alias (tree_at a.nodes c.args.ty.node) (c.terms_are_formed.ensures c.args.ty.node holds.within) c.requires.closed yes)

pub returns-clause-result : goal.returns-clause-result
returns-clause-result c =
    let a = c.args.cx.now in
    let made = c.in_ok-variable.ensures in
    let n = c.in_ok-normal.ensures in
    let at = c.fresh_value.new.cx in
    let b = c.normal_goal.new.cx in
    let up = n.grows.extends in
    let holds = c.requires.holds in
    let kept = up.kept c.in_ok-variable.variable made.within in
    let same = content_of-extended up made.runs.goes.table.now in
    let was = content_of a.nodes c.args.table.now.entries in
    let met = content_of at.nodes c.fresh_value.new.table.entries in
    let yes : is_alias_node (tree_at a.nodes c.args.ty.node) ≡ true = search rules in
    let known = new_knows was met c.args.table.now.entries.universe variable.Ty (tree_at at.nodes c.in_ok-variable.variable) made.new in
    record {
      result = record { within = IsIn-extended up c.in_ok-variable.variable made.within; fits = ap kind_of kept ∙ made.kind };
      knows = rw (kept, same) known;
      ends = rw kept (new_closed was met variable.Ty (tree_at at.nodes c.in_ok-variable.variable) made.new);
      stands = (
        formed_alias (tree_at a.nodes c.args.ty.node) (c.terms_are_formed.ensures c.args.ty.node holds.within) c.requires.closed yes,
        normal_of a.nodes at.nodes b.nodes b.nodes c.args.ty.node c.in_ok-variable.variable c.args.goal c.in_ok-normal.normal holds.within made.within made.runs.goes.extends up (Extends-refl _) n.environment n.holds n.tree,
      );
    }

pub returns-clause-makes : goal.returns-clause-makes
returns-clause-makes c =
    let made = c.in_ok-variable.ensures in
    let n = c.in_ok-normal.ensures in
    let up = n.grows.extends in
    rw (up.kept c.in_ok-variable.variable made.within, content_of-extended up made.runs.goes.table.now) made.new

pub returns-clause-labels : goal.returns-clause-labels
returns-clause-labels c =
    let made = c.in_ok-variable.ensures in
    let n = c.in_ok-normal.ensures in
    rw (content_of-extended n.grows.extends made.runs.goes.table.now) made.labels

pub returns-clause-runs : goal.returns-clause-runs
returns-clause-runs c =
    let v = c.in_ok-variable.ensures.runs in
    let n = c.in_ok-normal.ensures.grows in
    Runs-trans v (Runs-extends v.goes.table n.extends n.rest)

pub returns-in_err-normal-clause-runs : goal.returns-in_err-normal-clause-runs
returns-in_err-normal-clause-runs c =
    let v = c.in_ok-variable.ensures.runs in
    let n = c.normal_goal.ensures.grows in
    Runs-trans v (Runs-extends v.goes.table n.extends n.rest)
