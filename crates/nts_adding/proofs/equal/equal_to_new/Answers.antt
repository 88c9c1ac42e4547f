use Rattle.std.proofs.Common.{[], ◌∷◌, refl, subst, sym}
use Rattle.nts_model.specs.Terms.Trees.{kind_of}
use Rattle.nts_table.specs.Fresh.{IsFreshLike}
use Rattle.nts_store.specs.Growth.{tree_at}
use Rattle.nts_unify.specs.Reading.{content_of}
use Rattle.nts_unify.specs.Lawful.{content_of-extended}
use Rattle.nts_meaning.proofs.Evaluating.{runs-back, Runs-trans, Runs-extends, Goes-extends}
use Rattle.nts_solver_relating.proofs.GoalsLeft.{are_goals_of}
use Rattle.nts_terms.proofs.Moved.{Holds-extended}
use Rattle.nts_adding.specs.Equal.{equal_nodes}
use Rattle.nts_adding.proofs.EqualToNew.{goes_new, are_equal, are_pairs, env_known, kind_new, side_new}
use Rattle.nts_adding.proofs.Known.{goals_posed}
use Rattle.nts_adding.proofs.equal.equal_to_new.Goals as goal

pub returns-in_err-variable-clause-runs : goal.returns-in_err-variable-clause-runs
returns-in_err-variable-clause-runs c = (let p = c.fresh_var_for_kind_with_span.ensures in runs-back c.requires.table p.grows.extends p.grows.rest c.in_err-variable.ensures.err)

pub returns-in_err-goals-clause-runs : goal.returns-in_err-goals-clause-runs
returns-in_err-goals-clause-runs c =
    let p = c.in_ok-variable.ensures in
    let goes = goes_new c.args.alias.node c.in_ok-variable.variable.node c.requires.table p.grows.extends p.table p.changes.saved p.changes.mode c.requires.alias.holds.within p.holds.within c.requires.is (rw c.into.ensures at p.fresh) in
    Runs-trans (record { goes = goes; rest = p.grows.rest }) (Runs-extends p.table c.goals_of.ensures.extends (record { declarations = refl; limit = refl; steps = refl; rounds = refl; division = refl; fast_paths = refl }))

pub returns-clause-runs : goal.returns-clause-runs
returns-clause-runs c =
    let p = c.in_ok-variable.ensures in
    let goes = goes_new c.args.alias.node c.in_ok-variable.variable.node c.requires.table p.grows.extends p.table p.changes.saved p.changes.mode c.requires.alias.holds.within p.holds.within c.requires.is (rw c.into.ensures at p.fresh) in
    Runs-trans (record { goes = goes; rest = p.grows.rest }) (Runs-extends p.table c.goals_of.ensures.extends (record { declarations = refl; limit = refl; steps = refl; rounds = refl; division = refl; fast_paths = refl }))

pub returns-clause-equal : goal.returns-clause-equal
returns-clause-equal c =
    let p = c.in_ok-variable.ensures in
    let b = c.fresh_var_for_kind_with_span.new.cx.nodes in
    let u = c.fresh_var_for_kind_with_span.new.self in
    let d = c.goals_of.new.nodes in
    let e = c.goals_of.ensures.extends in
    let x = c.args.alias.node in
    let v = c.in_ok-variable.variable.node in
    let new = rw c.into.ensures at p.fresh in
    let same = content_of-extended e p.table.now in
    let i = c.requires.alias.holds.within in
    let w = p.holds.within in
    let pairs = are_pairs x v c.requires.table p.grows.extends p.table p.changes.saved p.changes.mode i w c.requires.is new c.requires.alias.known in
    let goals = are_equal x v c.requires.table p.grows.extends p.table p.changes.saved p.changes.mode i w c.requires.is new in
    record {
      fresh = subst (λ z. IsFreshLike (kind_of (tree_at c.args.cx.now.nodes x)) z c.args.table.now.entries u.entries) (sym (e.kept v w)) new;
      equal = are_goals_of b d (content_of d u.entries) c.args.env (equal_nodes x v ∷ []) c.in_ok-goals.goals.items e (rw same pairs) goals c.in_ok-goals.ensures.made;
    }

pub returns-clause-posed : goal.returns-clause-posed
returns-clause-posed c =
    let p = c.in_ok-variable.ensures in
    let u = c.fresh_var_for_kind_with_span.new.self in
    let d = c.goals_of.new.nodes in
    let e = c.goals_of.ensures.extends in
    let goes = goes_new c.args.alias.node c.in_ok-variable.variable.node c.requires.table p.grows.extends p.table p.changes.saved p.changes.mode c.requires.alias.holds.within p.holds.within c.requires.is (rw c.into.ensures at p.fresh) in
    let after = Goes-extends p.table e in
    let equal = returns-clause-equal c in
    goals_posed d u c.args.env (equal_nodes c.args.alias.node c.in_ok-variable.variable.node ∷ []) c.in_ok-goals.goals.items after.table (Holds-extended _ _ e (Holds-extended _ _ p.grows.extends c.requires.env))
    (env_known p.grows.extends e c.requires.env goes after c.requires.known) equal.equal

pub returns-clause-side : goal.returns-clause-side
returns-clause-side c =
    let p = c.in_ok-variable.ensures in
    let e = c.goals_of.ensures.extends in
    side_new c.args.alias.node c.in_ok-variable.variable.node c.requires.table p.grows.extends p.table p.changes.saved p.changes.mode c.requires.alias p.holds.within c.requires.is (rw c.into.ensures at p.fresh) e (Goes-extends p.table e)

pub returns-clause-kind : goal.returns-clause-kind
returns-clause-kind c =
    let p = c.in_ok-variable.ensures in
    kind_new (kind_of (tree_at c.args.cx.now.nodes c.args.alias.node)) c.in_ok-variable.variable.node p.holds.within (rw c.into.ensures at p.fresh) c.goals_of.ensures.extends
