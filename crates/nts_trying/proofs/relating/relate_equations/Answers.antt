use Rattle.std.proofs.Common.{rules, ◌≡◌, inr, ap, sym, refl, Err, subst}
use Rattle.nts_model.specs.Tables.Resolving.{Knows}
use Rattle.nts_unify.specs.Reading.{content_of}
use Rattle.nts_model.specs.Terms.Trees.{IsFormed}
use Rattle.nts_store.specs.declared.fault.EvalError.TheVariants as error
use Rattle.nts_terms.specs.Signatures.{variances_in}
use Rattle.nts_unify.specs.Lawful.{content_of-extended}
use Rattle.nts_table.specs.TableLaws.{IsTable-extended}
use Rattle.nts_meaning.proofs.Evaluating.{Runs-trans, Runs-extends, runs-back}
use Rattle.nts_trying.specs.Relating.{left_list, right_list}
use Rattle.nts_trying.proofs.RelatedAliases.{is_list_in, lefts_known, rights_known, related_goes, relates_grown, lists_refused}
use Rattle.nts_trying.proofs.relating.relate_equations.Goals as goal

pub returns-in_err-left-clause-runs : goal.returns-in_err-left-clause-runs
returns-in_err-left-clause-runs c = Runs-extends c.requires.posed.table c.sides_of.ensures.grows.extends c.sides_of.ensures.grows.rest

pub relate_by-requires-clause-table : goal.relate_by-requires-clause-table
relate_by-requires-clause-table c = IsTable-extended c.in_ok-left.ensures.grows.extends c.requires.posed.table

pub relate_by-requires-clause-sides : goal.relate_by-requires-clause-sides
relate_by-requires-clause-sides c =
    let e = c.in_ok-left.ensures in
    let same = content_of-extended e.grows.extends c.requires.posed.table.now in
    let ts = c.args.cx.now.nodes in
    inr (
      is_list_in c.sides_of.new.cx.nodes (content_of c.sides_of.new.cx.nodes c.args.table.now.entries) c.in_ok-left.left _ e.first e.left (subst (λ k. Knows k (left_list ts c.args.trial.values.now c.args.equations.now)) (sym same) (lefts_known c.requires.posed c.requires.values c.args.equations.now c.requires.equations)),
      is_list_in c.sides_of.new.cx.nodes (content_of c.sides_of.new.cx.nodes c.args.table.now.entries) c.in_ok-left.right _ e.second e.right (subst (λ k. Knows k (right_list ts c.args.trial.values.now c.args.equations.now)) (sym same) (rights_known c.requires.posed c.requires.values c.args.equations.now c.requires.equations)),
    )

pub returns-in_err-goals-clause-runs : goal.returns-in_err-goals-clause-runs
returns-in_err-goals-clause-runs c =
    let e = c.in_ok-left.ensures in
    Runs-trans (Runs-extends c.requires.posed.table e.grows.extends e.grows.rest)
    (runs-back (IsTable-extended e.grows.extends c.requires.posed.table) c.relate_by.ensures.extends (record { declarations = refl; limit = refl; steps = refl; rounds = refl; division = refl; fast_paths = refl }) c.in_err-goals.ensures.err)

pub returns-in_err-goals-clause-no : goal.returns-in_err-goals-clause-no
returns-in_err-goals-clause-no c = λ q.
    let e = c.in_ok-left.ensures in
    let same = content_of-extended e.grows.extends c.requires.posed.table.now in
    let kept = ap variances_in e.grows.rest.declarations in
    let no : c.relate_by.result ≡ Err error.NoSolution = search rules in
    lists_refused c.args.cx.now.nodes c.args.trial.values.now c.args.equations.now _ _ (rw (kept, e.left, e.right, same) at (c.relate_by.ensures.no no))

pub returns-in_err-left-2-clause-runs : goal.returns-in_err-left-2-clause-runs
returns-in_err-left-2-clause-runs c =
    let e = c.in_ok-left.ensures in
    let k = c.in_ok-goals.ensures in
    Runs-trans (Runs-extends c.requires.posed.table e.grows.extends e.grows.rest)
    (record { goes = related_goes _ _ _ _ _ _ _ _ _ _ (IsTable-extended e.grows.extends c.requires.posed.table) k.extends k.table k.changes k.related; rest = record { declarations = refl; limit = refl; steps = refl; rounds = refl; division = refl; fast_paths = refl } })

pub returns-clause-runs : goal.returns-clause-runs
returns-clause-runs c =
    let e = c.in_ok-left.ensures in
    let k = c.in_ok-goals.ensures in
    Runs-trans (Runs-extends c.requires.posed.table e.grows.extends e.grows.rest)
    (record { goes = related_goes _ _ _ _ _ _ _ _ _ _ (IsTable-extended e.grows.extends c.requires.posed.table) k.extends k.table k.changes k.related; rest = record { declarations = refl; limit = refl; steps = refl; rounds = refl; division = refl; fast_paths = refl } })

pub returns-clause-relates : goal.returns-clause-relates
returns-clause-relates c =
    let e = c.in_ok-left.ensures in
    let same = content_of-extended e.grows.extends c.requires.posed.table.now in
    let kept = ap variances_in e.grows.rest.declarations in
    record {
      goals = c.in_ok-goals.goals.items;
      are = rw c.deref.ensures.value at c.in_ok-left-2.ensures;
      related = relates_grown _ _ _ _ _ _ _ _ _ _ _ same (rw (kept, e.left, e.right) at c.in_ok-goals.ensures.related);
      formed_left = subst IsFormed e.left (e.formed c.in_ok-left.left e.first);
      formed_right = subst IsFormed e.right (e.formed c.in_ok-left.right e.second);
    }
