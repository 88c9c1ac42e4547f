use Rattle.std.proofs.Common.{◌≡◌, true, false, inr, refl, sym, ◌∙◌}
use Rattle.nts_unify.specs.Reading.{content_of}
use Rattle.nts_unify.specs.Lawful.{content_of-extended}
use Rattle.nts_terms.proofs.Moved.{Holds-extended}
use Rattle.nts_meaning.proofs.Evaluating.{Runs-refl, runs-back, Runs-trans, Runs-extends, Goes-extends, IsPosed-later}
use Rattle.nts_solver_relating.proofs.GoalsLeft.{pairs_within, are_goals_of}
use Rattle.nts_adding.proofs.Known.{runs_put, goes_put, puts_later, goals_posed, are_goals}
use Rattle.nts_adding.proofs.goals.replace_aliases.Goals as goal

pub returns-then-keeps_aliases-clause-runs : goal.returns-then-keeps_aliases-clause-runs
returns-then-keeps_aliases-clause-runs c = Runs-refl c.requires.posed.table

pub returns-in_err-predicate-clause-runs : goal.returns-in_err-predicate-clause-runs
returns-in_err-predicate-clause-runs c = (let p = c.put_variables.ensures in runs-back c.requires.posed.table p.grows.extends p.grows.rest c.in_err-predicate.ensures.err)

pub goals_of-requires-clause-within : goal.goals_of-requires-clause-within
goals_of-requires-clause-within c =
    rw c.deref.ensures.value (pairs_within c.put_variables.new.cx.nodes (content_of c.put_variables.new.cx.nodes c.put_variables.new.table.entries) c.in_ok-predicate.pairs.items c.in_ok-predicate.ensures.puts.pairs)

pub goals_of-requires-clause-goals : goal.goals_of-requires-clause-goals
goals_of-requires-clause-goals c = rw c.deref.ensures.value (are_goals _ c.in_ok-predicate.ensures.puts.variables.puts)

pub returns-in_err-goals-clause-runs : goal.returns-in_err-goals-clause-runs
returns-in_err-goals-clause-runs c =
    let p = c.put_variables.ensures in
    Runs-trans (runs_put c.requires.posed.table p.grows p.table p.changes c.in_ok-predicate.ensures.puts) (Runs-extends p.table c.goals_of.ensures.extends (record { declarations = refl; limit = refl; steps = refl; rounds = refl; division = refl; fast_paths = refl }))

pub returns-clause-runs : goal.returns-clause-runs
returns-clause-runs c =
    let p = c.put_variables.ensures in
    Runs-trans (runs_put c.requires.posed.table p.grows p.table p.changes c.in_ok-predicate.ensures.puts) (Runs-extends p.table c.goals_of.ensures.extends (record { declarations = refl; limit = refl; steps = refl; rounds = refl; division = refl; fast_paths = refl }))

pub returns-clause-stand : goal.returns-clause-stand
returns-clause-stand c =
    let p = c.put_variables.ensures in
    let q = c.in_ok-predicate.ensures.puts in
    let k = c.in_ok-predicate.pairs.items in
    let same = content_of-extended c.goals_of.ensures.extends p.table.now in
    let made = rw c.deref.ensures.value at c.in_ok-goals.ensures.made in
    inr (
      λ x. let no : true ≡ false = sym (c.keeps_aliases.ensures.1 x) ∙ c.if-keeps_aliases.false in cc no,
      record {
        pairs = k;
        puts = puts_later c.args.table.now c.put_variables.new.table c.goals_of.ensures.extends p.table c.in_ok-predicate.ensures.holds.within q;
        environment = refl;
        goals = are_goals_of c.put_variables.new.cx.nodes c.goals_of.new.nodes _ c.args.goal.param_env k c.in_ok-goals.goals.items c.goals_of.ensures.extends (rw same q.pairs) (are_goals _ q.variables.puts) made;
      },
    )

pub returns-clause-posed : goal.returns-clause-posed
returns-clause-posed c =
    let p = c.put_variables.ensures in
    let q = c.in_ok-predicate.ensures.puts in
    let k = c.in_ok-predicate.pairs.items in
    let e = c.goals_of.ensures.extends in
    let same = content_of-extended e p.table.now in
    let made = rw c.deref.ensures.value at c.in_ok-goals.ensures.made in
    let there = IsPosed-later (goes_put c.requires.posed.table p.grows.extends p.table p.changes.saved p.changes.mode q) c.requires.posed in
    let here = IsPosed-later (Goes-extends p.table e) there in
    goals_posed c.goals_of.new.nodes c.put_variables.new.table c.args.goal.param_env k c.in_ok-goals.goals.items here.table here.holds.env here.knows.env
    (are_goals_of c.put_variables.new.cx.nodes c.goals_of.new.nodes _ c.args.goal.param_env k c.in_ok-goals.goals.items e (rw same q.pairs) (are_goals _ q.variables.puts) made)

pub returns-clause-last : goal.returns-clause-last
returns-clause-last c =
    let p = c.put_variables.ensures in
    let q = c.in_ok-predicate.ensures.puts in
    let e = c.goals_of.ensures.extends in
    let holds = c.in_ok-predicate.ensures.holds in
    let there = IsPosed-later (goes_put c.requires.posed.table p.grows.extends p.table p.changes.saved p.changes.mode q) c.requires.posed in
    let here = IsPosed-later (Goes-extends p.table e) there in
    let left = puts_later c.args.table.now c.put_variables.new.table e p.table holds.within q in
    record {
      table = here.table;
      holds = record { env = here.holds.env; predicate = Holds-extended _ c.in_ok-predicate.predicate.node e holds };
      knows = record { env = here.knows.env; predicate = left.knows };
    }
