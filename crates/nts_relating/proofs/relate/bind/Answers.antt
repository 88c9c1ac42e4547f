use Rattle.std.proofs.Common.{◌≢◌, ◌∙◌, ap, subst, sym, arith, Some}
use Rattle.nts_model.proofs.Tables.Resolved.{no_flag, no_rank}
use Rattle.nts_model.proofs.Tables.Slots.{slice_get_below}
use Rattle.nts_relating.proofs.GenLemmas.{slots_later}
use Rattle.nts_model.specs.declared.labels.VariableKind.TheVariants as kind
use Rattle.nts_unify.specs.Reading.{content_of}
use Rattle.nts_unify.proofs.Leading.{kind_at-entry, universe_of-entry}
use Rattle.nts_relating.proofs.PairLemmas.{not_infer, err_of}
use Rattle.nts_relating.proofs.RefusalLemmas.{forbids_kind, forbids_blocked}
use Rattle.nts_relating.proofs.Ranks.{rank_positive}
use Rattle.nts_model.specs.Terms.Trees.{Tree}
use Rattle.nts_model.specs.Terms.Fitting.{Fits}
use Rattle.nts_store.specs.Growth.{tree_at}
use Rattle.nts_relating.proofs.BindLemmas.{HasValue, bind_value, bindable_no_region}
use Rattle.nts_relating.proofs.relate.bind.Goals as goal

no_region : (c : goal.In_ok-bind-in-Ok) → c.variable-variable.result.kind ≢ kind.Region
no_region c = λ r.
    bindable_no_region c.args.nodes.now c.args.table.now.entries c.args.x c.requires.open (kind_at-entry c.args.nodes.now c.args.table.now.entries c.args.x c.variable-variable.result c.variable-variable.ensures ∙ ap Some r)

bound : (c : goal.In_ok-bind-in-Ok) → HasValue c.args.nodes.now c.generalize.new.nodes c.args.table.now.entries c.bind.new.self.entries c.args.x (tree_at c.args.nodes.now c.args.t)
bound c =
    bind_value c.args.nodes.now c.generalize.new.nodes c.args.table.now.entries c.generalize.new.table.entries c.bind.new.self.entries c.args.x c.args.t c.in-Ok.value c.variable-variable.result c.variable-variable-in-Ok.result c.requires.lawful c.requires.open c.variable-variable.ensures c.requires.closed.knows c.in-Ok.ensures.lawful c.in-Ok.ensures.within (c.terms_are_formed.ensures.formed c.in-Ok.value c.in-Ok.ensures.within) c.in-Ok.ensures.generalized (omega (arith, c.in-Ok.ensures.generalized.rank, no_rank _ c.requires.closed.no_variable, rank_positive c.variable-variable.result.kind (no_region c))) (c.in-Ok.ensures.generalized.fits c.variable-variable.result.kind (no_region c) (no_rank _ c.requires.closed.no_variable) (subst (λ (y : Tree). Fits c.variable-variable.result.kind y) (sym c.label.ensures.is) (c.fits.ensures.yes c.if-not-fits.false _))) c.variable-variable-in-Ok.ensures c.in_ok-bind-in-Ok.ensures.entries

pub returns-in_ok-bind-in-Ok-clause-lawful : goal.returns-in_ok-bind-in-Ok-clause-lawful
returns-in_ok-bind-in-Ok-clause-lawful c = (bound c).lawful

pub returns-in_ok-bind-in-Ok-clause-set : goal.returns-in_ok-bind-in-Ok-clause-set
returns-in_ok-bind-in-Ok-clause-set c = (bound c).set

pub generalize-requires-clause-no_region : goal.generalize-requires-clause-no_region
generalize-requires-clause-no_region c = bindable_no_region c.args.nodes.now c.args.table.now.entries c.args.x c.requires.open

pub returns-then-not-fits-clause-no : goal.returns-then-not-fits-clause-no
returns-then-not-fits-clause-no c = λ q.
    let o = c.requires.open in
    let e = kind_at-entry c.args.nodes.now c.args.table.now.entries c.args.x c.variable-variable.result c.variable-variable.ensures in
    let no_region : c.variable-variable.result.kind ≢ kind.Region = λ r. bindable_no_region c.args.nodes.now c.args.table.now.entries c.args.x o (e ∙ ap Some r) in
    let alone = not_infer _ c.label.result c.label.ensures.is c.requires.closed.no_variable in
    forbids_kind (content_of c.args.nodes.now c.args.table.now.entries) c.args.x c.variable-variable.result.kind _ c.label.result e no_region c.requires.closed.knows c.label.ensures.is alone (c.fits.ensures.no c.if-not-fits.true no_region alone _)

pub returns-in-Err-clause-no : goal.returns-in-Err-clause-no
returns-in-Err-clause-no c = λ q.
    let e = kind_at-entry c.args.nodes.now c.args.table.now.entries c.args.x c.variable-variable.result c.variable-variable.ensures in
    let u = universe_of-entry c.args.nodes.now c.args.table.now.entries c.args.x c.variable-variable.result c.variable-variable.ensures in
    forbids_blocked (content_of c.args.nodes.now c.args.table.now.entries) c.args.x c.variable-variable.result.universe _ c.variable-variable.result.kind u e (no_flag _ c.requires.closed.no_variable) (c.in-Err.ensures.no (err_of _ _ q))

pub generalize-requires-clause-known : goal.generalize-requires-clause-known
generalize-requires-clause-known c = slice_get_below c.args.table.now.entries.variables c.args.x c.variable-variable.result c.variable-variable.ensures

pub variable-variable-requires-in-Ok : goal.variable-variable-requires-in-Ok
variable-variable-requires-in-Ok c =
    slots_later c.args.nodes.now c.generalize.new.nodes c.args.table.now.entries c.generalize.new.table.entries c.args.x c.in-Ok.ensures.generalized.keeps.later (slice_get_below c.args.table.now.entries.variables c.args.x c.variable-variable.result c.variable-variable.ensures)

pub bind-requires : goal.bind-requires
bind-requires c =
    slots_later c.args.nodes.now c.generalize.new.nodes c.args.table.now.entries c.generalize.new.table.entries c.args.x c.in-Ok.ensures.generalized.keeps.later (slice_get_below c.args.table.now.entries.variables c.args.x c.variable-variable.result c.variable-variable.ensures)

pub generalize-requires-clause-named : goal.generalize-requires-clause-named
generalize-requires-clause-named c =
    (let p = c.requires.lawful.proper.current in p.universes c.args.x _ (universe_of-entry c.args.nodes.now c.args.table.now.entries c.args.x c.variable-variable.result c.variable-variable.ensures))
