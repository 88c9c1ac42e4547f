use Rattle.std.proofs.Common.{refl, sym, ◌∙◌}
use Rattle.nts_store.specs.Growth.{tree_at}
use Rattle.nts_store.proofs.Growing.{Extends-refl}
use Rattle.nts_unify.specs.Reading.{content_of}
use Rattle.nts_relating.proofs.RefusalLemmas.{blocks_own}
use Rattle.nts_relating.proofs.RegionLemmas.{region_of_term}
use Rattle.nts_relating.proofs.Naming.{settled_value}
use Rattle.nts_relating.proofs.HeadLemmas.{head_known, head_open}
use Rattle.nts_relating.proofs.ValueTasks.{value_of}
use Rattle.nts_relating.proofs.value_walk.look_at.Goals as goal

pub returns-in-Ok-clause-look : goal.returns-in-Ok-clause-look
returns-in-Ok-clause-look c =
    let k = head_known c.args.nodes.now c.args.table.now.entries _ _ _ _ _ c.requires.lawful c.requires.knows c.label-label.ensures.is (sym c.in-Some.ensures) c.in-Ok.ensures.value.1 in
    (refl, refl, k.within, value_of c.args.nodes.now c.args.table.now.entries _ _ k)

pub name_variable-requires : goal.name_variable-requires
name_variable-requires c = record {
  within = c.requires.within;
  knows = c.requires.knows;
  lawful = c.requires.lawful;
  «open» = head_open c.args.nodes.now c.args.table.now.entries _ _ _ _ c.requires.lawful c.requires.knows c.label-label.ensures.is c.label-label.ensures.formed (sym c.in-Some.ensures) c.in-Err.ensures.root;
  other = c.if-root-target.false;
  known = c.requires.known;
  named = c.requires.named;
}

pub name_region-requires-clause-region : goal.name_region-requires-clause-region
name_region-requires-clause-region c =
    region_of_term c.args.nodes.now c.args.table.now.entries c.args.t c.label-label.result c.requires.within c.requires.knows c.label-label.ensures.is c.label-label.ensures.formed (sym c.names_free_region.ensures ∙ c.if-names_free_region.true)

pub returns-then-is_settled-clause-look : goal.returns-then-is_settled-clause-look
returns-then-is_settled-clause-look c = (
  c.requires.within,
  settled_value (content_of c.args.nodes.now c.args.table.now.entries) c.args.target.variable c.args.target.universe c.args.target.binders (tree_at c.args.nodes.now c.args.t) _ c.requires.lawful.sound c.requires.knows c.flags.ensures (c.is_settled.ensures c.if-is_settled.true),
)

pub returns-then-root-target : goal.returns-then-root-target
returns-then-root-target c = record {
  extends = Extends-refl c.args.nodes.now;
  changes = record { saved = refl; universe = refl; hidden = refl };
  lawful = tt;
  look = tt;
  full = λ z. cc;
  no = λ q. (let o = head_open c.args.nodes.now c.args.table.now.entries _ _ _ _ c.requires.lawful c.requires.knows c.label-label.ensures.is c.label-label.ensures.formed (sym c.in-Some.ensures) c.in-Err.ensures.root in
      blocks_own (content_of c.args.nodes.now c.args.table.now.entries) c.args.target.variable c.in-Err.root c.args.target.universe c.args.target.binders _ o.worlds c.if-root-target.true o.infer);
}
