use Rattle.std.proofs.lemmas.List.{take_all}
use Rattle.std.proofs.lemmas.List.Elements.{All-nil}
use Rattle.nts_model.specs.declared.labels.Sort.TheVariants as sort
use Rattle.nts_text.specs.declared.resolver.Resolved.TheVariants as nodes
use Rattle.nts_wording.specs.Meaning.{HasPlace}
use Rattle.nts_wording.proofs.Places.{places_refl, places_trans, placed_more}
use Rattle.nts_wording.proofs.variables.LineVariables.see.Goals as goal

pub loop-node-init : goal.loop-node-init
loop-node-init c = record { own = λ h. h; kept = places_refl _; placed = All-nil (HasPlace c.args.self.now) }

pub loop-node-preserved : goal.loop-node-preserved
loop-node-preserved c =
    let i = c.loop-node.invariant in
    let e = c.in_ok-see_one.ensures in
    record {
      own = λ h. e.own (i.own h);
      kept = places_trans i.kept e.kept;
      placed = placed_more c.loop-node.self c.see_one.new.self c.args.nodes.now c.loop-node.node-index (nodes.Binds sort.Ty) c.loop-node-test.true e.kept i.placed e.placed;
    }

pub returns-clause-placed : goal.returns-clause-placed
returns-clause-placed c = rw (take_all c.loop-node.node-index c.args.nodes.now c.loop-node-test.false) at c.loop-node.invariant.placed
