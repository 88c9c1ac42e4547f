use Rattle.std.proofs.Common.{◌≡◌, length, reverse, take, All}
use Rattle.nts_text.specs.Binders.{nothing_bound, bound_after, bound_names}
use Rattle.nts_text.specs.Resolution.{IsDeclared, IsNoVariable, AreMeanings, AreSortedBefore}
use Rattle.nts_text.specs.Spelled.{KeepsNames}
use Rattle.nts_text.specs.declared.resolver.Site.TheVariants.{Environment}
use Rattle.nts_text.proofs.resolver.Reading.all_nodes.Given as goal

abbrev pub invariant-loop-node : goal.invariant-loop-node
invariant-loop-node l = record {
  each : length l.all.items ≡ l.node-index;
  sorted : AreSortedBefore l.self.names.now l.all.items (reverse l.wanted.items);
  declared : All (IsDeclared l.self.names.now) l.all.items;
  bound : bound_names l.bounds ≡ bound_after l.self.line.now (take l.node-index l.nodes);
  means : AreMeanings l.self.names.now l.scope l.self.line.now nothing_bound (take l.node-index l.nodes) l.all.items;
  kept : KeepsNames l.fn.scope l.scope;
  free : l.self.site ≡ Environment → All IsNoVariable l.all.items;
}
