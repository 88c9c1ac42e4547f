-- The children of a node, as a list.
use Rattle.std.specs.Prelude.{List}
use Rattle.nts_store.specs.declared.nodes.NodeId.{NodeId}
use Rattle.nts_store.specs.declared.children.Children.{Children}
use Rattle.nts_store.specs.declared.children.Children.TheVariants as children

abbrev pub listed : Children → List NodeId
listed (children.None ts) = ts
listed (children.One ts) = ts
listed (children.Two ts) = ts
listed (children.More v) = v.items
