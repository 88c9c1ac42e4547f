-- What a store that grows keeps of a list of terms, for the laws of replacers.
use Rattle.std.specs.Prelude.{◌≡◌, List, [], ◌∷◌, map, refl}
use Rattle.std.proofs.Common.{arith}
use Rattle.nts_model.specs.Terms.Trees.{Tree}
use Rattle.nts_store.specs.declared.nodes.NodeId.{NodeId}
use Rattle.nts_store.specs.Growth.{tree_at, AllIn, Extends}

pub AllIn-kept : (a b : List Tree) (cs : List NodeId) → AllIn a cs → Extends a b → AllIn b cs
AllIn-kept a b [] h e = tt
AllIn-kept a b (c ∷ cs) h e = (omega (arith, e.longer, h.0), AllIn-kept a b cs h.1 e)

pub map-kept : (a b : List Tree) (cs : List NodeId) → AllIn a cs → Extends a b → map (tree_at b) cs ≡ map (tree_at a) cs
map-kept a b [] h e = refl
map-kept a b (c ∷ cs) h e = cc (e.kept c h.0, map-kept a b cs h.1 e)
