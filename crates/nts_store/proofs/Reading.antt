-- The lemmas that readers of a node want.
use Rattle.std.proofs.Common.{◌≡◌, ℕ, ◌≤◌, ◌<◌, List, [], ◌∷◌, length, drop, get_or, refl, sym, arith}
use Rattle.std.specs.Prelude.{slice_index_or}
use Rattle.nts_model.specs.declared.labels.Label.{Label}
use Rattle.nts_model.specs.Terms.Trees.{Tree, node, children, row_at, row_length}
use Rattle.nts_store.specs.declared.type_flags.TypeFlags.{TypeFlags}
use Rattle.nts_store.specs.declared.nodes.NodeId.{NodeId}
use Rattle.nts_store.specs.TypeFlags.{flags_of, no_flags}
use Rattle.nts_store.specs.Growth.{tree_at, trees_at, AllIn, AllBelow}
use Rattle.nts_store.proofs.Growing.{row_length-trees_at, IsRow-trees_at, row_at-trees_at, AllIn-get_or, AllBelow-get_or, get_or_from_fits}

pub ruleset rows = (row_length-trees_at, IsRow-trees_at, row_at-trees_at, AllIn-get_or, AllBelow-get_or)

-- what is known of the trees from a place on
pub record KnownFrom (ts : List Tree) (cs : List NodeId) (i : ℕ) (flags : TypeFlags) : Type 0 where
  pub fits : i ≤ length cs
  pub known : flags ≡ flags_of (trees_at ts (drop i cs))

pub known_end : (ts : List Tree) (cs : List NodeId) → KnownFrom ts cs (length cs) no_flags
known_end ts cs = record { fits = omega arith; known = rw (drop-length cs) refl }
  where
    drop-length : (ds : List NodeId) → drop (length ds) ds ≡ []
    drop-length [] = refl
    drop-length (d ∷ ds) = drop-length ds

pub known_all : (ts : List Tree) (cs : List NodeId) (f : TypeFlags) → KnownFrom ts cs 0 f → f ≡ flags_of (trees_at ts cs)
known_all ts cs f k = k.known

-- a child that is read where its node's list stands
pub record ChildAt (ts : List Tree) (t c : NodeId) (i : ℕ) : Type 0 where
  pub within : c.number < length ts
  pub before : c.number < t.number
  pub tree : tree_at ts c ≡ row_at (children (tree_at ts t)) i

pub child_at : (ts : List Tree) (t : NodeId) (i : ℕ) (l : Label) (cs xs : List NodeId) → tree_at ts t ≡ node l (trees_at ts cs) → xs ≡ cs
    → i < row_length (children (tree_at ts t)) → AllIn ts cs → AllBelow t.number cs → ChildAt ts t (slice_index_or xs i (record { number = 0 })) i
child_at ts t i l cs xs is same index all below =
    rw same (record {
      within = AllIn-get_or ts cs i c all less here;
      before = AllBelow-get_or t.number cs i c below less here;
      tree = rw is (sym (row_at-trees_at ts cs i c less here));
    })
  where
    c : NodeId
    c = slice_index_or cs i (record { number = 0 })

    less : i < length cs
    less = rw (row_length-trees_at ts cs) at (rw is at index)

    here : get_or cs i c ≡ c
    here = get_or_from_fits cs i (record { number = 0 }) less
