-- What tests ask of lists of arguments and of goals.
use Rattle.std.proofs.Common.{◌≡◌, ℕ, ◌<◌, List, get_or, sym, subst}
use Rattle.nts_model.specs.Terms.Trees.{Tree}
use Rattle.nts_terms.specs.declared.handles.GenericArg.{GenericArg}
use Rattle.nts_store.specs.Filled.{HasValues}
use Rattle.nts_canonical.specs.Forms.{trees_of}

-- each argument before a place is one of these
abbrev pub Before : (GenericArg → Type 0) → List GenericArg → ℕ → Type 0
Before P xs i = (k : ℕ) (d : GenericArg) → k < i → P (get_or xs k d)

pub same_values : (ts : List Tree) (xs ys : List GenericArg) (t : Tree) → xs ≡ ys → HasValues (trees_of ts ys) t → HasValues (trees_of ts xs) t
same_values ts xs ys t e h = subst (λ z. HasValues (trees_of ts z) t) (sym e) h
