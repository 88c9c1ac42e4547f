-- When values may stand in place of the positions of a canonical value.
use Rattle.std.specs.Prelude.{◌≡◌, ℕ, ◌<◌, List, length, get_or, Option, Some, None, refl}
use Rattle.nts_model.specs.declared.labels.Label.{Label}
use Rattle.nts_model.specs.Terms.Substitutions.{filled, position_of, value_or}
use Rattle.nts_model.specs.Terms.Trees.{Tree, empty, more, node, kind_of, kind_of_label}

-- a position has a value of the variable's sort
abbrev pub HasValue : Option ℕ → List Tree → Label → Type 0
HasValue None values l = Unit {0}
HasValue (Some i) values l = (i < length values) × (kind_of (get_or values i empty) ≡ Some (kind_of_label l))

-- each position that the tree names has one
abbrev pub HasValues : List Tree → Tree → Type 0
HasValues values empty = Unit {0}
HasValues values (more a b) = HasValues values a × HasValues values b
HasValues values (node l c) = HasValue (position_of l) values l × HasValues values c

kind_of-value_or : (o : Option ℕ) (values : List Tree) (l : Label) (c : Tree) → HasValue o values l → kind_of (value_or o values (node l c)) ≡ Some (kind_of_label l)
kind_of-value_or None values l c h = refl
kind_of-value_or (Some i) values l c h = h.1

pub kind_of-filled : (values : List Tree) (t : Tree) → HasValues values t → kind_of (filled values t) ≡ kind_of t
kind_of-filled values empty h = refl
kind_of-filled values (more a b) h = refl
kind_of-filled values (node l c) h = kind_of-value_or (position_of l) values l (filled values c) h.0
