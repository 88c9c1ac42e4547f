-- Nodes whose parts are related one by one: what stands above a row of parts.
use Rattle.std.specs.Prelude.{◌≡◌, ℕ, List, [], ◌∷◌}
use Rattle.nts_model.specs.declared.labels.Variance.{Variance}
use Rattle.nts_model.specs.declared.labels.AliasHead.{AliasHead}
use Rattle.nts_model.specs.declared.labels.ConstHead.TheVariants as konst
use Rattle.nts_model.specs.declared.labels.ListHead.TheVariants as list
use Rattle.nts_model.specs.declared.labels.Label.TheVariants as label
use Rattle.nts_model.specs.Terms.Trees.{Tree, more, node, row_length, IsClosed, IsFormed}
use Rattle.nts_model.specs.Derivations.Related.{times, first_variance, rest_variances, constructor, function, function_variances, alias}
use Rattle.nts_variance_model.specs.Variances.Relations.{Relating}

-- a constructor, a function pointer with the sorts that it binds, a const value, and an alias
pub data Form : Type 0 where
  a_constructor : ℕ → Form
  a_function : Tree → Form
  a_value : ℕ → Form
  an_alias : AliasHead → Form

abbrev pub over : Form → Tree → Tree
over (a_constructor i) ts = constructor i ts
over (a_function ss) ts = function ss ts
over (a_value b) ts = node (label.Const (konst.Value b)) ts
over (an_alias h) ts = alias h ts

-- how the parts vary with the whole; what has no variance here is invariant
abbrev pub variances_over : (ℕ → List Variance) → Form → Tree → List Variance
variances_over declared (a_constructor i) ts = declared i
variances_over declared (a_function ss) ts = function_variances ts
variances_over declared (a_value b) ts = []
variances_over declared (an_alias h) ts = []

-- the parts fit the form: what a function binds are sorts, a const value has one part, and bound variables escape from the alias
abbrev pub FitsForm : Form → Tree → Type 0
FitsForm (a_constructor i) ts = Unit {0}
FitsForm (a_function ss) ts = IsFormed (node (label.List list.Sorts) ss)
FitsForm (a_value b) ts = row_length ts ≡ 1
FitsForm (an_alias h) ts = IsClosed (alias h ts) → ⊥

-- the pairs of two rows of parts
abbrev pub pairs_over : Variance → List Variance → Tree → Tree → List Relating
pairs_over v ws (more a ts) (more b us) = record { variance = times v (first_variance ws); left = a; right = b } ∷ pairs_over v (rest_variances ws) ts us
pairs_over v ws ts us = []
