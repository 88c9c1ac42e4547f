-- What relating asks of a term stays so where the store grows.
use Rattle.std.proofs.Common.{◌≡◌, ℕ, List, false, Some, ap, ◌∙◌}
use Rattle.std.specs.Prelude.{slice_get}
use Rattle.nts_model.specs.declared.labels.VariableKind.{VariableKind}
use Rattle.nts_model.specs.Tables.Contents.{kind_at}
use Rattle.nts_model.specs.Terms.Trees.{Tree, any_label, is_alias}
use Rattle.nts_model.specs.Tables.Resolving.{Knows, resolved}
use Rattle.nts_store.specs.declared.nodes.NodeId.{NodeId}
use Rattle.nts_store.specs.Growth.{tree_at, IsIn, Extends}
use Rattle.nts_terms.proofs.Moved.{Holds-extended}
use Rattle.nts_table.specs.Tables.{Table}
use Rattle.nts_unify.specs.Reading.{content_of}
use Rattle.nts_table.specs.Tables.{IsTable}
use Rattle.nts_unify.specs.Lawful.{content_of-extended}
use Rattle.nts_table.specs.TableLaws.{IsTable-extended}
use Rattle.nts_unify.specs.declared.contents.Variable.{Variable}
use Rattle.nts_unify.specs.Entries.{Entries}
use Rattle.nts_unify.proofs.Leading.{kind_at-entry}

pub Knows-extended : {a b : List Tree} {t : Table} (n : NodeId) → Extends a b → IsTable a t → IsIn a n → Knows (content_of a t.entries) (tree_at a n) → Knows (content_of b t.entries) (tree_at b n)
Knows-extended n e h i k = rw (content_of-extended e h.now, e.kept n i) k

pub alias-extended : {a b : List Tree} {t : Table} (n : NodeId) → Extends a b → IsTable a t → IsIn a n → any_label is_alias (resolved (content_of b t.entries) (tree_at b n)) ≡ any_label is_alias (resolved (content_of a t.entries) (tree_at a n))
alias-extended n e h i = rw (content_of-extended e h.now, e.kept n i)

pub no_alias-extended : {a b : List Tree} {t : Table} (n : NodeId) → Extends a b → IsTable a t → IsIn a n → any_label is_alias (resolved (content_of a t.entries) (tree_at a n)) ≡ false → any_label is_alias (resolved (content_of b t.entries) (tree_at b n)) ≡ false
no_alias-extended n e h i k = alias-extended n e h i ∙ k

-- the kind of a variable that was read
pub kind_of_entry : (ts : List Tree) (e : Entries) (n : ℕ) (v : Variable) (k : VariableKind) → slice_get e.variables n ≡ Some v → v.kind ≡ k → kind_at (content_of ts e) n ≡ Some k
kind_of_entry ts e n v k h q = kind_at-entry ts e n v h ∙ ap Some q

pub ruleset conditions = (Holds-extended, Knows-extended, no_alias-extended, IsTable-extended)
