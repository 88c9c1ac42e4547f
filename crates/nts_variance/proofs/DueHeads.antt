-- A variable and another node that are to be one: the node asks for no goal but of aliases.
use Rattle.std.proofs.Common.{◌≡◌, ◌≢◌, inl, inr, ⊎_elim, ℕ, Bool, true, false, List, Some, refl, sym, ap, ◌∙◌, subst}
use Rattle.nts_model.specs.declared.labels.Sort.TheVariants as sort
use Rattle.nts_model.specs.declared.labels.Variance.{Variance}
use Rattle.nts_model.specs.declared.labels.VariableKind.{VariableKind}
use Rattle.nts_model.specs.declared.labels.VariableKind.TheVariants as kind
use Rattle.nts_model.specs.Terms.Trees.{Tree, of_sort, variable_tree, IsFormed}
use Rattle.nts_model.specs.Terms.Fitting.{Fits}
use Rattle.nts_model.specs.Tables.Contents.{Content, unset, state_of, kind_at}
use Rattle.nts_model.specs.Tables.Resolving.{rooted, deeply_resolved, Knows, IsInfer}
use Rattle.nts_model.specs.Derivations.Related.{IsAlias}
use Rattle.nts_model.proofs.Tables.ResolvedTerms.{Fits-deeply_resolved}
use Rattle.nts_variance_model.specs.Variances.Judging.{opposite}
use Rattle.nts_store.specs.declared.nodes.NodeId.{NodeId}
use Rattle.nts_store.specs.Growth.{tree_at}
use Rattle.nts_unify.specs.Entries.{Entries}
use Rattle.nts_unify.specs.Reading.{content_of, state_with, IsLawful}
use Rattle.nts_unify.proofs.Leading.{state_of-entry}
use Rattle.nts_relating.specs.Relating.{IsOpen}
use Rattle.nts_relating.proofs.Ranks.{kind_of-like}
use Rattle.nts_variance.specs.declared.along.Relating.{Relating}
use Rattle.nts_variance.specs.Parts.{IsAlone}
use Rattle.nts_variance.specs.Pairs.{IsBound}
use Rattle.nts_variance.specs.Due.{IsNoType, IsUnvalued}
use Rattle.nts_variance.specs.Taking.{IsExactKind}
use Rattle.nts_variance.specs.Equating.{AreToBeOne}
use Rattle.nts_variance.proofs.Alone.{alone_back, alone_unset}
use Rattle.nts_variance.proofs.Bound.{bindable_kind}
use Rattle.nts_variance.proofs.Clean.{holds_terms, resolved_unset}
use Rattle.nts_variance.proofs.Exact.{fits_alone}

exact_kind : (k : VariableKind) (n : ℕ) → IsAlone (variable_tree k n) → IsExactKind k
exact_kind kind.Const n h = tt
exact_kind kind.Int n h = tt
exact_kind kind.Float n h = tt
exact_kind kind.Ty n h = absurd (⊎_elim (λ (e : Some (of_sort sort.Ty) ≡ Some (of_sort sort.Const)). cc) (λ m. ⊎_elim (λ (e : false ≡ true). cc) (λ (e : false ≡ true). cc) m) h)
exact_kind kind.Region n h = absurd (⊎_elim (λ (e : Some (of_sort sort.Region) ≡ Some (of_sort sort.Const)). cc) (λ m. ⊎_elim (λ (e : false ≡ true). cc) (λ (e : false ≡ true). cc) m) h)

rooted_variable_tree : (c : Content) (k : VariableKind) (n : ℕ) → k ≢ kind.Region → rooted c (variable_tree k n) ≡ variable_tree k n
rooted_variable_tree c kind.Ty n apart = refl
rooted_variable_tree c kind.Int n apart = refl
rooted_variable_tree c kind.Float n apart = refl
rooted_variable_tree c kind.Const n apart = refl
rooted_variable_tree c kind.Region n apart = absurd (apart refl)

-- a variable without a value that stands for a const or a number is one of those
open_exact : (ts : List Tree) (e : Entries) (t : Tree) (x : ℕ) → IsLawful ts e → (o : IsOpen ts e t x) → IsAlone (deeply_resolved (content_of ts e) t) → IsExactKind o.bindable.of_kind
open_exact ts e t x lawful o h =
    let c = content_of ts e in
    let k = o.bindable.of_kind in
    let old = o.bindable.free in
    let free : state_of c x ≡ Some unset = state_of-entry ts e x old.variable old.at ∙ ap (λ s. Some (state_with ts s)) old.state in
    let own : deeply_resolved c t ≡ variable_tree k x = ap (rooted c) (o.same ∙ resolved_unset c k x lawful.sound free) ∙ rooted_variable_tree c k x o.bindable.no_region in
    exact_kind k x (subst IsAlone own h)

-- what such a variable was made one with is a const or a number
bound_alone : (declared : ℕ → List Variance) (z : Bool) (ts us : List Tree) (e f : Entries) (v : Variance) (k : VariableKind) (x : ℕ) (t : NodeId) (gs : List Relating) → IsBound declared z ts us e f v k x t gs → IsExactKind k → kind_at (content_of ts e) x ≡ Some k
    → (IsInfer (tree_at ts t) → ⊥) → (IsAlias (tree_at ts t) → ⊥) → IsAlone (tree_at ts t)
bound_alone declared z ts us e f v k x t gs b exact has node rigid =
    let d = content_of us f in
    let lawful = b.lawful in
    let later = b.later in
    let made = b.made in
    let fits : Fits k (deeply_resolved d (variable_tree k x)) = Fits-deeply_resolved d k x lawful.sound (holds_terms d lawful.proper.solvable) (later.kinds x k has) in
    made.alone node rigid (alone_back d b.value lawful.sound made.knows (made.apart node rigid) (subst IsAlone b.same (fits_alone k (deeply_resolved d (variable_tree k x)) exact fits)))

pub bound_fresh : (c : Content) (declared : ℕ → List Variance) (z : Bool) (ts us : List Tree) (e f : Entries) (v : Variance) (x : ℕ) (own : Tree) (t : NodeId) (gs : List Relating) (o : IsOpen ts e own x) → IsLawful ts e → IsBound declared z ts us e f v o.bindable.of_kind x t gs → AreToBeOne (content_of ts e) v own (tree_at ts t)
    → Knows (content_of ts e) (tree_at ts t) → IsFormed (tree_at ts t) → (IsInfer (tree_at ts t) → ⊥) → (IsAlias (tree_at ts t) → ⊥) → IsUnvalued c v (tree_at ts t)
bound_fresh c declared z ts us e f v x own t gs o lawful b one knows formed node rigid =
    ⊎_elim (λ i. inl i)
    (λ a. inr (alone_unset c (tree_at ts t) formed node
    (⊎_elim (λ l. bound_alone declared z ts us e f v o.bindable.of_kind x t gs b (open_exact ts e own x lawful o l) (bindable_kind ts e x o.bindable) node rigid)
    (λ r. alone_back (content_of ts e) (tree_at ts t) lawful.sound knows node r) a)))
    one.trees

-- .. and the same where the variable is of a const
no_type_exact : (k : VariableKind) (n : ℕ) → k ≢ kind.Region → IsNoType (variable_tree k n) → IsExactKind k
no_type_exact kind.Const n apart h = tt
no_type_exact kind.Int n apart h = tt
no_type_exact kind.Float n apart h = tt
no_type_exact kind.Ty n apart h = absurd (h refl)
no_type_exact kind.Region n apart h = absurd (apart refl)

pub const_fresh : (c : Content) (declared : ℕ → List Variance) (z : Bool) (ts us : List Tree) (e f : Entries) (v : Variance) (x : ℕ) (own : Tree) (t : NodeId) (gs : List Relating) (o : IsOpen ts e own x) → IsBound declared z ts us e f v o.bindable.of_kind x t gs → IsNoType own
    → IsFormed (tree_at ts t) → (IsInfer (tree_at ts t) → ⊥) → (IsAlias (tree_at ts t) → ⊥) → IsUnvalued c v (tree_at ts t)
const_fresh c declared z ts us e f v x own t gs o b apart formed node rigid =
    let k = o.bindable.of_kind in
    let exact = no_type_exact k x o.bindable.no_region (λ q. apart (sym (kind_of-like (variable_tree k x) own o.like) ∙ q)) in
    inr (alone_unset c (tree_at ts t) formed node (bound_alone declared z ts us e f v k x t gs b exact (bindable_kind ts e x o.bindable) node rigid))

pub one_turned : (c : Content) (v : Variance) (a b : Tree) → AreToBeOne c v a b → AreToBeOne c (opposite v) b a
one_turned c v a b h =
    record {
      worlds = λ w s. ⊎_elim (λ e. inl (ap opposite e)) (λ z. inr (⊎_elim (λ l. inr l) (λ r. inl r) z)) (h.worlds w s);
      trees = ⊎_elim (λ e. inl (ap opposite e)) (λ z. inr (⊎_elim (λ l. inr l) (λ r. inl r) z)) h.trees;
    }
