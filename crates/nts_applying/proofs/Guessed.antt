-- Which originals may be guessed.
use Rattle.std.proofs.Common.{◌≡◌, ⊎_elim, ℕ, zero, suc, ◌+◌, ◌≤◌, ◌<◌, List, [], ◌∷◌, length, get_or, Option, Some, None, inl, inr, refl, sym, ap, subst, ◌∙◌, arith}
use Rattle.std.specs.Prelude.{slice_get, slice_set}
use Rattle.nts_model.specs.declared.labels.Sort.{Sort}
use Rattle.nts_model.specs.declared.labels.Sort.TheVariants as sort
use Rattle.nts_model.specs.declared.labels.VariableKind.{VariableKind}
use Rattle.nts_model.specs.declared.labels.VariableKind.TheVariants as kind
use Rattle.nts_model.specs.declared.labels.Leaf.TheVariants as leaf
use Rattle.nts_model.specs.declared.labels.Label.{Label}
use Rattle.nts_model.specs.declared.labels.Label.TheVariants as label
use Rattle.nts_model.specs.declared.labels.BoundVarIndexKind.TheVariants as index
use Rattle.nts_model.specs.Terms.Trees.{Tree, empty, more, node, children, shape, Meets, IsFormed, kind_of, kind_of_label, of_sort, NodeKind, variable_of, variable_tree}
use Rattle.nts_model.specs.Tables.Contents.{Content, universe_of}
use Rattle.nts_model.specs.Tables.Resolving.{Knows, number_of}
use Rattle.nts_model.specs.Terms.Placeholders.{CanName, leaf_level}
use Rattle.nts_model.specs.Tables.Levels.{NamesAll, term_level, level_at, level_in, AreCurrent}
use Rattle.nts_model.specs.Terms.Regions.{IsRegion}
use Rattle.nts_model.specs.Canonical.Inputs.{type_variable, integer_variable, float_variable, const_variable, region_variable, placeholder, PositionKind}
use Rattle.nts_model.specs.Answers.Applying.{IsOriginalAt}
use Rattle.nts_model.proofs.Terms.Substituting.{no_children}
use Rattle.nts_model.proofs.Tables.AliasLabels.{region_closed}
use Rattle.nts_model.proofs.Tables.Solving.{NamesAll-more}
use Rattle.nts_model.proofs.Tables.Slots.{slice_get-slice_set_same, slice_get-slice_set_other, slice_get_below, length-slice_set}
use Rattle.nts_model.proofs.Tables.Under.{same_or_other}
use Rattle.nts_store.specs.Sorts.{sort_of_kind}
use Rattle.nts_store.specs.Growth.{tree_at}
use Rattle.nts_terms.specs.declared.handles.GenericArg.{GenericArg}
use Rattle.nts_unify.specs.Entries.{Entries}
use Rattle.nts_unify.specs.Reading.{content_of}
use Rattle.nts_unify.proofs.Leading.{universe_of-entry}
use Rattle.nts_unify.specs.Knowing.{HasNamed}
use Rattle.nts_unify.proofs.Looking.{known_named}
use Rattle.nts_canonical.specs.declared.types.CanonicalVarKind.{CanonicalVarKind}
use Rattle.nts_canonical.specs.Forms.{kind_of_var, trees_of}
use Rattle.nts_response.specs.Applied.{content_within, MayStand, GuessFits, IsGuessed, AreGuesses, IsPosition, IsRootVariable, IsClosedConst}

-- the current universe names what a table knows
low_named : (m : ℕ) (o : Option ℕ) → ((u : ℕ) → o ≡ Some u → u ≤ m) → CanName m o
low_named m None h = tt
low_named m (Some u) h = h u refl

term_named : (m : ℕ) (l : Label) → CanName m (leaf_level l) → CanName m (term_level l)
term_named m (label.Leaf (leaf.Variable k n)) h = tt
term_named m (label.Leaf (leaf.Region r)) h = tt
term_named m (label.Leaf (leaf.TyConstant a)) h = h
term_named m (label.Leaf (leaf.ConstConstant a)) h = h
term_named m (label.Bound s i n) h = tt
term_named m (label.Ty x) h = tt
term_named m (label.Const x) h = tt
term_named m (label.Clause x) h = tt
term_named m (label.Predicate x) h = tt
term_named m (label.List x) h = tt

label_named : (c : Content) (l : Label) (o : Option (VariableKind × ℕ)) → AreCurrent c → CanName c.universe (leaf_level l) → CanName c.universe (level_at c (number_of o) l)
label_named c l None a h = term_named c.universe l h
label_named c l (Some v) a h = low_named c.universe (universe_of c v.1) (λ u e. a.universes v.1 u e)

pub named_known : (c : Content) (t : Tree) → AreCurrent c → Knows c t → NamesAll (level_in c) c.universe t
named_known c empty a h = tt
named_known c (more s t) a h = (named_known c s a h.0, named_known c t a h.1)
named_known c (node l t) a h = (label_named c l (variable_of l) a h.0.1, named_known c t a h.1)

-- a const of the table may stand for a const of the root
pub const_stands : (c : Content) (u : ℕ) (t : Tree) → AreCurrent c → Knows c t → IsFormed t → IsClosedConst t → MayStand c (const_variable u) t
const_stands c u t a k f h = record {
  value = record { fits = h.is_const; closed = h.closed; formed = f };
  named = NamesAll-more (level_in c) c.universe (c.universe + u) t (omega arith) (named_known c t a k);
}

pub region_stands : (c : Content) (u : ℕ) (t : Tree) → AreCurrent c → Knows c t → IsFormed t → IsRegion t → MayStand c (region_variable u) t
region_stands c u t a k f h = record {
  value = record { fits = h; closed = region_closed 0 t h; formed = f };
  named = NamesAll-more (level_in c) c.universe (c.universe + u) t (omega arith) (named_known c t a k);
}

-- a variable of the root
variable_node : (l : Label) (t : Tree) (k : VariableKind) (n : ℕ) → t ≡ node l (children t) → Meets (shape l) (children t) → l ≡ label.Leaf (leaf.Variable k n) → t ≡ variable_tree k n
variable_node l t k n is m e =
    let meets : Meets (shape (label.Leaf (leaf.Variable k n))) (children t) = subst (λ z. Meets (shape z) (children t)) e m in
    is ∙ ap (λ z. node z (children t)) e ∙ ap (node (label.Leaf (leaf.Variable k n))) (no_children (children t) meets)

root_named : (ts : List Tree) (e : Entries) (p : ℕ) (l : Label) (k : VariableKind) → IsRootVariable e l k → (t : Tree) → (i : IsRootVariable e l k) → t ≡ variable_tree k i.number → NamesAll (level_in (content_within ts e p)) 0 t
root_named ts e p l k h t i is =
    let there : universe_of (content_of ts e) i.number ≡ Some 0 = universe_of-entry ts e i.number i.variable i.at ∙ ap Some i.root in
    rw is (rw there (omega arith), tt)

pub integer_stands : (ts : List Tree) (e : Entries) (p : ℕ) (l : Label) (t : Tree) → t ≡ node l (children t) → Meets (shape l) (children t) → IsRootVariable e l kind.Int → MayStand (content_within ts e p) integer_variable t
integer_stands ts e p l t is m h =
    let tree = variable_node l t kind.Int h.number is m h.is in
    record { value = rw tree (record { fits = refl; closed = (tt, tt); formed = (tt, tt) }); named = root_named ts e p l kind.Int h t h tree }

pub float_stands : (ts : List Tree) (e : Entries) (p : ℕ) (l : Label) (t : Tree) → t ≡ node l (children t) → Meets (shape l) (children t) → IsRootVariable e l kind.Float → MayStand (content_within ts e p) float_variable t
float_stands ts e p l t is m h =
    let tree = variable_node l t kind.Float h.number is m h.is in
    record { value = rw tree (record { fits = refl; closed = (tt, tt); formed = (tt, tt) }); named = root_named ts e p l kind.Float h t h tree }

pub const_sort : (t : Tree) (l : Label) → t ≡ node l (children t) → sort_of_kind (kind_of_label l) ≡ Some sort.Const → kind_of t ≡ Some (of_sort sort.Const)
const_sort t l is h = ap kind_of is ∙ by_kind (kind_of_label l) h
  where
    by_kind : (k : NodeKind) → sort_of_kind k ≡ Some sort.Const → Some k ≡ Some (of_sort sort.Const)
    by_kind (of_sort s) e = ap (λ o. some_sort o) e
      where
        some_sort : Option Sort → Option NodeKind
        some_sort None = None
        some_sort (Some s) = Some (of_sort s)
    by_kind k e = cc

-- what may stand and is an original of the position is guessed
pub guess_fits : (c : Content) (values os : List Tree) (b : ℕ) (k : PositionKind) (t : Tree) → IsOriginalAt values os b t → Knows c t → MayStand c k t → GuessFits c values os b k t
guess_fits c values os b (type_variable u r) t o i h = h
guess_fits c values os b integer_variable t o i h = record { original = o; knows = i; value = h.value; formed = (let v = h.value in v.formed); named = h.named }
guess_fits c values os b float_variable t o i h = record { original = o; knows = i; value = h.value; formed = (let v = h.value in v.formed); named = h.named }
guess_fits c values os b (const_variable u) t o i h = record { original = o; knows = i; value = h.value; formed = (let v = h.value in v.formed); named = h.named }
guess_fits c values os b (region_variable u) t o i h = record { original = o; knows = i; value = h.value; formed = (let v = h.value in v.formed); named = h.named }
guess_fits c values os b (placeholder s u n) t o i h = h

pub original_at : (ts : List Tree) (values originals : List GenericArg) (i b : ℕ) (d e : GenericArg) → length originals ≡ length values → i < length values → IsPosition (tree_at ts (get_or values i d).node) b → IsOriginalAt (trees_of ts values) (trees_of ts originals) b (tree_at ts (get_or originals i e).node)
original_at ts [] originals i b d e q l h = absurd (omega arith)
original_at ts (v ∷ values) [] i b d e q l h = absurd (omega (arith, q))
original_at ts (v ∷ values) (o ∷ originals) zero b d e q l (s, h) = inl (s, h, refl)
original_at ts (v ∷ values) (o ∷ originals) (suc i) b d e q l h = inr (original_at ts values originals i b d e (omega (arith, q)) (omega (arith, l)) h)

-- one guess more
pub one_guess : (ts : List Tree) (c : Content) (values os : List Tree) (ks : List CanonicalVarKind) (gs zs : List (Option GenericArg)) (b : ℕ) (k : CanonicalVarKind) (x : GenericArg) → AreGuesses ts c values os ks gs → slice_get ks b ≡ Some k → IsGuessed ts c values os b (kind_of_var k) (Some x) → zs ≡ slice_set gs b (Some x)
    → AreGuesses ts c values os ks zs
one_guess ts c values os ks gs zs b k x h at fits q = rw q (record {
  long = length-slice_set gs b (Some x) ∙ h.long;
  each = λ n i g there is. ⊎_elim
      (λ (e : n ≡ b). (let below : b < length gs = (let z = slice_get_below ks b k at in let l = h.long in omega (arith, z, l)) in
      let same : Some (Some x) ≡ Some g = sym (slice_get-slice_set_same gs b (Some x) below) ∙ ap (slice_get (slice_set gs b (Some x))) (sym e) ∙ is in
      let kinds : Some k ≡ Some i = sym at ∙ ap (slice_get ks) (sym e) ∙ there in
      subst (λ z. IsGuessed ts c values os n (kind_of_var i) z) (some same) (subst (λ z. IsGuessed ts c values os n (kind_of_var z) (Some x)) (some kinds) (subst (λ z. IsGuessed ts c values os z (kind_of_var k) (Some x)) (sym e) fits))))
      (λ (d : n ≡ b → ⊥). h.each n i g there (sym (slice_get-slice_set_other gs b n (Some x) d) ∙ is)) (same_or_other n b);
})
  where
    some : {A : Type 0} {y z : A} → Some y ≡ Some z → y ≡ z
    some e = cc

-- a label of a known term names a variable of the table
pub known_label : (ts : List Tree) (e : Entries) (p : ℕ) (t : Tree) (l : Label) → t ≡ node l (children t) → Knows (content_within ts e p) t → HasNamed e (variable_of l)
known_label ts e p t l is h = (let k : Knows (content_within ts e p) (node l (children t)) = subst (Knows (content_within ts e p)) is h in known_named ts e (variable_of l) k.0.0)
