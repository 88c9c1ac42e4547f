-- What a world of the query's table meets, values meet for the caller's goal, but for regions: those of the world, blurred and renamed back.
use Rattle.std.proofs.Common.{◌≡◌, ℕ, List, [], ◌∷◌, map, Option, Some, refl, sym, ap, subst, ◌∙◌}
use Rattle.nts_model.specs.declared.labels.Sort.{Sort}
use Rattle.nts_model.specs.declared.labels.Sort.TheVariants as sort
use Rattle.nts_model.specs.declared.labels.VariableKind.{VariableKind}
use Rattle.nts_model.specs.declared.labels.VariableKind.TheVariants as kind
use Rattle.nts_model.specs.declared.labels.FreeRegion.TheVariants as region
use Rattle.nts_model.specs.declared.labels.Leaf.{Leaf}
use Rattle.nts_model.specs.declared.labels.Leaf.TheVariants as leaf
use Rattle.nts_model.specs.declared.labels.BoundVarIndexKind.TheVariants as index
use Rattle.nts_model.specs.declared.labels.Label.{Label}
use Rattle.nts_model.specs.declared.labels.Label.TheVariants as label
use Rattle.nts_model.specs.Terms.Trees.{Tree, empty, more, node}
use Rattle.nts_model.specs.Terms.Regions.{of_variable}
use Rattle.nts_model.specs.Tables.Contents.{Content, kind_at}
use Rattle.nts_model.specs.Tables.Worlds.{World, inst, IsValue, Solves}
use Rattle.nts_model.specs.Terms.Substitutions.{leaf_tree, put, replace, filled_under, position_of, value_or, of_variable as sort_of_variable, of_constant, leaf_sort, Renaming, rename, IsPlain}
use Rattle.nts_model.specs.Lists.{Among}
use Rattle.nts_model.specs.Derivations.Rules.{Equation}
use Rattle.nts_model.specs.Derivations.Handlers.{Candidate, equation_by, kind_of_sort, AreValuesOf, renamed_candidate}
use Rattle.nts_model.specs.Refutation.Choosing.{left_of, right_of, IsCandidateMet}
use Rattle.nts_model.specs.Answers.Responses.{read_in}
use Rattle.nts_decisions.specs.Deciding.{blurred_leaf, blurred, blurred_candidate}
use Rattle.nts_decisions.specs.Facts.{Valuation, valued, CanBeMet}
use Rattle.nts_model.proofs.Terms.Substituting.{replace-replace, replace-equal}
use Rattle.nts_model.proofs.Terms.Composing.{IsFormed-instance, IsClosed-instance, Fits-instance}
use Rattle.nts_model.proofs.Canonical.Numbering.{AllLeaves, AllLeaves-each}
use Rattle.nts_model.proofs.Canonical.Positioned.{get_or-map}
use Rattle.nts_decisions.proofs.BlurredWorlds.{value_blurred, region_is_blurred}
use Rattle.nts_decisions.proofs.DecidingRenamed.{by_renaming, inverse, inverse_plain, blurred_renamed, among_back, left_by, right_by}
use Rattle.nts_decisions.proofs.Faring.{among_by}
use Rattle.nts_decisions.proofs.OfferedFacts.{equations_there}

-- the leaves of a tree that is replaced
leaves_label : (P Q : Leaf → Type 0) (f : Leaf → Tree) → ((l : Leaf) → P l → AllLeaves Q (f l)) → (l : Label) (c d : Tree) → (AllLeaves P c → AllLeaves Q d) → AllLeaves P (node l c) → AllLeaves Q (put f l d)
leaves_label P Q f h (label.Leaf x) c d e a = h x a
leaves_label P Q f h (label.Bound s i n) c d e a = e a
leaves_label P Q f h (label.Ty x) c d e a = e a
leaves_label P Q f h (label.Const x) c d e a = e a
leaves_label P Q f h (label.Clause x) c d e a = e a
leaves_label P Q f h (label.Predicate x) c d e a = e a
leaves_label P Q f h (label.List x) c d e a = e a

pub leaves_replaced : (P Q : Leaf → Type 0) (f : Leaf → Tree) → ((l : Leaf) → P l → AllLeaves Q (f l)) → (t : Tree) → AllLeaves P t → AllLeaves Q (replace f t)
leaves_replaced P Q f h empty a = tt
leaves_replaced P Q f h (more s t) a = (leaves_replaced P Q f h s a.0, leaves_replaced P Q f h t a.1)
leaves_replaced P Q f h (node l c) a = leaves_label P Q f h l c (replace f c) (leaves_replaced P Q f h c) a

leaves_label_back : (P Q : Leaf → Type 0) (f : Leaf → Tree) → ((l : Leaf) → AllLeaves Q (f l) → P l) → (l : Label) (c d : Tree) → (AllLeaves Q d → AllLeaves P c) → AllLeaves Q (put f l d) → AllLeaves P (node l c)
leaves_label_back P Q f h (label.Leaf x) c d e a = h x a
leaves_label_back P Q f h (label.Bound s i n) c d e a = e a
leaves_label_back P Q f h (label.Ty x) c d e a = e a
leaves_label_back P Q f h (label.Const x) c d e a = e a
leaves_label_back P Q f h (label.Clause x) c d e a = e a
leaves_label_back P Q f h (label.Predicate x) c d e a = e a
leaves_label_back P Q f h (label.List x) c d e a = e a

pub leaves_back : (P Q : Leaf → Type 0) (f : Leaf → Tree) → ((l : Leaf) → AllLeaves Q (f l) → P l) → (t : Tree) → AllLeaves Q (replace f t) → AllLeaves P t
leaves_back P Q f h empty a = tt
leaves_back P Q f h (more s t) a = (leaves_back P Q f h s a.0, leaves_back P Q f h t a.1)
leaves_back P Q f h (node l c) a = leaves_label_back P Q f h l c (replace f c) (leaves_back P Q f h c) a

both_label : (P Q : Leaf → Type 0) → ((l : Leaf) → P l → Q l) → (l : Label) (c : Tree) → (AllLeaves P c → AllLeaves Q c) → AllLeaves P (node l c) → AllLeaves Q (node l c)
both_label P Q h (label.Leaf x) c e a = h x a
both_label P Q h (label.Bound s i n) c e a = e a
both_label P Q h (label.Ty x) c e a = e a
both_label P Q h (label.Const x) c e a = e a
both_label P Q h (label.Clause x) c e a = e a
both_label P Q h (label.Predicate x) c e a = e a
both_label P Q h (label.List x) c e a = e a

leaves_then : (P Q : Leaf → Type 0) → ((l : Leaf) → P l → Q l) → (t : Tree) → AllLeaves P t → AllLeaves Q t
leaves_then P Q h empty a = tt
leaves_then P Q h (more s t) a = (leaves_then P Q h s a.0, leaves_then P Q h t a.1)
leaves_then P Q h (node l c) a = both_label P Q h l c (leaves_then P Q h c) a

-- blurring twice is blurring once
leaf_twice : (l : Leaf) → blurred (blurred_leaf l) ≡ blurred_leaf l
leaf_twice (leaf.Region r) = refl
leaf_twice (leaf.Variable kind.Region n) = refl
leaf_twice (leaf.Variable kind.Ty n) = refl
leaf_twice (leaf.Variable kind.Int n) = refl
leaf_twice (leaf.Variable kind.Float n) = refl
leaf_twice (leaf.Variable kind.Const n) = refl
leaf_twice (leaf.TyConstant a) = refl
leaf_twice (leaf.ConstConstant a) = refl

pub blurred_twice : (t : Tree) → blurred (blurred t) ≡ blurred t
blurred_twice t = replace-replace blurred_leaf blurred_leaf t ∙ replace-equal (λ l. blurred (blurred_leaf l)) blurred_leaf leaf_twice t

-- trees for the leaves of a term that is blurred
abbrev AreAlikeBlurred : (Leaf → Tree) → List Tree → Leaf → Type 0
AreAlikeBlurred f vs l = blurred (filled_under f vs (blurred_leaf l)) ≡ blurred (f l)

twice_label : (f : Leaf → Tree) (vs : List Tree) (l : Label) (c d e : Tree) → d ≡ filled_under f vs (blurred c) → (AllLeaves (AreAlikeBlurred f vs) c → blurred d ≡ blurred e) → AllLeaves (AreAlikeBlurred f vs) (node l c)
    → blurred (filled_under f vs (put blurred_leaf l (blurred c))) ≡ blurred (value_or (position_of l) vs (put f l e))
twice_label f vs (label.Leaf x) c d e q h a = a
twice_label f vs (label.Bound s (index.Bound i) n) c d e q h a = ap (node (label.Bound s (index.Bound i) n)) (ap blurred (sym q) ∙ h a)
twice_label f vs (label.Bound s index.Canonical n) c d e q h a = refl
twice_label f vs (label.Ty x) c d e q h a = ap (node (label.Ty x)) (ap blurred (sym q) ∙ h a)
twice_label f vs (label.Const x) c d e q h a = ap (node (label.Const x)) (ap blurred (sym q) ∙ h a)
twice_label f vs (label.Clause x) c d e q h a = ap (node (label.Clause x)) (ap blurred (sym q) ∙ h a)
twice_label f vs (label.Predicate x) c d e q h a = ap (node (label.Predicate x)) (ap blurred (sym q) ∙ h a)
twice_label f vs (label.List x) c d e q h a = ap (node (label.List x)) (ap blurred (sym q) ∙ h a)

under_twice : (f : Leaf → Tree) (vs : List Tree) (t : Tree) → AllLeaves (AreAlikeBlurred f vs) t → blurred (filled_under f vs (blurred t)) ≡ blurred (filled_under f vs t)
under_twice f vs empty a = refl
under_twice f vs (more s t) a = cc (under_twice f vs s a.0, under_twice f vs t a.1)
under_twice f vs (node l c) a = twice_label f vs l c (filled_under f vs (blurred c)) (filled_under f vs c) refl (under_twice f vs c) a

-- blurred and renamed
abbrev pub pulled : Renaming → Tree → Tree
pulled ρ t = rename ρ (blurred t)

pulled_blurred : (ρ : Renaming) → IsPlain ρ → (t : Tree) → blurred (pulled ρ t) ≡ pulled ρ t
pulled_blurred ρ p t = blurred_renamed ρ p (blurred t) ∙ ap (rename ρ) (blurred_twice t)

abbrev IsPulled : (Leaf → Leaf) → Renaming → (Leaf → Tree) → (Leaf → Tree) → Leaf → Type 0
IsPulled t ρ f g l = pulled ρ (f (t l)) ≡ blurred (g l)

module _ (to : Leaf → Leaf) (ρ : Renaming) (p : IsPlain ρ) (f g : Leaf → Tree) (vs : List Tree) where
  pulled_label : (l : Label) (c : Tree) → (AllLeaves (IsPulled to ρ f g) c → pulled ρ (filled_under f vs (replace (λ x. leaf_tree (to x)) c)) ≡ blurred (filled_under g (map (pulled ρ) vs) c)) → AllLeaves (IsPulled to ρ f g) (node l c)
      → pulled ρ (filled_under f vs (put (λ x. leaf_tree (to x)) l (replace (λ x. leaf_tree (to x)) c))) ≡ blurred (value_or (position_of l) (map (pulled ρ) vs) (put g l (filled_under g (map (pulled ρ) vs) c)))
  pulled_label (label.Leaf x) c h a = a
  pulled_label (label.Bound s (index.Bound i) n) c h a = ap (node (label.Bound s (index.Bound i) n)) (h a)
  pulled_label (label.Bound s index.Canonical n) c h a = sym (pulled_blurred ρ p (value_or (Some n) vs empty)) ∙ ap blurred (sym (get_or-map (pulled ρ) refl vs n))
  pulled_label (label.Ty x) c h a = ap (node (label.Ty x)) (h a)
  pulled_label (label.Const x) c h a = ap (node (label.Const x)) (h a)
  pulled_label (label.Clause x) c h a = ap (node (label.Clause x)) (h a)
  pulled_label (label.Predicate x) c h a = ap (node (label.Predicate x)) (h a)
  pulled_label (label.List x) c h a = ap (node (label.List x)) (h a)

  pulled_under : (t : Tree) → AllLeaves (IsPulled to ρ f g) t → pulled ρ (filled_under f vs (replace (λ x. leaf_tree (to x)) t)) ≡ blurred (filled_under g (map (pulled ρ) vs) t)
  pulled_under empty a = refl
  pulled_under (more s t) a = cc (pulled_under s a.0, pulled_under t a.1)
  pulled_under (node l c) a = pulled_label l c (pulled_under c) a

-- a value that is blurred and renamed
pulled_value : (ρ : Renaming) → IsPlain ρ → (k : VariableKind) (t : Tree) → IsValue k t → IsValue k (pulled ρ t)
pulled_value ρ p k t v =
    let b = value_blurred k t v in
    record { fits = Fits-instance (by_renaming ρ p) k (blurred t) b.fits; closed = IsClosed-instance (by_renaming ρ p) (blurred t) b.closed; formed = IsFormed-instance (by_renaming ρ p) (blurred t) b.formed }

pulled_values : (ρ : Renaming) → IsPlain ρ → (ss : List Sort) (vs : List Tree) → AreValuesOf ss vs → AreValuesOf ss (map (pulled ρ) vs)
pulled_values ρ p [] [] h = tt
pulled_values ρ p [] (v ∷ vs) h = absurd h
pulled_values ρ p (s ∷ ss) [] h = absurd h
pulled_values ρ p (s ∷ ss) (v ∷ vs) h = (
  let k = h.0 in
      let r = pulled_value ρ p (kind_of_sort s) v (record { fits = k.fits; closed = k.closed; formed = k.formed }) in
      record { fits = r.fits; formed = r.formed; closed = r.closed },
  pulled_values ρ p ss vs h.1,
)

-- a variable of the kind, if no value is known
default_fits : (k : VariableKind) → IsValue k (leaf_tree (leaf.Variable k 0))
default_fits kind.Ty = record { fits = refl; closed = (tt, tt); formed = (tt, tt) }
default_fits kind.Int = record { fits = refl; closed = (tt, tt); formed = (tt, tt) }
default_fits kind.Float = record { fits = refl; closed = (tt, tt); formed = (tt, tt) }
default_fits kind.Const = record { fits = refl; closed = (tt, tt); formed = (tt, tt) }
default_fits kind.Region = record { fits = (of_variable 0, refl); closed = (tt, tt); formed = (tt, tt) }

picked : VariableKind → Option VariableKind → Tree → Tree
picked kind.Ty (Some kind.Ty) t = t
picked kind.Int (Some kind.Int) t = t
picked kind.Float (Some kind.Float) t = t
picked kind.Const (Some kind.Const) t = t
picked k o t = leaf_tree (leaf.Variable k 0)

picked_value : (k : VariableKind) (o : Option VariableKind) (t : Tree) → (o ≡ Some k → IsValue k t) → IsValue k (picked k o t)
unfolding picked
picked_value kind.Ty (Some kind.Ty) t v = v refl
picked_value kind.Int (Some kind.Int) t v = v refl
picked_value kind.Float (Some kind.Float) t v = v refl
picked_value kind.Const (Some kind.Const) t v = v refl
picked_value k o t v = default_fits k

number_of_leaf : Leaf → ℕ
number_of_leaf (leaf.Variable k n) = n
number_of_leaf l = 0

-- the table tells the variable's kind
abbrev pub HasKindIn : Content → Leaf → Type 0
HasKindIn q (leaf.Variable k n) = kind_at q n ≡ Some k
HasKindIn q l = Unit {0}

module _ (q : Content) (w : World) (solves : Solves q w) (ρ : Renaming) (plain : IsPlain ρ) where
  back_plain : IsPlain (inverse ρ)
  back_plain = inverse_plain ρ plain

  tree_of : (k : VariableKind) (n : ℕ) → IsValue k (w.tree n) → IsValue k (pulled (inverse ρ) (w.tree n))
  tree_of k n v = pulled_value (inverse ρ) back_plain k (w.tree n) v

  -- the tree of the variable that the query has for it
  value_back : VariableKind → ℕ → Tree
  value_back k n =
      let m : ℕ = number_of_leaf (ρ.to (leaf.Variable k n)) in
      picked k (kind_at q m) (pulled (inverse ρ) (w.tree m))

  valued_back : Valuation
  unfolding value_back
  valued_back =
      record {
        value = value_back;
        fits = λ k n.
            (let m : ℕ = number_of_leaf (ρ.to (leaf.Variable k n)) in
            let f = solves.fitting in
            picked_value k (kind_at q m) (pulled (inverse ρ) (w.tree m)) (λ e. tree_of k m (f.each m k e)));
      }

  abbrev world_leaf : Leaf → Tree
  world_leaf l = inst w (leaf_tree l)

  erased_back : rename (inverse ρ) (leaf_tree (leaf.Region region.Erased)) ≡ leaf_tree (leaf.Region region.Erased)
  erased_back = ap leaf_tree (back_plain region.Erased tt)

  region_there : (x : Leaf) → leaf_sort x ≡ sort_of_variable kind.Region → HasKindIn q x → blurred (world_leaf x) ≡ leaf_tree (leaf.Region region.Erased)
  region_there (leaf.Region r) s h = refl
  region_there (leaf.Variable kind.Region n) s h = (let f = solves.fitting in let v = f.each n kind.Region h in region_is_blurred (w.tree n) v.fits)
  region_there x s h = absurd (cc s)

  of_region : (x : Leaf) → leaf_sort x ≡ sort_of_variable kind.Region → HasKindIn q x → pulled (inverse ρ) (world_leaf x) ≡ leaf_tree (leaf.Region region.Erased)
  of_region x s h = ap (rename (inverse ρ)) (region_there x s h) ∙ erased_back

  picked_of : (k : VariableKind) (n : ℕ) (x : Leaf) → leaf_sort x ≡ sort_of_variable k → (k ≡ kind.Region → ⊥) → HasKindIn q x → pulled (inverse ρ) (world_leaf x) ≡ blurred (picked k (kind_at q (number_of_leaf x)) (pulled (inverse ρ) (w.tree (number_of_leaf x))))
  unfolding picked number_of_leaf
  picked_of kind.Ty n (leaf.Variable kind.Ty m) s o h = rw h (sym (pulled_blurred (inverse ρ) back_plain (w.tree m)))
  picked_of kind.Int n (leaf.Variable kind.Int m) s o h = rw h (sym (pulled_blurred (inverse ρ) back_plain (w.tree m)))
  picked_of kind.Float n (leaf.Variable kind.Float m) s o h = rw h (sym (pulled_blurred (inverse ρ) back_plain (w.tree m)))
  picked_of kind.Const n (leaf.Variable kind.Const m) s o h = rw h (sym (pulled_blurred (inverse ρ) back_plain (w.tree m)))
  picked_of kind.Region n x s o h = absurd (o refl)
  picked_of k n x s o h = absurd (cc s)

  constant_back : (l x : Leaf) (s : Sort) → leaf_sort x ≡ of_constant s → ρ.from x ≡ l → leaf_sort l ≡ of_constant s → pulled (inverse ρ) (world_leaf x) ≡ blurred (leaf_tree l)
  constant_back (leaf.TyConstant b) (leaf.TyConstant a) s e f g = ap leaf_tree f
  constant_back (leaf.ConstConstant b) (leaf.ConstConstant a) s e f g = ap leaf_tree f
  constant_back (leaf.Variable k n) x s e f g = absurd (cc g)
  constant_back (leaf.Region r) x s e f g = absurd (cc g)
  constant_back l (leaf.Variable k n) s e f g = absurd (cc e)
  constant_back l (leaf.Region r) s e f g = absurd (cc e)
  constant_back l x s e f g = absurd (cc (e, g))

  leaf_back : (l : Leaf) → HasKindIn q (ρ.to l) → IsPulled ρ.to (inverse ρ) world_leaf (valued valued_back) l
  unfolding valued_back value_back
  leaf_back (leaf.Region r) h = of_region (ρ.to (leaf.Region r)) (ρ.keeps_sorts (leaf.Region r)) h
  leaf_back (leaf.Variable kind.Region n) h =
      (let v : Valuation = valued_back in let f = v.fits kind.Region n in
      of_region (ρ.to (leaf.Variable kind.Region n)) (ρ.keeps_sorts (leaf.Variable kind.Region n)) h ∙ sym (region_is_blurred (value_back kind.Region n) f.fits))
  leaf_back (leaf.Variable kind.Ty n) h = picked_of kind.Ty n (ρ.to (leaf.Variable kind.Ty n)) (ρ.keeps_sorts (leaf.Variable kind.Ty n)) (λ e. cc e) h
  leaf_back (leaf.Variable kind.Int n) h = picked_of kind.Int n (ρ.to (leaf.Variable kind.Int n)) (ρ.keeps_sorts (leaf.Variable kind.Int n)) (λ e. cc e) h
  leaf_back (leaf.Variable kind.Float n) h = picked_of kind.Float n (ρ.to (leaf.Variable kind.Float n)) (ρ.keeps_sorts (leaf.Variable kind.Float n)) (λ e. cc e) h
  leaf_back (leaf.Variable kind.Const n) h = picked_of kind.Const n (ρ.to (leaf.Variable kind.Const n)) (ρ.keeps_sorts (leaf.Variable kind.Const n)) (λ e. cc e) h
  leaf_back (leaf.TyConstant a) h = constant_back (leaf.TyConstant a) (ρ.to (leaf.TyConstant a)) sort.Ty (ρ.keeps_sorts (leaf.TyConstant a)) (ρ.back (leaf.TyConstant a)) refl
  leaf_back (leaf.ConstConstant a) h = constant_back (leaf.ConstConstant a) (ρ.to (leaf.ConstConstant a)) sort.Const (ρ.keeps_sorts (leaf.ConstConstant a)) (ρ.back (leaf.ConstConstant a)) refl

  -- regions of the query may be blurred before they are read
  alike_there : (vs : List Tree) (l : Leaf) → HasKindIn q l → AreAlikeBlurred world_leaf vs l
  alike_there vs (leaf.Region r) h = refl
  alike_there vs (leaf.Variable kind.Region n) h = sym (region_there (leaf.Variable kind.Region n) refl h)
  alike_there vs (leaf.Variable kind.Ty n) h = refl
  alike_there vs (leaf.Variable kind.Int n) h = refl
  alike_there vs (leaf.Variable kind.Float n) h = refl
  alike_there vs (leaf.Variable kind.Const n) h = refl
  alike_there vs (leaf.TyConstant a) h = refl
  alike_there vs (leaf.ConstConstant a) h = refl

  alike_here : (vs : List Tree) (l : Leaf) → AreAlikeBlurred (valued valued_back) vs l
  alike_here vs (leaf.Region r) = refl
  alike_here vs (leaf.Variable kind.Region n) = (let v : Valuation = valued_back in let f = v.fits kind.Region n in sym (region_is_blurred (v.value kind.Region n) f.fits))
  alike_here vs (leaf.Variable kind.Ty n) = refl
  alike_here vs (leaf.Variable kind.Int n) = refl
  alike_here vs (leaf.Variable kind.Float n) = refl
  alike_here vs (leaf.Variable kind.Const n) = refl
  alike_here vs (leaf.TyConstant a) = refl
  alike_here vs (leaf.ConstConstant a) = refl

  kinds_kept : (l : Leaf) → HasKindIn q l → AllLeaves (HasKindIn q) (blurred_leaf l)
  kinds_kept (leaf.Region r) h = tt
  kinds_kept (leaf.Variable kind.Region n) h = tt
  kinds_kept (leaf.Variable kind.Ty n) h = h
  kinds_kept (leaf.Variable kind.Int n) h = h
  kinds_kept (leaf.Variable kind.Float n) h = h
  kinds_kept (leaf.Variable kind.Const n) h = h
  kinds_kept (leaf.TyConstant a) h = tt
  kinds_kept (leaf.ConstConstant a) h = tt

  -- what is read there of a term is what the values make of the caller's
  read_back : (vs : List Tree) (s t : Tree) → blurred t ≡ rename ρ (blurred s) → AllLeaves (HasKindIn q) t → pulled (inverse ρ) (read_in w vs t) ≡ blurred (filled_under (valued valued_back) (map (pulled (inverse ρ)) vs) s)
  read_back vs s t e h =
      let there : AllLeaves (HasKindIn q) (rename ρ (blurred s)) = subst (AllLeaves (HasKindIn q)) e (leaves_replaced (HasKindIn q) (HasKindIn q) blurred_leaf kinds_kept t h) in
      let leaves : AllLeaves (IsPulled ρ.to (inverse ρ) world_leaf (valued valued_back)) (blurred s) =
      leaves_then (λ l. HasKindIn q (ρ.to l)) (IsPulled ρ.to (inverse ρ) world_leaf (valued valued_back)) leaf_back (blurred s) (leaves_back (λ l. HasKindIn q (ρ.to l)) (HasKindIn q) (λ l. leaf_tree (ρ.to l)) (λ l a. a) (blurred s) there) in
      ap (rename (inverse ρ)) (sym (under_twice world_leaf vs t (leaves_then (HasKindIn q) (AreAlikeBlurred world_leaf vs) (alike_there vs) t h)))
      ∙ ap (λ z. pulled (inverse ρ) (filled_under world_leaf vs z)) e
      ∙ pulled_under ρ.to (inverse ρ) back_plain world_leaf (valued valued_back) vs (blurred s) leaves
      ∙ under_twice (valued valued_back) (map (pulled (inverse ρ)) vs) s (AllLeaves-each (AreAlikeBlurred (valued valued_back) (map (pulled (inverse ρ)) vs)) s (alike_here (map (pulled (inverse ρ)) vs)))

-- the table tells the kinds of the variables in the equations
pub record HasKinds (q : Content) (y : Candidate) : Type 0 where
  pub each : (e : Equation) → Among y.equations e → AllLeaves (HasKindIn q) (left_of e) × AllLeaves (HasKindIn q) (right_of e)

pub can_be_met_back : (q : Content) (ρ : Renaming) → IsPlain ρ → (x y : Candidate) → blurred_candidate y ≡ renamed_candidate ρ (blurred_candidate x) → HasKinds q y → IsCandidateMet q y → CanBeMet x
can_be_met_back q ρ plain x y same kinds m =
    record {
      valuation = valued_back q m.world m.solves ρ plain;
      values = map (pulled (inverse ρ)) m.values;
      fit = subst (λ z. AreValuesOf z (map (pulled (inverse ρ)) m.values)) (ap (λ z. z.fresh) same) (pulled_values (inverse ρ) (inverse_plain ρ plain) y.fresh m.values m.fit);
      equal = λ e i.
          (let there : Among (map (equation_by blurred) y.equations) (equation_by (rename ρ) (equation_by blurred e)) =
          subst (λ z. Among z (equation_by (rename ρ) (equation_by blurred e))) (sym (equations_there ρ x y same)) (among_by (equation_by (rename ρ)) (map (equation_by blurred) x.equations) (equation_by blurred e) (among_by (equation_by blurred) x.equations e i)) in
          let r = among_back (equation_by blurred) y.equations (equation_by (rename ρ) (equation_by blurred e)) there in
          let left : blurred (left_of r.of) ≡ rename ρ (blurred (left_of e)) = sym (left_by blurred r.of) ∙ ap left_of (sym r.same) ∙ left_by (rename ρ) (equation_by blurred e) ∙ ap (rename ρ) (left_by blurred e) in
          let right : blurred (right_of r.of) ≡ rename ρ (blurred (right_of e)) = sym (right_by blurred r.of) ∙ ap right_of (sym r.same) ∙ right_by (rename ρ) (equation_by blurred e) ∙ ap (rename ρ) (right_by blurred e) in
          let k = kinds.each r.of r.found in
          sym (read_back q m.world m.solves ρ plain m.values (left_of e) (left_of r.of) left k.0) ∙ ap (pulled (inverse ρ)) (m.equal r.of r.found) ∙ read_back q m.world m.solves ρ plain m.values (right_of e) (right_of r.of) right k.1);
    }
