-- The query of a decided goal: its positions are placeholders of the root, named by their places.
use Rattle.std.proofs.Common.{◌≡◌, inl, inr, ℕ, suc, Bool, false, List, [], ◌∷◌, ◌++◌, map, length, refl, sym, ap, subst, ◌∙◌, arith}
use Rattle.std.specs.Prelude.{◌||◌}
use Rattle.std.specs.List.{position_or_len}
use Rattle.nts_model.specs.declared.labels.Sort.{Sort}
use Rattle.nts_model.specs.declared.labels.Sort.TheVariants as sort
use Rattle.nts_model.specs.declared.labels.VariableKind.TheVariants as kind
use Rattle.nts_model.specs.declared.labels.FreeRegion.TheVariants as region
use Rattle.nts_model.specs.declared.labels.Leaf.{Leaf}
use Rattle.nts_model.specs.declared.labels.Leaf.TheVariants as leaf
use Rattle.nts_model.specs.declared.labels.Label.{Label}
use Rattle.nts_model.specs.declared.labels.Label.TheVariants as label
use Rattle.nts_model.specs.Terms.Trees.{Tree, empty, more, node, any_label, is_infer, IsFormed}
use Rattle.nts_model.specs.Terms.Substitutions.{leaf_tree, Occurs, leaf_sort}
use Rattle.nts_model.specs.Lists.{Among}
use Rattle.nts_model.specs.Derivations.Rules.{Mode}
use Rattle.nts_model.specs.Derivations.Handlers.{Handler}
use Rattle.nts_model.specs.Canonical.Numbered.{number, AreDistinct}
use Rattle.nts_model.specs.Canonical.Inputs.{Input, IsInput, canonical_of, originals, placeholder, position_kind, position_kind_at, share}
use Rattle.nts_model.proofs.Terms.Listed.{same-no, same-yes}
use Rattle.nts_model.proofs.Terms.Substituting.{replace-equal}
use Rattle.nts_model.proofs.Terms.Unpositioned.{or_false}
use Rattle.nts_model.proofs.Canonical.CanonicalForms.{originals_are_leaves}
use Rattle.nts_decisions.specs.Deciding.{blurred, blurred_but_static, blurred_environment, opened_next, IsGoalDecided}
use Rattle.nts_decisions.proofs.Deciding.{infer_none}
use Rattle.nts_decisions.proofs.DecidingRenamed.{labels_renamed}
use Rattle.nts_decisions.proofs.DecidedInfer.{decided_no_infer}
use Rattle.nts_decisions.specs.Queries.{AreRootKinds}

-- what no label of a tree is, no leaf of it is
pub occurs_without : (test : Label → Bool) (t : Tree) (l : Leaf) → any_label test t ≡ false → Occurs l t → test (label.Leaf l) ≡ false
occurs_without test empty l e o = absurd o
occurs_without test (more a b) l e o =
    let x = or_false (any_label test a) (any_label test b) e in
    elim o [ inl p ↦ occurs_without test a l x.0 p | inr p ↦ occurs_without test b l x.1 p ]
occurs_without test (node k c) l e o =
    let x = or_false (test k) (any_label test c) e in
    elim o [ inl p ↦ ap test p ∙ x.0 | inr p ↦ occurs_without test c l x.1 p ]

-- an environment but for regions
abbrev pub static_leaf : Leaf → Leaf
static_leaf (leaf.Region region.Static) = leaf.Region region.Static
static_leaf (leaf.Region r) = leaf.Region region.Erased
static_leaf (leaf.Variable kind.Region n) = leaf.Region region.Erased
static_leaf l = l

pub static_is : (l : Leaf) → blurred_but_static l ≡ leaf_tree (static_leaf l)
static_is (leaf.Region region.Static) = refl
static_is (leaf.Region (region.EarlyParam n)) = refl
static_is (leaf.Region (region.LateParam n)) = refl
static_is (leaf.Region (region.Placeholder u n)) = refl
static_is (leaf.Region region.Erased) = refl
static_is (leaf.Region region.Error) = refl
static_is (leaf.Variable kind.Region n) = refl
static_is (leaf.Variable kind.Ty n) = refl
static_is (leaf.Variable kind.Int n) = refl
static_is (leaf.Variable kind.Float n) = refl
static_is (leaf.Variable kind.Const n) = refl
static_is (leaf.TyConstant a) = refl
static_is (leaf.ConstConstant a) = refl

static_infer : (l : Leaf) → is_infer (label.Leaf (static_leaf l)) ≡ is_infer (label.Leaf l)
static_infer (leaf.Region region.Static) = refl
static_infer (leaf.Region (region.EarlyParam n)) = refl
static_infer (leaf.Region (region.LateParam n)) = refl
static_infer (leaf.Region (region.Placeholder u n)) = refl
static_infer (leaf.Region region.Erased) = refl
static_infer (leaf.Region region.Error) = refl
static_infer (leaf.Variable kind.Region n) = refl
static_infer (leaf.Variable kind.Ty n) = refl
static_infer (leaf.Variable kind.Int n) = refl
static_infer (leaf.Variable kind.Float n) = refl
static_infer (leaf.Variable kind.Const n) = refl
static_infer (leaf.TyConstant a) = refl
static_infer (leaf.ConstConstant a) = refl

pub environment_infer : (t : Tree) → IsFormed t → any_label is_infer (blurred_environment t) ≡ any_label is_infer t
environment_infer t f = ap (any_label is_infer) (replace-equal blurred_but_static (λ l. leaf_tree (static_leaf l)) static_is t) ∙ labels_renamed is_infer static_leaf static_infer t f

-- a leaf that is no variable but of a region has a placeholder's position
kind_there : (l : Leaf) (f n : ℕ) → is_infer (label.Leaf l) ≡ false → (s : Sort) × (position_kind_at (leaf_sort l) f n ≡ placeholder s 0 n)
kind_there (leaf.Variable kind.Region i) f n e = (sort.Region, refl)
kind_there (leaf.Variable kind.Ty i) f n e = absurd (cc e)
kind_there (leaf.Variable kind.Int i) f n e = absurd (cc e)
kind_there (leaf.Variable kind.Float i) f n e = absurd (cc e)
kind_there (leaf.Variable kind.Const i) f n e = absurd (cc e)
kind_there (leaf.Region r) f n e = (sort.Region, refl)
kind_there (leaf.TyConstant a) f n e = (sort.Ty, refl)
kind_there (leaf.ConstConstant a) f n e = (sort.Const, refl)

-- the number of a leaf is its place
pub number_after : (s t : List Leaf) (l : Leaf) → (Among s l → ⊥) → number (s ++ l ∷ t) l ≡ length s
number_after [] t l n = rw (same-yes l l refl) refl
number_after (x ∷ xs) t l n = rw (same-no l x (λ p. n (inl p))) (let e : number (xs ++ l ∷ t) l ≡ length xs = number_after xs t l (λ i. n (inr i)) in omega (arith, e))

among_front : (s t : List Leaf) (l : Leaf) → Among s l → Among (s ++ t) l
among_front [] t l i = absurd i
among_front (x ∷ xs) t l (inl e) = inl e
among_front (x ∷ xs) t l (inr i) = inr (among_front xs t l i)

pub at_place : (s t : List Leaf) (l : Leaf) → Among (s ++ l ∷ t) l
at_place [] t l = inl refl
at_place (x ∷ xs) t l = inr (at_place xs t l)

pub not_before : (s t : List Leaf) (l : Leaf) → AreDistinct (s ++ l ∷ t) → Among s l → ⊥
not_before [] t l d i = i
not_before (x ∷ xs) t l d (inl e) = d.0 (subst (λ z. Among (xs ++ l ∷ t) z) e (at_place xs t l))
not_before (x ∷ xs) t l d (inr i) = not_before xs t l d.1 i

pub snoc : (s t : List Leaf) (l : Leaf) → (s ++ l ∷ []) ++ t ≡ s ++ l ∷ t
snoc [] t l = refl
snoc (x ∷ xs) t l = ap (λ z. x ∷ z) (snoc xs t l)

pub longer : (s : List Leaf) (l : Leaf) → length (s ++ l ∷ []) ≡ suc (length s)
longer [] l = refl
longer (x ∷ xs) l = (let e : length (xs ++ l ∷ []) ≡ suc (length xs) = longer xs l in omega (arith, e))

kinds_from : (r : ℕ → ℕ) (whole done rest : List Leaf) → done ++ rest ≡ whole → AreDistinct whole → ((l : Leaf) → Among whole l → is_infer (label.Leaf l) ≡ false) → AreRootKinds (length done) (map (position_kind r whole) rest)
kinds_from r whole done [] e d h = tt
kinds_from r whole done (l ∷ rest) e d h =
    let at : Among whole l = subst (λ z. Among z l) e (at_place done rest l) in
    let one = kind_there l (position_or_len (share r l) whole) (number whole l) (h l at) in
    let place : number whole l ≡ length done = subst (λ z. number z l ≡ length done) e (number_after done rest l (not_before done rest l (subst AreDistinct (sym e) d))) in
    let more = kinds_from r whole (done ++ l ∷ []) rest (snoc done rest l ∙ e) d h in
    ((one.0, one.1 ∙ ap (placeholder one.0 0) place), subst (λ z. AreRootKinds z (map (position_kind r whole) rest)) (longer done l) more)

-- of a decided goal
pub no_infer_environment : (h : Handler) (mode : Mode) (n : ℕ) (e g : Tree) (b : Bool) → IsFormed e → IsGoalDecided h mode n e g b → any_label is_infer e ≡ false
no_infer_environment h mode n e g b f d =
    sym (environment_infer e f) ∙ (or_false (any_label is_infer (blurred_environment e)) (any_label is_infer (opened_next (blurred_environment e) (blurred g)) || false) (infer_none h mode (blurred_environment e) (blurred g) n b d)).0

pub decided_kinds : (h : Handler) (mode : Mode) (n : ℕ) (b : Bool) (i : Input) → IsInput i → i.hidden ≡ empty → IsGoalDecided h mode n i.environment i.predicate b → AreRootKinds 0 (canonical_of i).kinds
decided_kinds h mode n b i p none d =
    let f = p.formed in
    let env = no_infer_environment h mode n i.environment i.predicate b f.0 d in
    let says = decided_no_infer h mode (blurred_environment i.environment) n i.predicate b f.1.0 d in
    let own = originals_are_leaves i p in
    let each : (l : Leaf) → Among (originals i) l → is_infer (label.Leaf l) ≡ false =
    λ l a. elim ((own.1 l).0 a) [
      | inl o ↦ occurs_without is_infer i.environment l env o.1
      | inr o ↦ elim o [ inl q ↦ occurs_without is_infer i.predicate l says q | inr q ↦ absurd (subst (Occurs l) none q) ]
    ] in
    kinds_from i.sub_root (originals i) [] (originals i) refl own.0 each
