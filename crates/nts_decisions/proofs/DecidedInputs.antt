-- What decides a goal decides each goal of the same canonical form: so the goal of its query is decided likewise.
use Rattle.std.proofs.Common.{◌≡◌, inl, inr, ℕ, List, [], ◌∷◌, map, refl, sym, ap, subst, ◌∙◌}
use Rattle.std.specs.Prelude.{Bool, ◌⊎◌}
use Rattle.nts_model.specs.declared.labels.VariableKind.TheVariants as kind
use Rattle.nts_model.specs.declared.labels.FreeRegion.TheVariants as region
use Rattle.nts_model.specs.declared.labels.Leaf.{Leaf}
use Rattle.nts_model.specs.declared.labels.Leaf.TheVariants as leaf
use Rattle.nts_model.specs.Terms.Trees.{Tree, empty, more}
use Rattle.nts_model.specs.Terms.Substitutions.{leaf_tree, replace, of_variable as sort_of_variable, leaf_sort, Renaming, rename, IsPlain, filled}
use Rattle.nts_model.specs.Derivations.Rules.{Mode}
use Rattle.nts_model.specs.Derivations.Handlers.{Handler, IsLawfulHandler}
use Rattle.nts_model.specs.Canonical.Inputs.{Input, canonical_of, is_static, label_or_leaf, static_as_label, IsInput, HaveKinds, made_of}
use Rattle.nts_decisions.specs.Deciding.{blurred_leaf, blurred_but_static, blurred, blurred_environment, IsDecided, IsGoalDecided}
use Rattle.nts_model.proofs.Terms.Substituting.{replace-replace, replace-equal}
use Rattle.nts_model.proofs.Canonical.Numbering.{HasNoPositions, first_none, filled-replace}
use Rattle.nts_model.proofs.Canonical.Positioned.{replace-filled}
use Rattle.nts_model.proofs.Canonical.CanonicalForms.{forms_tell_inputs, making_gives_form}
use Rattle.nts_decisions.proofs.DecidingRenamed.{is_region_leaf, region_blurred, other_blurred, under_renamed, decided_renamed}
use Rattle.nts_decisions.proofs.Reopening.{reopens}

-- a renaming, but regions stay
abbrev pub off_leaf : (Leaf → Leaf) → Leaf → Leaf
off_leaf f (leaf.Region r) = leaf.Region r
off_leaf f (leaf.Variable kind.Region n) = leaf.Variable kind.Region n
off_leaf f l = f l

off_other : (f : Leaf → Leaf) (x : Leaf) → (leaf_sort x ≡ sort_of_variable kind.Region → ⊥) → off_leaf f x ≡ f x
off_other f (leaf.Variable kind.Region n) e = absurd (e refl)
off_other f (leaf.Region r) e = absurd (e refl)
off_other f (leaf.Variable kind.Ty n) e = refl
off_other f (leaf.Variable kind.Int n) e = refl
off_other f (leaf.Variable kind.Float n) e = refl
off_other f (leaf.Variable kind.Const n) e = refl
off_other f (leaf.TyConstant a) e = refl
off_other f (leaf.ConstConstant a) e = refl

off_region : (f : Leaf → Leaf) (x : Leaf) → leaf_sort x ≡ sort_of_variable kind.Region → off_leaf f x ≡ x
off_region f (leaf.Variable kind.Region n) e = refl
off_region f (leaf.Region r) e = refl
off_region f x e = absurd (cc e)

off_back : (f g : Leaf → Leaf) → ((l : Leaf) → g (f l) ≡ l) → ((l : Leaf) → leaf_sort (f l) ≡ leaf_sort l) → (l : Leaf) → off_leaf g (off_leaf f l) ≡ l
off_back f g b k l = go (is_region_leaf l)
  where
    go : (leaf_sort l ≡ sort_of_variable kind.Region) ⊎ (leaf_sort l ≡ sort_of_variable kind.Region → ⊥) → off_leaf g (off_leaf f l) ≡ l
    go (inl e) = ap (off_leaf g) (off_region f l e) ∙ off_region g l e
    go (inr e) = ap (off_leaf g) (off_other f l e) ∙ off_other g (f l) (λ q. e (sym (k l) ∙ q)) ∙ b l

off_sorts : (f : Leaf → Leaf) → ((l : Leaf) → leaf_sort (f l) ≡ leaf_sort l) → (l : Leaf) → leaf_sort (off_leaf f l) ≡ leaf_sort l
off_sorts f k l = go (is_region_leaf l)
  where
    go : (leaf_sort l ≡ sort_of_variable kind.Region) ⊎ (leaf_sort l ≡ sort_of_variable kind.Region → ⊥) → leaf_sort (off_leaf f l) ≡ leaf_sort l
    go (inl e) = ap leaf_sort (off_region f l e)
    go (inr e) = ap leaf_sort (off_other f l e) ∙ k l

pub off_regions : Renaming → Renaming
off_regions ρ =
    record {
      to = off_leaf ρ.to;
      from = off_leaf ρ.from;
      back = off_back ρ.to ρ.from ρ.back ρ.keeps_sorts;
      forth = off_back ρ.from ρ.to ρ.forth (λ l. sym (ρ.keeps_sorts (ρ.from l)) ∙ ap leaf_sort (ρ.forth l));
      keeps_sorts = off_sorts ρ.to ρ.keeps_sorts;
    }

-- leaves that are no regions are renamed as before
pub off_same : (ρ : Renaming) (l : Leaf) → (leaf_sort l ≡ sort_of_variable kind.Region → ⊥) → (let k = off_regions ρ in k.to l) ≡ ρ.to l
unfolding off_regions
off_same ρ l e = off_other ρ.to l e

pub off_plain : (ρ : Renaming) → IsPlain (off_regions ρ)
unfolding off_regions
off_plain ρ r h = refl

blurred_off_leaf : (ρ : Renaming) (l : Leaf) → blurred_leaf (ρ.to l) ≡ rename (off_regions ρ) (blurred_leaf l)
unfolding off_regions
blurred_off_leaf ρ l = go (is_region_leaf l)
  where
    go : (leaf_sort l ≡ sort_of_variable kind.Region) ⊎ (leaf_sort l ≡ sort_of_variable kind.Region → ⊥) → blurred_leaf (ρ.to l) ≡ replace (λ x. leaf_tree (off_leaf ρ.to x)) (blurred_leaf l)
    go (inl e) = region_blurred (ρ.to l) (ρ.keeps_sorts l ∙ e) ∙ ap (replace (λ x. leaf_tree (off_leaf ρ.to x))) (sym (region_blurred l e))
    go (inr e) = other_blurred (ρ.to l) (λ q. e (sym (ρ.keeps_sorts l) ∙ q)) ∙ ap leaf_tree (sym (off_other ρ.to l e)) ∙ ap (replace (λ x. leaf_tree (off_leaf ρ.to x))) (sym (other_blurred l e))

pub blurred_off : (ρ : Renaming) (t : Tree) → blurred (rename ρ t) ≡ rename (off_regions ρ) (blurred t)
blurred_off ρ t =
    replace-replace blurred_leaf (λ l. leaf_tree (ρ.to l)) t
    ∙ replace-equal (λ l. blurred_leaf (ρ.to l)) (λ l. rename (off_regions ρ) (blurred_leaf l)) (blurred_off_leaf ρ) t
    ∙ sym (replace-replace (λ l. leaf_tree (let k = off_regions ρ in k.to l)) blurred_leaf t)

-- an environment with 'static as a label
static_tree : Tree
static_tree = leaf_tree (leaf.Region region.Static)

decoded_leaf : (l : Leaf) → filled (static_tree ∷ []) (blurred (label_or_leaf is_static l)) ≡ blurred_but_static l
unfolding static_tree
decoded_leaf (leaf.Region region.Static) = refl
decoded_leaf (leaf.Region (region.EarlyParam n)) = refl
decoded_leaf (leaf.Region (region.LateParam n)) = refl
decoded_leaf (leaf.Region (region.Placeholder u n)) = refl
decoded_leaf (leaf.Region region.Erased) = refl
decoded_leaf (leaf.Region region.Error) = refl
decoded_leaf (leaf.Variable kind.Ty n) = refl
decoded_leaf (leaf.Variable kind.Int n) = refl
decoded_leaf (leaf.Variable kind.Float n) = refl
decoded_leaf (leaf.Variable kind.Const n) = refl
decoded_leaf (leaf.Variable kind.Region n) = refl
decoded_leaf (leaf.TyConstant a) = refl
decoded_leaf (leaf.ConstConstant a) = refl

decoded : (t : Tree) → HasNoPositions t → filled (static_tree ∷ []) (blurred (static_as_label t)) ≡ blurred_environment t
decoded t h =
    ap (filled (static_tree ∷ [])) (replace-replace blurred_leaf (label_or_leaf is_static) t)
    ∙ filled-replace (static_tree ∷ []) (λ l. blurred (label_or_leaf is_static l)) t h
    ∙ replace-equal (λ l. filled (static_tree ∷ []) (blurred (label_or_leaf is_static l))) blurred_but_static decoded_leaf t

static_filled : (ρ : Renaming) (t : Tree) → rename (off_regions ρ) (filled (static_tree ∷ []) t) ≡ filled (static_tree ∷ []) (rename (off_regions ρ) t)
unfolding off_regions static_tree
static_filled ρ t = replace-filled (λ l. leaf_tree (off_leaf ρ.to l)) (static_tree ∷ []) t ∙ under_renamed (off_leaf ρ.to) (static_tree ∷ []) t

pub environment_off : (ρ : Renaming) (s t : Tree) → HasNoPositions s → HasNoPositions t → rename ρ (static_as_label s) ≡ static_as_label t → blurred_environment t ≡ rename (off_regions ρ) (blurred_environment s)
environment_off ρ s t h k e =
    sym (decoded t k) ∙ ap (λ z. filled (static_tree ∷ []) (blurred z)) (sym e) ∙ ap (filled (static_tree ∷ [])) (blurred_off ρ (static_as_label s))
    ∙ sym (static_filled ρ (blurred (static_as_label s))) ∙ ap (rename (off_regions ρ)) (decoded s h)

-- a plain renaming of a goal is decided as the goal is
pub plainly_renamed : (h : Handler) → IsLawfulHandler h → (mode : Mode) (e : Tree) (ρ : Renaming) → IsPlain ρ → (n : ℕ) (g : Tree) (b : Bool) → IsDecided h mode e n g b → IsDecided h mode (rename ρ e) n (rename ρ g) b
plainly_renamed h law mode e ρ p n g b d = decided_renamed h law mode e (λ r q k. reopens r q e k) ρ p n g b d

-- one canonical form, one decision
pub form_decided : (h : Handler) → IsLawfulHandler h → (mode : Mode) (n : ℕ) (b : Bool) (i j : Input) → IsInput i → IsInput j → canonical_of i ≡ canonical_of j
    → IsGoalDecided h mode n i.environment i.predicate b → IsGoalDecided h mode n j.environment j.predicate b
form_decided h law mode n b i j p q e d =
    let (ρ, m) = (forms_tell_inputs i j p q).0 e in
    let environment : blurred_environment j.environment ≡ rename (off_regions ρ) (blurred_environment i.environment) =
    environment_off ρ i.environment j.environment (first_none i.environment (more i.predicate (more i.hidden empty)) p.no_positions) (first_none j.environment (more j.predicate (more j.hidden empty)) q.no_positions) m.environment in
    let predicate : blurred j.predicate ≡ rename (off_regions ρ) (blurred i.predicate) = ap blurred (sym m.predicate) ∙ blurred_off ρ i.predicate in
    subst (λ z. IsDecided h mode z n (blurred j.predicate) b) (sym environment)
    (subst (λ z. IsDecided h mode (rename (off_regions ρ) (blurred_environment i.environment)) n z b) (sym predicate)
    (plainly_renamed h law mode (blurred_environment i.environment) (off_regions ρ) (off_plain ρ) n (blurred i.predicate) b d))

-- .. so the goal of a query is decided as the goal that is asked, where leaves of its kinds stand for the positions
pub query_decided : (h : Handler) → IsLawfulHandler h → (mode : Mode) (n : ℕ) (b : Bool) (i : Input) (s : List Leaf) (r : ℕ → ℕ) → IsInput i → HaveKinds (canonical_of i) s r → IsInput (made_of (canonical_of i) s r) → IsGoalDecided h mode n i.environment i.predicate b
    → (let c = canonical_of i in IsGoalDecided h mode n (filled (map leaf_tree s) c.environment) (filled (map leaf_tree s) c.predicate) b)
query_decided h law mode n b i s r p k q d = form_decided h law mode n b i (made_of (canonical_of i) s r) p q (sym (making_gives_form i s r p k)) d
