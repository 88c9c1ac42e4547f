-- What is chosen for the positions of a response: choosing brings no labels, and what is chosen has none but those of the
-- originals and of queries.
use Rattle.std.proofs.Common.{◌≡◌, ⊎_elim, inl, inr, ℕ, zero, suc, ◌+◌, Bool, true, List, [], ◌∷◌, refl, sym, subst, arith}
use Rattle.std.specs.Prelude.{get_or}
use Rattle.nts_model.specs.declared.labels.Sort.{Sort}
use Rattle.nts_model.specs.declared.labels.Sort.TheVariants as sort
use Rattle.nts_model.specs.declared.labels.VariableKind.{VariableKind}
use Rattle.nts_model.specs.declared.labels.VariableKind.TheVariants as kind
use Rattle.nts_model.specs.declared.labels.FreeRegion.TheVariants as region
use Rattle.nts_model.specs.declared.labels.Constant.TheVariants as constant
use Rattle.nts_model.specs.declared.labels.Leaf.{Leaf}
use Rattle.nts_model.specs.declared.labels.Leaf.TheVariants as leaf
use Rattle.nts_model.specs.declared.labels.Label.{Label}
use Rattle.nts_model.specs.declared.labels.Label.TheVariants as label
use Rattle.nts_model.specs.Terms.Trees.{Tree, empty}
use Rattle.nts_model.specs.Tables.Contents.{Content, in_universe}
use Rattle.nts_model.specs.Terms.Substitutions.{Occurs, filled}
use Rattle.nts_model.specs.Lists.{Among}
use Rattle.nts_model.specs.Derivations.Handlers.{IsFixed}
use Rattle.nts_model.specs.Canonical.Inputs.{PositionKind, type_variable, integer_variable, float_variable, const_variable, region_variable, placeholder}
use Rattle.nts_model.specs.Answers.Responses.{placeholder_at}
use Rattle.nts_model.specs.Answers.Applying.{IsNew, IsOriginalAt, ChoosesVariable, Chooses, ChoosesAll}
use Rattle.nts_model.specs.Tables.Passing.{TreePasses, BringsNoLabels, PassesQueries}
use Rattle.nts_model.proofs.Tables.Bringing.{brings-same, brings-refl, brings-trans, brings-with_slot, passes-filled}

-- universes alone
pub brings-in_universe : (c : Content) (u : ℕ) → BringsNoLabels c (in_universe c u)
brings-in_universe c u = brings-same c (in_universe c u) (λ n t e. e) refl

pub brings-none : (c d : Content) → d ≡ c → BringsNoLabels c d
brings-none c d e = subst (BringsNoLabels c) (sym e) (brings-refl c)

-- what is chosen brings no labels
variable_brings : (c : Content) (values os : List Tree) (b : ℕ) (k : PositionKind) (v : VariableKind) (t : Tree) (d e : Content) → ChoosesVariable c values os b k v t d e → BringsNoLabels d e
variable_brings c values os b k v t d e h = ⊎_elim (λ n. subst (BringsNoLabels d) (sym n.entries) (brings-with_slot d n.slot n.free)) (λ g. brings-none d e g.1) h

choice_brings : (c : Content) (values os : List Tree) (b : ℕ) (k : PositionKind) (t : Tree) (d e : Content) → Chooses c values os b k t d e → BringsNoLabels d e
choice_brings c values os b (type_variable u r) t d e h = variable_brings c values os b (type_variable u r) kind.Ty t d e h
choice_brings c values os b integer_variable t d e h = variable_brings c values os b integer_variable kind.Int t d e h
choice_brings c values os b float_variable t d e h = variable_brings c values os b float_variable kind.Float t d e h
choice_brings c values os b (const_variable u) t d e h = variable_brings c values os b (const_variable u) kind.Const t d e h
choice_brings c values os b (region_variable u) t d e h = variable_brings c values os b (region_variable u) kind.Region t d e h
choice_brings c values os b (placeholder s u n) t d e h = brings-none d e h.2

pub chosen_brings : (c : Content) (values os : List Tree) (b : ℕ) (ks : List PositionKind) (ts : List Tree) (d f : Content) → ChoosesAll c values os b ks ts d f → BringsNoLabels d f
chosen_brings c values os b [] [] d f h = brings-none d f h
chosen_brings c values os b [] (t ∷ ts) d f h = absurd h
chosen_brings c values os b (k ∷ ks) [] d f h = absurd h
chosen_brings c values os b (k ∷ ks) (t ∷ ts) d f h = brings-trans (choice_brings c values os b k t d h.0 h.1) (chosen_brings c values os (suc b) ks ts h.0 f h.2)

-- a test that originals pass, and what any query's table may hold
module _ (P : Label → Bool) (queries : PassesQueries P) where
  get_passes : (vs : List Tree) (n : ℕ) → ((v : Tree) → Among vs v → TreePasses P v) → TreePasses P (get_or vs n empty)
  get_passes [] n h = tt
  get_passes (v ∷ vs) zero h = h v (inl refl)
  get_passes (v ∷ vs) (suc n) h = get_passes vs n (λ w i. h w (inr i))

  original_passes : (values os : List Tree) (b : ℕ) (t : Tree) → ((v : Tree) → Among os v → TreePasses P v) → IsOriginalAt values os b t → TreePasses P t
  original_passes [] os b t all h = absurd h
  original_passes (v ∷ vs) [] b t all h = absurd h
  original_passes (v ∷ vs) (o ∷ os) b t all h = ⊎_elim
      (λ q. subst (λ (z : Tree). TreePasses P z) (sym q.2) (all o (inl refl)))
      (λ i. original_passes vs os b t (λ w j. all w (inr j)) i) h

  above_root : (f : ℕ → Label) (p u : ℕ) → P (f (suc (p + u))) ≡ true → P (f (p + suc u)) ≡ true
  above_root f p u h = (let e : suc (p + u) ≡ p + suc u = omega arith in subst (λ v. P (f v) ≡ true) e h)

  placeholder_passes : (p : ℕ) (os : List Tree) (s : Sort) (u n : ℕ) → ((v : Tree) → Among os v → TreePasses P v) → TreePasses P (placeholder_at p os s u n)
  placeholder_passes p os s zero n all = get_passes os n all
  placeholder_passes p os sort.Ty (suc u) n all = (above_root (λ v. label.Leaf (leaf.TyConstant (constant.Placeholder v n))) p u (queries (label.Leaf (leaf.TyConstant (constant.Placeholder (suc (p + u)) n))) tt), tt)
  placeholder_passes p os sort.Const (suc u) n all = (above_root (λ v. label.Leaf (leaf.ConstConstant (constant.Placeholder v n))) p u (queries (label.Leaf (leaf.ConstConstant (constant.Placeholder (suc (p + u)) n))) tt), tt)
  placeholder_passes p os sort.Region (suc u) n all = (above_root (λ v. label.Leaf (leaf.Region (region.Placeholder v n))) p u (queries (label.Leaf (leaf.Region (region.Placeholder (suc (p + u)) n))) tt), tt)

  variable_passes : (c : Content) (values os : List Tree) (b : ℕ) (k : PositionKind) (v : VariableKind) (t : Tree) (d e : Content) → ((v : Tree) → Among os v → TreePasses P v) → ChoosesVariable c values os b k v t d e → TreePasses P t
  variable_passes c values os b k v t d e all h = ⊎_elim
      (λ (n : IsNew d e v _ t). subst (λ (z : Tree). TreePasses P z) (sym n.tree) (queries (label.Leaf (leaf.Variable v _)) tt, tt))
      (λ g. (let i = g.0 in original_passes values os b t all i.original)) h

  choice_passes : (c : Content) (values os : List Tree) (b : ℕ) (k : PositionKind) (t : Tree) (d e : Content) → ((v : Tree) → Among os v → TreePasses P v) → Chooses c values os b k t d e → TreePasses P t
  choice_passes c values os b (type_variable u r) t d e all h = variable_passes c values os b (type_variable u r) kind.Ty t d e all h
  choice_passes c values os b integer_variable t d e all h = variable_passes c values os b integer_variable kind.Int t d e all h
  choice_passes c values os b float_variable t d e all h = variable_passes c values os b float_variable kind.Float t d e all h
  choice_passes c values os b (const_variable u) t d e all h = variable_passes c values os b (const_variable u) kind.Const t d e all h
  choice_passes c values os b (region_variable u) t d e all h = variable_passes c values os b (region_variable u) kind.Region t d e all h
  choice_passes c values os b (placeholder s u n) t d e all h = subst (λ (z : Tree). TreePasses P z) (sym h.0) (placeholder_passes c.universe os s u n all)

  pub chosen_passes : (c : Content) (values os : List Tree) (b : ℕ) (ks : List PositionKind) (ts : List Tree) (d f : Content) → ((v : Tree) → Among os v → TreePasses P v) → ChoosesAll c values os b ks ts d f → (t : Tree) → Among ts t → TreePasses P t
  chosen_passes c values os b [] [] d f all h t i = absurd i
  chosen_passes c values os b [] (x ∷ ts) d f all h t i = absurd h
  chosen_passes c values os b (k ∷ ks) [] d f all h t i = absurd i
  chosen_passes c values os b (k ∷ ks) (x ∷ ts) d f all h t i = ⊎_elim
      (λ e. subst (λ (z : Tree). TreePasses P z) (sym e) (choice_passes c values os b k x d h.0 all h.1))
      (λ j. chosen_passes c values os (suc b) ks ts h.0 f all h.2 t j) i

  -- a term of a response, with what was chosen in place of its positions
  fixed_passes : (l : Leaf) → IsFixed l → P (label.Leaf l) ≡ true
  fixed_passes (leaf.Region region.Static) h = queries (label.Leaf (leaf.Region region.Static)) tt
  fixed_passes (leaf.Region region.Erased) h = queries (label.Leaf (leaf.Region region.Erased)) tt
  fixed_passes (leaf.Region region.Error) h = queries (label.Leaf (leaf.Region region.Error)) tt
  fixed_passes (leaf.Region (region.EarlyParam n)) h = absurd h
  fixed_passes (leaf.Region (region.LateParam n)) h = absurd h
  fixed_passes (leaf.Region (region.Placeholder u n)) h = absurd h
  fixed_passes (leaf.Variable k n) h = absurd h
  fixed_passes (leaf.TyConstant a) h = absurd h
  fixed_passes (leaf.ConstConstant a) h = absurd h

  pub filled_passes : (vs : List Tree) (t : Tree) → ((v : Tree) → Among vs v → TreePasses P v) → ((l : Leaf) → Occurs l t → IsFixed l) → TreePasses P (filled vs t)
  filled_passes vs t all leaves = passes-filled P vs t queries all (λ l o. fixed_passes l (leaves l o))
