-- Closed trees in place of positions; choosing for the positions of a response records nothing.
use Rattle.std.proofs.Common.{◌≡◌, ⊎_elim, inl, inr, ℕ, zero, suc, ◌+◌, List, [], ◌∷◌, refl, ap, ◌∙◌, arith}
use Rattle.std.specs.Prelude.{get_or}
use Rattle.nts_model.specs.declared.labels.VariableKind.{VariableKind}
use Rattle.nts_model.specs.declared.labels.VariableKind.TheVariants as kind
use Rattle.nts_model.specs.declared.labels.BoundVarIndexKind.TheVariants as index
use Rattle.nts_model.specs.declared.labels.Label.TheVariants as label
use Rattle.nts_model.specs.Terms.Trees.{Tree, empty, more, node, binders, IsClosed, IsClosedUnder}
use Rattle.nts_model.specs.Tables.Contents.{Content}
use Rattle.nts_model.specs.Lists.{Among}
use Rattle.nts_model.specs.Terms.Substitutions.{filled}
use Rattle.nts_model.specs.Canonical.Inputs.{PositionKind, type_variable, integer_variable, float_variable, const_variable, region_variable, placeholder}
use Rattle.nts_model.specs.Answers.Applying.{IsNew, ChoosesVariable, Chooses, ChoosesAll}
use Rattle.nts_model.proofs.Terms.Substituting.{closed_under_more}

-- a closed tree with closed trees in place of its positions
pub closed-filled : (vs : List Tree) → ((j : ℕ) → IsClosed (get_or vs j empty)) → (b : ℕ) (t : Tree) → IsClosedUnder b t → IsClosedUnder b (filled vs t)
closed-filled vs h b empty k = tt
closed-filled vs h b (more s t) k = (closed-filled vs h b s k.0, closed-filled vs h b t k.1)
closed-filled vs h b (node (label.Bound s index.Canonical n) t) k = closed_under_more 0 b (get_or vs n empty) (omega arith) (h n)
closed-filled vs h b (node (label.Bound s (index.Bound d) n) t) k = (k.0, closed-filled vs h (b + 0) t k.1)
closed-filled vs h b (node (label.Leaf x) t) k = (tt, closed-filled vs h (b + 0) t k.1)
closed-filled vs h b (node (label.Ty x) t) k = (tt, closed-filled vs h (b + binders (label.Ty x)) t k.1)
closed-filled vs h b (node (label.Const x) t) k = (tt, closed-filled vs h (b + 0) t k.1)
closed-filled vs h b (node (label.Clause x) t) k = (tt, closed-filled vs h (b + 0) t k.1)
closed-filled vs h b (node (label.Predicate x) t) k = (tt, closed-filled vs h (b + 0) t k.1)
closed-filled vs h b (node (label.List x) t) k = (tt, closed-filled vs h (b + binders (label.List x)) t k.1)

-- the trees of a list, and nothing beyond its end
pub closed_get : (vs : List Tree) → ((v : Tree) → Among vs v → IsClosed v) → (j : ℕ) → IsClosed (get_or vs j empty)
closed_get [] h j = tt
closed_get (v ∷ vs) h zero = h v (inl refl)
closed_get (v ∷ vs) h (suc j) = closed_get vs (λ w i. h w (inr i)) j

-- choosing records nothing
recorded_same : (c d : Content) → d ≡ c → d.constraints ≡ c.constraints
recorded_same c d e = ap (λ (z : Content). z.constraints) e

variable_records : (c : Content) (values os : List Tree) (b : ℕ) (k : PositionKind) (v : VariableKind) (t : Tree) (d e : Content) → ChoosesVariable c values os b k v t d e → e.constraints ≡ d.constraints
variable_records c values os b k v t d e h = ⊎_elim (λ (n : IsNew d e v _ t). ap (λ (z : Content). z.constraints) n.entries) (λ g. recorded_same d e g.1) h

choice_records : (c : Content) (values os : List Tree) (b : ℕ) (k : PositionKind) (t : Tree) (d e : Content) → Chooses c values os b k t d e → e.constraints ≡ d.constraints
choice_records c values os b (type_variable u r) t d e h = variable_records c values os b (type_variable u r) kind.Ty t d e h
choice_records c values os b integer_variable t d e h = variable_records c values os b integer_variable kind.Int t d e h
choice_records c values os b float_variable t d e h = variable_records c values os b float_variable kind.Float t d e h
choice_records c values os b (const_variable u) t d e h = variable_records c values os b (const_variable u) kind.Const t d e h
choice_records c values os b (region_variable u) t d e h = variable_records c values os b (region_variable u) kind.Region t d e h
choice_records c values os b (placeholder s u n) t d e h = recorded_same d e h.2

pub chosen_records : (c : Content) (values os : List Tree) (b : ℕ) (ks : List PositionKind) (ts : List Tree) (d f : Content) → ChoosesAll c values os b ks ts d f → f.constraints ≡ d.constraints
chosen_records c values os b [] [] d f h = recorded_same d f h
chosen_records c values os b [] (t ∷ ts) d f h = absurd h
chosen_records c values os b (k ∷ ks) [] d f h = absurd h
chosen_records c values os b (k ∷ ks) (t ∷ ts) d f h = chosen_records c values os (suc b) ks ts h.0 f h.2 ∙ choice_records c values os b k t d h.0 h.1
