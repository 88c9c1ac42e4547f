-- A state made from values and a payload, step by step.
use Rattle.std.proofs.Common.{◌≡◌, ℕ, List, [], ◌∷◌, map, refl, ap, ◌∙◌}
use Rattle.nts_model.specs.declared.labels.Leaf.{Leaf}
use Rattle.nts_model.specs.Terms.Trees.{Tree, empty, more}
use Rattle.nts_model.specs.Tables.Contents.{Content}
use Rattle.nts_model.specs.Tables.Resolving.{deeply_resolved}
use Rattle.nts_model.specs.Canonical.Numbered.{seen}
use Rattle.nts_model.specs.Answers.Responses.{is_fixed, positioned, answer_kinds, greatest}
use Rattle.nts_model.proofs.Tables.Resolved.{deeply_resolved-empty}
use Rattle.nts_response.specs.nts_folding.specs.Folding.{tree_of_list}
use Rattle.nts_response.specs.States.{StateForm, state_leaves, resolved_state_of}
use Rattle.nts_response.specs.StateTrees.{state_row}
use Rattle.nts_model.proofs.Tables.TableInstances.{deeply_resolved-more}

-- an image of a row goes inside
pub record GoesIn (f : Tree → Tree) : Type 0 where
  pub of_empty : f empty ≡ empty
  pub of_more : (a b : Tree) → f (more a b) ≡ more (f a) (f b)

list_image : (f : Tree → Tree) → GoesIn f → (xs : List Tree) → f (tree_of_list xs) ≡ tree_of_list (map f xs)
list_image f g [] = g.of_empty
list_image f g (x ∷ xs) = g.of_more x (tree_of_list xs) ∙ ap (more (f x)) (list_image f g xs)

pub row_image : (f : Tree → Tree) → GoesIn f → (vs : List Tree) (p : Tree) → f (state_row vs p) ≡ state_row (map f vs) (f p)
row_image f g vs p =
    let inner : f (more p empty) ≡ more (f p) empty = g.of_more p empty ∙ ap (more (f p)) g.of_empty in
    g.of_more (tree_of_list vs) (more p empty) ∙ cc (list_image f g vs, inner)

same_list : (xs ys : List Tree) → tree_of_list ys ≡ tree_of_list xs → ys ≡ xs
same_list [] [] e = refl
same_list [] (y ∷ ys) e = let q : more y (tree_of_list ys) ≡ empty = e in cc
same_list (x ∷ xs) [] e = let q : empty ≡ more x (tree_of_list xs) = e in cc
same_list (x ∷ xs) (y ∷ ys) e =
    let q : more y (tree_of_list ys) ≡ more x (tree_of_list xs) = e in
    let one : y ≡ x = cc in
    let rest : tree_of_list ys ≡ tree_of_list xs = cc in
    cc (one, same_list xs ys rest)

-- rows that are one have the same values and payload
pub same_row : (us vs : List Tree) (p q : Tree) → state_row us p ≡ state_row vs q → (us ≡ vs) × (p ≡ q)
same_row us vs p q e =
    let parts : more (tree_of_list us) (more p empty) ≡ more (tree_of_list vs) (more q empty) = e in
    let values : tree_of_list us ≡ tree_of_list vs = cc in
    let payload : p ≡ q = cc in
    (same_list vs us values, payload)

pub resolving_goes_in : (c : Content) → GoesIn (deeply_resolved c)
resolving_goes_in c = record { of_empty = deeply_resolved-empty c; of_more = deeply_resolved-more c }

pub positioned_goes_in : (s : List Leaf) → GoesIn (positioned s)
positioned_goes_in s = record { of_empty = refl; of_more = λ a b. refl }

equal_states : (x y : StateForm) → x.values ≡ y.values → x.payload ≡ y.payload → x.kinds ≡ y.kinds → x.max_universe ≡ y.max_universe → x ≡ y
equal_states x y p q r s = λ j. record { values = p j; payload = q j; kinds = r j; max_universe = s j }

-- values and a payload were resolved, their leaves were read, and then they were given positions
pub made_state : (c : Content) (root : ℕ → ℕ) (m : ℕ) (vs : List Tree) (p row : Tree) (s : List Leaf) (x : StateForm) → row ≡ deeply_resolved c (state_row vs p) → s ≡ seen is_fixed [] row
    → state_row x.values x.payload ≡ positioned s row → x.kinds ≡ answer_kinds c root m s → x.max_universe ≡ greatest x.kinds → x ≡ resolved_state_of c root m vs p
made_state c root m vs p row s x is read placed kinds most =
    let us = map (deeply_resolved c) vs in
    let q = deeply_resolved c p in
    let whole : row ≡ state_row us q = is ∙ row_image (deeply_resolved c) (resolving_goes_in c) vs p in
    let leaves : s ≡ state_leaves us q = read ∙ ap (seen is_fixed []) whole in
    let images : positioned s row ≡ state_row (map (positioned (state_leaves us q)) us) (positioned (state_leaves us q) q) =
    ap (positioned s) whole ∙ ap (λ z. positioned z (state_row us q)) leaves ∙ row_image (positioned (state_leaves us q)) (positioned_goes_in (state_leaves us q)) us q in
    let parts = same_row x.values (map (positioned (state_leaves us q)) us) x.payload (positioned (state_leaves us q) q) (placed ∙ images) in
    let named : x.kinds ≡ answer_kinds c root m (state_leaves us q) = kinds ∙ ap (answer_kinds c root m) leaves in
    equal_states x (resolved_state_of c root m vs p) parts.0 parts.1 named (most ∙ ap greatest named)
