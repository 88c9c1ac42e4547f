-- The leaves of rows, one row after another.
use Rattle.std.proofs.Common.{◌≡◌, List, [], ◌∷◌, refl, sym, ap, ◌∙◌}
use Rattle.nts_model.specs.declared.labels.Leaf.{Leaf}
use Rattle.nts_model.specs.Terms.Trees.{Tree, empty}
use Rattle.nts_model.specs.Tables.Contents.{Recorded}
use Rattle.nts_model.specs.Derivations.Sequents.{Hidden}
use Rattle.nts_model.specs.Canonical.Numbered.{seen}
use Rattle.nts_model.specs.Answers.Responses.{Findings, is_fixed, own_leaves, value_row, constraint_row, hidden_row, goal_row}

after_values : (s : List Leaf) (ts : List Tree) (r : Tree) → seen is_fixed s (value_row ts r) ≡ seen is_fixed (seen is_fixed s (value_row ts empty)) r
after_values s [] r = refl
after_values s (t ∷ ts) r = after_values (seen is_fixed s t) ts r

after_constraints : (s : List Leaf) (xs : List Recorded) (r : Tree) → seen is_fixed s (constraint_row xs r) ≡ seen is_fixed (seen is_fixed s (constraint_row xs empty)) r
after_constraints s [] r = refl
after_constraints s (x ∷ xs) r = after_constraints (seen is_fixed (seen is_fixed s x.left) x.right) xs r

after_hidden : (s : List Leaf) (hs : List Hidden) (r : Tree) → seen is_fixed s (hidden_row hs r) ≡ seen is_fixed (seen is_fixed s (hidden_row hs empty)) r
after_hidden s [] r = refl
after_hidden s (h ∷ hs) r = after_hidden (seen is_fixed (seen is_fixed s h.key) h.hidden_type) hs r

-- the leaves of values, constraints, hidden types and goals are those of what was found out
pub all_seen : (x : Findings) (a b c d : List Leaf) → a ≡ seen is_fixed [] (value_row x.values empty) → b ≡ seen is_fixed a (constraint_row x.constraints empty) → c ≡ seen is_fixed b (hidden_row x.hidden empty)
    → d ≡ seen is_fixed c (goal_row x.open_goals empty) → d ≡ own_leaves x
all_seen x a b c d p q r e =
    let goals = goal_row x.open_goals empty in
    let hidden = hidden_row x.hidden goals in
    let first : own_leaves x ≡ seen is_fixed a (constraint_row x.constraints hidden) = after_values [] x.values (constraint_row x.constraints hidden) ∙ ap (λ s. seen is_fixed s (constraint_row x.constraints hidden)) (sym p) in
    let second : seen is_fixed a (constraint_row x.constraints hidden) ≡ seen is_fixed b hidden = after_constraints a x.constraints hidden ∙ ap (λ s. seen is_fixed s hidden) (sym q) in
    let third : seen is_fixed b hidden ≡ seen is_fixed c goals = after_hidden b x.hidden goals ∙ ap (λ s. seen is_fixed s goals) (sym r) in
    e ∙ sym (first ∙ second ∙ third)
