-- What a predicate states where its binder binds nothing.
use Rattle.std.proofs.Common.{◌≡◌, Some, refl, sym, ap, ◌∙◌, subst, arith}
use Rattle.nts_model.specs.declared.labels.ListHead.TheVariants as list
use Rattle.nts_model.specs.declared.labels.Label.TheVariants as label
use Rattle.nts_model.specs.Terms.Trees.{Tree, empty, more, node, children, row_length, IsRow, kind_of, sort_list, IsClosed}
use Rattle.nts_model.specs.Derivations.Related.{no_sorts, unbound}
use Rattle.nts_model.specs.Derivations.Sequents.{HasClosedStatement}
use Rattle.nts_terms.proofs.Standing.{vars_tree}

-- a predicate by its sorts and what it states
abbrev pub says : Tree → Tree → Tree
says v b = node (label.List list.Binder) (more v (more b empty))

body_says : (v b s : Tree) → says v b ≡ unbound s → b ≡ s
body_says v b s e = cc e

-- a closed statement
pub body_closed : (t v b : Tree) → t ≡ says v b → IsClosed b → HasClosedStatement t
body_closed t v b e h s q = subst IsClosed (body_says v b s (sym e ∙ q)) h

row_of_none : (r : Tree) → IsRow r → row_length r ≡ 0 → r ≡ empty
row_of_none empty h e = refl
row_of_none (more a b) h e = absurd (omega (arith, e))
row_of_none (node l c) h e = absurd h

pub closed_body : (t v b : Tree) → t ≡ says v b → kind_of v ≡ Some sort_list → IsRow (children v) → row_length (children v) ≡ 0 → HasClosedStatement t → IsClosed b
closed_body t v b e k r n h =
    let none : v ≡ no_sorts = vars_tree v k ∙ ap (node (label.List list.Sorts)) (row_of_none (children v) r n) in
    h b (e ∙ ap (λ x. says x b) none)
