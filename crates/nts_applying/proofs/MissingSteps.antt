-- New originals for values that have none, one by one.
use Rattle.std.proofs.Common.{◌≡◌, ℕ, suc, ◌+◌, ◌<◌, List, [], ◌∷◌, ◌++◌, map, length, take, get_or, Option, Some, refl, sym, ap, subst, ◌∙◌, arith}
use Rattle.std.specs.Prelude.{All}
use Rattle.std.proofs.lemmas.List.{take_more}
use Rattle.std.proofs.lemmas.List.Elements.{All-push}
use Rattle.nts_model.specs.declared.labels.Sort.{Sort}
use Rattle.nts_model.specs.declared.labels.Sort.TheVariants as sort
use Rattle.nts_model.specs.declared.labels.VariableKind.TheVariants as kind
use Rattle.nts_model.specs.Terms.Trees.{Tree, NodeKind, kind_of, of_sort, IsClosed, variable_tree}
use Rattle.nts_model.specs.Tables.Contents.{Content}
use Rattle.nts_model.specs.Derivations.Handlers.{kind_of_sort}
use Rattle.nts_model.specs.Answers.Applying.{IsNew}
use Rattle.nts_theory.proofs.Responses.Applying.{new_knows}
use Rattle.nts_store.specs.Growth.{tree_at}
use Rattle.nts_terms.specs.declared.cx.Cx.{Cx}
use Rattle.nts_terms.specs.declared.handles.GenericArg.{GenericArg}
use Rattle.nts_terms.specs.Handles.{HoldsArg}
use Rattle.nts_terms.specs.Rest.{Grows}
use Rattle.nts_unify.specs.Entries.{added}
use Rattle.nts_unify.specs.Reading.{content_of}
use Rattle.nts_table.specs.Frames.{ChangesEntries}
use Rattle.nts_table.specs.Fresh.{variable_kind, IsFreshLike}
use Rattle.nts_table.specs.Making.{new_variable}
use Rattle.nts_table.specs.Tables.{Table, IsTable}
use Rattle.nts_canonical.specs.Forms.{trees_of}
use Rattle.nts_canonical.specs.Building.{IsArgOf}
use Rattle.nts_canonical.proofs.VarLists.{map-push}
use Rattle.nts_response.specs.Applied.{StepKeeps}
use Rattle.nts_response.specs.Instantiated.{IsNewLike, MakesLike, AddsMissing}
use Rattle.nts_response.specs.Replacing.{argument_value}
use Rattle.nts_response.proofs.Each.{same_views, values_kept}
use Rattle.nts_applying.proofs.MadeValues.{is_new, added_keeps}
use Rattle.nts_applying.proofs.Stepping.{arg_later}

-- a new variable of the sort of a value
pub fresh_new : (a b : Cx) (t w : Table) (v x : Tree) → IsTable a.nodes t → IsTable b.nodes w → Grows a b → IsFreshLike (kind_of v) x t.entries w.entries → IsNewLike (content_of a.nodes t.entries) (content_of b.nodes w.entries) v x
fresh_new a b t w v x h i g f = record { sort = f.sort; is = f.is; new = go f.sort f.tree f.entries }
  where
    go : (s : Sort) → x ≡ variable_tree (variable_kind s) (length t.entries.variables) → w.entries ≡ added t.entries (new_variable t.entries (variable_kind s)) → IsNew (content_of a.nodes t.entries) (content_of b.nodes w.entries) (kind_of_sort s) t.entries.universe x
    go sort.Ty q e = is_new a.nodes b.nodes t w kind.Ty t.entries.universe x h i g.extends (record { variable = new_variable t.entries kind.Ty; entries = e; of_kind = refl; universe = refl; free = refl }) q
    go sort.Region q e = is_new a.nodes b.nodes t w kind.Region t.entries.universe x h i g.extends (record { variable = new_variable t.entries kind.Region; entries = e; of_kind = refl; universe = refl; free = refl }) q
    go sort.Const q e = is_new a.nodes b.nodes t w kind.Const t.entries.universe x h i g.extends (record { variable = new_variable t.entries kind.Const; entries = e; of_kind = refl; universe = refl; free = refl }) q

pub fresh_keeps : (a b : Cx) (t w : Table) (k : Option NodeKind) (x : Tree) → IsTable a.nodes t → IsTable b.nodes w → Grows a b → ChangesEntries t w → IsFreshLike k x t.entries w.entries → StepKeeps a b t w
fresh_keeps a b t w k x h i g c f = added_keeps a b t w h i g c (new_variable t.entries (variable_kind f.sort)) f.entries

-- one more
like_push : (vs ts : List Tree) (v t : Tree) (c d e : Content) → MakesLike vs ts c d → IsNewLike d e v t → MakesLike (vs ++ v ∷ []) (ts ++ t ∷ []) c e
like_push [] [] v t c d e h n = (e, subst (λ z. IsNewLike z e v t) h n, refl)
like_push [] (y ∷ ts) v t c d e h n = absurd h
like_push (x ∷ vs) [] v t c d e h n = absurd h
like_push (x ∷ vs) (y ∷ ts) v t c d e (m, one, rest) n = (m, one, like_push vs ts v t m d e rest n)

pub all_behind : {A : Type 0} (P : A → Type 0) (xs ys : List A) → All P (xs ++ ys) → All P ys
all_behind P [] ys h = h
all_behind P (x ∷ xs) ys h = all_behind P xs ys (λ k d l. h (suc k) d (omega (arith, l)))

append_one : {A : Type 0} (xs ys : List A) (z : A) → (xs ++ ys) ++ z ∷ [] ≡ xs ++ (ys ++ z ∷ [])
append_one [] ys z = refl
append_one (x ∷ xs) ys z = ap (◌∷◌ x) (append_one xs ys z)

variable_closed : (s : Sort) (n : ℕ) → IsClosed (variable_tree (kind_of_sort s) n)
variable_closed sort.Ty n = (tt, tt)
variable_closed sort.Region n = (tt, tt)
variable_closed sort.Const n = (tt, tt)

new_closed : (c e : Content) (s : Sort) (u : ℕ) (t : Tree) → IsNew c e (kind_of_sort s) u t → IsClosed t
new_closed c e s u t n = subst IsClosed (sym n.tree) (variable_closed s (length c.slots))

pub missing_more : (a b d : Cx) (t u w : Table) (os vs new newer : List GenericArg) (i : ℕ) (f x : GenericArg) → i < length vs → All (HoldsArg a.nodes) vs → StepKeeps a b t u → StepKeeps b d u w → AddsMissing a b t u os (take i vs) new
    → IsNewLike (content_of b.nodes u.entries) (content_of d.nodes w.entries) (tree_at b.nodes (get_or vs i f).node) (tree_at d.nodes x.node) → HoldsArg d.nodes x → newer ≡ new ++ x ∷ [] → AddsMissing a d t w os (take (i + 1) vs) newer
missing_more a b d t u w os vs new newer i f x l held s r m n h e =
    let g = r.grows in
    let first = s.grows in
    let up = g.extends in
    let value = held i f l in
    let o = first.extends in
    let behind = all_behind (IsArgOf b.nodes u.entries) os m.fresh (subst (All (IsArgOf b.nodes u.entries)) m.is m.args) in
    let same : trees_of d.nodes m.fresh ≡ trees_of b.nodes m.fresh = same_views HoldsArg argument_value values_kept b.nodes d.nodes m.fresh (λ k y q. (let z = behind k y q in z.holds)) up in
    let trees : trees_of d.nodes (m.fresh ++ x ∷ []) ≡ trees_of b.nodes m.fresh ++ tree_at d.nodes x.node ∷ [] = map-push (argument_value d.nodes) m.fresh x ∙ ap (λ z. z ++ tree_at d.nodes x.node ∷ []) same in
    let values : trees_of a.nodes (take (i + 1) vs) ≡ trees_of a.nodes (take i vs) ++ tree_at a.nodes (get_or vs i f).node ∷ [] = ap (trees_of a.nodes) (take_more vs i f l) ∙ map-push (argument_value a.nodes) (take i vs) (get_or vs i f) in
    let like = subst (λ z. IsNewLike (content_of b.nodes u.entries) (content_of d.nodes w.entries) z (tree_at d.nodes x.node)) (o.kept (get_or vs i f).node value.within) n in
    let new_variable = n.new in
    record {
      fresh = m.fresh ++ x ∷ [];
      is = e ∙ ap (λ z. z ++ x ∷ []) m.is ∙ append_one os m.fresh x;
      makes = subst (λ z. MakesLike z (trees_of d.nodes (m.fresh ++ x ∷ [])) (content_of a.nodes t.entries) (content_of d.nodes w.entries)) (sym values)
          (subst (λ z. MakesLike (trees_of a.nodes (take i vs) ++ tree_at a.nodes (get_or vs i f).node ∷ []) z (content_of a.nodes t.entries) (content_of d.nodes w.entries)) (sym trees)
          (like_push (trees_of a.nodes (take i vs)) (trees_of b.nodes m.fresh) (tree_at a.nodes (get_or vs i f).node) (tree_at d.nodes x.node) (content_of a.nodes t.entries) (content_of b.nodes u.entries) (content_of d.nodes w.entries) m.makes like));
      args = subst (All (IsArgOf d.nodes w.entries)) (sym e)
          (All-push (IsArgOf d.nodes w.entries) new x (λ k y q. arg_later r (m.args k y q)) (record { holds = h; known = new_knows (content_of b.nodes u.entries) (content_of d.nodes w.entries) _ (kind_of_sort n.sort) (tree_at d.nodes x.node) new_variable }));
      closed = subst (All (λ y. IsClosed (tree_at d.nodes y.node))) (sym e)
          (All-push (λ y. IsClosed (tree_at d.nodes y.node)) new x (λ k y q. (let z = m.args k y q in let z_holds = z.holds in subst IsClosed (sym (up.kept (get_or new k y).node z_holds.within)) (m.closed k y q))) (new_closed (content_of b.nodes u.entries) (content_of d.nodes w.entries) n.sort _ (tree_at d.nodes x.node) new_variable));
    }

-- the new ones are of the sorts of the values
kind_like : (s : Sort) (n : ℕ) → kind_of (variable_tree (kind_of_sort s) n) ≡ Some (of_sort s)
kind_like sort.Ty n = refl
kind_like sort.Region n = refl
kind_like sort.Const n = refl

new_kind : (c e : Content) (s : Sort) (u : ℕ) (t : Tree) → IsNew c e (kind_of_sort s) u t → kind_of t ≡ Some (of_sort s)
new_kind c e s u t n = ap kind_of n.tree ∙ kind_like s (length c.slots)

pub kinds_like : (vs ts : List Tree) (c d : Content) → MakesLike vs ts c d → map kind_of ts ≡ map kind_of vs
kinds_like [] [] c d h = refl
kinds_like [] (t ∷ ts) c d h = absurd h
kinds_like (v ∷ vs) [] c d h = absurd h
kinds_like (v ∷ vs) (t ∷ ts) c d (e, one, rest) =
    let same : kind_of t ≡ kind_of v = new_kind c e one.sort c.universe t one.new ∙ sym one.is in
    cc (same, kinds_like vs ts e d rest)
