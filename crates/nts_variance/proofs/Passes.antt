-- Labels of pairs and steps: of lists one behind the other, and of nodes over parts.
use Rattle.std.proofs.Common.{◌≡◌, ℕ, Bool, false, true, List, [], ◌∷◌, ◌++◌, Option, Some, None, refl, sym, subst, arith}
use Rattle.nts_model.specs.declared.labels.VariableKind.{VariableKind}
use Rattle.nts_model.specs.declared.labels.VariableKind.TheVariants as kind
use Rattle.nts_model.specs.declared.labels.Variance.{Variance}
use Rattle.nts_model.specs.declared.labels.Variance.TheVariants as variance
use Rattle.nts_model.specs.declared.labels.AliasHead.TheVariants as alias_of
use Rattle.nts_model.specs.declared.labels.Label.{Label}
use Rattle.nts_model.specs.Terms.Trees.{Tree, empty, more, node, IsRow, row_length, variable_of}
use Rattle.nts_model.specs.Tables.Contents.{Content}
use Rattle.nts_model.specs.Tables.Resolving.{resolved, rooted, rooted_variable}
use Rattle.nts_model.specs.Tables.Passing.{PassesVariables, TreePasses, TablePasses}
use Rattle.nts_model.proofs.Tables.Kept.{variable_label}
use Rattle.nts_model.proofs.Tables.Passing.{passes-deeply_resolved}
use Rattle.nts_model.specs.Derivations.Related.{rest_variances}
use Rattle.nts_variance_model.specs.Variances.Forms.{Form, a_constructor, a_function, a_value, an_alias, over, pairs_over}
use Rattle.nts_variance_model.specs.Variances.Relations.{Relating}
use Rattle.nts_variance_model.proofs.Variances.Generalizing.{owed}
use Rattle.nts_variance.specs.Steps.{WalkStep, entering}
use Rattle.nts_variance.specs.Walking.{sides}
use Rattle.nts_variance.specs.Passing.{PassesRows, PairsPass, TreesPass, StepsPass}
use Rattle.nts_variance.proofs.Runs.{pushed}

module _ (P : Label → Bool) where
  pub pass_joined : (xs ys : List Relating) → PairsPass P xs → PairsPass P ys → PairsPass P (xs ++ ys)
  pass_joined [] ys a b = b
  pass_joined (x ∷ xs) ys a b = (a.0, a.1, pass_joined xs ys a.2 b)

  pub pass_parted : (xs ys : List Relating) → PairsPass P (xs ++ ys) → PairsPass P xs × PairsPass P ys
  pass_parted [] ys h = (tt, h)
  pass_parted (x ∷ xs) ys h = (let r = pass_parted xs ys h.2 in ((h.0, h.1, r.0), r.1))

  -- a node over parts
  pub over_passes : (F : Form) (ts : Tree) → TreePasses P (over F empty) → TreePasses P ts → TreePasses P (over F ts)
  over_passes (a_constructor i) ts h k = (h.0, ((let r = h.1 in let a = r.0 in (a.0, k)), tt))
  over_passes (a_function ss) ts h k = (h.0, (let r = h.1 in let q = r.1 in let a = q.0 in (r.0, ((a.0, k), tt))))
  over_passes (a_value b) ts h k = (h.0, k)
  over_passes (an_alias (alias_of.Ty i)) ts h k = (h.0, ((let r = h.1 in let a = r.0 in (a.0, k)), tt))
  over_passes (an_alias (alias_of.Const i)) ts h k = (h.0, ((let r = h.1 in let a = r.0 in (a.0, k)), tt))

  pub over_parted : (F : Form) (ts : Tree) → TreePasses P (over F ts) → TreePasses P (over F empty) × TreePasses P ts
  over_parted (a_constructor i) ts h = (let r = h.1 in let a = r.0 in ((h.0, ((a.0, tt), tt)), a.1))
  over_parted (a_function ss) ts h = (let r = h.1 in let q = r.1 in let a = q.0 in ((h.0, (r.0, ((a.0, tt), tt))), a.1))
  over_parted (a_value b) ts h = ((h.0, tt), h.1)
  over_parted (an_alias (alias_of.Ty i)) ts h = (let r = h.1 in let a = r.0 in ((h.0, ((a.0, tt), tt)), a.1))
  over_parted (an_alias (alias_of.Const i)) ts h = (let r = h.1 in let a = r.0 in ((h.0, ((a.0, tt), tt)), a.1))

  -- the parts of a row, to be entered, related, or taken from what was made
  pub entering_passes : (v : Variance) (ws : List Variance) (q : Bool) (ts : Tree) (xs : List WalkStep) → TreePasses P ts → StepsPass P xs → StepsPass P (entering v ws q ts xs)
  entering_passes v ws q empty xs h k = k
  entering_passes v ws q (more t ts) xs h k = (h.0, entering_passes v (rest_variances ws) q ts xs h.1 k)
  entering_passes v ws q (node l c) xs h k = k

  pub pairs_pass : (v : Variance) (ws : List Variance) (ts us : Tree) → TreePasses P ts → TreePasses P us → PairsPass P (pairs_over v ws ts us)
  pairs_pass v ws (more a ts) (more b us) h k = (h.0, k.0, pairs_pass v (rest_variances ws) ts us h.1 k.1)
  pairs_pass v ws (more a ts) empty h k = tt
  pairs_pass v ws (more a ts) (node l c) h k = tt
  pairs_pass v ws empty us h k = tt
  pairs_pass v ws (node l c) us h k = tt

  pub popped_passes : (rs : Tree) (ss : List Tree) → IsRow rs → TreesPass P (pushed rs ss) → TreePasses P rs × TreesPass P ss
  popped_passes empty ss row h = (tt, h)
  popped_passes (more r rs) ss row h = (let x = popped_passes rs (r ∷ ss) row h in let y = x.1 in ((y.0, x.0), y.1))
  popped_passes (node l c) ss row h = absurd row

  -- two rows of one length, of which the pairs pass
  pub rows_pass : (v : Variance) (ws : List Variance) (x y : Tree) → IsRow x → IsRow y → row_length x ≡ row_length y → PairsPass P (pairs_over v ws x y) → TreePasses P x × TreePasses P y
  rows_pass v ws empty empty r k l h = (tt, tt)
  rows_pass v ws empty (more b y) r k l h = absurd (omega (arith, l))
  rows_pass v ws (more a x) empty r k l h = absurd (omega (arith, l))
  rows_pass v ws (more a x) (more b y) r k l h = (let z = rows_pass v (rest_variances ws) x y r k (omega (arith, l)) h.2 in ((h.0, z.0), (h.1, z.1)))
  rows_pass v ws (node m x) y r k l h = absurd r
  rows_pass v ws empty (node m y) r k l h = absurd k
  rows_pass v ws (more a x) (node m y) r k l h = absurd k

  -- the goal, and the constraint, of what was made and a part
  pub sides_pass : (z : Bool) (v : Variance) (r t : Tree) → TreePasses P r → TreePasses P t → PairsPass P (sides z v r t ∷ [])
  sides_pass false v r t h k = (h, k, tt)
  sides_pass true v r t h k = (k, h, tt)

  pub owed_passes : (v : Variance) (a b : Tree) → TreePasses P a → TreePasses P b → TreePasses P (owed v a b).left × TreePasses P (owed v a b).right
  owed_passes variance.Invariant a b h k = (h, k)
  owed_passes variance.Covariant a b h k = (h, k)
  owed_passes variance.Contravariant a b h k = (k, h)

  -- a tree with the values of a table in place of its variables
  unrooted_label : (variables : PassesVariables P) (c : Content) (o : Option (VariableKind × ℕ)) (l : Label) → variable_of l ≡ o → P (rooted_variable c o l) ≡ true → P l ≡ true
  unrooted_label variables c None l e h = h
  unrooted_label variables c (Some (kind.Ty, n)) l e h = h
  unrooted_label variables c (Some (kind.Int, n)) l e h = h
  unrooted_label variables c (Some (kind.Float, n)) l e h = h
  unrooted_label variables c (Some (kind.Const, n)) l e h = h
  unrooted_label variables c (Some (kind.Region, n)) l e h = subst (λ z. P z ≡ true) (sym (variable_label l kind.Region n e)) (variables kind.Region n)

  unrooted_passes : (variables : PassesVariables P) (c : Content) (t : Tree) → TreePasses P (rooted c t) → TreePasses P t
  unrooted_passes variables c empty h = tt
  unrooted_passes variables c (more a b) h = (unrooted_passes variables c a h.0, unrooted_passes variables c b h.1)
  unrooted_passes variables c (node l t) h = (unrooted_label variables c (variable_of l) l refl h.0, unrooted_passes variables c t h.1)

  pub resolved_passes : PassesRows P → (c : Content) (t : Tree) → TablePasses P c → TreePasses P t → TreePasses P (resolved c t)
  resolved_passes q c t h k = unrooted_passes (q.variables) c (resolved c t) (passes-deeply_resolved (λ l. P l ≡ true) (q.variables) c t h k)
